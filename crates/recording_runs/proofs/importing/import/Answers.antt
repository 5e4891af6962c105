use Rattle.std.proofs.Common.{inl, inr, sym, refl}
use Rattle.std.proofs.lemmas.Result.{err_from_is_err_and}
use Rattle.run_outcome.proofs.Refusals.{of_refusal_map}
use Rattle.devices.specs.Passed.{file_took, output_took}
use Rattle.devices.specs.Written.{took_in}
use Rattle.devices.specs.declared.file_sink.FileSink.{FileSink}
use Rattle.recording_runs.proofs.Left.{left_unless, none_given}
use Rattle.recording_runs.proofs.importing.import.Goals as goal

pub returns-in_err-sums-clause-refusal : goal.returns-in_err-sums-clause-refusal
returns-in_err-sums-clause-refusal c =
    let none = c.find_output.ensures.unplaced c.requires.unplaced in
    let p =
    err_from_is_err_and c.from_residual-in_err-sums.result c.from_residual-in_err-sums.ensures.1 in
    rw (p.1, p.2, sym c.find_output.ensures.took, none)
    (of_refusal_map c.in_err-sums.field-0.0
    (λ r is. inl (inl c.in_ok-find_output.ensures.apart, is)) c.in_err-sums.ensures.refusal)

pub returns-in_err-find_output-clause-refusal : goal.returns-in_err-find_output-clause-refusal
returns-in_err-find_output-clause-refusal c =
    let p = err_from_is_err_and c.from_residual.result c.from_residual.ensures.1 in
    rw (p.1, p.2)
    (of_refusal_map c.in_err-find_output.field-0.0 (λ r is. inr (is.0, is.1, tt))
    c.in_err-find_output.ensures.refusal)

pub returns-in_err-sums-clause-memory : goal.returns-in_err-sums-clause-memory
returns-in_err-sums-clause-memory c =
    let p =
    err_from_is_err_and c.from_residual-in_err-sums.result c.from_residual-in_err-sums.ensures.1 in
    rw (p.1, p.2)
    (λ memory. left_unless _ _ (λ o. output_took o)
    (λ (s : FileSink). took_in c.find_output.new.output.placed s.progress) c.args.output.now
    c.import.new.output c.find_output.new.output.sink c.import.new.capture
    (file_took c.args.out.now) c.find_output.ensures.took (c.in_err-sums.ensures.memory memory))

pub returns-in_err-find_output-clause-memory : goal.returns-in_err-find_output-clause-memory
returns-in_err-find_output-clause-memory c =
    let p = err_from_is_err_and c.from_residual.result c.from_residual.ensures.1 in
    rw (p.1) (λ memory. (refl, none_given _ _, inl c.find_output.ensures.took))
