use Rattle.std.proofs.Common.{◌∙◌, ◌∷◌, ◌<◌, [], ℕ, arith, length, refl, set, subst, sym}
use Rattle.std.proofs.lemmas.List.{length-set}
use Rattle.std.proofs.lemmas.Result.{err_from_is_err_and}
use Rattle.std.specs.List.{sum_by}
use Rattle.run_outcome.proofs.Refusals.{of_refusal_map}
use Rattle.run_outcome.proofs.SetSums.{set_counted}
use Rattle.run_outcome.specs.Fault.{Blames, counts}
use Rattle.recording_engines.specs.Files.{IsClosed, failures_by}
use Rattle.recording_engines.specs.declared.file.ImportFile.{ImportFile}
use Rattle.recording_engines.proofs.Openings.{begin_more, closed_there, first_stop, next_same}
use Rattle.recording_engines.proofs.Openings.{opened_all, opened_more}
use Rattle.recording_engines.proofs.opening.open_all.Goals as goal

pub loop-place-init : goal.loop-place-init
loop-place-init g c = record { len = refl; opened = refl; begin = tt; failures = refl }

pub begin_file-requires-clause-closed : goal.begin_file-requires-clause-closed
begin_file-requires-clause-closed g c =
    let l = c.loop-place in
    let d = c.index-files-place.result in
    let lt : l.place < length c.args.files.now =
    omega (arith, c.loop-place-test.true, l.invariant.len) in
    subst (λ (f : ImportFile _ _). IsClosed f)
    (sym (next_same g.S.ByteSource.gave l.place c.args.each.now c.args.files.now l.files d
    l.invariant.opened))
    (closed_there c.args.files.now l.place d c.requires.closed lt)

pub loop-place-preserved : goal.loop-place-preserved
loop-place-preserved g c =
    let l = c.loop-place in
    let told = g.S.ByteSource in
    let d = c.index-files-place.result in
    let y = c.begin_file.new.file in
    let lt : l.place < length c.args.files.now =
    omega (arith, c.loop-place-test.true, l.invariant.len) in
    let counts = set_counted (failures_by told.failures) l.files l.place d y c.begin_file.result
    (omega (arith, lt, l.invariant.len)) c.begin_file.ensures.failures in
    record {
      len = length-set l.files l.place y ∙ l.invariant.len;
      opened = opened_more told.gave l.place c.args.each.now c.args.files.now l.files _ d y
          l.invariant.opened lt c.requires.count c.in_ok-begin_file.ensures.opened;
      begin = begin_more told.gave told.ended l.place c.args.each.now c.args.files.now l.files _ d y
          l.invariant.opened lt l.invariant.len c.requires.count l.invariant.begin
          c.in_ok-begin_file.ensures.begins;
      failures = (rw c.in_ok-begin_file.was at counts) ∙ l.invariant.failures;
    }

pub returns-in_err-begin_file-clause-refusal : goal.returns-in_err-begin_file-clause-refusal
returns-in_err-begin_file-clause-refusal g c =
    let l = c.loop-place in
    let told = g.S.ByteSource in
    let lt : l.place < length c.args.files.now =
    omega (arith, c.loop-place-test.true, l.invariant.len) in
    let p = err_from_is_err_and c.from_residual-in_err-begin_file.result
    c.from_residual-in_err-begin_file.ensures.1 in
    rw (p.1, p.2)
    (of_refusal_map c.in_err-begin_file.field-0.0
    (λ r is. first_stop told.gave told.ended l.place c.args.each.now c.args.files.now l.files _
    c.index-files-place.result c.begin_file.new.file r l.invariant.opened lt l.invariant.len
    c.requires.count l.invariant.begin is) c.in_err-begin_file.ensures.refusal)

pub returns-in_err-begin_file-clause-failures : goal.returns-in_err-begin_file-clause-failures
returns-in_err-begin_file-clause-failures g c =
    let l = c.loop-place in
    let told = g.S.ByteSource in
    let y = c.begin_file.new.file in
    let p = err_from_is_err_and c.from_residual-in_err-begin_file.result
    c.from_residual-in_err-begin_file.ensures.1 in
    let counted = set_counted (failures_by told.failures) l.files l.place c.index-files-place.result y
    c.begin_file.result (omega (arith, c.loop-place-test.true, l.invariant.len))
    c.begin_file.ensures.failures in
    rw (p.1, p.2)
    (subst (λ (n : ℕ). Blames (counts n (sum_by (failures_by told.failures)
    (set l.files l.place y)) ∷ []) c.in_err-begin_file.field-0.0)
    l.invariant.failures (rw c.in_err-begin_file.was at counted))

pub returns-clause-opened : goal.returns-clause-opened
returns-clause-opened g c =
    let l = c.loop-place in
    opened_all g.S.ByteSource.gave l.place c.args.each.now c.args.files.now l.files
    l.invariant.opened
    (omega (arith, l.invariant.len, c.loop-place-test.false, l.auto.place-end)) c.requires.count
