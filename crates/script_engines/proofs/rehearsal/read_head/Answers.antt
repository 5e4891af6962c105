use Rattle.std.proofs.Common.{ℕ, inl, inr, subst, sym, ◌∙◌}
use Rattle.std.proofs.lemmas.Result.{err_from_is_err_and}
use Rattle.run_outcome.specs.declared.fault.Fault.{Fault}
use Rattle.script_engines.specs.FirstLines.{IsFaultyFormat, IsFaultyNext, end_of, lines_left}
use Rattle.script_engines.specs.Rehearsal.{SaysCount, SaysMax, SaysWindow}
use Rattle.script_engines.proofs.RehearsalReading.{head_at_count, head_at_max, head_at_window}
use Rattle.script_engines.proofs.rehearsal.read_head.Goals as goal

pub returns-in_err-read_format-clause-fault : goal.returns-in_err-read_format-clause-fault
returns-in_err-read_format-clause-fault g c =
    let p = err_from_is_err_and c.from_residual.result c.from_residual.ensures.1 in
    rw (p.1) (inr (inl
    (subst (λ (f : Fault). IsFaultyFormat (lines_left c.args.lines.now) (end_of c.args.lines.now) f)
    (sym p.2) c.in_err-read_format.ensures.fault)))

pub returns-in_err-read_max-clause-fault : goal.returns-in_err-read_max-clause-fault
returns-in_err-read_max-clause-fault g c =
    let p = err_from_is_err_and c.from_residual-in_err-read_max.result
    c.from_residual-in_err-read_max.ensures.1 in
    let last : ℕ = end_of c.read_stamp.new.lines in
    let bad : IsFaultyNext SaysMax (lines_left c.read_stamp.new.lines) last p.0 =
    subst (λ (f : Fault). IsFaultyNext SaysMax (lines_left c.read_stamp.new.lines) last f)
    (sym p.2) c.in_err-read_max.ensures.fault in
    rw (p.1) (inr (head_at_max _ _ _ _ _ (end_of c.args.lines.now) last p.0
    c.in_ok-read_format.ensures.format c.in_ok-read_stamp.ensures.says bad
    (c.read_stamp.ensures.end ∙ c.read_format.ensures.end)))

pub returns-in_err-read_receiver_count-clause-fault :
    goal.returns-in_err-read_receiver_count-clause-fault
returns-in_err-read_receiver_count-clause-fault g c =
    let p = err_from_is_err_and c.from_residual-in_err-read_receiver_count.result
    c.from_residual-in_err-read_receiver_count.ensures.1 in
    let last : ℕ = end_of c.read_window.new.lines in
    let bad : IsFaultyNext SaysCount (lines_left c.read_window.new.lines) last p.0 =
    subst (λ (f : Fault). IsFaultyNext SaysCount (lines_left c.read_window.new.lines) last f)
    (sym p.2) c.in_err-read_receiver_count.ensures.fault in
    rw (p.1) (inr (head_at_count _ _ _ _ _ _ _ _ _ (end_of c.args.lines.now) last p.0
    c.in_ok-read_format.ensures.format c.in_ok-read_stamp.ensures.says
    c.in_ok-read_max.ensures.says c.in_ok-read_window.ensures.says bad
    (c.read_window.ensures.end ∙ c.read_max.ensures.end ∙ c.read_stamp.ensures.end
    ∙ c.read_format.ensures.end)))

pub returns-in_err-read_window-clause-fault : goal.returns-in_err-read_window-clause-fault
returns-in_err-read_window-clause-fault g c =
    let p = err_from_is_err_and c.from_residual-in_err-read_window.result
    c.from_residual-in_err-read_window.ensures.1 in
    let last : ℕ = end_of c.read_max.new.lines in
    rw (p.1)
    (elim c.in_err-read_window.ensures.fault [
      | inl memory ↦ inl (p.2 ∙ memory)
      | inr bad ↦ inr (head_at_window _ _ _ _ _ _ _ (end_of c.args.lines.now) last p.0
          c.in_ok-read_format.ensures.format c.in_ok-read_stamp.ensures.says
          c.in_ok-read_max.ensures.says
          (subst (λ (f : Fault). IsFaultyNext SaysWindow (lines_left c.read_max.new.lines) last f)
          (sym p.2) bad)
          (c.read_max.ensures.end ∙ c.read_stamp.ensures.end ∙ c.read_format.ensures.end))
    ])
