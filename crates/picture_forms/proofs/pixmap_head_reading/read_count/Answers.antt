use Rattle.std.proofs.Common.{◌≡◌, ℕ, suc, ◌+◌, ◌-◌, arith, refl, sym, ◌∙◌}
use Rattle.std.proofs.lemmas.Result.{err_from_is_err_and}
use Rattle.picture_forms.specs.Numbers.{part_at}
use Rattle.picture_forms.proofs.Numbered.{count_cut, count_done, count_over, count_wrong}
use Rattle.picture_forms.proofs.Numbered.{number_first, number_more}
use Rattle.picture_forms.proofs.pixmap_head_reading.read_count.Goals as goal

pub loop-i-init : goal.loop-i-init
loop-i-init g c = record {
  part =
      number_first (g.S.ByteSource.to_give c.args.source.now)
      (g.S.ByteSource.gave c.args.source.now) 1024 (part_at c.args.stage 0);
  failures = refl;
  names = refl;
}

pub loop-i-preserved : goal.loop-i-preserved
loop-i-preserved g c =
    let i : ℕ = c.loop-i.i in
    let left : 1024 - i ≡ suc (1024 - (i + 1)) = omega arith in
    record {
      part =
          number_more _ _ _ _ _ _ 1024 (1024 - i) (1024 - (i + 1)) c.in_ok-octet.octet
          (part_at c.args.stage 0) c.loop-i.part c.in-More.next left c.loop-i.invariant.part
          c.in_ok-octet.ensures.given (sym c.step_of.ensures ∙ c.in-More.is);
      failures = c.in_ok-octet.ensures.counted ∙ c.loop-i.invariant.failures;
      names = c.in_ok-octet.ensures.names ∙ c.loop-i.invariant.names;
    }

pub returns-in_err-octet-clause-fault : goal.returns-in_err-octet-clause-fault
returns-in_err-octet-clause-fault g c =
    let p = err_from_is_err_and c.from_residual.result c.from_residual.ensures.1 in
    let i : ℕ = c.loop-i.i in
    let left : 1024 - i ≡ suc (1024 - (i + 1)) = omega arith in
    rw (p.1, p.2)
    (count_cut _ _ _ _ _ _ _ (1024 - i) (1024 - (i + 1)) c.args.stage c.loop-i.part
    c.in_err-octet.field-0.0 left c.loop-i.invariant.part c.in_err-octet.ensures.fault)

pub returns-in-Done-clause-read : goal.returns-in-Done-clause-read
returns-in-Done-clause-read g c =
    let i : ℕ = c.loop-i.i in
    let left : 1024 - i ≡ suc (1024 - (i + 1)) = omega arith in
    count_done _ _ _ _ _ _ (1024 - i) (1024 - (i + 1)) c.in_ok-octet.octet c.in-Done.value
    c.args.stage c.loop-i.part left c.loop-i.invariant.part
    c.in_ok-octet.ensures.given (sym c.step_of.ensures ∙ c.in-Done.is)

pub returns-in-Wrong-clause-fault : goal.returns-in-Wrong-clause-fault
returns-in-Wrong-clause-fault g c =
    let i : ℕ = c.loop-i.i in
    let left : 1024 - i ≡ suc (1024 - (i + 1)) = omega arith in
    count_wrong _ _ _ _ _ _ _ (1024 - i) (1024 - (i + 1)) c.in_ok-octet.octet
    c.args.stage c.loop-i.part left c.loop-i.invariant.part
    c.in_ok-octet.ensures.given (sym c.step_of.ensures ∙ c.in-Wrong.is)

pub returns-clause-fault : goal.returns-clause-fault
returns-clause-fault g c =
    let none : 1024 - c.loop-i.i ≡ 0 = omega arith in
    count_over _ _ _ _ _ (1024 - c.loop-i.i) c.args.stage c.loop-i.part none
    c.loop-i.invariant.part
