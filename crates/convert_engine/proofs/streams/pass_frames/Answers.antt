use Rattle.std.proofs.Common.{◌≡◌, ◌+◌, ◌-◌, ℕ, ◌∙◌, arith, refl, subst}
use Rattle.std.proofs.lemmas.Result.{err_from_is_err_and}
use Rattle.convert_engine.specs.Inputs.{PassesOver}
use Rattle.convert_engine.proofs.Passing.{passes_fault, passes_more, passes_none}
use Rattle.convert_engine.proofs.streams.pass_frames.Goals as goal

pub loop-passed-init : goal.loop-passed-init
loop-passed-init g c = record {
  within = omega arith;
  passes = passes_none c.args.format.now (g.S.ByteSource.gave c.args.source.now);
  failures = refl;
}

pub loop-passed-preserved : goal.loop-passed-preserved
loop-passed-preserved g c =
    let i = c.loop-passed.invariant in
    let r = c.in_ok-read_frame.ensures in
    record {
      within = omega (arith, c.loop-passed-test.true);
      passes = passes_more c.args.format.now c.loop-passed.passed _ _ _ _ i.passes r.gave;
      failures = r.counted ∙ i.failures;
    }

pub returns-in_err-read_frame-clause-gave_wrong : goal.returns-in_err-read_frame-clause-gave_wrong
returns-in_err-read_frame-clause-gave_wrong g c =
    let p = err_from_is_err_and c.from_residual.result c.from_residual.ensures.1 in
    let i = c.loop-passed.invariant in
    let left : c.args.count ≡ c.loop-passed.passed + (c.args.count - c.loop-passed.passed) =
    omega (arith, i.within) in
    rw (p.1, p.2)
    (passes_fault c.args.format.now c.loop-passed.passed c.args.count
    (c.args.count - c.loop-passed.passed) _ _ _ _ c.in_err-read_frame.field-0.0 left i.passes
    c.in_err-read_frame.ensures.gave_wrong)

pub returns-clause-passed : goal.returns-clause-passed
returns-clause-passed g c =
    let i = c.loop-passed.invariant in
    let all : c.loop-passed.passed ≡ c.args.count =
    omega (arith, i.within, c.loop-passed-test.false) in
    subst (λ (n : ℕ). PassesOver c.args.format.now n (g.S.ByteSource.gave c.args.source.now)
    (g.S.ByteSource.gave c.loop-passed.source)) all i.passes
