use Rattle.std.proofs.Common.{◌≡◌, ◌<◌, arith, length, get_or, refl, subst, sym, take, ◌∙◌}
use Rattle.std.proofs.lemmas.List.{take_all}
use Rattle.std.proofs.lemmas.Result.{err_from_is_err_and}
use Rattle.std.specs.List.{zip}
use Rattle.run_outcome.proofs.Refusals.{of_refusal_map}
use Rattle.run_outcome.specs.Moments.{WasRead}
use Rattle.run_outcome.specs.Refusing.{OfRefusal}
use Rattle.receiver_engines.specs.MergeAllRefused.{IsJoinRefusal}
use Rattle.receiver_engines.specs.MergedAll.{JoinsEach, JoinsOne}
use Rattle.receiver_engines.proofs.FileRefusals.{one_so, refused_each, zip_before, zip_length}
use Rattle.receiver_engines.proofs.MergeRefusals.{stops_here}
use Rattle.receiver_engines.proofs.JoinedAll.{ended_more, none_yet, one_more}
use Rattle.receiver_engines.proofs.merging_all.join_each.Goals as goal

pub loop-place-init : goal.loop-place-init
loop-place-init g c = record {
  len = refl;
  failures = refl;
  behind = λ k s le. refl;
  ended = λ k s lt. absurd (omega (arith, lt));
  joined = none_yet (WasRead g.S.ByteSource.gave g.S.ByteSource.ended) c.args.merged.now;
}

pub loop-place-preserved : goal.loop-place-preserved
loop-place-preserved g c =
    let before = c.loop-place.invariant in
    let at = c.in_ok-join_at.ensures in
    let told = WasRead g.S.ByteSource.gave g.S.ByteSource.ended in
    let place = c.loop-place.place in
    let first = c.args.others.now in
    let mid = c.loop-place.others in
    let last = c.join_at.new.others in
    let start = c.args.merged.now in
    let one = c.loop-place.merged in
    let next = c.join_at.new.merged in
    let len : length last ≡ length first = omega (arith, before.len, at.len) in
    let within : place < length first = omega (arith, before.len, c.loop-place-test.true) in
    let long : place < length (zip first last) =
    omega (arith, within, zip_length first last len) in
    let so_far : JoinsEach told (take place (zip first last)) start one =
    subst (λ l. JoinsEach told l start one)
    (sym (zip_before first mid last place before.len len at.before)) before.joined in
    record {
      len = len;
      failures = at.failures ∙ before.failures;
      behind = λ k s past. at.behind k s (omega (arith, past))
          ∙ before.behind k s (omega (arith, past));
      ended = ended_more g.S.ByteSource.ended mid last place at.before before.ended at.ended;
      joined = one_more told (zip first last) place start one next long so_far
          (λ d. one_so (λ s. JoinsOne (told s) one next) first mid last place d len within
          (λ s. before.behind place s (omega arith)) at.joined);
    }

pub returns-in_err-join_at-clause-refusal : goal.returns-in_err-join_at-clause-refusal
returns-in_err-join_at-clause-refusal g c =
    let before = c.loop-place.invariant in
    let at = c.in_err-join_at.ensures in
    let told = WasRead g.S.ByteSource.gave g.S.ByteSource.ended in
    let place = c.loop-place.place in
    let first = c.args.others.now in
    let mid = c.loop-place.others in
    let last = c.join_at.new.others in
    let start = c.args.merged.now in
    let one = c.loop-place.merged in
    let fault = c.in_err-join_at.field-0.0 in
    let len : length last ≡ length first = omega (arith, before.len, at.len) in
    let within : place < length first = omega (arith, before.len, c.loop-place-test.true) in
    let long : place < length (zip first last) =
    omega (arith, within, zip_length first last len) in
    let so_far : JoinsEach told (take place (zip first last)) start one =
    subst (λ l. JoinsEach told l start one)
    (sym (zip_before first mid last place before.len len at.before)) before.joined in
    let p = err_from_is_err_and c.from_residual.result c.from_residual.ensures.1 in
    rw (p.1, p.2)
    (of_refusal_map fault
    (λ r. stops_here told (zip first last) place start one r long so_far)
    (refused_each fault (λ d. IsJoinRefusal one (told (get_or (zip first last) place d)))
    (λ d. one_so (λ s. OfRefusal fault (IsJoinRefusal one (told s))) first mid last place d len
    within (λ s. before.behind place s (omega arith)) at.refusal)))

pub returns-clause-joined : goal.returns-clause-joined
returns-clause-joined g c =
    let before = c.loop-place.invariant in
    let first = c.args.others.now in
    let last = c.loop-place.others in
    let told = WasRead g.S.ByteSource.gave g.S.ByteSource.ended in
    subst (λ l. JoinsEach told l c.args.merged.now c.loop-place.merged)
    (take_all c.loop-place.place (zip first last)
    (omega (arith, c.loop-place-test.false, zip_length first last before.len, before.len)))
    before.joined

pub returns-clause-ended : goal.returns-clause-ended
returns-clause-ended g c = λ k s lt.
    c.loop-place.invariant.ended k s (omega (arith, lt, c.loop-place-test.false))
