use Rattle.std.proofs.Common.{◌≡◌, ◌∙◌, ◌<◌, ◌+◌, ℕ, suc, List, [], ◌∷◌, arith, length, refl, set}
use Rattle.std.proofs.Common.{subst, take}
use Rattle.std.proofs.lemmas.List.{length-set, take_all}
use Rattle.std.proofs.lemmas.Result.{err_from_is_err_and}
use Rattle.std.specs.List.{sum_by}
use Rattle.std.specs.Prelude.{◌≤◌}
use Rattle.run_outcome.specs.Fault.{Blames, counts}
use Rattle.recording_engines.specs.Files.{failures_by}
use Rattle.recording_engines.proofs.Taken.{map_set}
use Rattle.side_by_side.specs.Going.{IsReadBy}
use Rattle.side_by_side.specs.Side.{IsSoundSide, IsUnfailed, begun_at}
use Rattle.side_by_side.specs.Sides.{AllRead, standings}
use Rattle.side_by_side.specs.declared.side.Side.{Side}
use Rattle.side_by_side.proofs.Gone.{all_on, all_stay}
use Rattle.side_by_side.proofs.Reading.{all_get, all_one_more, all_set, all_unfailed, blames_set}
use Rattle.side_by_side.proofs.Reading.{failures_same, on_set, sound_given, stopped_set}
use Rattle.side_by_side.proofs.Reading.{unfailed_read}
use Rattle.side_by_side.proofs.choosing.read_all.Goals as goal
use Rattle.run_outcome.specs.LowerFaults.{reading_fault}

pub loop-place-init : goal.loop-place-init
loop-place-init g c = record {
  len = refl;
  begun = refl;
  sound = c.requires;
  read = tt;
  goes_on = all_stay (standings c.args.sides.now);
  unfailed = λ u. u;
  failures = λ u. refl;
}

pub read_on-requires : goal.read_on-requires
read_on-requires g c =
    let l = c.loop-place in
    let lt : l.place < length l.sides = omega (arith, c.loop-place-test.true, l.invariant.len) in
    all_get (λ s. IsSoundSide c.args.steering s) l.sides l.place c.index-sides-place.result lt
    l.invariant.sound

pub loop-place-preserved : goal.loop-place-preserved
loop-place-preserved g c =
    let l = c.loop-place in
    let st = c.args.steering in
    let d = c.index-sides-place.result in
    let y = c.read_on.new.self in
    let f = λ (s : Side _ _). failures_by g.S.ByteSource.failures s.file in
    let lt : l.place < length l.sides = omega (arith, c.loop-place-test.true, l.invariant.len) in
    let has = c.in_ok-read_on.ensures.read in
    let next : suc l.place ≡ l.place + 1 = omega arith in
    record {
      len = length-set l.sides l.place y ∙ l.invariant.len;
      begun = map_set (λ s. begun_at s.file) l.sides l.place d y lt c.in_ok-read_on.ensures.begun
          ∙ l.invariant.begun;
      sound = all_set (λ s. IsSoundSide st s) l.sides l.place y l.invariant.sound has.sound;
      read = subst (λ (n : ℕ). AllRead (take n (set l.sides l.place y))) next
          (all_one_more (λ s. IsReadBy s.going) l.sides l.place y lt l.invariant.read has.read);
      goes_on = all_on (standings c.args.sides.now) (standings l.sides)
          (standings (set l.sides l.place y)) l.invariant.goes_on
          (on_set l.sides l.place d y has.goes_on);
      unfailed = λ u.
          all_set IsUnfailed l.sides l.place y (l.invariant.unfailed u)
          (unfailed_read st y has.sound has.read);
      failures = λ u.
          failures_same f l.sides l.place d y lt
          (c.in_ok-read_on.ensures.device
          (all_get IsUnfailed l.sides l.place d lt (l.invariant.unfailed u)))
          ∙ l.invariant.failures u;
    }

pub returns-in_err-read_on-clause-begun : goal.returns-in_err-read_on-clause-begun
returns-in_err-read_on-clause-begun g c =
    let l = c.loop-place in
    let lt : l.place < length l.sides = omega (arith, c.loop-place-test.true, l.invariant.len) in
    map_set (λ s. begun_at s.file) l.sides l.place c.index-sides-place.result c.read_on.new.self lt
    c.read_on.ensures.begun ∙ l.invariant.begun

pub returns-in_err-read_on-clause-fault : goal.returns-in_err-read_on-clause-fault
returns-in_err-read_on-clause-fault g c =
    let l = c.loop-place in
    let st = c.args.steering in
    let d = c.index-sides-place.result in
    let y = c.read_on.new.self in
    let fault = c.in_err-read_on.field-0.0 in
    let stops = c.in_err-read_on.ensures.fault in
    let lt : l.place < length l.sides = omega (arith, c.loop-place-test.true, l.invariant.len) in
    let p = err_from_is_err_and c.from_residual.result c.from_residual.ensures.1 in
    rw (p.1, p.2) (record {
      sound = all_set (λ s. IsSoundSide st s) l.sides l.place y l.invariant.sound
          (sound_given st y stops.unread);
      stopped = stopped_set fault l.sides l.place y lt l.invariant.read stops.at;
      goes_on = all_on (standings c.args.sides.now) (standings l.sides)
          (standings (set l.sides l.place y)) l.invariant.goes_on
          (on_set l.sides l.place d y stops.goes_on);
    })

pub returns-in_err-read_on-clause-device : goal.returns-in_err-read_on-clause-device
returns-in_err-read_on-clause-device g c =
    let l = c.loop-place in
    let d = c.index-sides-place.result in
    let y = c.read_on.new.self in
    let fault = c.in_err-read_on.field-0.0 in
    let f = λ (s : Side _ _). failures_by g.S.ByteSource.failures s.file in
    let lt : l.place < length l.sides = omega (arith, c.loop-place-test.true, l.invariant.len) in
    let p = err_from_is_err_and c.from_residual.result c.from_residual.ensures.1 in
    rw (p.1, p.2) (λ u.
    subst (λ (n : ℕ). Blames (counts n (sum_by f (set l.sides l.place y)) ∷ [])
    (reading_fault fault)) (l.invariant.failures u)
    (blames_set f l.sides l.place d y fault lt
    (c.in_err-read_on.ensures.device
    (all_get IsUnfailed l.sides l.place d lt (l.invariant.unfailed u)))))

pub returns-clause-read : goal.returns-clause-read
returns-clause-read g c =
    let l = c.loop-place in
    let most : length l.sides ≤ l.place =
    omega (arith, l.invariant.len, c.loop-place-test.false, l.auto.place-end) in
    record {
      sound = l.invariant.sound;
      read = subst (λ (ss : List (Side _ _)). AllRead ss) (take_all l.place l.sides most)
          l.invariant.read;
      goes_on = l.invariant.goes_on;
    }

pub returns-clause-unfailed : goal.returns-clause-unfailed
returns-clause-unfailed g c =
    let l = c.loop-place in
    all_unfailed c.args.steering l.sides l.invariant.sound (returns-clause-read g c).read
