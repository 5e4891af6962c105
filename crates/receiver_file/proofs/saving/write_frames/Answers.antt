use Rattle.std.proofs.Common.{◌<◌, ◌≤◌, ◌∙◌, Some, refl, sym, subst, ap, get_or, ℕ, List, length}
use Rattle.std.specs.Option.{option_copied}
use Rattle.std.proofs.lemmas.Result.{err_from_is_err_and}
use Rattle.path_receiver.specs.Frames.{State}
use Rattle.st_format.specs.Member.{IsMember}
use Rattle.receiver_file.proofs.KeptRuns.{frames_all, frames_more, frames_none, frames_stop}
use Rattle.receiver_file.proofs.KeptRuns.{member_of}
use Rattle.receiver_file.proofs.Growing.{held_part, took_part}
use Rattle.receiver_file.proofs.saving.write_frames.Goals as goal

pub loop-timestamp-init : goal.loop-timestamp-init
loop-timestamp-init g c = record {
  written = frames_none c.args.receiver.now _;
  took = frames_none c.args.receiver.now (Some _);
  failures = refl;
}

pub unwrap-requires : goal.unwrap-requires
unwrap-requires g c =
    let t : ℕ = get_or c.window-timestamp-items.result.now c.loop-timestamp.timestamp-index 0 in
    c.frame.ensures.within.1
    (subst (λ (w : List ℕ). IsMember t w) c.window-timestamp-items.ensures.window
    (member_of c.window-timestamp-items.result.now c.loop-timestamp.timestamp-index
    c.loop-timestamp-test.true))

pub returns-in_err-write_frame-clause-fault : goal.returns-in_err-write_frame-clause-fault
returns-in_err-write_frame-clause-fault g c =
    let p = err_from_is_err_and c.from_residual.result c.from_residual.ensures.1 in
    let s : State = c.args.receiver.now in
    let i : ℕ = c.loop-timestamp.timestamp-index in
    let same = c.window-timestamp-items.ensures.window in
    let lt : i < length s.opening.window =
    subst (λ (w : List ℕ). i < length w) same c.loop-timestamp-test.true in
    rw (p.1)
    (frames_stop s i
    (get_or c.window-timestamp-items.result.now i 0) c.unwrap.result.now _ _ _
    c.window-timestamp-items.ensures.receiver lt (ap (λ (w : List ℕ). get_or w i 0) same)
    (sym c.frame.ensures.frame
    ∙ ap
    (λ o. option_copied o) c.unwrap.ensures) c.loop-timestamp.invariant.written
    c.in_err-write_frame.ensures.fault)

pub loop-timestamp-preserved : goal.loop-timestamp-preserved
loop-timestamp-preserved g c =
    let s : State = c.args.receiver.now in
    let i : ℕ = c.loop-timestamp.timestamp-index in
    let same = c.window-timestamp-items.ensures.window in
    let lt : i < length s.opening.window =
    subst (λ (w : List ℕ). i < length w) same c.loop-timestamp-test.true in
    record {
      written =
          frames_more s i
          (get_or c.window-timestamp-items.result.now i 0) c.unwrap.result.now _ _ _
          c.window-timestamp-items.ensures.receiver lt (ap (λ (w : List ℕ). get_or w i 0) same)
          (sym c.frame.ensures.frame
          ∙ ap
          (λ o. option_copied o) c.unwrap.ensures) c.loop-timestamp.invariant.written
          c.in_ok-write_frame.ensures.ok;
      took =
          frames_more s i
          (get_or c.window-timestamp-items.result.now i 0) c.unwrap.result.now (Some _) (Some _)
          (Some _)
          c.window-timestamp-items.ensures.receiver lt (ap (λ (w : List ℕ). get_or w i 0) same)
          (sym c.frame.ensures.frame
          ∙ ap
          (λ o. option_copied o) c.unwrap.ensures) c.loop-timestamp.invariant.took
          c.in_ok-write_frame.ensures.took;
      failures = c.in_ok-write_frame.ensures.counted ∙ c.loop-timestamp.invariant.failures;
    }

pub returns-clause-ok : goal.returns-clause-ok
returns-clause-ok g c =
    let s : State = c.args.receiver.now in
    let i : ℕ = c.loop-timestamp.timestamp-index in
    let end : length s.opening.window ≤ i =
    subst (λ (w : List ℕ). length w
    ≤ i) c.window-timestamp-items.ensures.window c.loop-timestamp-test.false in
    frames_all s i _ _ c.window-timestamp-items.ensures.receiver end
    c.loop-timestamp.invariant.written

pub returns-in_err-write_frame-clause-took_part : goal.returns-in_err-write_frame-clause-took_part
returns-in_err-write_frame-clause-took_part g c =
    let p = err_from_is_err_and c.from_residual.result c.from_residual.ensures.1 in
    let s : State = c.args.receiver.now in
    let i : ℕ = c.loop-timestamp.timestamp-index in
    let same = c.window-timestamp-items.ensures.window in
    let lt : i < length s.opening.window =
    subst (λ (w : List ℕ). i < length w) same c.loop-timestamp-test.true in
    rw (p.1)
    (took_part _ _ _ (frames_stop s i
    (get_or c.window-timestamp-items.result.now i 0) c.unwrap.result.now (Some _) (Some _) (Some _)
    c.window-timestamp-items.ensures.receiver lt (ap (λ (w : List ℕ). get_or w i 0) same)
    (sym c.frame.ensures.frame
    ∙ ap
    (λ o. option_copied o) c.unwrap.ensures) c.loop-timestamp.invariant.took
    (held_part _ _ _ c.in_err-write_frame.ensures.took_part)))

pub returns-clause-took : goal.returns-clause-took
returns-clause-took g c =
    let s : State = c.args.receiver.now in
    let i : ℕ = c.loop-timestamp.timestamp-index in
    let end : length s.opening.window ≤ i =
    subst (λ (w : List ℕ). length w
    ≤ i) c.window-timestamp-items.ensures.window c.loop-timestamp-test.false in
    frames_all s i (Some _) (Some _) c.window-timestamp-items.ensures.receiver end
    c.loop-timestamp.invariant.took
