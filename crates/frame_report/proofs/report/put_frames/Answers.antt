use Rattle.std.proofs.Common.{◌<◌, ◌≤◌, ◌+◌, ◌∙◌, refl, sym, subst, ap, get_or, ℕ, List}
use Rattle.std.proofs.Common.{length}
use Rattle.std.specs.Option.{option_copied}
use Rattle.std.proofs.lemmas.Result.{err_from_is_err_and}
use Rattle.path_receiver.specs.Frames.{State}
use Rattle.st_format.specs.Member.{IsMember}
use Rattle.frame_report.specs.Report.{text_at}
use Rattle.frame_report.proofs.FrameTexts.{frames_from, frames_here, member_of}
use Rattle.frame_report.proofs.Gathering.{put_all, put_cut, put_more, put_none}
use Rattle.frame_report.proofs.Ranges.{items_end}
use Rattle.frame_report.proofs.report.put_frames.Goals as goal

pub loop-timestamp-init : goal.loop-timestamp-init
loop-timestamp-init g c = record { put = put_none _ _ _ _ refl; failures = refl }

pub unwrap-requires : goal.unwrap-requires
unwrap-requires g c =
    let t : ℕ = get_or c.window-timestamp-items.result.now c.loop-timestamp.timestamp-index 0 in
    c.frame.ensures.within.1
    (subst (λ (w : List ℕ). IsMember t w) c.window-timestamp-items.ensures.window
    (member_of c.window-timestamp-items.result.now c.loop-timestamp.timestamp-index
    c.loop-timestamp-test.true))

pub returns-in_err-put_frame-clause-fault : goal.returns-in_err-put_frame-clause-fault
returns-in_err-put_frame-clause-fault g c =
    let p = err_from_is_err_and c.from_residual.result c.from_residual.ensures.1 in
    let s : State = c.args.receiver.now in
    let i : ℕ = c.loop-timestamp.timestamp-index in
    let same = c.window-timestamp-items.ensures.window in
    let lt : i < length s.opening.window =
    subst (λ (w : List ℕ). i < length w) same c.loop-timestamp-test.true in
    rw (p.1)
    (put_cut _ _ _ _ _ _ _ (frames_from s (i + 1)) _ c.loop-timestamp.invariant.put
    (frames_here s i (get_or c.window-timestamp-items.result.now i 0) c.unwrap.result.now lt
    (ap (λ (w : List ℕ). get_or w i 0) same)
    (sym c.frame.ensures.frame ∙ ap (λ o. option_copied o) c.unwrap.ensures))
    c.in_err-put_frame.ensures.fault)

pub loop-timestamp-preserved : goal.loop-timestamp-preserved
loop-timestamp-preserved g c =
    let s : State = c.args.receiver.now in
    let i : ℕ = c.loop-timestamp.timestamp-index in
    let same = c.window-timestamp-items.ensures.window in
    let lt : i < length s.opening.window =
    subst (λ (w : List ℕ). i < length w) same c.loop-timestamp-test.true in
    record {
      put =
          put_more _ _ _ _ _ _ _ _ (frames_from s (i + 1)) _ c.loop-timestamp.invariant.put
          (frames_here s i (get_or c.window-timestamp-items.result.now i 0) c.unwrap.result.now lt
          (ap (λ (w : List ℕ). get_or w i 0) same)
          (sym c.frame.ensures.frame ∙ ap (λ o. option_copied o) c.unwrap.ensures))
          c.in_ok-put_frame.ensures.ok;
      failures = c.in_ok-put_frame.ensures.counted ∙ c.loop-timestamp.invariant.failures;
    }

pub returns-clause-ok : goal.returns-clause-ok
returns-clause-ok g c =
    let s : State = c.args.receiver.now in
    let i : ℕ = c.loop-timestamp.timestamp-index in
    let end : length s.opening.window ≤ i =
    subst (λ (w : List ℕ). length w ≤ i) c.window-timestamp-items.ensures.window
    c.loop-timestamp-test.false in
    put_all _ _ _ _ _ _ c.loop-timestamp.invariant.put
    (items_end (text_at s) s.opening.window i end)
