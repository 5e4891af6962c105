use Rattle.std.proofs.Common.{◌≡◌, ◌<◌, ◌∙◌, sym, subst, ap, get_or, ℕ, List, length}
use Rattle.std.specs.Option.{option_copied}
use Rattle.path_receiver.specs.Frames.{State}
use Rattle.st_format.specs.Member.{IsMember}
use Rattle.receiver_file.proofs.Filled.{filled_next}
use Rattle.receiver_file.proofs.KeptRuns.{member_of}
use Rattle.receiver_file.proofs.telling.tell_all.Goals as goal

pub unwrap-requires : goal.unwrap-requires
unwrap-requires g c =
    let w : List ℕ = c.window-timestamp-items.result.now in
    let i : ℕ = c.loop-timestamp.timestamp-index in
    let same : w ≡ c.args.receiver.now.opening.window = c.window-timestamp-items.ensures.window in
    c.frame.ensures.within.1
    (subst (λ (x : List ℕ). IsMember (get_or w i 0) x) same
    (member_of w i c.loop-timestamp-test.true))

pub loop-timestamp-preserved : goal.loop-timestamp-preserved
loop-timestamp-preserved g c =
    let s : State = c.args.receiver.now in
    let w : List ℕ = c.window-timestamp-items.result.now in
    let i : ℕ = c.loop-timestamp.timestamp-index in
    let same : w ≡ s.opening.window = c.window-timestamp-items.ensures.window in
    let lt : i < length s.opening.window
    = subst (λ (x : List ℕ). i < length x) same c.loop-timestamp-test.true in
    filled_next s i (get_or w i 0) c.unwrap.result.now c.window-timestamp-items.ensures.receiver lt
    (ap (λ (x : List ℕ). get_or x i 0) same)
    (sym c.frame.ensures.frame ∙ ap (λ o. option_copied o) c.unwrap.ensures) c.tell_frame.ensures
    c.loop-timestamp.invariant
