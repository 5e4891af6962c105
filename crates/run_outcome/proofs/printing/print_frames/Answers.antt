use Rattle.std.proofs.Common.{◌<◌, ◌≤◌, ◌∙◌, ℕ, List, ap, append-nil, get_or, length, refl}
use Rattle.std.proofs.Common.{subst, sym}
use Rattle.std.proofs.lemmas.Result.{err_from_is_err_and}
use Rattle.path_receiver.specs.Frames.{State}
use Rattle.run_outcome.specs.Frames.{frame_line_at}
use Rattle.run_outcome.proofs.Printed.{texts_all, texts_cut, texts_more}
use Rattle.run_outcome.proofs.printing.print_frames.Goals as goal

pub loop-timestamp-init : goal.loop-timestamp-init
loop-timestamp-init g c = record { printed = sym (append-nil _); failures = refl }

pub loop-timestamp-preserved : goal.loop-timestamp-preserved
loop-timestamp-preserved g c =
    let s : State = c.args.receiver.now in
    let i : ℕ = c.loop-timestamp.timestamp-index in
    let items : List ℕ = c.window-timestamp-items.result.now in
    let same = c.window-timestamp-items.ensures.window in
    let lt : i < length s.opening.window =
    subst (λ (w : List ℕ). i < length w) same c.loop-timestamp-test.true in
    record {
      printed =
          texts_more (frame_line_at s) s.opening.window i 0 (get_or items i 0) _ _ _ lt
          (ap (λ (w : List ℕ). get_or w i 0) same) c.loop-timestamp.invariant.printed
          c.in_ok-print_frame.ensures.printed;
      failures = c.in_ok-print_frame.ensures.failures ∙ c.loop-timestamp.invariant.failures;
    }

pub returns-in_err-print_frame-clause-cut : goal.returns-in_err-print_frame-clause-cut
returns-in_err-print_frame-clause-cut g c =
    let p = err_from_is_err_and c.from_residual.result c.from_residual.ensures.1 in
    let s : State = c.args.receiver.now in
    let i : ℕ = c.loop-timestamp.timestamp-index in
    let items : List ℕ = c.window-timestamp-items.result.now in
    let same = c.window-timestamp-items.ensures.window in
    let lt : i < length s.opening.window =
    subst (λ (w : List ℕ). i < length w) same c.loop-timestamp-test.true in
    rw (p.1)
    (texts_cut (frame_line_at s) s.opening.window i 0 (get_or items i 0) _ _ _ lt
    (ap (λ (w : List ℕ). get_or w i 0) same) c.loop-timestamp.invariant.printed
    c.in_err-print_frame.ensures.cut)

pub returns-clause-printed : goal.returns-clause-printed
returns-clause-printed g c =
    let s : State = c.args.receiver.now in
    let i : ℕ = c.loop-timestamp.timestamp-index in
    let end : length s.opening.window ≤ i =
    subst (λ (w : List ℕ). length w ≤ i) c.window-timestamp-items.ensures.window
    c.loop-timestamp-test.false in
    texts_all (frame_line_at s) s.opening.window i _ _ end c.loop-timestamp.invariant.printed
