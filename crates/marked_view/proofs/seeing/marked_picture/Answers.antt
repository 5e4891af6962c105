use Rattle.std.proofs.Common.{◌≡◌, ℕ, ◌*◌, ◌/◌, ◌%◌, List, ◌++◌, arith, ap, sym, ◌∙◌}
use Rattle.st_format.specs.declared.format.Format.{Format}
use Rattle.marked_view.specs.Marked.{pixel_seen, pixels_seen, view_fields}
use Rattle.marked_view.proofs.Seen.{pixels_more, view_picture}
use Rattle.marked_view.proofs.seeing.marked_picture.Goals as goal

pub loop-k-preserved : goal.loop-k-preserved
loop-k-preserved g c =
    let k : ℕ = c.loop-k.k in
    let pixel : List ℕ = c.seen-pixel.result in
    let w : c.width-width.result ≡ c.args.frame.now.format.width =
    c.width-width.ensures ∙ ap (λ (f : Format). f.width) c.format-format.ensures.format in
    let is : pixel ≡ pixel_seen c.args.frame.now (k / c.args.frame.now.format.width)
    (k % c.args.frame.now.format.width) =
    c.seen-pixel.ensures
    ∙ ap (λ (n : ℕ). pixel_seen c.args.frame.now (k / n) (k % n)) w in
    c.in_ok-extend_from_slice.ensures.items
    ∙ ap (λ (t : List ℕ). t ++ pixel) c.loop-k.invariant
    ∙ ap (λ (t : List ℕ). pixels_seen c.args.frame.now k ++ t) is
    ∙ sym (pixels_more c.args.frame.now k)

pub from_samples-requires : goal.from_samples-requires
from_samples-requires g c =
    let wide : ℕ = c.width-width.result in
    let high : ℕ = c.height.result in
    let w : wide ≡ c.args.frame.now.format.width =
    c.width-width.ensures ∙ ap (λ (f : Format). f.width) c.format-format.ensures.format in
    let h : high ≡ c.args.frame.now.format.height =
    c.height.ensures ∙ ap (λ (f : Format). f.height) c.format-format.ensures.format in
    let count : c.loop-k.k ≡ wide * high = omega arith in
    let all : c.loop-k.k ≡ c.args.frame.now.format.width * c.args.frame.now.format.height =
    count ∙ ap (λ (n : ℕ). n * high) w
    ∙ ap (λ (n : ℕ). c.args.frame.now.format.width * n) h in
    view_picture c.args.frame.now c.view_format.result c.loop-k.samples.items
    c.format-format.ensures.fit
    (c.view_format.ensures ∙ ap view_fields c.format-format.ensures.format)
    (c.loop-k.invariant ∙ ap (λ (n : ℕ). pixels_seen c.args.frame.now n) all)
