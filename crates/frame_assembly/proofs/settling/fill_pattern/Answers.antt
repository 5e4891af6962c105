use Rattle.std.proofs.Common.{◌≡◌, ℕ, List, get_or, length, take, drop, map, refl, ap}
use Rattle.std.proofs.Common.{◌∙◌, arith, length-append}
use Rattle.std.specs.List.{range_with_len}
use Rattle.std.proofs.lemmas.List.{get_or_append_left, length-drop, length-take-le}
use Rattle.std.proofs.lemmas.List.FromFn.{get_or-map-range_with_len, length-map-range_with_len}
use Rattle.st_format.specs.Position.{component_in_row}
use Rattle.st_format.proofs.PictureLemmas.{all_set}
use Rattle.frame_assembly.proofs.settling.fill_pattern.Goals as goal

pub loop-made-init : goal.loop-made-init
loop-made-init c =
    let value = λ (k : ℕ). get_or c.args.fill (component_in_row c.args.sampling k) 0 in
    let pattern : List ℕ = c.args.pattern.now in
    let first : List ℕ = c.fill_samples.new.samples in
    let turn : length (take 12 pattern) ≡ 12 = length-take-le 12 pattern (omega (arith, c.requires)) in
    let is : first ≡ map value (range_with_len 0 12) =
    c.fill_samples.ensures ∙ ap (λ (n : ℕ). map value (range_with_len 0 n)) turn in
    let long : length first ≡ 12 =
    ap (λ (xs : List ℕ). length xs) is ∙ length-map-range_with_len value 0 12 in
    record {
      long = omega (
        arith,
        length-append first (drop 12 pattern),
        long,
        length-drop 12 pattern,
        c.requires,
      );
      turn = refl;
      some = omega arith;
      within = omega arith;
      filled = λ k lt. get_or_append_left first (drop 12 pattern) 0 k (omega (arith, long, lt))
          ∙ ap (λ (xs : List ℕ). get_or xs k 0) is
          ∙ get_or-map-range_with_len value 0 12 k k 0 lt (omega arith);
    }

pub returns : goal.returns
returns c =
    let inv = c.loop-made.invariant in
    all_set (λ (k : ℕ). get_or c.args.fill (component_in_row c.args.sampling k) 0)
    c.loop-made.pattern 768 inv.long
    (λ k lt. inv.filled k (omega (arith, inv.long, c.loop-made-test.false)))
