-- Whole groups whose octets are put side by side.
use Rattle.std.proofs.Common.{◌≡◌, ℕ, ◌+◌, ◌*◌, ◌<◌, ◌≤◌, ◌∙◌, List, ◌++◌, length, take, drop}
use Rattle.std.proofs.Common.{ap, arith, get_or, sym, subst}
use Rattle.std.proofs.lemmas.List.{length-take-le}
use Rattle.st_format.specs.declared.format.Format.{Format}
use Rattle.media_file.specs.Groups.{Shape}
use Rattle.media_file.proofs.Once.{shape_is}
use Rattle.receiver_file.specs.Known.{shape_in}
use Rattle.receiver_file.specs.Taking.{AreGroups}
use Rattle.receiver_file.proofs.WholeRuns.{valued_cells, whole_next}

-- So many groups are packed: their octets, with the states, end at a place, and what was put at
-- another.
pub record Packed (f : Format) (most room size count at end : ℕ) (octets packed : List ℕ)
    : Type 0 where
  pub few : count ≤ most
  pub at_is : at ≡ (1 + size) * count
  pub end_is : end ≡ size * count
  pub inside : at ≤ length octets
  pub same_room : length packed ≡ room
  pub groups : AreGroups (shape_in f) count (take at octets)
      (valued_cells (shape_in f) (take end packed))

-- one more
pub packed_next : {f : Format} {most room size count at end next : ℕ} {octets packed new : List ℕ}
    → size ≡ (shape_in f).octets → length octets ≤ room → count < most
    → at + (1 + size) ≤ length octets → get_or octets at 0 ≡ 1
    → next ≡ end + size → length new ≡ length packed
    → take next new ≡ take end packed ++ take size (drop (at + 1) octets)
    → Packed f most room size count at end octets packed
    → Packed f most room size (count + 1) (at + (1 + size)) next octets new
packed_next {f} {most} {room} {size} {count} {at} {end} {next} {octets} {packed} {new} same fits
    lt more state is_next is_room put was =
    let s : Shape = shape_in f in
    let p : List ℕ = take end packed in
    let q : List ℕ = take next new in
    let wide : (1 + size) * count ≡ count + size * count = omega arith in
    let inside : end ≤ length packed =
    omega (arith, was.end_is, was.at_is, was.inside, was.same_room, wide, fits) in
    let long : length p ≡ s.octets * count =
    length-take-le end packed inside ∙ was.end_is ∙ ap (λ (k : ℕ). k * count) same in
    let e : q ≡ p ++ take s.octets (drop (at + 1) octets) =
    put ∙ ap (λ (k : ℕ). p ++ take k (drop (at + 1) octets)) same in
    let further : size * (count + 1) ≡ size * count + size = omega arith in
    let step : (1 + size) * (count + 1) ≡ (1 + size) * count + (1 + size) = omega arith in
    record {
      few = omega (arith, lt);
      at_is = omega (arith, was.at_is, step);
      end_is = is_next ∙ omega (arith, was.end_is, further);
      inside = more;
      same_room = is_room ∙ was.same_room;
      groups =
          subst (λ (k : ℕ). AreGroups s (count + 1) (take (at + (1 + k)) octets)
          (valued_cells s q)) (sym same)
          (whole_next s count at octets p q (shape_is f.sampling f.depth) long
          (subst (λ (k : ℕ). at + (1 + k) ≤ length octets) same more) state e was.groups);
    }
