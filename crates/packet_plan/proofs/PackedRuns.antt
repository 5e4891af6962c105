-- A run's octets lie in the octets that spell all samples of the picture.
use Rattle.std.proofs.Common.{◌≡◌, ℕ, ◌+◌, ◌*◌, ◌<◌, ◌≤◌, List, length, take, drop, sym, ap, ◌∙◌}
use Rattle.std.proofs.Common.{subst, arith}
use Rattle.std.specs.List.{AllByRecursion}
use Rattle.std.proofs.lemmas.List.{length-drop}
use Rattle.std.proofs.lemmas.Nat.{mul-le}
use Rattle.st_format.specs.declared.format.Format.{Format}
use Rattle.st_format.specs.Pgroup.{bits_of}
use Rattle.st_format.specs.Picture.{IsPicture, Values}
use Rattle.st_format.specs.Samples.{Spells}
use Rattle.st_format.proofs.Spelled.{joined_length}
use Rattle.st_format.proofs.SpelledOctets.{octets_in-spelled}
use Rattle.pgroup_pack.proofs.Parts.{all_first, all_rest, spelled_first, spelled_rest}
use Rattle.packet_plan.specs.declared.run.PacketRun.{PacketRun}
use Rattle.packet_plan.specs.Plan.{group_octets}
use Rattle.st_format.specs.Position.{row_groups, group_count}
use Rattle.packet_plan.specs.Sent.{group_samples, run_values}
use Rattle.packet_plan.specs.Text.{HasHead, run_octets}
use Rattle.packet_plan.proofs.RunLemmas.{count_is, group_below, run_slice, run_within}
use Rattle.packet_plan.proofs.RunOctets.{groups_bits}

-- the bits of so many groups
bits_are : (f : Format) (g : ℕ)
    → bits_of f.depth * (g * group_samples f) ≡ 8 * (g * group_octets f)
unfolding group_octets
bits_are f g = groups_bits f.sampling f.depth g

eighths : (a b c d : ℕ) → 8 * a ≡ b → b ≡ c → c ≡ 8 * d → a ≡ d
eighths a b c d p q r = omega arith

-- octets that spell a picture are those of all groups
length-packed : (p : Values) (octets : List ℕ) → IsPicture p
    → Spells (bits_of p.format.depth) octets p.samples
    → length octets ≡ group_count p.format * group_octets p.format
length-packed p octets is spells =
    let b : ℕ = bits_of p.format.depth in
    let n : ℕ = group_count p.format in
    let bits : 8 * length octets ≡ b * length p.samples =
    sym (joined_length 8 octets) ∙ ap length spells.same_bits ∙ joined_length b p.samples in
    eighths (length octets) (b * length p.samples) (b * (n * group_samples p.format))
    (n * group_octets p.format) bits
    (ap (λ (k : ℕ). b * k) (is.whole ∙ sym (count_is p.format))) (bits_are p.format n)

-- a run's octets are of the raster's
octets_within : (p : Values) (r : PacketRun) (octets : List ℕ) → IsPicture p
    → HasHead p.format r → Spells (bits_of p.format.depth) octets p.samples
    → (r.row * row_groups p.format + r.first) * group_octets p.format
    + r.groups * group_octets p.format
    ≤ length octets
octets_within p r octets is head spells =
    let o : ℕ = group_octets p.format in
    let g : ℕ = r.row * row_groups p.format + r.first in
    let up : (g + r.groups) * o ≡ g * o + r.groups * o = omega arith in
    omega (
      arith,
      mul-le (g + r.groups) o (group_count p.format) o
          (group_below p.format r head.run head.row) (omega arith),
      length-packed p octets is spells,
    )

-- in the code's numbers
pub packed_inside : (p : Values) (r : PacketRun) (w o : ℕ) (octets : List ℕ) → IsPicture p
    → HasHead p.format r → w ≡ row_groups p.format → o ≡ group_octets p.format
    → Spells (bits_of p.format.depth) octets p.samples
    → (r.row * w + r.first) * o + r.groups * o ≤ length octets
packed_inside p r w o octets is head ew eo spells =
    rw (ew, eo) (octets_within p r octets is head spells)

-- A run's octets are a slice of the picture's.
packed_slice : (p : Values) (r : PacketRun) (octets : List ℕ) → IsPicture p → HasHead p.format r
    → Spells (bits_of p.format.depth) octets p.samples → AllByRecursion (λ v. v < 256) octets
    → take (r.groups * group_octets p.format)
    (drop ((r.row * row_groups p.format + r.first) * group_octets p.format) octets)
    ≡ run_octets p r
packed_slice p r octets is head spells small =
    let f : Format = p.format in
    let b : ℕ = bits_of f.depth in
    let g : ℕ = r.row * row_groups f + r.first in
    let o : ℕ = group_octets f in
    let s : ℕ = group_samples f in
    let within : g * o + r.groups * o ≤ length octets = octets_within p r octets is head spells in
    let samples : g * s + r.groups * s ≤ length p.samples =
    omega (arith, run_within f r head.run head.row, is.whole) in
    let rest : Spells b (drop (g * o) octets) (drop (g * s) p.samples) =
    spelled_rest b (g * o) (g * s) octets p.samples (bits_are f g) (omega arith) (omega arith)
    spells in
    let part : Spells b (take (r.groups * o) (drop (g * o) octets))
    (take (r.groups * s) (drop (g * s) p.samples)) =
    spelled_first b (r.groups * o) (r.groups * s) (drop (g * o) octets) (drop (g * s) p.samples)
    (bits_are f r.groups) (omega (arith, length-drop (g * o) octets))
    (omega (arith, length-drop (g * s) p.samples)) rest in
    let few : AllByRecursion (λ v. v < 256) (take (r.groups * o) (drop (g * o) octets)) =
    all_first (λ v. v < 256) (r.groups * o) (drop (g * o) octets)
    (all_rest (λ v. v < 256) (g * o) octets small) in
    sym (octets_in-spelled b (take (r.groups * o) (drop (g * o) octets)) (run_values p r) few
    (subst (Spells b (take (r.groups * o) (drop (g * o) octets)))
    (sym (run_slice p r is.whole head.run head.row)) part))

pub packed_is : (p : Values) (r : PacketRun) (w o : ℕ) (octets mid out : List ℕ) → IsPicture p
    → HasHead p.format r → w ≡ row_groups p.format → o ≡ group_octets p.format
    → Spells (bits_of p.format.depth) octets p.samples → AllByRecursion (λ v. v < 256) octets
    → mid ≡ drop ((r.row * w + r.first) * o) octets → out ≡ take (r.groups * o) mid
    → out ≡ run_octets p r
packed_is p r w o octets mid out is head ew eo spells small em eout =
    eout ∙ ap (take (r.groups * o)) em
    ∙ ap (λ (k : ℕ). take (r.groups * o) (drop ((r.row * k + r.first) * o) octets)) ew
    ∙ ap
    (λ (k : ℕ). take (r.groups * k) (drop ((r.row * row_groups p.format + r.first) * k) octets))
    eo
    ∙ packed_slice p r octets is head spells small
