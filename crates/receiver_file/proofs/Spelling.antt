-- A group of cells that is written.
use Rattle.std.proofs.Common.{◌≡◌, ℕ, suc, ◌+◌, ◌*◌, ◌/◌, ◌%◌, ◌<◌, ◌≤◌, Bool, true, false, cond}
use Rattle.std.proofs.Common.{eqb, List, [], ◌∷◌, ◌++◌, length, get_or, map, refl, sym, ap, ◌∙◌}
use Rattle.std.proofs.Common.{arith}
use Rattle.std.specs.Int.{bit_at, w16, to_be_bytes}
use Rattle.std.specs.List.{AllByRecursion, list_all}
use Rattle.std.proofs.lemmas.Bool.{eq-eqb, eqb-false, eqb-true, ne_eqb}
use Rattle.std.proofs.lemmas.Nat.Bits.{bit_at-suc, bit_at_lowest, bit_at-zero, same_from_bits}
use Rattle.st_format.specs.declared.cell.Cell.{Cell}
use Rattle.st_format.specs.declared.cell.Cell.TheVariants.{Missing, Value, Contested}
use Rattle.st_format.specs.Cell.{is_contested, is_missing, is_present, known_value}
use Rattle.st_format.specs.Samples.{Spells}
use Rattle.st_format.proofs.SpelledOctets.{octets_in-spelled}
use Rattle.frame_assembly.specs.declared.state.GroupState.TheVariants.{Gone, Whole, Mixed}
use Rattle.frame_assembly.specs.Rows.{IsStateOf}
use Rattle.frame_assembly.specs.declared.state.GroupState.{GroupState}
use Rattle.receiver_file.specs.Known.{known_text}
use Rattle.media_file.specs.Groups.{Shape, group_text, mask_of, samples_text}

-- the octets of a frame are those of the file
octets_same : (s : Shape) (octets : List ℕ) (cells : List Cell)
    → AllByRecursion (λ (v : ℕ). v < 256) octets → Spells s.bits octets (map known_value cells)
    → samples_text s cells ≡ octets
octets_same s octets cells small spelled =
    octets_in-spelled s.bits octets (map known_value cells) small spelled

all_missing : (cells : List Cell)
    → ((i : ℕ) → i < length cells → is_missing (get_or cells i Missing) ≡ true)
    → list_all is_missing cells ≡ true
all_missing [] h = refl
all_missing (Missing ∷ cells) h = all_missing cells (λ i lt. h (suc i) (omega (arith, lt)))
all_missing (Value v ∷ cells) h = let bad : false ≡ true = h 0 (omega arith) in absurd cc
all_missing (Contested ∷ cells) h = let bad : false ≡ true = h 0 (omega arith) in absurd cc

not_all : (cells : List Cell) → 0 < length cells → is_missing (get_or cells 0 Missing) ≡ false
    → list_all is_missing cells ≡ false
not_all [] some h = absurd (omega (arith, some))
not_all (Missing ∷ cells) some h = absurd cc
not_all (Value v ∷ cells) some h = refl
not_all (Contested ∷ cells) some h = refl

present_is_known : (c : Cell) → is_present c ≡ true → is_missing c ≡ false
present_is_known Missing h = absurd cc
present_is_known (Value v) h = refl
present_is_known Contested h = absurd cc

present_mask : (cells : List Cell)
    → ((i : ℕ) → i < length cells → is_present (get_or cells i Missing) ≡ true) → mask_of cells ≡ 0
unfolding mask_of
present_mask [] h = refl
present_mask (Missing ∷ cells) h = let bad : false ≡ true = h 0 (omega arith) in absurd cc
present_mask (Value v ∷ cells) h = let e : mask_of cells ≡ 0 =
    present_mask cells (λ i lt. h (suc i) (omega (arith, lt))) in omega (arith, e)
present_mask (Contested ∷ cells) h = let bad : false ≡ true = h 0 (omega arith) in absurd cc

-- a bit of a number says of the cell of its place whether it is contested
abbrev Says : ℕ → List Cell → Type 0
Says mask cells =
    ((i : ℕ) → i < length cells → is_contested (get_or cells i Missing) ≡ eqb (bit_at mask i) 1)
    × ((i : ℕ) → length cells ≤ i → bit_at mask i ≡ 0)

says_next : (mask : ℕ) (c : Cell) (cells : List Cell) → Says mask (c ∷ cells)
    → Says (mask / 2) cells
says_next mask c cells h = (
  λ i lt. h.0 (suc i) (omega (arith, lt)) ∙ ap (λ (b : ℕ). eqb b 1) (bit_at-suc mask i),
  λ i le. sym (bit_at-suc mask i) ∙ h.1 (suc i) (omega (arith, le)),
)

-- the first bit, by what is said of the first cell
bit_none : (mask : ℕ) → false ≡ eqb (bit_at mask 0) 1 → mask % 2 ≡ 0
bit_none mask e =
    let no : bit_at mask 0 ≡ 1 → ⊥ = eqb-false (bit_at mask 0) 1 (sym e) in
    let low : mask % 2 ≡ 1 → ⊥ = λ h. no (bit_at_lowest mask ∙ h) in
    omega arith

bit_set : (mask : ℕ) → true ≡ eqb (bit_at mask 0) 1 → mask % 2 ≡ 1
bit_set mask e = sym (bit_at_lowest mask) ∙ eqb-true (bit_at mask 0) 1 (sym e)

joined_bit : (b m mask : ℕ) → b ≡ mask % 2 → m ≡ mask / 2 → b + 2 * m ≡ mask
joined_bit b m mask e f = omega (arith, e, f)

mask_is : (mask : ℕ) (cells : List Cell) → Says mask cells → mask_of cells ≡ mask
unfolding mask_of
mask_is mask [] h = same_from_bits 0 mask (λ i. bit_at-zero i ∙ sym (h.1 i (omega arith)))
mask_is mask (Missing ∷ cells) h =
    joined_bit 0 (mask_of cells) mask (sym (bit_none mask (h.0 0 (omega arith))))
    (mask_is (mask / 2) cells (says_next mask Missing cells h))
mask_is mask (Value v ∷ cells) h =
    joined_bit 0 (mask_of cells) mask (sym (bit_none mask (h.0 0 (omega arith))))
    (mask_is (mask / 2) cells (says_next mask (Value v) cells h))
mask_is mask (Contested ∷ cells) h =
    joined_bit 1 (mask_of cells) mask (sym (bit_set mask (h.0 0 (omega arith))))
    (mask_is (mask / 2) cells (says_next mask Contested cells h))

-- ---- the texts of the three states

abbrev chosen : Shape → List Cell → Bool → Bool → List ℕ
chosen s cells gone whole =
    cond gone (0 ∷ [])
    (cond whole (1 ∷ samples_text s cells)
    (2 ∷ (to_be_bytes w16 (mask_of cells) ++ samples_text s cells)))

pub gone_text : (s : Shape) (cells : List Cell) → IsStateOf Gone cells → 0 ∷ [] ≡ group_text s cells
unfolding group_text
gone_text s cells is =
    sym (ap (λ (b : Bool). chosen s cells b (eqb (mask_of cells) 0)) (all_missing cells is))

pub whole_text : (s : Shape) (cells : List Cell) (octets : List ℕ) → 0 < length cells
    → AllByRecursion (λ (v : ℕ). v < 256) octets → Spells s.bits octets (map known_value cells)
    → IsStateOf Whole cells → 1 ∷ octets ≡ group_text s cells
unfolding group_text
whole_text s cells octets some small spelled is =
    sym (ap (λ (b : Bool). chosen s cells b (eqb (mask_of cells) 0))
    (not_all cells some (present_is_known (get_or cells 0 Missing) (is 0 some)))
    ∙ ap (λ (b : Bool). chosen s cells false b) (eq-eqb (mask_of cells) 0 (present_mask cells is))
    ∙ ap (λ (t : List ℕ). 1 ∷ t) (octets_same s octets cells small spelled))

pub mixed_text : (s : Shape) (cells : List Cell) (octets : List ℕ) (mask : ℕ) → 0 < length cells
    → AllByRecursion (λ (v : ℕ). v < 256) octets → Spells s.bits octets (map known_value cells)
    → IsStateOf (Mixed mask) cells
    → 2 ∷ (to_be_bytes w16 mask ++ octets) ≡ group_text s cells
unfolding group_text
mixed_text s cells octets mask some small spelled is =
    let says : Says mask cells = (is.2, is.3) in
    let m : mask_of cells ≡ mask = mask_is mask cells says in
    let other : mask_of cells ≡ 0 → ⊥ = λ z. is.0 (sym m ∙ z) in
    sym (ap (λ (b : Bool). chosen s cells b (eqb (mask_of cells) 0))
    (not_all cells some (is.1 0 some))
    ∙ ap (λ (b : Bool). chosen s cells false b) (ne_eqb (mask_of cells) 0 other)
    ∙ ap (λ (n : ℕ). 2 ∷ (to_be_bytes w16 n ++ samples_text s cells)) m
    ∙ ap (λ (t : List ℕ). 2 ∷ (to_be_bytes w16 mask ++ t))
    (octets_same s octets cells small spelled))

-- what is written of a group is its text
pub known_is : (s : Shape) (cells : List Cell) (octets : List ℕ) (state : GroupState)
    → 0 < length cells → AllByRecursion (λ (v : ℕ). v < 256) octets
    → Spells s.bits octets (map known_value cells) → IsStateOf state cells
    → known_text state octets ≡ group_text s cells
known_is s cells octets Gone some small spelled is = gone_text s cells is
known_is s cells octets Whole some small spelled is =
    whole_text s cells octets some small spelled is
known_is s cells octets (Mixed mask) some small spelled is =
    mixed_text s cells octets mask some small spelled is
