-- The canonical line of a section reads back as what the section says.
use Rattle.std.proofs.Common.{◌≡◌, ℕ, ◌^◌, ◌<◌, ◌≤◌, Bool, true, false, cond, not, List, [], ◌∷◌}
use Rattle.std.proofs.Common.{◌++◌, drop, Some, None, Ok, refl, ap, ◌∙◌, sym, arith, codes}
use Rattle.std.specs.Prelude.{map, ◌==◌}
use mathlib.Core.List.{append_assoc}
use Rattle.std.specs.List.{list_all, list_any, filter, onto_first}
use Rattle.std.specs.Fmt.{decimal}
use Rattle.std.proofs.lemmas.Bool.Decides.{nat_tests}
use Rattle.st_format.specs.declared.sampling.Sampling.{Sampling}
use Rattle.st_format.specs.declared.sampling.Sampling.TheVariants.{Ycc422, Ycc444, Rgb}
use Rattle.st_format.specs.declared.sampling.Depth.{Depth}
use Rattle.st_format.specs.declared.sampling.Depth.TheVariants.{D8, D10, D12, D16}
use Rattle.sdp_format.specs.declared.sdp.Range.{Range}
use Rattle.sdp_format.specs.declared.sdp.Range.TheVariants.{Narrow, FullProtect, Full}
use Rattle.sdp_format.specs.Bytes.{trimmed, front, behind, split_left, attribute, is_equal}
use Rattle.st_format.specs.Words.{number}
use Rattle.sdp_format.specs.Naming.{item, items, items_of, is_filled, colorimetry, is_name_byte}
use Rattle.sdp_format.specs.Naming.{is_bad}
use Rattle.sdp_format.specs.Sections.{Leg}
use Rattle.sdp_format.specs.Reading.{leg_of}
use Rattle.sdp_format.specs.Canonical.{canonical_line, divisor_text}
use Rattle.st_format.specs.Words.{sampling_text}
use Rattle.st_format.specs.Forms.{depth_text}
use Rattle.st_format.proofs.Decimals.{and_parts}
use Rattle.sdp_format.specs.Canonical.{range_text}
use Rattle.sdp_format.proofs.SpelledItems.{spelled, said_items, range_items}
use Rattle.sdp_format.specs.Back.{IsLeg}
use Rattle.sdp_format.proofs.Parts.{next_part}
use Rattle.sdp_format.proofs.Again.{number_decimal, is_word, trimmed_space, cut_at}
use Rattle.sdp_format.proofs.Line.{AllPlain, items_spelled, leg_again, good_again, decimal_all}
use Rattle.sdp_format.proofs.Line.{digit_word, digit_space, all_append, all_so}

same_self : (n : ℕ) → (n == n) ≡ true
same_self n = grind (arith, nat_tests)

pub attribute_spelled : (n : ℕ) (t : List ℕ) → n < 2 ^ 32
    → attribute (codes "a=fmtp:") n (codes "a=fmtp:" ++ (decimal n ++ 32 ∷ t)) ≡ Some t
unfolding attribute
attribute_spelled n t small =
    let c : (front 32 (decimal n ++ 32 ∷ t) ≡ decimal n)
    × (behind 32 (decimal n ++ 32 ∷ t) ≡ Some t) =
    cut_at 32 (decimal n) t (decimal_all (λ b. not (b == 32)) digit_space n small) refl in
    ap (λ x. cond (is_equal (number x) n) (behind 32 (decimal n ++ 32 ∷ t)) None) c.0
    ∙ ap (λ x. cond (is_equal x n) (behind 32 (decimal n ++ 32 ∷ t)) None) (number_decimal n small)
    ∙ ap (λ b. cond b (behind 32 (decimal n ++ 32 ∷ t)) None) (same_self n)
    ∙ c.1

front_space : (a : List ℕ) (parts : List (List ℕ))
    → items_of (onto_first 32 (a ∷ parts)) ≡ items_of (a ∷ parts)
front_space a parts =
    ap (λ z. map item
    (cond (is_filled z) (z ∷ filter is_filled (map trimmed parts))
    (filter is_filled (map trimmed parts)))) (trimmed_space a)

items_space : (t : List ℕ) → items (32 ∷ t) ≡ items t
items_space t =
    ap (λ p. items_of (onto_first 32 p)) (next_part 59 t)
    ∙ front_space (front 59 t) (split_left 59 (behind 59 t)) ∙ ap items_of (sym (next_part 59 t))

-- the texts have no spaces and no semicolons
sampling_word : (s : Sampling) → list_all is_word (sampling_text s) ≡ true
sampling_word Ycc422 = refl
sampling_word Ycc444 = refl
sampling_word Rgb = refl

depth_word : (b : Depth) → list_all is_word (depth_text b) ≡ true
depth_word D8 = refl
depth_word D10 = refl
depth_word D12 = refl
depth_word D16 = refl

divisor_by : (d : ℕ) (t : Bool) → list_all is_word (decimal d) ≡ true
    → list_all is_word (cond t [] (47 ∷ decimal d)) ≡ true
divisor_by d true h = refl
divisor_by d false h = h

name_word : (b : ℕ) → is_name_byte b ≡ true → is_word b ≡ true
name_word b e = grind (arith, nat_tests)

passed : (t : Bool) (c : List ℕ) → cond t (Some c) None ≡ Some c → t ≡ true
passed true c e = refl
passed false c e = cc

colorimetry_word : (c : List ℕ) → colorimetry c ≡ Some c → list_all is_word c ≡ true
unfolding colorimetry
colorimetry_word c e =
    all_so is_name_byte is_word name_word c (and_parts _ (list_all is_name_byte c) (passed _ c e)).1

plain : (l : Leg) → IsLeg l → AllPlain (said_items l)
plain l k =
    let w : list_all is_word (decimal l.format.width) ≡ true =
    decimal_all is_word digit_word l.format.width k.width in
    let h : list_all is_word (decimal l.format.height) ≡ true =
    decimal_all is_word digit_word l.format.height k.height in
    let n : list_all is_word (decimal l.format.n) ≡ true =
    decimal_all is_word digit_word l.format.n k.n in
    let d : list_all is_word (divisor_text l.format.d) ≡ true =
    divisor_by l.format.d (l.format.d == 1) (decimal_all is_word digit_word l.format.d k.d) in
    let r : list_all is_word (decimal l.format.n ++ divisor_text l.format.d) ≡ true =
    all_append is_word (decimal l.format.n) (divisor_text l.format.d) n d in
    let c : list_all is_word l.colorimetry ≡ true =
    colorimetry_word l.colorimetry k.is_colorimetry in (
      record {
        word = sampling_word l.format.sampling;
        key = refl;
        name = refl;
        value =
            sampling_word l.format.sampling;
      },
      (
        record { word = w; key = refl; name = refl; value = w },
        (
          record { word = h; key = refl; name = refl; value = h },
          (
            record { word = r; key = refl; name = refl; value = r },
            (
              record {
                word = depth_word l.format.depth;
                key = refl;
                name = refl;
                value =
                    depth_word l.format.depth;
              },
              (
                record { word = c; key = refl; name = refl; value = c },
                (
                  record { word = refl; key = refl; name = refl; value = refl },
                  (
                    record { word = refl; key = refl; name = refl; value = refl },
                    end_plain l.range,
                  ),
                ),
              ),
            ),
          ),
        ),
      ),
    )
  where
    end_plain : (r : Range) → AllPlain (range_items r)
    end_plain Narrow = tt
    end_plain FullProtect = (record { word = refl; key = refl; name = refl; value = refl }, tt)
    end_plain Full = (record { word = refl; key = refl; name = refl; value = refl }, tt)

spelled_by : (r : Range) (pt w h n d c s b : List ℕ) →
    codes "a=fmtp:" ++ pt ++ codes " sampling=" ++ s ++ codes "; width=" ++ w ++ codes "; height="
    ++ h ++ codes "; exactframerate=" ++ n ++ d ++ codes "; depth=" ++ b
    ++ codes "; colorimetry=" ++ c
    ++ codes "; PM=2110GPM; SSN=ST2110-20:2017" ++ range_text r
    ≡ codes "a=fmtp:" ++
    (pt ++ spelled
    ((codes "sampling", s) ∷ (codes "width", w) ∷ (codes "height", h) ∷
    (codes "exactframerate", n ++ d) ∷ (codes "depth", b) ∷ (codes "colorimetry", c)
    ∷ (codes "PM", codes "2110GPM") ∷ (codes "SSN", codes "ST2110-20:2017") ∷ range_items r))
spelled_by Narrow pt w h n d c s b = simp append_assoc
spelled_by FullProtect pt w h n d c s b = simp append_assoc
spelled_by Full pt w h n d c s b = simp append_assoc

pub canonical_spelled : (l : Leg)
    → canonical_line l ≡ codes "a=fmtp:" ++ (decimal l.payload_type ++ spelled (said_items l))
unfolding canonical_line
canonical_spelled l =
    spelled_by l.range (decimal l.payload_type) (decimal l.format.width) (decimal l.format.height)
    (decimal l.format.n) (divisor_text l.format.d) l.colorimetry (sampling_text l.format.sampling)
    (depth_text l.format.depth)

-- what follows the number in the canonical line
abbrev pub tail_of : Leg → List ℕ
tail_of l = drop 1 (spelled (said_items l))

pub line_again : (l : Leg) → IsLeg l
    → (attribute (codes "a=fmtp:") l.payload_type (canonical_line l) ≡ Some (tail_of l))
    × (leg_of l.payload_type (items (tail_of l)) ≡ Ok l)
    × (list_any is_bad (items (tail_of l)) ≡ false)
line_again l k =
    let small : l.payload_type < 2 ^ 32 = let p : l.payload_type ≤ 127 =
    k.small_type in omega arith in
    let a : attribute (codes "a=fmtp:") l.payload_type (canonical_line l) ≡ Some (tail_of l) =
    ap (attribute (codes "a=fmtp:") l.payload_type) (canonical_spelled l)
    ∙ attribute_spelled l.payload_type (tail_of l) small in
    let i : items (tail_of l) ≡ said_items l =
    sym (items_space (tail_of l)) ∙ items_spelled (said_items l) (plain l k) in (
      a,
      ap (leg_of l.payload_type) i
          ∙ leg_again l.payload_type l.format.width l.format.height l.format.n l.format.d
          l.format.sampling l.format.depth l.range l.colorimetry k.width k.height k.n k.d
          k.is_format k.is_colorimetry,
      ap (list_any is_bad) i
          ∙ good_again l.payload_type l.format.width l.format.height l.format.n l.format.d
          l.format.sampling l.format.depth l.range l.colorimetry k.width k.height k.n k.d
          k.is_colorimetry,
    )
