-- No line that is written has an LF.
use Rattle.std.proofs.Common.{◌≡◌, ℕ, ◌<◌, ◌≤◌, ◌^◌, Bool, true, false, cond, ◌&&◌, List}
use Rattle.std.proofs.Common.{[], ◌∷◌, ◌++◌, length, refl, arith, codes, decimal, Option, Some, None}
use Rattle.std.specs.Prelude.{◌==◌, nat_le, IfSome}
use Rattle.std.specs.List.{list_all}
use Rattle.std.specs.Char.{is_ascii_digit}
use Rattle.std.proofs.lemmas.Bool.Decides.{nat_tests}
use Rattle.st_format.specs.declared.sampling.Sampling.{Sampling}
use Rattle.st_format.specs.declared.sampling.Sampling.TheVariants.{Ycc422, Ycc444, Rgb}
use Rattle.st_format.specs.declared.sampling.Depth.{Depth}
use Rattle.st_format.specs.declared.sampling.Depth.TheVariants.{D8, D10, D12, D16}
use Rattle.st_format.specs.Words.{sampling_text}
use Rattle.st_format.specs.Forms.{depth_text}
use Rattle.st_format.proofs.Decimals.{and_parts}
use Rattle.flow.specs.declared.flows.Flow.{Flow}
use Rattle.sdp_writing.specs.Written.{IsTold}
use Rattle.sdp_format.specs.declared.sdp.Range.{Range}
use Rattle.sdp_format.specs.declared.sdp.Range.TheVariants.{Narrow, FullProtect, Full}
use Rattle.sdp_format.specs.Back.{IsLeg}
use Rattle.sdp_format.specs.Canonical.{canonical_line, divisor_text, range_text}
use Rattle.sdp_format.specs.Naming.{colorimetry, is_name_byte}
use Rattle.sdp_format.specs.Sections.{Leg}
use Rattle.sdp_format.proofs.Line.{all_append, all_so, decimal_all}
use Rattle.sdp_writing.specs.Written.{leg_lines, map_line, media_line, sdp_lines}
use Rattle.sdp_writing.specs.Written.{connection_lines, session_lines}
use Rattle.sdp_writing.proofs.Splits.{is_within_line, IsOneLine, AreOneLine, one_line-append}
use Rattle.sdp_writing.proofs.Connections.{connection_one_line}

digit_in_line : (b : ℕ) → is_ascii_digit b ≡ true → is_within_line b ≡ true
digit_in_line b e = grind (arith, nat_tests)

number_in_line : (n : ℕ) → n < 2 ^ 32 → IsOneLine (decimal n)
number_in_line n small = decimal_all is_within_line digit_in_line n small

-- the same in a record, so that antt reads the lists off it
record InLine (xs : List ℕ) : Type 0 where
  all : IsOneLine xs

in_line : (xs : List ℕ) → IsOneLine xs → InLine xs
in_line xs h = record { all = h }

and : (xs ys : List ℕ) → InLine xs → InLine ys → InLine (xs ++ ys)
and xs ys h k = record { all = all_append is_within_line xs ys h.all k.all }

media_in_line : (payload_type port : ℕ) → payload_type ≤ 127 → port < 2 ^ 16
    → IsOneLine (media_line payload_type port)
media_in_line payload_type port few small =
    all_append is_within_line (codes "m=video " ++ decimal port ++ codes " RTP/AVP ")
    (decimal payload_type)
    (all_append is_within_line (codes "m=video " ++ decimal port) (codes " RTP/AVP ")
    (all_append is_within_line (codes "m=video ") (decimal port) refl
    (number_in_line port (omega arith))) refl) (number_in_line payload_type (omega arith))

map_in_line : (payload_type : ℕ) → payload_type ≤ 127 → IsOneLine (map_line payload_type)
map_in_line payload_type few =
    all_append is_within_line (codes "a=rtpmap:" ++ decimal payload_type) (codes " raw/90000")
    (all_append is_within_line (codes "a=rtpmap:") (decimal payload_type) refl
    (number_in_line payload_type (omega arith))) refl

-- ---- the line of the parameters

sampling_in_line : (s : Sampling) → IsOneLine (sampling_text s)
sampling_in_line Ycc422 = refl
sampling_in_line Ycc444 = refl
sampling_in_line Rgb = refl

depth_in_line : (b : Depth) → IsOneLine (depth_text b)
depth_in_line D8 = refl
depth_in_line D10 = refl
depth_in_line D12 = refl
depth_in_line D16 = refl

range_in_line : (r : Range) → IsOneLine (range_text r)
range_in_line Narrow = refl
range_in_line FullProtect = refl
range_in_line Full = refl

divisor_in_line : (d : ℕ) → d < 2 ^ 32 → IsOneLine (divisor_text d)
divisor_in_line d small = by_cases (d == 1) (number_in_line d small)
  where
    by_cases : (t : Bool) → IsOneLine (decimal d) → IsOneLine (cond t [] (codes "/" ++ decimal d))
    by_cases true h = refl
    by_cases false h = h

name_in_line : (b : ℕ) → is_name_byte b ≡ true → is_within_line b ≡ true
name_in_line b e = grind (arith, nat_tests)

passed : {A : Type 0} (t : Bool) (x : A) → cond t (Some x) None ≡ Some x → t ≡ true
passed true x e = refl
passed false x e = cc

colours_in_line : (c : List ℕ) → colorimetry c ≡ Some c → IsOneLine c
unfolding colorimetry
colours_in_line c e =
    all_so is_name_byte is_within_line name_in_line c
    (and_parts (nat_le 1 (length c) && nat_le (length c) 32) (list_all is_name_byte c)
    (passed (nat_le 1 (length c) && nat_le (length c) 32 && list_all is_name_byte c) c e)).1

parts_in_line : (pt s w h n d b c r : List ℕ) → IsOneLine pt → IsOneLine s → IsOneLine w
    → IsOneLine h → IsOneLine n → IsOneLine d → IsOneLine b → IsOneLine c → IsOneLine r
    → IsOneLine
    (codes "a=fmtp:" ++ pt ++ codes " sampling=" ++ s ++ codes "; width=" ++ w
    ++ codes "; height=" ++ h ++ codes "; exactframerate=" ++ n ++ d ++ codes "; depth=" ++ b
    ++ codes "; colorimetry=" ++ c
    ++ codes "; PM=2110GPM; SSN=ST2110-20:2017" ++ r)
parts_in_line pt s w h n d b c r ipt is iw ih rated id ib ic ir =
    let word = λ (xs : List ℕ) (h : IsOneLine xs). in_line xs h in
    let front =
    and _ _ (and _ _ (and _ _ (word (codes "a=fmtp:") refl) (word pt ipt))
    (word (codes " sampling=") refl)) (word s is) in
    let sizes =
    and _ _ (and _ _ (and _ _ (and _ _ front (word (codes "; width=") refl)) (word w iw))
    (word (codes "; height=") refl)) (word h ih) in
    let rates =
    and _ _ (and _ _ (and _ _ sizes (word (codes "; exactframerate=") refl)) (word n rated))
    (word d id) in
    let colours =
    and _ _ (and _ _ (and _ _ (and _ _ rates (word (codes "; depth=") refl)) (word b ib))
    (word (codes "; colorimetry=") refl)) (word c ic) in
    (and _ _ (and _ _ colours (word (codes "; PM=2110GPM; SSN=ST2110-20:2017") refl))
    (word r ir)).all

pub parameters_in_line : (l : Leg) → IsLeg l → IsOneLine (canonical_line l)
unfolding canonical_line
parameters_in_line l k =
    let type : l.payload_type ≤ 127 = k.small_type in
    parts_in_line (decimal l.payload_type) (sampling_text l.format.sampling)
    (decimal l.format.width) (decimal l.format.height) (decimal l.format.n)
    (divisor_text l.format.d) (depth_text l.format.depth) l.colorimetry (range_text l.range)
    (number_in_line l.payload_type (omega arith))
    (sampling_in_line l.format.sampling)
    (number_in_line l.format.width k.width)
    (number_in_line l.format.height k.height)
    (number_in_line l.format.n k.n)
    (divisor_in_line l.format.d k.d)
    (depth_in_line l.format.depth)
    (colours_in_line l.colorimetry k.is_colorimetry)
    (range_in_line l.range)

-- ---- all lines

module _ (payload_type : ℕ) (parameters : List ℕ) (few : payload_type ≤ 127)
    (whole : IsOneLine parameters) where
  pub leg_in_line : (leg : Flow) (name : List ℕ) → IsTold leg → IsOneLine (codes "a=mid:" ++ name)
      → AreOneLine (leg_lines payload_type parameters leg name)
  leg_in_line leg name is named = (
    media_in_line payload_type leg.port few is.3,
    one_line-append (connection_lines leg.address)
        (map_line payload_type ∷ parameters ∷ (codes "a=mid:" ++ name) ∷ [])
        (connection_one_line leg.address is.2)
        (map_in_line payload_type few, (whole, (named, tt))),
  )

  pub sdp_in_line : (a : Flow) (b : Option Flow) → IsTold a → IfSome b IsTold
      → AreOneLine (sdp_lines payload_type parameters a b)
  sdp_in_line a None is second =
      one_line-append session_lines (leg_lines payload_type parameters a (codes "A"))
      (refl, (refl, (refl, (refl, tt)))) (leg_in_line a (codes "A") is refl)
  sdp_in_line a (Some b) is second =
      one_line-append session_lines
      (codes "a=group:DUP A B" ∷ (leg_lines payload_type parameters a (codes "A")
      ++ leg_lines payload_type parameters b (codes "B")))
      (refl, (refl, (refl, (refl, tt)))) (
        refl,
        one_line-append (leg_lines payload_type parameters a (codes "A"))
            (leg_lines payload_type parameters b (codes "B")) (leg_in_line a (codes "A") is refl)
            (leg_in_line b (codes "B") second refl),
      )
