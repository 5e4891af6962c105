-- The items of a section: the first of their faults is told, or what they say.
use Rattle.std.proofs.Common.{◌≡◌, ◌≢◌, ℕ, ◌<◌, Bool, true, false, not, cond, List, ◌++◌, length}
use Rattle.std.proofs.Common.{drop, Option, Some, None, Ok, Err, Result, refl, ap, subst, ◌∙◌, sym}
use Rattle.std.proofs.Common.{arith, lit<, ◌⊎◌, inl, inr, codes}
use Rattle.std.specs.Prelude.{Contains, IsErr, is_err, slice_index_or}
use Rattle.std.specs.List.{list_any, list_all}
use Rattle.std.specs.Str.{bytes_eq}
use Rattle.std.proofs.lemmas.Bool.Decides.{Decides-eqb}
use Rattle.std.proofs.lemmas.Slice.Eq.{starts_is}
use Rattle.st_format.specs.declared.sampling.Sampling.{Sampling}
use Rattle.st_format.specs.declared.sampling.Sampling.TheVariants.{Ycc422, Ycc444, Rgb}
use Rattle.st_format.specs.declared.sampling.Depth.{Depth}
use Rattle.st_format.specs.declared.sampling.Depth.TheVariants.{D8, D10, D12, D16}
use Rattle.st_format.specs.Fields.{Fields, format_at}
use Rattle.sdp_format.specs.declared.sdp.Range.{Range}
use Rattle.sdp_format.specs.declared.sdp.Range.TheVariants.{Narrow, FullProtect, Full}
use Rattle.sdp_format.specs.declared.fault.SdpFault.{SdpFault}
use Rattle.sdp_format.specs.declared.fault.SdpFault.TheVariants.{NoMemory, NoVideo, TooManyLegs}
use Rattle.sdp_format.specs.declared.fault.SdpFault.TheVariants.{BadMediaLine, NoRtpmap}
use Rattle.sdp_format.specs.declared.fault.SdpFault.TheVariants.{NotRaw90000, NoFmtp, BadParameter}
use Rattle.sdp_format.specs.declared.fault.SdpFault.TheVariants.{DoubleParameter, MissingParameter}
use Rattle.sdp_format.specs.declared.fault.SdpFault.TheVariants.{UnsupportedSampling}
use Rattle.sdp_format.specs.declared.fault.SdpFault.TheVariants.{UnsupportedDepth, Interlaced}
use Rattle.sdp_format.specs.declared.fault.SdpFault.TheVariants.{UnsupportedPacking, BadSsn}
use Rattle.sdp_format.specs.declared.fault.SdpFault.TheVariants.{BadFormat, LegsDiffer}
use Rattle.sdp_format.specs.Faults.{sdp_fault_number}
use Rattle.sdp_format.specs.Bytes.{begins_with}
use Rattle.st_format.specs.Words.{number}
use Rattle.sdp_format.specs.Naming.{Item, is_bad, has_double, has_name, value_of, text_of}
use Rattle.sdp_format.specs.Naming.{required_names}
use Rattle.sdp_format.specs.Naming.{rate, range_or, range_named, colorimetry}
use Rattle.sdp_format.specs.Sections.{Leg}
use Rattle.st_format.specs.Words.{sampling_text}
use Rattle.sdp_format.specs.Reading.{lacks_item, is_interlaced}
use Rattle.st_format.specs.Words.{sampling_named}
use Rattle.st_format.specs.Forms.{depth_text, depth_named}
use Rattle.st_format.proofs.Forms.{sampling_again, depth_again}
use Rattle.sdp_format.specs.Reading.{or_fault, format_of, said_in, leg_of}
use Rattle.sdp_format.specs.Grammar.{Says, Has, Lacks, IsGiven, ItemFault, SaysRange, IsSaid}
use Rattle.sdp_format.proofs.Members.{not_both, or_cases, or_left, or_right, all_member}
use Rattle.sdp_format.proofs.Members.{not_all_member}
use Rattle.sdp_format.proofs.Doubles.{bytes_same, same_bytes}
use Rattle.sdp_format.proofs.Said.{found_says, says_found, none_lacks, lacks_none, some_text}
use Rattle.sdp_format.proofs.Said.{has_says, says_has, lacks_has, text_known, double_says}
use Rattle.sdp_format.proofs.Said.{says_double, not_none}
use Rattle.sdp_format.proofs.BadItems.{bad_any, said_width, said_height, said_rate}
use Rattle.sdp_format.proofs.BadItems.{said_colorimetry, said_range}
use Rattle.sdp_format.proofs.Again.{not_true}
use Rattle.sdp_format.proofs.Steps.{Below, Told, more, refuse, want, there, follow}

abbrev pub Of : List Item → SdpFault → Type 0
Of is f = ItemFault is f

pub not_false : (a : Bool) → not a ≡ false → a ≡ true
not_false true e = refl
not_false false e = sym e

-- words of samplings, depths, ranges and packings
named_sampling : (text : List ℕ) (s : Sampling) → sampling_named text ≡ Some s
    → text ≡ sampling_text s
unfolding sampling_named
named_sampling text s e =
    by_words (bytes_eq text (codes "YCbCr-4:2:2")) (bytes_eq text (codes "YCbCr-4:4:4"))
    (bytes_eq text (codes "RGB")) refl refl refl e
  where
    by_words : (a b c : Bool) → bytes_eq text (codes "YCbCr-4:2:2") ≡ a
        → bytes_eq text (codes "YCbCr-4:4:4") ≡ b → bytes_eq text (codes "RGB") ≡ c
        → cond a (Some Ycc422) (cond b (Some Ycc444) (cond c (Some Rgb) None)) ≡ Some s
        → text ≡ sampling_text s
    by_words true b c p q r e =
        bytes_same text (codes "YCbCr-4:2:2") p ∙ ap sampling_text (let h : Ycc422 ≡ s = cc in h)
    by_words false true c p q r e =
        bytes_same text (codes "YCbCr-4:4:4") q ∙ ap sampling_text (let h : Ycc444 ≡ s = cc in h)
    by_words false false true p q r e =
        bytes_same text (codes "RGB") r ∙ ap sampling_text (let h : Rgb ≡ s = cc in h)
    by_words false false false p q r e = absurd (not_none s (sym e))

named_depth : (text : List ℕ) (d : Depth) → depth_named text ≡ Some d → text ≡ depth_text d
unfolding depth_named
named_depth text d e =
    by_words (bytes_eq text (codes "8")) (bytes_eq text (codes "10")) (bytes_eq text (codes "12"))
    (bytes_eq text (codes "16")) refl refl refl refl e
  where
    by_words : (w x y z : Bool) → bytes_eq text (codes "8") ≡ w → bytes_eq text (codes "10") ≡ x
        → bytes_eq text (codes "12") ≡ y → bytes_eq text (codes "16") ≡ z
        → cond w (Some D8) (cond x (Some D10) (cond y (Some D12) (cond z (Some D16) None)))
        ≡ Some d → text ≡ depth_text d
    by_words true x y z o p q r e =
        bytes_same text (codes "8") o ∙ ap depth_text (let h : D8 ≡ d = cc in h)
    by_words false true y z o p q r e =
        bytes_same text (codes "10") p ∙ ap depth_text (let h : D10 ≡ d = cc in h)
    by_words false false true z o p q r e =
        bytes_same text (codes "12") q ∙ ap depth_text (let h : D12 ≡ d = cc in h)
    by_words false false false true o p q r e =
        bytes_same text (codes "16") r ∙ ap depth_text (let h : D16 ≡ d = cc in h)
    by_words false false false false o p q r e = absurd (not_none d (sym e))

abbrev range_word : Range → List ℕ
range_word Narrow = codes "NARROW"
range_word FullProtect = codes "FULLPROTECT"
range_word Full = codes "FULL"

pub named_range : (text : List ℕ) (g : Range) → range_named text ≡ Some g → text ≡ range_word g
unfolding range_named
named_range text g e =
    by_words (bytes_eq text (codes "NARROW")) (bytes_eq text (codes "FULLPROTECT"))
    (bytes_eq text (codes "FULL")) refl refl refl e
  where
    by_words : (a b c : Bool) → bytes_eq text (codes "NARROW") ≡ a
        → bytes_eq text (codes "FULLPROTECT") ≡ b → bytes_eq text (codes "FULL") ≡ c
        → cond a (Some Narrow) (cond b (Some FullProtect) (cond c (Some Full) None)) ≡ Some g
        → text ≡ range_word g
    by_words true b c p q r e =
        bytes_same text (codes "NARROW") p ∙ ap range_word (let h : Narrow ≡ g = cc in h)
    by_words false true c p q r e =
        bytes_same text (codes "FULLPROTECT") q ∙ ap range_word (let h : FullProtect ≡ g = cc in h)
    by_words false false true p q r e =
        bytes_same text (codes "FULL") r ∙ ap range_word (let h : Full ≡ g = cc in h)
    by_words false false false p q r e = absurd (not_none g (sym e))

other_sampling : (text : List ℕ) → sampling_named text ≡ None → (s : Sampling)
    → text ≢ sampling_text s
other_sampling text e s h = not_none s (sym (sampling_again s) ∙ ap sampling_named (sym h) ∙ e)

other_depth : (text : List ℕ) → depth_named text ≡ None → (d : Depth) → text ≢ depth_text d
other_depth text e d h = not_none d (sym (depth_again d) ∙ ap depth_named (sym h) ∙ e)

-- required names
missing_says : (is : List Item) → lacks_item is ≡ true
    → (name : List ℕ) × Contains required_names name × Lacks is name
missing_says is e = let r =
    not_all_member (has_name is) required_names
    (not_true (list_all (has_name is) required_names) e) in
    (r.0, r.1, lacks_has r.0 is r.2)

says_missing : (is : List Item) → lacks_item is ≡ false
    → (name : List ℕ) × Contains required_names name × Lacks is name → ⊥
says_missing is e m =
    let there : has_name is m.0 ≡ true =
    all_member (has_name is) required_names m.0
    (not_false (list_all (has_name is) required_names) e) m.1 in
    let said = has_says m.0 is there in m.2 said.0 said.1

interlaced_says : (is : List Item) → is_interlaced is ≡ true
    → Has is (codes "interlace") ⊎ Has is (codes "segmented")
interlaced_says is e =
    elim (or_cases (has_name is (codes "interlace")) (has_name is (codes "segmented")) e) [
      | inl h ↦ inl (has_says (codes "interlace") is h)
      | inr h ↦ inr (has_says (codes "segmented") is h)
    ]

says_interlaced : (is : List Item) → Has is (codes "interlace") ⊎ Has is (codes "segmented")
    → is_interlaced is ≡ true
says_interlaced is (inl h) =
    or_left (has_name is (codes "interlace")) (has_name is (codes "segmented"))
    (says_has (codes "interlace") is h)
says_interlaced is (inr h) =
    or_right (has_name is (codes "interlace")) (has_name is (codes "segmented"))
    (says_has (codes "segmented") is h)

pub to_word : (word text : List ℕ) → begins_with word text ≡ true
    → text ≡ word ++ drop (length word) text
to_word word text e = (starts_is Decides-eqb text word (begins_with word text) refl).0 e

pub from_word : (word text rest : List ℕ) → text ≡ word ++ rest → begins_with word text ≡ true
from_word word text rest e = (starts_is Decides-eqb text word (begins_with word text) refl).1 rest e

-- What is known of items behind the tests of single items, of doubles and of missing ones
pub record Sound (is : List Item) : Type 0 where
  pub good : list_any is_bad is ≡ false
  pub single : has_double is ≡ false
  pub whole : lacks_item is ≡ false

-- the value of a required name
said_text : (is : List Item) → Sound is → (name : List ℕ) → Contains required_names name
    → Says is name (text_of name is)
said_text is k name m =
    let there : has_name is name ≡ true =
    all_member (has_name is) required_names name
    (not_false (list_all (has_name is) required_names) k.whole) m in
    found_says name (text_of name is) is (some_text (value_of name is) there)

-- no condition below that of doubles holds of items that are good one by one
below_double : (is : List Item) → list_any is_bad is ≡ false → Below (Of is) 9
below_double is good = record { none = none_of }
  where
    none_of : (g : SdpFault) → sdp_fault_number g < 9 → ItemFault is g → ⊥
    none_of NoMemory l c = c
    none_of NoVideo l c = c
    none_of TooManyLegs l c = c
    none_of BadMediaLine l c = c
    none_of NoRtpmap l c = c
    none_of NotRaw90000 l c = c
    none_of NoFmtp l c = c
    none_of BadParameter l c = not_both _ (bad_any is c) good
    none_of DoubleParameter l c = omega arith
    none_of MissingParameter l c = omega arith
    none_of UnsupportedSampling l c = omega arith
    none_of UnsupportedDepth l c = omega arith
    none_of Interlaced l c = omega arith
    none_of UnsupportedPacking l c = omega arith
    none_of BadSsn l c = omega arith
    none_of BadFormat l c = omega arith
    none_of LegsDiffer l c = c

same_some : {A : Type 0} (x y : A) → Some x ≡ Some y → x ≡ y
same_some x y e = cc

-- a format is given once
same_sampling : (s u : Sampling) → sampling_text s ≡ sampling_text u → s ≡ u
same_sampling s u e =
    same_some s u (sym (sampling_again s) ∙ ap sampling_named e ∙ sampling_again u)

same_depth : (b c : Depth) → depth_text b ≡ depth_text c → b ≡ c
same_depth b c e = same_some b c (sym (depth_again b) ∙ ap depth_named e ∙ depth_again c)

one_text : (is : List Item) (name a b : List ℕ) → has_double is ≡ false → Says is name a
    → Says is name b → a ≡ b
one_text is name a b single m n =
    sym (text_known name a is single m) ∙ text_known name b is single n

one_value : {A : Type 0} (f : List ℕ → Option A) (is : List Item) (name a b : List ℕ) (x y : A)
    → has_double is ≡ false → Says is name a → Says is name b → f a ≡ Some x → f b ≡ Some y → x ≡ y
one_value f is name a b x y single m n e h =
    same_some x y (sym e ∙ ap f (one_text is name a b single m n) ∙ h)

pub given_once : (is : List Item) (g h : Fields) → has_double is ≡ false → IsGiven is g
    → IsGiven is h
    → format_at g.sampling g.depth g.width g.height g.n g.d
    ≡ format_at h.sampling h.depth h.width h.height h.n h.d
given_once is g h single i j =
    let s : g.sampling ≡ h.sampling =
    same_sampling g.sampling h.sampling
    (one_text is (codes "sampling") (sampling_text g.sampling)
    (sampling_text h.sampling) single i.sampling j.sampling) in
    let b : g.depth ≡ h.depth =
    same_depth g.depth h.depth
    (one_text is (codes "depth") (depth_text g.depth)
    (depth_text h.depth) single i.depth j.depth) in
    let w : g.width ≡ h.width =
    one_value number is
    (codes "width") i.width.0 j.width.0 g.width h.width single i.width.1 j.width.1 i.width.2
    j.width.2 in
    let t : g.height ≡ h.height =
    one_value number is
    (codes "height") i.height.0 j.height.0 g.height h.height single i.height.1 j.height.1
    i.height.2 j.height.2 in
    let r : (g.n, g.d) ≡ (h.n, h.d) =
    one_value rate is (codes "exactframerate") i.rate_given.0 j.rate_given.0 (g.n, g.d)
    (h.n, h.d) single i.rate_given.1 j.rate_given.1 i.rate_given.2 j.rate_given.2 in
    let n : g.n ≡ h.n = ap (λ (p : ℕ × ℕ). p.0) r in
    let d : g.d ≡ h.d = ap (λ (p : ℕ × ℕ). p.1) r in
    same_made g.sampling h.sampling g.depth h.depth g.width h.width g.height h.height g.n h.n g.d
    h.d s b w t n d
  where
    same_made : (s u : Sampling) (b c : Depth) (w x h y n m d e : ℕ) → s ≡ u → b ≡ c → w ≡ x
        → h ≡ y → n ≡ m → d ≡ e
        → format_at s b w h n d ≡ format_at u c x y m e
    same_made s u b c w x h y n m d e es eb ew eh en ed =
        ap (λ (z : Sampling). format_at z b w h n d) es
        ∙ ap (λ (z : Depth). format_at u z w h n d) eb
        ∙ ap (λ (z : ℕ). format_at u c z h n d) ew
        ∙ ap (λ (z : ℕ). format_at u c x z n d) eh ∙ ap (λ (z : ℕ). format_at u c x y z d) en
        ∙ ap (λ (z : ℕ). format_at u c x y m z) ed

-- What items say of a format
pub record SaysFormat (is : List Item) (f : Fields) : Type 0 where
  pub given : Fields
  pub is_given : IsGiven is given
  pub made : format_at given.sampling given.depth given.width given.height given.n given.d ≡ Ok f

-- the last test of a format
format_end : (is : List Item) (g : Fields) → has_double is ≡ false → IsGiven is g → Below (Of is) 16
    → Told 18 (Of is) (SaysFormat is)
    (or_fault (format_at g.sampling g.depth g.width g.height g.n g.d))
format_end is g single i b =
    (elim (format_at g.sampling g.depth g.width g.height g.n g.d)
    as (λ q. format_at g.sampling g.depth g.width g.height g.n g.d ≡ q
    → Told 18 (Of is) (SaysFormat is) (or_fault q)) [
      | Ok f ↦ λ e. (
        record { given = g; is_given = i; made = e },
        more (Of is) LegsDiffer 18 refl
            (more (Of is) BadFormat 17 refl b
            (λ c. made_twice (given_once is c.0 g single c.1 i ∙ e) c.2)) (λ c. c),
      )
      | Err x ↦ λ e. ((g, i, err_is e), b)
    ]) refl
  where
    made_twice : {E : Type 0} {q : Result Fields E} {f : Fields} → q ≡ Ok f → IsErr q → ⊥
    made_twice e h = not_both false (sym (ap is_err e) ∙ h) refl

    err_is : {E : Type 0} {q : Result Fields E} {x : E} → q ≡ Err x → IsErr q
    err_is e = ap is_err e

in_required : (k : ℕ) (name : List ℕ) → k < 8 → slice_index_or required_names k name ≡ name
    → Contains required_names name
in_required k name below e = (k, below, e)

pub format_told : (is : List Item) → Sound is → Below (Of is) 11
    → Told 18 (Of is) (SaysFormat is) (format_of is)
unfolding format_of
format_told is k b =
    want 18 (Of is) (SaysFormat is) UnsupportedSampling
    (sampling_named (text_of (codes "sampling") is)) _ b
    (λ e. (
      text_of (codes "sampling") is,
      said_text is k (codes "sampling") (in_required 0 (codes "sampling") (lit< tt) refl),
      other_sampling (text_of (codes "sampling") is) e,
    ))
    (λ s e c. c.2 s
    (sym (text_known (codes "sampling") c.0 is k.single c.1)
    ∙ named_sampling (text_of (codes "sampling") is) s e))
    (λ s es b.
    want 18 (Of is) (SaysFormat is) UnsupportedDepth (depth_named (text_of (codes "depth") is)) _ b
    (λ e. (
      text_of (codes "depth") is,
      said_text is k (codes "depth") (in_required 4 (codes "depth") (lit< tt) refl),
      other_depth (text_of (codes "depth") is) e,
    ))
    (λ d e c. c.2 d
    (sym (text_known (codes "depth") c.0 is k.single c.1)
    ∙ named_depth (text_of (codes "depth") is) d e))
    (λ d ed b.
    refuse 18 (Of is) (SaysFormat is) Interlaced (is_interlaced is) _ b (interlaced_says is)
    (λ e c. not_both _ (says_interlaced is c) e)
    (λ ei b.
    refuse 18 (Of is) (SaysFormat is) UnsupportedPacking
    (not (bytes_eq (text_of (codes "PM") is) (codes "2110GPM"))) _ b
    (λ e. (
      text_of (codes "PM") is,
      said_text is k (codes "PM") (in_required 6 (codes "PM") (lit< tt) refl),
      λ h. not_both _ (same_bytes (text_of (codes "PM") is) (codes "2110GPM") h) (not_true _ e),
    ))
    (λ e c. c.2
    (sym (text_known (codes "PM") c.0 is k.single c.1)
    ∙ bytes_same (text_of (codes "PM") is) (codes "2110GPM") (not_false _ e)))
    (λ ep b.
    refuse 18 (Of is) (SaysFormat is) BadSsn
    (not (begins_with (codes "ST2110-20:") (text_of (codes "SSN") is))) _ b
    (λ e. (
      text_of (codes "SSN") is,
      said_text is k (codes "SSN") (in_required 7 (codes "SSN") (lit< tt) refl),
      λ rest h. not_both _ (from_word (codes "ST2110-20:") (text_of (codes "SSN") is) rest h)
          (not_true _ e),
    ))
    (λ e c. c.2 (drop 10 (text_of (codes "SSN") is))
    (sym (text_known (codes "SSN") c.0 is k.single c.1)
    ∙ to_word (codes "ST2110-20:") (text_of (codes "SSN") is) (not_false _ e)))
    (λ en b.
    there 18 (Of is) (SaysFormat is) BadParameter (number (text_of (codes "width") is)) _
    (said_width is (text_of (codes "width") is) k.good (width_said is k)) (λ w ew.
    there 18 (Of is) (SaysFormat is) BadParameter (number (text_of (codes "height") is)) _
    (said_height is (text_of (codes "height") is) k.good (height_said is k)) (λ h eh.
    there 18 (Of is) (SaysFormat is) BadParameter (rate (text_of (codes "exactframerate") is)) _
    (said_rate is (text_of (codes "exactframerate") is) k.good (rate_said is k)) (λ r er.
    format_end is
    (record { sampling = s; depth = d; width = w; height = h; n = r.0; d = r.1 }) k.single
    (record {
      sampling =
          named_says is (codes "sampling") (text_of (codes "sampling") is) (sampling_text s)
          (named_sampling (text_of (codes "sampling") is) s es)
          (said_text is k (codes "sampling") (in_required 0 (codes "sampling") (lit< tt) refl));
      depth =
          named_says is (codes "depth") (text_of (codes "depth") is) (depth_text d)
          (named_depth (text_of (codes "depth") is) d ed)
          (said_text is k (codes "depth") (in_required 4 (codes "depth") (lit< tt) refl));
      width = (text_of (codes "width") is, width_said is k, ew);
      height = (text_of (codes "height") is, height_said is k, eh);
      rate_given = (text_of (codes "exactframerate") is, rate_said is k, er);
    }) b))))))))
  where
    named_says : (is : List Item) (name a b : List ℕ) → a ≡ b → Says is name a → Says is name b
    named_says is name a b e m = let P : List ℕ → Type 0 = λ v. Says is name v in subst P e m

    width_said : (is : List Item) → Sound is → Says is (codes "width") (text_of (codes "width") is)
    width_said is k = said_text is k (codes "width") (in_required 1 (codes "width") (lit< tt) refl)

    height_said : (is : List Item) → Sound is
        → Says is (codes "height") (text_of (codes "height") is)
    height_said is k =
        said_text is k (codes "height") (in_required 2 (codes "height") (lit< tt) refl)

    rate_said : (is : List Item) → Sound is
        → Says is (codes "exactframerate") (text_of (codes "exactframerate") is)
    rate_said is k =
        said_text is k (codes "exactframerate")
        (in_required 3 (codes "exactframerate") (lit< tt) refl)

says_range : (is : List Item) (g : Range) → Says is (codes "RANGE") (range_word g) → SaysRange is g
says_range is Narrow m = inr m
says_range is FullProtect m = m
says_range is Full m = m

range_by : (is : List Item) (g : Range) (o : Option (List ℕ)) → value_of (codes "RANGE") is ≡ o
    → range_or o ≡ Some g → SaysRange is g
range_by is g None e h = let P : Range
    → Type 0 =
    λ r. SaysRange is r in subst P (same_some Narrow g h) (inl (none_lacks (codes "RANGE") is e))
range_by is g (Some text) e h =
    let P : List ℕ → Type 0 = λ v. Says is (codes "RANGE") v in
    says_range is g (subst P (named_range text g h) (found_says (codes "RANGE") text is e))

range_there : (is : List Item) (o : Option (List ℕ)) → list_any is_bad is ≡ false
    → value_of (codes "RANGE") is ≡ o → range_or o ≡ None → ⊥
range_there is None good e h = not_none Narrow h
range_there is (Some text) good e h =
    said_range is text good (found_says (codes "RANGE") text is e) h

cond_same : (t : Bool) (x y : List ℕ) → cond t (Some x) None ≡ Some y → x ≡ y
cond_same true x y e = same_some x y e
cond_same false x y e = absurd (not_none y (sym e))

colorimetry_same : (text c : List ℕ) → colorimetry text ≡ Some c → text ≡ c
unfolding colorimetry
colorimetry_same text c e = cond_same _ text c e

-- The faults of items in their order, or what they say
pub leg_told : (pt : ℕ) (is : List Item) → list_any is_bad is ≡ false
    → Told 18 (Of is) (λ l. IsSaid is l × (l.payload_type ≡ pt)) (leg_of pt is)
unfolding leg_of said_in
leg_told pt is good =
    refuse 18 (Of is) (λ l. IsSaid is l × (l.payload_type ≡ pt)) DoubleParameter (has_double is) _
    (below_double is good) (double_says is) (λ e c. not_both _ (says_double is c) e)
    (λ single b.
    refuse 18 (Of is) (λ l. IsSaid is l × (l.payload_type ≡ pt)) MissingParameter
    (lacks_item is) _ b (missing_says is) (says_missing is)
    (λ whole b.
    let k : Sound is = record { good = good; single = single; whole = whole } in
    follow 18 18 (Of is) (SaysFormat is) (λ l. IsSaid is l × (l.payload_type ≡ pt))
    (format_of is) _ (format_told is k b) (λ f sf b.
    there 18 (Of is) (λ l. IsSaid is l × (l.payload_type ≡ pt)) BadParameter
    (range_or (value_of (codes "RANGE") is)) _
    (range_there is (value_of (codes "RANGE") is) good refl) (λ g eg.
    there 18 (Of is) (λ l. IsSaid is l × (l.payload_type ≡ pt)) BadParameter
    (colorimetry (text_of (codes "colorimetry") is)) _
    (said_colorimetry is (text_of (codes "colorimetry") is) good (colour_said is k)) (λ c ec. (
      (
        record {
          given = sf.given;
          is_given = sf.is_given;
          format = sf.made;
          range = range_by is g (value_of (codes "RANGE") is) refl eg;
          colorimetry =
              colour_same is c (colorimetry_same (text_of (codes "colorimetry") is) c ec)
              (colour_said is k);
        },
        refl,
      ),
      b,
    ))))))
  where
    colour_said : (is : List Item) → Sound is
        → Says is (codes "colorimetry") (text_of (codes "colorimetry") is)
    colour_said is k =
        said_text is k (codes "colorimetry") (in_required 5 (codes "colorimetry") (lit< tt) refl)

    colour_same : (is : List Item) (c : List ℕ) → text_of (codes "colorimetry") is ≡ c
        → Says is (codes "colorimetry") (text_of (codes "colorimetry") is)
        → Says is (codes "colorimetry") c
    colour_same is c e m = let P : List ℕ
        → Type 0 = λ v. Says is (codes "colorimetry") v in subst P e m

-- what items say is one
range_known : (is : List Item) (g : Range) → has_double is ≡ false → SaysRange is g
    → range_or (value_of (codes "RANGE") is) ≡ Some g
unfolding range_named
range_known is Narrow single (inl l) = ap range_or (lacks_none (codes "RANGE") is l)
range_known is Narrow single (inr m) =
    ap range_or (says_found (codes "RANGE") (codes "NARROW") is single m)
range_known is FullProtect single m =
    ap range_or (says_found (codes "RANGE") (codes "FULLPROTECT") is single m)
range_known is Full single m = ap range_or (says_found (codes "RANGE") (codes "FULL") is single m)

abbrev leg : ℕ → Fields → Range → List ℕ → Leg
leg p f r c = record { payload_type = p; format = f; range = r; colorimetry = c }

pub said_once : (is : List Item) (l m : Leg) → has_double is ≡ false
    → l.payload_type ≡ m.payload_type → IsSaid is l → IsSaid is m → l ≡ m
said_once is l m single p a b =
    let f : l.format ≡ m.format =
    same_ok _ l.format m.format
    (sym (given_once is a.given b.given single a.is_given b.is_given) ∙ a.format) b.format in
    let r : l.range ≡ m.range =
    same_some l.range m.range
    (sym (range_known is l.range single a.range) ∙ range_known is m.range single b.range) in
    let c : l.colorimetry ≡ m.colorimetry =
    one_text is
    (codes "colorimetry") l.colorimetry m.colorimetry single a.colorimetry b.colorimetry in
    same_leg {p = l.payload_type} {q = m.payload_type} {f = l.format} {g = m.format} {r =
    l.range} {s = m.range} {c = l.colorimetry} {d = m.colorimetry} p f r c
  where
    same_ok : {E : Type 0} (r : Result Fields E) (x y : Fields) → r ≡ Ok x → r ≡ Ok y → x ≡ y
    same_ok r x y e h = cc

    same_leg : {p q : ℕ} {f g : Fields} {r s : Range} {c d : List ℕ} → p ≡ q → f ≡ g → r ≡ s → c ≡ d
        → leg p f r c ≡ leg q g s d
    same_leg {p = p} {q = q} {f = f} {g = g} {r = r} {s = s} {c = c} {d = d} ep ef er ec =
        ap (λ (z : ℕ). leg z f r c) ep ∙ ap (λ (z : Fields). leg q z r c) ef
        ∙ ap (λ (z : Range). leg q g z c) er ∙ ap (λ (z : List ℕ). leg q g s z) ec
