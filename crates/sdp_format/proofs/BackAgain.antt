-- Texts that have the canonical line read back.
use Rattle.std.proofs.Common.{◌≡◌, ℕ, ◌<◌, ◌≤◌, List, [], ◌∷◌, length, Some, Ok, Err, Result, refl}
use Rattle.std.proofs.Common.{subst, sym, arith, codes}
use Rattle.std.specs.Prelude.{MatchResult, IfOk}
use Rattle.std.specs.List.{AllZip}
use Rattle.st_format.proofs.Made.{format_at-fields}
use Rattle.sdp_format.specs.declared.fault.SdpFault.{SdpFault}
use Rattle.sdp_format.specs.declared.fault.SdpFault.TheVariants.{NoMemory}
use Rattle.sdp_format.specs.declared.sdp.Sdp.{Sdp}
use Rattle.sdp_format.specs.Bytes.{lines}
use Rattle.sdp_format.specs.Sections.{Section, Leg, video_sections}
use Rattle.sdp_format.specs.Reading.{listing_walk, section_walk, media_of, first_attribute}
use Rattle.sdp_format.specs.Reading.{is_raw90000, sections_walk, text_walk}
use Rattle.sdp_format.specs.Grammar.{IsFirst}
use Rattle.sdp_format.specs.Canonical.{canonical_line}
use Rattle.sdp_format.specs.Views.{description}
use Rattle.sdp_format.specs.Back.{IsLeg, HasLine, ReadsBack}
use Rattle.sdp_format.proofs.LineForms.{says_media, attribute_says, says_first}
use Rattle.sdp_format.proofs.Law.{line_again, tail_of}
use Rattle.sdp_format.proofs.TextFaults.{one_read, two_read, text_said}

-- what each Sdp says is the leg of a section
pub leg_of_sdp : (s : Sdp) → IsLeg (description s).leg
leg_of_sdp s =
    let w : s.format.width ≤ 8192 = s.format.whole_width.most in
    let h : s.format.height ≤ 8192 = s.format.whole_height.most in
    let n : s.format.n ≤ 1000000 = s.format.sane_rate.most_n in
    let d : s.format.d ≤ 1000000 = s.format.sane_rate.most_d in
    record {
      small_type = s.small_type;
      width = omega arith;
      height = omega arith;
      n = omega arith;
      d = omega arith;
      is_format = format_at-fields s.format;
      is_colorimetry = s.named;
    }

pub section_back : (l : Leg) (s : Section) (port : ℕ) → IsLeg l
    → HasLine s (canonical_line l) l.payload_type port → section_walk s ≡ Ok (port, l)
unfolding section_walk listing_walk is_raw90000
section_back l s port k h =
    let e = line_again l k in
    let first : IsFirst s.lines (codes "a=fmtp:") l.payload_type (tail_of l) =
    record {
      before = h.before;
      line = canonical_line l;
      after = h.after;
      whole = h.whole;
      none =
          h.none;
      first =
          attribute_says (codes "a=fmtp:") l.payload_type (canonical_line l) (tail_of l) e.0;
    } in
    let media : media_of s.media ≡ Some (port, l.payload_type) =
    says_media s.media port l.payload_type h.media in
    let rtpmap : first_attribute (codes "a=rtpmap:") l.payload_type s.lines ≡ Some h.map =
    says_first (codes "a=rtpmap:") l.payload_type s.lines h.map h.rtpmap in
    let fmtp : first_attribute (codes "a=fmtp:") l.payload_type s.lines ≡ Some (tail_of l) =
    says_first (codes "a=fmtp:") l.payload_type s.lines (tail_of l) first in
    rw (media, rtpmap, h.raw, fmtp, e.2, e.1) refl

sections_back : (l : Leg) → IsLeg l → (ss : List Section) (ports : List ℕ)
    → AllZip (λ s port. HasLine s (canonical_line l) l.payload_type port) ss ports
    → 0 < length ports
    → length ports ≤ 2
    → sections_walk ss ≡ Ok (record { ports = ports; leg = l })
sections_back l k [] [] z some few = absurd (omega arith)
sections_back l k [] (p ∷ ps) z some few = absurd z
sections_back l k (s ∷ ss) [] z some few = absurd z
sections_back l k (s ∷ []) (p ∷ []) z some few = one_read s p l (section_back l s p k z.0)
sections_back l k (s ∷ []) (p ∷ q ∷ ps) z some few = absurd z.1
sections_back l k (s ∷ t ∷ ss) (p ∷ []) z some few = absurd z.1
sections_back l k (s ∷ t ∷ []) (p ∷ q ∷ []) z some few =
    two_read s t p q l (section_back l s p k z.0) (section_back l t q k z.1.0)
sections_back l k (s ∷ t ∷ []) (p ∷ q ∷ r ∷ ps) z some few = absurd z.1.1
sections_back l k (s ∷ t ∷ u ∷ ss) (p ∷ q ∷ []) z some few = absurd z.1.1
sections_back l k (s ∷ t ∷ u ∷ ss) (p ∷ q ∷ r ∷ ps) z some few = absurd (omega arith)

pub reads_back : (l : Leg) → IsLeg l → ReadsBack (canonical_line l) l
unfolding text_walk
reads_back l k = λ text ports z some few.
    (text_said text (record { ports = ports; leg = l })).0
    (sections_back l k (video_sections (lines text)) ports z some few)

pub line_back : {X : Type 0} (r : Result X SdpFault) (view : X → List ℕ) (l : Leg) → IsLeg l
    → MatchResult r (λ v. view v ≡ canonical_line l) (λ e. e ≡ NoMemory)
    → IfOk r (λ v. ReadsBack (view v) l)
line_back (Ok v) view l k h = subst (λ (line : List ℕ). ReadsBack line l) (sym h) (reads_back l k)
line_back (Err e) view l k h = tt
