-- Words and an SDP text open a receiver in one way.
use Rattle.std.proofs.Common.{◌≡◌, ℕ, ◌^◌, ◌<◌, List, [], ◌∷◌, Option, None, Some, Result, Ok}
use Rattle.std.proofs.Common.{codes, length, get_or, refl, sym, ap, ◌∙◌, subst, arith}
use Rattle.std.specs.List.{AllByRecursion}
use Rattle.std.proofs.lemmas.Option.{some_pair_parts}
use Rattle.std.proofs.lemmas.Str.Parse.{digit_at}
use Rattle.st_format.specs.declared.format.Format.{Format}
use Rattle.st_format.specs.Text.{parted}
use Rattle.st_format.proofs.SameFields.{same_format}
use Rattle.sdp_format.specs.declared.fault.SdpFault.{SdpFault}
use Rattle.sdp_format.specs.Bytes.{lines}
use Rattle.sdp_format.specs.Grammar.{IsDescribed}
use Rattle.sdp_format.specs.Sections.{Description, video_sections}
use Rattle.sdp_format.proofs.TextFaults.{text_said}
use Rattle.path_receiver.specs.Opening.{Opening}
use Rattle.media_file.specs.StateFile.{SsrcFits}
use Rattle.run_outcome.specs.Sources.{IsSourceText}
use Rattle.run_outcome.specs.Timestamps.{AreTimestamps, IsNumberOf}
use Rattle.capture_engines.specs.Taking.{AnnouncesStream}
use Rattle.script_engines.proofs.LinesOnce.{one_number}

-- ---- numbers

number_fits : (text : List ℕ) (n : ℕ) → IsNumberOf text n → n < 2 ^ 32
number_fits text n is = subst (λ (k : ℕ). k < 2 ^ 32) (sym is.value) is.is.fits

-- ---- timestamps

abbrev pub Part : Type 0
Part = Option (List ℕ × List ℕ)

pub none_some : (r : Part) (a b : List ℕ) → r ≡ None → r ≡ Some (a, b) → ⊥
none_some None a b none some = absurd cc
none_some (Some p) a b none some = absurd cc

-- A text lists timestamps in one way.
pub one_window : (text : List ℕ) (ts us : List ℕ) → AreTimestamps text ts → AreTimestamps text us
    → ts ≡ us
one_window text [] us p q = absurd p
one_window text (t ∷ []) [] p q = absurd q
one_window text (t ∷ []) (u ∷ []) p q =
    ap (λ (n : ℕ). n ∷ []) (one_number text text t u refl p.1 q.1)
one_window text (t ∷ []) (u ∷ v ∷ us) p q =
    absurd (none_some (parted 44 text) q.0 q.1 p.0 q.2)
one_window text (t ∷ s ∷ ts) [] p q = absurd q
one_window text (t ∷ s ∷ ts) (u ∷ []) p q =
    absurd (none_some (parted 44 text) p.0 p.1 q.0 p.2)
one_window text (t ∷ s ∷ ts) (u ∷ v ∷ us) p q =
    let same = some_pair_parts p.0 q.0 p.1 q.1 (sym p.2 ∙ q.2) in
    let rest : AreTimestamps q.1 (s ∷ ts) =
    subst (λ (l : List ℕ). AreTimestamps l (s ∷ ts)) same.1 p.4 in
    ap (λ (n : ℕ). n ∷ s ∷ ts) (one_number p.0 q.0 t u same.0 p.3 q.3)
    ∙ ap (λ (l : List ℕ). u ∷ l) (one_window q.1 (s ∷ ts) (v ∷ us) rest q.4)

pub window_fits : (text : List ℕ) (ts : List ℕ) → AreTimestamps text ts
    → AllByRecursion (λ t. t < 2 ^ 32) ts
window_fits text [] p = tt
window_fits text (t ∷ []) p = (number_fits text t p.1, tt)
window_fits text (t ∷ s ∷ ts) p = (number_fits p.0 t p.3, window_fits p.1 (s ∷ ts) p.4)

-- ---- sources

-- `any` is no number
any_none : (text : List ℕ) (n : ℕ) → text ≡ codes "any" → IsNumberOf text n → ⊥
any_none text n e is =
    let long : length text ≡ 3 = ap (λ (l : List ℕ). length l) e in
    let first : get_or text 0 0 ≡ 97 = ap (λ (l : List ℕ). get_or l 0 0) e in
    let digit = digit_at text 0 is.is.digits (omega (arith, long)) in
    omega (arith, digit, first)

-- A text says one source, or any.
pub one_source : (text : List ℕ) (a b : Option ℕ) → IsSourceText text a → IsSourceText text b
    → a ≡ b
one_source text None None p q = refl
one_source text None (Some n) p q = absurd (any_none text n p q)
one_source text (Some m) None p q = absurd (any_none text m q p)
one_source text (Some m) (Some n) p q =
    ap (λ (k : ℕ). let s : Option ℕ = Some k in s) (one_number text text m n refl p q)

pub source_fits : (text : List ℕ) (a : Option ℕ) → IsSourceText text a → SsrcFits a
source_fits text None p = tt
source_fits text (Some n) p = number_fits text n p

-- ---- SDP texts

same_said : (d e : Description) → (let r : Result Description SdpFault = Ok d in r ≡ Ok e) → d ≡ e
same_said d e h = cc

one_description : (text : List ℕ) (d e : Description) → IsDescribed (video_sections (lines text)) d
    → IsDescribed (video_sections (lines text)) e → d ≡ e
one_description text d e p q =
    same_said d e (sym ((text_said text d).1 p) ∙ (text_said text e).1 q)

pub one_payload_type : (text : List ℕ) (o q : Opening) → AnnouncesStream text o
    → AnnouncesStream text q → o.payload_type ≡ q.payload_type
one_payload_type text o q oa qa =
    let said : oa.description ≡ qa.description =
    one_description text oa.description qa.description oa.described qa.described in
    oa.payload_type ∙ ap (λ (d : Description). d.leg.payload_type) said ∙ sym qa.payload_type

-- ---- an opening

abbrev opening_by : Format → ℕ → Option ℕ → List ℕ → Opening
opening_by f p ssrc w = record { format = f; payload_type = p; ssrc = ssrc; window = w }

-- The same words and SDP text, the same opening.
pub one_opening : (window source text : List ℕ) (o q : Opening) → AreTimestamps window o.window
    → AreTimestamps window q.window → IsSourceText source o.ssrc → IsSourceText source q.ssrc
    → AnnouncesStream text o → AnnouncesStream text q → o ≡ q
one_opening window source text o q ow qw os qs oa qa =
    let said : oa.description ≡ qa.description =
    one_description text oa.description qa.description oa.described qa.described in
    let format : o.format ≡ q.format =
    same_format o.format q.format
    (oa.format ∙ ap (λ (d : Description). d.leg.format) said ∙ sym qa.format) in
    let type : o.payload_type ≡ q.payload_type = one_payload_type text o q oa qa in
    ap (λ (x : Format). opening_by x o.payload_type o.ssrc o.window) format
    ∙ ap (λ (x : ℕ). opening_by q.format x o.ssrc o.window) type
    ∙ ap (λ (x : Option ℕ). opening_by q.format q.payload_type x o.window)
    (one_source source o.ssrc q.ssrc os qs)
    ∙ ap (opening_by q.format q.payload_type q.ssrc) (one_window window o.window q.window ow qw)
