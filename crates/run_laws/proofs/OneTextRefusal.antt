-- Of an SDP text by which a receiver is opened one refusal is told, but for the place of the text's
-- fault.
use Rattle.std.proofs.Common.{◌≡◌, ◌∙◌, ℕ, ◌⊎◌, inl, inr, List, [], refl, sym, ap, subst}
use Rattle.path_receiver.specs.declared.fault.OpenFault.{OpenFault}
use Rattle.path_receiver.specs.declared.fault.OpenFault.TheVariants as open_fault
use Rattle.run_outcome.specs.declared.refusal.Refusal.{Refusal}
use Rattle.run_outcome.specs.declared.refusal.Refusal.TheVariants as why
use Rattle.sdp_format.specs.Bytes.{lines}
use Rattle.sdp_format.specs.Grammar.{IsTextFault}
use Rattle.sdp_format.specs.Sections.{video_sections}
use Rattle.sdp_format.specs.declared.place.Located.{Located}
use Rattle.capture_engines.specs.Received.{IsFrontRefusal, IsOpeningRefusal, IsWindowFault}
use Rattle.capture_engines.specs.Received.{Opens}
use Rattle.run_outcome.specs.TextRefusals.{IsDescriptionRefusal, IsSdp}
use Rattle.run_laws.specs.Told.{AreOfOneFault}
use Rattle.run_laws.proofs.NoTextFault.{no_text_fault, of_one_fault, one_text_fault}
use Rattle.run_laws.proofs.WholeFiles.{window_not}

abbrev pub One : Refusal → Refusal → Type 0
One r q = (r ≡ q) ⊎ AreOfOneFault r q

-- of the text
abbrev OfText : List ℕ → Refusal → Type 0
OfText text r =
    (at : Located) × (r ≡ why.Sdp at) × IsTextFault (video_sections (lines text)) at.fault

-- ---- what it says

description_of : (text : List ℕ) (r : Refusal) → IsDescriptionRefusal text r → OfText text r
description_of text (why.Sdp at) is = (at, refl, is)
description_of text r is = absurd is

pub one_described : (text : List ℕ) (r q : Refusal) → IsDescriptionRefusal text r
    → IsDescriptionRefusal text q → One r q
one_described text r q is other =
    let a = description_of text r is in
    let b = description_of text q other in
    inr (of_one_fault r q a.0 b.0 a.1 b.1 (one_text_fault text a.0.fault b.0.fault a.2 b.2))

-- where it describes a video it isn't refused
pub described_none : (text : List ℕ) (r : Refusal) → IsSdp text → IsDescriptionRefusal text r → ⊥
described_none text r said is =
    let a = description_of text r is in
    no_text_fault text said.0 a.0.fault said.1 a.2

-- ---- opening a receiver

-- which it is: of the text; of the window
opening_of : (window text : List ℕ) (r : Refusal) → IsOpeningRefusal window text r
    → OfText text r
    ⊎ ((e : OpenFault) × (r ≡ why.Open e) × IsSdp text × IsWindowFault window e)
opening_of window text (why.Sdp at) is = inl (at, refl, is)
opening_of window text (why.Open e) is = inr (e, refl, is.0, is.1)
opening_of window text r is = absurd is

one_window_fault : (window : List ℕ) (d e : OpenFault) → IsWindowFault window d
    → IsWindowFault window e → d ≡ e
one_window_fault window open_fault.BadWindow open_fault.BadWindow is other = refl
one_window_fault window open_fault.BadWindow open_fault.DoubleTimestamp is other =
    absurd (is other.0)
one_window_fault window open_fault.BadWindow open_fault.NoMemory is other = absurd other
one_window_fault window open_fault.DoubleTimestamp open_fault.BadWindow is other =
    absurd (other is.0)
one_window_fault window open_fault.DoubleTimestamp open_fault.DoubleTimestamp is other = refl
one_window_fault window open_fault.DoubleTimestamp open_fault.NoMemory is other = absurd other
one_window_fault window open_fault.NoMemory e is other = absurd is

pub one_opening : (window text : List ℕ) (r q : Refusal) → IsOpeningRefusal window text r
    → IsOpeningRefusal window text q → One r q
one_opening window text r q is other =
    by (opening_of window text r is) (opening_of window text q other)
  where
    by : OfText text r
        ⊎ ((e : OpenFault) × (r ≡ why.Open e) × IsSdp text × IsWindowFault window e)
        → OfText text q
        ⊎ ((e : OpenFault) × (q ≡ why.Open e) × IsSdp text × IsWindowFault window e)
        → One r q
    by (inl a) (inl b) =
        inr (of_one_fault r q a.0 b.0 a.1 b.1 (one_text_fault text a.0.fault b.0.fault a.2 b.2))
    by (inl a) (inr b) = absurd (no_text_fault text b.2.0 a.0.fault b.2.1 a.2)
    by (inr a) (inl b) = absurd (no_text_fault text a.2.0 b.0.fault a.2.1 b.2)
    by (inr a) (inr b) =
        inl (a.1
        ∙ ap (λ (e : OpenFault). why.Open e) (one_window_fault window a.0 b.0 a.3 b.3)
        ∙ sym b.1)

-- where one is opened it isn't refused
pub opening_none : (window text : List ℕ) (r : Refusal) → Opens window text
    → IsOpeningRefusal window text r → ⊥
opening_none window text r opens is = by (opening_of window text r is)
  where
    by : OfText text r
        ⊎ ((e : OpenFault) × (r ≡ why.Open e) × IsSdp text × IsWindowFault window e) → ⊥
    by (inl a) = no_text_fault text opens.sdp.0 a.0.fault opens.sdp.1 a.2
    by (inr b) = window_not b.0 window opens.is_window b.3

-- so of the text of a file, which may be none
pub front_of : (window text : List ℕ) (r : Refusal) → IsFrontRefusal window text r
    → ((r ≡ why.ReceiveNoSdp) × (text ≡ []))
    ⊎ ((text ≡ [] → ⊥) × IsOpeningRefusal window text r)
front_of window text why.ReceiveNoSdp is = inl (refl, is)
front_of window text r is = inr is

pub one_front : (window text : List ℕ) (r q : Refusal) → IsFrontRefusal window text r
    → IsFrontRefusal window text q → One r q
one_front window text r q is other =
    by (front_of window text r is) (front_of window text q other)
  where
    by : ((r ≡ why.ReceiveNoSdp) × (text ≡ []))
        ⊎ ((text ≡ [] → ⊥) × IsOpeningRefusal window text r)
        → ((q ≡ why.ReceiveNoSdp) × (text ≡ []))
        ⊎ ((text ≡ [] → ⊥) × IsOpeningRefusal window text q) → One r q
    by (inl a) (inl b) = inl (a.0 ∙ sym b.0)
    by (inl a) (inr b) = absurd (b.0 a.1)
    by (inr a) (inl b) = absurd (a.0 b.1)
    by (inr a) (inr b) = one_opening window text r q a.1 b.1

pub none_said : IsSdp [] → ⊥
none_said is = is.1

pub front_none : (window text : List ℕ) (r : Refusal) → Opens window text
    → IsFrontRefusal window text r → ⊥
front_none window text r opens is = by (front_of window text r is)
  where
    by : ((r ≡ why.ReceiveNoSdp) × (text ≡ []))
        ⊎ ((text ≡ [] → ⊥) × IsOpeningRefusal window text r) → ⊥
    by (inl a) = none_said (subst (λ (t : List ℕ). IsSdp t) a.1 opens.sdp)
    by (inr b) = opening_none window text r opens b.1
