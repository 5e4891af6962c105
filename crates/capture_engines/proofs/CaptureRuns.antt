-- What a run read of a source that has ended, and a window by which no receiver is opened.
use Rattle.std.proofs.Common.{◌≡◌, ℕ, List, ◌++◌, length, Result, Err, sym, ap, subst, ◌∙◌}
use Rattle.std.proofs.Common.{append-nil, inl, inr, refl}
use Rattle.std.specs.Prelude.{IsErrOf, ◌↔◌}
use Rattle.st_format.specs.History.{IsRead, since}
use Rattle.path_receiver.specs.Opening.{AreDifferent, IsWindowSize}
use Rattle.path_receiver.specs.declared.fault.OpenFault.{OpenFault}
use Rattle.path_receiver.specs.declared.fault.OpenFault.TheVariants as open_fault
use Rattle.run_outcome.specs.LowerFaults.{of_open, of_sdp, sdp_fault}
use Rattle.run_outcome.specs.Refusing.{OfRefusal}
use Rattle.run_outcome.proofs.Refusals.{refused_not}
use Rattle.run_outcome.specs.declared.fault.Fault.{Fault}
use Rattle.run_outcome.specs.declared.fault.Fault.TheVariants.{Memory}
use Rattle.run_outcome.specs.declared.refusal.Refusal.{Refusal}
use Rattle.run_outcome.specs.declared.refusal.Refusal.TheVariants.{Open, Sdp}
use Rattle.sdp_format.specs.Bytes.{lines}
use Rattle.sdp_format.specs.Places.{without_place}
use Rattle.sdp_format.specs.Reading.{WantsMemory}
use Rattle.sdp_format.specs.Sections.{video_sections}
use Rattle.sdp_format.specs.declared.fault.SdpFault.{SdpFault}
use Rattle.sdp_format.specs.declared.fault.SdpFault.TheVariants as sdp_fault_of
use Rattle.sdp_format.specs.declared.place.Located.{Located}
use Rattle.run_outcome.specs.TextRefusals.{IsSdp}
use Rattle.capture_engines.specs.Received.{IsOpeningRefusal, IsWindowFault, WantsOpening}

-- at the end it is all
pub read_all : (before now octets : List ℕ) (ended : Type 0) → IsRead before now ended octets
    → ended → octets ≡ since before now
read_all before now octets ended q over =
    q.parts ∙ ap (λ (l : List ℕ). since before now ++ l) (q.all over)
    ∙ append-nil (since before now)

-- a window by which no receiver is opened is refused
pub window_refused : {V : Type 0} (r : Result V OpenFault) (why : OpenFault) (f : Fault)
    (window text : List ℕ) → r ≡ Err why → IsSdp text
    → IsErrOf r open_fault.BadWindow ↔ (IsWindowSize (length window) → ⊥)
    → IsErrOf r open_fault.DoubleTimestamp
    ↔ (IsWindowSize (length window) × (AreDifferent window → ⊥))
    → f ≡ of_open why → OfRefusal f (IsOpeningRefusal window text)
window_refused r open_fault.NoMemory f window text err sdp size double is =
    subst (λ (g : Fault). OfRefusal g (IsOpeningRefusal window text)) (sym is) tt
window_refused r open_fault.BadWindow f window text err sdp size double is =
    subst (λ (g : Fault). OfRefusal g (IsOpeningRefusal window text)) (sym is) (sdp, size.0 err)
window_refused r open_fault.DoubleTimestamp f window text err sdp size double is =
    subst (λ (g : Fault). OfRefusal g (IsOpeningRefusal window text)) (sym is) (sdp, double.0 err)

-- ---- want of memory

-- of the faults of an SDP text one is
sdp_memory : (e : SdpFault) (r : Refusal) → sdp_fault e r ≡ Memory → e ≡ sdp_fault_of.NoMemory
sdp_memory sdp_fault_of.NoMemory r is = refl
sdp_memory e r is = absurd (refused_not r is)

-- it was wanted for what a text says
pub wants_text : {V : Type 0} (r : Result V Located) (at : Located) (f : Fault)
    (window text : List ℕ) → r ≡ Err at
    → (IsErrOf (without_place r) sdp_fault_of.NoMemory
    → WantsMemory (video_sections (lines text)))
    → f ≡ of_sdp at → f ≡ Memory → WantsOpening window text
wants_text {V} r at f window text err wants is memory =
    let none : at.fault ≡ sdp_fault_of.NoMemory =
    sdp_memory at.fault (Sdp at) (sym is ∙ memory) in
    let first : without_place r ≡ Err at.fault =
    ap (λ (x : Result V Located). without_place x) err in
    inl (wants (subst (λ (e : SdpFault). without_place r ≡ Err e) none first))

err_same : {V : Type 0} (r : Result V OpenFault) (a b : OpenFault) → r ≡ Err a → r ≡ Err b → a ≡ b
err_same r a b here there = cc

size_not : open_fault.BadWindow ≡ open_fault.NoMemory → ⊥
size_not is = cc

double_not : open_fault.DoubleTimestamp ≡ open_fault.NoMemory → ⊥
double_not is = cc

no_window_fault : {V : Type 0} (r : Result V OpenFault) (window : List ℕ)
    → r ≡ Err open_fault.NoMemory
    → IsErrOf r open_fault.BadWindow ↔ (IsWindowSize (length window) → ⊥)
    → IsErrOf r open_fault.DoubleTimestamp
    ↔ (IsWindowSize (length window) × (AreDifferent window → ⊥))
    → (e : OpenFault) → IsWindowFault window e → ⊥
no_window_fault r window err size double open_fault.BadWindow wrong =
    size_not (err_same r open_fault.BadWindow open_fault.NoMemory (size.1 wrong) err)
no_window_fault r window err size double open_fault.DoubleTimestamp wrong =
    double_not (err_same r open_fault.DoubleTimestamp open_fault.NoMemory (double.1 wrong) err)
no_window_fault r window err size double open_fault.NoMemory wrong = wrong

-- it was wanted for a receiver
pub wants_receiver : {V : Type 0} (r : Result V OpenFault) (why : OpenFault) (f : Fault)
    (window text : List ℕ) → r ≡ Err why → IsSdp text
    → IsErrOf r open_fault.BadWindow ↔ (IsWindowSize (length window) → ⊥)
    → IsErrOf r open_fault.DoubleTimestamp
    ↔ (IsWindowSize (length window) × (AreDifferent window → ⊥))
    → f ≡ of_open why → f ≡ Memory → WantsOpening window text
wants_receiver r open_fault.NoMemory f window text err sdp size double is memory =
    inr (sdp, no_window_fault r window err size double)
wants_receiver r open_fault.BadWindow f window text err sdp size double is memory =
    absurd (refused_not (Open open_fault.BadWindow) (sym is ∙ memory))
wants_receiver r open_fault.DoubleTimestamp f window text err sdp size double is memory =
    absurd (refused_not (Open open_fault.DoubleTimestamp) (sym is ∙ memory))
