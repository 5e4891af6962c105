-- Which refusal ends a run, and that it is told.
use Rattle.std.proofs.Common.{◌≡◌, ℕ, ◌≤◌, ◌⊎◌, inl, inr, List, ◌++◌, length}
use Rattle.std.proofs.Common.{Result, Ok, Err, IfErr, refl, ap, append-nil, arith}
use Rattle.std.proofs.Common.{length-append, subst, sym, ◌∙◌}
use Rattle.media_file.specs.Faults.{IfContent}
use Rattle.media_file.specs.PictureFaults.{IsPictureFault}
use Rattle.media_file.specs.declared.fault.FileFault.{FileFault}
use Rattle.media_file.specs.declared.fault.FileFault.TheVariants.{NoMemory, Device, BadName}
use Rattle.media_file.specs.declared.fault.FileFault.TheVariants.{BadVersion, Truncated, BadField}
use Rattle.media_file.specs.declared.fault.FileFault.TheVariants.{TrailingBytes, MixedGroup}
use Rattle.media_file.specs.declared.fault.FileFault.TheVariants.{TooManyRecords}
use Rattle.st_format.specs.Device.{AreOctets}
use Rattle.st_format.specs.History.{IsRead}
use Rattle.st_format.proofs.Histories.{since_is}
use Rattle.sdp_format.specs.Bytes.{lines}
use Rattle.sdp_format.specs.Grammar.{IsTextFault}
use Rattle.sdp_format.specs.Sections.{video_sections}
use Rattle.sdp_format.specs.declared.fault.SdpFault.{SdpFault}
use Rattle.sdp_format.specs.declared.fault.SdpFault.TheVariants as sdp
use Rattle.sdp_format.specs.declared.place.Located.{Located}
use Rattle.run_outcome.specs.declared.status.Status.TheVariants as ended
use Rattle.run_outcome.specs.Fault.{IfRefused}
use Rattle.run_outcome.specs.LowerFaults.{of_sdp, picture_fault, sdp_fault}
use Rattle.run_outcome.specs.TextRefusals.{HasTextFault, IsSdpRefusal, IsTextRefusal}
use Rattle.run_outcome.specs.Refusing.{OfRefusal, TellsOutcome, TellsRefusal}
use Rattle.run_outcome.specs.Pictures.{IsPictureRefusal}
use Rattle.run_outcome.specs.Text.{GivesMore, GivesText}
use Rattle.run_outcome.specs.declared.fault.Fault.{Fault}
use Rattle.run_outcome.specs.declared.fault.Fault.TheVariants as fault
use Rattle.run_outcome.specs.declared.refusal.Refusal.{Refusal}
use Rattle.run_outcome.specs.declared.refusal.Refusal.TheVariants.{Sdp}

-- ---- what holds of a refusal

pub of_refusal_map : {P Q : Refusal → Type 0} (f : Fault) → ((r : Refusal) → P r → Q r)
    → OfRefusal f P → OfRefusal f Q
of_refusal_map (fault.Refused r) then is = then r is
of_refusal_map fault.Device then is = tt
of_refusal_map fault.Memory then is = tt

pub if_err_map : {V E : Type 0} {P Q : E → Type 0} (r : Result V E) → ((e : E) → P e → Q e)
    → IfErr r P → IfErr r Q
if_err_map (Ok v) f p = p
if_err_map (Err e) f p = f e p

-- of a run that isn't refused anything holds where it is
pub none_refused : (P : Refusal → Type 0) (f : Fault) → IfRefused f ⊥ → OfRefusal f P
none_refused P (fault.Refused r) none = absurd none
none_refused P fault.Device none = tt
none_refused P fault.Memory none = tt

pub if_none_refused : {V : Type 0} (P : Refusal → Type 0) (r : Result V Fault)
    → IfErr r (λ f. IfRefused f ⊥) → IfErr r (λ f. OfRefusal f P)
if_none_refused P (Ok v) none = tt
if_none_refused P (Err f) none = none_refused P f none

-- ---- want of memory

-- it is no refusal, and no device's fault
pub refused_not : (r : Refusal) → fault.Refused r ≡ fault.Memory → ⊥
refused_not r is = cc

pub device_not : fault.Device ≡ fault.Memory → ⊥
device_not is = cc

-- what fails by the device alone wants none
pub device_alone : {V : Type 0} (r : Result V Fault) (P : Type 0) → IfErr r (λ f. f ≡ fault.Device)
    → IfErr r (λ f. f ≡ fault.Memory → P)
device_alone (Ok v) P device = tt
device_alone (Err f) P device = λ memory. absurd (device_not (sym device ∙ memory))

-- ---- what is told

-- where what a run came to was told as a refusal, what holds of a refusal holds of that
pub outcome_told : {V : Type 0} (Is : Refusal → Type 0) (r : Result V Fault)
    (took took' : List ℕ) → TellsOutcome r took took' → IfErr r (λ f. OfRefusal f Is)
    → TellsRefusal Is took took'
outcome_told Is (Ok v) took took' told is = absurd told
outcome_told Is (Err f) took took' told is = record {
  refusal = told.refusal;
  is = subst (λ (g : Fault). OfRefusal g Is) told.is is;
  told = told.told;
}

-- ---- migrate

-- what begins with what a source gave
read_parts : (before now : List ℕ) (ended : Type 0) (given octets : List ℕ) → now ≡ before ++ given
    → (read : IsRead before now ended octets) → octets ≡ given ++ read.behind
read_parts before now ended given octets gives read =
    read.parts ∙ ap (λ (l : List ℕ). l ++ read.behind) (since_is before now given gives)

-- where the source has ended it is just that
pub all_read : (before now : List ℕ) (ended : Type 0) (given octets : List ℕ)
    → now ≡ before ++ given → ended → IsRead before now ended octets → octets ≡ given
all_read before now ended given octets gives ends read =
    read_parts before now ended given octets gives read
    ∙ ap (λ (l : List ℕ). given ++ l) (read.all ends) ∙ append-nil given

-- and it is at least that
pub some_read : (before now : List ℕ) (ended : Type 0) (given octets : List ℕ)
    → now ≡ before ++ given → IsRead before now ended octets → length given ≤ length octets
some_read before now ended given octets gives read =
    let counted : length octets ≡ length (given ++ read.behind) =
    ap length (read_parts before now ended given octets gives read) in
    omega (arith, counted, length-append given read.behind)

-- a text that is too long is refused so
pub long_refused : (too_long : Refusal) (before now : List ℕ) (ended : Type 0)
    → GivesMore 65535 before now → IsTextRefusal too_long (IsRead before now ended) too_long
long_refused too_long before now ended gives = inl (
  refl,
  λ octets read.
      let some = some_read before now ended gives.octets octets gives.given read in
      omega (arith, some, gives.many),
)

-- what is said of a text that was read is said of all that the source was read as
pub of_source : (Is : List ℕ → Type 0) (before now : List ℕ) (ended : Type 0) (text : List ℕ)
    → GivesText 65535 before now ended text → Is text → (octets : List ℕ)
    → IsRead before now ended octets → Is octets
of_source Is before now ended text gives is octets read =
    subst Is (sym (all_read before now ended text octets gives.given gives.ended read)) is

pub either : {X Y : Type 0} → (X → ⊥) → X ⊎ Y → Y
either none (inl x) = absurd (none x)
either none (inr y) = y

-- a fault of an SDP text as a refusal
sdp_refused : (told : List ℕ → Type 0) (r : Refusal) (f : SdpFault)
    → (HasTextFault told f → IsSdpRefusal told r) → (f ≡ sdp.NoMemory) ⊎ HasTextFault told f
    → OfRefusal (sdp_fault f r) (IsSdpRefusal told)
sdp_refused told r sdp.NoMemory so is = tt
sdp_refused told r sdp.NoVideo so is =
    so (either (λ memory. let e : sdp.NoVideo ≡ sdp.NoMemory = memory in cc) is)
sdp_refused told r sdp.TooManyLegs so is =
    so (either (λ memory. let e : sdp.TooManyLegs ≡ sdp.NoMemory = memory in cc) is)
sdp_refused told r sdp.BadMediaLine so is =
    so (either (λ memory. let e : sdp.BadMediaLine ≡ sdp.NoMemory = memory in cc) is)
sdp_refused told r sdp.NoRtpmap so is =
    so (either (λ memory. let e : sdp.NoRtpmap ≡ sdp.NoMemory = memory in cc) is)
sdp_refused told r sdp.NotRaw90000 so is =
    so (either (λ memory. let e : sdp.NotRaw90000 ≡ sdp.NoMemory = memory in cc) is)
sdp_refused told r sdp.NoFmtp so is =
    so (either (λ memory. let e : sdp.NoFmtp ≡ sdp.NoMemory = memory in cc) is)
sdp_refused told r sdp.BadParameter so is =
    so (either (λ memory. let e : sdp.BadParameter ≡ sdp.NoMemory = memory in cc) is)
sdp_refused told r sdp.DoubleParameter so is =
    so (either (λ memory. let e : sdp.DoubleParameter ≡ sdp.NoMemory = memory in cc) is)
sdp_refused told r sdp.MissingParameter so is =
    so (either (λ memory. let e : sdp.MissingParameter ≡ sdp.NoMemory = memory in cc) is)
sdp_refused told r sdp.UnsupportedSampling so is =
    so (either (λ memory. let e : sdp.UnsupportedSampling ≡ sdp.NoMemory = memory in cc) is)
sdp_refused told r sdp.UnsupportedDepth so is =
    so (either (λ memory. let e : sdp.UnsupportedDepth ≡ sdp.NoMemory = memory in cc) is)
sdp_refused told r sdp.Interlaced so is =
    so (either (λ memory. let e : sdp.Interlaced ≡ sdp.NoMemory = memory in cc) is)
sdp_refused told r sdp.UnsupportedPacking so is =
    so (either (λ memory. let e : sdp.UnsupportedPacking ≡ sdp.NoMemory = memory in cc) is)
sdp_refused told r sdp.BadSsn so is =
    so (either (λ memory. let e : sdp.BadSsn ≡ sdp.NoMemory = memory in cc) is)
sdp_refused told r sdp.BadFormat so is =
    so (either (λ memory. let e : sdp.BadFormat ≡ sdp.NoMemory = memory in cc) is)
sdp_refused told r sdp.LegsDiffer so is =
    so (either (λ memory. let e : sdp.LegsDiffer ≡ sdp.NoMemory = memory in cc) is)

-- the same, of a text that was read to its end
pub text_fault_refused : (too_long : Refusal) (before now : List ℕ) (ended : Type 0)
    (text : List ℕ) → GivesText 65535 before now ended text → (place : Located)
    → (place.fault ≡ sdp.NoMemory) ⊎ IsTextFault (video_sections (lines text)) place.fault
    → OfRefusal (of_sdp place) (IsTextRefusal too_long (IsRead before now ended))
text_fault_refused too_long before now ended text gives place is =
    of_refusal_map (of_sdp place)
    (λ r said. inr (of_source (λ l. length l ≤ 65535) before now ended text gives gives.few, said))
    (sdp_refused (IsRead before now ended) (Sdp place) place.fault (λ said. said) (of_text is))
  where
    of_text : (place.fault ≡ sdp.NoMemory) ⊎ IsTextFault (video_sections (lines text)) place.fault
        → (place.fault ≡ sdp.NoMemory) ⊎ HasTextFault (IsRead before now ended) place.fault
    of_text (inl memory) = inl memory
    of_text (inr fault) = inr (λ octets read.
        subst (λ (l : List ℕ). IsTextFault (video_sections (lines l)) place.fault)
        (sym (all_read before now ended text octets gives.given gives.ended read)) fault)

-- a fault of a picture's file as a refusal
pub picture_refused : (told : List ℕ → Type 0) (f : FileFault)
    → ((octets : List ℕ) → told octets → AreOctets octets
    → IfContent f (IsPictureFault f octets)) → OfRefusal (picture_fault f) (IsPictureRefusal told)
picture_refused told NoMemory wrong = tt
picture_refused told Device wrong = tt
picture_refused told BadName wrong = wrong
picture_refused told BadVersion wrong = wrong
picture_refused told Truncated wrong = wrong
picture_refused told BadField wrong = wrong
picture_refused told TrailingBytes wrong = wrong
picture_refused told MixedGroup wrong = wrong
picture_refused told TooManyRecords wrong = wrong
