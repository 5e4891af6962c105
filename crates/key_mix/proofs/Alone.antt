-- What speaks against the jobs of one picture.
use Rattle.std.proofs.Common.{◌≡◌, ◌≢◌, ◌↔◌, ℕ, ◌<◌, ◌≤◌, [], ◌∷◌, refl, arith, ap, inl, inr}
use Rattle.st_format.specs.declared.format.Format.{Format}
use Rattle.st_format.specs.declared.sampling.Sampling.TheVariants.{Ycc444, Rgb}
use Rattle.bt709_fixed.specs.declared.faults.ColourFault.{ColourFault}
use Rattle.bt709_fixed.specs.declared.faults.ColourFault.TheVariants as colour
use Rattle.bt709_fixed.specs.declared.changes.RangeKind.{RangeKind}
use Rattle.key_mix.specs.Faults.{colour_job_fault}
use Rattle.key_mix.specs.Jobs.{Against, IsFault, IsSoundJob, turn_of}
use Rattle.key_mix.specs.declared.Job.TheVariants.{Limit, Gain, ToYcc444, ToYcc422}
use Rattle.key_mix.specs.declared.faults.JobFault.{JobFault}
use Rattle.key_mix.specs.declared.faults.JobFault.TheVariants.{
  NoMemory,
  FormatsDiffer,
  KeyNotYcc,
  BadWipe,
  NotRgb,
  NotYcc444,
  WrongInputCount,
  BadGain,
}
use Rattle.key_mix.proofs.Refused.{err, fault_of, no_fault, ok}

pub sound_limit : (range : RangeKind) (f : Format) → IsSoundJob (Limit range) (f ∷ [])
sound_limit range f NoMemory h = absurd h
sound_limit range f FormatsDiffer h = absurd h
sound_limit range f KeyNotYcc h = absurd h
sound_limit range f BadWipe h = absurd h
sound_limit range f NotRgb h = absurd h
sound_limit range f NotYcc444 h = absurd h
sound_limit range f WrongInputCount h = absurd (h refl)
sound_limit range f BadGain h = absurd h

pub sound_gain : (g : ℕ) (f : Format) → g ≤ 16384 → IsSoundJob (Gain g) (f ∷ [])
sound_gain g f most NoMemory h = absurd h
sound_gain g f most FormatsDiffer h = absurd h
sound_gain g f most KeyNotYcc h = absurd h
sound_gain g f most BadWipe h = absurd h
sound_gain g f most NotRgb h = absurd h
sound_gain g f most NotYcc444 h = absurd h
sound_gain g f most WrongInputCount h = absurd (h refl)
sound_gain g f most BadGain h = absurd (omega (arith, most, h))

sound_ycc444 : (f : Format) → (f.sampling ≢ Rgb → ⊥) → IsSoundJob ToYcc444 (f ∷ [])
sound_ycc444 f rgb NoMemory h = absurd h
sound_ycc444 f rgb FormatsDiffer h = absurd h
sound_ycc444 f rgb KeyNotYcc h = absurd h
sound_ycc444 f rgb BadWipe h = absurd h
sound_ycc444 f rgb NotRgb h = absurd (rgb h)
sound_ycc444 f rgb NotYcc444 h = absurd h
sound_ycc444 f rgb WrongInputCount h = absurd (h refl)
sound_ycc444 f rgb BadGain h = absurd h

sound_ycc422 : (f : Format) → (f.sampling ≢ Ycc444 → ⊥) → IsSoundJob ToYcc422 (f ∷ [])
sound_ycc422 f full NoMemory h = absurd h
sound_ycc422 f full FormatsDiffer h = absurd h
sound_ycc422 f full KeyNotYcc h = absurd h
sound_ycc422 f full BadWipe h = absurd h
sound_ycc422 f full NotRgb h = absurd h
sound_ycc422 f full NotYcc444 h = absurd (full h)
sound_ycc422 f full WrongInputCount h = absurd (h refl)
sound_ycc422 f full BadGain h = absurd h

-- a matrix that gave a picture, and one that gave none
memory_apart : {T : Type 0} (d : ColourFault) → (colour.NoMemory ≡ d → ⊥)
    → err T colour.NoMemory ≡ err T d → ⊥
memory_apart d apart h = apart (ap (fault_of colour.NoMemory) h)

pub made_ycc444 : {T : Type 0} (x : T) (f : Format)
    → (ok ColourFault x ≡ err T colour.NotRgb) ↔ (f.sampling ≢ Rgb) → IsSoundJob ToYcc444 (f ∷ [])
made_ycc444 x f when = sound_ycc444 f (λ h. no_fault x colour.NotRgb (when.1 h))

pub made_ycc422 : {T : Type 0} (x : T) (f : Format)
    → (ok ColourFault x ≡ err T colour.NotYcc444) ↔ (f.sampling ≢ Ycc444)
    → IsSoundJob ToYcc422 (f ∷ [])
made_ycc422 x f when = sound_ycc422 f (λ h. no_fault x colour.NotYcc444 (when.1 h))

-- no fault comes before the one of the sampling
first_ycc444 : (f : Format) (other : JobFault) → turn_of other < 5
    → Against other ToYcc444 (f ∷ []) → ⊥
first_ycc444 f NoMemory before h = absurd h
first_ycc444 f FormatsDiffer before h = absurd h
first_ycc444 f KeyNotYcc before h = absurd h
first_ycc444 f BadWipe before h = absurd h
first_ycc444 f NotRgb before h = absurd (omega (arith, before))
first_ycc444 f NotYcc444 before h = absurd h
first_ycc444 f WrongInputCount before h = absurd (h refl)
first_ycc444 f BadGain before h = absurd h

first_ycc422 : (f : Format) (other : JobFault) → turn_of other < 6
    → Against other ToYcc422 (f ∷ []) → ⊥
first_ycc422 f NoMemory before h = absurd h
first_ycc422 f FormatsDiffer before h = absurd h
first_ycc422 f KeyNotYcc before h = absurd h
first_ycc422 f BadWipe before h = absurd h
first_ycc422 f NotRgb before h = absurd h
first_ycc422 f NotYcc444 before h = absurd (omega (arith, before))
first_ycc422 f WrongInputCount before h = absurd (h refl)
first_ycc422 f BadGain before h = absurd h

pub fault_ycc444 : {T : Type 0} (e : ColourFault) (f : Format)
    → (err T e ≡ err T colour.NotRgb) ↔ (f.sampling ≢ Rgb) → err T e ≢ err T colour.NotYcc444
    → IsFault (colour_job_fault e) ToYcc444 (f ∷ [])
fault_ycc444 {T} colour.NoMemory f when only =
    inl (refl, sound_ycc444 f (λ h. memory_apart {T = T} colour.NotRgb (λ e. cc) (when.1 h)))
fault_ycc444 colour.NotRgb f when only =
    inr (record { is = when.0 refl; first = first_ycc444 f })
fault_ycc444 colour.NotYcc444 f when only = absurd (only refl)

pub fault_ycc422 : {T : Type 0} (e : ColourFault) (f : Format)
    → (err T e ≡ err T colour.NotYcc444) ↔ (f.sampling ≢ Ycc444) → err T e ≢ err T colour.NotRgb
    → IsFault (colour_job_fault e) ToYcc422 (f ∷ [])
fault_ycc422 {T} colour.NoMemory f when only =
    inl (refl, sound_ycc422 f (λ h. memory_apart {T = T} colour.NotYcc444 (λ e. cc) (when.1 h)))
fault_ycc422 colour.NotRgb f when only = absurd (only refl)
fault_ycc422 colour.NotYcc444 f when only =
    inr (record { is = when.0 refl; first = first_ycc422 f })

-- a gain that is too far
first_gain : (g : ℕ) (f : Format) (other : JobFault) → turn_of other < 1
    → Against other (Gain g) (f ∷ []) → ⊥
first_gain g f NoMemory before h = absurd h
first_gain g f FormatsDiffer before h = absurd h
first_gain g f KeyNotYcc before h = absurd h
first_gain g f BadWipe before h = absurd h
first_gain g f NotRgb before h = absurd h
first_gain g f NotYcc444 before h = absurd h
first_gain g f WrongInputCount before h = absurd (h refl)
first_gain g f BadGain before h = absurd (omega (arith, before))

pub too_far : (g : ℕ) (f : Format) → 16384 < g → IsFault BadGain (Gain g) (f ∷ [])
too_far g f far = inr (record { is = far; first = first_gain g f })
