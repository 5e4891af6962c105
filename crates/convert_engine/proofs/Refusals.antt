-- A form's fault as one that ends a run.
use Rattle.std.proofs.Common.{ℕ, List, [], ◌∷◌, inl}
use Rattle.st_format.specs.declared.rate.Rate.{Rate}
use Rattle.picture_forms.specs.declared.fault.FormFault.{FormFault}
use Rattle.picture_forms.specs.declared.fault.FormFault.TheVariants as form
use Rattle.picture_forms.specs.Faults.{CountsFault, IfContent}
use Rattle.run_outcome.specs.Fault.{Blames, counts}
use Rattle.run_outcome.specs.Refusing.{OfRefusal}
use Rattle.run_outcome.specs.declared.fault.Fault.{Fault}
use Rattle.run_outcome.specs.declared.fault.Fault.TheVariants.{Refused, Device, Memory}
use Rattle.run_outcome.proofs.Blaming.{failed_one}
use Rattle.convert_engine.specs.declared.converting.Conversion.{Conversion}
use Rattle.convert_engine.specs.declared.converting.InputForm.TheVariants.{Pixmap, Y4m}
use Rattle.convert_engine.specs.Converting.{IsConvertRefusal, IsInputRefusal, form_fault}
use Rattle.convert_engine.specs.Inputs.{IsPixmapFault, IsStreamFault}

pub stream_refused : (place : ℕ) (read : List ℕ → Type 0) (f : FormFault)
    → IfContent f ((octets : List ℕ) → read octets → IsStreamFault place octets f)
    → OfRefusal (form_fault f) (IsInputRefusal (Y4m place) read)
stream_refused place read form.NoMemory wrong = tt
stream_refused place read form.Device wrong = tt
stream_refused place read form.BadMagic wrong = wrong
stream_refused place read form.BadHeader wrong = wrong
stream_refused place read form.UnsupportedForm wrong = wrong
stream_refused place read form.BadFormat wrong = wrong
stream_refused place read form.Truncated wrong = wrong
stream_refused place read form.ValueTooLarge wrong = wrong

pub pixmap_refused : (rate : Rate) (read : List ℕ → Type 0) (f : FormFault)
    → IfContent f ((octets : List ℕ) → read octets → IsPixmapFault rate.n rate.d octets f)
    → OfRefusal (form_fault f) (IsInputRefusal (Pixmap rate) read)
pixmap_refused rate read form.NoMemory wrong = tt
pixmap_refused rate read form.Device wrong = tt
pixmap_refused rate read form.BadMagic wrong = wrong
pixmap_refused rate read form.BadHeader wrong = wrong
pixmap_refused rate read form.UnsupportedForm wrong = wrong
pixmap_refused rate read form.BadFormat wrong = wrong
pixmap_refused rate read form.Truncated wrong = wrong
pixmap_refused rate read form.ValueTooLarge wrong = wrong

-- what it says of how often a source failed
pub form_blames : (f : FormFault) (old new : ℕ) → CountsFault f old new
    → Blames (counts old new ∷ []) (form_fault f)
form_blames form.NoMemory old new is = is
form_blames form.Device old new is = failed_one old new is
form_blames form.BadMagic old new is = is
form_blames form.BadHeader old new is = is
form_blames form.UnsupportedForm old new is = is
form_blames form.BadFormat old new is = is
form_blames form.Truncated old new is = is
form_blames form.ValueTooLarge old new is = is

-- a refusal of what was read is one of the conversion
pub input_refused : (asked : Conversion) (read : List ℕ → Type 0) (f : Fault)
    → OfRefusal f (IsInputRefusal asked.input read) → OfRefusal f (IsConvertRefusal asked read)
input_refused asked read (Refused r) is = inl is
input_refused asked read Device is = tt
input_refused asked read Memory is = tt
