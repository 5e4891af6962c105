-- What holds where a form's content is at fault.
use Rattle.std.proofs.Common.{ℕ, List}
use Rattle.picture_forms.specs.declared.fault.FormFault.{FormFault}
use Rattle.picture_forms.specs.declared.fault.FormFault.TheVariants.{NoMemory, Device, BadMagic}
use Rattle.picture_forms.specs.declared.fault.FormFault.TheVariants.{BadHeader, UnsupportedForm}
use Rattle.picture_forms.specs.declared.fault.FormFault.TheVariants.{BadFormat, Truncated}
use Rattle.picture_forms.specs.declared.fault.FormFault.TheVariants.{ValueTooLarge}
use Rattle.picture_forms.specs.Faults.{IfContent}

-- so does what follows from it
pub content_map : (f : FormFault) (P Q : Type 0) → (P → Q) → IfContent f P → IfContent f Q
content_map NoMemory P Q then p = tt
content_map Device P Q then p = tt
content_map BadMagic P Q then p = then p
content_map BadHeader P Q then p = then p
content_map UnsupportedForm P Q then p = then p
content_map BadFormat P Q then p = then p
content_map Truncated P Q then p = then p
content_map ValueTooLarge P Q then p = then p

-- and what holds of all octets that were read
pub content_told : (f : FormFault) (read P : List ℕ → Type 0)
    → ((octets : List ℕ) → read octets → IfContent f (P octets))
    → IfContent f ((octets : List ℕ) → read octets → P octets)
content_told NoMemory read P all = tt
content_told Device read P all = tt
content_told BadMagic read P all = all
content_told BadHeader read P all = all
content_told UnsupportedForm read P all = all
content_told BadFormat read P all = all
content_told Truncated read P all = all
content_told ValueTooLarge read P all = all
