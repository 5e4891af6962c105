-- A writer's fault is the device's: one failure more.
use Rattle.std.proofs.Common.{ℕ}
use Rattle.st_format.specs.Device.{CountsOne}
use Rattle.media_file.specs.declared.fault.FileFault.{FileFault}
use Rattle.media_file.specs.declared.fault.FileFault.TheVariants as file
use Rattle.media_file.specs.Faults as files
use Rattle.picture_forms.specs.declared.fault.FormFault.{FormFault}
use Rattle.picture_forms.specs.declared.fault.FormFault.TheVariants as form
use Rattle.picture_forms.specs.Faults as forms

pub file_counted : (f : FileFault) (old new : ℕ) → files.IsDevice f → files.CountsFault f old new
    → CountsOne old new
file_counted file.Device old new is counted = counted
file_counted _ old new is counted = absurd is

pub form_counted : (f : FormFault) (old new : ℕ) → forms.IsDevice f → forms.CountsFault f old new
    → CountsOne old new
form_counted form.Device old new is counted = counted
form_counted _ old new is counted = absurd is
