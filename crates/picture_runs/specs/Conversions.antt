-- What `convert` is asked for, by the words of the command line (own).
use Rattle.std.specs.Prelude.{◌≡◌, ℕ}
use Rattle.std.specs.Option.{option_copied}
use Rattle.st_format.specs.declared.rate.Rate.{Rate}
use Rattle.command_line.specs.declared.words.ConvertWords.{ConvertWords}
use Rattle.convert_engine.specs.declared.converting.Conversion.{Conversion}
use Rattle.convert_engine.specs.declared.converting.InputForm.{InputForm}
use Rattle.convert_engine.specs.declared.converting.InputForm.TheVariants as input
use Rattle.form_files.specs.declared.form.Form.{Form}
use Rattle.form_files.specs.declared.form.Form.TheVariants as form
use Rattle.picture_runs.specs.Asked.{form_asked}

-- how a file of a form is read; packed pgroups alone are none that is read
abbrev pub read_by : Form → ℕ → Rate → InputForm
read_by form.Picture place rate = input.Picture
read_by form.Y4m place rate = input.Y4m place
read_by form.Pixmap place rate = input.Pixmap rate
read_by form.Raw place rate = input.Picture

-- What `convert` is asked for is what its words say.
pub record IsConversionOf (words : ConvertWords) (rate : Rate) (c : Conversion) : Type 0 where
  pub input_is : c.input
      ≡ read_by (form_asked (option_copied words.from) words.input.now) words.place rate
  pub form_is : c.form ≡ form_asked (option_copied words.form) words.out.now
