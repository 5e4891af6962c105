-- The form that words ask for (own).
use Rattle.std.specs.Prelude.{ℕ, List, Option, None, Some}
use Rattle.form_files.specs.Form.{form_by_ending, form_named}
use Rattle.form_files.specs.declared.form.Form.{Form}

-- a form that was named, or else that of a file's name
abbrev pub form_or_ending : Option Form → List ℕ → Form
form_or_ending None name = form_by_ending name
form_or_ending (Some f) name = f

-- the form of a word, where one is given
abbrev pub form_asked : Option (List ℕ) → List ℕ → Form
form_asked None name = form_by_ending name
form_asked (Some word) name = form_or_ending (form_named word) name
