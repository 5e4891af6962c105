-- The forms of a picture's file: their words, the endings of names, and what each holds (own).
use Rattle.std.specs.Prelude.{ℕ, ◌-◌, if◌then◌else◌, List, length, drop, codes, ⊤}
use Rattle.std.specs.Prelude.{Option, Some, None}
use Rattle.std.specs.Str.{bytes_eq}
use Rattle.st_format.specs.declared.sampling.Sampling.{Sampling}
use Rattle.picture_forms.specs.Layouts.{IsRgb, IsYcc}
use Rattle.form_files.specs.declared.form.Form.{Form}
use Rattle.form_files.specs.declared.form.Form.TheVariants.{Picture, Y4m, Pixmap, Raw}

-- the word by which a form is asked for
abbrev pub form_word : Form → List ℕ
form_word Picture = codes "picture"
form_word Y4m = codes "y4m"
form_word Pixmap = codes "ppm"
form_word Raw = codes "raw"

-- the form of a word, by one comparison after another
unfoldable pub form_named : List ℕ → Option Form
form_named word =
    if bytes_eq word (codes "picture") then Some Picture else
    (if bytes_eq word (codes "y4m") then Some Y4m else
    (if bytes_eq word (codes "ppm") then Some Pixmap else
    (if bytes_eq word (codes "raw") then Some Raw else None)))

-- the last four octets of a name, or all
abbrev pub last_four : List ℕ → List ℕ
last_four name = drop (length name - 4) name

-- the form that a name says by how it ends
unfoldable pub form_by_ending : List ℕ → Form
form_by_ending name =
    if bytes_eq (last_four name) (codes ".y4m") then Y4m else
    (if bytes_eq (last_four name) (codes ".ppm") then Pixmap else
    (if bytes_eq (last_four name) (codes ".raw") then Raw else Picture))

-- a form holds pictures of this sampling: YUV4MPEG2 YCbCr alone, and a pixmap RGB alone
abbrev pub HoldsSampling : Form → Sampling → Type 0
HoldsSampling Picture s = ⊤
HoldsSampling Y4m s = IsYcc s
HoldsSampling Pixmap s = IsRgb s
HoldsSampling Raw s = ⊤
