-- The text of a job (own).
use Rattle.std.specs.Prelude.{◌≡◌, ℕ, List, ◌++◌, codes, Some, ⊤}
use Rattle.bt709_fixed.specs.declared.changes.RangeKind.TheVariants.{Nominal, VideoData}
use Rattle.key_mix.specs.declared.Axis.{Axis}
use Rattle.key_mix.specs.declared.Axis.TheVariants.{Columns, Rows}
use Rattle.key_mix.specs.declared.Job.{Job}
use Rattle.key_mix.specs.declared.Job.TheVariants.{Limit, Gain, ToYcc444, ToYcc422, Wipe, Key}
use Rattle.key_mix.specs.declared.WipeShape.{WipeShape}
use Rattle.st_format.specs.Text.{parted}
use Rattle.run_outcome.specs.Timestamps.{IsNumberOf}

-- a word, and a number behind it
pub record IsWordAndNumber (text word : List ℕ) (n : ℕ) : Type 0 where
  pub digits : List ℕ
  pub text_is : text ≡ word ++ digits
  pub is : IsNumberOf digits n

-- the words before the two numbers of a wipe
abbrev pub axis_word : Axis → List ℕ
axis_word Columns = codes "wipe:columns:"
axis_word Rows = codes "wipe:rows:"

-- a wipe's words, and behind them its position and how soft it is, parted by a colon
pub record IsWipeText (text : List ℕ) (w : WipeShape) : Type 0 where
  pub rest : List ℕ
  pub position : List ℕ
  pub soft : List ℕ
  pub text_is : text ≡ axis_word w.axis ++ rest
  pub parts : parted 58 rest ≡ Some (position, soft)
  pub position_is : IsNumberOf position w.position
  pub soft_is : IsNumberOf soft w.soft

-- the text of a job
abbrev pub IsJobText : List ℕ → Job → Type 0
IsJobText text (Limit Nominal) = text ≡ codes "limit:nominal"
IsJobText text (Limit VideoData) = text ≡ codes "limit:video"
IsJobText text (Gain g) = IsWordAndNumber text (codes "gain:") g
IsJobText text ToYcc444 = text ≡ codes "ycc444"
IsJobText text ToYcc422 = text ≡ codes "ycc422"
IsJobText text (Wipe w) = IsWipeText text w
IsJobText text Key = text ≡ codes "key"

-- a job that has no numbers
abbrev pub IsPlainJob : Job → Type 0
IsPlainJob (Limit range) = ⊤
IsPlainJob (Gain g) = ⊥
IsPlainJob ToYcc444 = ⊤
IsPlainJob ToYcc422 = ⊤
IsPlainJob (Wipe w) = ⊥
IsPlainJob Key = ⊤
