-- What `picture` is asked for, by the words of the command line (own).
use Rattle.std.specs.Prelude.{◌≡◌, ◌≢◌, Option, None, codes, option_map}
use Rattle.std.specs.Prelude.{IsFalse, IsTrue}
use Rattle.std.specs.Option.{option_copied}
use Rattle.command_line.specs.declared.words.PictureWords.{PictureWords}
use Rattle.devices.specs.Passed.{file_path, written_name}
use Rattle.devices.specs.declared.file_output.FileOutput.{FileOutput}
use Rattle.devices.specs.declared.file_source.FileSource.{FileSource}
use Rattle.picture_engine.specs.declared.asked.PictureAsked.{PictureAsked}
use Rattle.picture_engine.specs.declared.asked.View.{View}
use Rattle.picture_engine.specs.declared.asked.View.TheVariants.{Settled, Marked}
use Rattle.picture_runs.specs.Asked.{form_asked}

-- a frame is shown as the words say: with marks, or settled by the values of their text
abbrev pub IsViewAsked : PictureWords → View → Type 0
IsViewAsked words Marked = IsTrue words.is_marked
IsViewAsked words (Settled text) =
    IsFalse words.is_marked × (option_copied text ≡ option_copied words.fill)

-- what `picture` is asked for is what its words say
pub record IsAskedBy (words : PictureWords) (asked : PictureAsked) : Type 0 where
  pub timestamp : asked.timestamp ≡ words.timestamp
  pub view : IsViewAsked words asked.view
  pub form : asked.form ≡ form_asked (option_copied words.form) words.out.now

-- `picture` does so with the files that its words name; `-` is standard input, and with marks no
-- picture is held.
pub record IsPictureRun (words : PictureWords) (asked : PictureAsked) (state : FileSource)
    (hold : Option FileSource) (out : FileOutput) : Type 0 where
  pub asked_is : IsAskedBy words asked
  pub state_is : words.state.now ≢ codes "-" → file_path state ≡ words.state.now
  pub hold_is : IsFalse words.is_marked
      → option_map file_path hold ≡ option_map (λ n. n.now) words.hold
  pub held_not : IsTrue words.is_marked → hold ≡ None
  pub out_is : written_name out ≡ words.out.now
