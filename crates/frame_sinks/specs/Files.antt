-- Pictures of frames as files, each by a name of its own (own).
use Rattle.std.specs.Prelude.{◌≡◌, ℕ, List, [], ◌∷◌, ◌++◌, codes}
use Rattle.std.specs.Fmt.{decimal}
use Rattle.following.specs.Following.{Handed}
use Rattle.frame_sinks.specs.Pictures.{held_by, picture_of}
use Rattle.frame_sinks.specs.declared.files_sink.FilesSink.{FilesSink}
use Rattle.media_file.specs.PictureFile.{picture_text}
use Rattle.st_format.specs.Picture.{Values}

-- the name of a timestamp's file: its decimal digits and `.pic`
abbrev pub stamped_name : ℕ → List ℕ
stamped_name timestamp = decimal timestamp ++ codes ".pic"

-- the file of a picture: its name, and its octets
abbrev pub file_for : ℕ → Values → List ℕ × List ℕ
file_for timestamp p = (stamped_name timestamp, picture_text p)

-- those of frames, of which these are the pictures
abbrev pub files_for : List Handed → List Values → List (List ℕ × List ℕ)
files_for (h ∷ hs) (p ∷ ps) = file_for h.timestamp p ∷ files_for hs ps
files_for [] ps = []
files_for (h ∷ hs) [] = []

-- It took a frame: one file more has its name, that of the frame's picture; and it holds what the
-- next one is settled over.
pub record FilesFrame {F A : Type 0} (files : F → List (List ℕ × List ℕ)) (k : FilesSink F A)
    (h : Handed) (l : FilesSink F A) : Type 0 where
  pub filed : files l.files ≡ files k.files
      ++ file_for h.timestamp (picture_of k.settling.fill k.settling.held h.frame) ∷ []
  pub held : l.settling.held
      ≡ held_by k.settling.filling (picture_of k.settling.fill k.settling.held h.frame)
  pub filling : l.settling.filling ≡ k.settling.filling
  pub fill : l.settling.fill ≡ k.settling.fill
