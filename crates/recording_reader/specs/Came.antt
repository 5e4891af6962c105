-- By which paths records came.
use Rattle.std.specs.Prelude.{◌≡◌, List}
use Rattle.media_file.specs.Records.{Entry}
use Rattle.recording_reader.specs.Files.{has_path}
use Rattle.recording_reader.specs.declared.came.Came.{Came}
use Rattle.st_format.specs.declared.path.Path.TheVariants.{A, B}

-- it is noted by which paths records came
pub record AreNoted (c : Came) (records : List Entry) : Type 0 where
  pub a : c.a ≡ has_path A records
  pub b : c.b ≡ has_path B records
