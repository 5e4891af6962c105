-- What is printed of a stream that is announced, and why none is.
use Rattle.std.specs.Prelude.{◌≡◌, ℕ, List, ◌++◌, Ok, Err}
use Rattle.st_format.specs.Fields.{fields_of}
use Rattle.st_format.specs.declared.format.Format.{Format}
use Rattle.st_format.specs.declared.format.FormatFault.{FormatFault}
use Rattle.run_outcome.specs.declared.refusal.Refusal.{Refusal}
use Rattle.run_outcome.specs.declared.refusal.Refusal.TheVariants.{Script}
use Rattle.run_outcome.specs.declared.script_line.LineFault.TheVariants as line
use Rattle.sdp_writing.specs.Written.{IsTextOf, told_legs, usual_description}
use Rattle.script_runs.specs.declared.announced.AnnouncedStream.{AnnouncedStream}

-- An SDP text that says the stream was printed (RFC 8866; SMPTE ST 2110-20, SDP)
pub record PrintsSdp (stream : AnnouncedStream) (old new : List ℕ) : Type 0 where
  pub format : Format
  pub is_format : stream.format ≡ Ok format
  pub text : List ℕ
  pub says : IsTextOf text
      (usual_description stream.payload_type (fields_of format) stream.a stream.b)
      (told_legs stream.a stream.b)
  pub printed : new ≡ old ++ text

-- there is no such format: the refusal is that of a script's line
abbrev pub IsUnannounced : AnnouncedStream → Refusal → Type 0
IsUnannounced stream r =
    (fault : FormatFault) × (stream.format ≡ Err fault) × (r ≡ Script 1 (line.Format fault))
