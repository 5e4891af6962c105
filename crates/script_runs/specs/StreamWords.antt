-- The stream that the words of `sdp --write` say (own).
use Rattle.std.specs.Prelude.{◌≡◌, ◌⊎◌, ℕ, List, Option, Some, None, Result, Ok, Err, IsSome}
use Rattle.std.specs.Borrow.{Bor}
use Rattle.st_format.specs.Fields.{Fields, fields_of}
use Rattle.st_format.specs.Forms.{read_format}
use Rattle.st_format.specs.declared.format.Format.{Format}
use Rattle.st_format.specs.declared.format.FormatFault.{FormatFault}
use Rattle.st_format.specs.declared.format_text.FormatTextFault.{FormatTextFault}
use Rattle.st_format.specs.declared.format_text.FormatTextFault.TheVariants.{Refused}
use Rattle.flow.specs.FlowText.{IsFlowText}
use Rattle.flow.specs.declared.flows.Flow.{Flow}
use Rattle.command_line.specs.declared.words.WriteWords.{WriteWords}
use Rattle.script_runs.specs.declared.announced.AnnouncedStream.{AnnouncedStream}

-- what is read of the words of a format is this format, or why there is none of them
abbrev pub IsFormatOf : Result Format FormatFault → Result Fields FormatTextFault → Type 0
IsFormatOf (Ok format) read = read ≡ Ok (fields_of format)
IsFormatOf (Err fault) read = read ≡ Err (Refused fault)

-- a text hasn't the form of a format's words
abbrev pub IsNoFormat : List ℕ → Type 0
IsNoFormat text = (r : Result Format FormatFault) → IsFormatOf r (read_format text) → ⊥

-- a text says an address and a port, and neither a source nor an interface; a text says none
abbrev pub SaysLeg : List ℕ → Flow → Type 0
SaysLeg text f =
    IsFlowText text f × IsSome f.address × (f.source ≡ None) × (f.interface ≡ None)

-- a text says none such
abbrev pub IsNoLeg : List ℕ → Type 0
IsNoLeg text = (f : Flow) → SaysLeg text f → ⊥

-- the same of a leg that may be left out
abbrev pub SaysSecond : Option (Bor (List ℕ)) → Option Flow → Type 0
SaysSecond None None = Unit {0}
SaysSecond None (Some f) = ⊥
SaysSecond (Some text) None = ⊥
SaysSecond (Some text) (Some f) = SaysLeg text.now f

-- a leg is said, and by a text that says none such
abbrev pub IsNoSecond : Option (Bor (List ℕ)) → Type 0
IsNoSecond None = ⊥
IsNoSecond (Some text) = IsNoLeg text.now

-- words say a stream: its format, its payload type, and where it is sent to by one path or two
abbrev pub SaysStream : WriteWords → AnnouncedStream → Type 0
SaysStream w s =
    IsFormatOf s.format (read_format w.format.now) × SaysLeg w.a.now s.a × SaysSecond w.b s.b
    × (s.payload_type ≡ w.payload_type)

-- a word of them isn't of its form
abbrev pub IsNoStream : WriteWords → Type 0
IsNoStream w = IsNoFormat w.format.now ⊎ (IsNoLeg w.a.now ⊎ IsNoSecond w.b)
