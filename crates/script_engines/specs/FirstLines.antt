-- What the first lines of a script open.
use Rattle.std.specs.Prelude.{◌≡◌, ℕ, ◌⊎◌, List, [], ◌∷◌, Result, Err}
use Rattle.path_receiver.specs.Opening.{Opening}
use Rattle.st_format.specs.declared.format.Format.{Format}
use Rattle.st_format.specs.declared.format.FormatFault.{FormatFault}
use Rattle.st_format.specs.Fields.{Fields, format_at}
use Rattle.run_outcome.specs.declared.fault.Fault.{Fault}
use Rattle.run_outcome.specs.declared.script_line.LineFault.TheVariants.{Format as OfFormat}
use Rattle.run_outcome.specs.LowerFaults.{IsMisformed, of_line}
use Rattle.script_engines.specs.declared.line.FormatLine.{FormatLine}
use Rattle.script_engines.specs.declared.script.Lines.{Lines}
use Rattle.script_engines.specs.Forms.{IsFormatLine, IsOpenLine, IsWindowText}
use Rattle.script_engines.specs.Script.{line_behind, numbered_lines}

-- the lines that are still to come, each with its number (own)
abbrev pub lines_left : Lines → List (ℕ × List ℕ)
lines_left l = numbered_lines l.passed l.rest.now

-- the number of the line behind the last of all
abbrev pub end_of : Lines → ℕ
end_of l = line_behind l.passed l.rest.now

-- The next line is of a form, and the lines behind it are left (own)
pub record ReadsOne (form : List ℕ → Type 0) (lines behind : List (ℕ × List ℕ)) : Type 0 where
  pub number : ℕ
  pub text : List ℕ
  pub next : lines ≡ (number, text) ∷ behind
  pub is : form text

-- The next line is at fault, as it is not of a form; where there is none, the line behind the last
-- is, whose number this is (own)
abbrev pub IsFaultyNext : (List ℕ → Type 0) → List (ℕ × List ℕ) → ℕ → Fault → Type 0
IsFaultyNext form [] end fault = IsMisformed end fault
IsFaultyNext form ((number, text) ∷ behind) end fault =
    IsMisformed number fault × (form text → ⊥)

-- a text is a line `format`
abbrev pub SaysFormatLine : List ℕ → Type 0
SaysFormatLine text = (said : FormatLine) × IsFormatLine text said

-- The next line is one `format`, and this is what its sampling, depth, width, height and rate make:
-- the fields of a format, its rate in lowest terms, or why there is none. The lines behind it are
-- left (own)
pub record ReadsFormat (lines behind : List (ℕ × List ℕ)) (made : Result Fields FormatFault)
    : Type 0 where
  pub number : ℕ
  pub text : List ℕ
  pub next : lines ≡ (number, text) ∷ behind
  pub said : FormatLine
  pub line_is : IsFormatLine text said
  pub made_is : made ≡ format_at said.sampling said.depth said.width said.height said.n said.d

-- The next line is at fault: it is no line `format`, or one of which no format is made (own)
abbrev pub IsFaultyFormat : List (ℕ × List ℕ) → ℕ → Fault → Type 0
IsFaultyFormat lines end f =
    IsFaultyNext SaysFormatLine lines end f
    ⊎ ((why : FormatFault) × (behind : List (ℕ × List ℕ))
    × (read : ReadsFormat lines behind (Err why)) × (f ≡ of_line read.number (OfFormat why)))

-- The next line is one `open`, and this opening has its payload type, its source and its window, in
-- the order of the line, and this format. The lines behind it are left (own)
pub record ReadsOpening (lines behind : List (ℕ × List ℕ)) (f : Format) (o : Opening) : Type 0 where
  pub number : ℕ
  pub text : List ℕ
  pub next : lines ≡ (number, text) ∷ behind
  pub window : List ℕ
  pub line_is : IsOpenLine text o.payload_type o.ssrc window
  pub window_is : IsWindowText window o.window
  pub format_is : o.format ≡ f
