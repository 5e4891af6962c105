-- Lines of output.
use Rattle.std.specs.Prelude.{ℕ, List, ◌++◌, codes}
use Rattle.std.specs.Fmt.{decimal}
use Rattle.path_receiver.specs.Answers.{refusal_name, refusal_number, slide_fault_name}
use Rattle.path_receiver.specs.Answers.{slide_fault_number}
use Rattle.run_outcome.specs.Frames.{frame_counts}
use Rattle.run_outcome.specs.Telling.{numbered_name}
use Rattle.run_outcome.specs.declared.line.Line.{Line}
use Rattle.run_outcome.specs.declared.line.Line.TheVariants as line

-- what a line says, in ASCII, numbers in decimal digits (own)
abbrev pub line_text : Line → List ℕ
line_text (line.Kept number) = codes "kept " ++ decimal number
line_text line.Outside = codes "outside"
line_text (line.Refused refusal) =
    numbered_name (codes "refused ") (refusal_number refusal) (refusal_name refusal)
line_text line.Missing = codes "missing"
line_text (line.Value v) = codes "value " ++ decimal v
line_text line.Contested = codes "contested"
line_text line.Nowhere = codes "none"
line_text (line.Frame timestamp counts) = frame_counts (codes "frame ") timestamp counts
line_text (line.Out timestamp counts) = frame_counts (codes "out ") timestamp counts
line_text (line.NotSlid fault) =
    numbered_name (codes "refused slide ") (slide_fault_number fault) (slide_fault_name fault)
line_text (line.HandedOut receiver timestamp counts) =
    codes "out " ++ (decimal receiver ++ frame_counts (codes " ") timestamp counts)
line_text (line.Receiver number) = codes "receiver " ++ decimal number
line_text (line.Absent first count) =
    codes "absent " ++ (decimal first ++ (codes " " ++ decimal count))
line_text (line.Records count) = codes "records " ++ decimal count
line_text (line.Recorded a b left_out) =
    codes "recorded A " ++ (decimal a ++ (codes " B " ++ (decimal b ++ (codes " left out "
    ++ decimal left_out))))
line_text (line.Exported count left_out) =
    codes "exported " ++ (decimal count ++ (codes " left out " ++ decimal left_out))
line_text (line.Sent count) = codes "sent " ++ decimal count
line_text (line.Delivered count) = codes "delivered " ++ decimal count
line_text (line.RefusedCount refusal count) =
    codes "refused " ++ (decimal (refusal_number refusal)
    ++ (codes " " ++ (refusal_name refusal ++ (codes " " ++ decimal count))))
line_text (line.OutsideCount count) = codes "outside " ++ decimal count
