use Rattle.std.proofs.Common.{◌≡◌, length}
use Rattle.std.specs.Option.{option_copied}
use Rattle.sdp_format.specs.Bytes.{split_lines_left}
use Rattle.sdp_format.specs.Sections.{section_lines}
use Rattle.sdp_format.specs.Reading.{first_attribute}
use Rattle.sdp_format.proofs.lines.attribute_line.Given as goal

abbrev pub invariant-loop-rest : goal.invariant-loop-rest
invariant-loop-rest l =
    first_attribute l.word l.wanted (section_lines (split_lines_left (option_copied l.rest)))
    ≡ first_attribute l.word l.wanted (section_lines (split_lines_left (option_copied l.fn.left)))

abbrev pub decreases-loop-rest : goal.decreases-loop-rest
decreases-loop-rest l = length (split_lines_left (option_copied l.rest))
