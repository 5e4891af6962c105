use Rattle.std.proofs.Common.{◌≡◌, length}
use Rattle.std.specs.Option.{option_copied}
use Rattle.sdp_format.specs.Bytes.{split_lines_left}
use Rattle.sdp_format.specs.Sections.{section_lines}
use Rattle.sdp_format.specs.Destinations.{first_connection}
use Rattle.sdp_format.proofs.flows.first_connection.Given as goal

abbrev pub invariant-loop-rest : goal.invariant-loop-rest
invariant-loop-rest l =
    first_connection (section_lines (split_lines_left (option_copied l.rest)))
    ≡ first_connection (section_lines (split_lines_left (option_copied l.fn.left)))

abbrev pub decreases-loop-rest : goal.decreases-loop-rest
decreases-loop-rest l = length (split_lines_left (option_copied l.rest))
