use Rattle.std.proofs.Common.{List, ℕ, Option, length}
use Rattle.std.specs.Option.{option_copied}
use Rattle.sdp_format.specs.Bytes.{split_lines_left}
use Rattle.sdp_format.specs.Sections.{section_lines}
use Rattle.sdp_format.specs.Destinations.{IsFirstFilter}
use Rattle.sdp_format.proofs.source.first_sources.Given as goal

abbrev pub invariant-loop-rest : goal.invariant-loop-rest
invariant-loop-rest l =
    (listed : Option (List ℕ))
    → IsFirstFilter (section_lines (split_lines_left (option_copied l.rest))) l.address listed
    → IsFirstFilter (section_lines (split_lines_left (option_copied l.fn.left))) l.address listed

abbrev pub decreases-loop-rest : goal.decreases-loop-rest
decreases-loop-rest l = length (split_lines_left (option_copied l.rest))
