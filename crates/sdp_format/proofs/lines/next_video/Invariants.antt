use Rattle.std.proofs.Common.{◌≡◌, length}
use Rattle.std.specs.Option.{option_copied}
use Rattle.sdp_format.specs.Bytes.{split_lines_left}
use Rattle.sdp_format.specs.Sections.{video_sections}
use Rattle.sdp_format.proofs.lines.next_video.Given as goal

abbrev pub invariant-loop-rest : goal.invariant-loop-rest
invariant-loop-rest l =
    video_sections (split_lines_left (option_copied l.rest))
    ≡ video_sections (split_lines_left (option_copied l.fn.left))

abbrev pub decreases-loop-rest : goal.decreases-loop-rest
decreases-loop-rest l = length (split_lines_left (option_copied l.rest))
