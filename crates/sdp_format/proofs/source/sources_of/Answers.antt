use Rattle.std.specs.Option.{option_copied}
use Rattle.sdp_format.specs.Bytes.{lines, split_lines_left}
use Rattle.sdp_format.specs.Sections.{section_lines}
use Rattle.sdp_format.proofs.Sources.{first_behind, first_in_front}
use Rattle.sdp_format.proofs.source.sources_of.Goals as goal

pub returns-in-Some : goal.returns-in-Some
returns-in-Some c =
    first_in_front (section_lines (split_lines_left (option_copied c.args.section.left)))
    (section_lines (lines c.args.text.now)) c.args.address c.in-Some.sources.now
    c.in-Some.ensures

pub returns-in-None : goal.returns-in-None
returns-in-None c =
    first_behind (section_lines (split_lines_left (option_copied c.args.section.left)))
    (section_lines (lines c.args.text.now)) c.args.address
    (option_copied c.first_sources-in-None.result) c.in-None.ensures
    c.first_sources-in-None.ensures
