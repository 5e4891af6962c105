-- What a section stands for, as it is read.
use Rattle.std.specs.Prelude.{ℕ, List, Option}
use Rattle.st_format.specs.Fields.{fields_of}
use Rattle.sdp_format.specs.Bytes.{split_lines_left}
use Rattle.sdp_format.specs.Naming.{items}
use Rattle.sdp_format.specs.Sections.{Leg, Section, section_lines}
use Rattle.sdp_format.specs.Reading.{Listed}
use Rattle.sdp_format.specs.declared.sdp.Leg.{Leg as Read}
use Rattle.sdp_format.specs.declared.sdp.Listed.{Listed as ReadList}
use Rattle.sdp_format.specs.declared.sdp.VideoSection.{VideoSection}
use Rattle.std.specs.Option.{option_copied}

-- what was read of a section, as the grammar says it
abbrev pub leg_seen : Read → Leg
leg_seen l = record {
  payload_type = l.payload_type;
  format = fields_of l.format;
  range = l.range;
  colorimetry = l.colorimetry.items;
}

-- port, payload type and items of a section, of which the reader keeps the items as a text
abbrev pub listed_seen : ReadList → Listed
listed_seen l = record { port = l.port; payload_type = l.payload_type; list = items l.text.now }

-- the section of a first line and of what is left behind it
abbrev pub section_of : List ℕ → Option (List ℕ) → Section
section_of media left = record { media = media; lines = section_lines (split_lines_left left) }

-- the section that begins at this first line: the lines behind it up to the next m= are its own
abbrev pub section_at : VideoSection → Section
section_at s = section_of s.media.now (option_copied s.left)
