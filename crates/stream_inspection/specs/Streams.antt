-- What is told of streams (own).
use Rattle.std.specs.Prelude.{ℕ, ◌+◌, ◌-◌, ◌^◌, ◌==◌, min, Bool, ◌||◌, nat_lt, if◌then◌else◌, List}
use Rattle.std.specs.Prelude.{[]}
use Rattle.std.specs.Prelude.{◌++◌, codes, Option, None, Some}
use Rattle.std.specs.Fmt.{decimal}
use Rattle.st_format.specs.declared.path.Path.{Path}
use Rattle.st_format.specs.declared.path.Path.TheVariants as path
use Rattle.st_format.specs.Forms.{path_text}
use Rattle.st_format.specs.Device.{capped}
use Rattle.recording_counts.specs.declared.packet.StreamKey.{StreamKey}
use Rattle.recording_counts.specs.declared.path_count.PathCount.{PathCount}
use Rattle.recording_counts.specs.declared.stream.StreamCount.{StreamCount}
use Rattle.stream_inspection.specs.Lines.{heading_lines, row_line}
use Rattle.stream_inspection.specs.declared.rows.PathRow.{PathRow}
use Rattle.stream_inspection.specs.declared.rows.Row.TheVariants.{Path as PathOf, Together}
use Rattle.stream_inspection.specs.declared.rows.TogetherRow.{TogetherRow}
use Rattle.stream_inspection.specs.declared.text.Form.{Form}

-- a packet number as it is told: those of the first round begin at 2^32
abbrev pub told_number : ℕ → ℕ
told_number n = if nat_lt n (2 ^ 32) then n else n - 2 ^ 32

-- a packet number as it is told, where there is one
abbrev pub packet_number : Option ℕ → Option ℕ
packet_number None = None
packet_number (Some n) = Some (told_number n)

-- how many numbers there are from the lowest to the highest
abbrev pub span : Option ℕ → Option ℕ → ℕ
span None highest = 0
span (Some lowest) None = 0
span (Some lowest) (Some highest) = capped (highest - lowest + 1)

-- the lower one of two lowest numbers
abbrev pub lower : Option ℕ → Option ℕ → Option ℕ
lower None b = b
lower (Some a) None = Some a
lower (Some a) (Some b) = Some (min a b)

-- of the packets that came by a path: the numbers between the lowest and the highest that never
-- came, the datagrams with a number that had come before, and those that came late
abbrev pub path_row : {A : Type 0} → StreamKey → Path → PathCount A → PathRow
path_row key by c =
    record {
      key = key;
      path = by;
      datagrams = c.datagrams;
      lowest = packet_number c.lowest;
      highest = packet_number c.highest;
      lost = span c.lowest c.highest - c.different;
      repeated = c.datagrams - c.different;
      late = c.late;
    }

-- how many numbers there are from the lowest that came by either path to the highest
abbrev pub numbers : {A : Type 0} → StreamCount A → ℕ
numbers c = span (lower c.a.lowest c.b.lowest) c.highest

-- those that never came by A, by B, and by either
abbrev pub together_row : {A : Type 0} → StreamCount A → TogetherRow
together_row c =
    record {
      key = c.key;
      both = c.both;
      lost_by_a = numbers c - c.a.different;
      lost_by_b = numbers c - c.b.different;
      lost_by_both = numbers c - c.a.different - (c.b.different - c.both);
    }

-- the heading of a stream: its payload type and source, and the names of its paths' columns
abbrev pub heading_text : StreamKey → List ℕ
heading_text k =
    codes "stream of payload type " ++ (decimal k.payload_type
    ++ (codes " and source " ++ (decimal k.ssrc
    ++ codes "\n  path    datagrams       lowest      highest         lost     repeated         late")))

-- what is wrong on a path, in words, where something is
abbrev pub is_wrong : PathRow → Bool
is_wrong r =
    r.datagrams == 0 || (nat_lt 0 r.lost || (nat_lt 0 r.repeated || nat_lt 0 r.late))

-- what is wrong on a path: that nothing came by it, or how much was lost, repeated and late
abbrev pub wrong_text : PathRow → List ℕ
wrong_text r =
    if r.datagrams == 0 then codes "  nothing came by " ++ path_text r.path
    else codes "  by " ++ (path_text r.path ++ (codes " " ++ (decimal r.lost
    ++ (codes " never came, " ++ (decimal r.repeated
    ++ (codes " came more than once, " ++ (decimal r.late ++ codes " came late")))))))

-- the line of what is wrong on a path: none in JSON, and none where nothing is wrong
abbrev pub wrong_lines : Form → PathRow → List ℕ
wrong_lines form r = if is_wrong r then heading_lines form (wrong_text r) else []

-- the lines of a stream: a heading, both paths, what is wrong there in words, and both together
abbrev pub stream_lines : {A : Type 0} → Form → StreamCount A → List ℕ
stream_lines form c =
    heading_lines form (heading_text c.key)
    ++ (row_line form (PathOf (path_row c.key path.A c.a))
    ++ (row_line form (PathOf (path_row c.key path.B c.b))
    ++ (wrong_lines form (path_row c.key path.A c.a)
    ++ (wrong_lines form (path_row c.key path.B c.b)
    ++ row_line form (Together (together_row c))))))
