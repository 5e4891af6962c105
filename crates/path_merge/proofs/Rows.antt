-- Worked rows, by computation: what datagrams offer and the frames that follow.
use Rattle.std.proofs.Common.{◌≡◌, ℕ, List, [], ◌∷◌, ◌++◌, None, refl, lit≤}
use Rattle.st_format.specs.declared.format.Format.{Format}
use Rattle.st_format.specs.declared.sampling.Sampling.TheVariants.{Ycc422}
use Rattle.st_format.specs.declared.sampling.Depth.TheVariants.{D8}
use Rattle.st_format.specs.declared.cell.Cell.{Cell}
use Rattle.st_format.specs.declared.cell.Cell.TheVariants.{Missing, Value, Contested}
use Rattle.st_format.specs.Rate.{greatest_up_to, IsLowest}
use Rattle.st_format.specs.Position.{place, place_in_row}
use Rattle.st_format.specs.Samples.{bits, number, pieces, values_in}
use Rattle.payload_header.specs.Reading.{header_of, headers_at, payload_walk}
use Rattle.rtp_header.specs.Reading.{rtp_walk}
use Rattle.path_receiver.specs.Opening.{Opening}
use Rattle.path_receiver.specs.Admission.{datagram_walk}
use Rattle.path_receiver.specs.Frames.{frames_of}

-- 60 / 1 is in lowest terms
sixty : IsLowest 60 1
unfolding greatest_up_to
sixty = refl

abbrev f1 : Format
f1 = record {
  sampling = Ycc422;
  depth = D8;
  width = 4;
  height = 2;
  n = 60;
  d = 1;
  whole_width = record { least = lit≤ tt; most = lit≤ tt; even = refl; whole_groups = refl };
  whole_height = record { least = lit≤ tt; most = lit≤ tt };
  sane_rate =
      record {
        some_n = lit≤ tt;
        most_n = lit≤ tt;
        some_d = lit≤ tt;
        most_d =
            lit≤ tt;
        at_least_one = lit≤ tt;
        at_most_300 = lit≤ tt;
      };
  lowest_rate = sixty;
}

abbrev opening : Opening
opening = record { format = f1; payload_type = 96; ssrc = None; window = 900 ∷ [] }

abbrev head : List ℕ
head = 0x80 ∷ 0xE0 ∷ 0 ∷ 1 ∷ 0 ∷ 0 ∷ 3 ∷ 0x84 ∷ 0 ∷ 0 ∷ 0 ∷ 1 ∷ 0 ∷ 0 ∷ []

abbrev d1 : List ℕ
d1 = head ++ (0 ∷ 8 ∷ 0 ∷ 0 ∷ 0 ∷ 0 ∷ 0x80 ∷ 0x10 ∷ 0x80 ∷ 0x11 ∷ 0x80 ∷ 0x12 ∷ 0x80 ∷ 0x13 ∷ [])

abbrev d2 : List ℕ
d2 = head ++ (0 ∷ 8 ∷ 0 ∷ 0 ∷ 0 ∷ 0 ∷ 0x80 ∷ 0x20 ∷ 0x80 ∷ 0x11 ∷ 0x80 ∷ 0x12 ∷ 0x80 ∷ 0x13 ∷ [])

abbrev missing_row : List Cell
missing_row = Missing ∷ Missing ∷ Missing ∷ Missing ∷ Missing ∷ Missing ∷ Missing ∷ Missing ∷ []

one_datagram : frames_of opening (d1 ∷ [])
    ≡ record {
      format = f1;
      cells =
          (Value 128 ∷ Value 16 ∷ Value 128 ∷ Value 17 ∷ Value 128 ∷ Value 18 ∷ Value 128 ∷ Value 19
          ∷ []) ++ missing_row;
    } ∷ []
unfolding place place_in_row bits number pieces values_in header_of headers_at payload_walk
    rtp_walk datagram_walk
one_datagram = refl

two_datagrams : frames_of opening (d1 ∷ d2 ∷ d1 ∷ [])
    ≡ record {
      format = f1;
      cells =
          (Value 128 ∷ Contested ∷ Value 128 ∷ Value 17 ∷ Value 128 ∷ Value 18 ∷ Value 128
          ∷ Value 19 ∷ []) ++ missing_row;
    } ∷ []
unfolding place place_in_row bits number pieces values_in header_of headers_at payload_walk
    rtp_walk datagram_walk
two_datagrams = refl
