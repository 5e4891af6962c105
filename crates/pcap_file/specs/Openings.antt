-- What stands before all packets of a recording, read behind its first four octets.
use Rattle.std.specs.Prelude.{ℕ, ◌==◌, if◌then◌else◌, List, ◌++◌, Bool, Option, None, Some}
use Rattle.std.specs.Prelude.{Result, Ok, Err}
use Rattle.st_format.specs.Reading.{◌>>=◌}
use Rattle.pcap_file.specs.declared.fault.RecordingFault.{RecordingFault}
use Rattle.pcap_file.specs.declared.order.ByteOrder.{ByteOrder}
use Rattle.pcap_file.specs.declared.order.ByteOrder.TheVariants.{Big}
use Rattle.pcap_file.specs.Orders.{long_at}
use Rattle.pcap_file.specs.Fields.{field_at}
use Rattle.pcap_file.specs.NgReading.{section_at}
use Rattle.pcap_file.specs.NgSteps.{fresh, section_type}
use Rattle.pcap_file.specs.Pcap.{foreign_of, magic_of, pcap_head_of}
use Rattle.pcap_file.specs.Runs.{InBlocks, InPcap, Laid}

-- octets that were read, with so many behind them
unfoldable pub behind_at : List ℕ → ℕ → List ℕ → Result (List ℕ × List ℕ) RecordingFault
behind_at front n octets = field_at n octets >>= λ x. Ok (front ++ x.0, x.1)

-- the head of a pcap file that begins with these four octets, and what is behind it
unfoldable pub pcap_laid : List ℕ → List ℕ → Result (Laid × List ℕ) RecordingFault
pcap_laid four octets =
    behind_at four 20 octets >>= λ x. pcap_head_of x.0 >>= λ file. Ok (InPcap file, x.1)

-- the section of a pcapng file that begins with these four octets, and what is behind it
unfoldable pub blocks_laid : List ℕ → List ℕ → Result (Laid × List ℕ) RecordingFault
blocks_laid four octets =
    behind_at four 4 octets >>= λ x. section_at x.0 x.1 >>= λ y. Ok (InBlocks (fresh y.0), y.1)

-- the front of the classic layout behind its first four octets, where these are a magic number
abbrev pub pcap_laid_if : Option (ByteOrder × Bool) → List ℕ → List ℕ
    → Result (Laid × List ℕ) RecordingFault
pcap_laid_if None four octets = Err (foreign_of four)
pcap_laid_if (Some kind) four octets = pcap_laid four octets

-- what a recording begins with, by its first four octets, and what is behind it
unfoldable pub laid_behind : List ℕ → List ℕ → Result (Laid × List ℕ) RecordingFault
laid_behind four octets =
    if long_at Big 0 four == section_type then blocks_laid four octets
    else pcap_laid_if (magic_of four) four octets
