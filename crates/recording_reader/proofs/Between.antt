-- What was read of a recording between two of its packets.
use Rattle.std.proofs.Common.{◌≡◌, ℕ, zero, suc, List, [], ◌++◌, refl, sym, ap, ◌∙◌, append-nil}
use Rattle.pcap_file.specs.NgReading.{front_at}
use Rattle.pcap_file.specs.NgSteps.{step_at}
use Rattle.pcap_file.specs.PcapReading.{Recorded, head_at, record_at}
use Rattle.pcap_file.specs.Runs.{HasRead, InBlocks, InPcap, Laid, Seen, laid_step, most_packet}
use Rattle.pcap_file.specs.Runs.{packets_behind, packets_in, run_at}
use Rattle.st_format.specs.History.{since}
use Rattle.st_format.proofs.Histories.{since_is}

-- where nothing is behind them, no packet comes behind others
none_at : (n k : ℕ) (laid : Laid) → (run_at n k laid []).packets ≡ []
unfolding run_at laid_step record_at head_at step_at front_at
none_at zero k laid = refl
none_at (suc n) k (InPcap file) = refl
none_at (suc n) k (InBlocks known) = refl

none_behind : (seen : Seen) → packets_behind most_packet seen [] ≡ []
none_behind seen = none_at seen.left most_packet seen.laid

pub packets_now : (before now : List ℕ) (seen : Seen) (packets : List Recorded)
    → HasRead most_packet before now seen packets
    → packets_in most_packet (since before now) ≡ packets
packets_now before now seen packets read =
    ap (packets_in most_packet)
    (since_is before now read.part read.grown ∙ sym (append-nil read.part))
    ∙ read.packets_are []
    ∙ ap (λ (l : List Recorded). packets ++ l) (none_behind seen) ∙ append-nil packets
