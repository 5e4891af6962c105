-- How many packets are left out, by the reason (own).
use Rattle.std.specs.Prelude.{ℕ, ◌+◌, Bool, ◌==◌, if◌then◌else◌, List, [], ◌∷◌}
use Rattle.std.specs.Prelude.{◌++◌, codes, count_by}
use Rattle.std.specs.Fmt.{decimal}
use Rattle.pcap_file.specs.declared.datagram.NoDatagram.TheVariants.{NotIp, CutShort, BadIpHeader}
use Rattle.pcap_file.specs.declared.datagram.NoDatagram.TheVariants.{NotUdp, Fragment, BadUdpLength}
use Rattle.pcap_file.specs.Reasons.{reason_name, reason_number}
use Rattle.st_format.specs.Device.{capped}
use Rattle.recording_counts.specs.declared.left_out.LeftOut.{LeftOut}
use Rattle.recording_counts.specs.declared.omission.Omission.{Omission}
use Rattle.recording_counts.specs.declared.omission.Omission.TheVariants.{NoDatagram, OtherFlow}

-- the reasons' numbers: those of packets that are no datagrams, and behind them another flow's
abbrev pub omission_number : Omission → ℕ
omission_number (NoDatagram r) = reason_number r
omission_number OtherFlow = 7

-- what is told of them
abbrev pub omission_name : Omission → List ℕ
omission_name (NoDatagram r) = reason_name r
omission_name OtherFlow = codes "of another flow"

-- whether two reasons are one, by their numbers
abbrev pub is_omission : Omission → Omission → Bool
is_omission v w = omission_number v == omission_number w

-- how often a reason is among reasons; the count stays at 2^64 - 1 once it is there
abbrev pub times : Omission → List Omission → ℕ
times v omissions = capped (count_by (is_omission v) omissions)

-- the counts of packets that were left out, by the reason of each
abbrev pub left_out_of : List Omission → LeftOut
left_out_of omissions =
    record {
      cut_short = times (NoDatagram CutShort) omissions;
      not_ip = times (NoDatagram NotIp) omissions;
      bad_ip_header = times (NoDatagram BadIpHeader) omissions;
      not_udp = times (NoDatagram NotUdp) omissions;
      fragment = times (NoDatagram Fragment) omissions;
      bad_udp_length = times (NoDatagram BadUdpLength) omissions;
      other_flow = times OtherFlow omissions;
    }

-- how many packets were left out, whatever the reason
abbrev pub sum_of : LeftOut → ℕ
sum_of l =
    l.cut_short + l.not_ip + l.bad_ip_header + l.not_udp + l.fragment + l.bad_udp_length
    + l.other_flow

-- each reason with its count, in the order of their numbers
abbrev pub each_of : LeftOut → List (Omission × ℕ)
each_of l =
    (NoDatagram CutShort, l.cut_short)
    ∷ (NoDatagram NotIp, l.not_ip)
    ∷ (NoDatagram BadIpHeader, l.bad_ip_header)
    ∷ (NoDatagram NotUdp, l.not_udp)
    ∷ (NoDatagram Fragment, l.fragment)
    ∷ (NoDatagram BadUdpLength, l.bad_udp_length)
    ∷ (OtherFlow, l.other_flow)
    ∷ []

-- the line of a reason, where packets are left out for it
abbrev pub reason_text : ℕ → Omission → List ℕ
reason_text n v =
    if n == 0 then [] else (codes "\nleft out " ++ (decimal n ++ (codes " " ++ omission_name v)))

-- the lines of the reasons for which packets are left out, in the order of their numbers
abbrev pub left_out_text : LeftOut → List ℕ
left_out_text l =
    reason_text l.cut_short (NoDatagram CutShort)
    ++ (reason_text l.not_ip (NoDatagram NotIp)
    ++ (reason_text l.bad_ip_header (NoDatagram BadIpHeader)
    ++ (reason_text l.not_udp (NoDatagram NotUdp)
    ++ (reason_text l.fragment (NoDatagram Fragment)
    ++ (reason_text l.bad_udp_length (NoDatagram BadUdpLength)
    ++ reason_text l.other_flow OtherFlow)))))
