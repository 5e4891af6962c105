use Rattle.std.proofs.Common.{◌++◌, ap}
use Rattle.pcap_file.specs.declared.datagram.NoDatagram.TheVariants.{NotIp, CutShort, BadIpHeader}
use Rattle.pcap_file.specs.declared.datagram.NoDatagram.TheVariants.{NotUdp, Fragment, BadUdpLength}
use Rattle.recording_counts.specs.declared.left_out.LeftOut.{LeftOut}
use Rattle.recording_counts.specs.declared.omission.Omission.TheVariants.{NoDatagram, OtherFlow}
use Rattle.recording_counts.proofs.Omissions.{seven_are, times_both}
use Rattle.recording_counts.proofs.left_out.LeftOut.add.Goals as goal

pub returns : goal.returns
returns c =
    λ some more e f.
    seven_are (some ++ more) _ _ _ _ _ _ _
    (times_both (NoDatagram CutShort) some more _ _ _ (ap (λ (x : LeftOut). x.cut_short) e)
    (ap (λ (x : LeftOut). x.cut_short) f) c.saturating_add-cut_short.ensures)
    (times_both (NoDatagram NotIp) some more _ _ _ (ap (λ (x : LeftOut). x.not_ip) e)
    (ap (λ (x : LeftOut). x.not_ip) f) c.saturating_add-not_ip.ensures)
    (times_both (NoDatagram BadIpHeader) some more _ _ _ (ap (λ (x : LeftOut). x.bad_ip_header) e)
    (ap (λ (x : LeftOut). x.bad_ip_header) f) c.saturating_add-bad_ip_header.ensures)
    (times_both (NoDatagram NotUdp) some more _ _ _ (ap (λ (x : LeftOut). x.not_udp) e)
    (ap (λ (x : LeftOut). x.not_udp) f) c.saturating_add-not_udp.ensures)
    (times_both (NoDatagram Fragment) some more _ _ _ (ap (λ (x : LeftOut). x.fragment) e)
    (ap (λ (x : LeftOut). x.fragment) f) c.saturating_add-fragment.ensures)
    (times_both (NoDatagram BadUdpLength) some more _ _ _
    (ap (λ (x : LeftOut). x.bad_udp_length) e) (ap (λ (x : LeftOut). x.bad_udp_length) f)
    c.saturating_add-bad_udp_length.ensures)
    (times_both OtherFlow some more _ _ _ (ap (λ (x : LeftOut). x.other_flow) e)
    (ap (λ (x : LeftOut). x.other_flow) f) c.saturating_add-other_flow.ensures)
