use Rattle.std.proofs.Common.{◌++◌, ◌∷◌, [], ap}
use Rattle.pcap_file.specs.declared.datagram.NoDatagram.TheVariants.{NotIp, CutShort, BadIpHeader}
use Rattle.pcap_file.specs.declared.datagram.NoDatagram.TheVariants.{NotUdp, Fragment, BadUdpLength}
use Rattle.recording_counts.specs.declared.left_out.LeftOut.{LeftOut}
use Rattle.recording_counts.specs.declared.omission.Omission.{Omission}
use Rattle.recording_counts.specs.declared.omission.Omission.TheVariants.{NoDatagram, OtherFlow}
use Rattle.recording_counts.proofs.Omissions.{seven_are, times_more}
use Rattle.recording_counts.proofs.left_out.LeftOut.note.Goals as goal

pub returns : goal.returns
returns c =
    λ omissions e.
    let w : Omission = c.args.omission in
    seven_are (omissions ++ w ∷ []) _ _ _ _ _ _ _
    (times_more (NoDatagram CutShort) w omissions _ _ (ap (λ (x : LeftOut). x.cut_short) e)
    c.one_more-cut_short.ensures)
    (times_more (NoDatagram NotIp) w omissions _ _ (ap (λ (x : LeftOut). x.not_ip) e)
    c.one_more-not_ip.ensures)
    (times_more (NoDatagram BadIpHeader) w omissions _ _ (ap (λ (x : LeftOut). x.bad_ip_header) e)
    c.one_more-bad_ip_header.ensures)
    (times_more (NoDatagram NotUdp) w omissions _ _ (ap (λ (x : LeftOut). x.not_udp) e)
    c.one_more-not_udp.ensures)
    (times_more (NoDatagram Fragment) w omissions _ _ (ap (λ (x : LeftOut). x.fragment) e)
    c.one_more-fragment.ensures)
    (times_more (NoDatagram BadUdpLength) w omissions _ _
    (ap (λ (x : LeftOut). x.bad_udp_length) e) c.one_more-bad_udp_length.ensures)
    (times_more OtherFlow w omissions _ _ (ap (λ (x : LeftOut). x.other_flow) e)
    c.one_more-other_flow.ensures)
