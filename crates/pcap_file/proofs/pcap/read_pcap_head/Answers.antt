use Rattle.std.proofs.Common.{◌≡◌, Result, Err, ◌↔◌, subst, sym, arith}
use Rattle.pcap_file.specs.Pcap.{IsBadMagic, IsBadVersion, IsGzipped}
use Rattle.pcap_file.specs.declared.fault.RecordingFault.{RecordingFault}
use Rattle.pcap_file.specs.declared.fault.RecordingFault.TheVariants.{BadMagic, BadVersion, Packed}
use Rattle.pcap_file.specs.declared.pcap.PcapHead.{PcapHead}
use Rattle.pcap_file.proofs.Pcaps.{is_bad_magic, is_bad_version, packed_is}
use Rattle.pcap_file.proofs.pcap.read_pcap_head.Goals as goal

pub returns-clause-packed : goal.returns-clause-packed
returns-clause-packed c =
    subst (λ (r : Result PcapHead RecordingFault). (r ≡ Err Packed) ↔ IsGzipped c.args.octets.now)
    (sym c.read.ensures.exact) (packed_is c.args.octets.now)

pub returns-clause-bad_magic : goal.returns-clause-bad_magic
returns-clause-bad_magic c =
    subst (λ (r : Result PcapHead RecordingFault). (r ≡ Err BadMagic) ↔ IsBadMagic
    c.args.octets.now)
    (sym c.read.ensures.exact) (is_bad_magic c.args.octets.now)

pub returns-clause-bad_version : goal.returns-clause-bad_version
returns-clause-bad_version c =
    subst
    (λ (r : Result PcapHead RecordingFault). (r ≡ Err BadVersion) ↔ IsBadVersion c.args.octets.now)
    (sym c.read.ensures.exact)
    (is_bad_version c.args.octets.now (λ i. omega (arith, c.type_inv.octets i)))
