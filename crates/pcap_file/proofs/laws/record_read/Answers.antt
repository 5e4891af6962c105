use Rattle.pcap_file.proofs.Recordings.{record_again, record_takes}
use Rattle.pcap_file.proofs.laws.record_read.Goals as goal

pub returns-clause-again : goal.returns-clause-again
returns-clause-again c = record_again

pub returns-clause-takes : goal.returns-clause-takes
returns-clause-takes c room file octets rest p read =
    let t = record_takes room file octets p rest read in (t.text, t.is, t.parts)
