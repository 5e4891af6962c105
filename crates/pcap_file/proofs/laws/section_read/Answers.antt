use Rattle.pcap_file.proofs.SectionSteps.{section_step_again}
use Rattle.pcap_file.proofs.laws.section_read.Goals as goal

pub returns : goal.returns
returns c = section_step_again
