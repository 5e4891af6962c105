use Rattle.pcap_file.proofs.WholeBlocks.{blocks_again}
use Rattle.pcap_file.proofs.laws.whole_blocks.Goals as goal

pub returns : goal.returns
returns c = blocks_again
