use Rattle.pcap_file.proofs.BlockSteps.{block_again, block_takes}
use Rattle.pcap_file.proofs.laws.block_read.Goals as goal

pub returns-clause-again : goal.returns-clause-again
returns-clause-again c = block_again

pub returns-clause-takes : goal.returns-clause-takes
returns-clause-takes c room k after octets rest s read other =
    let t = block_takes room k octets after s rest read other in (t.body, t.is, t.enters)
