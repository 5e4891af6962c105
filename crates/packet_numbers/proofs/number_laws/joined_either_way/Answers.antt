use Rattle.packet_numbers.proofs.NumberLaws.{either_way}
use Rattle.packet_numbers.proofs.number_laws.joined_either_way.Goals as goal

pub returns : goal.returns
returns c = either_way
