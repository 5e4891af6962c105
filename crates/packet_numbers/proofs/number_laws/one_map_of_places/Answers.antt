use Rattle.packet_numbers.proofs.NumberLaws.{one_map}
use Rattle.packet_numbers.proofs.number_laws.one_map_of_places.Goals as goal

pub returns : goal.returns
returns c = one_map
