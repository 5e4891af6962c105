use Rattle.packet_numbers.proofs.NumberLaws.{one_list}
use Rattle.packet_numbers.proofs.number_laws.one_list_of_runs.Goals as goal

pub returns : goal.returns
returns c = one_list
