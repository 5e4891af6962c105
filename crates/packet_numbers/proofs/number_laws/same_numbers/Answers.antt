use Rattle.packet_numbers.proofs.NumberLaws.{same_notes}
use Rattle.packet_numbers.proofs.number_laws.same_numbers.Goals as goal

pub returns : goal.returns
returns c = same_notes
