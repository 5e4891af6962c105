use Rattle.st_format.proofs.WholeOctets.{Spells-values_in}
use Rattle.st_format.proofs.laws.whole_octets_spell.Goals as goal

pub returns : goal.returns
returns c = λ bits count octets pos whole. Spells-values_in bits octets count pos whole
