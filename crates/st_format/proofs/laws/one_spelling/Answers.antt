use Rattle.st_format.proofs.Octets.{all_octets}
use Rattle.st_format.proofs.WholeOctets.{one_spelling}
use Rattle.st_format.proofs.laws.one_spelling.Goals as goal

pub returns : goal.returns
returns c bits octets others values fit other_fit =
    one_spelling bits octets others values (all_octets octets fit) (all_octets others other_fit)
