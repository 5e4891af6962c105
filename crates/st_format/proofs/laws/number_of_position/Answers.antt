use Rattle.st_format.proofs.Numbering.{number_of-below, place-number_of}
use Rattle.st_format.proofs.laws.number_of_position.Goals as goal

pub returns : goal.returns
returns c = λ f p is. (number_of-below f p is, place-number_of f p is)
