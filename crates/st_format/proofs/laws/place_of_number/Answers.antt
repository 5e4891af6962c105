use Rattle.st_format.proofs.Numbering.{number_of-place}
use Rattle.st_format.proofs.Places.{place-is_position}
use Rattle.st_format.proofs.laws.place_of_number.Goals as goal

pub returns : goal.returns
returns c = λ f k below. (place-is_position f k below, number_of-place f k)
