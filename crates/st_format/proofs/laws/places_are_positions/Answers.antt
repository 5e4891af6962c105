use Rattle.st_format.proofs.Places.{member-places, place-injective}
use Rattle.st_format.proofs.laws.places_are_positions.Goals as goal

pub returns-clause-all : goal.returns-clause-all
returns-clause-all c = member-places

pub returns-clause-once : goal.returns-clause-once
returns-clause-once c = place-injective
