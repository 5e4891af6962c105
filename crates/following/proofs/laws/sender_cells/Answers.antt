use Rattle.following.proofs.SendersCells.{shows_sender}
use Rattle.following.proofs.laws.sender_cells.Goals as goal

pub returns : goal.returns
returns c o size ahead s ps xs is = shows_sender o size ahead s ps xs is.some
