use Rattle.path_receiver.proofs.Held.{all_of_sender, picture_of_sender}
use Rattle.path_receiver.proofs.laws.sender_frame.Goals as goal

pub returns-clause-picture : goal.returns-clause-picture
returns-clause-picture c = picture_of_sender

pub returns-clause-all : goal.returns-clause-all
returns-clause-all c = all_of_sender
