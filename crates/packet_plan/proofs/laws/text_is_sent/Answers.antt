use Rattle.packet_plan.proofs.Texts.{packet_sent, picture_sent}
use Rattle.packet_plan.proofs.laws.text_is_sent.Goals as goal

pub returns : goal.returns
returns c = record { datagram = packet_sent; picture = picture_sent }
