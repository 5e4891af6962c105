use Rattle.std.proofs.Common.{◌+◌, eqb, List, ℕ, length, refl, sym, subst}
use Rattle.packet_plan.specs.Plan.{packet_at}
use Rattle.packet_plan.specs.Sent.{IsSentPacket}
use Rattle.packet_plan.proofs.Texts.{runs_at, sent_text}
use Rattle.packet_plan.proofs.plan.Plan.datagram.Goals as goal

pub returns-clause-sent : goal.returns-clause-sent
returns-clause-sent g c =
    let rs = packet_at c.args.self.now c.args.index in
    let last = eqb (c.args.index + 1) (length c.args.self.now.packets) in
    subst (λ (xs : List ℕ). IsSentPacket xs c.args.picture.now c.args.stamp c.args.index last rs)
    (sym c.write_packet.ensures.text)
    (sent_text c.args.picture.now c.args.stamp c.args.index last rs
    (runs_at c.args.self.now.format c.args.picture.now.format rs rs c.requires.format refl
    c.write_packet.ensures.runs) c.write_packet.ensures.picture c.write_packet.ensures.stamp)
