use Rattle.std.proofs.Common.{arith}
use Rattle.std.proofs.lemmas.List.{length-take-le}
use Rattle.devices.proofs.link.UdpLinkDatagramLink.turn.Goals as goal

pub returns-in-Ok-clause-within : goal.returns-in-Ok-clause-within
returns-in-Ok-clause-within c =
    omega (
      arith,
      c.in-Ok.ensures,
      c.recv_from.auto.buf,
      length-take-le 65535 c.args.buf.now c.requires,
    )
