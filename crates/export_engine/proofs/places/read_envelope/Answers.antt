use Rattle.std.proofs.Common.{sym}
use Rattle.export_engine.proofs.PacketTexts.{anywhere, envelope_found, no_envelope, no_flow}
use Rattle.export_engine.proofs.PacketTexts.{no_interface}
use Rattle.export_engine.proofs.places.read_envelope.Goals as goal

pub returns-in_default : goal.returns-in_default
returns-in_default c =
    no_flow c.args.text.now c.read_flow.result c.read_flow.ensures c.in_default.is

pub returns-then-is_some : goal.returns-then-is_some
returns-then-is_some c =
    no_interface c.args.text.now c.in-Some.flow c.in-Some.ensures (sym c.if-is_some.ensures)

pub returns-in_default-address : goal.returns-in_default-address
returns-in_default-address c =
    no_envelope c.args.text.now c.in-Some.flow c.in-Some.ensures c.in_default-address.is

pub returns : goal.returns
returns c =
    envelope_found c.args.text.now c.in-Some.flow c.in-Some-address.address c.envelope_from.result
    c.in-Some.ensures (anywhere c.in-Some.flow.interface (sym c.if-is_some.ensures))
    c.in-Some-address.is c.envelope_from.ensures
