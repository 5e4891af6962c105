use Rattle.std.proofs.Common.{◌∙◌, ◌+◌, ◌-◌, Err, arith, length, refl, sym}
use Rattle.pcap_file.specs.Views.{seen_datagram}
use Rattle.recording_reader.proofs.Findings.{found_is, omission_at, omission_to, part_of}
use Rattle.recording_reader.proofs.Findings.{placed_within, record_by, record_to}
use Rattle.recording_reader.proofs.found.find.Goals as goal

pub returns-in-Some-clause-is : goal.returns-in-Some-clause-is
returns-in-Some-clause-is c =
    let p = c.args.packet.now in
    let start = p.place + c.in-Ok.placed.place in
    found_is c.args.flows.now p c.args.buf.now (seen_datagram c.in-Ok.placed.datagram)
    c.in-Some.path c.moment_of-moment.result c.in-Ok.placed.place start
    (start + length c.in-Ok.placed.datagram.payload.now) c.in-Ok.ensures.exact
    (sym c.in-Some.is ∙ c.path_of.ensures) c.moment_of-moment.ensures c.in-Ok.ensures.stands refl
    refl

pub returns-in-Some-clause-why : goal.returns-in-Some-clause-why
returns-in-Some-clause-why c =
    sym (omission_to c.args.flows.now c.args.packet.now c.args.buf.now
    (seen_datagram c.in-Ok.placed.datagram) _ c.in-Ok.ensures.exact
    (sym c.in-Some.is ∙ c.path_of.ensures))

pub returns-in-Some-clause-inside : goal.returns-in-Some-clause-inside
returns-in-Some-clause-inside c =
    let p = c.args.packet.now in
    let b = c.args.buf.now in
    placed_within p.place (p.place + p.head.captured - p.place) c.in-Ok.placed.place (part_of p b)
    c.in-Ok.placed.datagram.payload.now b refl (omega (arith, c.requires)) c.in-Ok.ensures.stands

pub returns-in-Some-clause-few : goal.returns-in-Some-clause-few
returns-in-Some-clause-few c = omega (arith, c.in-Ok.ensures.few)

pub returns-in-None-clause-is : goal.returns-in-None-clause-is
returns-in-None-clause-is c =
    sym (record_to c.args.flows.now c.args.packet.now c.args.buf.now
    (seen_datagram c.in-Ok.placed.datagram) _ c.in-Ok.ensures.exact
    (sym c.in-None.is ∙ c.path_of.ensures))

pub returns-in-None-clause-why : goal.returns-in-None-clause-why
returns-in-None-clause-why c =
    sym (omission_to c.args.flows.now c.args.packet.now c.args.buf.now
    (seen_datagram c.in-Ok.placed.datagram) _ c.in-Ok.ensures.exact
    (sym c.in-None.is ∙ c.path_of.ensures))

pub returns-in-Err-clause-is : goal.returns-in-Err-clause-is
returns-in-Err-clause-is c =
    sym (record_by c.args.flows.now c.args.packet.now c.args.buf.now (Err c.in-Err.reason)
    c.in-Err.ensures.exact)

pub returns-in-Err-clause-why : goal.returns-in-Err-clause-why
returns-in-Err-clause-why c =
    sym (omission_at c.args.flows.now c.args.packet.now c.args.buf.now (Err c.in-Err.reason)
    c.in-Err.ensures.exact)
