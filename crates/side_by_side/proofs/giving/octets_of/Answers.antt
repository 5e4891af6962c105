use Rattle.std.proofs.Common.{◌∙◌, ap, sym}
use Rattle.recording_reader.specs.FileReader.{octets_at_hand}
use Rattle.side_by_side.proofs.Told.{hand_past, hand_there}
use Rattle.side_by_side.proofs.giving.octets_of.Goals as goal

pub returns-in-Some-clause-octets : goal.returns-in-Some-clause-octets
returns-in-Some-clause-octets g c =
    let w = c.in-Some in
    let found = w.ensures.lookup in
    c.octets.ensures.octets
    ∙ ap octets_at_hand
    (sym (hand_there c.args.sides.now c.args.place w.side.now found.3.0 found.1))

pub returns-in-None-clause-octets : goal.returns-in-None-clause-octets
returns-in-None-clause-octets g c =
    ap octets_at_hand
    (sym (hand_past c.args.sides.now c.args.place c.in-None.ensures.lookup.3))
