use Rattle.std.proofs.Common.{Option, subst, sym}
use Rattle.media_file.specs.Records.{Entry}
use Rattle.recording_reader.specs.FileReader.{TellsTurn}
use Rattle.st_format.specs.declared.device.Turn.TheVariants.{End}
use Rattle.side_by_side.proofs.Told.{hand_past, hand_there}
use Rattle.side_by_side.proofs.giving.tell_at.Goals as goal

pub returns-in-Some-clause-told : goal.returns-in-Some-clause-told
returns-in-Some-clause-told g c =
    let w = c.in-Some in
    let found = w.ensures.lookup in
    subst (λ (h : Option Entry). TellsTurn h c.tell.result c.tell.new.buf)
    (sym (hand_there c.args.sides.now c.args.place w.side.now found.3.0 found.1))
    c.tell.ensures.told

pub returns-in-None-clause-told : goal.returns-in-None-clause-told
returns-in-None-clause-told g c =
    subst (λ (h : Option Entry). TellsTurn h End c.args.buf.now)
    (sym (hand_past c.args.sides.now c.args.place c.in-None.ensures.lookup.3)) tt
