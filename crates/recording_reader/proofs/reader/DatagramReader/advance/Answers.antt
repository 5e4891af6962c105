use Rattle.std.proofs.Common.{◌≡◌, ◌∙◌, arith, sym}
use Rattle.recording_reader.proofs.Sounding.{finds, no_path, path_there, records_more}
use Rattle.recording_reader.proofs.Sounding.{some_path, sound_again, sound_end, sound_failed}
use Rattle.recording_reader.proofs.reader.DatagramReader.advance.Goals as goal

pub invariant_of-self-in-Ok-Some : goal.invariant_of-self-in-Ok-Some
invariant_of-self-in-Ok-Some g c =
    let told = g.S.ByteSource in
    let was = c.self.inside in
    let n = c.advance.new.self in
    let is : some_path c.in-Ok-Some.path ≡ path_there n.found n.octets.items =
    sym c.in-Ok-Some.field-0-is ∙ c.in-Ok-Some.ensures.path in
    let h =
    finds was.way c.advance.new.way was.flows was.standing (told.gave was.opened.value)
    (told.gave was.source) (told.gave c.advance.new.source) (told.ended was.source)
    (told.ended c.advance.new.source) _ _ was.room.found _ was.came was.text_len c.self.invariant
    c.in-Reads.is n.found n.octets.items c.in-Ok-Some.path is c.in-Ok-Some.ensures.read in
    rw (c.of.ensures, c.in-Ok-Some.ensures.room)
    (sound_again was.way c.advance.new.way was.flows was.standing (told.gave was.opened.value)
    (told.gave was.source) (told.gave c.advance.new.source) (told.ended was.source)
    (told.ended c.advance.new.source) _ _ was.room.found _ was.came was.text_len c.self.invariant
    c.in-Reads.is n.found n.octets.items c.in-Ok-Some.path h n.found c.note.new.self c.note.ensures
    c.in-Ok-Some.ensures.read)

pub invariant_of-self-in-Ok-None : goal.invariant_of-self-in-Ok-None
invariant_of-self-in-Ok-None g c =
    let told = g.S.ByteSource in
    let was = c.self.inside in
    let n = c.advance.new.self in
    let is : no_path ≡ path_there n.found n.octets.items =
    sym c.in-Ok-None.field-0-is ∙ c.in-Ok-None.ensures.path in
    rw (c.in-Ok-None.ensures.room)
    (sound_end was.way c.advance.new.way was.flows was.standing (told.gave was.opened.value)
    (told.gave was.source) (told.gave c.advance.new.source) (told.ended was.source)
    (told.ended c.advance.new.source) _ _ was.room.found _ was.came was.text_len c.self.invariant
    c.in-Reads.is n.found n.octets.items is c.in-Ok-None.ensures.read)

pub invariant_of-self-in-Err : goal.invariant_of-self-in-Err
invariant_of-self-in-Err g c =
    let told = g.S.ByteSource in
    let was = c.self.inside in
    let n = c.advance.new.self in
    rw (c.in-Err.ensures.room)
    (sound_failed was.way c.advance.new.way was.flows was.standing (told.gave was.opened.value)
    (told.gave was.source) (told.gave c.advance.new.source) (told.ended was.source)
    (told.ended c.advance.new.source) _ _ was.room.found _ was.came was.text_len c.self.invariant
    c.in-Reads.is c.in-Err.fault n.found c.in-Err.ensures.none c.in-Err.ensures.fault)

pub returns-in-Ok-Some-clause-found : goal.returns-in-Ok-Some-clause-found
returns-in-Ok-Some-clause-found g c =
    let told = g.S.ByteSource in
    let was = c.self.inside in
    let n = c.advance.new.self in
    let is : some_path c.in-Ok-Some.path ≡ path_there n.found n.octets.items =
    sym c.in-Ok-Some.field-0-is ∙ c.in-Ok-Some.ensures.path in
    let h =
    finds was.way c.advance.new.way was.flows was.standing (told.gave was.opened.value)
    (told.gave was.source) (told.gave c.advance.new.source) (told.ended was.source)
    (told.ended c.advance.new.source) _ _ was.room.found _ was.came was.text_len c.self.invariant
    c.in-Reads.is n.found n.octets.items c.in-Ok-Some.path is c.in-Ok-Some.ensures.read in
    rw (← c.self.view_is)
    (record {
      entry = h.entry;
      records =
          rw (c.of.ensures)
          (records_more was.way c.advance.new.way was.flows was.standing
          (told.gave was.opened.value) (told.gave was.source) (told.gave c.advance.new.source)
          (told.ended was.source) (told.ended c.advance.new.source) _ _ was.room.found _ was.came
          was.text_len c.self.invariant c.in-Reads.is n.found n.octets.items c.in-Ok-Some.path h);
      at_hand = h.there;
      reads = c.in-Reads.is;
      delivered = omega (arith, c.saturating_add-self-inside-in-Ok-Some.ensures);
    })
