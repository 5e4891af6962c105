use Rattle.std.proofs.Common.{◌≡◌, ◌∙◌, None, Some, ap, arith, false, refl, sym}
use Rattle.recording_reader.specs.FileReader.{FileReader}
use Rattle.recording_reader.specs.Ways.{is_recording_way}
use Rattle.recording_reader.specs.declared.fault.ReadingFault.TheVariants as fault
use Rattle.recording_reader.specs.declared.way.Standing.TheVariants.{Reads}
use Rattle.recording_reader.proofs.Sounding.{capture_fails, capture_finds, finds, front_octets}
use Rattle.recording_reader.proofs.Sounding.{records_more, sound_again, sound_end, sound_failed}
use Rattle.recording_reader.proofs.Sounding.{text_same}
use Rattle.recording_reader.proofs.reader.DatagramReader.read_next.Goals as goal

pub invariant_of-self : goal.invariant_of-self
invariant_of-self g c =
    let told = g.S.ByteSource in
    let was = c.self.inside in
    let f = c.in-Ok-Some.found in
    let buffer = c.read_record.new.buf in
    let kind : is_recording_way was.way ≡ false =
    ap (λ (v : FileReader _). v.is_recording) c.self.view_is ∙ c.requires.kind in
    let reads : was.standing ≡ Reads =
    ap (λ (v : FileReader _). v.standing) c.self.view_is ∙ c.requires.reads in
    let next =
    capture_finds was.way kind (Some f) buffer (told.gave was.source)
    (told.gave c.read_record.new.source) (told.ended c.read_record.new.source)
    (rw c.in-Ok-Some.field-0-is at c.in-Ok-Some.ensures.read) in
    let h =
    finds was.way was.way was.flows was.standing (told.gave was.opened.value)
    (told.gave was.source) (told.gave c.read_record.new.source) (told.ended was.source)
    (told.ended c.read_record.new.source) _ _ was.room.found _ was.came was.text_len c.self.invariant
    reads (Some f) buffer f.path refl next in
    rw (c.of.ensures)
    (sound_again was.way was.way was.flows was.standing (told.gave was.opened.value)
    (told.gave was.source) (told.gave c.read_record.new.source) (told.ended was.source)
    (told.ended c.read_record.new.source) _ _ was.room.found _ was.came was.text_len c.self.invariant
    reads (Some f) buffer f.path h _ c.note.new.self c.note.ensures next)

pub returns-in-Ok-Some-clause-told : goal.returns-in-Ok-Some-clause-told
returns-in-Ok-Some-clause-told g c =
    let told = g.S.ByteSource in
    let was = c.self.inside in
    let f = c.in-Ok-Some.found in
    let buffer = c.read_record.new.buf in
    let kind : is_recording_way was.way ≡ false =
    ap (λ (v : FileReader _). v.is_recording) c.self.view_is ∙ c.requires.kind in
    let reads : was.standing ≡ Reads =
    ap (λ (v : FileReader _). v.standing) c.self.view_is ∙ c.requires.reads in
    let next =
    capture_finds was.way kind (Some f) buffer (told.gave was.source)
    (told.gave c.read_record.new.source) (told.ended c.read_record.new.source)
    (rw c.in-Ok-Some.field-0-is at c.in-Ok-Some.ensures.read) in
    let h =
    finds was.way was.way was.flows was.standing (told.gave was.opened.value)
    (told.gave was.source) (told.gave c.read_record.new.source) (told.ended was.source)
    (told.ended c.read_record.new.source) _ _ was.room.found _ was.came was.text_len c.self.invariant
    reads (Some f) buffer f.path refl next in
    let at = rw c.in-Ok-Some.field-0-is at c.in-Ok-Some.ensures.front in
    let few = rw c.in-Ok-Some.field-0-is at c.in-Ok-Some.ensures.few in
    rw (← c.self.view_is)
    (record {
      entry = h.entry;
      records =
          rw (c.of.ensures)
          (records_more was.way was.way was.flows was.standing (told.gave was.opened.value)
          (told.gave was.source) (told.gave c.read_record.new.source) (told.ended was.source)
          (told.ended c.read_record.new.source) _ _ was.room.found _ was.came was.text_len
          c.self.invariant reads (Some f) buffer f.path h);
      by = sym h.by;
      octets = front_octets f buffer h.entry at h.there;
      few = omega (arith, at, few);
      at_hand = refl;
      reads = reads;
      delivered = omega (arith, c.saturating_add-self-inside.ensures);
    })

pub returns-in-Ok-Some-clause-same : goal.returns-in-Ok-Some-clause-same
returns-in-Ok-Some-clause-same g c =
    let told = g.S.ByteSource in
    let was = c.self.inside in
    let f = c.in-Ok-Some.found in
    let buffer = c.read_record.new.buf in
    let kind : is_recording_way was.way ≡ false =
    ap (λ (v : FileReader _). v.is_recording) c.self.view_is ∙ c.requires.kind in
    let reads : was.standing ≡ Reads =
    ap (λ (v : FileReader _). v.standing) c.self.view_is ∙ c.requires.reads in
    let next =
    capture_finds was.way kind (Some f) buffer (told.gave was.source)
    (told.gave c.read_record.new.source) (told.ended c.read_record.new.source)
    (rw c.in-Ok-Some.field-0-is at c.in-Ok-Some.ensures.read) in
    let h =
    finds was.way was.way was.flows was.standing (told.gave was.opened.value)
    (told.gave was.source) (told.gave c.read_record.new.source) (told.ended was.source)
    (told.ended c.read_record.new.source) _ _ was.room.found _ was.came was.text_len c.self.invariant
    reads (Some f) buffer f.path refl next in
    rw (← c.self.view_is)
    (record {
      before = refl;
      flows = refl;
      kind = refl;
      text =
          rw (c.of.ensures)
          (text_same was.way was.way was.flows was.standing (told.gave was.opened.value)
          (told.gave was.source) (told.gave c.read_record.new.source) (told.ended was.source)
          (told.ended c.read_record.new.source) _ _ was.room.found _ was.came was.text_len
          c.self.invariant reads (Some f) buffer f.path h);
    })

pub invariant_of-self-in-Ok-None : goal.invariant_of-self-in-Ok-None
invariant_of-self-in-Ok-None g c =
    let told = g.S.ByteSource in
    let was = c.self.inside in
    let buffer = c.read_record.new.buf in
    let kind : is_recording_way was.way ≡ false =
    ap (λ (v : FileReader _). v.is_recording) c.self.view_is ∙ c.requires.kind in
    let reads : was.standing ≡ Reads =
    ap (λ (v : FileReader _). v.standing) c.self.view_is ∙ c.requires.reads in
    let next =
    capture_finds was.way kind None buffer (told.gave was.source)
    (told.gave c.read_record.new.source) (told.ended c.read_record.new.source)
    (rw c.in-Ok-None.field-0-is at c.in-Ok-None.ensures.read) in
    sound_end was.way was.way was.flows was.standing (told.gave was.opened.value)
    (told.gave was.source) (told.gave c.read_record.new.source) (told.ended was.source)
    (told.ended c.read_record.new.source) _ _ was.room.found _ was.came was.text_len c.self.invariant
    reads None buffer refl next

pub invariant_of-self-in-Err : goal.invariant_of-self-in-Err
invariant_of-self-in-Err g c =
    let told = g.S.ByteSource in
    let was = c.self.inside in
    let kind : is_recording_way was.way ≡ false =
    ap (λ (v : FileReader _). v.is_recording) c.self.view_is ∙ c.requires.kind in
    let reads : was.standing ≡ Reads =
    ap (λ (v : FileReader _). v.standing) c.self.view_is ∙ c.requires.reads in
    sound_failed was.way was.way was.flows was.standing (told.gave was.opened.value)
    (told.gave was.source) (told.gave c.read_record.new.source) (told.ended was.source)
    (told.ended c.read_record.new.source) _ _ was.room.found _ was.came was.text_len c.self.invariant
    reads (fault.Capture c.in-Err.fault) None refl
    (capture_fails was.way kind c.in-Err.fault (told.gave was.source)
    (told.gave c.read_record.new.source) (told.ended c.read_record.new.source)
    c.in-Err.ensures.fault)
