use Rattle.std.proofs.Common.{◌≡◌, List, [], Option, ap, arith, length, refl, take, ℕ}
use Rattle.std.proofs.lemmas.List.{length-take-le}
use Rattle.recording_reader.specs.Reading.{entry_there}
use Rattle.recording_reader.specs.declared.found.Found.{Found}
use Rattle.recording_reader.specs.declared.way.Standing.TheVariants.{Reads}
use Rattle.recording_reader.proofs.Sounding.{known_first, records_first, said_first, sound_first}
use Rattle.recording_reader.proofs.Sounding.{text_first, text_front, text_short}
use Rattle.recording_reader.proofs.Standings.{way_front, way_kind}
use Rattle.recording_reader.proofs.reader.DatagramReader.open.Goals as goal

pub invariant_of-result : goal.invariant_of-result
invariant_of-result g c =
    let told = g.S.ByteSource in
    let b = c.in-Ok.begun in
    let text : List ℕ = take b.text_len c.begin.new.text in
    let size : length text ≡ b.text_len =
    length-take-le b.text_len c.begin.new.text
    (omega (arith, c.requires, c.in-Ok.ensures.text_len, c.begin.ensures.room)) in
    rw (c.of-opened.ensures, c.of-last.ensures)
    (sound_first b.way c.args.flows (told.gave c.args.source) (told.gave c.begin.new.source)
    (told.ended c.begin.new.source) text c.in-Ok.ensures.begins b.room.found _ c.none.result
    b.text_len c.in-Ok.ensures.roomy c.none.ensures size)

pub returns-in-Ok-clause-reader : goal.returns-in-Ok-clause-reader
returns-in-Ok-clause-reader g c =
    let told = g.S.ByteSource in
    let b = c.in-Ok.begun in
    record {
      by_flows = refl;
      reads = refl;
      records =
          rw (c.of-opened.ensures, c.of-last.ensures)
          (records_first b.way c.args.flows (told.gave c.args.source)
          (told.gave c.begin.new.source) (told.ended c.begin.new.source) _ c.in-Ok.ensures.begins);
      at_hand = ap (λ (o : Option Found). entry_there o b.room.octets.items) c.in-Ok.ensures.found;
      left_out = c.in-Ok.ensures.left_out;
      delivered = refl;
      failures = refl;
    }

pub returns-in-Ok-clause-text : goal.returns-in-Ok-clause-text
returns-in-Ok-clause-text g c =
    let told = g.S.ByteSource in
    let b = c.in-Ok.begun in
    rw (c.of-opened.ensures, c.of-last.ensures)
    (text_front _ c.begin.new.text b.text_len
    (text_first b.way c.args.flows (told.gave c.args.source) (told.gave c.begin.new.source)
    (told.ended c.begin.new.source) _ c.in-Ok.ensures.begins)
    (omega (arith, c.requires, c.in-Ok.ensures.text_len, c.begin.ensures.room)))

pub returns-in-Ok-clause-known : goal.returns-in-Ok-clause-known
returns-in-Ok-clause-known g c =
    let told = g.S.ByteSource in
    let b = c.in-Ok.begun in
    rw (c.of-opened.ensures, c.of-last.ensures)
    (λ octets read. record {
      kind =
          way_kind b.way c.args.flows Reads (told.gave c.args.source)
          (told.gave c.begin.new.source) (told.ended c.begin.new.source) _ [] octets
          c.in-Ok.ensures.begins read;
      text =
          said_first b.way c.args.flows (told.gave c.args.source) (told.gave c.begin.new.source)
          (told.ended c.begin.new.source) _ c.in-Ok.ensures.begins octets read;
      front =
          way_front b.way c.args.flows Reads (told.gave c.args.source)
          (told.gave c.begin.new.source) (told.ended c.begin.new.source) _ [] octets
          c.in-Ok.ensures.begins read;
      known =
          known_first b.way c.args.flows (told.gave c.args.source) (told.gave c.begin.new.source)
          (told.ended c.begin.new.source) _ c.in-Ok.ensures.begins octets read;
    })

pub returns-in-Ok-clause-short : goal.returns-in-Ok-clause-short
returns-in-Ok-clause-short g c =
    let told = g.S.ByteSource in
    let b = c.in-Ok.begun in
    rw (c.of-opened.ensures, c.of-last.ensures)
    (text_short _ c.begin.new.text b.text_len
    (text_first b.way c.args.flows (told.gave c.args.source) (told.gave c.begin.new.source)
    (told.ended c.begin.new.source) _ c.in-Ok.ensures.begins) c.in-Ok.ensures.text_len)
