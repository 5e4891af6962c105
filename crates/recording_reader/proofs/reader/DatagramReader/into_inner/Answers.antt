use Rattle.std.proofs.Common.{subst}
use Rattle.recording_reader.specs.FileReader.{FileReader, HasGivenFile}
use Rattle.recording_reader.proofs.Standings.{way_front, way_kind, way_known, way_said}
use Rattle.recording_reader.proofs.reader.DatagramReader.into_inner.Goals as goal

pub returns-clause-known : goal.returns-clause-known
returns-clause-known g c =
    let told = g.S.ByteSource in
    let was = c.self.inside in
    let s = c.self.invariant in
    subst (λ (v : FileReader _). HasGivenFile told.gave told.ended v) c.self.view_is
    (λ octets read. record {
      kind =
          way_kind was.way was.flows was.standing (told.gave was.opened.value)
          (told.gave was.source) (told.ended was.source) _ _ octets s.stands read;
      text =
          way_said was.way was.flows was.standing (told.gave was.opened.value)
          (told.gave was.source) (told.ended was.source) _ _ octets s.stands read;
      front =
          way_front was.way was.flows was.standing (told.gave was.opened.value)
          (told.gave was.source) (told.ended was.source) _ _ octets s.stands read;
      known =
          way_known was.way was.flows was.standing (told.gave was.opened.value)
          (told.gave was.source) (told.ended was.source) _ _ octets s.stands read;
    })
