use Rattle.std.proofs.Common.{◌≡◌, subst, false, true}
use Rattle.std.specs.Prelude.{IsSome}
use Rattle.st_format.specs.History.{GrewFrom, since}
use Rattle.recording_reader.specs.FileReader.{FileReader, HasGivenFile, HasGivenRecords, IsExact}
use Rattle.recording_reader.specs.Files.{HaveFileRecords}
use Rattle.recording_reader.proofs.Standings.{way_by_flows, way_front, way_given, way_grew}
use Rattle.recording_reader.proofs.Standings.{way_has, way_kind, way_known, way_parts, way_said}
use Rattle.recording_reader.proofs.reader.DatagramReader.history.Goals as goal

pub returns-clause-known : goal.returns-clause-known
returns-clause-known g c =
    let told = g.S.ByteSource in
    let was = c.self.inside in
    let s = c.self.invariant in
    subst (λ (v : FileReader _). HasGivenFile told.gave told.ended v) c.self.view_is
    (λ octets read. record {
      kind =
          way_kind was.way was.flows was.standing (told.gave was.opened.value)
          (told.gave was.source) (told.ended was.source) _ _ octets s.stands read;
      text =
          way_said was.way was.flows was.standing (told.gave was.opened.value)
          (told.gave was.source) (told.ended was.source) _ _ octets s.stands read;
      front =
          way_front was.way was.flows was.standing (told.gave was.opened.value)
          (told.gave was.source) (told.ended was.source) _ _ octets s.stands read;
      known =
          way_known was.way was.flows was.standing (told.gave was.opened.value)
          (told.gave was.source) (told.ended was.source) _ _ octets s.stands read;
    })

pub returns-clause-given : goal.returns-clause-given
returns-clause-given g c =
    let told = g.S.ByteSource in
    let was = c.self.inside in
    subst (λ (v : FileReader _). IsExact v.standing → HaveFileRecords v.flows
    (since v.before.gave (told.gave v.source)) v.records v.left_out) c.self.view_is
    (λ exact. way_has was.way was.flows was.standing (told.gave was.opened.value)
    (told.gave was.source) (told.ended was.source) _ _ c.self.invariant.stands exact)

pub returns-clause-of_capture : goal.returns-clause-of_capture
returns-clause-of_capture g c =
    let told = g.S.ByteSource in
    let was = c.self.inside in
    subst (λ (v : FileReader _). v.is_recording ≡ false → HaveFileRecords v.flows
    (since v.before.gave (told.gave v.source)) v.records v.left_out) c.self.view_is
    (λ kind. way_given was.way was.flows was.standing (told.gave was.opened.value)
    (told.gave was.source) (told.ended was.source) _ _ c.self.invariant.stands kind)

pub returns-clause-parts : goal.returns-clause-parts
returns-clause-parts g c =
    let told = g.S.ByteSource in
    let was = c.self.inside in
    subst (λ (v : FileReader _). v.is_recording ≡ false → HasGivenRecords told.gave told.ended v)
    c.self.view_is
    (λ kind octets read. way_parts was.way was.flows was.standing (told.gave was.opened.value)
    (told.gave was.source) (told.ended was.source) _ _ octets c.self.invariant.stands kind read)

pub returns-clause-by_flows : goal.returns-clause-by_flows
returns-clause-by_flows g c =
    let told = g.S.ByteSource in
    let was = c.self.inside in
    subst (λ (v : FileReader _). v.is_recording ≡ true → IsSome v.flows) c.self.view_is
    (λ kind. way_by_flows was.way was.flows was.standing (told.gave was.opened.value)
    (told.gave was.source) (told.ended was.source) _ _ c.self.invariant.stands kind)

pub returns-clause-grown : goal.returns-clause-grown
returns-clause-grown g c =
    let told = g.S.ByteSource in
    let was = c.self.inside in
    subst (λ (v : FileReader _). GrewFrom v.before.gave (told.gave v.source)) c.self.view_is
    (way_grew was.way was.flows was.standing (told.gave was.opened.value)
    (told.gave was.source) (told.ended was.source) _ _ c.self.invariant.stands)
