use Rattle.std.proofs.Common.{◌++◌, sym, ap, ◌∙◌, subst}
use Rattle.st_format.specs.History.{IsRead}
use Rattle.st_format.specs.declared.format.Format.{Format}
use Rattle.picture_forms.specs.Layouts.{IsYcc, frame_text}
use Rattle.picture_forms.specs.Streams.{Reader}
use Rattle.picture_forms.proofs.Only.{frame_gave_only, frame_only}
use Rattle.picture_forms.proofs.streams.StreamReader.next_picture.Goals as goal

pub returns-clause-only : goal.returns-clause-only
returns-clause-only g c stands v behind whole same told =
    let e = c.read_over-read.ensures in
    let ycc : IsYcc c.args.last.format.sampling =
    subst (λ (f : Format). IsYcc f.sampling)
    (ap (λ (r : Reader g.row.S.Denot). r.format) c.self.view_is ∙ sym c.requires)
    c.self.invariant in
    frame_only c.args.last.format c.read_over-read.result _ _ ycc e.found e.fault v behind whole
    (same ∙ sym c.requires)
    (ap (λ (r : Reader g.row.S.Denot). g.S.ByteSource.to_give r.source) c.self.view_is ∙ told)

pub returns-clause-gave_only : goal.returns-clause-gave_only
returns-clause-gave_only g c stands v behind whole same read =
    let e = c.read_over-read.ensures in
    let ycc : IsYcc c.args.last.format.sampling =
    subst (λ (f : Format). IsYcc f.sampling)
    (ap (λ (r : Reader g.row.S.Denot). r.format) c.self.view_is ∙ sym c.requires)
    c.self.invariant in
    rw (← c.self.view_is)
    (frame_gave_only c.args.last.format c.read_over-read.result _ _ _ _ _ ycc e.found e.gave
    e.gave_wrong v behind whole (same ∙ sym c.requires)
    (subst (λ (r : Reader g.row.S.Denot). IsRead (g.S.ByteSource.gave r.source)
    (g.S.ByteSource.gave c.read_over-read.new.source)
    (g.S.ByteSource.ended c.read_over-read.new.source) (frame_text v ++ behind))
    (sym c.self.view_is) read))
