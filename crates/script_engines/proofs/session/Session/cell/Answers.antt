use Rattle.std.proofs.Common.{refl, subst, sym, ◌∙◌}
use Rattle.st_format.specs.declared.format.Format.{Format}
use Rattle.st_format.specs.Position.{IsPosition}
use Rattle.script_engines.proofs.FrameLemmas.{frame_like}
use Rattle.script_engines.proofs.session.Session.cell.Goals as goal

pub cell-requires : goal.cell-requires
cell-requires g c =
    let like = frame_like c.args.self.now.receiver c.args.place.timestamp c.in-Some.frame.now
    c.frame.ensures.receiver (sym c.in-Some.ensures.frame) in
    subst (λ (f : Format). IsPosition (record {
      row = c.args.place.row;
      column = c.args.place.column;
      component = c.in-Ok.component;
    })
    f)
    (c.format-format.ensures.format ∙ sym like) (c.if-not-has_position.ensures.0 refl)
