use Rattle.std.proofs.Common.{Some, Option, ap, arith, length, sym, subst, ◌∙◌}
use Rattle.std.specs.Prelude.{slice_get}
use Rattle.st_format.specs.Raster.{IsWhole, Raster}
use Rattle.path_receiver.specs.Frames.{State}
use Rattle.path_receiver.proofs.Joined.{receiver_set}
use Rattle.path_receiver.proofs.Windows.{get_some}
use Rattle.path_receiver.proofs.receiver.Receiver.set_frame.Goals as goal

abbrev some_raster : Raster → Option Raster
some_raster r = Some r

pub invariant_of-self : goal.invariant_of-self
invariant_of-self g c = (
  receiver_set _ c.args.place c.swap.new.x c.self.invariant.0
      (ap (λ (r : Raster). r.format) c.swap.ensures.x_after ∙ c.requires.format
      ∙ ap (λ (s : State). s.opening.format) (sym c.self.view_is))
      (subst IsWhole (sym c.swap.ensures.x_after) c.facts.ensures.whole),
  c.self.invariant.1,
)

pub returns-clause-receiver : goal.returns-clause-receiver
returns-clause-receiver g c = (invariant_of-self g c).0

pub returns-clause-frame : goal.returns-clause-frame
returns-clause-frame g c =
    ap (λ (s : State). slice_get s.frames c.args.place) (sym c.self.view_is)
    ∙ get_some c.args.place c.self.inside.frames.items c.index_mut.result.now
    (omega (
      arith,
      c.self.invariant.0.one_each,
      c.requires.place,
      ap (λ (s : State). length s.opening.window) c.self.view_is,
    ))
    ∙ ap (λ (r : Raster). some_raster r) (sym (c.swap.ensures.y_after ∙ c.index_mut.ensures.value))
