use Rattle.std.proofs.Common.{ap, refl}
use Rattle.frame_assembly.specs.declared.counts.Counts.{Counts}
use Rattle.run_outcome.specs.declared.line.Line.TheVariants.{Out}
use Rattle.run_outcome.proofs.Printed.{are_counts}
use Rattle.script_engines.proofs.session.Session.slide.Goals as goal

pub returns-in-Ok-clause-slid : goal.returns-in-Ok-clause-slid
returns-in-Ok-clause-slid g c = λ out. (
  c.slide-slid.new.out,
  refl,
  record {
    first = c.in-Ok.first;
    first_is = cc (c.in-Ok.ensures.first, c.spare_frame.ensures.receiver);
    moved = cc (c.in-Ok.ensures.slid, c.spare_frame.ensures.receiver);
    frame_is = cc (c.in-Ok.ensures.out, c.spare_frame.ensures.receiver);
    answer_is = ap (λ (n : Counts). Out c.in-Ok.first n)
        (are_counts c.counts-counts.result c.slide-slid.new.out c.counts-counts.ensures.present
        c.counts-counts.ensures.missing c.counts-counts.ensures.contested);
  },
)
