use Rattle.std.proofs.Common.{arith}
use Rattle.std.proofs.lemmas.Option.{slice_get_within}
use Rattle.path_merge.proofs.StepLemmas.{slid_refused, slides_made}
use Rattle.path_merge.proofs.schedule.steps.slide.Goals as goal

pub returns-then-place-receivers-clause-unfit : goal.returns-then-place-receivers-clause-unfit
returns-then-place-receivers-clause-unfit g c _ state there =
    absurd (omega (
      arith,
      slice_get_within c.args.receivers.now c.args.at state there,
      c.from-place.ensures,
      c.if-place-receivers.true,
    ))

pub returns-clause-handed : goal.returns-clause-handed
returns-clause-handed g c =
    slides_made c.args.at c.args.next c.from-place.result c.args.receivers.now
    c.index-receivers-place.result c.slide_one.new.receiver c.slide_one.result
    c.from-place.ensures (omega (arith, c.if-place-receivers.false)) c.slide_one.ensures.handed

pub returns-clause-unfit : goal.returns-clause-unfit
returns-clause-unfit g c is state there =
    slid_refused c.args.at c.args.next c.from-place.result c.args.receivers.now
    c.index-receivers-place.result state c.from-place.ensures
    (omega (arith, c.if-place-receivers.false)) there (c.slide_one.ensures.unfit is)
