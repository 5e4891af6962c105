use Rattle.std.proofs.Common.{arith}
use Rattle.path_merge.proofs.StepLemmas.{arrives_made}
use Rattle.path_merge.proofs.schedule.steps.arrive.Goals as goal

pub returns-then-place-receivers-clause-unfit : goal.returns-then-place-receivers-clause-unfit
returns-then-place-receivers-clause-unfit g c below below_too =
    absurd (omega (
      arith,
      below,
      below_too,
      c.from-place.ensures,
      c.then-place-receivers.either,
    ))

pub bounds-receivers-place : goal.bounds-receivers-place
bounds-receivers-place g c = omega (arith, c.if-place-receivers.false)

pub bounds-sent-number : goal.bounds-sent-number
bounds-sent-number g c = omega (arith, c.if-number-sent.false)

pub returns-clause-taken : goal.returns-clause-taken
returns-clause-taken g c =
    arrives_made c.args.to c.args.number c.from-place.result c.args.sent.now c.args.receivers.now
    c.index-receivers-place.result c.take.new.receiver c.index-sent-number.result
    c.deref.result.now c.from-place.ensures (omega (arith, c.if-place-receivers.false))
    (omega (arith, c.if-number-sent.false))
    c.index-receivers-place.is c.index-sent-number.is c.deref.ensures.value c.take.ensures.octets
    c.take.ensures.opening c.take.ensures.frames c.take.ensures.receiver
