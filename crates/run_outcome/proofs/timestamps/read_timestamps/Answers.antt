use Rattle.std.proofs.Common.{List, ℕ, sym, subst}
use Rattle.run_outcome.proofs.CommaLemmas.{SoFar, field_none, last_none, one_more}
use Rattle.run_outcome.proofs.timestamps.read_timestamps.Goals as goal

pub returns-in_default-read_number-clause-none : goal.returns-in_default-read_number-clause-none
returns-in_default-read_number-clause-none g c =
    field_none c.args.text.now c.loop-first.timestamps.items c.loop-first.rest.now
    c.in-Some.first.now c.in-Some.more.now c.loop-first.invariant (sym c.in-Some.ensures.parts)
    (λ n is. c.in_default-read_number.ensures.value is.is)

pub loop-first-preserved : goal.loop-first-preserved
loop-first-preserved g c =
    subst (λ (xs : List ℕ). SoFar c.args.text.now xs c.in-Some.more.now)
    (sym c.in_ok-push.ensures.items)
    (one_more c.args.text.now c.loop-first.timestamps.items c.loop-first.rest.now
    c.in-Some.first.now c.in-Some.more.now c.in-Some-read_number.timestamp
    c.loop-first.invariant (sym c.in-Some.ensures.parts)
    (record {
      is = c.in-Some-read_number.ensures.value.0;
      value = c.in-Some-read_number.ensures.value.1;
    }))

pub returns-in_default-read_number-2-clause-none : goal.returns-in_default-read_number-2-clause-none
returns-in_default-read_number-2-clause-none g c =
    last_none c.args.text.now c.loop-first.timestamps.items c.loop-first.rest.now
    c.loop-first.invariant (sym c.in_default.ensures.parts)
    (λ n is. c.in_default-read_number-2.ensures.value is.is)
