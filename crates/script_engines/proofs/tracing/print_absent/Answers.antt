use Rattle.std.proofs.Common.{◌∙◌, sym, refl, append-nil}
use Rattle.std.proofs.lemmas.Iterator.Adapters.{YieldsList-from_vec}
use Rattle.std.proofs.lemmas.Iterator.Consumers.{YieldsList-end, YieldsList-so_far}
use Rattle.std.proofs.lemmas.Iterator.Consumers.{YieldsList-turn}
use Rattle.std.proofs.lemmas.Result.{err_from_is_err_and}
use Rattle.script_engines.proofs.TraceLemmas.{absent_all, absent_more, absent_part}
use Rattle.script_engines.proofs.tracing.print_absent.Goals as goal

pub loop-first-init : goal.loop-first-init
loop-first-init g c = record { failures = refl; printed = sym (append-nil _) }

pub loop-first-preserved : goal.loop-first-preserved
loop-first-preserved g c = record {
  failures = c.in_ok-print.ensures.failures ∙ c.loop-first.invariant.failures;
  printed =
      absent_more c.loop-first.yielded (c.in-Some-2.first, c.in-Some-2.count)
      (g.O.ByteSink.took c.args.output.now) (g.O.ByteSink.took c.loop-first.output)
      (g.O.ByteSink.took c.print.new.output) c.loop-first.invariant.printed
      c.in_ok-print.ensures.printed;
}

pub returns-in_err-print-clause-part : goal.returns-in_err-print-clause-part
returns-in_err-print-clause-part g c =
    let p = err_from_is_err_and c.from_residual-in_err-print.result
    c.from_residual-in_err-print.ensures.1 in
    let began = c.into_iter-first-iterator in
    let road = YieldsList-from_vec {s = began.result} _ began.ensures.into_iter_gives.0
    (began.ensures.into_iter_gives.1 ∙ c.in_ok-items.items.ok.0) in
    let t = YieldsList-turn road c.loop-first.yielded _ c.loop-first.yielded_by c.next.result
    c.next.new.self (c.in-Some-2.first, c.in-Some-2.count) c.in-Some-2.is c.next.ensures.steps in
    let so_far = YieldsList-so_far road c.loop-first.yielded _ c.loop-first.yielded_by in
    rw (p.1)
    (absent_part c.args.numbers.now c.in-Some.numbers c.in_ok-items.items.items
    c.loop-first.yielded (c.in-Some-2.first, c.in-Some-2.count)
    (g.O.ByteSink.took c.args.output.now) (g.O.ByteSink.took c.loop-first.output)
    (g.O.ByteSink.took c.print.new.output) c.in-Some.is c.in_ok-items.ensures.value so_far t
    c.loop-first.invariant.printed c.in_err-print.ensures.cut)

pub returns-clause-printed : goal.returns-clause-printed
returns-clause-printed g c =
    let began = c.into_iter-first-iterator in
    let road = YieldsList-from_vec {s = began.result} _ began.ensures.into_iter_gives.0
    (began.ensures.into_iter_gives.1 ∙ c.in_ok-items.items.ok.0) in
    let end = YieldsList-end road c.loop-first.yielded _ c.loop-first.yielded_by c.next.result
    c.next.new.self c.in-None.is c.next.ensures.steps in
    absent_all c.args.numbers.now c.in-Some.numbers c.in_ok-items.items.items
    c.loop-first.yielded (g.O.ByteSink.took c.args.output.now)
    (g.O.ByteSink.took c.loop-first.output) c.in-Some.is c.in_ok-items.ensures.value end.0
    c.loop-first.invariant.printed
