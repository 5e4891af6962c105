use Rattle.run_outcome.specs.declared.fault.Fault.TheVariants.{Refused}
use Rattle.run_outcome.proofs.Refusals.{if_err_map, of_refusal_map}
use Rattle.script_engines.proofs.UntracedLemmas.{untraced}
use Rattle.script_engines.proofs.tracing.trace.Goals as goal

pub returns-clause-refusal : goal.returns-clause-refusal
returns-clause-refusal g c =
    let script = c.in_ok-script.script in
    if_err_map c.play.result
    (λ f. of_refusal_map f (λ r to. (
      script.octets.items,
      script.is_cut,
      c.in_ok-script.ensures.read,
      untraced (g.O.ByteSink.took c.args.output.now) (g.O.ByteSink.took c.play.new.output)
          script.octets.items script.is_cut (Refused r) to,
    )))
    c.play.ensures.stops
