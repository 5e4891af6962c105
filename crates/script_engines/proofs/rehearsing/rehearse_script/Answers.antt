use Rattle.std.proofs.Common.{◌≡◌, inr, refl, subst, sym}
use Rattle.std.proofs.lemmas.Result.{err_from_is_err_and}
use Rattle.run_outcome.specs.declared.fault.Fault.{Fault}
use Rattle.run_outcome.specs.declared.fault.Fault.TheVariants.{Refused}
use Rattle.run_outcome.specs.declared.refusal.Refusal.{Refusal}
use Rattle.run_outcome.proofs.Printed.{part_first}
use Rattle.run_outcome.proofs.SetSums.{counted_by}
use Rattle.run_outcome.proofs.Refusals.{if_none_refused, none_refused}
use Rattle.script_engines.specs.Rehearsal.{said_by}
use Rattle.script_engines.specs.Rehearsed.{IsRefusedScript, IsUnplayed, handed_text, receivers_text}
use Rattle.script_engines.proofs.FaultLemmas.{on_ok}
use Rattle.script_engines.proofs.RehearsedLemmas.{both_cut, none_holds, none_holds_of}
use Rattle.script_engines.proofs.RehearsedLemmas.{on_err_map, on_ok_map}
use Rattle.script_engines.proofs.RehearsedLemmas.{refused_play, refused_read, rehearses}
use Rattle.script_engines.proofs.RehearsedLemmas.{rehearses_part}
use Rattle.script_engines.proofs.rehearsing.rehearse_script.Goals as goal

pub returns-in_err-rehearsal-clause-refusal : goal.returns-in_err-rehearsal-clause-refusal
returns-in_err-rehearsal-clause-refusal g c =
    let p = err_from_is_err_and c.from_residual.result c.from_residual.ensures.1 in
    rw (p.1)
    (refused_read c.args.script.now.octets.items c.args.script.now.is_cut
    c.in_err-rehearsal.field-0.0 p.0 p.2 c.in_err-rehearsal.ensures.fault)

pub returns-in_err-played-clause-refusal : goal.returns-in_err-played-clause-refusal
returns-in_err-played-clause-refusal g c =
    let p = err_from_is_err_and c.from_residual-in_err-played.result
    c.from_residual-in_err-played.ensures.1 in
    rw (p.1)
    (refused_play c.args.script.now.octets.items c.args.script.now.is_cut p.0
    (said_by c.in_ok-rehearsal.rehearsal) c.in_ok-rehearsal.ensures.says
    (subst (λ (f : Fault). IsUnplayed f (said_by c.in_ok-rehearsal.rehearsal)) (sym p.2)
    c.in_err-played.ensures.unplayed))

pub returns-in_err-print_handed-clause-refusal : goal.returns-in_err-print_handed-clause-refusal
returns-in_err-print_handed-clause-refusal g c =
    let p = err_from_is_err_and c.from_residual-in_err-print_handed.result
    c.from_residual-in_err-print_handed.ensures.1 in
    let Is = λ (r : Refusal). IsRefusedScript c.args.script.now.octets.items
    c.args.script.now.is_cut (Refused r) in
    rw (p.1, p.2)
    (none_refused Is c.in_err-print_handed.field-0.0 c.in_err-print_handed.ensures.unrefused)

pub returns-in_err-print_handed-clause-nothing : goal.returns-in_err-print_handed-clause-nothing
returns-in_err-print_handed-clause-nothing g c =
    let p = err_from_is_err_and c.from_residual-in_err-print_handed.result
    c.from_residual-in_err-print_handed.ensures.1 in
    rw (p.1, p.2)
    (none_holds_of c.in_err-print_handed.field-0.0
    (g.O.ByteSink.took c.print_handed.new.output ≡ g.O.ByteSink.took c.args.output.now)
    c.in_err-print_handed.ensures.unrefused)

pub returns-clause-rehearses : goal.returns-clause-rehearses
returns-clause-rehearses g c =
    on_ok_map c.print_receivers.result
    (λ last. rehearses c.args.script.now.octets.items c.in_ok-rehearsal.rehearsal
    c.in_ok-played.played c.as_slice.result.now c.as_slice-2.result.now _ _ _
    c.as_slice.ensures.value c.as_slice-2.ensures.value c.in_ok-rehearsal.ensures.says
    c.in_ok-played.ensures.plays c.in_ok-print_handed.ensures.printed last)
    c.print_receivers.ensures.printed

pub returns-clause-refusal : goal.returns-clause-refusal
returns-clause-refusal g c =
    let Is = λ (r : Refusal). IsRefusedScript c.args.script.now.octets.items
    c.args.script.now.is_cut (Refused r) in
    if_none_refused Is c.print_receivers.result c.print_receivers.ensures.unrefused

pub returns-clause-failures : goal.returns-clause-failures
returns-clause-failures g c =
    counted_by c.print_receivers.result (g.O.ByteSink.failures c.args.output.now)
    (g.O.ByteSink.failures c.print_handed.new.output)
    (g.O.ByteSink.failures c.print_receivers.new.output)
    (g.O.ByteSink.failures c.print_receivers.new.output) c.in_ok-print_handed.ensures.failures refl
    c.print_receivers.ensures.failures

pub returns-clause-whole : goal.returns-clause-whole
returns-clause-whole g c = on_ok c.print_receivers.result c.in_ok-rehearsal.ensures.whole

pub returns-clause-nothing : goal.returns-clause-nothing
returns-clause-nothing g c =
    none_holds c.print_receivers.result (g.O.ByteSink.took c.print_receivers.new.output
    ≡ g.O.ByteSink.took c.args.output.now) c.print_receivers.ensures.unrefused

pub returns-clause-cut : goal.returns-clause-cut
returns-clause-cut g c =
    let old = g.O.ByteSink.took c.args.output.now in
    let mid = g.O.ByteSink.took c.print_handed.new.output in
    let new = g.O.ByteSink.took c.print_receivers.new.output in
    on_err_map c.print_receivers.result
    (λ part. inr (
      c.in_ok-rehearsal.ensures.whole,
      rehearses_part c.args.script.now.octets.items c.in_ok-rehearsal.rehearsal
          c.in_ok-played.played c.as_slice.result.now c.as_slice-2.result.now old new
          c.as_slice.ensures.value c.as_slice-2.ensures.value c.in_ok-rehearsal.ensures.says
          c.in_ok-played.ensures.plays part,
    ))
    (both_cut c.print_receivers.result old mid new (handed_text c.as_slice.result.now)
    (receivers_text c.as_slice-2.result.now) c.in_ok-print_handed.ensures.printed
    c.print_receivers.ensures.cut)

pub returns-in_err-print_handed-clause-cut : goal.returns-in_err-print_handed-clause-cut
returns-in_err-print_handed-clause-cut g c =
    let p = err_from_is_err_and c.from_residual-in_err-print_handed.result
    c.from_residual-in_err-print_handed.ensures.1 in
    let old = g.O.ByteSink.took c.args.output.now in
    let new = g.O.ByteSink.took c.print_handed.new.output in
    let handed = c.as_slice.result.now in
    let receivers = c.in_ok-played.played.receivers.items in
    rw (p.1)
    (inr (
      c.in_ok-rehearsal.ensures.whole,
      rehearses_part c.args.script.now.octets.items c.in_ok-rehearsal.rehearsal
          c.in_ok-played.played handed receivers old new c.as_slice.ensures.value refl
          c.in_ok-rehearsal.ensures.says c.in_ok-played.ensures.plays
          (part_first old new (handed_text handed) (receivers_text receivers)
          c.in_err-print_handed.ensures.cut),
    ))
