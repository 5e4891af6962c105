use Rattle.std.proofs.Common.{◌∙◌, ℕ, List}
use Rattle.std.proofs.lemmas.Result.{err_from_is_err_and}
use Rattle.run_outcome.specs.declared.fault.Fault.TheVariants.{Refused}
use Rattle.run_outcome.proofs.Refusals.{if_err_map, of_refusal_map}
use Rattle.script_engines.specs.FirstLines.{end_of, lines_left}
use Rattle.script_engines.proofs.RehearsalReading.{from_start}
use Rattle.script_engines.proofs.TraceLemmas.{traces, traces_some}
use Rattle.script_engines.proofs.UntracedLemmas.{then_refusal, untraced_behind, untraced_start}
use Rattle.script_engines.proofs.tracing.play.Goals as goal

pub returns-clause-traces : goal.returns-clause-traces
returns-clause-traces g c =
    let octets : List ℕ = c.args.script.now.octets.items in
    let start = from_start c.new-lines.result.passed c.new-lines.result.rest.now octets
    c.new-lines.ensures.passed (c.new-lines.ensures.rest ∙ c.deref.ensures.value) in
    let session = c.in_ok-session.session in
    traces c.play_to_end.result octets (lines_left c.new-lines.result)
    (lines_left c.open_session.new.lines) session.receiver session.numbers
    (g.O.ByteSink.took c.args.output.now) (g.O.ByteSink.took c.play_to_end.new.output) start.0
    c.in_ok-session.ensures.opens c.in_ok-session.ensures.numbers c.play_to_end.ensures.plays

pub returns-clause-part : goal.returns-clause-part
returns-clause-part g c =
    let octets : List ℕ = c.args.script.now.octets.items in
    let start = from_start c.new-lines.result.passed c.new-lines.result.rest.now octets
    c.new-lines.ensures.passed (c.new-lines.ensures.rest ∙ c.deref.ensures.value) in
    let session = c.in_ok-session.session in
    traces_some c.play_to_end.result octets (lines_left c.new-lines.result)
    (lines_left c.open_session.new.lines) session.receiver session.numbers
    (g.O.ByteSink.took c.args.output.now) (g.O.ByteSink.took c.play_to_end.new.output) start.0
    c.in_ok-session.ensures.opens c.in_ok-session.ensures.numbers c.play_to_end.ensures.part

pub returns-in_err-session-clause-stops : goal.returns-in_err-session-clause-stops
returns-in_err-session-clause-stops g c =
    let p = err_from_is_err_and c.from_residual.result c.from_residual.ensures.1 in
    let octets : List ℕ = c.args.script.now.octets.items in
    let start = from_start c.new-lines.result.passed c.new-lines.result.rest.now octets
    c.new-lines.ensures.passed (c.new-lines.ensures.rest ∙ c.deref.ensures.value) in
    rw (p.1)
    (then_refusal c.in_err-session.field-0.0 p.0 p.2
    (λ r. untraced_start (g.O.ByteSink.took c.args.output.now) octets c.args.script.now.is_cut
    (lines_left c.new-lines.result) (end_of c.new-lines.result) start.0 start.1 (Refused r))
    c.in_err-session.ensures.refusal)

pub returns-clause-stops : goal.returns-clause-stops
returns-clause-stops g c =
    let octets : List ℕ = c.args.script.now.octets.items in
    let start = from_start c.new-lines.result.passed c.new-lines.result.rest.now octets
    c.new-lines.ensures.passed (c.new-lines.ensures.rest ∙ c.deref.ensures.value) in
    let session = c.in_ok-session.session in
    if_err_map c.play_to_end.result
    (λ f. of_refusal_map f (λ r. untraced_behind (g.O.ByteSink.took c.args.output.now)
    (g.O.ByteSink.took c.play_to_end.new.output) octets c.args.script.now.is_cut
    (lines_left c.new-lines.result) (lines_left c.open_session.new.lines)
    (end_of c.open_session.new.lines) session.receiver session.numbers start.0
    (c.in_ok-session.ensures.end ∙ start.1) c.in_ok-session.ensures.opens
    c.in_ok-session.ensures.numbers (Refused r)))
    c.play_to_end.ensures.stops
