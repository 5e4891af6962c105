use Rattle.std.proofs.Common.{◌∙◌}
use Rattle.std.proofs.lemmas.Result.{err_from_is_err_and}
use Rattle.run_outcome.specs.declared.fault.Fault.TheVariants.{Refused}
use Rattle.script_engines.specs.FirstLines.{end_of, lines_left}
use Rattle.script_engines.proofs.TraceLemmas.{none_answered, one_more, some_answered}
use Rattle.script_engines.proofs.UntracedLemmas.{stops_at_line, then_refusal}
use Rattle.script_engines.proofs.tracing.play_lines.Goals as goal

pub returns-in_err-octets-clause-part : goal.returns-in_err-octets-clause-part
returns-in_err-octets-clause-part g c =
    let p = err_from_is_err_and c.from_residual.result c.from_residual.ensures.1 in
    let session = c.args.session.now in
    rw (p.1)
    (none_answered (lines_left c.args.lines.now) session.receiver session.numbers
    (g.O.ByteSink.took c.args.output.now))

pub loop-line-preserved : goal.loop-line-preserved
loop-line-preserved g c =
    let first = c.args.session.now in
    let before = c.loop-line.session in
    let after = c.play_line.new.session in
    record {
      failures = c.in_ok-play_line.ensures.failures ∙ c.loop-line.invariant.failures;
      so_far =
          one_more (lines_left c.args.lines.now) (lines_left c.loop-line.lines)
          (lines_left c.next.new.self) (c.in-Some.line.number, c.in-Some.line.text.now)
          first.receiver before.receiver after.receiver first.numbers before.numbers
          after.numbers (g.O.ByteSink.took c.args.output.now)
          (g.O.ByteSink.took c.loop-line.output) (g.O.ByteSink.took c.play_line.new.output)
          c.in-Some.ensures.next c.loop-line.invariant.so_far c.in_ok-play_line.ensures.answered;
      room = c.loop-line.invariant.room;
      same_end = c.next.ensures.behind ∙ c.loop-line.invariant.same_end;
    }

pub returns-in_err-play_line-clause-part : goal.returns-in_err-play_line-clause-part
returns-in_err-play_line-clause-part g c =
    let p = err_from_is_err_and c.from_residual-in_err-play_line.result
    c.from_residual-in_err-play_line.ensures.1 in
    let first = c.args.session.now in
    let before = c.loop-line.session in
    rw (p.1)
    (some_answered (lines_left c.args.lines.now) (lines_left c.loop-line.lines)
    (lines_left c.next.new.self) (c.in-Some.line.number, c.in-Some.line.text.now) first.receiver
    before.receiver first.numbers before.numbers (g.O.ByteSink.took c.args.output.now)
    (g.O.ByteSink.took c.loop-line.output) (g.O.ByteSink.took c.play_line.new.output)
    c.in-Some.ensures.next c.loop-line.invariant.so_far c.in_err-play_line.ensures.part)

pub returns-in_err-play_line-clause-stops : goal.returns-in_err-play_line-clause-stops
returns-in_err-play_line-clause-stops g c =
    let p = err_from_is_err_and c.from_residual-in_err-play_line.result
    c.from_residual-in_err-play_line.ensures.1 in
    let first = c.args.session.now in
    let before = c.loop-line.session in
    rw (p.1)
    (then_refusal c.in_err-play_line.field-0.0 p.0 p.2
    (λ r bad is_cut. stops_at_line (lines_left c.args.lines.now) (lines_left c.loop-line.lines)
    (lines_left c.next.new.self) (c.in-Some.line.number, c.in-Some.line.text.now) first.receiver
    before.receiver first.numbers before.numbers (g.O.ByteSink.took c.args.output.now)
    (g.O.ByteSink.took c.loop-line.output) (g.O.ByteSink.took c.play_line.new.output)
    c.in-Some.ensures.next c.loop-line.invariant.so_far is_cut (end_of c.args.lines.now)
    (Refused r) bad)
    c.in_err-play_line.ensures.stops)
