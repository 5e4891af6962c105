use Rattle.std.proofs.Common.{inl, inr, refl, ◌∙◌}
use Rattle.std.proofs.lemmas.Result.{err_from_is_err_and}
use Rattle.run_outcome.specs.Frames.{frame_lines}
use Rattle.run_outcome.specs.declared.fault.Fault.{Fault}
use Rattle.script_engines.specs.FirstLines.{end_of, lines_left}
use Rattle.script_engines.specs.Traced.{AnswersToFault, absent_lines}
use Rattle.script_engines.proofs.FaultLemmas.{on_ok}
use Rattle.script_engines.proofs.TraceLemmas.{ending_cut, frames_cut, played_lines, played_part}
use Rattle.script_engines.proofs.UntracedLemmas.{as_refusal, stops_at_end}
use Rattle.script_engines.proofs.tracing.play_to_end.Goals as goal

pub returns-clause-whole : goal.returns-clause-whole
returns-clause-whole g c = on_ok c.print_absent.result c.if-is_cut.false

pub returns-then-is_cut-clause-part : goal.returns-then-is_cut-clause-part
returns-then-is_cut-clause-part g c =
    let first = c.args.session.now in
    let last = c.play_lines.new.session in
    let took = g.O.ByteSink.took c.play_lines.new.output in
    ending_cut (lines_left c.args.lines.now) first.receiver last.receiver first.numbers
    last.numbers (g.O.ByteSink.took c.args.output.now) took took
    c.in_ok-play_lines.ensures.answers (inl refl)

pub returns-in_err-print_frames-clause-part : goal.returns-in_err-print_frames-clause-part
returns-in_err-print_frames-clause-part g c =
    let p = err_from_is_err_and c.from_residual-in_err-print_frames.result
    c.from_residual-in_err-print_frames.ensures.1 in
    let first = c.args.session.now in
    let last = c.play_lines.new.session in
    let mid = g.O.ByteSink.took c.play_lines.new.output in
    let new = g.O.ByteSink.took c.print_frames.new.output in
    rw (p.1)
    (ending_cut (lines_left c.args.lines.now) first.receiver last.receiver first.numbers
    last.numbers (g.O.ByteSink.took c.args.output.now) mid new c.in_ok-play_lines.ensures.answers
    (inr (frames_cut mid new (frame_lines last.receiver) (absent_lines last.numbers)
    c.in_err-print_frames.ensures.cut)))

pub returns-clause-plays : goal.returns-clause-plays
returns-clause-plays g c =
    let first = c.args.session.now in
    let last = c.play_lines.new.session in
    played_lines c.print_absent.result (lines_left c.args.lines.now) first.receiver last.receiver
    first.numbers last.numbers (g.O.ByteSink.took c.args.output.now)
    (g.O.ByteSink.took c.play_lines.new.output) (g.O.ByteSink.took c.print_frames.new.output)
    (g.O.ByteSink.took c.print_absent.new.output) c.in_ok-play_lines.ensures.answers
    c.in_ok-print_frames.ensures.printed c.print_absent.ensures.printed

pub returns-clause-part : goal.returns-clause-part
returns-clause-part g c =
    let first = c.args.session.now in
    let last = c.play_lines.new.session in
    played_part c.print_absent.result (lines_left c.args.lines.now) first.receiver last.receiver
    first.numbers last.numbers (g.O.ByteSink.took c.args.output.now)
    (g.O.ByteSink.took c.play_lines.new.output) (g.O.ByteSink.took c.print_frames.new.output)
    (g.O.ByteSink.took c.print_absent.new.output) c.in_ok-play_lines.ensures.answers
    c.in_ok-print_frames.ensures.printed c.print_absent.ensures.part

pub returns-then-is_cut-clause-stops : goal.returns-then-is_cut-clause-stops
returns-then-is_cut-clause-stops g c =
    let first = c.args.session.now in
    let last = c.play_lines.new.session in
    let lines = lines_left c.args.lines.now in
    let end = end_of c.args.lines.now in
    let old = g.O.ByteSink.took c.args.output.now in
    let new = g.O.ByteSink.took c.play_lines.new.output in
    as_refusal
    (λ (f : Fault). AnswersToFault lines first.receiver first.numbers c.args.is_cut end f old new)
    c.refused_at.result
    (stops_at_end lines first.receiver last.receiver first.numbers last.numbers old new
    c.args.is_cut c.following.result end c.refused_at.result c.in_ok-play_lines.ensures.answers
    c.if-is_cut.true c.refused_at.ensures
    (c.following.ensures ∙ c.in_ok-play_lines.ensures.end))
