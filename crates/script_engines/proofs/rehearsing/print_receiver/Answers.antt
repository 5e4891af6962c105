use Rattle.std.proofs.Common.{◌++◌, ◌∷◌, []}
use Rattle.std.proofs.lemmas.Result.{err_from_is_err_and}
use Rattle.run_outcome.proofs.Printed.{part_first}
use Rattle.run_outcome.specs.Frames.{frame_lines}
use Rattle.run_outcome.specs.declared.line.Line.TheVariants.{Receiver}
use Rattle.run_outcome.specs.Line.{line_text}
use Rattle.script_engines.proofs.RehearsedLemmas.{both_cut, both_printed}
use Rattle.script_engines.proofs.rehearsing.print_receiver.Goals as goal

pub returns-clause-printed : goal.returns-clause-printed
returns-clause-printed g c =
    both_printed c.print_frames.result _ _ _ (line_text (Receiver c.args.number) ++ 10 ∷ [])
    (frame_lines c.args.receiver.now) c.in_ok-print.ensures.printed c.print_frames.ensures.printed

pub returns-clause-cut : goal.returns-clause-cut
returns-clause-cut g c =
    both_cut c.print_frames.result _ _ _ (line_text (Receiver c.args.number) ++ 10 ∷ [])
    (frame_lines c.args.receiver.now) c.in_ok-print.ensures.printed c.print_frames.ensures.cut

pub returns-in_err-print-clause-cut : goal.returns-in_err-print-clause-cut
returns-in_err-print-clause-cut g c =
    let p = err_from_is_err_and c.from_residual.result c.from_residual.ensures.1 in
    rw (p.1)
    (part_first _ _ (line_text (Receiver c.args.number) ++ 10 ∷ [])
    (frame_lines c.args.receiver.now) c.in_err-print.ensures.cut)
