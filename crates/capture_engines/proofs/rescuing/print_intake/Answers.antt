use Rattle.std.proofs.Common.{◌≡◌, List, ℕ, [], ◌∷◌, ◌++◌}
use Rattle.run_outcome.specs.Line.{line_text}
use Rattle.run_outcome.specs.Frames.{frame_lines}
use Rattle.capture_engines.specs.Printed.{if_wanted, received_text, tally_text}
use Rattle.run_outcome.specs.declared.line.Line.TheVariants.{Delivered}
use Rattle.run_outcome.proofs.Printed.{on_err, on_ok, part_first, part_then, whenever}
use Rattle.capture_engines.proofs.rescuing.print_intake.Goals as goal
use Rattle.st_format.proofs.Gave.{grew_twice}

pub returns-clause-printed : goal.returns-clause-printed
returns-clause-printed g c =
    let s = c.args.intake.now in
    let first : List ℕ = line_text (Delivered s.delivered) ++ 10 ∷ [] in
    let counts : List ℕ = if_wanted c.args.tells_refusals (tally_text s.tally) in
    let frames : List ℕ = frame_lines s.receiver in
    let old = g.O.ByteSink.took c.args.output.now in
    let begun = g.O.ByteSink.took c.print.new.output in
    let told = g.O.ByteSink.took c.print_wanted.new.output in
    let new = g.O.ByteSink.took c.print_frames.new.output in
    on_ok c.print_frames.result (new ≡ told ++ frames)
    (new ≡ old
    ++ received_text c.args.tells_refusals s.delivered (tally_text s.tally) s.receiver)
    (λ last. grew_twice old begun new first (counts ++ frames) c.in_ok-print.ensures.printed
    (grew_twice begun told new counts frames c.in_ok-print_wanted.ensures.printed last))
    c.print_frames.ensures.printed

pub returns-in_err-print-clause-cut : goal.returns-in_err-print-clause-cut
returns-in_err-print-clause-cut g c =
    let s = c.args.intake.now in
    let first : List ℕ = line_text (Delivered s.delivered) ++ 10 ∷ [] in
    let counts : List ℕ = if_wanted c.args.tells_refusals (tally_text s.tally) in
    whenever c.from_residual.result _
    (part_first (g.O.ByteSink.took c.args.output.now) (g.O.ByteSink.took c.print.new.output) first
    (counts ++ frame_lines s.receiver) c.in_err-print.ensures.cut)

pub returns-in_err-print_wanted-clause-cut : goal.returns-in_err-print_wanted-clause-cut
returns-in_err-print_wanted-clause-cut g c =
    let s = c.args.intake.now in
    let first : List ℕ = line_text (Delivered s.delivered) ++ 10 ∷ [] in
    let counts : List ℕ = if_wanted c.args.tells_refusals (tally_text s.tally) in
    let frames : List ℕ = frame_lines s.receiver in
    let begun = g.O.ByteSink.took c.print.new.output in
    let new = g.O.ByteSink.took c.print_wanted.new.output in
    whenever c.from_residual-in_err-print_wanted.result _
    (part_then (g.O.ByteSink.took c.args.output.now) begun new first (counts ++ frames)
    c.in_ok-print.ensures.printed
    (part_first begun new counts frames c.in_err-print_wanted.ensures.cut))

pub returns-clause-cut : goal.returns-clause-cut
returns-clause-cut g c =
    let s = c.args.intake.now in
    let first : List ℕ = line_text (Delivered s.delivered) ++ 10 ∷ [] in
    let counts : List ℕ = if_wanted c.args.tells_refusals (tally_text s.tally) in
    let frames : List ℕ = frame_lines s.receiver in
    let begun = g.O.ByteSink.took c.print.new.output in
    let told = g.O.ByteSink.took c.print_wanted.new.output in
    let new = g.O.ByteSink.took c.print_frames.new.output in
    on_err c.print_frames.result _ _
    (λ cut. part_then (g.O.ByteSink.took c.args.output.now) begun new first (counts ++ frames)
    c.in_ok-print.ensures.printed
    (part_then begun told new counts frames c.in_ok-print_wanted.ensures.printed cut))
    c.print_frames.ensures.cut
