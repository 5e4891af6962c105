use Rattle.std.proofs.Common.{◌≡◌, ℕ, [], ◌∷◌, ◌++◌, ◌∙◌, Err, List, Option, Result, refl, subst, sym}
use Rattle.run_outcome.proofs.Printed.{on_err, on_ok, part_first, part_printed, part_then, whenever}
use Rattle.run_outcome.specs.Fault.{Accounts, Blames, counts}
use Rattle.run_outcome.specs.declared.fault.Fault.{Fault}
use Rattle.st_format.specs.Device.{GrowsPart}
use Rattle.run_outcome.specs.Line.{line_text}
use Rattle.run_outcome.specs.declared.line.Line.TheVariants.{Sent, Delivered, Frame}
use Rattle.path_receiver.specs.Frames.{frame_at}
use Rattle.st_format.specs.Raster.{Raster}
use Rattle.capture_engines.specs.Looping.{Prints, ended_line, loop_text}
use Rattle.capture_engines.proofs.looping.print_passed.Goals as goal
use Rattle.st_format.proofs.Gave.{grew_twice}

pub returns-clause-printed : goal.returns-clause-printed
returns-clause-printed g c =
    let took = g.O.ByteSink.took in
    let old = took c.args.output.now in
    let first = took c.print.new.output in
    let second = took c.print-2.new.output in
    let new = took c.print-3.new.output in
    let sent = ended_line (line_text (Sent c.from.result)) in
    let delivered = ended_line (line_text (Delivered c.args.passed.delivered)) in
    let frame = ended_line (line_text (Frame 0 c.counts-counts.result)) in
    let at_zero : Option Raster =
    frame_at c.args.receiver.now.opening.window c.args.receiver.now.frames 0 in
    on_ok c.print-3.result (new ≡ second ++ frame)
    (Prints c.args.passed.sent c.args.passed.delivered c.args.receiver.now old new)
    (λ last. record {
      frame = c.in-Some.frame.now;
      counts = c.counts-counts.result;
      there = sym {b = at_zero} c.in-Some.ensures.frame;
      counted = c.counts-counts.ensures.positions;
      printed =
          subst
          (λ (n : ℕ). new ≡ old ++ loop_text n c.args.passed.delivered c.counts-counts.result)
          c.from.ensures
          (grew_twice old first new sent (delivered ++ frame) c.in_ok-print.ensures.printed
          (grew_twice first second new delivered frame c.in_ok-print-2.ensures.printed last));
    })
    c.print-3.ensures.printed

pub returns-in_err-print-clause-part : goal.returns-in_err-print-clause-part
returns-in_err-print-clause-part g c =
    let took = g.O.ByteSink.took in
    let old = c.args.output.now in
    let new = c.print.new.output in
    let passed = c.args.passed in
    let counted = c.counts-counts.result in
    let at_zero : Option Raster =
    frame_at c.args.receiver.now.opening.window c.args.receiver.now.frames 0 in
    let none : List ℕ = [] in
    let f : Fault = c.in_err-print.field-0.0 in
    let failed : Result ℕ Fault = Err f in
    let sent = ended_line (line_text (Sent c.from.result)) in
    let behind : List ℕ =
    ended_line (line_text (Delivered passed.delivered))
    ++ ended_line (line_text (Frame 0 counted)) in
    whenever c.from_residual.result _
    (part_printed failed took g.O.ByteSink.failures
    (Prints passed.sent passed.delivered c.args.receiver.now none)
    (loop_text passed.sent passed.delivered counted) old new
    (record {
      frame = c.in-Some.frame.now;
      counts = counted;
      there = sym {b = at_zero} c.in-Some.ensures.frame;
      counted = c.counts-counts.ensures.positions;
      printed = refl;
    })
    (subst (λ (n : ℕ). GrowsPart (took old) (took new) (loop_text n passed.delivered counted))
    c.from.ensures (part_first (took old) (took new) sent behind c.in_err-print.ensures.cut))
    c.in_err-print.ensures.device c.in_err-print.ensures.failures)

pub returns-in_err-print-2-clause-part : goal.returns-in_err-print-2-clause-part
returns-in_err-print-2-clause-part g c =
    let took = g.O.ByteSink.took in
    let failures = g.O.ByteSink.failures in
    let old = c.args.output.now in
    let first = c.print.new.output in
    let new = c.print-2.new.output in
    let passed = c.args.passed in
    let counted = c.counts-counts.result in
    let at_zero : Option Raster =
    frame_at c.args.receiver.now.opening.window c.args.receiver.now.frames 0 in
    let none : List ℕ = [] in
    let f : Fault = c.in_err-print-2.field-0.0 in
    let failed : Result ℕ Fault = Err f in
    let sent = ended_line (line_text (Sent c.from.result)) in
    let delivered = ended_line (line_text (Delivered passed.delivered)) in
    let frame = ended_line (line_text (Frame 0 counted)) in
    whenever c.from_residual-in_err-print-2.result _
    (part_printed failed took failures
    (Prints passed.sent passed.delivered c.args.receiver.now none)
    (loop_text passed.sent passed.delivered counted) old new
    (record {
      frame = c.in-Some.frame.now;
      counts = counted;
      there = sym {b = at_zero} c.in-Some.ensures.frame;
      counted = c.counts-counts.ensures.positions;
      printed = refl;
    })
    (subst (λ (n : ℕ). GrowsPart (took old) (took new) (loop_text n passed.delivered counted))
    c.from.ensures
    (part_then (took old) (took first) (took new) sent (delivered ++ frame)
    c.in_ok-print.ensures.printed
    (part_first (took first) (took new) delivered frame c.in_err-print-2.ensures.cut)))
    c.in_err-print-2.ensures.device
    (subst (λ (n : ℕ). Blames (counts n (failures new) ∷ []) f) c.in_ok-print.ensures.failures
    c.in_err-print-2.ensures.failures))

pub returns-clause-part : goal.returns-clause-part
returns-clause-part g c =
    let took = g.O.ByteSink.took in
    let failures = g.O.ByteSink.failures in
    let old = c.args.output.now in
    let first = c.print.new.output in
    let second = c.print-2.new.output in
    let new = c.print-3.new.output in
    let passed = c.args.passed in
    let counted = c.counts-counts.result in
    let at_zero : Option Raster =
    frame_at c.args.receiver.now.opening.window c.args.receiver.now.frames 0 in
    let none : List ℕ = [] in
    let sent = ended_line (line_text (Sent c.from.result)) in
    let delivered = ended_line (line_text (Delivered passed.delivered)) in
    let frame = ended_line (line_text (Frame 0 counted)) in
    part_printed c.print-3.result took failures
    (Prints passed.sent passed.delivered c.args.receiver.now none)
    (loop_text passed.sent passed.delivered counted) old new
    (record {
      frame = c.in-Some.frame.now;
      counts = counted;
      there = sym {b = at_zero} c.in-Some.ensures.frame;
      counted = c.counts-counts.ensures.positions;
      printed = refl;
    })
    (on_err c.print-3.result _ _
    (λ cut. subst (λ (n : ℕ). GrowsPart (took old) (took new)
    (loop_text n passed.delivered counted)) c.from.ensures
    (part_then (took old) (took first) (took new) sent (delivered ++ frame)
    c.in_ok-print.ensures.printed
    (part_then (took first) (took second) (took new) delivered frame
    c.in_ok-print-2.ensures.printed cut))) c.print-3.ensures.cut)
    c.print-3.ensures.device
    (subst (λ (n : ℕ). Accounts c.print-3.result (counts n (failures new) ∷ []))
    (c.in_ok-print-2.ensures.failures ∙ c.in_ok-print.ensures.failures)
    c.print-3.ensures.failures)
