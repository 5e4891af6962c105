use Rattle.std.proofs.Common.{◌≡◌, ◌∙◌, ◌++◌, [], List, ap, arith, length, rules}
use Rattle.std.proofs.lemmas.List.{length-take}
use Rattle.std.specs.List.{flat_map}
use Rattle.stream_inspection.specs.Lines.{row_line}
use Rattle.stream_inspection.specs.Numbers.{told_streams}
use Rattle.stream_inspection.specs.Skews.{skew_row}
use Rattle.stream_inspection.specs.Streams.{stream_lines}
use Rattle.stream_inspection.specs.Told.{window_line}
use Rattle.stream_inspection.specs.declared.rows.Row.TheVariants.{Skew}
use Rattle.stream_inspection.proofs.Texts.{is_text}
use Rattle.stream_inspection.proofs.telling.text_of.Goals as goal

pub put_window-requires : goal.put_window-requires
put_window-requires g c =
    omega (
      arith,
      simp length-take at (ap length (c.deref-2.ensures.value ∙ c.in_ok-window.ensures)),
    )

pub returns : goal.returns
returns g c = λ entries is.
    let form = c.args.form in
    let none : c.new-text.result.items ≡ [] = search rules in
    is_text form c.args.target.now c.args.inspection.now entries c.timestamps-counts.result.now
    c.in_ok-skews.skews.items _ _ _ _ _ _ c.timestamps-counts.ensures is c.in_ok-skews.ensures
    (λ ps are_streams. c.in_ok-put_streams.ensures ps are_streams
    ∙ ap (λ (l : List _). l ++ flat_map (stream_lines {A = g.row.A.Denot} form) (told_streams ps)) none)
    c.in_ok-put_timestamps.ensures
    (c.in_ok-put_skews.ensures
    ∙ ap (λ (l : List _). c.put_timestamps.new.text.items ++ row_line form (Skew (skew_row l)))
    c.deref.ensures.value)
    c.in_ok-put_refusals.ensures c.in_ok-put_counted.ensures
    (c.in_ok-put_window.ensures
    ∙ ap (λ (l : List _). c.put_counted.new.text.items
    ++ window_line form c.args.target.now.payload_type l)
    (c.deref-2.ensures.value ∙ c.in_ok-window.ensures))
