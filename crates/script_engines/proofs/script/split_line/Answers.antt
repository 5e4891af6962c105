use Rattle.std.proofs.Common.{◌≡◌, ◌+◌, ◌-◌, ◌<◌, ◌∷◌, List, ℕ, arith, length, take, drop, ap}
use Rattle.std.proofs.Common.{length-drop, not, rules, sym, ◌==◌, ◌∙◌}
use Rattle.std.proofs.lemmas.List.Sums.{prefix_len-le-length}
use Rattle.std.proofs.lemmas.List.{take_all}
use Rattle.std.specs.Str.Lines.{lines}
use Rattle.script_engines.proofs.LineLemmas.{lines_first, lines_last}
use Rattle.script_engines.proofs.script.split_line.Goals as goal

pub returns-then-end-text-clause-cases : goal.returns-then-end-text-clause-cases
returns-then-end-text-clause-cases c =
    let some : 0 < length c.args.text.now = search rules in
    lines_last c.args.text.now some (sym c.if-end-text.true ∙ c.line_end-end.ensures)

pub returns-clause-cases : goal.returns-clause-cases
returns-clause-cases c =
    let text : List ℕ = c.args.text.now in
    let end : ℕ = c.line_end-end.result in
    let within : end < length text =
    omega (arith, prefix_len-le-length (λ x. not (x == 10)) text, c.line_end-end.ensures) in
    let rest : take (length text - (end + 1)) (drop (end + 1) text) ≡ drop (end + 1) text =
    take_all (length text - (end + 1)) (drop (end + 1) text)
    (omega (arith, length-drop (end + 1) text)) in
    lines_first text end c.line_end-end.ensures within
    ∙ ap (λ (x : List ℕ). x ∷ lines (drop (end + 1) text)) (sym c.without_carriage_return.ensures)
    ∙ ap (λ (x : List ℕ). c.without_carriage_return.result.now ∷ lines x) (sym rest)
