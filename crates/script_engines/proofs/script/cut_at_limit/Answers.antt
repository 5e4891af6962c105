use Rattle.std.proofs.Common.{arith, ◌≡◌, ◌≤◌, ◌<◌, List, ℕ, length, take, subst, sym, ap, ◌∙◌}
use Rattle.std.proofs.lemmas.List.{length-take-le}
use Rattle.script_engines.specs.Script.{IsWholeLines}
use Rattle.script_engines.proofs.script.cut_at_limit.Goals as goal

pub slice_bounds-whole_lines-end : goal.slice_bounds-whole_lines-end
slice_bounds-whole_lines-end g c =
    sym (length-take-le 16777216 c.deref.result.now (omega (arith, c.deref.ensures.len)))

-- the length of n octets from the front of those within the limit
within_limit : (given : List ℕ) (limit n : ℕ) → limit < length given → n ≤ length (take limit given)
    → (length (take n given) ≡ n) × (n ≤ limit)
within_limit given limit n past within =
    let long : length (take limit given) ≡ limit = length-take-le limit given (omega arith) in
    (length-take-le n given (omega arith), omega arith)

pub returns-clause-limit : goal.returns-clause-limit
returns-clause-limit g c =
    let given = c.args.octets.items in
    let whole = subst (λ (l : List ℕ). IsWholeLines (take 16777216 l) c.whole_lines-end.result)
    c.deref.ensures.value c.whole_lines-end.ensures in
    let long = within_limit given 16777216 c.whole_lines-end.result
    (omega (arith, c.if-len-le-MOST_TEXT.false, c.len.ensures)) whole.within in
    rw c.truncate.ensures.items (omega (arith, long.0, long.1))

pub returns-clause-cut : goal.returns-clause-cut
returns-clause-cut g c =
    let given = c.args.octets.items in
    let past : 16777216 < length given =
    omega (arith, c.if-len-le-MOST_TEXT.false, c.len.ensures) in
    let whole = subst (λ (l : List ℕ). IsWholeLines (take 16777216 l) c.whole_lines-end.result)
    c.deref.ensures.value c.whole_lines-end.ensures in
    let long = within_limit given 16777216 c.whole_lines-end.result past whole.within in
    let size : length c.truncate.new.self.items ≡ c.whole_lines-end.result =
    ap length c.truncate.ensures.items ∙ long.0 in (
      past,
      subst (λ (n : ℕ). IsWholeLines (take 16777216 given) n) (sym size) whole,
      c.truncate.ensures.items ∙ ap (λ (n : ℕ). take n given) (sym size),
    )
