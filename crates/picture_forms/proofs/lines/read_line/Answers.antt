use Rattle.std.proofs.Common.{◌≡◌, ◌<◌, ◌≤◌, ℕ, List, [], ◌∷◌, length, take, arith, subst}
use Rattle.std.proofs.lemmas.List.{length-take, length-take-le}
use Rattle.std.proofs.lemmas.Result.{err_from_is_err_and}
use Rattle.picture_forms.specs.Walks.{Gives}
use Rattle.picture_forms.proofs.Lined.{line_over, line_reads, line_refuses}
use Rattle.picture_forms.proofs.lines.read_line.Goals as goal

pub returns-in_err-octet-clause-fault : goal.returns-in_err-octet-clause-fault
returns-in_err-octet-clause-fault g c =
    let p = err_from_is_err_and c.from_residual.result c.from_residual.ensures.1 in
    let i = c.loop-filled.invariant in
    let line : List ℕ = c.loop-filled.line in
    let text : List ℕ = take c.loop-filled.filled line in
    let lt : c.loop-filled.filled < length line = c.loop-filled-test.true in
    let short : length text < length c.args.line.now =
    omega (arith, length-take-le c.loop-filled.filled line (omega arith), lt, i.room) in
    rw (p.1, p.2)
    (line_refuses (length c.args.line.now) _ _ _ _ _ _ text _ c.in_err-octet.field-0.0 i.plain
    short i.given c.in_err-octet.ensures.fault)

pub returns-then-octet-eq10-clause-read : goal.returns-then-octet-eq10-clause-read
returns-then-octet-eq10-clause-read g c =
    let i = c.loop-filled.invariant in
    let line : List ℕ = c.loop-filled.line in
    let text : List ℕ = take c.loop-filled.filled line in
    let lt : c.loop-filled.filled < length line = c.loop-filled-test.true in
    let short : length text < length c.args.line.now =
    omega (arith, length-take-le c.loop-filled.filled line (omega arith), lt, i.room) in
    line_reads (length c.args.line.now) _ _ _ _ _ _ text i.plain short i.given
    (subst (λ (o : ℕ). Gives (g.S.ByteSource.to_give c.loop-filled.source)
    (g.S.ByteSource.to_give c.read_octet.new.source) (g.S.ByteSource.gave c.loop-filled.source)
    (g.S.ByteSource.gave c.read_octet.new.source) (o ∷ [])) c.if-octet-eq10.true
    c.in_ok-octet.ensures.given)

pub returns-clause-fault : goal.returns-clause-fault
returns-clause-fault g c =
    let i = c.loop-filled.invariant in
    let line : List ℕ = c.loop-filled.line in
    let text : List ℕ = take c.loop-filled.filled line in
    let full : length line ≤ c.loop-filled.filled = c.loop-filled-test.false in
    let long : length text ≡ length c.args.line.now =
    omega (arith, length-take c.loop-filled.filled line, full, i.room) in
    line_over (length c.args.line.now) _ _ _ _ text _ i.plain long i.given
