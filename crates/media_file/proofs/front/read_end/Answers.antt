use Rattle.std.proofs.Common.{◌≡◌, ℕ, take, subst, arith}
use Rattle.std.specs.Io.KnownBytes.{Consumes}
use Rattle.std.proofs.lemmas.List.{length-take-le}
use Rattle.media_file.proofs.Raster.{at_end, not_end}
use Rattle.media_file.proofs.front.read_end.Goals as goal

pub returns-then-branch-gt0-clause-fault : goal.returns-then-branch-gt0-clause-fault
returns-then-branch-gt0-clause-fault g c =
    let n = c.in_ok-read.field-0 in
    let e = c.in_ok-read.ensures in
    not_end _ _ (take n c.read.new.buf)
    (omega (arith, length-take-le n c.read.new.buf e.within)) e.given

pub returns-clause-read : goal.returns-clause-read
returns-clause-read g c =
    let n = c.in_ok-read.field-0 in
    let e = c.in_ok-read.ensures in
    let none : n ≡ 0 = omega arith in
    at_end _ _
    (subst (λ (k : ℕ). Consumes (g.S.ByteSource.to_give c.args.source.now)
    (g.S.ByteSource.to_give c.read.new.self) (take k c.read.new.buf)) none e.given)
    (e.end none (omega arith))
