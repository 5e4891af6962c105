use Rattle.std.proofs.Common.{rules, arith, ◌≡◌, ◌+◌, ◌-◌, ◌^◌}
use Rattle.std.proofs.Common.{ℕ, List, ◌++◌, length, take, min, ap, sym, ◌∙◌, subst}
use Rattle.std.proofs.lemmas.Result.{err_from_is_err_and}
use Rattle.std.specs.Io.KnownBytes.{Consumes}
use borrow.Rule.Slice.PartMut.{put_mid, same_len_mid}
use Rattle.std.proofs.KnownBytes.{Consumes-kept}
use Rattle.st_format.proofs.Octets.{grows_in, kept_in, reads_more, tells_before}
use Rattle.st_format.proofs.device.read_whole.Goals as goal

pub returns-in_err-n-clause-room : goal.returns-in_err-n-clause-room
returns-in_err-n-clause-room g c =
    let l = c.loop-filled in
    same_len_mid l.filled (length l.buf - l.filled) l.buf c.read.new.buf c.in_err-n.ensures.room
    ∙ l.auto.buf

pub returns-in_err-n-clause-given : goal.returns-in_err-n-clause-given
returns-in_err-n-clause-given g c =
    let p = err_from_is_err_and c.from_residual.result c.from_residual.ensures.1 in rw (p.1) tt

pub returns-in_err-n-clause-short : goal.returns-in_err-n-clause-short
returns-in_err-n-clause-short g c =
    let p = err_from_is_err_and c.from_residual.result c.from_residual.ensures.1 in rw (p.1) tt

pub returns-in_err-n-clause-within : goal.returns-in_err-n-clause-within
returns-in_err-n-clause-within g c =
    let p = err_from_is_err_and c.from_residual.result c.from_residual.ensures.1 in rw (p.1) tt

pub returns-in_err-n-clause-octets : goal.returns-in_err-n-clause-octets
returns-in_err-n-clause-octets g c =
    let l = c.loop-filled in
    λ _. tells_before l.filled l.buf _ _ l.invariant.1 l.invariant.3 c.in_err-n.ensures.octets

pub returns-in_err-n-clause-counted : goal.returns-in_err-n-clause-counted
returns-in_err-n-clause-counted g c =
    let p = err_from_is_err_and c.from_residual.result c.from_residual.ensures.1 in
    rw (p.1)
    (c.in_err-n.ensures.counted
    ∙ ap (λ (k : ℕ). min (k + 1) (2 ^ 64 - 1)) c.loop-filled.invariant.2)

pub returns-then-n-eq0-clause-room : goal.returns-then-n-eq0-clause-room
returns-then-n-eq0-clause-room g c =
    let l = c.loop-filled in
    same_len_mid l.filled (length l.buf - l.filled) l.buf c.read.new.buf c.in_ok-n.ensures.room
    ∙ l.auto.buf

pub returns-then-n-eq0-clause-within : goal.returns-then-n-eq0-clause-within
returns-then-n-eq0-clause-within g c =
    let l = c.loop-filled in
    let k = length l.buf - l.filled in
    let long : length (put_mid l.filled k l.buf c.read.new.buf) ≡ length l.buf =
    same_len_mid l.filled k l.buf c.read.new.buf c.in_ok-n.ensures.room in
    omega (arith, long, l.invariant.0)

pub returns-then-n-eq0-clause-given : goal.returns-then-n-eq0-clause-given
returns-then-n-eq0-clause-given g c =
    let l = c.loop-filled in
    let k = length l.buf - l.filled in
    let now = c.in_ok-n.ensures in
    let same : l.filled + c.in_ok-n.n ≡ l.filled = omega (arith, c.if-n-eq0.true) in
    subst (λ (m : ℕ). Consumes (g.S.ByteSource.to_give c.args.source.now)
    (g.S.ByteSource.to_give c.read.new.self) (take m (put_mid l.filled k l.buf c.read.new.buf)))
    same
    (reads_more l.filled k c.in_ok-n.n l.buf c.read.new.buf _ _ _ l.invariant.0 now.within
    l.invariant.1 now.given)

pub returns-then-n-eq0-clause-octets : goal.returns-then-n-eq0-clause-octets
returns-then-n-eq0-clause-octets g c =
    let l = c.loop-filled in
    λ _. tells_before l.filled l.buf _ _ l.invariant.1 l.invariant.3 c.in_ok-n.ensures.octets

pub returns-then-n-eq0-clause-counted : goal.returns-then-n-eq0-clause-counted
returns-then-n-eq0-clause-counted g c =
    c.in_ok-n.ensures.counted ∙ c.loop-filled.invariant.2

pub loop-filled-smaller : goal.loop-filled-smaller
loop-filled-smaller g c =
    omega (arith, c.if-n-eq0.false, c.loop-filled-test.true, c.loop-filled.auto.buf)

pub returns-clause-room : goal.returns-clause-room
returns-clause-room g c = c.loop-filled.auto.buf

pub returns-clause-within : goal.returns-clause-within
returns-clause-within g c = c.loop-filled.invariant.0

pub returns-clause-given : goal.returns-clause-given
returns-clause-given g c = c.loop-filled.invariant.1

pub returns-clause-octets : goal.returns-clause-octets
returns-clause-octets g c =
    λ long. c.loop-filled.invariant.3
    (omega (arith, long, c.loop-filled-test.false, c.loop-filled.auto.buf))

pub returns-clause-counted : goal.returns-clause-counted
returns-clause-counted g c = c.loop-filled.invariant.2

pub loop-filled-preserved : goal.loop-filled-preserved
loop-filled-preserved g c =
    let l = c.loop-filled in
    let k = length l.buf - l.filled in
    let now = c.in_ok-n.ensures in
    let room : length c.read.new.buf ≡ k = search rules in
    let long : length (put_mid l.filled k l.buf c.read.new.buf) ≡ length l.buf =
    same_len_mid l.filled k l.buf c.read.new.buf now.room in (
      omega (arith, long, room, now.within, l.invariant.0),
      reads_more l.filled k c.in_ok-n.n l.buf c.read.new.buf _ _ _ l.invariant.0 now.within
          l.invariant.1 now.given,
      now.counted ∙ l.invariant.2,
      λ _. tells_before l.filled l.buf _ _ l.invariant.1 l.invariant.3 now.octets,
      grows_in l.filled k c.in_ok-n.n l.buf c.read.new.buf _ _ _ l.invariant.0 now.within
          l.invariant.4 now.gave,
      now.names ∙ l.invariant.5,
    )

pub returns-clause-gave : goal.returns-clause-gave
returns-clause-gave g c = c.loop-filled.invariant.4

pub returns-then-n-eq0-clause-gave : goal.returns-then-n-eq0-clause-gave
returns-then-n-eq0-clause-gave g c =
    let l = c.loop-filled in
    let k = length l.buf - l.filled in
    let now = c.in_ok-n.ensures in
    let same : l.filled + c.in_ok-n.n ≡ l.filled = omega (arith, c.if-n-eq0.true) in
    subst (λ (m : ℕ). g.S.ByteSource.gave c.read.new.self
    ≡ g.S.ByteSource.gave c.args.source.now ++ take m (put_mid l.filled k l.buf c.read.new.buf))
    same
    (grows_in l.filled k c.in_ok-n.n l.buf c.read.new.buf _ _ _ l.invariant.0 now.within
    l.invariant.4 now.gave)

pub returns-in_err-n-clause-part : goal.returns-in_err-n-clause-part
returns-in_err-n-clause-part g c =
    let p = err_from_is_err_and c.from_residual.result c.from_residual.ensures.1 in
    let l = c.loop-filled in
    let k = length l.buf - l.filled in
    let long : length (put_mid l.filled k l.buf c.read.new.buf) ≡ length l.buf =
    same_len_mid l.filled k l.buf c.read.new.buf c.in_err-n.ensures.room in
    rw (p.1) (record {
      count = l.filled;
      short = omega (arith, long, c.loop-filled-test.true);
      given = subst (Consumes (g.S.ByteSource.to_give c.args.source.now)
          (g.S.ByteSource.to_give c.read.new.self))
          (sym (kept_in l.filled k l.buf c.read.new.buf l.invariant.0))
          (Consumes-kept _ _ _ _ l.invariant.1 c.in_err-n.ensures.fault);
      grown = c.in_err-n.ensures.kept ∙ l.invariant.4
          ∙ ap (λ (ys : List ℕ). g.S.ByteSource.gave c.args.source.now ++ ys)
          (sym (kept_in l.filled k l.buf c.read.new.buf l.invariant.0));
    })
