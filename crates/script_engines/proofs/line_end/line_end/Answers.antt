use Rattle.std.proofs.Common.{◌==◌, ℕ, Bool, ap, arith, sym}
use Rattle.std.proofs.lemmas.List.Sums.{position_or_len_is}
use Rattle.script_engines.proofs.line_end.line_end.Goals as goal

abbrev is_end : ℕ → Bool
is_end octet = octet == 10

pub returns-then-text-i-eq10 : goal.returns-then-text-i-eq10
returns-then-text-i-eq10 c =
    sym (position_or_len_is is_end c.args.text.now c.loop-i.i 0 (omega arith) c.loop-i.invariant
    (λ h. ap is_end c.if-text-i-eq10.true))
