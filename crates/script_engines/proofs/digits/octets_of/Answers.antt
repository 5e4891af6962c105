use Rattle.std.proofs.Common.{◌+◌, ◌*◌, ◌%◌, ◌++◌, ℕ, ◌∙◌, arith, get_or}
use Rattle.std.proofs.lemmas.List.{get_or_append_left}
use Rattle.std.proofs.lemmas.List.FromFn.{get_or-map-range_with_len}
use Rattle.script_engines.proofs.digits.octets_of.Goals as goal

pub returns-clause-each : goal.returns-clause-each
returns-clause-each c = λ k small.
    let v = c.args.values in
    let high = get_or_append_left v v 0 (2 * k) (omega (arith, c.fits-values.0)) in
    let low = get_or_append_left v v 0 (2 * k + 1) (omega (arith, c.fits-values.0)) in
    let joined = λ (j : ℕ).
    (get_or (v ++ v) (2 * j) 0 * 16 % 256 + get_or (v ++ v) (2 * j + 1) 0) % 256 in
    let fit_high = c.requires (2 * k) (omega arith) in
    let fit_low = c.requires (2 * k + 1) (omega arith) in
    get_or-map-range_with_len joined 0 16 k k 0 small (omega arith)
    ∙ omega (arith, high, low, fit_high, fit_low)
