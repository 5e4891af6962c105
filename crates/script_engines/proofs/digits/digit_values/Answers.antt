use Rattle.std.proofs.Common.{◌+◌, ◌-◌, ◌%◌, ℕ, ltb, get_or, subst, sym}
use Rattle.script_engines.specs.Digits.{IsDigitValue}
use Rattle.script_engines.proofs.LaneLemmas.{HasLanes-given, HasLanes-select, HasLanes-splat}
use Rattle.script_engines.proofs.LaneLemmas.{HasLanes-zip2}
use Rattle.script_engines.proofs.DigitLemmas.{lane_is_value, octet_below}
use Rattle.script_engines.proofs.digits.digit_values.Goals as goal

pub returns : goal.returns
returns c =
    let v = c.args.digits in
    let minus = λ (x y : ℕ). (x + (256 - y)) % 256 in
    let plus = λ (x y : ℕ). (x + y) % 256 in
    let digits = HasLanes-given 32 v c.fits-digits.0 in
    let decimal = HasLanes-zip2 minus 32 digits (HasLanes-splat 32 48) in
    let upper = HasLanes-zip2 minus 32 digits (HasLanes-splat 32 65) in
    let lower = HasLanes-zip2 minus 32 digits (HasLanes-splat 32 97) in
    let near = HasLanes-select ltb 32 upper lower upper lower in
    let letter = HasLanes-zip2 plus 32 near (HasLanes-splat 32 10) in
    let lanes = HasLanes-select ltb 32 decimal (HasLanes-splat 32 10) decimal letter in
    record {
      long = lanes.long;
      each = λ k h.
          subst (λ x. IsDigitValue (get_or v k 0) x) (sym (lanes.each k h))
          (lane_is_value (get_or v k 0) (octet_below v 32 k c.fits-digits h));
    }
