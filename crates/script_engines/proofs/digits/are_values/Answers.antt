use Rattle.std.proofs.Common.{leb, arith, get_or, sym, ◌∙◌}
use Rattle.std.proofs.lemmas.Bool.{leb-true, leb-false}
use Rattle.script_engines.proofs.LaneLemmas.{mask_compared}
use Rattle.script_engines.proofs.MaskLemmas.{none_set, one_set, told_none, told_one}
use Rattle.script_engines.proofs.digits.are_values.Goals as goal

pub returns-clause-is : goal.returns-clause-is
returns-clause-is c = λ h k small.
    let v = c.args.values in
    let e = mask_compared leb 32 16 v c.fits-values.0 (omega arith) in
    let f = none_set (leb 16) v (sym e ∙ told_none _ h) k (omega (arith, c.fits-values.0)) in
    leb-false 16 (get_or v k 0) f

pub returns-clause-none : goal.returns-clause-none
returns-clause-none c = λ h.
    let v = c.args.values in
    let e = mask_compared leb 32 16 v c.fits-values.0 (omega arith) in
    let f = one_set (leb 16) v (λ z. told_one _ h (e ∙ z)) in
    (f.0, omega (arith, f.1, c.fits-values.0), leb-true 16 (get_or v f.0 0) f.2)
