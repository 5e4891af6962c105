use Rattle.std.proofs.Common.{◌≡◌, ◌<◌, ◌^◌, subst, sym, List, ℕ, arith, length}
use Rattle.std.proofs.lemmas.Nat.{pow_pos}
use Rattle.st_format.specs.Pgroup.{bits_of}
use Rattle.st_format.specs.Picture.{IsPicture, filled_picture}
use Rattle.st_format.proofs.PictureLemmas.{filled-is_picture, values}
use Rattle.st_format.proofs.picture.Picture.new.Goals as goal

pub invariant_of-result : goal.invariant_of-result
invariant_of-result g c =
    let f = c.args.format in
    let fill = c.args.fill in
    let some : 0 < 2 ^ bits_of f.depth = pow_pos (bits_of f.depth) in
    let most = c.max_value-most.ensures in
    let long : length fill ≡ 3 = omega arith in
    let is : IsPicture (filled_picture f fill) =
    filled-is_picture f fill long some (omega (arith, some, most)) (omega (arith, some, most))
    (omega (arith, some, most)) in
    subst (λ (xs : List ℕ). IsPicture (values f xs)) (sym c.in_ok-samples.ensures) is

pub returns-clause-whole : goal.returns-clause-whole
returns-clause-whole g c = invariant_of-result g c
