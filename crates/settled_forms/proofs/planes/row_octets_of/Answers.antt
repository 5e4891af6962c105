use Rattle.std.proofs.Common.{◌<◌, ◌≤◌, ◌*◌, ℕ, arith, subst, sym}
use Rattle.std.proofs.lemmas.Nat.{mul-le}
use Rattle.settled_forms.proofs.Groups.{share_most, share_some}
use Rattle.settled_forms.proofs.planes.row_octets_of.Goals as goal

pub returns-clause-some : goal.returns-clause-some
returns-clause-some c =
    let share : ℕ = c.share_of.result in
    let wide : ℕ = c.row_groups.result in
    let some : 0 < share =
    subst (λ (n : ℕ). 0 < n) (sym c.share_of.ensures.value)
    (share_some c.args.format.now c.args.component) in
    let of_row : 1 * 1 ≤ share * wide =
    mul-le 1 1 share wide (omega arith)
    (omega (arith, c.row_groups.ensures.some, c.row_groups.ensures.value)) in
    omega (
      arith,
      mul-le 1 1 c.size.result (share * wide) (omega (arith, c.size.ensures.few))
          (omega (arith, of_row)),
    )

pub returns-clause-few : goal.returns-clause-few
returns-clause-few c =
    let most : c.share_of.result * c.row_groups.result ≤ 8192 =
    rw (c.share_of.ensures.value, c.row_groups.ensures.value)
    (share_most c.args.format.now c.args.component) in
    omega (
      arith,
      mul-le c.size.result (c.share_of.result * c.row_groups.result) 2 8192
          (omega (arith, c.size.ensures.few)) most,
    )
