use Rattle.std.proofs.Common.{ℕ, List, ◌<◌, get_or, sym, ap, arith}
use Rattle.std.specs.List.{AllByRecursion}
use Rattle.std.proofs.lemmas.List.{get_or_default}
use Rattle.std.proofs.lemmas.List.Elements.{recursion_from_All}
use Rattle.st_format.proofs.Spelled.{values_in_octets}
use Rattle.pgroup_pack.proofs.eight_bits.sample_at.Goals as goal

pub returns : goal.returns
returns c =
    let octets = c.args.octets.now in
    let fit : AllByRecursion (λ v. v < 256) octets =
    recursion_from_All (λ v. v < 256) octets
    (λ k d lt. rw (get_or_default octets k d 0 lt) (omega (arith, c.type_inv.octets k))) in
    ap (λ (os : List ℕ). get_or os c.args.i 0) (sym (values_in_octets octets fit))
