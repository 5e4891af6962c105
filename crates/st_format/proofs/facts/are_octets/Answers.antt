use Rattle.std.proofs.Common.{ℕ, ◌<◌, arith}
use Rattle.std.proofs.lemmas.List.{get_or_default}
use Rattle.std.proofs.lemmas.List.Elements.{recursion_from_All}
use Rattle.st_format.proofs.facts.are_octets.Goals as goal

pub returns : goal.returns
returns c = record {
  each = λ i. omega (arith, c.type_inv.octets i);
  all =
      recursion_from_All (λ (v : ℕ). v < 256) c.args.octets.now
      (λ k d lt. rw (get_or_default c.args.octets.now k d 0 lt)
      (omega (arith, c.type_inv.octets k)));
}
