use Rattle.std.proofs.Common.{◌≡◌, ℕ, Some, ap, refl, rules}
use Rattle.std.specs.Prelude.{unwrap_or}
use Rattle.paced_export.proofs.CountLemmas.{counts_more}
use Rattle.paced_export.proofs.tally.FrameCounts.add.Goals as goal

pub returns : goal.returns
returns g c =
    let first : c.unwrap_or.result ≡ unwrap_or c.add_count.new.self.first c.args.timestamp =
    search rules in
    λ entries e by is was.
    counts_more c.args.self.now c.add_count.new.self _ c.args.path c.args.timestamp
    c.in_ok-add_count.ensures refl refl (ap (λ (n : ℕ). Some n) first) entries e by is was
