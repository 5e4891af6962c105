use Rattle.std.proofs.lemmas.Map.Keys.{ge_from_not_lt, le_from_not_gt}
use Rattle.recording_counts.proofs.TreeLaws.{not_above}
use Rattle.recording_counts.proofs.number_set.last_from.Goals as goal

pub returns-in-Some : goal.returns-in-Some
returns-in-Some g c =
    let in_range = c.range.ensures.in_range tt in
    let one = in_range.3 _ _ c.in-Some.ensures.steps in (
      one.1,
      le_from_not_gt _ _ one.0.1,
      λ q le some. ge_from_not_lt _ _ (in_range.4 _ _ c.in-Some.ensures.steps q (tt, not_above q c.args.number le) some),
    )
