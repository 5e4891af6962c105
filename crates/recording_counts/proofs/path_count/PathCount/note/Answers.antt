use Rattle.std.proofs.Common.{◌∙◌}
use Rattle.recording_counts.proofs.CountLaws.{built_after, count_goes_on}
use Rattle.recording_counts.proofs.path_count.PathCount.note.Goals as goal

pub returns-clause-counted : goal.returns-clause-counted
returns-clause-counted g c =
    λ ns e.
    built_after c.args.self.now c.args.number _ _ _ _ _ c.in_ok-new.new c.is_late.result
    c.how-came.result c.insert.new.self c.one_more-self.ensures c.one_more-self-2.ensures
    c.one_more-self-3.ensures c.is_late.ensures c.how-came.ensures c.least.ensures
    c.greatest.ensures c.in_ok-new.ensures.inserted c.in_ok-new.ensures.new
    ∙ count_goes_on c.args.self.now ns c.args.number e
