use Rattle.std.proofs.Common.{◌∙◌, ap}
use Rattle.recording_counts.specs.PathCounts.{one_more}
use Rattle.recording_counts.proofs.StreamLaws.{stream_by_b}
use Rattle.recording_counts.proofs.stream.StreamCount.note_by_b.Goals as goal

pub returns-clause-counted : goal.returns-clause-counted
returns-clause-counted g c =
    λ key own p e by n_is.
    stream_by_b key own p c.args.self.now c.args.number c.greatest.result
    c.one_more-self.result c.in_ok-came.came c.contains-there.result e n_is c.greatest.ensures
    (c.one_more-self.ensures ∙ ap (one_more c.args.self.now.both) c.is_second.ensures)
    c.note.new.self by c.in_ok-came.ensures.counted c.in_ok-came.ensures.came
    c.contains-there.ensures
