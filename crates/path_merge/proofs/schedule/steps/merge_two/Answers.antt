use Rattle.std.proofs.Common.{arith, ◌∙◌, sym, slice_index_or}
use Rattle.path_merge.proofs.StepLemmas.{merges_made, merge_refused, there_front, there_back}
use Rattle.path_merge.proofs.StepLemmas.{set_front, set_back}
use Rattle.path_merge.proofs.schedule.steps.merge_two.Goals as goal
use Rattle.path_merge.proofs.schedule.steps.merge_two.Goals.{then-into-from, else-into-from}

pub returns-in-Ok-clause-merged : goal.returns-in-Ok-clause-merged
returns-in-Ok-clause-merged g c = elim c.if-into-from.branch [
  | then-into-from w ↦
      let f = w.split_at_mut-front.result.0.now in
      let b = w.split_at_mut-front.result.1.now in
      let s = w.split_at_mut-front.ensures in
      let h = w.merge-merged.ensures in
      merges_made c.args.into c.args.from c.args.receivers.now c.if-into-from.receivers
      (slice_index_or f c.args.into w.index-front-into.result)
      (slice_index_or b 0 w.index-back-0.result) w.merge-merged.new.self
      w.merge-merged.result c.in-Ok.field-0 (sym w.merged-is ∙ c.in-Ok.is) c.requires.two
      (there_front c.args.receivers.now f b c.args.into w.index-front-into.result s.value
      (omega (arith, s.front_len, w.if-into-from.true)))
      (there_back c.args.receivers.now f b c.args.from w.index-back-0.result s.value s.front_len
      c.requires.from)
      h.alike h.opening h.frames h.receiver
      (w.receivers-is ∙ set_front c.args.receivers.now f b c.args.into w.merge-merged.new.self
      s.value (omega (arith, s.front_len, w.if-into-from.true)))
  | else-into-from w ↦
      let f = w.split_at_mut-front-else-into-from.result.0.now in
      let b = w.split_at_mut-front-else-into-from.result.1.now in
      let s = w.split_at_mut-front-else-into-from.ensures in
      let h = w.merge-merged-else-into-from.ensures in
      merges_made c.args.into c.args.from c.args.receivers.now c.if-into-from.receivers
      (slice_index_or b 0 w.index-back-0-else-into-from.result)
      (slice_index_or f c.args.from w.index-front-from.result)
      w.merge-merged-else-into-from.new.self
      w.merge-merged-else-into-from.result c.in-Ok.field-0
      (sym w.merged-is ∙ c.in-Ok.is) c.requires.two
      (there_back c.args.receivers.now f b c.args.into w.index-back-0-else-into-from.result s.value
      s.front_len c.requires.into)
      (there_front c.args.receivers.now f b c.args.from w.index-front-from.result s.value
      (omega (arith, s.front_len, w.if-into-from.false, c.requires.two)))
      h.alike h.opening h.frames h.receiver
      (w.receivers-is ∙ set_back c.args.receivers.now f b c.args.into
      w.merge-merged-else-into-from.new.self s.value s.front_len)
]

pub returns-in-Err-clause-unfit : goal.returns-in-Err-clause-unfit
returns-in-Err-clause-unfit g c = elim c.if-into-from.branch [
  | then-into-from w ↦
      let f = w.split_at_mut-front.result.0.now in
      let b = w.split_at_mut-front.result.1.now in
      let s = w.split_at_mut-front.ensures in
      merge_refused c.args.into c.args.from c.args.receivers.now
      (slice_index_or f c.args.into w.index-front-into.result)
      (slice_index_or b 0 w.index-back-0.result)
      w.merge-merged.result c.in-Err.field-0 (sym w.merged-is ∙ c.in-Err.is)
      (there_front c.args.receivers.now f b c.args.into w.index-front-into.result s.value
      (omega (arith, s.front_len, w.if-into-from.true)))
      (there_back c.args.receivers.now f b c.args.from w.index-back-0.result s.value s.front_len
      c.requires.from)
      w.merge-merged.ensures.unlike.0
  | else-into-from w ↦
      let f = w.split_at_mut-front-else-into-from.result.0.now in
      let b = w.split_at_mut-front-else-into-from.result.1.now in
      let s = w.split_at_mut-front-else-into-from.ensures in
      merge_refused c.args.into c.args.from c.args.receivers.now
      (slice_index_or b 0 w.index-back-0-else-into-from.result)
      (slice_index_or f c.args.from w.index-front-from.result)
      w.merge-merged-else-into-from.result c.in-Err.field-0 (sym w.merged-is ∙ c.in-Err.is)
      (there_back c.args.receivers.now f b c.args.into w.index-back-0-else-into-from.result s.value
      s.front_len c.requires.into)
      (there_front c.args.receivers.now f b c.args.from w.index-front-from.result s.value
      (omega (arith, s.front_len, w.if-into-from.false, c.requires.two)))
      w.merge-merged-else-into-from.ensures.unlike.0
]
