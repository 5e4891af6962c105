use Rattle.std.proofs.Common.{take}
use Rattle.stream_inspection.proofs.Lasts.{lasts_next, lines_next}
use Rattle.stream_inspection.proofs.timestamps.put_all.Goals as goal

pub loop-count-preserved : goal.loop-count-preserved
loop-count-preserved g c =
    let l = c.loop-count in
    let xs = c.args.counts.now in
    let i = l.invariant in
    record {
      lasts = lasts_next c.put_next.new.lasts xs l.count-index _ c.loop-count-test.true
          (c.in_ok-put_next.ensures.lasts (take l.count-index xs) i.lasts);
      printed = λ arrivals are.
          lines_next c.args.form arrivals c.args.text.now.items l.text.items
          c.put_next.new.text.items xs l.count-index _ c.loop-count-test.true
          (i.printed arrivals are)
          (c.in_ok-put_next.ensures.printed arrivals (take l.count-index xs) are i.lasts);
    }
