use Rattle.stream_inspection.proofs.Lasts.{lasts_more}
use Rattle.stream_inspection.proofs.timestamps.Lasts.add.Goals as goal

pub returns : goal.returns
returns g c = λ front are.
    lasts_more c.args.self.now _ front c.args.count.now are c.in_ok-insert.ensures.updates
