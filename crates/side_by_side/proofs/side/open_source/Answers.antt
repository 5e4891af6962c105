use Rattle.std.proofs.Common.{ap}
use Rattle.st_format.specs.Device.{Told}
use Rattle.side_by_side.proofs.Reading.{new_side}
use Rattle.side_by_side.proofs.side.open_source.Goals as goal

pub returns-in-Ok-clause-opened : goal.returns-in-Ok-clause-opened
returns-in-Ok-clause-opened g c =
    let is = c.in-Ok.ensures in
    new_side c.args.flows (g.S.ByteSource.gave c.args.source) c.open.new.text c.in-Ok.reader
    c.text_len-count.result is.reader (ap (λ (t : Told). t.gave) is.before) is.text
    c.text_len-count.ensures
