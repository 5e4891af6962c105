use Rattle.stream_laws.proofs.NoneLate.{totals_plain}
use Rattle.stream_laws.proofs.laws.plain_by_totals.Goals as goal

pub returns : goal.returns
returns c = totals_plain
