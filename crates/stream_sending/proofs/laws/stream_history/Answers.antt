use Rattle.stream_sending.proofs.Histories.{stream_more, stream_opened, stream_so_far}
use Rattle.stream_sending.proofs.laws.stream_history.Goals as goal

pub returns : goal.returns
returns c = record { opened = stream_opened; more = stream_more; so_far = stream_so_far }
