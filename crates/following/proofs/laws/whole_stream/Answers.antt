use Rattle.following.proofs.Streams.{whole_stream}
use Rattle.following.proofs.WholeList.{whole_list}
use Rattle.following.proofs.laws.whole_stream.Goals as goal

pub returns-clause-times : goal.returns-clause-times
returns-clause-times c o size ahead xs is = whole_stream o size ahead xs is.some

pub returns-clause-whole : goal.returns-clause-whole
returns-clause-whole c o size ahead base xs is = whole_list o size ahead base xs is.some
