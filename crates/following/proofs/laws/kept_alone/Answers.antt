use Rattle.following.proofs.Lost.{kept_stream}
use Rattle.following.proofs.laws.kept_alone.Goals as goal

pub returns : goal.returns
returns c eager o size ahead xs is = kept_stream eager o size ahead xs is.some
