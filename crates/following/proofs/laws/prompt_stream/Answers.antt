use Rattle.following.proofs.Prompt.{prompt_stream}
use Rattle.following.proofs.laws.prompt_stream.Goals as goal

pub returns : goal.returns
returns c eager o size ahead xs is = prompt_stream eager o size ahead xs is.some
