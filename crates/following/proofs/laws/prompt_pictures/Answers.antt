use Rattle.following.proofs.PromptPictures.{prompt_pictures}
use Rattle.following.proofs.laws.prompt_pictures.Goals as goal

pub returns : goal.returns
returns c eager o size ahead s ps ds is = prompt_pictures eager o size ahead s ps ds is.some
