use Rattle.following.proofs.PromptPremises.{orderly_prompt, rising_firsts}
use Rattle.following.proofs.laws.prompt_premises.Goals as goal

pub returns-clause-rising : goal.returns-clause-rising
returns-clause-rising c = rising_firsts

pub returns-clause-orderly : goal.returns-clause-orderly
returns-clause-orderly c = orderly_prompt
