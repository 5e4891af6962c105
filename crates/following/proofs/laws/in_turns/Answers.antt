use Rattle.following.proofs.Turning.{answers-append, behind-append, handed_parts, while-append}
use Rattle.following.proofs.laws.in_turns.Goals as goal

pub returns-clause-plain : goal.returns-clause-plain
returns-clause-plain c = handed_parts

pub returns-clause-handed : goal.returns-clause-handed
returns-clause-handed c = while-append

pub returns-clause-state : goal.returns-clause-state
returns-clause-state c = behind-append

pub returns-clause-answers : goal.returns-clause-answers
returns-clause-answers c = answers-append
