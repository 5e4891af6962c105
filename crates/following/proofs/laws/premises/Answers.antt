use Rattle.following.proofs.Premises.{nearby_half, orderly_half, timed_grammar, times_grammar}
use Rattle.following.proofs.Steady.{nearby_steady, orderly_steady}
use Rattle.following.proofs.laws.premises.Goals as goal

pub returns-clause-members : goal.returns-clause-members
returns-clause-members c = times_grammar

pub returns-clause-timed : goal.returns-clause-timed
returns-clause-timed c = timed_grammar

pub returns-clause-half : goal.returns-clause-half
returns-clause-half c = orderly_half

pub returns-clause-steady : goal.returns-clause-steady
returns-clause-steady c size ahead us is = orderly_steady size ahead us is.most

pub returns-clause-half_near : goal.returns-clause-half_near
returns-clause-half_near c = nearby_half

pub returns-clause-steady_near : goal.returns-clause-steady_near
returns-clause-steady_near c size us is = nearby_steady size us is.most
