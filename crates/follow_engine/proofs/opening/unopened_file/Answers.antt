use Rattle.follow_engine.proofs.opening.unopened_file.Goals as goal

pub returns-in-Closed-clause-refusal : goal.returns-in-Closed-clause-refusal
returns-in-Closed-clause-refusal g c = λ before stops by.
    c.unopened.ensures.front before (rw c.in-Closed.is at stops) by

pub returns-in-Closed-clause-failures : goal.returns-in-Closed-clause-failures
returns-in-Closed-clause-failures g c = λ failed counted.
    c.unopened.ensures.failures failed (rw c.in-Closed.is at counted)

pub returns-in-Open-clause-failures : goal.returns-in-Open-clause-failures
returns-in-Open-clause-failures g c = λ failed counted. absurd (rw c.in-Open.is at c.requires)

pub returns-in-Taken-clause-failures : goal.returns-in-Taken-clause-failures
returns-in-Taken-clause-failures g c = λ failed counted. absurd (rw c.in-Taken.is at c.requires)
