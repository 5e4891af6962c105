use Rattle.path_merge.proofs.Chains.{one_event_more}
use Rattle.path_merge.proofs.Reaching.{frame_kept, none_when_over}
use Rattle.path_merge.proofs.StayFrames.{at_left, at_merged, at_opening, at_slid, at_taken}
use Rattle.path_merge.proofs.laws.schedules.one_event_more.Goals as goal

pub returns-clause-chains : goal.returns-clause-chains
returns-clause-chains c = one_event_more

pub returns-clause-opening : goal.returns-clause-opening
returns-clause-opening c = at_opening

pub returns-clause-others : goal.returns-clause-others
returns-clause-others c = at_left

pub returns-clause-take : goal.returns-clause-take
returns-clause-take c = at_taken

pub returns-clause-slide : goal.returns-clause-slide
returns-clause-slide c = at_slid

pub returns-clause-merge : goal.returns-clause-merge
returns-clause-merge c s es r q state other new is its same receiver =
    at_merged s es r q state other new is its same receiver.window.different

pub returns-clause-over : goal.returns-clause-over
returns-clause-over c s es e stay frame over =
    frame_kept s es e stay frame (none_when_over s es e stay over)
