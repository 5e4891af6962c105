use Rattle.path_receiver.proofs.MergeLemmas.{joined_frames-assoc, joined_frames-same}
use Rattle.path_receiver.proofs.MergeLemmas.{merged_either_way}
use Rattle.path_receiver.proofs.laws.any_tree.Goals as goal

pub returns-clause-commutative : goal.returns-clause-commutative
returns-clause-commutative c = merged_either_way

pub returns-clause-associative : goal.returns-clause-associative
returns-clause-associative c = λ s t u. joined_frames-assoc s.frames t.frames u.frames

pub returns-clause-idempotent : goal.returns-clause-idempotent
returns-clause-idempotent c = λ s. joined_frames-same s.frames
