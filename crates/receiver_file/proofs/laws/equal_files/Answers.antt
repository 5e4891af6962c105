use Rattle.std.proofs.Common.{◌∙◌, ap, sym}
use Rattle.path_receiver.specs.Frames.{frames_of}
use Rattle.path_receiver.specs.Opening.{Opening}
use Rattle.path_receiver.proofs.Frames.{frames_of-same}
use Rattle.receiver_file.proofs.SameKept.{equal_kept}
use Rattle.receiver_file.proofs.laws.equal_files.Goals as goal

pub returns : goal.returns
returns c =
    λ r s xs ys o p q m. equal_kept r s o
    (p ∙ frames_of-same r.opening xs ys m ∙ ap (λ (x : Opening). frames_of x ys) o ∙ sym q)
