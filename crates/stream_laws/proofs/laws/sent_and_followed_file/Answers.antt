use Rattle.stream_laws.proofs.FollowedText.{file_rgb, file_ycc}
use Rattle.stream_laws.proofs.laws.sent_and_followed_file.Goals as goal

pub returns-clause-ycc : goal.returns-clause-ycc
returns-clause-ycc g c =
    λ wanted text format first others capture w sdp ways files filling fill out out' report report'
    directory directory' printed printed' sent is.
    file_ycc w sdp ways files filling fill out out' report report' directory directory' printed
    printed' is wanted text format first others capture sent

pub returns-clause-rgb : goal.returns-clause-rgb
returns-clause-rgb g c =
    λ wanted text format pictures capture w sdp ways files filling fill out out' report report'
    directory directory' printed printed' sent is.
    file_rgb w sdp ways files filling fill out out' report report' directory directory' printed
    printed' is wanted text format pictures capture sent
