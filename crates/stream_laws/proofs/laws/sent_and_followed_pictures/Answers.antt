use Rattle.stream_laws.proofs.FollowedText.{picture_files}
use Rattle.stream_laws.proofs.laws.sent_and_followed_pictures.Goals as goal

pub returns : goal.returns
returns g c =
    λ wanted text format pictures capture w sdp ways files filling fill out out' report report'
    directory directory' printed printed' sent is.
    picture_files w sdp ways files filling fill out out' report report' directory directory'
    printed printed' is wanted text format pictures capture sent
