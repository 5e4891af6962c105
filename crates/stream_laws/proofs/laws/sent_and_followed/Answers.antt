use Rattle.follow_engine.specs.Sides.{SideRead}
use Rattle.stream_laws.proofs.FollowedText.{sink_rgb, sink_ycc}
use Rattle.stream_laws.proofs.laws.sent_and_followed.Goals as goal

pub returns-clause-ycc : goal.returns-clause-ycc
returns-clause-ycc g c =
    λ wanted text format first others capture w sdp ways files k l printed printed' totals sent is.
    sink_ycc (SideRead g.S.ByteSource.gave g.S.ByteSource.ended) g.K.ByteSink.took w sdp ways files
    k l printed printed' totals is wanted text format first others capture sent

pub returns-clause-rgb : goal.returns-clause-rgb
returns-clause-rgb g c =
    λ wanted text format pictures capture w sdp ways files k l printed printed' totals sent is.
    sink_rgb (SideRead g.S.ByteSource.gave g.S.ByteSource.ended) g.K.ByteSink.took w sdp ways files
    k l printed printed' totals is wanted text format pictures capture sent
