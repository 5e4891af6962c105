use Rattle.follow_engine.specs.Sides.{SideRead}
use Rattle.stream_laws.proofs.FollowedText.{one_stream_text}
use Rattle.stream_laws.proofs.laws.one_y4m_stream.Goals as goal

pub returns : goal.returns
returns g c = λ w sdp ways files k l printed printed' totals first others is.
    one_stream_text (SideRead g.S.ByteSource.gave g.S.ByteSource.ended) g.K.ByteSink.took w sdp ways
    files k l printed printed' totals is first others
