use Rattle.follow_engine.specs.Sides.{SideRead}
use Rattle.stream_laws.proofs.NoFollowRefusals.{follow_not}
use Rattle.stream_laws.proofs.laws.follow_unrefused.Goals as goal

pub returns : goal.returns
returns g c =
    λ w sdp ways files octets old new took took' totals r run read.
    follow_not (SideRead g.S.ByteSource.gave g.S.ByteSource.ended) w ways g.P.PictureSink.takes old
    new took took' totals sdp files octets r run read
