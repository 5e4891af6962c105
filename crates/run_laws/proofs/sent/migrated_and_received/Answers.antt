use Rattle.run_laws.proofs.SentAgain.{migrated_received}
use Rattle.run_laws.proofs.sent.migrated_and_received.Goals as goal

pub returns : goal.returns
returns g c =
    λ sdp sdp_later source later old new moved window by said file other bytes a b.
    migrated_received (g.D.ByteSource.gave sdp) (g.D.ByteSource.gave sdp_later)
    (g.D.ByteSource.ended sdp_later) (g.S.ByteSource.gave source) (g.S.ByteSource.gave later)
    (g.S.ByteSource.ended later) old new moved bytes window by said file other a b
