use Rattle.run_laws.proofs.SentAgain.{migrated_datagrams, migrated_text}
use Rattle.run_laws.proofs.sent.migrated_again.Goals as goal

pub returns-clause-datagrams : goal.returns-clause-datagrams
returns-clause-datagrams g c =
    λ sdp sdp_later source later old new moved bytes.
    migrated_datagrams (g.D.ByteSource.gave sdp) (g.D.ByteSource.gave sdp_later)
    (g.D.ByteSource.ended sdp_later) (g.S.ByteSource.gave source) (g.S.ByteSource.gave later)
    (g.S.ByteSource.ended later) old new moved bytes

pub returns-clause-text : goal.returns-clause-text
returns-clause-text g c =
    λ sdp sdp_later source later old new moved bytes.
    migrated_text (g.D.ByteSource.gave sdp) (g.D.ByteSource.gave sdp_later)
    (g.D.ByteSource.ended sdp_later) (g.S.ByteSource.gave source) (g.S.ByteSource.gave later)
    (g.S.ByteSource.ended later) old new moved bytes
