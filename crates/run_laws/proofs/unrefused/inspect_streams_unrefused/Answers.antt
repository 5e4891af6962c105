use Rattle.run_laws.proofs.NoStreamsRefusals.{streams_not}
use Rattle.run_laws.proofs.unrefused.inspect_streams_unrefused.Goals as goal

pub returns : goal.returns
returns g c =
    λ wanted form sdp ways files shown printed other other' r tells few.
    streams_not g.S.ByteSource.gave g.S.ByteSource.ended wanted form sdp ways files shown printed
    other other' r tells few
