use Rattle.std.proofs.Common.{◌∙◌}
use Rattle.recording_counts.proofs.Kept.{found_at}
use Rattle.recording_counts.proofs.rtp_streams.place_of_stream.Goals as goal

pub returns-clause-place : goal.returns-clause-place
returns-clause-place c =
    c.first_of.ensures.first
    ∙ found_at (record { payload_type = c.args.payload_type; ssrc = c.args.ssrc }) c.args.streams.now
