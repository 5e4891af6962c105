use Rattle.std.proofs.Common.{◌∙◌, ap, length, slice_set, sym}
use Rattle.std.proofs.lemmas.List.{length-set}
use Rattle.arrayvec.proofs.ArrayVecLemmas.{items-with_items}
use Rattle.arrayvec.specs.ArrayVec.{with_items}
use Rattle.rtp_header.specs.Views.{seen_rtp}
use Rattle.recording_counts.specs.FlowStreams.{rtp_key}
use Rattle.recording_counts.proofs.Kept.{kept_at, place}
use Rattle.recording_counts.proofs.rtp_streams.Streams.note.Goals as goal

pub returns-in-Some : goal.returns-in-Some
returns-in-Some c =
    λ said e. kept_at said c.args.self.now (seen_rtp c.args.rtp.now) c.in-Some.place
    c.as_mut_slice-streams.result.now _ c.note.new.self
    (with_items c.args.self.now.kept
    (slice_set c.as_mut_slice-streams.result.now c.in-Some.place c.note.new.self)) e
    (ap (place (rtp_key (seen_rtp c.args.rtp.now))) (sym c.as_slice.ensures.value)
    ∙ sym c.place_of_stream.ensures.place ∙ c.in-Some.is)
    c.as_mut_slice-streams.ensures.value
    (items-with_items c.args.self.now.kept
    (slice_set c.as_mut_slice-streams.result.now c.in-Some.place c.note.new.self)
    (length-set c.as_mut_slice-streams.result.now c.in-Some.place c.note.new.self
    ∙ ap length c.as_mut_slice-streams.ensures.value))
    c.note.ensures
