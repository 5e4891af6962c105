use Rattle.std.proofs.Common.{[], length, Some}
use Rattle.pcap_file.specs.Runs.{layout_seen}
use Rattle.inspect_engine.proofs.Noting.{behind_noted, notes_none, stopped}
use Rattle.inspect_engine.proofs.recording.note_recording.Goals as goal

pub returns-in-Err-clause-noted : goal.returns-in-Err-clause-noted
returns-in-Err-clause-noted g c =
    stopped (length c.args.buf.now) (g.S.ByteSource.gave c.args.source.now)
    (g.S.ByteSource.gave c.open_recording.new.source)
    (g.S.ByteSource.ended c.open_recording.new.source) (Some c.in-Err.fault) []
    c.args.inspection.now c.args.inspection.now (notes_none c.args.inspection.now)
    c.in-Err.ensures.fault

pub returns-clause-noted : goal.returns-clause-noted
returns-clause-noted g c =
    behind_noted c.note_packets.result (length c.args.buf.now) _ (layout_seen c.in-Ok.layout)
    (g.S.ByteSource.gave c.args.source.now) (g.S.ByteSource.gave c.open_recording.new.source)
    (g.S.ByteSource.gave c.note_packets.new.source)
    (g.S.ByteSource.ended c.note_packets.new.source) c.args.inspection.now
    c.note_packets.new.inspection c.in-Ok.ensures.room c.in-Ok.ensures.read
    c.note_packets.ensures.noted
