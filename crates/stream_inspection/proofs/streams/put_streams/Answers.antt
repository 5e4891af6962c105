use Rattle.std.proofs.Common.{append-nil, sym}
use Rattle.run_outcome.proofs.Printed.{texts_all, texts_more}
use Rattle.stream_inspection.specs.Numbers.{told_streams}
use Rattle.stream_inspection.specs.Streams.{stream_lines}
use Rattle.stream_inspection.proofs.NumberLaws.{end_told, place_told}
use Rattle.stream_inspection.proofs.streams.put_streams.Goals as goal

pub loop-place-init : goal.loop-place-init
loop-place-init g c = λ packets are. sym (append-nil _)

pub loop-place-preserved : goal.loop-place-preserved
loop-place-preserved g c = λ packets are.
    let l = c.loop-place in
    let at =
    place_told g.row.B.Denot packets c.args.tables.now c.streams-longs.result.now l.place
    c.index-longs-place.result are c.streams-longs.ensures c.loop-place-test.true
    c.index-longs-place.is in
    texts_more (stream_lines {A = g.row.B.Denot} c.args.form) (told_streams packets) l.place
    c.index-longs-place.result c.told.result.now _ _ _ at.2
    (c.told.ensures packets are at.0 at.1) (l.invariant packets are) c.in_ok-put_stream.ensures

pub returns : goal.returns
returns g c = λ packets are.
    texts_all (stream_lines {A = g.row.B.Denot} c.args.form) (told_streams packets)
    c.loop-place.place _ _
    (end_told g.row.B.Denot packets c.args.tables.now c.streams-longs.result.now
    c.loop-place.place are c.streams-longs.ensures c.loop-place-test.false)
    (c.loop-place.invariant packets are)
