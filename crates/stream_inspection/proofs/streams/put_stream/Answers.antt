use Rattle.std.proofs.lemmas.Result.{on_ok_weaker}
use Rattle.stream_inspection.proofs.Pieces.{six}
use Rattle.stream_inspection.proofs.streams.put_stream.Goals as goal

pub returns : goal.returns
returns g c =
    on_ok_weaker c.put_row.result
    (six _ _ _ _ _ _ _ _ _ _ _ _ _
    (rw c.stream_heading.ensures.text at c.in_ok-put_heading.ensures.put)
    c.in_ok-put_path.ensures c.in_ok-put_path-2.ensures c.in_ok-put_wrong.ensures
    c.in_ok-put_wrong-2.ensures)
    (rw c.together_row.ensures at c.put_row.ensures.put)
