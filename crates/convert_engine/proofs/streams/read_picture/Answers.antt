use Rattle.std.proofs.lemmas.Result.{err_from_is_err_and}
use Rattle.convert_engine.proofs.Saying.{stream_frame_fault, stream_head_fault, stream_said}
use Rattle.convert_engine.proofs.streams.read_picture.Goals as goal

pub returns-in_err-format-clause-fault : goal.returns-in_err-format-clause-fault
returns-in_err-format-clause-fault g c =
    let p = err_from_is_err_and c.from_residual.result c.from_residual.ensures.1 in
    rw (p.1, p.2)
    (stream_head_fault c.args.place c.in_err-format.field-0.0 _ _ _
    c.in_err-format.ensures.gave_wrong)

pub returns-clause-says : goal.returns-clause-says
returns-clause-says g c =
    let e = c.read_at_place.ensures in
    stream_said c.args.place c.in_ok-format.format c.read_at_place.result _ _ _ _
    c.in_ok-format.ensures.gave e.format e.whole e.gave

pub returns-clause-fault : goal.returns-clause-fault
returns-clause-fault g c =
    stream_frame_fault c.args.place c.in_ok-format.format c.read_at_place.result _ _ _ _
    c.in_ok-format.ensures.gave c.read_at_place.ensures.gave_wrong
