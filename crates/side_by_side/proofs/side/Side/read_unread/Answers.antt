use Rattle.std.proofs.lemmas.Result.{err_from_is_err_and}
use Rattle.side_by_side.proofs.Reading.{has_read, stops_side}
use Rattle.side_by_side.proofs.side.Side.read_unread.Goals as goal

pub returns-clause-read : goal.returns-clause-read
returns-clause-read g c =
    has_read c.args.steering c.args.self.now
    (record { file = c.read_file.new.file; going = c.in_ok-going.going })
    c.requires.unread c.in_ok-going.ensures.read

pub returns-in_err-going-clause-fault : goal.returns-in_err-going-clause-fault
returns-in_err-going-clause-fault g c =
    let old = c.args.self.now in
    let p = err_from_is_err_and c.from_residual.result c.from_residual.ensures.1 in
    rw (p.1, p.2)
    (stops_side c.in_err-going.field-0.0 old
    (record { file = c.read_file.new.file; going = old.going }) c.requires.unread
    c.requires.unread c.in_err-going.ensures.fault)
