use Rattle.std.proofs.Common.{length, sym, ◌∙◌}
use Rattle.std.proofs.lemmas.List.{length-take-le}
use Rattle.std.proofs.lemmas.Result.{err_from_is_err_and}
use Rattle.path_merge.specs.Steps.{datagram_at}
use Rattle.path_receiver.proofs.Failed.{err_known, none_ok}
use Rattle.path_receiver.proofs.Lives.{in_pair, in_static}
use Rattle.path_merge.proofs.SendLemmas.{octets_within, room_at}
use Rattle.path_merge.proofs.schedule.sending.datagram_of.Goals as goal

pub datagram-length-requires-clause-index : goal.datagram-length-requires-clause-index
datagram-length-requires-clause-index g c = c.requires.index

pub datagram-length-requires-clause-format : goal.datagram-length-requires-clause-format
datagram-length-requires-clause-format g c = c.requires.format

pub datagram-length-requires-clause-room : goal.datagram-length-requires-clause-room
datagram-length-requires-clause-room g c =
    room_at c.args.plan.now (length c.args.buf.now) c.args.index c.requires.room c.requires.index

pub datagram-length-requires-clause-payload_type : goal.datagram-length-requires-clause-payload_type
datagram-length-requires-clause-payload_type g c = c.requires.payload_type

pub slice_bounds-from_slice-end : goal.slice_bounds-from_slice-end
slice_bounds-from_slice-end g c =
    octets_within c.datagram-length.result _ (length c.args.buf.now) _
    c.datagram-length.ensures.value
    (room_at c.args.plan.now (length c.args.buf.now) c.args.index c.requires.room c.requires.index)
    c.datagram-length.ensures.length

pub slice_bounds-from_slice-end-2 : goal.slice_bounds-from_slice-end-2
slice_bounds-from_slice-end-2 g c =
    sym
    (length-take-le c.datagram-length.result c.datagram-length.new.buf
    (octets_within c.datagram-length.result _ (length c.args.buf.now) _
    c.datagram-length.ensures.value
    (room_at c.args.plan.now (length c.args.buf.now) c.args.index c.requires.room c.requires.index)
    c.datagram-length.ensures.length))

pub from_slice-requires : goal.from_slice-requires
from_slice-requires g c κs within = (in_static _, within)

pub branch-from_slice-requires : goal.branch-from_slice-requires
branch-from_slice-requires g c κs within = (in_pair _ _ within, in_static _)

pub from_residual-requires : goal.from_residual-requires
from_residual-requires g c κs within = (in_pair _ _ within, (in_static _, in_static _))

pub returns-in_err-from_slice-clause-text : goal.returns-in_err-from_slice-clause-text
returns-in_err-from_slice-clause-text g c =
    let p = err_from_is_err_and c.from_residual.result c.from_residual.ensures.1 in
    none_ok c.from_residual.result p.0 _ p.1

pub returns-in_err-from_slice-clause-memory : goal.returns-in_err-from_slice-clause-memory
returns-in_err-from_slice-clause-memory g c =
    let p = err_from_is_err_and c.from_residual.result c.from_residual.ensures.1 in
    err_known c.from_residual.result p.0 _ p.1 p.2

pub returns-in_err-from_slice-clause-room : goal.returns-in_err-from_slice-clause-room
returns-in_err-from_slice-clause-room g c = c.datagram-length.ensures.length

pub returns-clause-text : goal.returns-clause-text
unfolding datagram_at
returns-clause-text g c = c.in_ok-from_slice.ensures.items ∙ c.datagram-length.ensures.text

pub returns-clause-memory : goal.returns-clause-memory
returns-clause-memory g c = tt

pub returns-clause-room : goal.returns-clause-room
returns-clause-room g c = c.datagram-length.ensures.length
