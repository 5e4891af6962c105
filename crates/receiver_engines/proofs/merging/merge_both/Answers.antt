use Rattle.std.proofs.lemmas.Result.{err_from_is_err_and}
use Rattle.run_outcome.proofs.Refusals.{of_refusal_map}
use Rattle.st_format.specs.History.{IsRead}
use Rattle.receiver_engines.proofs.MergeRefusals.{pair_refused}
use Rattle.receiver_engines.proofs.JoinedAll.{joins_first}
use Rattle.receiver_engines.proofs.merging.merge_both.Goals as goal

pub returns-clause-joined : goal.returns-clause-joined
returns-clause-joined g c =
    let one = c.read_receiver.new.source in
    let two = c.join.new.source in
    let left =
    IsRead (g.L.ByteSource.gave c.args.left.now) (g.L.ByteSource.gave one)
    (g.L.ByteSource.ended one) in
    let right =
    IsRead (g.R.ByteSource.gave c.args.right.now) (g.R.ByteSource.gave two)
    (g.R.ByteSource.ended two) in
    joins_first left right c.in_ok-merged.merged c.join.new.merged c.in_ok-merged.ensures.found
    c.in_ok-merged.ensures.same c.in_ok-join.ensures.joined

pub returns-in_err-join-clause-refusal : goal.returns-in_err-join-clause-refusal
returns-in_err-join-clause-refusal g c =
    let one = c.read_receiver.new.source in
    let two = c.join.new.source in
    let left =
    IsRead (g.L.ByteSource.gave c.args.left.now) (g.L.ByteSource.gave one)
    (g.L.ByteSource.ended one) in
    let right =
    IsRead (g.R.ByteSource.gave c.args.right.now) (g.R.ByteSource.gave two)
    (g.R.ByteSource.ended two) in
    let p =
    err_from_is_err_and c.from_residual-in_err-join.result
    c.from_residual-in_err-join.ensures.1 in
    rw (p.1, p.2)
    (of_refusal_map c.in_err-join.field-0.0
    (pair_refused left right c.in_ok-merged.merged c.in_ok-merged.ensures.found
    c.in_ok-merged.ensures.same)
    c.in_err-join.ensures.refusal)
