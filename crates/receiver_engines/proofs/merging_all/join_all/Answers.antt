use Rattle.std.proofs.lemmas.Result.{err_from_is_err_and}
use Rattle.std.specs.List.{zip}
use Rattle.run_outcome.proofs.Refusals.{of_refusal_map}
use Rattle.run_outcome.specs.Moments.{WasRead}
use Rattle.st_format.specs.History.{IsRead}
use Rattle.receiver_engines.proofs.MergeRefusals.{first_refused, other_refused}
use Rattle.receiver_engines.proofs.JoinedAll.{joins_all}
use Rattle.receiver_engines.proofs.merging_all.join_all.Goals as goal

pub returns-clause-joined : goal.returns-clause-joined
returns-clause-joined g c =
    let now = c.read_receiver.new.source in
    let first =
    IsRead (g.S.ByteSource.gave c.args.first.now) (g.S.ByteSource.gave now)
    (g.S.ByteSource.ended now) in
    let told = WasRead g.S.ByteSource.gave g.S.ByteSource.ended in
    joins_all first told (zip c.args.others.now c.join_each.new.others)
    c.in_ok-merged.merged c.join_each.new.merged c.in_ok-merged.ensures.found
    c.in_ok-merged.ensures.same c.in_ok-join_each.ensures.joined

pub returns-in_err-merged-clause-refusal : goal.returns-in_err-merged-clause-refusal
returns-in_err-merged-clause-refusal g c =
    let now = c.read_receiver.new.source in
    let first =
    IsRead (g.S.ByteSource.gave c.args.first.now) (g.S.ByteSource.gave now)
    (g.S.ByteSource.ended now) in
    let told = WasRead g.S.ByteSource.gave g.S.ByteSource.ended in
    let p = err_from_is_err_and c.from_residual.result c.from_residual.ensures.1 in
    rw (p.1, p.2)
    (of_refusal_map c.in_err-merged.field-0.0
    (first_refused first told (zip c.args.others.now c.args.others.now))
    c.in_err-merged.ensures.refused)

pub returns-in_err-join_each-clause-refusal : goal.returns-in_err-join_each-clause-refusal
returns-in_err-join_each-clause-refusal g c =
    let now = c.read_receiver.new.source in
    let first =
    IsRead (g.S.ByteSource.gave c.args.first.now) (g.S.ByteSource.gave now)
    (g.S.ByteSource.ended now) in
    let told = WasRead g.S.ByteSource.gave g.S.ByteSource.ended in
    let p =
    err_from_is_err_and c.from_residual-in_err-join_each.result
    c.from_residual-in_err-join_each.ensures.1 in
    rw (p.1, p.2)
    (of_refusal_map c.in_err-join_each.field-0.0
    (other_refused first told (zip c.args.others.now c.join_each.new.others)
    c.in_ok-merged.merged c.in_ok-merged.ensures.found c.in_ok-merged.ensures.same)
    c.in_err-join_each.ensures.refusal)
