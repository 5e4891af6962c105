use Rattle.std.proofs.lemmas.Result.{err_from_is_err_and}
use Rattle.run_outcome.proofs.Refusals.{of_refusal_map}
use Rattle.st_format.specs.History.{IsRead}
use Rattle.receiver_engines.proofs.MergeRefusals.{file_refused, joins_read, unlike_refused}
use Rattle.receiver_engines.proofs.merging_all.join.Goals as goal

pub returns-clause-joined : goal.returns-clause-joined
returns-clause-joined g c =
    joins_read c.join_read.result c.in_ok-other.other c.args.merged.now c.join_read.new.merged _
    c.in_ok-other.ensures.found c.in_ok-other.ensures.same c.join_read.ensures.alike
    c.join_read.ensures.joined

pub returns-in_err-other-clause-refusal : goal.returns-in_err-other-clause-refusal
returns-in_err-other-clause-refusal g c =
    let now = c.read_receiver.new.source in
    let told =
    IsRead (g.S.ByteSource.gave c.args.source.now) (g.S.ByteSource.gave now)
    (g.S.ByteSource.ended now) in
    let p = err_from_is_err_and c.from_residual.result c.from_residual.ensures.1 in
    rw (p.1, p.2)
    (of_refusal_map c.in_err-other.field-0.0 (file_refused c.args.merged.now told)
    c.in_err-other.ensures.refused)

pub returns-clause-refusal : goal.returns-clause-refusal
returns-clause-refusal g c =
    unlike_refused c.join_read.result c.in_ok-other.other c.args.merged.now _
    c.in_ok-other.ensures.found c.in_ok-other.ensures.same c.join_read.ensures.only
