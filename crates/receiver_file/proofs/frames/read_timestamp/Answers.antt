use Rattle.std.proofs.lemmas.Result.{err_from_is_err_and}
use Rattle.receiver_file.proofs.Stamped.{new_out, stamp_cut, stamp_fails, stamp_gives}
use Rattle.receiver_file.proofs.Giving.{fault_made, gave_made}
use Rattle.receiver_file.specs.Numbers.{number_at}
use Rattle.receiver_file.specs.StateReading.{timestamp_at}
use Rattle.receiver_file.proofs.frames.read_timestamp.Goals as goal
use Rattle.st_format.proofs.Gave.{fault_one}
use Rattle.media_file.specs.Faults.{file_fault_origin}

pub returns-in_err-timestamp-clause-fault : goal.returns-in_err-timestamp-clause-fault
returns-in_err-timestamp-clause-fault g c =
    let p = err_from_is_err_and c.from_residual.result c.from_residual.ensures.1 in
    rw (p.1, p.2)
    (stamp_cut c.args.before.now _ c.in_err-timestamp.field-0.0
    c.in_err-timestamp.ensures.fault)

pub returns-clause-new : goal.returns-clause-new
returns-clause-new g c =
    new_out c.args.before.now c.in_ok-timestamp.timestamp c.new_in.result c.new_in.ensures

pub returns-clause-read : goal.returns-clause-read
returns-clause-read g c =
    stamp_gives c.args.before.now _ _ _ c.new_in.result c.in_ok-timestamp.ensures.read
    c.new_in.ensures

pub returns-clause-fault : goal.returns-clause-fault
returns-clause-fault g c =
    stamp_fails c.args.before.now _ _ _ c.new_in.result c.in_ok-timestamp.ensures.read
    c.new_in.ensures

pub returns-in_err-timestamp-clause-gave_wrong : goal.returns-in_err-timestamp-clause-gave_wrong
returns-in_err-timestamp-clause-gave_wrong g c =
    let p =
    err_from_is_err_and c.from_residual.result c.from_residual.ensures.1 in
    let before = c.args.before.now in
    let f = c.in_err-timestamp.field-0.0 in
    rw (p.1, p.2)
    (fault_one file_fault_origin number_at (timestamp_at before) _ _ _ f
    (λ was. stamp_cut before was f)
    c.in_err-timestamp.ensures.gave_wrong)

pub returns-clause-gave : goal.returns-clause-gave
returns-clause-gave g c =
    let before = c.args.before.now in
    let n = c.in_ok-timestamp.timestamp in
    gave_made number_at (timestamp_at before) n c.new_in.result _ _
    (λ was left h. stamp_gives before was left n c.new_in.result h c.new_in.ensures)
    c.in_ok-timestamp.ensures.gave

pub returns-clause-gave_wrong : goal.returns-clause-gave_wrong
returns-clause-gave_wrong g c =
    let before = c.args.before.now in
    let n = c.in_ok-timestamp.timestamp in
    fault_made number_at (timestamp_at before) n c.new_in.result _ _
    (g.S.ByteSource.ended c.read_number.new.source)
    (λ was left h. stamp_fails before was left n c.new_in.result h c.new_in.ensures)
    c.in_ok-timestamp.ensures.gave
