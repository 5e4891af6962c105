use Rattle.std.proofs.Common.{length, take, sym, ◌∙◌}
use Rattle.std.proofs.lemmas.Result.{err_from_is_err_and}
use Rattle.pcap_file.proofs.BlockReads.{by_kept, by_kept_fails, by_passed, by_passed_fails}
use Rattle.std.proofs.Common.{Some, None}
use Rattle.pcap_file.specs.NgReading.{block_by, kept_at, passed_at}
use Rattle.pcap_file.proofs.blocks_reading.read_block_by.Goals as goal
use Rattle.st_format.proofs.Gave.{fault_one, gave_one}
use Rattle.pcap_file.specs.Fields.{recording_fault_origin}

pub returns-in_err-keep-clause-fault : goal.returns-in_err-keep-clause-fault
returns-in_err-keep-clause-fault g c =
    let p = err_from_is_err_and c.from_residual.result c.from_residual.ensures.1 in
    rw (p.1, p.2)
    (by_kept_fails c.args.order c.args.kind c.args.total (length c.args.buf.now) c.args.count _
    c.in_err-keep.field-0.0 (sym c.is_read.ensures ∙ c.if-is_read.true)
    c.in_err-keep.ensures.fault)

pub returns-then-is_read-clause-read : goal.returns-then-is_read-clause-read
returns-then-is_read-clause-read g c =
    by_kept c.args.order c.args.kind c.args.total (length c.args.buf.now) c.args.count _ _
    (take c.args.count c.keep.new.buf) (sym c.is_read.ensures ∙ c.if-is_read.true)
    c.in_ok-keep.ensures.read

pub returns-in_err-pass-clause-fault : goal.returns-in_err-pass-clause-fault
returns-in_err-pass-clause-fault g c =
    let p =
    err_from_is_err_and c.from_residual-in_err-pass.result
    c.from_residual-in_err-pass.ensures.1 in
    rw (p.1, p.2)
    (by_passed_fails c.args.order c.args.kind c.args.total (length c.args.buf.now) c.args.count _
    c.in_err-pass.field-0.0 (sym c.is_read.ensures ∙ c.if-is_read.false)
    c.in_err-pass.ensures.fault)

pub returns-clause-read : goal.returns-clause-read
returns-clause-read g c =
    by_passed c.args.order c.args.kind c.args.total (length c.args.buf.now) c.args.count _ _
    (sym c.is_read.ensures ∙ c.if-is_read.false) c.in_ok-pass.ensures.read

pub returns-in_err-keep-clause-gave_wrong : goal.returns-in_err-keep-clause-gave_wrong
returns-in_err-keep-clause-gave_wrong g c =
    let p = err_from_is_err_and c.from_residual.result c.from_residual.ensures.1 in
    rw (p.1, p.2)
    (fault_one recording_fault_origin
    (kept_at c.args.order c.args.total (length c.args.buf.now) c.args.count)
    (block_by c.args.order c.args.kind c.args.total (length c.args.buf.now) c.args.count) _ _ _
    c.in_err-keep.field-0.0
    (λ was q. by_kept_fails c.args.order c.args.kind c.args.total (length c.args.buf.now)
    c.args.count was
    c.in_err-keep.field-0.0 (sym c.is_read.ensures ∙ c.if-is_read.true) q)
    c.in_err-keep.ensures.gave_wrong)

pub returns-then-is_read-clause-gave : goal.returns-then-is_read-clause-gave
returns-then-is_read-clause-gave g c =
    let body = take c.args.count c.keep.new.buf in
    gave_one (kept_at c.args.order c.args.total (length c.args.buf.now) c.args.count)
    (block_by c.args.order c.args.kind c.args.total (length c.args.buf.now) c.args.count) body
    (Some body) _ _
    (λ was left p. by_kept c.args.order c.args.kind c.args.total (length c.args.buf.now)
    c.args.count was left body
    (sym c.is_read.ensures ∙ c.if-is_read.true) p) c.in_ok-keep.ensures.gave

pub returns-in_err-pass-clause-gave_wrong : goal.returns-in_err-pass-clause-gave_wrong
returns-in_err-pass-clause-gave_wrong g c =
    let p =
    err_from_is_err_and c.from_residual-in_err-pass.result
    c.from_residual-in_err-pass.ensures.1 in
    rw (p.1, p.2)
    (fault_one recording_fault_origin (passed_at c.args.order c.args.total c.args.count)
    (block_by c.args.order c.args.kind c.args.total (length c.args.buf.now) c.args.count) _ _ _
    c.in_err-pass.field-0.0
    (λ was q. by_passed_fails c.args.order c.args.kind c.args.total (length c.args.buf.now)
    c.args.count was
    c.in_err-pass.field-0.0 (sym c.is_read.ensures ∙ c.if-is_read.false) q)
    c.in_err-pass.ensures.gave_wrong)

pub returns-clause-gave : goal.returns-clause-gave
returns-clause-gave g c =
    gave_one (passed_at c.args.order c.args.total c.args.count)
    (block_by c.args.order c.args.kind c.args.total (length c.args.buf.now) c.args.count) tt None _
    _
    (λ was left p. by_passed c.args.order c.args.kind c.args.total (length c.args.buf.now)
    c.args.count was left
    (sym c.is_read.ensures ∙ c.if-is_read.false) p) c.in_ok-pass.ensures.gave
