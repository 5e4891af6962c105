use Rattle.std.proofs.Common.{length, take}
use Rattle.std.proofs.lemmas.Result.{err_from_is_err_and}
use Rattle.pcap_file.proofs.BlockReads.{kept_cut, kept_fails, kept_gives}
use Rattle.std.proofs.Common.{Ok, Err}
use Rattle.pcap_file.specs.NgReading.{body_at, kept_at, trailer_at}
use Rattle.pcap_file.proofs.Gave.{fault_tail, gave_tail}
use Rattle.pcap_file.proofs.blocks_reading.keep.Goals as goal
use Rattle.st_format.proofs.Gave.{fault_one}
use Rattle.pcap_file.specs.Fields.{recording_fault_origin}

pub returns-in_err-read_body-clause-fault : goal.returns-in_err-read_body-clause-fault
returns-in_err-read_body-clause-fault g c =
    let p = err_from_is_err_and c.from_residual.result c.from_residual.ensures.1 in
    rw (p.1, p.2)
    (kept_cut c.args.order c.args.total (length c.args.buf.now) c.args.count _
    c.in_err-read_body.field-0.0 c.in_err-read_body.ensures.fault)

pub returns-clause-read : goal.returns-clause-read
returns-clause-read g c =
    kept_gives c.args.order c.args.total (length c.args.buf.now) c.args.count _ _ _
    (take c.args.count c.read_body.new.buf) c.read_trailer.result
    c.in_ok-read_body.ensures.read c.read_trailer.ensures.read

pub returns-clause-fault : goal.returns-clause-fault
returns-clause-fault g c =
    kept_fails c.args.order c.args.total (length c.args.buf.now) c.args.count _ _
    (take c.args.count c.read_body.new.buf) c.read_trailer.result
    c.in_ok-read_body.ensures.read c.read_trailer.ensures.fault

pub returns-in_err-read_body-clause-gave_wrong : goal.returns-in_err-read_body-clause-gave_wrong
returns-in_err-read_body-clause-gave_wrong g c =
    let p = err_from_is_err_and c.from_residual.result c.from_residual.ensures.1 in
    rw (p.1, p.2)
    (fault_one recording_fault_origin (body_at (length c.args.buf.now) c.args.count)
    (kept_at c.args.order c.args.total (length c.args.buf.now) c.args.count) _ _ _
    c.in_err-read_body.field-0.0
    (λ was q. kept_cut c.args.order c.args.total (length c.args.buf.now) c.args.count was
    c.in_err-read_body.field-0.0 q) c.in_err-read_body.ensures.gave_wrong)

pub returns-clause-gave : goal.returns-clause-gave
returns-clause-gave g c =
    let body = take c.args.count c.read_body.new.buf in
    gave_tail (body_at (length c.args.buf.now) c.args.count)
    (trailer_at c.args.order c.args.total)
    (kept_at c.args.order c.args.total (length c.args.buf.now) c.args.count) body (λ u. u)
    (λ _. body) _ _ _ c.read_trailer.result
    (λ u was mid left p q. kept_gives c.args.order c.args.total (length c.args.buf.now)
    c.args.count was mid left body (Ok u) p q) c.in_ok-read_body.ensures.gave
    c.read_trailer.ensures.gave

pub returns-clause-gave_wrong : goal.returns-clause-gave_wrong
returns-clause-gave_wrong g c =
    let body = take c.args.count c.read_body.new.buf in
    fault_tail (body_at (length c.args.buf.now) c.args.count)
    (trailer_at c.args.order c.args.total)
    (kept_at c.args.order c.args.total (length c.args.buf.now) c.args.count) body _ _ _ _
    c.read_trailer.result
    (λ f was mid p q. kept_fails c.args.order c.args.total (length c.args.buf.now) c.args.count
    was mid body (Err f) p q) c.in_ok-read_body.ensures.gave c.read_trailer.ensures.gave_wrong
