use Rattle.std.proofs.lemmas.Result.{err_from_is_err_and}
use Rattle.pcap_file.specs.NgReading.{passed_at, skip_at, trailer_at}
use Rattle.pcap_file.proofs.FieldReads.{two_fails, two_gives}
use Rattle.std.proofs.Common.{Ok, Err}
use Rattle.pcap_file.proofs.Gave.{fault_tail, gave_tail}
use Rattle.pcap_file.proofs.blocks_reading.pass.Goals as goal
use Rattle.st_format.proofs.Gave.{fault_one}
use Rattle.st_format.proofs.Parsing.{fails_first}
use Rattle.pcap_file.specs.Fields.{recording_fault_origin}

pub returns-in_err-skip-clause-fault : goal.returns-in_err-skip-clause-fault
unfolding passed_at
returns-in_err-skip-clause-fault g c =
    let p = err_from_is_err_and c.from_residual.result c.from_residual.ensures.1 in
    rw (p.1, p.2)
    (fails_first recording_fault_origin (skip_at c.args.count)
    (λ _. trailer_at c.args.order c.args.total) _
    c.in_err-skip.field-0.0 c.in_err-skip.ensures.fault)

pub returns-clause-read : goal.returns-clause-read
unfolding passed_at
returns-clause-read g c =
    two_gives (skip_at c.args.count) (λ _. trailer_at c.args.order c.args.total) _ _ _ tt
    c.read_trailer.result c.in_ok-skip.ensures.read c.read_trailer.ensures.read

pub returns-clause-fault : goal.returns-clause-fault
unfolding passed_at
returns-clause-fault g c =
    two_fails (skip_at c.args.count) (λ _. trailer_at c.args.order c.args.total) _ _ tt
    c.read_trailer.result c.in_ok-skip.ensures.read c.read_trailer.ensures.fault

pub returns-in_err-skip-clause-gave_wrong : goal.returns-in_err-skip-clause-gave_wrong
unfolding passed_at
returns-in_err-skip-clause-gave_wrong g c =
    let p = err_from_is_err_and c.from_residual.result c.from_residual.ensures.1 in
    rw (p.1, p.2)
    (fault_one recording_fault_origin (skip_at c.args.count)
    (passed_at c.args.order c.args.total c.args.count) _ _ _
    c.in_err-skip.field-0.0
    (λ was q. fails_first recording_fault_origin (skip_at c.args.count)
    (λ _. trailer_at c.args.order c.args.total)
    was c.in_err-skip.field-0.0 q) c.in_err-skip.ensures.gave_wrong)

pub returns-clause-gave : goal.returns-clause-gave
unfolding passed_at
returns-clause-gave g c =
    gave_tail (skip_at c.args.count) (trailer_at c.args.order c.args.total)
    (passed_at c.args.order c.args.total c.args.count)
    tt (λ u. u) (λ u. u) _ _ _ c.read_trailer.result
    (λ u was mid left p q. two_gives (skip_at c.args.count)
    (λ _. trailer_at c.args.order c.args.total)
    was mid left tt (Ok u) p q) c.in_ok-skip.ensures.gave c.read_trailer.ensures.gave

pub returns-clause-gave_wrong : goal.returns-clause-gave_wrong
unfolding passed_at
returns-clause-gave_wrong g c =
    fault_tail (skip_at c.args.count) (trailer_at c.args.order c.args.total)
    (passed_at c.args.order c.args.total c.args.count)
    tt _ _ _ _ c.read_trailer.result
    (λ f was mid p q. two_fails (skip_at c.args.count) (λ _. trailer_at c.args.order c.args.total)
    was mid tt (Err f) p q) c.in_ok-skip.ensures.gave c.read_trailer.ensures.gave_wrong
