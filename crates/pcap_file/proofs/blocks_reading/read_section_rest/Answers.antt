use Rattle.std.proofs.lemmas.Result.{err_from_is_err_and}
use Rattle.pcap_file.specs.NgReading.{passed_at, section_rest_at, version_at}
use Rattle.pcap_file.proofs.FieldReads.{two_fails, two_gives}
use Rattle.std.proofs.Common.{Ok, Err}
use Rattle.pcap_file.proofs.Gave.{fault_tail, gave_tail}
use Rattle.pcap_file.proofs.blocks_reading.read_section_rest.Goals as goal
use Rattle.st_format.proofs.Gave.{fault_one}
use Rattle.st_format.proofs.Parsing.{fails_first}
use Rattle.pcap_file.specs.Fields.{recording_fault_origin}

pub returns-in_err-read_version-clause-fault : goal.returns-in_err-read_version-clause-fault
unfolding section_rest_at
returns-in_err-read_version-clause-fault g c =
    let p = err_from_is_err_and c.from_residual.result c.from_residual.ensures.1 in
    rw (p.1, p.2)
    (fails_first recording_fault_origin (version_at c.args.order)
    (λ _. passed_at c.args.order c.args.total c.args.count) _
    c.in_err-read_version.field-0.0 c.in_err-read_version.ensures.fault)

pub returns-clause-read : goal.returns-clause-read
unfolding section_rest_at
returns-clause-read g c =
    two_gives (version_at c.args.order) (λ _. passed_at c.args.order c.args.total c.args.count) _ _
    _ tt c.pass.result c.in_ok-read_version.ensures.read c.pass.ensures.read

pub returns-clause-fault : goal.returns-clause-fault
unfolding section_rest_at
returns-clause-fault g c =
    two_fails (version_at c.args.order) (λ _. passed_at c.args.order c.args.total c.args.count) _ _
    tt c.pass.result c.in_ok-read_version.ensures.read c.pass.ensures.fault

pub returns-in_err-read_version-clause-gave_wrong :
    goal.returns-in_err-read_version-clause-gave_wrong
unfolding section_rest_at
returns-in_err-read_version-clause-gave_wrong g c =
    let p = err_from_is_err_and c.from_residual.result c.from_residual.ensures.1 in
    rw (p.1, p.2)
    (fault_one recording_fault_origin (version_at c.args.order)
    (section_rest_at c.args.order c.args.total c.args.count) _
    _ _
    c.in_err-read_version.field-0.0
    (λ was q. fails_first recording_fault_origin (version_at c.args.order)
    (λ _. passed_at c.args.order c.args.total c.args.count)
    was c.in_err-read_version.field-0.0 q) c.in_err-read_version.ensures.gave_wrong)

pub returns-clause-gave : goal.returns-clause-gave
unfolding section_rest_at
returns-clause-gave g c =
    gave_tail (version_at c.args.order) (passed_at c.args.order c.args.total c.args.count)
    (section_rest_at c.args.order c.args.total c.args.count)
    tt (λ u. u) (λ u. u) _ _ _ c.pass.result
    (λ u was mid left p q. two_gives (version_at c.args.order)
    (λ _. passed_at c.args.order c.args.total c.args.count)
    was mid left tt (Ok u) p q) c.in_ok-read_version.ensures.gave c.pass.ensures.gave

pub returns-clause-gave_wrong : goal.returns-clause-gave_wrong
unfolding section_rest_at
returns-clause-gave_wrong g c =
    fault_tail (version_at c.args.order) (passed_at c.args.order c.args.total c.args.count)
    (section_rest_at c.args.order c.args.total c.args.count)
    tt _ _ _ _ c.pass.result
    (λ f was mid p q. two_fails (version_at c.args.order)
    (λ _. passed_at c.args.order c.args.total c.args.count)
    was mid tt (Err f) p q) c.in_ok-read_version.ensures.gave c.pass.ensures.gave_wrong
