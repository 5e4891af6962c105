use Rattle.std.proofs.Common.{sym, ◌∙◌, arith}
use Rattle.std.proofs.lemmas.Result.{err_from_is_err_and}
use Rattle.pcap_file.specs.Openings.{behind_at, pcap_laid}
use Rattle.pcap_file.specs.Runs.{InPcap}
use Rattle.pcap_file.proofs.Openings.{behind_as, behind_wrong_as, pcap_cut, pcap_fails, pcap_gives}
use Rattle.pcap_file.proofs.recording.open_pcap.Goals as goal
use Rattle.st_format.proofs.Gave.{fault_of, fault_one, gave_one}
use Rattle.pcap_file.specs.Fields.{recording_fault_origin}

pub returns-in_err-read_behind-clause-gave_wrong : goal.returns-in_err-read_behind-clause-gave_wrong
returns-in_err-read_behind-clause-gave_wrong g c =
    let four = c.args.four.now in
    let f = c.in_err-read_behind.field-0.0 in
    let p = err_from_is_err_and c.from_residual.result c.from_residual.ensures.1 in
    rw (p.1, p.2)
    (fault_one recording_fault_origin (behind_at four 20) (pcap_laid four) _ _ _ f
    (λ was q. pcap_cut four f was q)
    (behind_wrong_as four _ 20 _ _ _ f (omega (arith, c.requires))
    c.in_err-read_behind.ensures.gave_wrong))

pub returns-in-Ok-clause-gave : goal.returns-in-Ok-clause-gave
returns-in-Ok-clause-gave g c =
    let four = c.args.four.now in
    let octets = c.read_behind.new.octets in
    let file = c.in-Ok.file in
    gave_one (behind_at four 20) (pcap_laid four) octets (InPcap file) _ _
    (λ was left q. pcap_gives four octets file was left
    (sym c.read_pcap_head.ensures.exact ∙ c.in-Ok.is) q)
    (behind_as four octets _ 20 _ _ (omega (arith, c.requires)) c.in_ok-read_behind.ensures.gave)

pub returns-in-Err-clause-gave_wrong : goal.returns-in-Err-clause-gave_wrong
returns-in-Err-clause-gave_wrong g c =
    let four = c.args.four.now in
    let octets = c.read_behind.new.octets in
    let f = c.in-Err.fault in
    fault_of recording_fault_origin (behind_at four 20) (pcap_laid four) octets _ _ _ f
    (λ was left q. pcap_fails four octets f was left
    (sym c.read_pcap_head.ensures.exact ∙ c.in-Err.is) q)
    (behind_as four octets _ 20 _ _ (omega (arith, c.requires)) c.in_ok-read_behind.ensures.gave)
