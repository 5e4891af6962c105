use Rattle.std.proofs.Common.{◌<◌, length, take, arith}
use Rattle.std.proofs.lemmas.List.{length-take}
use Rattle.pcap_file.specs.declared.fault.RecordingFault.TheVariants.{Truncated}
use Rattle.pcap_file.specs.Fields.{field_at, recording_fault_origin}
use Rattle.pcap_file.proofs.Gave.{cut_part, gave_part}
use Rattle.pcap_file.proofs.fields.read_field.Goals as goal
use Rattle.st_format.proofs.Gave.{grew_all}
use Rattle.st_format.proofs.Parsing.{fails_field, gave_all, gives_field}

pub returns-then-branch-buf-clause-fault : goal.returns-then-branch-buf-clause-fault
returns-then-branch-buf-clause-fault g c =
    let n = c.in_ok-read_whole.field-0 in
    let e = c.in_ok-read_whole.ensures in
    let lt : n < length c.args.buf.now = omega (arith, e.room) in
    fails_field recording_fault_origin Truncated _ _ _ (take n c.read_whole.new.buf)
    (omega (arith, length-take n c.read_whole.new.buf)) e.given
    (e.short (omega (arith, e.room)))

pub returns-clause-read : goal.returns-clause-read
returns-clause-read g c =
    let e = c.in_ok-read_whole.ensures in
    gives_field Truncated _ _ _ c.read_whole.new.buf e.room
    (gave_all _ _ _ _ e.given (omega (arith, e.room)))

pub returns-then-branch-buf-clause-gave_wrong : goal.returns-then-branch-buf-clause-gave_wrong
returns-then-branch-buf-clause-gave_wrong g c =
    let n = c.in_ok-read_whole.field-0 in
    let e = c.in_ok-read_whole.ensures in
    let lt : n < length c.args.buf.now = omega (arith, e.room) in
    let few : length (take n c.read_whole.new.buf) < length c.args.buf.now =
    omega (arith, length-take n c.read_whole.new.buf) in
    cut_part (field_at (length c.args.buf.now)) Truncated _ _ (take n c.read_whole.new.buf) _
    (λ was left p e. fails_field recording_fault_origin Truncated _ was left
    (take n c.read_whole.new.buf) few p e) e.gave
    (e.ended (omega (arith, e.room)))

pub returns-clause-gave : goal.returns-clause-gave
returns-clause-gave g c =
    let n = c.in_ok-read_whole.field-0 in
    let e = c.in_ok-read_whole.ensures in
    gave_part (field_at (length c.args.buf.now)) c.read_whole.new.buf _ _ c.read_whole.new.buf
    (λ was left p. gives_field Truncated _ was left c.read_whole.new.buf e.room p)
    (grew_all _ _ n c.read_whole.new.buf e.gave (omega (arith, e.room)))
