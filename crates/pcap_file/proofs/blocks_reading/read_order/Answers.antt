use Rattle.std.proofs.lemmas.Result.{err_from_is_err_and}
use Rattle.pcap_file.specs.BlockReading.{order_of}
use Rattle.pcap_file.specs.NgReading.{order_or, order_at}
use Rattle.pcap_file.proofs.FieldReads.{made_cut, made_fails, made_gives}
use Rattle.pcap_file.specs.Fields.{field_at, recording_fault_origin}
use Rattle.pcap_file.proofs.Gave.{fault_made, gave_made}
use Rattle.pcap_file.proofs.blocks_reading.read_order.Goals as goal
use Rattle.st_format.proofs.Gave.{fault_one}

pub returns-in_err-read_field-clause-fault : goal.returns-in_err-read_field-clause-fault
unfolding order_at
returns-in_err-read_field-clause-fault g c =
    let p = err_from_is_err_and c.from_residual.result c.from_residual.ensures.1 in
    rw (p.1, p.2)
    (made_cut 4 (λ front. order_or (order_of front)) _ c.in_err-read_field.field-0.0
    c.in_err-read_field.ensures.fault)

pub returns-clause-read : goal.returns-clause-read
unfolding order_at
returns-clause-read g c =
    made_gives 4 (λ front. order_or (order_of front)) _ _ c.read_field.new.buf c.order_in.result
    c.in_ok-read_field.ensures.read
    c.order_in.ensures

pub returns-clause-fault : goal.returns-clause-fault
unfolding order_at
returns-clause-fault g c =
    made_fails 4 (λ front. order_or (order_of front)) _ _ c.read_field.new.buf c.order_in.result
    c.in_ok-read_field.ensures.read
    c.order_in.ensures

pub returns-in_err-read_field-clause-gave_wrong : goal.returns-in_err-read_field-clause-gave_wrong
unfolding order_at
returns-in_err-read_field-clause-gave_wrong g c =
    let p = err_from_is_err_and c.from_residual.result c.from_residual.ensures.1 in
    rw (p.1, p.2)
    (fault_one recording_fault_origin (field_at 4) order_at _ _ _ c.in_err-read_field.field-0.0
    (λ was q. made_cut 4 (λ front. order_or (order_of front)) was
    c.in_err-read_field.field-0.0 q) c.in_err-read_field.ensures.gave_wrong)

pub returns-clause-gave : goal.returns-clause-gave
unfolding order_at
returns-clause-gave g c =
    gave_made (field_at 4) order_at c.read_field.new.buf (λ x. x) _ _
    c.order_in.result
    (λ was left q. made_gives 4 (λ front. order_or (order_of front)) was left
    c.read_field.new.buf c.order_in.result q c.order_in.ensures) c.in_ok-read_field.ensures.gave

pub returns-clause-gave_wrong : goal.returns-clause-gave_wrong
unfolding order_at
returns-clause-gave_wrong g c =
    fault_made (field_at 4) order_at c.read_field.new.buf _ _ _
    c.order_in.result
    (λ was left q. made_fails 4 (λ front. order_or (order_of front)) was left
    c.read_field.new.buf c.order_in.result q c.order_in.ensures) c.in_ok-read_field.ensures.gave
