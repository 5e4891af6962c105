use Rattle.std.proofs.Common.{◌≡◌, ℕ, length, take, drop, ◌∙◌, arith}
use Rattle.std.proofs.lemmas.List.{length-take-le, take_at}
use Rattle.std.proofs.lemmas.Result.{err_from_is_err_and}
use Rattle.media_file.proofs.Fronted.{text_gives, text_fails, text_cut}
use Rattle.media_file.specs.Fields.{field_at}
use Rattle.media_file.specs.Fronts.{text_at}
use Rattle.media_file.proofs.GaveFronts.{text_gave, text_gave_wrong}
use Rattle.media_file.proofs.front.read_text.Goals as goal
use Rattle.st_format.proofs.Gave.{fault_one}
use Rattle.media_file.specs.Faults.{file_fault_origin}

pub returns-in_err-read_field-clause-fault : goal.returns-in_err-read_field-clause-fault
returns-in_err-read_field-clause-fault g c =
    let p = err_from_is_err_and c.from_residual.result c.from_residual.ensures.1 in
    rw (p.1, p.2) (text_cut _ c.in_err-read_field.field-0.0 c.in_err-read_field.ensures.fault)

pub returns-in_err-read_field-2-clause-fault : goal.returns-in_err-read_field-2-clause-fault
returns-in_err-read_field-2-clause-fault g c =
    let p =
    err_from_is_err_and c.from_residual-in_err-read_field-2.result
    c.from_residual-in_err-read_field-2.ensures.1 in
    let n : ℕ = c.from_be_bytes-length.result in
    let room : length (take n c.args.text.now) ≡ n =
    length-take-le n c.args.text.now (omega arith) in
    rw (p.1, p.2)
    (text_fails _ _ c.read_field.new.buf _ c.in_err-read_field-2.field-0.0
    (room ∙ c.from_be_bytes-length.ensures) c.in_ok-read_field.ensures.read
    c.in_err-read_field-2.ensures.fault)

pub returns-clause-read : goal.returns-clause-read
returns-clause-read g c =
    let n : ℕ = c.from_be_bytes-length.result in
    let room : length (take n c.args.text.now) ≡ n =
    length-take-le n c.args.text.now (omega arith) in
    let e = c.in_ok-read_field-2.ensures in
    rw (take_at c.read_field-2.new.buf (drop n c.args.text.now) n (e.room ∙ room))
    (text_gives _ _ _ c.read_field.new.buf c.read_field-2.new.buf _
    (room ∙ c.from_be_bytes-length.ensures) c.in_ok-read_field.ensures.read e.read)

pub returns-in_err-read_field-clause-gave_wrong : goal.returns-in_err-read_field-clause-gave_wrong
returns-in_err-read_field-clause-gave_wrong g c =
    let p = err_from_is_err_and c.from_residual.result c.from_residual.ensures.1 in
    let f = c.in_err-read_field.field-0.0 in
    rw (p.1, p.2)
    (fault_one file_fault_origin (field_at 2) text_at _ _ _ f (λ was. text_cut was f)
    c.in_err-read_field.ensures.gave_wrong)

pub returns-in_err-read_field-2-clause-gave_wrong :
    goal.returns-in_err-read_field-2-clause-gave_wrong
returns-in_err-read_field-2-clause-gave_wrong g c =
    let p =
    err_from_is_err_and c.from_residual-in_err-read_field-2.result
    c.from_residual-in_err-read_field-2.ensures.1 in
    let n : ℕ = c.from_be_bytes-length.result in
    let room : length (take n c.args.text.now) ≡ n =
    length-take-le n c.args.text.now (omega arith) in
    rw (p.1, p.2)
    (text_gave_wrong _ _ _ _ c.read_field.new.buf _ c.in_err-read_field-2.field-0.0
    (room ∙ c.from_be_bytes-length.ensures) c.in_ok-read_field.ensures.gave
    c.in_err-read_field-2.ensures.gave_wrong)

pub returns-clause-gave : goal.returns-clause-gave
returns-clause-gave g c =
    let n : ℕ = c.from_be_bytes-length.result in
    let room : length (take n c.args.text.now) ≡ n =
    length-take-le n c.args.text.now (omega arith) in
    let e = c.in_ok-read_field-2.ensures in
    rw (take_at c.read_field-2.new.buf (drop n c.args.text.now) n (e.room ∙ room))
    (text_gave _ _ _ c.read_field.new.buf c.read_field-2.new.buf _
    (room ∙ c.from_be_bytes-length.ensures) c.in_ok-read_field.ensures.gave e.gave)
