use Rattle.std.proofs.Common.{◌<◌, length, take, arith}
use Rattle.std.proofs.lemmas.List.{length-take}
use Rattle.std.proofs.lemmas.Result.{err_from_is_err_and}
use Rattle.media_file.proofs.Gave.{cut_field, gave_field}
use Rattle.media_file.proofs.GaveParts.{field_gave_part}
use Rattle.media_file.proofs.Parsing.{part_field}
use Rattle.media_file.proofs.front.read_field.Goals as goal
use Rattle.st_format.proofs.Gave.{grew_all}
use Rattle.st_format.proofs.Parsing.{fails_field, gives_field, gave_all}
use Rattle.media_file.specs.Faults.{file_fault_origin}
use Rattle.media_file.specs.declared.fault.FileFault.TheVariants.{Truncated}

pub returns-then-branch-buf-clause-fault : goal.returns-then-branch-buf-clause-fault
returns-then-branch-buf-clause-fault g c =
    let n = c.in_ok-read_whole.field-0 in
    let e = c.in_ok-read_whole.ensures in
    let lt : n < length c.args.buf.now = omega (arith, e.room) in
    fails_field file_fault_origin Truncated _ _ _ (take n c.read_whole.new.buf)
    (omega (arith, length-take n c.read_whole.new.buf)) e.given
    (e.short (omega (arith, e.room)))

pub returns-clause-read : goal.returns-clause-read
returns-clause-read g c =
    let e = c.in_ok-read_whole.ensures in
    gives_field Truncated _ _ _ c.read_whole.new.buf e.room
    (gave_all _ _ _ _ e.given (omega (arith, e.room)))

pub returns-in_err-read_whole-clause-part : goal.returns-in_err-read_whole-clause-part
returns-in_err-read_whole-clause-part g c =
    let p = err_from_is_err_and c.from_residual.result c.from_residual.ensures.1 in
    let e = c.in_err-read_whole.ensures.fault in
    let lt : e.count < length c.args.buf.now =
    omega (arith, e.short, c.read_whole.ensures.room) in
    rw (p.1)
    (part_field _ _ _ (take e.count c.read_whole.new.buf)
    (omega (arith, length-take e.count c.read_whole.new.buf)) e.given)

pub returns-then-branch-buf-clause-part : goal.returns-then-branch-buf-clause-part
returns-then-branch-buf-clause-part g c =
    let n = c.in_ok-read_whole.field-0 in
    let e = c.in_ok-read_whole.ensures in
    let lt : n < length c.args.buf.now = omega (arith, e.room) in
    part_field _ _ _ (take n c.read_whole.new.buf)
    (omega (arith, length-take n c.read_whole.new.buf)) e.given

pub returns-then-branch-buf-clause-gave_wrong : goal.returns-then-branch-buf-clause-gave_wrong
returns-then-branch-buf-clause-gave_wrong g c =
    let n = c.in_ok-read_whole.field-0 in
    let e = c.in_ok-read_whole.ensures in
    let lt : n < length c.args.buf.now = omega (arith, e.room) in
    cut_field _ _ _ (take n c.read_whole.new.buf) _
    (omega (arith, length-take n c.read_whole.new.buf)) e.gave
    (e.ended (omega (arith, e.room)))

pub returns-clause-gave : goal.returns-clause-gave
returns-clause-gave g c =
    let n = c.in_ok-read_whole.field-0 in
    let e = c.in_ok-read_whole.ensures in
    gave_field _ _ _ c.read_whole.new.buf e.room
    (grew_all _ _ n c.read_whole.new.buf e.gave (omega (arith, e.room)))

pub returns-clause-bytes : goal.returns-clause-bytes
returns-clause-bytes g c =
    let n = c.in_ok-read_whole.field-0 in
    let e = c.in_ok-read_whole.ensures in
    record {
      part = c.read_whole.new.buf;
      grown = grew_all _ _ n c.read_whole.new.buf e.gave (omega (arith, e.room));
      small = λ i. omega (arith, c.type_inv.buf i);
    }

pub returns-in_err-read_whole-clause-gave_part : goal.returns-in_err-read_whole-clause-gave_part
returns-in_err-read_whole-clause-gave_part g c =
    let p = err_from_is_err_and c.from_residual.result c.from_residual.ensures.1 in
    let e = c.in_err-read_whole.ensures.part in
    let lt : e.count < length c.args.buf.now =
    omega (arith, e.short, c.read_whole.ensures.room) in
    rw (p.1)
    (field_gave_part _ _ _ (take e.count c.read_whole.new.buf)
    (omega (arith, length-take e.count c.read_whole.new.buf)) e.grown)

pub returns-then-branch-buf-clause-gave_part : goal.returns-then-branch-buf-clause-gave_part
returns-then-branch-buf-clause-gave_part g c =
    let n = c.in_ok-read_whole.field-0 in
    let e = c.in_ok-read_whole.ensures in
    let lt : n < length c.args.buf.now = omega (arith, e.room) in
    field_gave_part _ _ _ (take n c.read_whole.new.buf)
    (omega (arith, length-take n c.read_whole.new.buf)) e.gave
