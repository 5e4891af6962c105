use Rattle.std.proofs.lemmas.Result.{err_from_is_err_and}
use Rattle.media_file.proofs.Gave.{on_any}
use Rattle.media_file.proofs.Blocked.{block_cut, block_fails, block_gives}
use Rattle.media_file.specs.Blocks.{block_at}
use Rattle.media_file.specs.Fields.{field_at}
use Rattle.media_file.proofs.GaveFronts.{block_gave, block_gave_wrong}
use Rattle.media_file.proofs.block.read_format.Goals as goal
use Rattle.st_format.proofs.Gave.{fault_one}
use Rattle.media_file.specs.Faults.{file_fault_origin}

pub returns-in_err-read_field-clause-fault : goal.returns-in_err-read_field-clause-fault
returns-in_err-read_field-clause-fault g c =
    let p = err_from_is_err_and c.from_residual.result c.from_residual.ensures.1 in
    rw (p.1, p.2) (block_cut _ c.in_err-read_field.field-0.0 c.in_err-read_field.ensures.fault)

pub returns-clause-read : goal.returns-clause-read
returns-clause-read g c =
    block_gives _ _ c.read_field.new.buf c.format_in.result c.in_ok-read_field.ensures.read
    c.format_in.ensures.exact

pub returns-clause-fault : goal.returns-clause-fault
returns-clause-fault g c =
    block_fails _ _ c.read_field.new.buf c.format_in.result c.in_ok-read_field.ensures.read
    c.format_in.ensures.exact

pub returns-in_err-read_field-clause-gave_wrong : goal.returns-in_err-read_field-clause-gave_wrong
returns-in_err-read_field-clause-gave_wrong g c =
    let p = err_from_is_err_and c.from_residual.result c.from_residual.ensures.1 in
    let f = c.in_err-read_field.field-0.0 in
    rw (p.1, p.2)
    (fault_one file_fault_origin (field_at 14) block_at _ _ _ f (λ was. block_cut was f)
    c.in_err-read_field.ensures.gave_wrong)

pub returns-clause-gave : goal.returns-clause-gave
returns-clause-gave g c =
    block_gave _ _ c.read_field.new.buf c.format_in.result c.in_ok-read_field.ensures.gave
    c.format_in.ensures.exact

pub returns-clause-gave_wrong : goal.returns-clause-gave_wrong
returns-clause-gave_wrong g c =
    block_gave_wrong _ _ _ c.read_field.new.buf c.format_in.result
    c.in_ok-read_field.ensures.gave c.format_in.ensures.exact

pub returns-clause-bytes : goal.returns-clause-bytes
returns-clause-bytes g c = on_any c.format_in.result c.in_ok-read_field.ensures.bytes
