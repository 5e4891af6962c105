use Rattle.std.proofs.lemmas.Result.{err_from_is_err_and}
use Rattle.media_file.proofs.Versions.{one_cut, one_fails, one_gives}
use Rattle.media_file.specs.declared.fault.FileFault.TheVariants.{BadVersion}
use Rattle.media_file.specs.declared.front.Version.TheVariants.{One}
use Rattle.media_file.specs.Fronts.{kind_at}
use Rattle.media_file.specs.PictureFile.{one_at}
use Rattle.media_file.proofs.picture_reading.read_version_one.Goals as goal
use Rattle.st_format.proofs.Gave.{fault_of, fault_one, gave_one}
use Rattle.media_file.specs.Faults.{file_fault_origin}

pub returns-in_err-read_kind-clause-fault : goal.returns-in_err-read_kind-clause-fault
returns-in_err-read_kind-clause-fault g c =
    let p = err_from_is_err_and c.from_residual.result c.from_residual.ensures.1 in
    rw (p.1, p.2)
    (one_cut c.args.name.now _ c.in_err-read_kind.field-0.0 c.in_err-read_kind.ensures.fault)

pub returns-in-One-clause-read : goal.returns-in-One-clause-read
returns-in-One-clause-read g c =
    one_gives c.args.name.now _ _ _ c.in-One.is c.in_ok-read_kind.ensures.read

pub returns-in-Two-clause-fault : goal.returns-in-Two-clause-fault
returns-in-Two-clause-fault g c =
    one_fails c.args.name.now _ _ _ c.in-Two.is c.in_ok-read_kind.ensures.read

pub returns-in_err-read_kind-clause-gave_wrong : goal.returns-in_err-read_kind-clause-gave_wrong
returns-in_err-read_kind-clause-gave_wrong g c =
    let p = err_from_is_err_and c.from_residual.result c.from_residual.ensures.1 in
    rw (p.1, p.2)
    (fault_one file_fault_origin (kind_at c.args.name.now) (one_at c.args.name.now) _ _ _
    c.in_err-read_kind.field-0.0
    (λ was. one_cut c.args.name.now was c.in_err-read_kind.field-0.0)
    c.in_err-read_kind.ensures.gave_wrong)

pub returns-in-One-clause-gave : goal.returns-in-One-clause-gave
returns-in-One-clause-gave g c =
    gave_one (kind_at c.args.name.now) (one_at c.args.name.now) _ One _ _
    (λ was left. one_gives c.args.name.now was left _ c.in-One.is)
    c.in_ok-read_kind.ensures.gave

pub returns-in-Two-clause-gave_wrong : goal.returns-in-Two-clause-gave_wrong
returns-in-Two-clause-gave_wrong g c =
    fault_of file_fault_origin (kind_at c.args.name.now) (one_at c.args.name.now) _ _ _ _ BadVersion
    (λ was left. one_fails c.args.name.now was left _ c.in-Two.is)
    c.in_ok-read_kind.ensures.gave
