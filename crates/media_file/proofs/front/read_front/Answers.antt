use Rattle.std.proofs.lemmas.Result.{err_from_is_err_and}
use Rattle.media_file.proofs.Fronted.{front_gives_one, front_gives_two, front_fails_two}
use Rattle.media_file.proofs.Fronted.{front_cut}
use Rattle.media_file.specs.Fronts.{capture_name, front_at, kind_at}
use Rattle.media_file.proofs.GaveFronts.{front_gave_one, front_gave_two, front_gave_wrong}
use Rattle.media_file.proofs.front.read_front.Goals as goal
use Rattle.st_format.proofs.Gave.{fault_one}
use Rattle.media_file.specs.Faults.{file_fault_origin}

pub returns-in_err-read_kind-clause-fault : goal.returns-in_err-read_kind-clause-fault
returns-in_err-read_kind-clause-fault g c =
    let p = err_from_is_err_and c.from_residual.result c.from_residual.ensures.1 in
    rw (p.1, p.2) (front_cut _ c.in_err-read_kind.field-0.0 c.in_err-read_kind.ensures.fault)

pub returns-in-One-clause-read : goal.returns-in-One-clause-read
returns-in-One-clause-read g c = front_gives_one _ _ _ c.in-One.is c.in_ok-read_kind.ensures.read

pub returns-in-Two-clause-read : goal.returns-in-Two-clause-read
returns-in-Two-clause-read g c =
    front_gives_two _ _ _ _ c.read_text.new.text c.read_text.result c.in-Two.is
    c.in_ok-read_kind.ensures.read c.read_text.ensures.read

pub returns-in-Two-clause-fault : goal.returns-in-Two-clause-fault
returns-in-Two-clause-fault g c =
    front_fails_two _ _ _ c.read_text.result c.in-Two.is c.in_ok-read_kind.ensures.read
    c.read_text.ensures.fault

pub returns-in_err-read_kind-clause-gave_wrong : goal.returns-in_err-read_kind-clause-gave_wrong
returns-in_err-read_kind-clause-gave_wrong g c =
    let p = err_from_is_err_and c.from_residual.result c.from_residual.ensures.1 in
    let f = c.in_err-read_kind.field-0.0 in
    rw (p.1, p.2)
    (fault_one file_fault_origin (kind_at capture_name) front_at _ _ _ f (λ was. front_cut was f)
    c.in_err-read_kind.ensures.gave_wrong)

pub returns-in-One-clause-gave : goal.returns-in-One-clause-gave
returns-in-One-clause-gave g c = front_gave_one _ _ _ c.in-One.is c.in_ok-read_kind.ensures.gave

pub returns-in-Two-clause-gave : goal.returns-in-Two-clause-gave
returns-in-Two-clause-gave g c =
    front_gave_two _ _ _ _ c.read_text.new.text c.read_text.result c.in-Two.is
    c.in_ok-read_kind.ensures.gave c.read_text.ensures.gave

pub returns-in-Two-clause-gave_wrong : goal.returns-in-Two-clause-gave_wrong
returns-in-Two-clause-gave_wrong g c =
    front_gave_wrong _ _ _ _ _ c.read_text.result c.in-Two.is c.in_ok-read_kind.ensures.gave
    c.read_text.ensures.gave_wrong
