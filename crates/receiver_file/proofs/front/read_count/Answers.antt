use Rattle.std.proofs.lemmas.Result.{err_from_is_err_and}
use Rattle.receiver_file.proofs.Fronting.{count_cut, count_gives, count_many, count_none}
use Rattle.receiver_file.proofs.Giving.{fault_of, gave_one}
use Rattle.media_file.specs.declared.fault.FileFault.TheVariants.{BadField}
use Rattle.receiver_file.specs.Front.{count_at}
use Rattle.receiver_file.specs.Numbers.{octet_at}
use Rattle.receiver_file.proofs.front.read_count.Goals.{
  then-count-eq0-via-then-count-eq0,
  then-count-eq0-via-else-count-eq0+then-count-gt16,
}
use Rattle.receiver_file.proofs.front.read_count.Goals as goal
use Rattle.st_format.proofs.Gave.{fault_one}
use Rattle.media_file.specs.Faults.{file_fault_origin}

pub returns-in_err-count-clause-fault : goal.returns-in_err-count-clause-fault
returns-in_err-count-clause-fault g c =
    let p = err_from_is_err_and c.from_residual.result c.from_residual.ensures.1 in
    rw (p.1, p.2) (count_cut _ c.in_err-count.field-0.0 c.in_err-count.ensures.fault)

pub returns-then-count-eq0-clause-fault : goal.returns-then-count-eq0-clause-fault
returns-then-count-eq0-clause-fault g c =
    elim c.then-count-eq0.branch [
      | then-count-eq0-via-then-count-eq0 w ↦ count_none _ _ _ w.if-count-eq0.true
          c.in_ok-count.ensures.read
      | then-count-eq0-via-else-count-eq0+then-count-gt16 w ↦ count_many _ _ _ w.if-count-gt16.true
          c.in_ok-count.ensures.read
    ]

pub returns-clause-read : goal.returns-clause-read
returns-clause-read g c =
    count_gives _ _ _ c.if-count-eq0.false c.if-count-gt16.false c.in_ok-count.ensures.read

pub returns-in_err-count-clause-gave_wrong : goal.returns-in_err-count-clause-gave_wrong
returns-in_err-count-clause-gave_wrong g c =
    let p =
    err_from_is_err_and c.from_residual.result c.from_residual.ensures.1 in
    let f = c.in_err-count.field-0.0 in
    rw (p.1, p.2)
    (fault_one file_fault_origin octet_at count_at _ _ _ f (λ was. count_cut was f)
    c.in_err-count.ensures.gave_wrong)

pub returns-then-count-eq0-clause-gave_wrong : goal.returns-then-count-eq0-clause-gave_wrong
returns-then-count-eq0-clause-gave_wrong g c =
    let n = c.in_ok-count.count in
    elim c.then-count-eq0.branch [
      | then-count-eq0-via-then-count-eq0 w ↦ fault_of octet_at count_at n _ _ _ BadField
          (λ was left. count_none was left n w.if-count-eq0.true) c.in_ok-count.ensures.gave
      | then-count-eq0-via-else-count-eq0+then-count-gt16 w ↦ fault_of octet_at count_at n _ _ _
          BadField (λ was left. count_many was left n w.if-count-gt16.true)
          c.in_ok-count.ensures.gave
    ]

pub returns-clause-gave : goal.returns-clause-gave
returns-clause-gave g c =
    let n = c.in_ok-count.count in
    gave_one octet_at count_at n n _ _
    (λ was left. count_gives was left n c.if-count-eq0.false c.if-count-gt16.false)
    c.in_ok-count.ensures.gave
