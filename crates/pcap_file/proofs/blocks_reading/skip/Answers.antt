use Rattle.std.proofs.Common.{◌≤◌, ◌+◌, refl, ◌≡◌, ℕ, length, take, ◌∙◌, arith}
use Rattle.std.proofs.lemmas.List.{length-take, length-take-le}
use Rattle.std.proofs.lemmas.Result.{err_from_is_err_and}
use Rattle.pcap_file.proofs.FieldReads.{skip_cut, skip_more, skip_none}
use Rattle.pcap_file.proofs.FieldReads.{field_as}
use Rattle.pcap_file.specs.Fields.{field_at, recording_fault_origin}
use Rattle.pcap_file.specs.NgReading.{skip_at}
use Rattle.pcap_file.proofs.blocks_reading.skip.Goals as goal
use Rattle.st_format.proofs.Gave.{fault_two, gave_none, gave_two}

pub loop-done-init : goal.loop-done-init
loop-done-init g c = (
  omega arith,
  skip_none _,
  gave_none (skip_at 0) tt _ _ (λ known. skip_none known) refl,
  refl,
  refl,
)

pub returns-in_err-read_field-clause-fault : goal.returns-in_err-read_field-clause-fault
returns-in_err-read_field-clause-fault g c =
    let p = err_from_is_err_and c.from_residual.result c.from_residual.ensures.1 in
    let l = c.loop-done in
    let n : ℕ = length (take c.min-piece.result l.buf) in
    rw (p.1, p.2)
    (skip_cut l.done n c.args.count _ _ c.in_err-read_field.field-0.0
    (omega (
      arith,
      c.min-piece.ensures,
      length-take c.min-piece.result l.buf,
      c.loop-done-test.true,
    ))
    l.invariant.1 c.in_err-read_field.ensures.fault)

pub returns-in_err-read_field-clause-gave_wrong : goal.returns-in_err-read_field-clause-gave_wrong
returns-in_err-read_field-clause-gave_wrong g c =
    let p = err_from_is_err_and c.from_residual.result c.from_residual.ensures.1 in
    let l = c.loop-done in
    let n : ℕ = length (take c.min-piece.result l.buf) in
    let fits : l.done + n ≤ c.args.count =
    omega (
      arith,
      c.min-piece.ensures,
      length-take c.min-piece.result l.buf,
      c.loop-done-test.true,
    ) in
    rw (p.1, p.2)
    (fault_two recording_fault_origin (skip_at l.done) (field_at n) (skip_at c.args.count) tt _ _ _
    _
    c.in_err-read_field.field-0.0
    (λ was mid q r. skip_cut l.done n c.args.count was mid c.in_err-read_field.field-0.0 fits q r)
    l.invariant.2 c.in_err-read_field.ensures.gave_wrong)

pub loop-done-preserved : goal.loop-done-preserved
loop-done-preserved g c =
    let l = c.loop-done in
    let k : ℕ = c.min-piece.result in
    let count : length (take k l.buf) ≡ k =
    length-take-le k l.buf (omega (arith, c.min-piece.ensures)) in (
      omega (arith, c.min-piece.ensures, c.loop-done-test.true),
      skip_more l.done k _ _ _ c.read_field.new.buf l.invariant.1
          (field_as (length (take k l.buf)) k _ _ c.read_field.new.buf count
          c.in_ok-read_field.ensures.read),
      gave_two (skip_at l.done) (field_at (length (take k l.buf))) (skip_at (l.done + k)) tt
          c.read_field.new.buf tt _ _ _
          (λ was mid left p q. skip_more l.done k was mid left c.read_field.new.buf p
          (field_as (length (take k l.buf)) k mid left c.read_field.new.buf count q))
          l.invariant.2 c.in_ok-read_field.ensures.gave,
      c.in_ok-read_field.ensures.counted ∙ l.invariant.3,
      c.in_ok-read_field.ensures.names ∙ l.invariant.4,
    )
