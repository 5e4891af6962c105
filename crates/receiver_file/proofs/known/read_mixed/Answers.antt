use Rattle.std.proofs.Common.{◌≡◌, ℕ, ◌∙◌, true, false, List, ap, sym, subst}
use Rattle.std.proofs.lemmas.Result.{err_from_is_err_and}
use Rattle.st_format.specs.Samples.{values_in}
use Rattle.media_file.specs.Fields.{Fails, field_at}
use Rattle.st_format.specs.Given.{Takes}
use Rattle.media_file.specs.Groups.{Shape, cells_by}
use Rattle.receiver_file.specs.Known.{mixed_at, shape_in}
use Rattle.receiver_file.proofs.MixedReads.{is_other, mixed_cut, mixed_gives, mixed_other}
use Rattle.receiver_file.proofs.MixedReads.{mixed_short, not_flipped}
use Rattle.receiver_file.proofs.Giving.{fault_both_so, fault_two, gave_octets, gave_two}
use Rattle.media_file.specs.declared.fault.FileFault.TheVariants.{MixedGroup}
use Rattle.media_file.specs.Fields.{GaveFault}
use Rattle.receiver_file.specs.Giving.{GaveOf}
use Rattle.receiver_file.proofs.known.read_mixed.Goals as goal
use Rattle.st_format.proofs.Gave.{fault_one}
use Rattle.media_file.specs.Faults.{file_fault_origin}

pub returns-in_err-read_field-clause-fault : goal.returns-in_err-read_field-clause-fault
returns-in_err-read_field-clause-fault g c =
    let p = err_from_is_err_and c.from_residual.result c.from_residual.ensures.1 in
    rw (p.1, p.2)
    (mixed_cut (shape_in c.args.format.now) _ c.in_err-read_field.field-0.0
    c.in_err-read_field.ensures.fault)

pub returns-in_err-read_field-2-clause-fault : goal.returns-in_err-read_field-2-clause-fault
returns-in_err-read_field-2-clause-fault g c =
    let p =
    err_from_is_err_and c.from_residual-in_err-read_field-2.result
    c.from_residual-in_err-read_field-2.ensures.1 in
    let s : Shape = shape_in c.args.format.now in
    rw (p.1, p.2)
    (mixed_short s _ _ _ c.in_err-read_field-2.field-0.0 c.in_ok-read_field.ensures.read
    (subst (λ (n : ℕ). Fails (field_at n)
    (g.S.ByteSource.to_give c.read_field.new.source) c.in_err-read_field-2.field-0.0)
    c.requires c.in_err-read_field-2.ensures.fault))

pub returns-then-not-is_mixed-clause-fault : goal.returns-then-not-is_mixed-clause-fault
returns-then-not-is_mixed-clause-fault g c =
    let s : Shape = shape_in c.args.format.now in
    let vs : List ℕ = values_in s.bits c.read_field-2.new.buf in
    let whole : Takes (field_at s.octets) (g.S.ByteSource.to_give c.read_field.new.source)
    (g.S.ByteSource.to_give c.read_field-2.new.source) c.read_field-2.new.buf =
    subst (λ (n : ℕ). Takes (field_at n) (g.S.ByteSource.to_give c.read_field.new.source)
    (g.S.ByteSource.to_give c.read_field-2.new.source) c.read_field-2.new.buf) c.requires
    c.in_ok-read_field-2.ensures.read in
    let other : is_other s c.from_be_bytes-mask.result vs ≡ true =
    not_flipped (is_other s c.from_be_bytes-mask.result vs) true _ c.is_mixed.ensures
    c.if-not-is_mixed.true in
    mixed_other s _ _ _ _ _ c.in_ok-read_field.ensures.read whole
    (ap (λ (m : ℕ). is_other s m vs) (sym c.from_be_bytes-mask.ensures) ∙ other)

pub returns-clause-read : goal.returns-clause-read
returns-clause-read g c =
    let s : Shape = shape_in c.args.format.now in
    let vs : List ℕ = values_in s.bits c.read_field-2.new.buf in
    let whole : Takes (field_at s.octets) (g.S.ByteSource.to_give c.read_field.new.source)
    (g.S.ByteSource.to_give c.read_field-2.new.source) c.read_field-2.new.buf =
    subst (λ (n : ℕ). Takes (field_at n) (g.S.ByteSource.to_give c.read_field.new.source)
    (g.S.ByteSource.to_give c.read_field-2.new.source) c.read_field-2.new.buf) c.requires
    c.in_ok-read_field-2.ensures.read in
    let one : is_other s c.from_be_bytes-mask.result vs ≡ false =
    not_flipped (is_other s c.from_be_bytes-mask.result vs) false _ c.is_mixed.ensures
    c.if-not-is_mixed.false in
    subst (λ (m : ℕ). Takes (mixed_at s) (g.S.ByteSource.to_give c.args.source.now)
    (g.S.ByteSource.to_give c.read_field-2.new.source) (cells_by m vs))
    (sym c.from_be_bytes-mask.ensures)
    (mixed_gives s _ _ _ _ _ c.in_ok-read_field.ensures.read whole
    (ap (λ (m : ℕ). is_other s m vs) (sym c.from_be_bytes-mask.ensures) ∙ one))

pub returns-in_err-read_field-clause-gave_wrong : goal.returns-in_err-read_field-clause-gave_wrong
returns-in_err-read_field-clause-gave_wrong g c =
    let p =
    err_from_is_err_and c.from_residual.result c.from_residual.ensures.1 in
    let s : Shape = shape_in c.args.format.now in
    let f = c.in_err-read_field.field-0.0 in
    rw (p.1, p.2)
    (fault_one file_fault_origin (field_at 2) (mixed_at s) _ _ _ f (λ was. mixed_cut s was f)
    c.in_err-read_field.ensures.gave_wrong)

pub returns-in_err-read_field-2-clause-gave_wrong :
    goal.returns-in_err-read_field-2-clause-gave_wrong
returns-in_err-read_field-2-clause-gave_wrong g c =
    let p =
    err_from_is_err_and c.from_residual-in_err-read_field-2.result
    c.from_residual-in_err-read_field-2.ensures.1 in
    let s : Shape = shape_in c.args.format.now in
    let f = c.in_err-read_field-2.field-0.0 in
    let m : List ℕ = c.read_field.new.buf in
    rw (p.1, p.2)
    (fault_two (field_at 2) (field_at s.octets) (mixed_at s) m _ _ _ _ f
    (λ was mid. mixed_short s was mid m f)
    (gave_octets (field_at 2) m _ _ c.in_ok-read_field.ensures.gave
    c.in_ok-read_field.ensures.bytes)
    (subst (λ (n : ℕ). GaveFault (field_at n) (g.S.ByteSource.gave c.read_field.new.source)
    (g.S.ByteSource.gave c.read_field-2.new.source)
    (g.S.ByteSource.ended c.read_field-2.new.source) f)
    c.requires c.in_err-read_field-2.ensures.gave_wrong))

pub returns-then-not-is_mixed-clause-gave_wrong : goal.returns-then-not-is_mixed-clause-gave_wrong
returns-then-not-is_mixed-clause-gave_wrong g c =
    let s : Shape = shape_in c.args.format.now in
    let m : List ℕ = c.read_field.new.buf in
    let buf : List ℕ = c.read_field-2.new.buf in
    let vs : List ℕ = values_in s.bits buf in
    let whole : GaveOf (field_at s.octets) (g.S.ByteSource.gave c.read_field.new.source)
    (g.S.ByteSource.gave c.read_field-2.new.source) buf =
    subst (λ (n : ℕ). GaveOf (field_at n) (g.S.ByteSource.gave c.read_field.new.source)
    (g.S.ByteSource.gave c.read_field-2.new.source) buf) c.requires
    (gave_octets _ buf _ _ c.in_ok-read_field-2.ensures.gave c.in_ok-read_field-2.ensures.bytes) in
    let other : is_other s c.from_be_bytes-mask.result vs ≡ true =
    not_flipped (is_other s c.from_be_bytes-mask.result vs) true _ c.is_mixed.ensures
    c.if-not-is_mixed.true in
    let named = ap (λ (k : ℕ). is_other s k vs) (sym c.from_be_bytes-mask.ensures) ∙ other in
    fault_both_so (field_at 2) (field_at s.octets) (mixed_at s) m buf _ _ _ _ MixedGroup
    (λ was mid left p q. mixed_other s was mid left m buf p q named)
    (gave_octets (field_at 2) m _ _ c.in_ok-read_field.ensures.gave
    c.in_ok-read_field.ensures.bytes) whole

pub returns-clause-gave : goal.returns-clause-gave
returns-clause-gave g c =
    let s : Shape = shape_in c.args.format.now in
    let m : List ℕ = c.read_field.new.buf in
    let buf : List ℕ = c.read_field-2.new.buf in
    let vs : List ℕ = values_in s.bits buf in
    let whole : GaveOf (field_at s.octets) (g.S.ByteSource.gave c.read_field.new.source)
    (g.S.ByteSource.gave c.read_field-2.new.source) buf =
    subst (λ (n : ℕ). GaveOf (field_at n) (g.S.ByteSource.gave c.read_field.new.source)
    (g.S.ByteSource.gave c.read_field-2.new.source) buf) c.requires
    (gave_octets _ buf _ _ c.in_ok-read_field-2.ensures.gave c.in_ok-read_field-2.ensures.bytes) in
    let one : is_other s c.from_be_bytes-mask.result vs ≡ false =
    not_flipped (is_other s c.from_be_bytes-mask.result vs) false _ c.is_mixed.ensures
    c.if-not-is_mixed.false in
    let named = ap (λ (k : ℕ). is_other s k vs) (sym c.from_be_bytes-mask.ensures) ∙ one in
    subst (λ (k : ℕ). GaveOf (mixed_at s) (g.S.ByteSource.gave c.args.source.now)
    (g.S.ByteSource.gave c.read_field-2.new.source) (cells_by k vs))
    (sym c.from_be_bytes-mask.ensures)
    (gave_two (field_at 2) (field_at s.octets) (mixed_at s) m buf _ _ _ _
    (λ was mid left p q. mixed_gives s was mid left m buf p q named)
    (gave_octets (field_at 2) m _ _ c.in_ok-read_field.ensures.gave
    c.in_ok-read_field.ensures.bytes) whole)
