use Rattle.std.proofs.Common.{◌≡◌, ℕ, subst, arith}
use Rattle.std.proofs.lemmas.Result.{err_from_is_err_and}
use Rattle.media_file.specs.Fields.{Fails, field_at}
use Rattle.st_format.specs.Given.{Takes}
use Rattle.receiver_file.specs.Known.{shape_in}
use Rattle.receiver_file.proofs.KnownReads.{gone_gives, group_cut, mixed_fault, mixed_then}
use Rattle.receiver_file.proofs.KnownReads.{state_bad, whole_gives, whole_short}
use Rattle.receiver_file.proofs.Giving.{fault_next, fault_of, fault_two, gave_next, gave_octets}
use Rattle.receiver_file.proofs.Giving.{gave_one}
use Rattle.receiver_file.proofs.Giving.{gave_two}
use Rattle.media_file.specs.declared.fault.FileFault.TheVariants.{BadField}
use Rattle.media_file.specs.Fields.{GaveFault}
use Rattle.receiver_file.specs.Giving.{GaveOf}
use Rattle.receiver_file.specs.Known.{cells_known, mixed_at}
use Rattle.receiver_file.specs.Numbers.{octet_at}
use Rattle.media_file.specs.Groups.{group_at}
use Rattle.receiver_file.proofs.known.read_known.Goals as goal
use Rattle.st_format.proofs.Gave.{fault_one}
use Rattle.media_file.specs.Faults.{file_fault_origin}

pub returns-in_err-read_octet-clause-fault : goal.returns-in_err-read_octet-clause-fault
returns-in_err-read_octet-clause-fault g c =
    let p = err_from_is_err_and c.from_residual.result c.from_residual.ensures.1 in
    rw (p.1, p.2)
    (group_cut (shape_in c.args.format.now) _ c.in_err-read_octet.field-0.0
    c.in_err-read_octet.ensures.fault)

pub returns-in_err-read_field-in-1-clause-fault : goal.returns-in_err-read_field-in-1-clause-fault
returns-in_err-read_field-in-1-clause-fault g c =
    let p =
    err_from_is_err_and c.from_residual-in_err-read_field-in-1.result
    c.from_residual-in_err-read_field-in-1.ensures.1 in
    rw (p.1, p.2)
    (whole_short (shape_in c.args.format.now) _ _ _ c.in_err-read_field-in-1.field-0.0
    c.in-1.is c.in_ok-read_octet.ensures.read
    (subst (λ (n : ℕ). Fails (field_at n)
    (g.S.ByteSource.to_give c.read_octet.new.source) c.in_err-read_field-in-1.field-0.0)
    c.requires c.in_err-read_field-in-1.ensures.fault))

pub returns-in-0-clause-read : goal.returns-in-0-clause-read
returns-in-0-clause-read g c =
    gone_gives (shape_in c.args.format.now) _ _ _ c.in-0.is c.in_ok-read_octet.ensures.read

pub returns-in_ok-read_field-in-1-clause-read : goal.returns-in_ok-read_field-in-1-clause-read
returns-in_ok-read_field-in-1-clause-read g c =
    whole_gives (shape_in c.args.format.now) _ _ _ _ _ c.in-1.is c.in_ok-read_octet.ensures.read
    (subst (λ (n : ℕ). Takes (field_at n) (g.S.ByteSource.to_give c.read_octet.new.source)
    (g.S.ByteSource.to_give c.read_field.new.source) c.read_field.new.buf) c.requires
    c.in_ok-read_field-in-1.ensures.read)

pub returns-in-2-clause-read : goal.returns-in-2-clause-read
returns-in-2-clause-read g c =
    mixed_then (shape_in c.args.format.now) _ _ _ _ _ c.read_mixed.result c.in-2.is
    c.in_ok-read_octet.ensures.read c.read_mixed.ensures.read

pub returns-in-2-clause-fault : goal.returns-in-2-clause-fault
returns-in-2-clause-fault g c =
    mixed_fault (shape_in c.args.format.now) _ _ _ c.read_mixed.result c.in-2.is
    c.in_ok-read_octet.ensures.read c.read_mixed.ensures.fault

pub returns-in_default-clause-fault : goal.returns-in_default-clause-fault
returns-in_default-clause-fault g c =
    let n : ℕ = c.in_ok-read_octet.field-0 in
    state_bad (shape_in c.args.format.now) _ _ n (λ (e : n ≡ 0). omega (arith, e))
    (λ (e : n ≡ 1). omega (arith, e))
    (λ (e : n ≡ 2). omega (arith, e)) c.in_ok-read_octet.ensures.read

pub returns-in_err-read_octet-clause-gave_wrong : goal.returns-in_err-read_octet-clause-gave_wrong
returns-in_err-read_octet-clause-gave_wrong g c =
    let p =
    err_from_is_err_and c.from_residual.result c.from_residual.ensures.1 in
    let s = shape_in c.args.format.now in
    let f = c.in_err-read_octet.field-0.0 in
    rw (p.1, p.2)
    (fault_one file_fault_origin octet_at (group_at s) _ _ _ f (λ was. group_cut s was f)
    c.in_err-read_octet.ensures.gave_wrong)

pub returns-in_err-read_field-in-1-clause-gave_wrong :
    goal.returns-in_err-read_field-in-1-clause-gave_wrong
returns-in_err-read_field-in-1-clause-gave_wrong g c =
    let p =
    err_from_is_err_and c.from_residual-in_err-read_field-in-1.result
    c.from_residual-in_err-read_field-in-1.ensures.1 in
    let s = shape_in c.args.format.now in
    let f = c.in_err-read_field-in-1.field-0.0 in
    let n = c.in_ok-read_octet.field-0 in
    rw (p.1, p.2)
    (fault_two octet_at (field_at s.octets) (group_at s) n _ _ _ _ f
    (λ was mid. whole_short s was mid n f c.in-1.is) c.in_ok-read_octet.ensures.gave
    (subst (λ (k : ℕ). GaveFault (field_at k) (g.S.ByteSource.gave c.read_octet.new.source)
    (g.S.ByteSource.gave c.read_field.new.source)
    (g.S.ByteSource.ended c.read_field.new.source) f)
    c.requires c.in_err-read_field-in-1.ensures.gave_wrong))

pub returns-in-0-clause-gave : goal.returns-in-0-clause-gave
returns-in-0-clause-gave g c =
    let s = shape_in c.args.format.now in
    let n = c.in_ok-read_octet.field-0 in
    gave_one octet_at (group_at s) n _ _ _ (λ was left. gone_gives s was left n c.in-0.is)
    c.in_ok-read_octet.ensures.gave

pub returns-in_ok-read_field-in-1-clause-gave : goal.returns-in_ok-read_field-in-1-clause-gave
returns-in_ok-read_field-in-1-clause-gave g c =
    let s = shape_in c.args.format.now in
    let n = c.in_ok-read_octet.field-0 in
    let buf = c.read_field.new.buf in
    gave_two octet_at (field_at s.octets) (group_at s) n buf _ _ _ _
    (λ was mid left. whole_gives s was mid left n buf c.in-1.is) c.in_ok-read_octet.ensures.gave
    (subst (λ (k : ℕ). GaveOf (field_at k) (g.S.ByteSource.gave c.read_octet.new.source)
    (g.S.ByteSource.gave c.read_field.new.source) buf) c.requires
    (gave_octets _ buf _ _ c.in_ok-read_field-in-1.ensures.gave
    c.in_ok-read_field-in-1.ensures.bytes))

pub returns-in-2-clause-gave : goal.returns-in-2-clause-gave
returns-in-2-clause-gave g c =
    let s = shape_in c.args.format.now in
    let n = c.in_ok-read_octet.field-0 in
    let octets = c.read_mixed.new.octets in
    gave_next octet_at (mixed_at s) (group_at s) n (λ state. cells_known s state octets)
    c.read_mixed.result _ _ _
    (λ was mid left. mixed_then s was mid left n octets c.read_mixed.result c.in-2.is)
    c.in_ok-read_octet.ensures.gave c.read_mixed.ensures.gave

pub returns-in-2-clause-gave_wrong : goal.returns-in-2-clause-gave_wrong
returns-in-2-clause-gave_wrong g c =
    let s = shape_in c.args.format.now in
    let n = c.in_ok-read_octet.field-0 in
    fault_next octet_at (mixed_at s) (group_at s) n c.read_mixed.result _ _ _
    (g.S.ByteSource.ended c.read_mixed.new.source)
    (λ was mid. mixed_fault s was mid n c.read_mixed.result c.in-2.is)
    c.in_ok-read_octet.ensures.gave c.read_mixed.ensures.gave_wrong

pub returns-in_default-clause-gave_wrong : goal.returns-in_default-clause-gave_wrong
returns-in_default-clause-gave_wrong g c =
    let s = shape_in c.args.format.now in
    let n : ℕ = c.in_ok-read_octet.field-0 in
    fault_of octet_at (group_at s) n _ _ _ BadField
    (λ was left. state_bad s was left n (λ (e : n ≡ 0). omega (arith, e))
    (λ (e : n ≡ 1). omega (arith, e))
    (λ (e : n ≡ 2). omega (arith, e))) c.in_ok-read_octet.ensures.gave
