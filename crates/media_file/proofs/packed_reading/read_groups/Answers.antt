use Rattle.std.proofs.Common.{◌∙◌, ap, refl}
use Rattle.st_format.specs.Position.{sample_count}
use Rattle.pgroup_pack.specs.Packing.{Agree}
use Rattle.std.proofs.Common.{◌≡◌, ℕ, List, length, drop, subst, sym, arith}
use Rattle.std.proofs.lemmas.List.{take_at}
use Rattle.std.proofs.lemmas.Result.{err_from_is_err_and}
use Rattle.st_format.specs.Fields.{fields_of}
use Rattle.st_format.specs.Pgroup.{bits_of}
use Rattle.st_format.specs.Samples.{values_in}
use Rattle.media_file.specs.Fields.{Fails, GaveFault, field_at}
use Rattle.st_format.specs.Given.{GaveValue, Takes}
use Rattle.media_file.specs.PictureFile.{raster_at}
use Rattle.media_file.proofs.PackedRaster.{groups_fail, groups_give}
use Rattle.media_file.proofs.Gave.{fault_memory}
use Rattle.media_file.proofs.GaveLoops.{fails_memory}
use Rattle.media_file.proofs.GavePictures.{groups_gave}
use Rattle.st_format.proofs.Histories.{grew_none}
use Rattle.media_file.proofs.packed_reading.read_groups.Goals as goal
use Rattle.st_format.proofs.Gave.{fault_one}
use Rattle.media_file.specs.Faults.{file_fault_origin}

pub returns-in_err-read_field-clause-fault : goal.returns-in_err-read_field-clause-fault
returns-in_err-read_field-clause-fault g c =
    let p =
    err_from_is_err_and c.from_residual-in_err-read_field.result
    c.from_residual-in_err-read_field.ensures.1 in
    let size : length c.deref_mut.result.now ≡ c.raster_octets.result =
    omega (arith, c.deref_mut.ensures.len, c.in_ok-resize.ensures.len) in
    rw (p.1, p.2)
    (groups_fail c.args.format.now _ c.raster_octets.result c.in_err-read_field.field-0.0
    c.raster_octets.ensures
    (subst (λ (n : ℕ). Fails (field_at n) (g.S.ByteSource.to_give c.args.source.now)
    c.in_err-read_field.field-0.0) size c.in_err-read_field.ensures.fault))

pub returns-clause-read : goal.returns-clause-read
returns-clause-read g c =
    let buf : List ℕ = c.read_field.new.buf in
    let rest : List ℕ = drop (length buf) c.resize.new.self.items in
    let size : length c.deref_mut.result.now ≡ c.raster_octets.result =
    omega (arith, c.deref_mut.ensures.len, c.in_ok-resize.ensures.len) in
    let long : length buf ≡ c.resize.new.self.len =
    omega (arith, size, c.in_ok-resize.ensures.len, c.read_field.ensures.room) in
    subst (λ (os : List ℕ). Takes (raster_at (fields_of c.args.format.now))
    (g.S.ByteSource.to_give c.args.source.now) (g.S.ByteSource.to_give c.read_field.new.source)
    (values_in (bits_of c.args.format.now.depth) os))
    (sym (take_at buf rest c.resize.new.self.len long))
    (groups_give c.args.format.now _ _ c.raster_octets.result buf c.raster_octets.ensures
    (subst (λ (n : ℕ). Takes (field_at n) (g.S.ByteSource.to_give c.args.source.now)
    (g.S.ByteSource.to_give c.read_field.new.source) buf) size
    c.in_ok-read_field.ensures.read))

pub returns-in_err-read_field-clause-counted : goal.returns-in_err-read_field-clause-counted
returns-in_err-read_field-clause-counted g c =
    let p =
    err_from_is_err_and c.from_residual-in_err-read_field.result
    c.from_residual-in_err-read_field.ensures.1 in
    rw (p.1, p.2) c.in_err-read_field.ensures.counted

pub returns-clause-size : goal.returns-clause-size
returns-clause-size g c =
    let buf : List ℕ = c.read_field.new.buf in
    let rest : List ℕ = drop (length buf) c.resize.new.self.items in
    let size : length c.deref_mut.result.now ≡ c.raster_octets.result =
    omega (arith, c.deref_mut.ensures.len, c.in_ok-resize.ensures.len) in
    let long : length buf ≡ c.resize.new.self.len =
    omega (arith, size, c.in_ok-resize.ensures.len, c.read_field.ensures.room) in
    subst (λ (n : ℕ). Agree c.args.format.now n (sample_count c.args.format.now))
    (sym
    (ap (λ (os : List ℕ). length os) (take_at buf rest c.resize.new.self.len long)
    ∙ c.read_field.ensures.room ∙ size))
    c.raster_octets.ensures

pub returns-clause-counted : goal.returns-clause-counted
returns-clause-counted g c = c.in_ok-read_field.ensures.counted

pub returns-in_err-read_field-clause-gave_wrong : goal.returns-in_err-read_field-clause-gave_wrong
returns-in_err-read_field-clause-gave_wrong g c =
    let p =
    err_from_is_err_and c.from_residual-in_err-read_field.result
    c.from_residual-in_err-read_field.ensures.1 in
    let f = c.in_err-read_field.field-0.0 in
    let n : ℕ = c.raster_octets.result in
    let size : length c.deref_mut.result.now ≡ n =
    omega (arith, c.deref_mut.ensures.len, c.in_ok-resize.ensures.len) in
    rw (p.1, p.2)
    (fault_one file_fault_origin (field_at n) (raster_at (fields_of c.args.format.now)) _ _ _ f
    (λ was. groups_fail c.args.format.now was n f c.raster_octets.ensures)
    (subst (λ (k : ℕ). GaveFault (field_at k) (g.S.ByteSource.gave c.args.source.now)
    (g.S.ByteSource.gave c.read_field.new.source)
    (g.S.ByteSource.ended c.read_field.new.source) f) size
    c.in_err-read_field.ensures.gave_wrong))

pub returns-clause-gave : goal.returns-clause-gave
returns-clause-gave g c =
    let buf : List ℕ = c.read_field.new.buf in
    let rest : List ℕ = drop (length buf) c.resize.new.self.items in
    let size : length c.deref_mut.result.now ≡ c.raster_octets.result =
    omega (arith, c.deref_mut.ensures.len, c.in_ok-resize.ensures.len) in
    let long : length buf ≡ c.resize.new.self.len =
    omega (arith, size, c.in_ok-resize.ensures.len, c.read_field.ensures.room) in
    subst (λ (os : List ℕ). GaveValue (raster_at (fields_of c.args.format.now))
    (g.S.ByteSource.gave c.args.source.now) (g.S.ByteSource.gave c.read_field.new.source)
    (values_in (bits_of c.args.format.now.depth) os))
    (sym (take_at buf rest c.resize.new.self.len long))
    (groups_gave c.args.format.now _ _ c.raster_octets.result buf c.raster_octets.ensures
    (subst (λ (n : ℕ). GaveValue (field_at n) (g.S.ByteSource.gave c.args.source.now)
    (g.S.ByteSource.gave c.read_field.new.source) buf) size
    c.in_ok-read_field.ensures.gave))

pub returns-clause-bytes : goal.returns-clause-bytes
returns-clause-bytes g c = c.in_ok-read_field.ensures.bytes

-- the memory was refused

pub returns-in_err-resize-clause-size : goal.returns-in_err-resize-clause-size
returns-in_err-resize-clause-size g c =
    let p =
    err_from_is_err_and c.from_residual.result
    c.from_residual.ensures.1 in
    rw p.1 tt

pub returns-in_err-resize-clause-read : goal.returns-in_err-resize-clause-read
returns-in_err-resize-clause-read g c =
    let p =
    err_from_is_err_and c.from_residual.result
    c.from_residual.ensures.1 in
    rw p.1 tt

pub returns-in_err-resize-clause-gave : goal.returns-in_err-resize-clause-gave
returns-in_err-resize-clause-gave g c =
    let p =
    err_from_is_err_and c.from_residual.result
    c.from_residual.ensures.1 in
    rw p.1 tt

pub returns-in_err-resize-clause-bytes : goal.returns-in_err-resize-clause-bytes
returns-in_err-resize-clause-bytes g c =
    let p =
    err_from_is_err_and c.from_residual.result
    c.from_residual.ensures.1 in
    rw p.1 tt

pub returns-in_err-resize-clause-fault : goal.returns-in_err-resize-clause-fault
returns-in_err-resize-clause-fault g c =
    let p =
    err_from_is_err_and c.from_residual.result
    c.from_residual.ensures.1 in
    rw (p.1, p.2) (fails_memory _ _)

pub returns-in_err-resize-clause-gave_wrong : goal.returns-in_err-resize-clause-gave_wrong
returns-in_err-resize-clause-gave_wrong g c =
    let p =
    err_from_is_err_and c.from_residual.result
    c.from_residual.ensures.1 in
    rw (p.1, p.2) (fault_memory _ _ _ _ (grew_none _))

pub returns-in_err-resize-clause-counted : goal.returns-in_err-resize-clause-counted
returns-in_err-resize-clause-counted g c =
    let p =
    err_from_is_err_and c.from_residual.result
    c.from_residual.ensures.1 in
    rw (p.1, p.2) refl

-- the source failed

pub returns-in_err-read_field-clause-size : goal.returns-in_err-read_field-clause-size
returns-in_err-read_field-clause-size g c =
    let p =
    err_from_is_err_and c.from_residual-in_err-read_field.result
    c.from_residual-in_err-read_field.ensures.1 in
    rw p.1 tt

pub returns-in_err-read_field-clause-read : goal.returns-in_err-read_field-clause-read
returns-in_err-read_field-clause-read g c =
    let p =
    err_from_is_err_and c.from_residual-in_err-read_field.result
    c.from_residual-in_err-read_field.ensures.1 in
    rw p.1 tt

pub returns-in_err-read_field-clause-gave : goal.returns-in_err-read_field-clause-gave
returns-in_err-read_field-clause-gave g c =
    let p =
    err_from_is_err_and c.from_residual-in_err-read_field.result
    c.from_residual-in_err-read_field.ensures.1 in
    rw p.1 tt

pub returns-in_err-read_field-clause-bytes : goal.returns-in_err-read_field-clause-bytes
returns-in_err-read_field-clause-bytes g c =
    let p =
    err_from_is_err_and c.from_residual-in_err-read_field.result
    c.from_residual-in_err-read_field.ensures.1 in
    rw p.1 tt
