-- What is made sample by sample is the job's picture.
use Rattle.std.proofs.Common.{◌≡◌, ℕ, ◌+◌, ◌*◌, ◌<◌, ◌≤◌, List, get_or, length, map, take, drop}
use Rattle.std.proofs.Common.{arith, refl, sym, ap, subst, ◌∙◌}
use Rattle.std.proofs.lemmas.Nat.{mul-le}
use Rattle.std.proofs.Math.Nat.{mul_comm}
use Rattle.std.specs.List.{range_with_len}
use Rattle.std.proofs.lemmas.List.FromFn.{get_or-map-range_with_len, length-map-range_with_len}
use Rattle.st_format.specs.declared.format.Format.{Format}
use Rattle.st_format.specs.declared.sampling.Sampling.TheVariants.{Rgb, Ycc444}
use Rattle.st_format.specs.Picture.{IsPicture, Values}
use Rattle.st_format.specs.Pgroup.{bits_of, pixel_group}
use Rattle.st_format.specs.Position.{group_count, row_groups, sample_count}
use Rattle.st_format.specs.declared.sampling.Depth.{Depth}
use Rattle.st_format.specs.declared.sampling.Depth.TheVariants.{D8, D10, D12, D16}
use Rattle.st_format.specs.Samples.{octets_in}
use Rattle.packet_plan.specs.Plan.{group_octets}
use Rattle.packet_plan.specs.Text.{HasHead, run_octets}
use Rattle.packet_plan.specs.declared.run.PacketRun.{PacketRun}
use Rattle.packet_plan.proofs.RunLemmas.{count_is, length-run, run_slice}
use Rattle.bt709_fixed.specs.Operations.{IsOf, IsResampled, ycc444_value}
use Rattle.bt709_fixed.proofs.Numbers.{count_same, matrixed_picture}
use Rattle.key_mix.specs.Jobs.{key_value}
use Rattle.key_mix.specs.Made.{keyed_number, made_number, made_picture, matrixed_number, settled}
use Rattle.key_mix.specs.Rows.{keyed_at}
use Rattle.key_mix.specs.declared.making.Making.{Making}
use Rattle.key_mix.specs.declared.making.Making.TheVariants.{Keyed, Matrixed}
use Rattle.key_mix.specs.declared.sending.JobInput.{JobInput}
use Rattle.key_mix.specs.declared.source.Source.{Source}
use Rattle.key_mix.proofs.MadeParts.{made_here}
use Rattle.key_mix.proofs.Pictures.{keyed_picture}

-- what is made of a source's input is what is made of the input
keyed_sources : {A : Type 0} (x y z : Source A) (f : Format) → f ≡ x.input.frame.now.format
    → f ≡ y.input.frame.now.format → f ≡ z.input.frame.now.format → IsPicture (settled x.input)
    → IsPicture (settled y.input)
    → IsPicture (made_picture f (Keyed x y z))
    × IsOf x.input.frame.now.format
    (key_value (settled x.input) (settled y.input) (settled z.input))
    (made_picture f (Keyed x y z))
keyed_sources {A} x y z f of_a of_b of_by pa pb =
    let a : JobInput A = x.input in
    let b : JobInput A = y.input in
    let by : JobInput A = z.input in
    let new : List ℕ = map (keyed_number a b by) (range_with_len 0 (sample_count f)) in
    let long : length new ≡ sample_count f =
    length-map-range_with_len (keyed_number a b by) 0 (sample_count f) in
    let same : a.frame.now.format ≡ by.frame.now.format = sym of_a ∙ of_by in
    let is =
    keyed_picture (settled a) (settled b) (settled by) new (sym of_a ∙ of_b) pa pb
    (long ∙ ap sample_count of_a)
    (λ i h. get_or-map-range_with_len (keyed_number a b by) 0 (sample_count f) i i 0
    (omega (arith, h, long)) (omega arith)
    ∙ (λ j. keyed_at a.frame.now.format (same j) (settled a).samples (settled b).samples
    (settled by).samples i)) in
    subst
    (λ h. IsPicture (record { format = h; samples = new })
    × IsOf a.frame.now.format (key_value (settled a) (settled b) (settled by))
    (record { format = h; samples = new })) (sym of_a) is

pub keyed_made : {A : Type 0} (x y z : Source A) (a b by : JobInput A) (f : Format)
    → x.input ≡ a → y.input ≡ b → z.input ≡ by → f ≡ a.frame.now.format
    → f ≡ b.frame.now.format → f ≡ by.frame.now.format → IsPicture (settled a)
    → IsPicture (settled b)
    → IsPicture (made_picture f (Keyed x y z))
    × IsOf a.frame.now.format (key_value (settled a) (settled b) (settled by))
    (made_picture f (Keyed x y z))
keyed_made {A} x y z a b by f is_a is_b is_by =
    let m : Values = made_picture f (Keyed x y z) in
    let Made : JobInput A → JobInput A → JobInput A → Type 0 = λ p q r. f ≡ p.frame.now.format
    → f ≡ q.frame.now.format → f ≡ r.frame.now.format → IsPicture (settled p)
    → IsPicture (settled q)
    → IsPicture m
    × IsOf p.frame.now.format (key_value (settled p) (settled q) (settled r)) m in
    subst (λ (p : JobInput A). Made p b by) is_a
    (subst (λ (q : JobInput A). Made x.input q by) is_b
    (subst (λ (r : JobInput A). Made x.input y.input r) is_by (keyed_sources x y z f)))

matrixed_source : {A : Type 0} (x : Source A) (f : Format)
    → x.input.frame.now.format.sampling ≡ Rgb
    → IsResampled f x.input.frame.now.format Ycc444 → IsPicture (settled x.input)
    → IsPicture (made_picture f (Matrixed x))
    × IsOf f (ycc444_value (settled x.input)) (made_picture f (Matrixed x))
matrixed_source {A} x f is_rgb resampled picture =
    let rgb : JobInput A = x.input in
    let new : List ℕ = map (matrixed_number rgb) (range_with_len 0 (sample_count f)) in
    let long : length new ≡ sample_count f =
    length-map-range_with_len (matrixed_number rgb) 0 (sample_count f) in
    matrixed_picture (settled rgb) f new is_rgb resampled picture
    (long ∙ sym (picture.whole ∙ sym (count_same rgb.frame.now.format f is_rgb resampled)))
    (λ k h. get_or-map-range_with_len (matrixed_number rgb) 0 (sample_count f) k k 0
    (omega (arith, h, long)) (omega arith))

pub matrixed_made : {A : Type 0} (x : Source A) (rgb : JobInput A) (f : Format) → x.input ≡ rgb
    → rgb.frame.now.format.sampling ≡ Rgb
    → IsResampled f rgb.frame.now.format Ycc444 → IsPicture (settled rgb)
    → IsPicture (made_picture f (Matrixed x))
    × IsOf f (ycc444_value (settled rgb)) (made_picture f (Matrixed x))
matrixed_made {A} x rgb f is =
    subst (λ (p : JobInput A). p.frame.now.format.sampling ≡ Rgb
    → IsResampled f p.frame.now.format Ycc444 → IsPicture (settled p)
    → IsPicture (made_picture f (Matrixed x))
    × IsOf f (ycc444_value (settled p)) (made_picture f (Matrixed x))) is (matrixed_source x f)

-- ---- parts

-- what is made of the inputs' groups is the part of the picture that they are
made_part : {A : Type 0} (m : Making A) (f : Format) (s first count : ℕ) (out : List ℕ)
    → s ≡ (pixel_group f.sampling f.depth).samples
    → first + count ≤ group_count f
    → length out ≡ (pixel_group f.sampling f.depth).samples * count
    → ((k : ℕ) → k < length out → get_or out k 0 ≡ made_number m (s * first + k))
    → out ≡ take ((pixel_group f.sampling f.depth).samples * count)
    (drop ((pixel_group f.sampling f.depth).samples * first) (made_picture f m).samples)
made_part m f s first count out same le long each =
    let z : ℕ = (pixel_group f.sampling f.depth).samples in
    let all : z * (first + count) ≤ z * group_count f =
    mul-le z (first + count) z (group_count f) (omega arith) le in
    let both : z * (first + count) ≡ z * first + z * count = omega arith in
    let whole : z * group_count f ≡ sample_count f =
    mul_comm z (group_count f) ∙ count_is f in
    made_here (made_number m) (sample_count f) (z * first) (z * count) out long
    (omega (arith, all, both, whole))
    (λ k lt. each k lt ∙ ap (λ (x : ℕ). made_number m (x * first + k)) same)

-- the same where the picture is seen as its values, and what it is made of was told apart
pub made_as : {A : Type 0} {m q : Making A} {p : Values} {s : ℕ} {out : List ℕ} (f : Format)
    (first count : ℕ) (old : List ℕ) → made_picture f q ≡ p → q ≡ m
    → s ≡ (pixel_group f.sampling f.depth).samples
    → first + count ≤ group_count p.format
    → length old ≡ (pixel_group p.format.sampling p.format.depth).samples * count
    → length out ≡ length old
    → ((k : ℕ) → k < length out → get_or out k 0 ≡ made_number m (s * first + k))
    → out ≡ take ((pixel_group p.format.sampling p.format.depth).samples * count)
    (drop ((pixel_group p.format.sampling p.format.depth).samples * first) p.samples)
made_as {A} {m} {q} {p} {s} {out} f first count old view is same le room long each =
    subst (λ (v : Values). first + count ≤ group_count v.format
    → length old ≡ (pixel_group v.format.sampling v.format.depth).samples * count
    → out ≡ take ((pixel_group v.format.sampling v.format.depth).samples * count)
    (drop ((pixel_group v.format.sampling v.format.depth).samples * first) v.samples)) view
    (λ inside has_room. made_part q f s first count out same inside (long ∙ has_room)
    (λ k lt. each k lt ∙ ap (λ (x : Making A). made_number x (s * first + k)) (sym is))) le room

by_depth : (d : Depth) → (pixel_group Rgb d).samples ≡ (pixel_group Ycc444 d).samples
by_depth D8 = refl
by_depth D10 = refl
by_depth D12 = refl
by_depth D16 = refl

-- 4:4:4 and R, G and B have pgroups of one size
pub same_size : (f g : Format) → f.sampling ≡ Ycc444 → g.sampling ≡ Rgb → f.depth ≡ g.depth
    → (pixel_group g.sampling g.depth).samples ≡ (pixel_group f.sampling f.depth).samples
same_size f g of_f of_g depth =
    (λ j. (pixel_group (of_g j) (sym depth j)).samples)
    ∙ by_depth f.depth ∙ (λ j. (pixel_group (sym of_f j) f.depth).samples)

-- ---- runs

-- the octets of a run, in the code's numbers
pub run_size : (p : Values) (r : PacketRun) (f : Format) (z : ℕ) → f ≡ p.format
    → z ≡ (pixel_group f.sampling f.depth).octets
    → z * r.groups ≡ length (run_octets p r)
unfolding group_octets
run_size p r f z same is =
    mul_comm z r.groups
    ∙ ap (λ (k : ℕ). r.groups * k)
    (is ∙ ap (λ (h : Format). (pixel_group h.sampling h.depth).octets) same)
    ∙ sym (length-run p r)

pub run_part : (p : Values) (r : PacketRun) (w : ℕ) → IsPicture p → HasHead p.format r
    → w ≡ row_groups p.format
    → octets_in (bits_of p.format.depth)
    (take ((pixel_group p.format.sampling p.format.depth).samples * r.groups)
    (drop ((pixel_group p.format.sampling p.format.depth).samples * (r.row * w + r.first))
    p.samples))
    ≡ run_octets p r
run_part p r w is head of_row =
    let s : ℕ = (pixel_group p.format.sampling p.format.depth).samples in
    ap (octets_in (bits_of p.format.depth))
    ((λ j. take (mul_comm s r.groups j)
    (drop (mul_comm s (r.row * of_row j + r.first) j) p.samples))
    ∙ sym (run_slice p r is.whole head.run head.row))
