-- All samples of a raster as octets, and a picture's file in parts.
use Rattle.std.proofs.Common.{◌≡◌, ℕ, ◌*◌, ◌/◌, ◌%◌, ◌<◌, List, [], ◌∷◌, length, Option, None, Some}
use Rattle.std.proofs.Common.{Result, Ok, refl, sym, ap, ◌∙◌, subst, arith}
use Rattle.std.specs.Prelude.{⊤}
use Rattle.std.specs.Io.KnownBytes.{Appends, Consumes, IsAtEnd}
use Rattle.std.proofs.KnownBytes.{Appends-trans}
use Rattle.std.proofs.Math.Nat.{mul_assoc, mul_comm}
use Rattle.st_format.specs.declared.format.Format.{Format}
use Rattle.st_format.specs.declared.sampling.Sampling.{Sampling}
use Rattle.st_format.specs.declared.sampling.Sampling.TheVariants.{Ycc422, Ycc444, Rgb}
use Rattle.st_format.specs.declared.sampling.Depth.{Depth}
use Rattle.st_format.specs.declared.sampling.Depth.TheVariants.{D8, D10, D12, D16}
use Rattle.st_format.specs.Device.{AppendsPrefix}
use Rattle.st_format.specs.Fields.{Fields, fields_of}
use Rattle.st_format.specs.Limits.{IsWidth}
use Rattle.st_format.specs.Pgroup.{bits_of, pixel_group}
use Rattle.st_format.specs.Picture.{IsPicture, Values}
use Rattle.st_format.specs.Position.{row_samples, run_columns, run_samples, sample_count}
use Rattle.st_format.specs.Samples.{octets_in, values_in}
use Rattle.st_format.proofs.Spelled.{values_in-spelled}
use Rattle.pgroup_pack.proofs.Values.{bits_of_pos}
use Rattle.media_file.specs.declared.fault.FileFault.{FileFault}
use Rattle.media_file.specs.declared.fault.FileFault.TheVariants.{TrailingBytes, Truncated}
use Rattle.media_file.specs.declared.front.Version.{Version}
use Rattle.media_file.specs.declared.front.Version.TheVariants.{One}
use Rattle.media_file.specs.Blocks.{block_at}
use Rattle.media_file.specs.Fields.{Fails, field_at, nothing_at}
use Rattle.st_format.specs.Given.{Takes, with_rest}
use Rattle.media_file.specs.Fronts.{picture_name}
use Rattle.media_file.specs.PictureFile.{GivesSpelled, Shown, picture_head, one_at}
use Rattle.media_file.specs.PictureFile.{picture_walk, picture_text, raster_at, raster_octets}
use Rattle.media_file.specs.PictureFile.{shown_by}
use Rattle.media_file.proofs.Spelt.{spelled_size}
use Rattle.media_file.proofs.Written.{prefix_first, prefix_then}
use Rattle.st_format.proofs.Parsing.{fails_first, fails_then, gives_field, gives_pure, gives_then}
use Rattle.st_format.proofs.Parsing.{then_reads}
use Rattle.media_file.specs.Faults.{file_fault_origin}

-- a row's samples have as many bits as its octets
row_bits : (s : Sampling) (b : Depth) (w : ℕ) → IsWidth s b w
    → bits_of b * (w / run_columns s * run_samples s)
    ≡ 8 * (w / (pixel_group s b).pixels * (pixel_group s b).octets)
row_bits Ycc422 D8 w is = omega arith
row_bits Ycc422 D10 w is = omega arith
row_bits Ycc422 D12 w is = omega arith
row_bits Ycc422 D16 w is = omega arith
row_bits Ycc444 D8 w is = omega arith
row_bits Ycc444 D10 w is = let e : w % 4 ≡ 0 = is.whole_groups in omega arith
row_bits Ycc444 D12 w is = let e : w % 2 ≡ 0 = is.whole_groups in omega arith
row_bits Ycc444 D16 w is = omega arith
row_bits Rgb D8 w is = omega arith
row_bits Rgb D10 w is = let e : w % 4 ≡ 0 = is.whole_groups in omega arith
row_bits Rgb D12 w is = let e : w % 2 ≡ 0 = is.whole_groups in omega arith
row_bits Rgb D16 w is = omega arith

swap : (a h r : ℕ) → a * (h * r) ≡ h * (a * r)
swap a h r = sym (mul_assoc a h r) ∙ ap (λ (x : ℕ). x * r) (mul_comm a h) ∙ mul_assoc h a r

-- and so do the rows of a raster
pub raster_bits : (f : Format) → bits_of f.depth * sample_count f ≡ 8 * raster_octets (fields_of f)
raster_bits f =
    let o : ℕ =
    f.width / (pixel_group f.sampling f.depth).pixels *
    (pixel_group f.sampling f.depth).octets in
    swap (bits_of f.depth) f.height (row_samples f)
    ∙ ap (λ (x : ℕ). f.height * x) (row_bits f.sampling f.depth f.width f.whole_width)
    ∙ sym (swap 8 f.height o)

eighths : (a x : ℕ) → a ≡ 8 * x → a % 8 ≡ 0
eighths a x e = omega arith

eighth : (a x : ℕ) → a ≡ 8 * x → a / 8 ≡ x
eighth a x e = omega arith

same_octets : (x y a : ℕ) → 8 * x ≡ a → a ≡ 8 * y → x ≡ y
same_octets x y a p q = omega arith

-- samples of a raster take whole octets
pub whole_bits : (f : Format) (n : ℕ) → n ≡ sample_count f → bits_of f.depth * n % 8 ≡ 0
whole_bits f n e =
    eighths (bits_of f.depth * n) (raster_octets (fields_of f))
    (ap (λ (k : ℕ). bits_of f.depth * k) e ∙ raster_bits f)

pub picture_bits : (p : Values) (f : Format) (vs : List ℕ) → IsPicture p → f ≡ p.format
    → vs ≡ p.samples → bits_of f.depth * length vs % 8 ≡ 0
picture_bits p f vs is e s =
    whole_bits f (length vs) (ap length s ∙ is.whole ∙ ap sample_count (sym e))

-- ---- written

heads : (p : Values) (f : Format) → f ≡ p.format
    → picture_head (fields_of f) ≡ picture_head (fields_of p.format)
heads p f e = ap (λ (x : Format). picture_head (fields_of x)) e

bodies : (p : Values) (f : Format) (vs : List ℕ) → f ≡ p.format → vs ≡ p.samples
    → octets_in (bits_of f.depth) vs ≡ octets_in (bits_of p.format.depth) p.samples
bodies p f vs e s =
    ap (λ (x : Format). octets_in (bits_of x.depth) vs) e
    ∙ ap (octets_in (bits_of p.format.depth)) s

pub cut_head : (p : Values) (f : Format) (old new : Option (List ℕ)) → f ≡ p.format
    → AppendsPrefix old new (picture_head (fields_of f)) → AppendsPrefix old new (picture_text p)
unfolding picture_text
cut_head p f old new e q =
    prefix_first old new (picture_head (fields_of p.format))
    (octets_in (bits_of p.format.depth) p.samples) (subst (AppendsPrefix old new) (heads p f e) q)

pub cut_body : (p : Values) (f : Format) (vs : List ℕ) (old mid new : Option (List ℕ))
    → f ≡ p.format → vs ≡ p.samples → Appends old mid (picture_head (fields_of f))
    → AppendsPrefix mid new (octets_in (bits_of f.depth) vs)
    → AppendsPrefix old new (picture_text p)
unfolding picture_text
cut_body p f vs old mid new e s q r =
    prefix_then old mid new (picture_head (fields_of p.format))
    (octets_in (bits_of p.format.depth) p.samples) (subst (Appends old mid) (heads p f e) q)
    (subst (AppendsPrefix mid new) (bodies p f vs e s) r)

pub all_written : (p : Values) (f : Format) (vs : List ℕ) (old mid new : Option (List ℕ))
    → f ≡ p.format → vs ≡ p.samples → Appends old mid (picture_head (fields_of f))
    → Appends mid new (octets_in (bits_of f.depth) vs) → Appends old new (picture_text p)
unfolding picture_text
all_written p f vs old mid new e s q r =
    Appends-trans old mid new (picture_head (fields_of p.format))
    (octets_in (bits_of p.format.depth) p.samples) (subst (Appends old mid) (heads p f e) q)
    (subst (Appends mid new) (bodies p f vs e s) r)

-- ---- read

abbrev read_values : ℕ → List ℕ → Result (List ℕ) FileFault
read_values n octets = Ok (values_in n octets)

pub raster_gives : (f : Format) (old new : Option (List ℕ)) (vs : List ℕ)
    → length vs ≡ sample_count f → GivesSpelled (bits_of f.depth) old new vs
    → Takes (raster_at (fields_of f)) old new vs
unfolding raster_at
raster_gives f old new vs size p =
    let b : ℕ = bits_of f.depth in
    let n : ℕ = raster_octets (fields_of f) in
    let len : length p.octets ≡ n =
    same_octets (length p.octets) n (b * length vs) (spelled_size b p.octets vs p.spelled)
    (ap (λ (k : ℕ). b * k) size ∙ raster_bits f) in
    let is : values_in b p.octets ≡ vs =
    values_in-spelled b p.octets vs (bits_of_pos f.depth) p.spelled in
    gives_then (field_at n) (λ x rest. with_rest (read_values b x) rest) old new new p.octets vs
    (gives_field Truncated n old new p.octets len p.given)
    (gives_pure (read_values b p.octets) new vs
    (ap (λ (xs : List ℕ). let r : Result (List ℕ) FileFault = Ok xs in r) is))

pub raster_fails : (f : Format) (old : Option (List ℕ)) (n : ℕ) (e : FileFault)
    → n ≡ sample_count f → Fails (field_at (bits_of f.depth * n / 8)) old e
    → Fails (raster_at (fields_of f)) old e
unfolding raster_at
raster_fails f old n e size p =
    let b : ℕ = bits_of f.depth in
    let k : ℕ = raster_octets (fields_of f) in
    let is : b * n / 8 ≡ k = eighth (b * n) k (ap (λ (m : ℕ). b * m) size ∙ raster_bits f) in
    fails_first file_fault_origin (field_at k) (λ x rest. with_rest (read_values b x) rest) old e
    (subst (λ (m : ℕ). Fails (field_at m) old e) is p)

-- an octet behind the last
pub not_end : (old new : Option (List ℕ)) (xs : List ℕ) → 0 < length xs → Consumes old new xs
    → Fails nothing_at old TrailingBytes
not_end None new xs some p = tt
not_end (Some o) None xs some p = absurd p
not_end (Some o) (Some r) [] some p = absurd (omega (arith, some))
not_end (Some o) (Some r) (x ∷ xs) some p = ap nothing_at p

pub at_end : (old new : Option (List ℕ)) → Consumes old new [] → IsAtEnd new
    → Takes nothing_at old new tt
at_end None new p e = tt
at_end (Some o) None p e = absurd p
at_end (Some o) (Some r) p e =
    ap nothing_at (p ∙ e)
    ∙ ap (λ (xs : List ℕ). let q : Result (⊤ × List ℕ) FileFault = Ok (tt, xs) in q) (sym e)

-- the readings behind the version, behind the format block and behind the samples
abbrev shown : Fields → List ℕ → Result Shown FileFault
shown f samples = Ok (shown_by f samples)

abbrev behind_raster : Fields → List ℕ → List ℕ → Result (Shown × List ℕ) FileFault
behind_raster f samples = then_reads nothing_at (λ _ rest. with_rest (shown f samples) rest)

abbrev behind_block : Fields → List ℕ → Result (Shown × List ℕ) FileFault
behind_block f = then_reads (raster_at f) (behind_raster f)

abbrev behind_version : Version → List ℕ → Result (Shown × List ℕ) FileFault
behind_version v = then_reads block_at behind_block

pub version_fails : (old : Option (List ℕ)) (e : FileFault) → Fails (one_at picture_name) old e
    → Fails picture_walk old e
unfolding picture_walk
version_fails old e p = fails_first file_fault_origin (one_at picture_name) behind_version old e p

pub block_fails : (old a : Option (List ℕ)) (e : FileFault) → Takes (one_at picture_name) old a One
    → Fails block_at a e → Fails picture_walk old e
unfolding picture_walk
block_fails old a e p q =
    fails_then file_fault_origin (one_at picture_name) behind_version old a One e p
    (fails_first file_fault_origin block_at behind_block a e q)

pub body_fails : (old a b : Option (List ℕ)) (f : Fields) (e : FileFault)
    → Takes (one_at picture_name) old a One → Takes block_at a b f → Fails (raster_at f) b e
    → Fails picture_walk old e
unfolding picture_walk
body_fails old a b f e p q r =
    fails_then file_fault_origin (one_at picture_name) behind_version old a One e p
    (fails_then file_fault_origin block_at behind_block a b f e q
    (fails_first file_fault_origin (raster_at f) (behind_raster f) b e r))

pub end_fails : (old a b c : Option (List ℕ)) (f : Fields) (vs : List ℕ) (e : FileFault)
    → Takes (one_at picture_name) old a One → Takes block_at a b f → Takes (raster_at f) b c vs
    → Fails nothing_at c e → Fails picture_walk old e
unfolding picture_walk
end_fails old a b c f vs e p q r s =
    fails_then file_fault_origin (one_at picture_name) behind_version old a One e p
    (fails_then file_fault_origin block_at behind_block a b f e q
    (fails_then file_fault_origin (raster_at f) (behind_raster f) b c vs e r
    (fails_first file_fault_origin nothing_at (λ _ rest. with_rest (shown f vs) rest) c e s)))

pub picture_gives : (old a b c new : Option (List ℕ)) (f : Fields) (vs : List ℕ)
    → Takes (one_at picture_name) old a One → Takes block_at a b f → Takes (raster_at f) b c vs
    → Takes nothing_at c new tt → Takes picture_walk old new (shown_by f vs)
unfolding picture_walk
picture_gives old a b c new f vs p q r s =
    gives_then (one_at picture_name) behind_version old a new One (shown_by f vs) p
    (gives_then block_at behind_block a b new f (shown_by f vs) q
    (gives_then (raster_at f) (behind_raster f) b c new vs (shown_by f vs) r
    (gives_then nothing_at (λ _ rest. with_rest (shown f vs) rest) c new new tt (shown_by f vs) s
    (gives_pure (shown f vs) new (shown_by f vs) refl))))
