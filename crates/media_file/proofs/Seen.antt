-- What is read as a picture's file is one, and what is one is read as it.
use Rattle.std.proofs.Common.{◌≡◌, ℕ, ◌*◌, ◌/◌, ◌<◌, Bool, true, false, cond, ◌&&◌, eqb, List, []}
use Rattle.std.proofs.Common.{◌∷◌, ◌++◌, length, drop, Option, None, Some, Result, Ok, Err}
use Rattle.std.proofs.Common.{append_assoc, append-nil, refl, sym, ap, ◌∙◌, subst, inl, inr, arith}
use Rattle.std.specs.Prelude.{⊤, IfErr, IfOk, MatchResult, OnOk}
use Rattle.std.specs.Int.{w16, w32, from_be_bytes, to_be_bytes}
use Rattle.std.specs.Io.KnownBytes.{IsAtEnd}
use Rattle.std.specs.List.{AllByRecursion}
use Rattle.std.proofs.lemmas.Bool.{eqb-true}
use Rattle.std.proofs.lemmas.List.{length-take-le, take-append-drop}
use Rattle.std.proofs.lemmas.Nat.{be_bytes_2, be_bytes_4, from_be_bytes-to_be_bytes_2}
use Rattle.std.proofs.lemmas.Nat.{from_be_bytes-to_be_bytes_4}
use Rattle.st_format.specs.declared.format.Format.{Format}
use Rattle.st_format.specs.declared.format.FormatFault.{FormatFault}
use Rattle.st_format.specs.declared.format.FormatFault.TheVariants.{BadHeight, BadRate, BadWidth}
use Rattle.st_format.specs.declared.sampling.Sampling.{Sampling}
use Rattle.st_format.specs.declared.sampling.Sampling.TheVariants.{Ycc422, Ycc444, Rgb}
use Rattle.st_format.specs.declared.sampling.Depth.{Depth}
use Rattle.st_format.specs.declared.sampling.Depth.TheVariants.{D8, D10, D12, D16}
use Rattle.st_format.specs.Fields.{Fields, fields_of, format_at, is_bad_height, is_bad_rate}
use Rattle.st_format.specs.Fields.{is_bad_width}
use Rattle.st_format.specs.Pgroup.{bits_of}
use Rattle.st_format.specs.Picture.{IsPicture, Values}
use Rattle.st_format.specs.Position.{sample_count}
use Rattle.st_format.specs.Rate.{common_divisor}
use Rattle.st_format.specs.Samples.{octets_in, values_in}
use Rattle.st_format.proofs.Made.{format_at-fields}
use Rattle.st_format.proofs.Spelled.{values_in-spelled}
use Rattle.st_format.proofs.SpelledOctets.{Spells-octets_in, length-octets_in, octets_in-spelled}
use Rattle.st_format.proofs.WholeOctets.{Spells-values_in}
use Rattle.pgroup_pack.proofs.Values.{bits_of_pos}
use Rattle.media_file.specs.declared.fault.FileFault.{FileFault}
use Rattle.media_file.specs.declared.fault.FileFault.TheVariants.{NoMemory, Device, BadName}
use Rattle.media_file.specs.declared.fault.FileFault.TheVariants.{BadVersion, Truncated, BadField}
use Rattle.media_file.specs.declared.fault.FileFault.TheVariants.{TrailingBytes, MixedGroup}
use Rattle.media_file.specs.declared.fault.FileFault.TheVariants.{TooManyRecords}
use Rattle.media_file.specs.declared.front.Version.{Version}
use Rattle.media_file.specs.declared.front.Version.TheVariants.{One, Two}
use Rattle.media_file.specs.Blocks.{block_at, block_of, depth_of, lowest, sampling_of}
use Rattle.media_file.specs.Faults.{IfContent, IsMachine}
use Rattle.media_file.specs.Fields.{Fails, field_at, nothing_at}
use Rattle.st_format.specs.Given.{Leaves, Takes, with_rest}
use Rattle.st_format.specs.Reading.{◌>>=◌}
use Rattle.media_file.specs.Fronts.{kind_at, kind_of, kind_text, picture_name}
use Rattle.media_file.specs.PictureFile.{IsPictureFile, Shown, one_at, one_by, picture_walk}
use Rattle.media_file.specs.PictureFile.{picture_text, raster_at, raster_octets, shown_of}
use Rattle.media_file.specs.PictureFile.{shown_by}
use Rattle.st_format.specs.Device.{AreOctets, TellsOctets}
use Rattle.media_file.specs.StateFile.{format_text, sampling_code}
use Rattle.media_file.proofs.Blocked.{block_parts, lowest_good}
use Rattle.media_file.proofs.Entries.{chosen}
use Rattle.media_file.proofs.Found.{failed, field_takes, given, kind_takes, split_then}
use Rattle.media_file.proofs.Raster.{raster_bits}
use Rattle.media_file.proofs.Splits.{AreOctets-back}
use Rattle.media_file.proofs.Splits.{field_again}
use Rattle.st_format.proofs.Octets.{AreOctets-drop, AreOctets-take, all_octets}

-- ---- name and version

one_version : (octets : List ℕ) (v : Version) (rest : List ℕ) (x : Version × List ℕ)
    → octets ≡ kind_text picture_name v ++ rest → one_by v rest ≡ Ok x
    → octets ≡ kind_text picture_name One ++ x.1
one_version octets One rest x p e =
    let same : (One, rest) ≡ x = ap (λ (r : Result (Version × List ℕ) FileFault). given r x) e in
    p ∙ ap (λ (y : Version × List ℕ). kind_text picture_name One ++ y.1) same
one_version octets Two rest x p e = let bad : failed (Version × List ℕ) BadVersion ≡ Ok x =
    e in absurd cc

one_takes : (octets : List ℕ) (x : Version × List ℕ) → one_at picture_name octets ≡ Ok x
    → octets ≡ kind_text picture_name One ++ x.1
unfolding one_at
one_takes octets x e =
    let a = split_then (kind_at picture_name octets) (λ y. one_by y.0 y.1) x e in
    one_version octets a.first.0 a.first.1 x (kind_takes picture_name octets a.first a.is) a.next

-- ---- format blocks

abbrev ok_sampling : Sampling → Result Sampling FileFault
ok_sampling s = Ok s

abbrev ok_depth : Depth → Result Depth FileFault
ok_depth d = Ok d

abbrev ok_fields : Fields → Result Fields FileFault
ok_fields f = Ok f

abbrev ok_made : Fields → Result Fields FormatFault
ok_made f = Ok f

abbrev bad_made : FormatFault → Result Fields FormatFault
bad_made e = Err e

abbrev made_in : Fields → Result Fields FormatFault → Fields
made_in f (Ok x) = x
made_in f (Err e) = f

sampling_is : (n : ℕ) (s : Sampling) → sampling_of n ≡ Ok s → n ≡ sampling_code s
sampling_is n s e =
    elim (chosen (eqb n 0) (ok_sampling Ycc422)
    (cond (eqb n 1) (ok_sampling Ycc444)
    (cond (eqb n 2) (ok_sampling Rgb) (failed Sampling BadField))) (Ok s) e) [
      | inl w ↦ eqb-true n 0 w.0
          ∙ ap sampling_code (ap (λ (r : Result Sampling FileFault). given r s) w.1)
      | inr w ↦ elim
          (chosen (eqb n 1) (ok_sampling Ycc444)
          (cond (eqb n 2) (ok_sampling Rgb) (failed Sampling BadField)) (Ok s) w.1) [
            | inl u ↦ eqb-true n 1 u.0
                ∙ ap sampling_code (ap (λ (r : Result Sampling FileFault). given r s) u.1)
            | inr u ↦ elim
                (chosen (eqb n 2) (ok_sampling Rgb) (failed Sampling BadField) (Ok s) u.1) [
                  | inl v ↦ eqb-true n 2 v.0
                      ∙ ap sampling_code (ap (λ (r : Result Sampling FileFault). given r s) v.1)
                  | inr v ↦ let bad : failed Sampling BadField ≡ Ok s = v.1 in absurd cc
                ]
          ]
    ]

abbrev from_12 : ℕ → Result Depth FileFault
from_12 n = cond (eqb n 12) (ok_depth D12) (cond (eqb n 16) (ok_depth D16) (failed Depth BadField))

depth_is : (n : ℕ) (d : Depth) → depth_of n ≡ Ok d → n ≡ bits_of d
depth_is n d e =
    elim (chosen (eqb n 8) (ok_depth D8) (cond (eqb n 10) (ok_depth D10) (from_12 n)) (Ok d) e) [
      | inl w ↦ eqb-true n 8 w.0 ∙ ap bits_of (ap (λ (r : Result Depth FileFault). given r d) w.1)
      | inr w ↦ elim (chosen (eqb n 10) (ok_depth D10) (from_12 n) (Ok d) w.1) [
        | inl u ↦ eqb-true n 10 u.0
            ∙ ap bits_of (ap (λ (r : Result Depth FileFault). given r d) u.1)
        | inr u ↦ elim
            (chosen (eqb n 12) (ok_depth D12)
            (cond (eqb n 16) (ok_depth D16) (failed Depth BadField)) (Ok d) u.1) [
              | inl v ↦ eqb-true n 12 v.0
                  ∙ ap bits_of (ap (λ (r : Result Depth FileFault). given r d) v.1)
              | inr v ↦ elim (chosen (eqb n 16) (ok_depth D16) (failed Depth BadField) (Ok d) v.1) [
                | inl t ↦ eqb-true n 16 t.0
                    ∙ ap bits_of (ap (λ (r : Result Depth FileFault). given r d) t.1)
                | inr t ↦ let bad : failed Depth BadField ≡ Ok d = t.1 in absurd cc
              ]
            ]
      ]
    ]

record BothTrue (a b : Bool) : Type 0 where
  left : a ≡ true
  right : b ≡ true

both_true : (a b : Bool) → (a && b) ≡ true → BothTrue a b
both_true true b e = record { left = refl; right = e }
both_true false b e = let bad : false ≡ true = e in absurd cc

record IsLowest (r : Result Fields FormatFault) (n d : ℕ) (f : Fields) : Type 0 where
  made : r ≡ ok_made f
  same_n : f.n ≡ n
  same_d : f.d ≡ d

lowest_is : (r : Result Fields FormatFault) (n d : ℕ) (f : Fields) → lowest r n d ≡ Ok f
    → IsLowest r n d f
lowest_is (Ok g) n d f e =
    elim (chosen (eqb g.n n && eqb g.d d) (ok_fields g) (failed Fields BadField) (Ok f) e) [
      | inl w ↦
          let same : g ≡ f = ap (λ (r : Result Fields FileFault). given r f) w.1 in
          let tests : BothTrue (eqb g.n n) (eqb g.d d) = both_true (eqb g.n n) (eqb g.d d) w.0 in
          record {
            made = ap ok_made same;
            same_n = ap (λ (x : Fields). x.n) (sym same) ∙ eqb-true g.n n tests.left;
            same_d = ap (λ (x : Fields). x.d) (sym same) ∙ eqb-true g.d d tests.right;
          }
      | inr w ↦ let bad : failed Fields BadField ≡ Ok f = w.1 in absurd cc
    ]
lowest_is (Err k) n d f e = let bad : failed Fields BadField ≡ Ok f = e in absurd cc

record IsMade (s : Sampling) (b : Depth) (w h : ℕ) (f : Fields) : Type 0 where
  sampling : s ≡ f.sampling
  depth : b ≡ f.depth
  width : w ≡ f.width
  height : h ≡ f.height

abbrev good : Sampling → Depth → ℕ → ℕ → ℕ → ℕ → Fields
good s b w h n d =
    record {
      sampling = s;
      depth = b;
      width = w;
      height = h;
      n = n / common_divisor n d;
      d =
          d / common_divisor n d;
    }

format_is : (s : Sampling) (b : Depth) (w h n d : ℕ) (f : Fields)
    → format_at s b w h n d ≡ ok_made f → IsMade s b w h f
format_is s b w h n d f e =
    elim (chosen (is_bad_width s b w) (bad_made BadWidth)
    (cond (is_bad_height h) (bad_made BadHeight)
    (cond (is_bad_rate n d) (bad_made BadRate) (ok_made (good s b w h n d)))) (ok_made f) e) [
      | inl x ↦ let bad : bad_made BadWidth ≡ ok_made f = x.1 in absurd cc
      | inr x ↦ elim
          (chosen (is_bad_height h) (bad_made BadHeight)
          (cond (is_bad_rate n d) (bad_made BadRate) (ok_made (good s b w h n d)))
          (ok_made f) x.1) [
            | inl y ↦ let bad : bad_made BadHeight ≡ ok_made f = y.1 in absurd cc
            | inr y ↦ elim
                (chosen (is_bad_rate n d) (bad_made BadRate) (ok_made (good s b w h n d))
                (ok_made f) y.1) [
                  | inl z ↦ let bad : bad_made BadRate ≡ ok_made f = z.1 in absurd cc
                  | inr z ↦
                      let same : good s b w h n d ≡ f = ap (made_in f) z.1 in
                      record {
                        sampling = ap (λ (x : Fields). x.sampling) same;
                        depth = ap (λ (x : Fields). x.depth) same;
                        width = ap (λ (x : Fields). x.width) same;
                        height = ap (λ (x : Fields). x.height) same;
                      }
                ]
          ]
    ]

block_is : (a b c d e f g h i j k l m n : ℕ) (fields : Fields)
    → AreOctets (a ∷ b ∷ c ∷ d ∷ e ∷ f ∷ g ∷ h ∷ i ∷ j ∷ k ∷ l ∷ m ∷ n ∷ [])
    → block_of (a ∷ b ∷ c ∷ d ∷ e ∷ f ∷ g ∷ h ∷ i ∷ j ∷ k ∷ l ∷ m ∷ n ∷ []) ≡ Ok fields
    → a ∷ b ∷ c ∷ d ∷ e ∷ f ∷ g ∷ h ∷ i ∷ j ∷ k ∷ l ∷ m ∷ n ∷ [] ≡ format_text fields
block_is a b c d e f g h i j k l m n fields bytes is =
    let block : List ℕ = a ∷ b ∷ c ∷ d ∷ e ∷ f ∷ g ∷ h ∷ i ∷ j ∷ k ∷ l ∷ m ∷ n ∷ [] in
    let w : ℕ = from_be_bytes w16 (c ∷ d ∷ []) in
    let v : ℕ = from_be_bytes w16 (e ∷ f ∷ []) in
    let r : ℕ = from_be_bytes w32 (g ∷ h ∷ i ∷ j ∷ []) in
    let q : ℕ = from_be_bytes w32 (k ∷ l ∷ m ∷ n ∷ []) in
    let one =
    split_then (sampling_of a)
    (λ s. depth_of b >>= λ t. lowest (format_at s t w v r q) r q) fields is in
    let two =
    split_then (depth_of b) (λ t. lowest (format_at one.first t w v r q) r q) fields one.next in
    let low = lowest_is (format_at one.first two.first w v r q) r q fields two.next in
    let made = format_is one.first two.first w v r q fields low.made in
    let sampling : a ≡ sampling_code fields.sampling =
    sampling_is a one.first one.is ∙ ap sampling_code made.sampling in
    let depth : b ≡ bits_of fields.depth = depth_is b two.first two.is ∙ ap bits_of made.depth in
    let width : c ∷ d ∷ [] ≡ to_be_bytes w16 fields.width =
    sym (be_bytes_2 (c ∷ d ∷ []) fields.width refl
    (AreOctets-take 2 (drop 2 block) (AreOctets-drop 2 block bytes)) (sym made.width)) in
    let height : e ∷ f ∷ [] ≡ to_be_bytes w16 fields.height =
    sym (be_bytes_2 (e ∷ f ∷ []) fields.height refl
    (AreOctets-take 2 (drop 4 block) (AreOctets-drop 4 block bytes)) (sym made.height)) in
    let rate : g ∷ h ∷ i ∷ j ∷ [] ≡ to_be_bytes w32 fields.n =
    sym (be_bytes_4 (g ∷ h ∷ i ∷ j ∷ []) fields.n refl
    (AreOctets-take 4 (drop 6 block) (AreOctets-drop 6 block bytes)) low.same_n) in
    let per : k ∷ l ∷ m ∷ n ∷ [] ≡ to_be_bytes w32 fields.d =
    sym (be_bytes_4 (k ∷ l ∷ m ∷ n ∷ []) fields.d refl
    (AreOctets-drop 10 block bytes) low.same_d) in
    λ t. sampling t ∷ depth t ∷ (width t ++ (height t ++ (rate t ++ per t)))

fourteen : (block : List ℕ) (f : Fields) → length block ≡ 14 → AreOctets block
    → block_of block ≡ Ok f → block ≡ format_text f
fourteen (a ∷ b ∷ c ∷ d ∷ e ∷ g ∷ h ∷ i ∷ j ∷ k ∷ l ∷ m ∷ n ∷ o ∷ []) f len bytes is =
    block_is a b c d e g h i j k l m n o f bytes is
fourteen block f len bytes is = absurd (omega (arith, len))

abbrev with_fields : Fields → List ℕ → Result (Fields × List ℕ) FileFault
with_fields f rest = Ok (f, rest)

pub block_takes : (octets : List ℕ) (x : Fields × List ℕ) → AreOctets octets
    → block_at octets ≡ Ok x → octets ≡ format_text x.0 ++ x.1
unfolding block_at
block_takes octets x bytes e =
    let a = split_then (field_at 14 octets) (λ y. with_rest (block_of y.0) y.1) x e in
    let b = split_then (block_of a.first.0) (λ f. with_fields f a.first.1) x a.next in
    let f = field_takes 14 octets a.first a.is in
    let same : (b.first, a.first.1) ≡ x =
    ap (λ (r : Result (Fields × List ℕ) FileFault). given r x) b.next in
    let len : length a.first.0 ≡ 14 = ap length (sym f.front) ∙ length-take-le 14 octets f.long in
    let block : a.first.0 ≡ format_text b.first =
    fourteen a.first.0 b.first len
    (subst AreOctets f.front (AreOctets-take 14 octets bytes)) b.is in
    sym (take-append-drop 14 octets) ∙ ap (λ (t : List ℕ). t ++ drop 14 octets) (f.front ∙ block)
    ∙ ap (λ (t : List ℕ). format_text b.first ++ t) f.rest
    ∙ ap (λ (p : Fields × List ℕ). format_text p.0 ++ p.1) same

code_again : (s : Sampling) → Ok s ≡ sampling_of (sampling_code s)
code_again Ycc422 = refl
code_again Ycc444 = refl
code_again Rgb = refl

depth_again : (d : Depth) → Ok d ≡ depth_of (bits_of d)
depth_again D8 = refl
depth_again D10 = refl
depth_again D12 = refl
depth_again D16 = refl

block_of_again : (f : Format) → ok_fields (fields_of f) ≡ block_of (format_text (fields_of f))
block_of_again f =
    block_parts (format_text (fields_of f))
    (ok_fields (fields_of f)) f.sampling f.depth f.width f.height f.n f.d
    (code_again f.sampling) (depth_again f.depth)
    (sym (from_be_bytes-to_be_bytes_2 f.width (omega (arith, f.whole_width.most))))
    (sym (from_be_bytes-to_be_bytes_2 f.height (omega (arith, f.whole_height.most))))
    (sym (from_be_bytes-to_be_bytes_4 f.n (omega (arith, f.sane_rate.most_n))))
    (sym (from_be_bytes-to_be_bytes_4 f.d (omega (arith, f.sane_rate.most_d))))
    (lowest_good (fields_of f) (format_at f.sampling f.depth f.width f.height f.n f.d) f.n f.d
    (sym (format_at-fields f)) refl refl)

block_again : (f : Format) (rest : List ℕ)
    → block_at (format_text (fields_of f) ++ rest) ≡ Ok (fields_of f, rest)
unfolding block_at
block_again f rest =
    ap (λ (r : Result (List ℕ × List ℕ) FileFault). r >>= λ x. with_rest (block_of x.0) x.1)
    (field_again 14 (format_text (fields_of f)) rest refl)
    ∙ ap (λ (r : Result Fields FileFault). with_rest r rest) (sym (block_of_again f))

-- ---- samples

abbrev with_values : List ℕ → List ℕ → Result (List ℕ × List ℕ) FileFault
with_values values rest = Ok (values, rest)

raster_takes : (f : Fields) (count : ℕ) (octets : List ℕ) (x : List ℕ × List ℕ)
    → bits_of f.depth * count ≡ 8 * raster_octets f → AreOctets octets → raster_at f octets ≡ Ok x
    → octets ≡ octets_in (bits_of f.depth) x.0 ++ x.1
unfolding raster_at
raster_takes f count octets x bits bytes e =
    let b : ℕ = bits_of f.depth in
    let n : ℕ = raster_octets f in
    let a = split_then (field_at n octets) (λ y. with_values (values_in b y.0) y.1) x e in
    let g = field_takes n octets a.first a.is in
    let same : (values_in b a.first.0, a.first.1) ≡ x =
    ap (λ (r : Result (List ℕ × List ℕ) FileFault). given r x) a.next in
    let len : length a.first.0 ≡ n = ap length (sym g.front) ∙ length-take-le n octets g.long in
    let small : AllByRecursion (λ v. v < 256) a.first.0 =
    all_octets a.first.0 (subst AreOctets g.front (AreOctets-take n octets bytes)) in
    let back : octets_in b (values_in b a.first.0) ≡ a.first.0
    = octets_in-spelled b a.first.0 (values_in b a.first.0) small
    (Spells-values_in b a.first.0 count (bits_of_pos f.depth)
    (ap (λ (k : ℕ). 8 * k) len ∙ sym bits)) in
    sym (take-append-drop n octets) ∙ ap (λ (t : List ℕ). t ++ drop n octets) (g.front ∙ sym back)
    ∙ ap (λ (t : List ℕ). octets_in b (values_in b a.first.0) ++ t) g.rest
    ∙ ap (λ (p : List ℕ × List ℕ). octets_in b p.0 ++ p.1) same

raster_again : (p : Values) → IsPicture p
    → raster_at (fields_of p.format) (octets_in (bits_of p.format.depth) p.samples)
    ≡ Ok (p.samples, [])
unfolding raster_at
raster_again p is =
    let b : ℕ = bits_of p.format.depth in
    let n : ℕ = raster_octets (fields_of p.format) in
    let body : List ℕ = octets_in b p.samples in
    let bits : b * length p.samples ≡ 8 * n =
    ap (λ (k : ℕ). b * k) is.whole ∙ raster_bits p.format in
    ap (λ (t : List ℕ). field_at n t >>= λ x. with_values (values_in b x.0) x.1)
    (sym (append-nil body))
    ∙ ap (λ (r : Result (List ℕ × List ℕ) FileFault). r >>= λ x. with_values (values_in b x.0) x.1)
    (field_again n body [] (length-octets_in b p.samples n bits))
    ∙ ap (λ (vs : List ℕ). with_values vs [])
    (values_in-spelled b body p.samples (bits_of_pos p.format.depth)
    (Spells-octets_in b p.samples n bits is.fit))

-- ---- the end

record IsNothing (octets : List ℕ) (x : ⊤ × List ℕ) : Type 0 where
  none : octets ≡ []
  rest : x.1 ≡ []

nothing_is : (octets : List ℕ) (x : ⊤ × List ℕ) → nothing_at octets ≡ Ok x → IsNothing octets x
nothing_is [] x e =
    record { none = refl; rest = sym (ap (λ (r : Result (⊤ × List ℕ) FileFault). (given r x).1) e) }
nothing_is (octet ∷ octets) x e = let bad : failed (⊤ × List ℕ) TrailingBytes ≡ Ok x =
    e in absurd cc

-- ---- pictures

abbrev with_shown : Shown → List ℕ → Result (Shown × List ℕ) FileFault
with_shown s rest = Ok (s, rest)

abbrev behind_samples : Fields → List ℕ × List ℕ → Result (Shown × List ℕ) FileFault
behind_samples f s = nothing_at s.1 >>= λ e. with_shown (shown_by f s.0) e.1

abbrev behind_fields : Fields × List ℕ → Result (Shown × List ℕ) FileFault
behind_fields f = raster_at f.0 f.1 >>= λ s. behind_samples f.0 s

record IsFile (octets : List ℕ) (p : Values) (rest : List ℕ) : Type 0 where
  text : octets ≡ picture_text p
  all : rest ≡ []

picture_found : (p : Values) (octets rest : List ℕ) → AreOctets octets
    → picture_walk octets ≡ Ok (shown_of p, rest) → IsFile octets p rest
unfolding picture_walk picture_text
picture_found p octets rest bytes e =
    let x : Shown × List ℕ = (shown_of p, rest) in
    let a =
    split_then (one_at picture_name octets) (λ v. block_at v.1 >>= λ f. behind_fields f) x e in
    let b = split_then (block_at a.first.1) (λ f. behind_fields f) x a.next in
    let r = split_then (raster_at b.first.0 b.first.1) (λ s. behind_samples b.first.0 s) x b.next in
    let n =
    split_then (nothing_at r.first.1)
    (λ e. with_shown (shown_by b.first.0 r.first.0) e.1) x r.next in
    let none = nothing_is r.first.1 n.first n.is in
    let same : (shown_by b.first.0 r.first.0, n.first.1) ≡ x =
    ap (λ (q : Result (Shown × List ℕ) FileFault). given q x) n.next in
    let fields : b.first.0 ≡ fields_of p.format = ap (λ (y : Shown × List ℕ). y.0.format) same in
    let samples : r.first.0 ≡ p.samples = ap (λ (y : Shown × List ℕ). y.0.samples) same in
    let kind : List ℕ = kind_text picture_name One in
    let block : List ℕ = format_text (fields_of p.format) in
    let body : List ℕ = octets_in (bits_of p.format.depth) p.samples in
    let k : octets ≡ kind ++ a.first.1 = one_takes octets a.first a.is in
    let bytes_a : AreOctets a.first.1 = AreOctets-back kind a.first.1 (subst AreOctets k bytes) in
    let t : a.first.1 ≡ format_text b.first.0 ++ b.first.1 =
    block_takes a.first.1 b.first bytes_a b.is in
    let bytes_b : AreOctets b.first.1 =
    AreOctets-back (format_text b.first.0) b.first.1 (subst AreOctets t bytes_a) in
    let bits : bits_of b.first.0.depth * sample_count p.format ≡ 8 * raster_octets b.first.0
    = subst (λ (g : Fields). bits_of g.depth * sample_count p.format ≡ 8 * raster_octets g)
    (sym fields) (raster_bits p.format) in
    let s = raster_takes b.first.0 (sample_count p.format) b.first.1 r.first bits bytes_b r.is in
    let read : b.first.1 ≡ body =
    s ∙ ap (λ (q : List ℕ). octets_in (bits_of b.first.0.depth) r.first.0 ++ q) none.none
    ∙ append-nil (octets_in (bits_of b.first.0.depth) r.first.0)
    ∙ ap (λ (g : Fields). octets_in (bits_of g.depth) r.first.0) fields
    ∙ ap (octets_in (bits_of p.format.depth)) samples in
    record {
      text =
          k ∙ ap (λ (q : List ℕ). kind ++ q)
          (t ∙ ap (λ (g : Fields). format_text g ++ b.first.1) fields
          ∙ ap (λ (q : List ℕ). block ++ q) read) ∙ sym (append_assoc kind block body);
      all = sym (ap (λ (y : Shown × List ℕ). y.1) same) ∙ none.rest;
    }

found_by : (p : Values) (octets : List ℕ) (new : Option (List ℕ)) → AreOctets octets
    → Leaves (picture_walk octets) (shown_of p) new → (octets ≡ picture_text p) × IsAtEnd new
found_by p octets None bytes q = absurd q
found_by p octets (Some rest) bytes q = let f =
    picture_found p octets rest bytes q in (f.text, f.all)

found_told : (p : Values) (old new : Option (List ℕ)) → TellsOctets old
    → Takes picture_walk old new (shown_of p) → (octets : List ℕ) → old ≡ Some octets
    → (octets ≡ picture_text p) × IsAtEnd new
found_told p old new bytes g octets told =
    found_by p octets new (subst TellsOctets told bytes)
    (subst (λ (k : Option (List ℕ)). Takes picture_walk k new (shown_of p)) told g)

pub found_picture : (old new : Option (List ℕ)) (r : Result Values FileFault)
    → IfOk r (λ p. Takes picture_walk old new (shown_of p)) → OnOk r (TellsOctets old)
    → IfOk r (λ p. IsPicture p)
    → IfOk r (λ p. (octets : List ℕ) → old ≡ Some octets → IsPictureFile octets p × IsAtEnd new)
found_picture old new (Ok p) g bytes is = λ octets told.
    let f = found_told p old new bytes g octets told in
    (record { picture = is; whole = f.0 }, f.1)
found_picture old new (Err f) g bytes is = tt

kind_again : (rest : List ℕ)
    → kind_at picture_name (kind_text picture_name One ++ rest) ≡ Ok (One, rest)
unfolding kind_at
kind_again rest =
    ap (λ (r : Result (List ℕ × List ℕ) FileFault). r >>=
    λ x. with_rest (kind_of picture_name x.0) x.1)
    (field_again 8 (kind_text picture_name One) rest refl)

one_again : (rest : List ℕ)
    → one_at picture_name (kind_text picture_name One ++ rest) ≡ Ok (One, rest)
unfolding one_at
one_again rest =
    ap (λ (r : Result (Version × List ℕ) FileFault). r >>= λ x. one_by x.0 x.1) (kind_again rest)

-- what is a picture's file is read as what it says
pub picture_again : (p : Values) → IsPicture p → picture_walk (picture_text p) ≡ Ok (shown_of p, [])
unfolding picture_walk picture_text
picture_again p is =
    let kind : List ℕ = kind_text picture_name One in
    let block : List ℕ = format_text (fields_of p.format) in
    let body : List ℕ = octets_in (bits_of p.format.depth) p.samples in
    ap picture_walk (append_assoc kind block body)
    ∙ ap
    (λ (r : Result (Version × List ℕ) FileFault). r >>= λ v. block_at v.1 >>=
    λ f. behind_fields f) (one_again (block ++ body))
    ∙ ap (λ (r : Result (Fields × List ℕ) FileFault). r >>= λ f. behind_fields f)
    (block_again p.format body)
    ∙ ap
    (λ (r : Result (List ℕ × List ℕ) FileFault). r >>=
    λ s. behind_samples (fields_of p.format) s) (raster_again p is)

abbrev shown_in : Shown → Result (Shown × List ℕ) FileFault → Shown
shown_in s (Ok x) = x.0
shown_in s (Err f) = s

-- Equal files are of equal pictures.
pub picture_once : (p q : Values) → IsPicture p → IsPicture q → picture_text p ≡ picture_text q
    → shown_of p ≡ shown_of q
picture_once p q a b e =
    ap (shown_in (shown_of p)) (sym (picture_again p a) ∙ ap picture_walk e ∙ picture_again q b)

only_ok : (p q : Values) (octets : List ℕ) (new : Option (List ℕ))
    → picture_walk octets ≡ Ok (shown_of p, []) → Leaves (picture_walk octets) (shown_of q) new
    → shown_of q ≡ shown_of p
only_ok p q octets None e g = absurd g
only_ok p q octets (Some rest) e g = ap (shown_in (shown_of q)) (sym g ∙ e)

-- a fault that isn't the content's is the machine's
machine_left : (f : FileFault) (P : Type 0) → (P → ⊥) → IfContent f P → IsMachine f
machine_left NoMemory P h p = tt
machine_left Device P h p = tt
machine_left BadName P h p = h p
machine_left BadVersion P h p = h p
machine_left Truncated P h p = h p
machine_left BadField P h p = h p
machine_left TrailingBytes P h p = h p
machine_left MixedGroup P h p = h p
machine_left TooManyRecords P h p = h p

clash : (s : Shown) (octets : List ℕ) (f : FileFault) → picture_walk octets ≡ Ok (s, [])
    → picture_walk octets ≡ Err f → ⊥
clash s octets f e p = let bad : with_shown s [] ≡ failed (Shown × List ℕ) f =
    sym e ∙ p in absurd cc

pub only_picture : (old new : Option (List ℕ)) (r : Result Values FileFault)
    → IfOk r (λ q. Takes picture_walk old new (shown_of q))
    → IfErr r (λ f. Fails picture_walk old f)
    → (p : Values) (octets : List ℕ) → old ≡ Some octets → IsPictureFile octets p
    → MatchResult r (λ q. shown_of q ≡ shown_of p) IsMachine
only_picture old new (Ok q) a b p octets told is =
    only_ok p q octets new (ap picture_walk is.whole ∙ picture_again p is.picture)
    (subst (λ (k : Option (List ℕ)). Takes picture_walk k new (shown_of q)) told a)
only_picture old new (Err f) a b p octets told is =
    machine_left f (picture_walk octets ≡ Err f)
    (clash (shown_of p) octets f (ap picture_walk is.whole ∙ picture_again p is.picture))
    (subst (λ (k : Option (List ℕ)). Fails picture_walk k f) told b)
