-- A format made again from its own fields is itself.
use Rattle.std.proofs.Common.{◌≡◌, ℕ, ◌*◌, ◌%◌, false, refl, Ok}
use Rattle.std.proofs.lemmas.Bool.{le-ltb, eq-eqb}
use Rattle.std.proofs.Math.Nat.{div-one}
use Rattle.st_format.specs.declared.sampling.Sampling.{Sampling}
use Rattle.st_format.specs.declared.sampling.Depth.{Depth}
use Rattle.st_format.specs.declared.format.Format.{Format}
use Rattle.st_format.specs.Pgroup.{pixel_group}
use Rattle.st_format.specs.Limits.{IsWidth, IsHeight, IsRate}
use Rattle.st_format.specs.Fields.{fields_of, is_bad_width, is_bad_height, is_bad_rate, format_at}

good_width : (s : Sampling) (b : Depth) (w : ℕ) → IsWidth s b w → is_bad_width s b w ≡ false
good_width s b w h =
    rw (
      le-ltb w 2 h.least,
      le-ltb 8192 w h.most,
      eq-eqb (w % 2) 0 h.even,
      eq-eqb (w % (pixel_group s b).pixels) 0 h.whole_groups,
    ) refl

good_height : (h : ℕ) → IsHeight h → is_bad_height h ≡ false
good_height h i = rw (le-ltb h 1 i.least, le-ltb 8192 h i.most) refl

pub good_rate : (n d : ℕ) → IsRate n d → is_bad_rate n d ≡ false
good_rate n d r =
    rw (
      le-ltb n 1 r.some_n,
      le-ltb 1000000 n r.most_n,
      le-ltb d 1 r.some_d,
      le-ltb 1000000 d r.most_d,
      le-ltb n d r.at_least_one,
      le-ltb (300 * d) n r.at_most_300,
    ) refl

pub format_at-fields : (f : Format)
    → format_at f.sampling f.depth f.width f.height f.n f.d ≡ Ok (fields_of f)
format_at-fields f =
    rw (
      good_width f.sampling f.depth f.width f.whole_width,
      good_height f.height f.whole_height,
      good_rate f.n f.d f.sane_rate,
      f.lowest_rate,
      div-one f.n,
      div-one f.d,
    ) refl
