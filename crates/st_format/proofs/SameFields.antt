-- Formats that say the same are the same.
use Rattle.std.proofs.Common.{◌≡◌, ℕ, Bool, true, false, ◌&&◌, refl, sym, ap, ◌∙◌, subst}
use Rattle.std.specs.Prelude.{◌==◌, ◌↔◌, IsTrue}
use Rattle.std.proofs.lemmas.Bool.Decides.{Decides-eqb}
use native.Mathlib.Nat.{ℕ_set}
use native.Mathlib.Bridge.{le_prop}
use Rattle.st_format.specs.declared.sampling.Sampling.{Sampling}
use Rattle.st_format.specs.declared.sampling.Sampling.TheVariants.{Ycc422, Ycc444, Rgb}
use Rattle.st_format.specs.declared.sampling.Depth.{Depth}
use Rattle.st_format.specs.declared.sampling.Depth.TheVariants.{D8, D10, D12, D16}
use Rattle.st_format.specs.declared.format.Format.{Format}
use Rattle.st_format.specs.Fields.{Fields, fields_of, same_depth, same_fields, same_sampling}
use Rattle.st_format.specs.Limits.{IsHeight, IsRate, IsWidth}
use Rattle.st_format.specs.Rate.{IsLowest}
use Rattle.st_format.proofs.Decimals.{and_parts}

abbrev Facts : Fields → Type 0
Facts x = IsWidth x.sampling x.depth x.width × IsHeight x.height × IsRate x.n x.d × IsLowest x.n x.d

abbrev format_by : (x : Fields) → Facts x → Format
format_by x p =
    record {
      sampling = x.sampling;
      depth = x.depth;
      width = x.width;
      height = x.height;
      n =
          x.n;
      d = x.d;
      whole_width = p.0;
      whole_height = p.1;
      sane_rate = p.2;
      lowest_rate = p.3;
    }

one_fact : (x : Fields) → IsProp (Facts x)
one_fact x = hlevel (le_prop, ℕ_set)

pub same_format : (f g : Format) → fields_of f ≡ fields_of g → f ≡ g
same_format f g e =
    let P : Fields → Type 0 = λ x. (p : Facts x) → format_by x p ≡ g in
    let here : P (fields_of g) =
    λ p. ap (format_by (fields_of g))
    (one_fact (fields_of g) p (g.whole_width, g.whole_height, g.sane_rate, g.lowest_rate)) in
    subst P (sym e) here (f.whole_width, f.whole_height, f.sane_rate, f.lowest_rate)

-- ---- the test

unlike : {A : Type 0} → false ≡ true → A
unlike e = absurd cc

sampling_is : (a b : Sampling) → same_sampling a b ≡ true → a ≡ b
sampling_is Ycc422 Ycc422 e = refl
sampling_is Ycc444 Ycc444 e = refl
sampling_is Rgb Rgb e = refl
sampling_is a b e = unlike e

sampling_self : (a : Sampling) → same_sampling a a ≡ true
sampling_self Ycc422 = refl
sampling_self Ycc444 = refl
sampling_self Rgb = refl

depth_is : (a b : Depth) → same_depth a b ≡ true → a ≡ b
depth_is D8 D8 e = refl
depth_is D10 D10 e = refl
depth_is D12 D12 e = refl
depth_is D16 D16 e = refl
depth_is a b e = unlike e

depth_self : (a : Depth) → same_depth a a ≡ true
depth_self D8 = refl
depth_self D10 = refl
depth_self D12 = refl
depth_self D16 = refl

number_is : (a b : ℕ) → (a == b) ≡ true → a ≡ b
number_is a b e = (Decides-eqb a b).0 e

number_self : (a : ℕ) → (a == a) ≡ true
number_self a = (Decides-eqb a a).1 refl

abbrev fields : Sampling → Depth → ℕ → ℕ → ℕ → ℕ → Fields
fields s b w h n d = record { sampling = s; depth = b; width = w; height = h; n = n; d = d }

pub fields_are : (f g : Fields) → same_fields f g ≡ true → f ≡ g
fields_are f g e =
    let a =
    and_parts (same_sampling f.sampling g.sampling && same_depth f.depth g.depth
    && f.width == g.width && f.height == g.height && f.n == g.n) (f.d == g.d) e in
    let b =
    and_parts (same_sampling f.sampling g.sampling && same_depth f.depth g.depth
    && f.width == g.width && f.height == g.height) (f.n == g.n) a.0 in
    let c =
    and_parts (same_sampling f.sampling g.sampling && same_depth f.depth g.depth
    && f.width == g.width) (f.height == g.height) b.0 in
    let d =
    and_parts (same_sampling f.sampling g.sampling && same_depth f.depth g.depth)
    (f.width == g.width) c.0 in
    let s = and_parts (same_sampling f.sampling g.sampling) (same_depth f.depth g.depth) d.0 in
    ap (λ (z : Sampling). fields z f.depth f.width f.height f.n f.d)
    (sampling_is f.sampling g.sampling s.0)
    ∙ ap (λ (z : Depth). fields g.sampling z f.width f.height f.n f.d)
    (depth_is f.depth g.depth s.1)
    ∙ ap (λ (z : ℕ). fields g.sampling g.depth z f.height f.n f.d) (number_is f.width g.width d.1)
    ∙ ap (λ (z : ℕ). fields g.sampling g.depth g.width z f.n f.d) (number_is f.height g.height c.1)
    ∙ ap (λ (z : ℕ). fields g.sampling g.depth g.width g.height z f.d) (number_is f.n g.n b.1)
    ∙ ap (λ (z : ℕ). fields g.sampling g.depth g.width g.height g.n z) (number_is f.d g.d a.1)

pub fields_self : (f : Fields) → same_fields f f ≡ true
fields_self f =
    rw (
      sampling_self f.sampling,
      depth_self f.depth,
      number_self f.width,
      number_self f.height,
      number_self f.n,
      number_self f.d,
    ) refl

same_by : (r s : Bool) → (r ≡ true → s ≡ true) → (s ≡ true → r ≡ true) → r ≡ s
same_by true s to from = sym (to refl)
same_by false true to from = from refl
same_by false false to from = refl

-- What tells whether formats are the same tells whether their fields pass the test.
pub same_told : (r : Bool) (f g : Format) → IsTrue r ↔ (f ≡ g)
    → r ≡ same_fields (fields_of f) (fields_of g)
same_told r f g told =
    same_by r (same_fields (fields_of f) (fields_of g))
    (λ e. subst (λ (x : Format). same_fields (fields_of f) (fields_of x) ≡ true) (told.0 e)
    (fields_self (fields_of f)))
    (λ e. told.1 (same_format f g (fields_are (fields_of f) (fields_of g) e)))
