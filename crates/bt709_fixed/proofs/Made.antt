-- From sample numbers to positions.
use Rattle.std.proofs.Common.{◌≡◌, ℕ, ◌<◌, ◌≤◌, ◌^◌, refl, List, [], ◌∷◌, suc, get_or, length}
use Rattle.std.proofs.Common.{arith, sym, ap, ◌∙◌, subst}
use Rattle.std.specs.List.{AllByRecursion}
use Rattle.st_format.specs.declared.format.Format.{Format}
use Rattle.st_format.specs.declared.sampling.Depth.{Depth}
use Rattle.st_format.specs.declared.sampling.Depth.TheVariants.{D8, D10, D12, D16}
use Rattle.st_format.specs.Pgroup.{bits_of}
use Rattle.st_format.specs.Picture.{FitsDepth, IsPicture, Values, value_at}
use Rattle.bt709_fixed.specs.Operations.{IsOf}
use Rattle.st_format.specs.Position.{Position, IsPosition, component_in_row, number_of}
use Rattle.st_format.specs.Position.{sample_count}
use Rattle.st_format.proofs.Numbering.{number_of-below, place-number_of}
use Rattle.st_format.proofs.PictureLemmas.{component-place}

-- the component of a position's number
pub component-number : (f : Format) (p : Position) → IsPosition p f
    → component_in_row f.sampling (number_of f p) ≡ p.component
component-number f p h =
    sym (component-place f (number_of f p)) ∙ ap (λ q. q.component) (place-number_of f p h)

-- what is so of each sample number is so at each position
pub made_at : (f : Format) (old new : List ℕ) (g : ℕ → ℕ → ℕ) → length new ≡ sample_count f
    → ((k : ℕ) → k < length new
    → get_or new k 0 ≡ g (component_in_row f.sampling k) (get_or old k 0))
    → (p : Position) → IsPosition p f
    → get_or new (number_of f p) 0 ≡ g p.component (get_or old (number_of f p) 0)
made_at f old new g long each p h =
    let below = number_of-below f p h in
    each (number_of f p) (omega arith)
    ∙ ap (λ c. g c (get_or old (number_of f p) 0)) (component-number f p h)

pub all_from_each : (P : ℕ → Type 0) (xs : List ℕ) → ((k : ℕ) → k < length xs → P (get_or xs k 0))
    → AllByRecursion P xs
all_from_each P [] each = tt
all_from_each P (x ∷ xs) each =
    (each 0 (omega arith), all_from_each P xs (λ k h. each (suc k) (omega arith)))

-- a picture whose samples are those of v, each made by its component and its value
pub made : (v : Values) (f : Format) (new : List ℕ) (g : ℕ → ℕ → ℕ) → f ≡ v.format → IsPicture v
    → length new ≡ length v.samples
    → ((k : ℕ) → k < length new
    → get_or new k 0 ≡ g (component_in_row v.format.sampling k) (get_or v.samples k 0))
    → ((c x : ℕ) → g c x < 2 ^ bits_of v.format.depth)
    → IsPicture (record { format = f; samples = new })
    × IsOf v.format (λ at. g at.component (value_at v at)) (record { format = f; samples = new })
made v f new g same w long each fits =
    let whole : length new ≡ sample_count v.format = long ∙ w.whole in
    let picture : IsPicture (record { format = v.format; samples = new }) = record {
      whole = whole;
      fit =
          all_from_each (FitsDepth v.format) new
          (λ k h. subst (λ x. x < 2 ^ bits_of v.format.depth) (sym (each k h))
          (fits (component_in_row v.format.sampling k) (get_or v.samples k 0)));
    } in
    let is : IsOf v.format (λ at. g at.component (value_at v at))
    (record { format = v.format; samples = new }) = record {
      format = refl;
      each = λ at h. made_at v.format v.samples new g whole each at h;
    } in
    subst (λ f. IsPicture (record { format = f; samples = new })
    × IsOf v.format (λ at. g at.component (value_at v at))
    (record { format = f; samples = new })) (sym same) (picture, is)

pub some_bits : (d : Depth) → 8 ≤ bits_of d
some_bits D8 = omega arith
some_bits D10 = omega arith
some_bits D12 = omega arith
some_bits D16 = omega arith
