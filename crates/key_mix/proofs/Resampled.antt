-- A format is known by what it says: two that are one but for their facts are one.
use Rattle.std.proofs.Common.{◌≡◌, ℕ, ◌*◌, ◌%◌, ◌≤◌, List, [], ◌∷◌, sym, ◌∙◌}
use mathlib.Core.HLevel.{is_prop→PathP}
use denote.Struct.Props.{props}
use Rattle.st_format.specs.declared.format.Format.{Format}
use Rattle.st_format.specs.declared.sampling.Sampling.{Sampling}
use Rattle.st_format.specs.declared.sampling.Depth.{Depth}
use Rattle.st_format.specs.Limits.{IsHeight, IsRate, IsWidth}
use Rattle.st_format.specs.Pgroup.{pixel_group}
use Rattle.st_format.specs.Rate.{IsLowest, common_divisor}
use Rattle.bt709_fixed.specs.Operations.{IsResampled}
use Rattle.key_mix.specs.declared.Job.{Job}
use Rattle.key_mix.specs.declared.Job.TheVariants.{Limit, Gain, ToYcc444, ToYcc422, Wipe, Key}
use Rattle.key_mix.specs.Jobs.{IsJobFormat}

IsWidth-prop : (s : Sampling) (b : Depth) (w : ℕ) → IsProp (IsWidth s b w)
IsWidth-prop s b w x y =
    let least : IsProp (2 ≤ w) = hlevel props in
    let most : IsProp (w ≤ 8192) = hlevel props in
    let even : IsProp (w % 2 ≡ 0) = hlevel props in
    let whole : IsProp (w % (pixel_group s b).pixels ≡ 0) = hlevel props in
    λ i. record {
      least = least x.least y.least i;
      most = most x.most y.most i;
      even = even x.even y.even i;
      whole_groups = whole x.whole_groups y.whole_groups i;
    }

IsHeight-prop : (h : ℕ) → IsProp (IsHeight h)
IsHeight-prop h x y =
    let least : IsProp (1 ≤ h) = hlevel props in
    let most : IsProp (h ≤ 8192) = hlevel props in
    λ i. record { least = least x.least y.least i; most = most x.most y.most i }

IsRate-prop : (n d : ℕ) → IsProp (IsRate n d)
IsRate-prop n d x y =
    let some_n : IsProp (1 ≤ n) = hlevel props in
    let most_n : IsProp (n ≤ 1000000) = hlevel props in
    let some_d : IsProp (1 ≤ d) = hlevel props in
    let most_d : IsProp (d ≤ 1000000) = hlevel props in
    let at_least_one : IsProp (d ≤ n) = hlevel props in
    let at_most_300 : IsProp (n ≤ 300 * d) = hlevel props in
    λ i. record {
      some_n = some_n x.some_n y.some_n i;
      most_n = most_n x.most_n y.most_n i;
      some_d = some_d x.some_d y.some_d i;
      most_d = most_d x.most_d y.most_d i;
      at_least_one = at_least_one x.at_least_one y.at_least_one i;
      at_most_300 = at_most_300 x.at_most_300 y.at_most_300 i;
    }

IsLowest-prop : (n d : ℕ) → IsProp (IsLowest n d)
IsLowest-prop n d = let is : IsProp (common_divisor n d ≡ 1) = hlevel props in is

resampled_once : (s : Sampling) (g f h : Format) → IsResampled f g s → IsResampled h g s → f ≡ h
resampled_once s g f h x y =
    let e : f.sampling ≡ h.sampling = x.sampling ∙ sym y.sampling in
    let b : f.depth ≡ h.depth = x.depth ∙ sym y.depth in
    let w : f.width ≡ h.width = x.width ∙ sym y.width in
    let t : f.height ≡ h.height = x.height ∙ sym y.height in
    let n : f.n ≡ h.n = x.n ∙ sym y.n in
    let d : f.d ≡ h.d = x.d ∙ sym y.d in
    λ i. record {
      sampling = e i;
      depth = b i;
      width = w i;
      height = t i;
      n = n i;
      d = d i;
      whole_width = is_prop→PathP (λ j. IsWidth (e j) (b j) (w j))
          (λ j. IsWidth-prop (e j) (b j) (w j)) f.whole_width h.whole_width i;
      whole_height = is_prop→PathP (λ j. IsHeight (t j)) (λ j. IsHeight-prop (t j))
          f.whole_height h.whole_height i;
      sane_rate = is_prop→PathP (λ j. IsRate (n j) (d j)) (λ j. IsRate-prop (n j) (d j))
          f.sane_rate h.sane_rate i;
      lowest_rate = is_prop→PathP (λ j. IsLowest (n j) (d j)) (λ j. IsLowest-prop (n j) (d j))
          f.lowest_rate h.lowest_rate i;
    }

-- a job's picture has one format
pub job_format_once : (j : Job) (gs : List Format) (f h : Format) → IsJobFormat f j gs
    → IsJobFormat h j gs → f ≡ h
job_format_once (Limit range) (g ∷ gs) f h x y = x ∙ sym y
job_format_once (Gain gain) (g ∷ gs) f h x y = x ∙ sym y
job_format_once ToYcc444 (g ∷ gs) f h x y = resampled_once _ g f h x y
job_format_once ToYcc422 (g ∷ gs) f h x y = resampled_once _ g f h x y
job_format_once (Wipe w) (g ∷ gs) f h x y = x ∙ sym y
job_format_once Key (g ∷ gs) f h x y = x ∙ sym y
job_format_once (Limit range) [] f h x y = absurd x
job_format_once (Gain gain) [] f h x y = absurd x
job_format_once ToYcc444 [] f h x y = absurd x
job_format_once ToYcc422 [] f h x y = absurd x
job_format_once (Wipe w) [] f h x y = absurd x
job_format_once Key [] f h x y = absurd x
