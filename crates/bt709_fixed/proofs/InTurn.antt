-- What samples are limited to and gained about, told by their numbers in turns of 24.
use Rattle.std.proofs.Common.{◌≡◌, ℕ, ◌+◌, ◌-◌, ◌*◌, ◌%◌, ◌<◌, ◌≤◌, Bool, true, false}
use Rattle.std.proofs.Common.{if◌then◌else◌, List, ◌++◌, get_or, length, take, drop, inl, inr}
use Rattle.std.proofs.Common.{sym, ap, arith, ◌∙◌}
use Rattle.std.proofs.lemmas.Bool.{cases_lt}
use Rattle.std.proofs.lemmas.List.{get_or_append_left, get_or-append_right, get_or-drop}
use Rattle.std.proofs.lemmas.List.{get_or-take}
use Rattle.std.specs.Prelude.{pos, slice_index_or}
use borrow.Rule.Slice.PartMut.{put_mid}
use Rattle.st_format.specs.declared.sampling.Sampling.{Sampling}
use Rattle.st_format.specs.declared.sampling.Sampling.TheVariants.{Ycc422, Ycc444, Rgb}
use Rattle.st_format.specs.Position.{component_in_row, run}
use Rattle.lane_kernels.specs.Formulas.{clip, gain, scale}
use Rattle.lane_kernels.proofs.Scales.{centre_is}
use Rattle.bt709_fixed.proofs.Part.{put_below, put_within}
use Rattle.bt709_fixed.specs.Operations.{gained_sample, is_colour, limited_sample}
use Rattle.bt709_fixed.specs.declared.changes.RangeKind.TheVariants.{Nominal}

component_turns : (s : Sampling) (k : ℕ) → component_in_row s (k % 24) ≡ component_in_row s k
component_turns Ycc422 k = let turn : k % 24 % 4 ≡ k % 4 = omega arith in
    ap (λ j. (slice_index_or (run Ycc422) j (0, 0)).1) turn
component_turns Ycc444 k = let turn : k % 24 % 3 ≡ k % 3 = omega arith in
    ap (λ j. (slice_index_or (run Ycc444) j (0, 0)).1) turn
component_turns Rgb k = let turn : k % 24 % 3 ≡ k % 3 = omega arith in
    ap (λ j. (slice_index_or (run Rgb) j (0, 0)).1) turn

pub colour_turns : (s : Sampling) (k luma colour : ℕ)
    → (if is_colour s (component_in_row s (k % 24)) then colour else luma)
    ≡ (if is_colour s (component_in_row s k) then colour else luma)
colour_turns s k luma colour =
    ap (λ component. if is_colour s component then colour else luma) (component_turns s k)

pub limited_turns : (n s v : ℕ) (colour : Bool) → s ≡ scale n
    → clip (16 * s) (if colour then 240 * s else 235 * s) (pos v)
    ≡ limited_sample Nominal n colour v
limited_turns n s v true e = λ i. clip (16 * e i) (240 * e i) (pos v)
limited_turns n s v false e = λ i. clip (16 * e i) (235 * e i) (pos v)

pub gained_turns : (g n s v : ℕ) (colour : Bool) → 8 ≤ n → s ≡ scale n
    → clip s (255 * s - 1) (gain (if colour then 128 * s else 16 * s) g v)
    ≡ gained_sample g n colour v
gained_turns g n s v true h e =
    let c = ap (λ x. 128 * x) e ∙ sym (centre_is n h) in
    λ i. clip (e i) (255 * e i - 1) (gain (c i) g v)
gained_turns g n s v false h e = λ i. clip (e i) (255 * e i - 1) (gain (16 * e i) g v)

component_on : (s : Sampling) (d k : ℕ) → d % 24 ≡ 0
    → component_in_row s k ≡ component_in_row s (d + k)
component_on s d k turns =
    let turn : k % 24 ≡ (d + k) % 24 = omega arith in
    sym (component_turns s k) ∙ ap (component_in_row s) turn ∙ component_turns s (d + k)

-- d samples are made by their components and values, xs has the n behind them as they were, and ws
-- is made of these
pub more_turns : (made_of : ℕ → ℕ → ℕ) (s : Sampling) (full vs xs ws : List ℕ) (d n m j : ℕ)
    → m ≡ n → j ≡ n → d % 24 ≡ 0 → length vs ≡ d → xs ≡ vs ++ take m (drop d full)
    → length xs ≡ d + n → length ws ≡ n
    → ((k : ℕ) → k < d → get_or vs k 0 ≡ made_of (component_in_row s k) (get_or full k 0))
    → ((i : ℕ) → i < length ws
    → get_or ws i 0 ≡ made_of (component_in_row s i) (get_or (take j (drop d xs)) i 0))
    → (k : ℕ) → k < d + n
    → get_or (put_mid d j xs ws) k 0 ≡ made_of (component_in_row s k) (get_or full k 0)
more_turns made_of s full vs xs ws d n m j of_m of_j turns long is whole some made each k h =
    let us : List ℕ = take m (drop d full) in
    elim (cases_lt k d) [
      | inl l ↦
          put_below d j xs ws k (omega arith) l ∙ ap (λ ys. get_or ys k 0) is
          ∙ get_or_append_left vs us 0 k (omega arith) ∙ made k l
      | inr g ↦
          let i : ℕ = k - d in
          let at : d + i ≡ k = omega arith in
          let was : get_or (take j (drop d xs)) i 0 ≡ get_or full (d + i) 0 =
          get_or-take j (drop d xs) i 0 (omega arith) ∙ get_or-drop d xs i 0
          ∙ ap (λ ys. get_or ys (d + i) 0) is
          ∙ get_or-append_right vs us d (d + i) 0 long (omega arith)
          ∙ get_or-take m (drop d full) (d + i - d) 0 (omega arith)
          ∙ get_or-drop d full (d + i - d) 0
          ∙ ap (λ e. get_or full e 0) (omega arith) in
          put_within d j xs ws k (omega arith) g (omega arith) ∙ each i (omega arith)
          ∙ (λ e. made_of (component_on s d i turns e) (was e))
          ∙ ap (λ e. made_of (component_in_row s e) (get_or full e 0)) at
    ]
