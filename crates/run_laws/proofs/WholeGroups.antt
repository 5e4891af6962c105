-- What segments offer has whole groups: of a group, each sample is missing or none is.
use Rattle.std.proofs.Common.{◌≡◌, ℕ, suc, ◌+◌, ◌*◌, ◌/◌, ◌<◌, ◌≤◌, Bool, true, false, cond}
use Rattle.std.proofs.Common.{eqb, ◌&&◌, List, [], ◌∷◌, ◌++◌, inl, inr, length, map, refl, sym}
use Rattle.std.proofs.Common.{ap, ◌∙◌, subst, arith}
use Rattle.std.specs.List.{AllByRecursion, filter, list_all}
use Rattle.std.proofs.lemmas.Bool.{cases_lt, eq-eqb, eqb-false, eqb-true}
use Rattle.std.proofs.Math.Nat.{mul-add}
use Rattle.st_format.specs.declared.cell.Cell.{Cell}
use Rattle.st_format.specs.declared.cell.Cell.TheVariants.{Missing, Value, Contested}
use Rattle.st_format.specs.declared.format.Format.{Format}
use Rattle.st_format.specs.Cell.{cell_of_values, is_missing, join}
use Rattle.st_format.specs.Offer.{Offer, cell_of, is_for, values_for}
use Rattle.st_format.specs.Pgroup.{bits_of, pixel_group}
use Rattle.st_format.specs.Position.{Position, number_of, place, same_place}
use Rattle.st_format.specs.Raster.{Segment, first_number, offers_from, offers_in, offers_in_all}
use Rattle.st_format.specs.Samples.{values_in}
use Rattle.st_format.proofs.Cells.{cell_of-append, is_for-true}
use Rattle.st_format.proofs.Numbering.{number_of-place}
use Rattle.payload_header.specs.Payload.{IsInside}
use Rattle.frame_assembly.proofs.PackedLemmas.{AreSizes, length-groups, sizes}
use Rattle.frame_assembly.proofs.Runs.{times_le}
use Rattle.frame_assembly.proofs.Segments.{first_group, first_sample, segment_octets}

-- ---- one offer more

seen_at : (v : ℕ) (t : Bool) → is_missing (cond t (Value v) Contested) ≡ false
seen_at v true = refl
seen_at v false = refl

abbrev seen_if : Bool → Offer → List Offer → Bool
seen_if b o rest = is_missing (cell_of_values (map (λ (x : Offer). x.value) (cond b (o ∷ rest) rest)))

for_it : (ts : ℕ) (p : Position) (o : Offer) (os : List Offer) → is_for ts p o ≡ true
    → is_missing (cell_of (o ∷ os) ts p) ≡ false
for_it ts p o os e =
    ap (λ (b : Bool). seen_if b o (filter (is_for ts p) os)) e
    ∙ seen_at o.value (list_all (λ w. eqb w o.value) (values_for os ts p))

not_for : (ts : ℕ) (p : Position) (o : Offer) (os : List Offer) → is_for ts p o ≡ false
    → is_missing (cell_of (o ∷ os) ts p) ≡ is_missing (cell_of os ts p)
not_for ts p o os e = ap (λ (b : Bool). seen_if b o (filter (is_for ts p) os)) e

-- ---- offers for samples, one after the other

abbrev at : Format → ℕ → ℕ → ℕ → Offer
at f ts k v = record { timestamp = ts; position = place f k; value = v }

same_place-refl : (p : Position) → same_place p p ≡ true
same_place-refl p =
    rw (
      eq-eqb p.row p.row refl,
      eq-eqb p.column p.column refl,
      eq-eqb p.component p.component refl,
    ) refl

hit : (f : Format) (ts k v : ℕ) → is_for ts (place f k) (at f ts k v) ≡ true
hit f ts k v = rw (eq-eqb ts ts refl, same_place-refl (place f k)) refl

missed_at : (f : Format) (ts other k v i : ℕ) (b : Bool)
    → is_for ts (place f i) (at f other k v) ≡ b → ((other ≡ ts) × (k ≡ i) → ⊥) → b ≡ false
missed_at f ts other k v i false e none = refl
missed_at f ts other k v i true e none =
    let is = is_for-true ts (place f i) (at f other k v) e in
    absurd (none (
      is.0,
      sym (number_of-place f k) ∙ ap (number_of f) is.1 ∙ number_of-place f i,
    ))

missed : (f : Format) (ts other k v i : ℕ) → ((other ≡ ts) × (k ≡ i) → ⊥)
    → is_for ts (place f i) (at f other k v) ≡ false
missed f ts other k v i none =
    missed_at f ts other k v i (is_for ts (place f i) (at f other k v)) refl none

inside_at : (f : Format) (ts k i v : ℕ) (vs : List ℕ) (b : Bool) → k ≤ i → eqb k i ≡ b
    → (k + 1 ≤ i → is_missing (cell_of (offers_from f ts (k + 1) vs) ts (place f i)) ≡ false)
    → is_missing (cell_of (offers_from f ts k (v ∷ vs)) ts (place f i)) ≡ false
inside_at f ts k i v vs true le e rest =
    for_it ts (place f i) (at f ts k v) (offers_from f ts (k + 1) vs)
    (subst (λ (n : ℕ). is_for ts (place f n) (at f ts k v) ≡ true) (eqb-true k i e) (hit f ts k v))
inside_at f ts k i v vs false le e rest =
    let ne : k ≡ i → ⊥ = eqb-false k i e in
    not_for ts (place f i) (at f ts k v) (offers_from f ts (k + 1) vs)
    (missed f ts ts k v i (λ both. ne both.1))
    ∙ rest (omega (arith, le, ne))

inside : (f : Format) (ts k i : ℕ) (vs : List ℕ) → k ≤ i → i < k + length vs
    → is_missing (cell_of (offers_from f ts k vs) ts (place f i)) ≡ false
inside f ts k i [] le lt = absurd (omega (arith, le, lt))
inside f ts k i (v ∷ vs) le lt =
    inside_at f ts k i v vs (eqb k i) le refl (λ m. inside f ts (k + 1) i vs m (omega (arith, lt)))

outside : (f : Format) (ts other k i : ℕ) (vs : List ℕ)
    → ((j : ℕ) → j < length vs → (other ≡ ts) × (k + j ≡ i) → ⊥)
    → is_missing (cell_of (offers_from f other k vs) ts (place f i)) ≡ true
outside f ts other k i [] none = refl
outside f ts other k i (v ∷ vs) none =
    not_for ts (place f i) (at f other k v) (offers_from f other (k + 1) vs)
    (missed f ts other k v i
    (λ both. none 0 (omega arith) (both.0, (let e = both.1 in omega (arith, e)))))
    ∙ outside f ts other (k + 1) i vs
    (λ j lt both. none (suc j) (omega (arith, lt))
    (both.0, (let e = both.1 in omega (arith, e))))

-- ---- whole groups

abbrev pub samples : Format → ℕ
samples f = (pixel_group f.sampling f.depth).samples

-- of each group, the samples of these offers are all missing at a timestamp, or none is
abbrev pub WholeAt : Format → ℕ → List Offer → Type 0
WholeAt f ts os = (g i j : ℕ) → i < samples f → j < samples f
    → is_missing (cell_of os ts (place f (samples f * g + i)))
    ≡ is_missing (cell_of os ts (place f (samples f * g + j)))

pub whole_none : (f : Format) (ts : ℕ) → WholeAt f ts []
whole_none f ts g i j a b = refl

missing-join : (a b : Cell) → is_missing (join a b) ≡ (is_missing a && is_missing b)
missing-join Missing b = refl
missing-join (Value v) Missing = refl
missing-join (Value v) (Value w) = seen_at v (eqb v w)
missing-join (Value v) Contested = refl
missing-join Contested b = refl

missing-append : (xs ys : List Offer) (ts : ℕ) (p : Position)
    → is_missing (cell_of (xs ++ ys) ts p)
    ≡ (is_missing (cell_of xs ts p) && is_missing (cell_of ys ts p))
missing-append xs ys ts p =
    ap is_missing (cell_of-append xs ys ts p) ∙ missing-join (cell_of xs ts p) (cell_of ys ts p)

pub whole-append : (f : Format) (ts : ℕ) (xs ys : List Offer) → WholeAt f ts xs → WholeAt f ts ys
    → WholeAt f ts (xs ++ ys)
whole-append f ts xs ys p q g i j a b =
    let s : Position = place f (samples f * g + i) in
    let t : Position = place f (samples f * g + j) in
    missing-append xs ys ts s
    ∙ ap (λ (m : Bool). m && is_missing (cell_of ys ts s)) (p g i j a b)
    ∙ ap (λ (m : Bool). is_missing (cell_of xs ts t) && m) (q g i j a b)
    ∙ sym (missing-append xs ys ts t)

-- ---- a run of whole groups

end_of : (size g : ℕ) → size * (g + 1) ≡ size * g + size
end_of size g = mul-add size g 1 ∙ (let e : size * g + size * 1 ≡ size * g + size = omega arith in e)

-- a group before the run, in it, or behind it
before_run : (size g first j n i k : ℕ) → g < first → k ≡ size * first → i < size
    → k + j ≡ size * g + i → ⊥
before_run size g first j n i k lt at_first small e =
    omega (arith, times_le size (g + 1) first (omega (arith, lt)), end_of size g, at_first, small, e)

behind_run : (size g first count j n i k : ℕ) → first + count ≤ g → k ≡ size * first
    → n ≡ size * count → j < n → k + j ≡ size * g + i → ⊥
behind_run size g first count j n i k le at_first long lt e =
    omega (
      arith,
      times_le size (first + count) g le,
      mul-add size first count,
      at_first,
      long,
      lt,
      e,
    )

in_run : (f : Format) (ts g first count i k : ℕ) (vs : List ℕ) → k ≡ samples f * first
    → length vs ≡ samples f * count → first ≤ g → g < first + count → i < samples f
    → is_missing (cell_of (offers_from f ts k vs) ts (place f (samples f * g + i))) ≡ false
in_run f ts g first count i k vs at_first long le lt small =
    inside f ts k (samples f * g + i) vs
    (omega (arith, times_le (samples f) first g le, at_first))
    (omega (
      arith,
      times_le (samples f) (g + 1) (first + count) (omega (arith, lt)),
      end_of (samples f) g,
      mul-add (samples f) first count,
      at_first,
      long,
      small,
    ))

out_of_run : (f : Format) (ts g i k : ℕ) (vs : List ℕ)
    → ((j : ℕ) → j < length vs → k + j ≡ samples f * g + i → ⊥)
    → is_missing (cell_of (offers_from f ts k vs) ts (place f (samples f * g + i))) ≡ true
out_of_run f ts g i k vs none =
    outside f ts ts k (samples f * g + i) vs (λ j lt both. none j lt both.1)

run_behind : (f : Format) (ts first count k : ℕ) (vs : List ℕ) → k ≡ samples f * first
    → length vs ≡ samples f * count → (g i j : ℕ) → i < samples f → j < samples f → first ≤ g
    → is_missing (cell_of (offers_from f ts k vs) ts (place f (samples f * g + i)))
    ≡ is_missing (cell_of (offers_from f ts k vs) ts (place f (samples f * g + j)))
run_behind f ts first count k vs at_first long g i j a b le =
    elim (cases_lt g (first + count)) [
      | inl lt ↦ in_run f ts g first count i k vs at_first long le lt a
          ∙ sym (in_run f ts g first count j k vs at_first long le lt b)
      | inr past ↦ out_of_run f ts g i k vs
          (λ n lt e. behind_run (samples f) g first count n (length vs) i k past at_first long lt e)
          ∙ sym (out_of_run f ts g j k vs
          (λ n lt e. behind_run (samples f) g first count n (length vs) j k past at_first long lt e))
    ]

run_whole : (f : Format) (ts first count k : ℕ) (vs : List ℕ) → k ≡ samples f * first
    → length vs ≡ samples f * count → WholeAt f ts (offers_from f ts k vs)
run_whole f ts first count k vs at_first long g i j a b =
    elim (cases_lt g first) [
      | inl lt ↦ out_of_run f ts g i k vs
          (λ n m e. before_run (samples f) g first n (length vs) i k lt at_first a e)
          ∙ sym (out_of_run f ts g j k vs
          (λ n m e. before_run (samples f) g first n (length vs) j k lt at_first b e))
      | inr le ↦ run_behind f ts first count k vs at_first long g i j a b le
    ]

-- ---- segments

no_run : (f : Format) (ts other k : ℕ) (vs : List ℕ)
    → ((j : ℕ) → j < length vs → other ≡ ts → ⊥) → WholeAt f ts (offers_from f other k vs)
no_run f ts other k vs none g i j a b =
    outside f ts other k (samples f * g + i) vs (λ n lt both. none n lt both.0)
    ∙ sym (outside f ts other k (samples f * g + j) vs (λ n lt both. none n lt both.0))

abbrev count_in : Format → Segment → ℕ
count_in f s = length s.octets / (pixel_group f.sampling f.depth).octets

abbrev spelled : Format → Segment → List ℕ
spelled f s = values_in (bits_of f.depth) s.octets

none_in : (f : Format) (s : Segment) → length s.octets ≡ 0 → length (spelled f s) ≡ 0
none_in f s none =
    let are : AreSizes (bits_of f.depth) (pixel_group f.sampling f.depth).octets (samples f) =
    sizes f.sampling f.depth in
    length-groups (bits_of f.depth) (pixel_group f.sampling f.depth).octets (samples f) 0 s.octets
    are (omega (arith, none)) ∙ omega arith

segment_now : (f : Format) (ts : ℕ) (s : Segment) (b : Bool) → eqb (length s.octets) 0 ≡ b
    → (0 < length s.octets → IsInside s f) → WholeAt f ts (offers_in f ts s)
segment_now f ts s true e is =
    let none : length (spelled f s) ≡ 0 = none_in f s (eqb-true (length s.octets) 0 e) in
    no_run f ts ts (first_number f s) (spelled f s) (λ j lt same. omega (arith, lt, none))
segment_now f ts s false e is =
    let ne : length s.octets ≡ 0 → ⊥ = eqb-false (length s.octets) 0 e in
    let within : IsInside s f = is (omega (arith, ne)) in
    run_whole f ts (first_group f s) (count_in f s) (first_number f s) (spelled f s)
    (sym (first_sample f s within))
    (length-groups (bits_of f.depth) (pixel_group f.sampling f.depth).octets (samples f)
    (count_in f s) s.octets (sizes f.sampling f.depth) (segment_octets f s within))

segment_at : (f : Format) (ts other : ℕ) (s : Segment) (b : Bool) → eqb other ts ≡ b
    → (0 < length s.octets → IsInside s f) → WholeAt f ts (offers_in f other s)
segment_at f ts other s true e is =
    subst (λ (t : ℕ). WholeAt f ts (offers_in f t s)) (sym (eqb-true other ts e))
    (segment_now f ts s (eqb (length s.octets) 0) refl is)
segment_at f ts other s false e is =
    no_run f ts other (first_number f s) (spelled f s) (λ j lt same. eqb-false other ts e same)

-- What segments offer has whole groups, where each that has octets lies at groups of the raster.
pub segments_whole : (f : Format) (ts other : ℕ) (ss : List Segment)
    → AllByRecursion (λ s. 0 < length s.octets → IsInside s f) ss
    → WholeAt f ts (offers_in_all f other ss)
segments_whole f ts other [] all = whole_none f ts
segments_whole f ts other (s ∷ ss) all =
    whole-append f ts (offers_in f other s) (offers_in_all f other ss)
    (segment_at f ts other s (eqb other ts) refl all.0) (segments_whole f ts other ss all.1)
