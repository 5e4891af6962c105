-- Values of planes that fit the depth, by the octets that spell them.
use Rattle.std.proofs.Common.{◌≡◌, ℕ, zero, suc, ◌+◌, ◌*◌, ◌/◌, ◌%◌, ◌^◌, ◌<◌, ◌≤◌, Bool, true}
use Rattle.std.proofs.Common.{false, cond}
use Rattle.std.proofs.Common.{◌&&◌, ltb, List, [], ◌∷◌, ◌++◌, length, get_or, map, Option, Result}
use Rattle.std.proofs.Common.{Ok}
use Rattle.std.proofs.Common.{Err, append_assoc, refl, sym, ap, ◌∙◌, arith}
use Rattle.std.specs.List.{AllByRecursion, list_all, range_with_len}
use Rattle.std.proofs.lemmas.Bool.{lt-ltb, ltb-true}
use Rattle.std.proofs.lemmas.List.{length-append}
use Rattle.std.proofs.lemmas.List.Folds.{list_all-append}
use Rattle.st_format.specs.declared.format.Format.{Format}
use Rattle.st_format.specs.Given.{with_rest}
use Rattle.st_format.specs.Pgroup.{bits_of}
use Rattle.st_format.specs.Picture.{FitsDepth, Values}
use Rattle.st_format.specs.Position.{sample_count}
use Rattle.picture_forms.specs.declared.fault.FormFault.{FormFault}
use Rattle.picture_forms.specs.declared.fault.FormFault.TheVariants.{ValueTooLarge}
use Rattle.picture_forms.specs.declared.planes.Spelling.{Spelling}
use Rattle.picture_forms.specs.declared.planes.Spelling.TheVariants.{One, Little, Big}
use Rattle.picture_forms.specs.Frames.{fitting, planes_at, planes_size, spelled_values}
use Rattle.picture_forms.specs.Layouts.{IsYcc, plane_count, plane_first, plane_step, plane_text}
use Rattle.picture_forms.specs.Layouts.{planes_text, y4m_spelling}
use Rattle.picture_forms.specs.Planes.{every, every_text, sample_text}
use Rattle.picture_forms.specs.Walks.{Gives, IsCut, Reads, Refuses, field_at}
use Rattle.std.proofs.Common.{append-nil}
use Rattle.picture_forms.proofs.Apart.{plane_long}
use Rattle.picture_forms.proofs.Once.{all_covered, by_component}
use Rattle.picture_forms.proofs.Placed.{plane_every, plane_within}
use Rattle.picture_forms.proofs.Texts.{inside_at}
use Rattle.picture_forms.proofs.Walked.{field_reads, field_refuses, reads_pure, reads_then}
use Rattle.picture_forms.proofs.Walked.{refuses_first, refuses_pure, refuses_then}

-- ---- values of octets

one_value : (s : Spelling) (v : ℕ) (rest : List ℕ)
    → spelled_values s (sample_text s v ++ rest) ≡ v ∷ spelled_values s rest
one_value One v rest = refl
one_value Little v rest =
    let e : v % 256 + v / 256 * 256 ≡ v = omega arith in
    rw e refl
one_value Big v rest =
    let e : v / 256 * 256 + v % 256 ≡ v = omega arith in
    rw e refl

-- the values of every so many samples, and those behind them
pub every_values : (s : Spelling) (xs rest : List ℕ) (first step a n : ℕ)
    → spelled_values s (every_text s xs first step a n ++ rest)
    ≡ map (every xs first step) (range_with_len a n) ++ spelled_values s rest
unfolding every_text
every_values s xs rest first step a zero = refl
every_values s xs rest first step a (suc n) =
    ap (spelled_values s)
    (append_assoc (sample_text s (every xs first step a))
    (every_text s xs first step (a + 1) n) rest)
    ∙ one_value s (every xs first step a) (every_text s xs first step (a + 1) n ++ rest)
    ∙ ap (λ (t : List ℕ). every xs first step a ∷ t)
    (every_values s xs rest first step (a + 1) n)

-- ---- tests of all

both : (a b : Bool) → a ≡ true → b ≡ true → (a && b) ≡ true
both a b p q = rw (p, q) refl

parts : (a b : Bool) → (a && b) ≡ true → (a ≡ true) × (b ≡ true)
parts true b e = (refl, e)
parts false b e = (cc, cc)

abbrev pub fits : ℕ → ℕ → Bool
fits bits v = ltb v (2 ^ bits)

-- each of a run of numbers passes
pub run_passes : (bits : ℕ) (g : ℕ → ℕ) (a n : ℕ)
    → ((k : ℕ) → a ≤ k → k < a + n → g k < 2 ^ bits)
    → list_all (fits bits) (map g (range_with_len a n)) ≡ true
run_passes bits g a zero h = refl
run_passes bits g a (suc n) h =
    both (fits bits (g a)) (list_all (fits bits) (map g (range_with_len (a + 1) n)))
    (lt-ltb (g a) (2 ^ bits) (h a (omega arith) (omega arith)))
    (run_passes bits g (a + 1) n (λ k le lt. h k (omega arith) (omega arith)))

pub run_passed : (bits : ℕ) (g : ℕ → ℕ) (a n : ℕ)
    → list_all (fits bits) (map g (range_with_len a n)) ≡ true
    → (k : ℕ) → k < n → g (a + k) < 2 ^ bits
run_passed bits g a zero e k lt = absurd (omega (arith, lt))
run_passed bits g a (suc n) e zero lt =
    let z : a + 0 ≡ a = omega arith in
    let p = parts (fits bits (g a)) (list_all (fits bits) (map g (range_with_len (a + 1) n))) e in
    rw z (ltb-true (g a) (2 ^ bits) p.0)
run_passed bits g a (suc n) e (suc k) lt =
    let z : a + suc k ≡ a + 1 + k = omega arith in
    let p = parts (fits bits (g a)) (list_all (fits bits) (map g (range_with_len (a + 1) n))) e in
    rw z (run_passed bits g (a + 1) n p.1 k (omega (arith, lt)))

-- each of a list's elements
pub at_all : (P : ℕ → Type 0) (xs : List ℕ) → AllByRecursion P xs → (k : ℕ) → k < length xs
    → P (get_or xs k 0)
at_all P [] all k lt = absurd (omega (arith, lt))
at_all P (x ∷ xs) all zero lt = all.0
at_all P (x ∷ xs) all (suc k) lt = at_all P xs all.1 k (omega (arith, lt))

pub from_all : (P : ℕ → Type 0) (xs : List ℕ) → ((k : ℕ) → k < length xs → P (get_or xs k 0))
    → AllByRecursion P xs
from_all P [] h = tt
from_all P (x ∷ xs) h =
    (h 0 (omega arith), from_all P xs (λ k lt. h (suc k) (omega (arith, lt))))

-- ---- planes

abbrev plane_values : Values → ℕ → List ℕ
plane_values v c =
    map (every v.samples (plane_first v.format.sampling c) (plane_step v.format.sampling c))
    (range_with_len 0 (plane_count v.format c))

plane_spelled : (v : Values) (c : ℕ) (rest : List ℕ) → IsYcc v.format.sampling → c < 3
    → spelled_values (y4m_spelling v.format.depth) (plane_text v c ++ rest)
    ≡ plane_values v c ++ spelled_values (y4m_spelling v.format.depth) rest
plane_spelled v c rest is lt =
    ap (λ (t : List ℕ). spelled_values (y4m_spelling v.format.depth) (t ++ rest))
    (plane_every v c is lt)
    ∙ every_values (y4m_spelling v.format.depth) v.samples rest (plane_first v.format.sampling c)
    (plane_step v.format.sampling c) 0 (plane_count v.format c)

pub none_spelled : (s : Spelling) → spelled_values s [] ≡ []
none_spelled One = refl
none_spelled Little = refl
none_spelled Big = refl

planes_spelled : (v : Values) → IsYcc v.format.sampling
    → spelled_values (y4m_spelling v.format.depth) (planes_text v)
    ≡ plane_values v 0 ++ (plane_values v 1 ++ (plane_values v 2 ++ []))
planes_spelled v is =
    let s : Spelling = y4m_spelling v.format.depth in
    plane_spelled v 0 (plane_text v 1 ++ plane_text v 2) is (omega arith)
    ∙ ap (λ (t : List ℕ). plane_values v 0 ++ t)
    (plane_spelled v 1 (plane_text v 2) is (omega arith)
    ∙ ap (λ (t : List ℕ). plane_values v 1 ++ t)
    (ap (spelled_values s) (sym (append-nil (plane_text v 2)))
    ∙ plane_spelled v 2 [] is (omega arith)
    ∙ ap (λ (t : List ℕ). plane_values v 2 ++ t) (none_spelled s)))

abbrev passes : Values → List ℕ → Bool
passes v xs = list_all (fits (bits_of v.format.depth)) xs

-- the test of all is the tests of the three
planes_test : (v : Values) → IsYcc v.format.sampling
    → passes v (spelled_values (y4m_spelling v.format.depth) (planes_text v))
    ≡ (passes v (plane_values v 0) && (passes v (plane_values v 1)
    && (passes v (plane_values v 2) && true)))
planes_test v is =
    let p : ℕ → Bool = fits (bits_of v.format.depth) in
    ap (passes v) (planes_spelled v is)
    ∙ list_all-append p (plane_values v 0) (plane_values v 1 ++ (plane_values v 2 ++ []))
    ∙ ap (λ (b : Bool). passes v (plane_values v 0) && b)
    (list_all-append p (plane_values v 1) (plane_values v 2 ++ [])
    ∙ ap (λ (b : Bool). passes v (plane_values v 1) && b)
    (list_all-append p (plane_values v 2) []))

plane_passes : (v : Values) (c : ℕ) → IsYcc v.format.sampling → c < 3
    → length v.samples ≡ sample_count v.format
    → AllByRecursion (FitsDepth v.format) v.samples → passes v (plane_values v c) ≡ true
plane_passes v c is lt long all =
    let first : ℕ = plane_first v.format.sampling c in
    let step : ℕ = plane_step v.format.sampling c in
    run_passes (bits_of v.format.depth) (every v.samples first step) 0 (plane_count v.format c)
    (λ k le below. at_all (FitsDepth v.format) v.samples all (first + step * k)
    (inside_at v.samples first step (plane_count v.format c) k (plane_within v c is lt long)
    (omega (arith, below))))

plane_passed : (v : Values) (c k : ℕ) → passes v (plane_values v c) ≡ true
    → k < plane_count v.format c
    → FitsDepth v.format
    (get_or v.samples (plane_first v.format.sampling c + plane_step v.format.sampling c * k) 0)
plane_passed v c k e lt =
    let z : 0 + k ≡ k = omega arith in
    rw z at
    (run_passed (bits_of v.format.depth)
    (every v.samples (plane_first v.format.sampling c) (plane_step v.format.sampling c)) 0
    (plane_count v.format c) e k lt)

all_pass : (v : Values) → IsYcc v.format.sampling → length v.samples ≡ sample_count v.format
    → AllByRecursion (FitsDepth v.format) v.samples
    → passes v (spelled_values (y4m_spelling v.format.depth) (planes_text v)) ≡ true
all_pass v is long all =
    planes_test v is
    ∙ both (passes v (plane_values v 0))
    (passes v (plane_values v 1) && (passes v (plane_values v 2) && true))
    (plane_passes v 0 is (omega arith) long all)
    (both (passes v (plane_values v 1)) (passes v (plane_values v 2) && true)
    (plane_passes v 1 is (omega arith) long all)
    (both (passes v (plane_values v 2)) true (plane_passes v 2 is (omega arith) long all) refl))

all_passed : (v : Values) → IsYcc v.format.sampling → length v.samples ≡ sample_count v.format
    → passes v (spelled_values (y4m_spelling v.format.depth) (planes_text v)) ≡ true
    → AllByRecursion (FitsDepth v.format) v.samples
all_passed v is long e =
    let t = parts (passes v (plane_values v 0))
    (passes v (plane_values v 1) && (passes v (plane_values v 2) && true))
    (sym (planes_test v is) ∙ e) in
    let u = parts (passes v (plane_values v 1)) (passes v (plane_values v 2) && true) t.1 in
    let w = parts (passes v (plane_values v 2)) true u.1 in
    let each : (c : ℕ) → c < 3 → passes v (plane_values v c) ≡ true =
    by_component (λ c. passes v (plane_values v c) ≡ true) t.0 u.0 w.0 in
    from_all (FitsDepth v.format) v.samples
    (λ j lt. all_covered v.format (λ i. FitsDepth v.format (get_or v.samples i 0)) is
    (λ c k top below. plane_passed v c k (each c top) below) j (omega (arith, lt, long)))

-- ---- the refusal

abbrev pub good : List ℕ → Result (List ℕ) FormFault
good text = Ok text

abbrev pub large : Result (List ℕ) FormFault
large = Err ValueTooLarge

pub not_true : (b : Bool) → (b ≡ true → ⊥) → b ≡ false
not_true true h = absurd (h refl)
not_true false h = refl

pub planes_fit : (v : Values) → IsYcc v.format.sampling
    → length v.samples ≡ sample_count v.format → AllByRecursion (FitsDepth v.format) v.samples
    → fitting (y4m_spelling v.format.depth) (bits_of v.format.depth) (planes_text v)
    ≡ Ok (planes_text v)
unfolding fitting
planes_fit v is long all =
    ap (λ (b : Bool). cond b (good (planes_text v)) large) (all_pass v is long all)

pub planes_large : (v : Values) → IsYcc v.format.sampling
    → length v.samples ≡ sample_count v.format
    → (AllByRecursion (FitsDepth v.format) v.samples → ⊥)
    → fitting (y4m_spelling v.format.depth) (bits_of v.format.depth) (planes_text v)
    ≡ Err ValueTooLarge
unfolding fitting
planes_large v is long none =
    ap (λ (b : Bool). cond b (good (planes_text v)) large)
    (not_true (passes v (spelled_values (y4m_spelling v.format.depth) (planes_text v)))
    (λ e. none (all_passed v is long e)))

-- ---- planes that are read

pub planes_long : (v : Values) → IsYcc v.format.sampling
    → length (planes_text v) ≡ planes_size v.format
planes_long v is =
    let a = plane_long v 0 is (omega arith) in
    let b = plane_long v 1 is (omega arith) in
    let c = plane_long v 2 is (omega arith) in
    omega (
      arith,
      a,
      b,
      c,
      length-append (plane_text v 0) (plane_text v 1 ++ plane_text v 2),
      length-append (plane_text v 1) (plane_text v 2),
    )

abbrev fit_in : Format → List ℕ → List ℕ → Result (List ℕ × List ℕ) FormFault
fit_in f text rest = with_rest (fitting (y4m_spelling f.depth) (bits_of f.depth) text) rest

pub planes_cut : (g : Format) (w l : Option (List ℕ)) (a b : List ℕ) (e : Type 0)
    (f : FormFault) → IsCut f (planes_size g) w l a b e → Refuses (planes_at g) w l a b e f
unfolding planes_at
planes_cut g w l a b e f p =
    refuses_first (field_at (planes_size g)) (fit_in g) w l a b e f
    (field_refuses f (planes_size g) w l a b e p)

pub planes_read : (v : Values) (w l : Option (List ℕ)) (a b : List ℕ) → IsYcc v.format.sampling
    → length v.samples ≡ sample_count v.format → AllByRecursion (FitsDepth v.format) v.samples
    → Gives w l a b (planes_text v) → Reads (planes_at v.format) w l a b (planes_text v)
unfolding planes_at
planes_read v w l a b is long all p =
    reads_then (field_at (planes_size v.format)) (fit_in v.format) w l l a b b (planes_text v)
    (planes_text v)
    (field_reads (planes_size v.format) w l a b (planes_text v) (planes_long v is) p)
    (reads_pure (fitting (y4m_spelling v.format.depth) (bits_of v.format.depth) (planes_text v))
    l b (planes_text v) (planes_fit v is long all))

pub planes_refused : (v : Values) (w l : Option (List ℕ)) (a b : List ℕ) (e : Type 0)
    → IsYcc v.format.sampling → length v.samples ≡ sample_count v.format
    → (AllByRecursion (FitsDepth v.format) v.samples → ⊥) → Gives w l a b (planes_text v)
    → Refuses (planes_at v.format) w l a b e ValueTooLarge
unfolding planes_at
planes_refused v w l a b e is long none p =
    refuses_then (field_at (planes_size v.format)) (fit_in v.format) w l l a b b e (planes_text v)
    ValueTooLarge
    (field_reads (planes_size v.format) w l a b (planes_text v) (planes_long v is) p)
    (refuses_pure (fitting (y4m_spelling v.format.depth) (bits_of v.format.depth) (planes_text v))
    l b e ValueTooLarge tt (planes_large v is long none))
