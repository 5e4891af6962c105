-- Samples of a pixmap that fit the depth, by the octets that spell them.
use Rattle.std.proofs.Common.{◌≡◌, ℕ, ◌+◌, ◌*◌, Bool, true, cond, List, [], ◌++◌, length}
use Rattle.std.proofs.Common.{map, Option, Result, Ok, Err, append-nil, sym, ap, ◌∙◌, arith}
use Rattle.std.specs.List.{AllByRecursion, list_all, range_with_len}
use Rattle.st_format.specs.declared.format.Format.{Format}
use Rattle.st_format.specs.Given.{with_rest}
use Rattle.st_format.specs.Pgroup.{bits_of}
use Rattle.st_format.specs.Picture.{FitsDepth, IsPicture, Values}
use Rattle.st_format.specs.Position.{sample_count}
use Rattle.st_format.specs.Reading.{◌>>=◌}
use Rattle.picture_forms.specs.declared.fault.FormFault.{FormFault}
use Rattle.picture_forms.specs.declared.fault.FormFault.TheVariants.{ValueTooLarge}
use Rattle.picture_forms.specs.declared.planes.Spelling.{Spelling}
use Rattle.picture_forms.specs.Frames.{fitting, spelled_values}
use Rattle.picture_forms.specs.Layouts.{pixels_text, pixmap_spelling}
use Rattle.picture_forms.specs.Pixmaps.{pixels_size, pixels_walk}
use Rattle.picture_forms.specs.Planes.{every}
use Rattle.picture_forms.specs.Walks.{Gives, IsCut, Reads, Refuses, field_at}
use Rattle.picture_forms.proofs.Fitted.{at_all, every_values, fits, from_all, good, large}
use Rattle.picture_forms.proofs.Fitted.{none_spelled, not_true, run_passed, run_passes}
use Rattle.picture_forms.proofs.Given.{every_long}
use Rattle.picture_forms.proofs.Placed.{pixels_every}
use Rattle.picture_forms.proofs.Walked.{field_again, field_reads, field_refuses, reads_pure}
use Rattle.picture_forms.proofs.Walked.{reads_then, refuses_first, refuses_pure, refuses_then}

abbrev all_values : Values → List ℕ
all_values v = map (every v.samples 0 1) (range_with_len 0 (sample_count v.format))

pixels_spelled : (v : Values)
    → spelled_values (pixmap_spelling v.format.depth) (pixels_text v) ≡ all_values v
pixels_spelled v =
    let s : Spelling = pixmap_spelling v.format.depth in
    ap (spelled_values s) (pixels_every v ∙ sym (append-nil _))
    ∙ every_values s v.samples [] 0 1 0 (sample_count v.format)
    ∙ ap (λ (t : List ℕ). all_values v ++ t) (none_spelled s) ∙ append-nil (all_values v)

abbrev passes : Values → Bool
passes v =
    list_all (fits (bits_of v.format.depth))
    (spelled_values (pixmap_spelling v.format.depth) (pixels_text v))

all_pass : (v : Values) → length v.samples ≡ sample_count v.format
    → AllByRecursion (FitsDepth v.format) v.samples → passes v ≡ true
all_pass v long all =
    ap (list_all (fits (bits_of v.format.depth))) (pixels_spelled v)
    ∙ run_passes (bits_of v.format.depth) (every v.samples 0 1) 0 (sample_count v.format)
    (λ k le below. at_all (FitsDepth v.format) v.samples all (0 + 1 * k)
    (omega (arith, below, long)))

all_passed : (v : Values) → length v.samples ≡ sample_count v.format → passes v ≡ true
    → AllByRecursion (FitsDepth v.format) v.samples
all_passed v long e =
    let each : list_all (fits (bits_of v.format.depth)) (all_values v) ≡ true =
    sym (ap (list_all (fits (bits_of v.format.depth))) (pixels_spelled v)) ∙ e in
    from_all (FitsDepth v.format) v.samples
    (λ j lt. let i : 0 + 1 * (0 + j) ≡ j = omega arith in
    rw i at
    (run_passed (bits_of v.format.depth) (every v.samples 0 1) 0 (sample_count v.format) each j
    (omega (arith, lt, long))))

pub pixels_fit : (v : Values) → length v.samples ≡ sample_count v.format
    → AllByRecursion (FitsDepth v.format) v.samples
    → fitting (pixmap_spelling v.format.depth) (bits_of v.format.depth) (pixels_text v)
    ≡ Ok (pixels_text v)
unfolding fitting
pixels_fit v long all =
    ap (λ (b : Bool). cond b (good (pixels_text v)) large) (all_pass v long all)

pixels_large : (v : Values) → length v.samples ≡ sample_count v.format
    → (AllByRecursion (FitsDepth v.format) v.samples → ⊥)
    → fitting (pixmap_spelling v.format.depth) (bits_of v.format.depth) (pixels_text v)
    ≡ Err ValueTooLarge
unfolding fitting
pixels_large v long none =
    ap (λ (b : Bool). cond b (good (pixels_text v)) large)
    (not_true (passes v) (λ e. none (all_passed v long e)))

pub pixels_long : (v : Values) → length (pixels_text v) ≡ pixels_size v.format
pixels_long v =
    ap length (pixels_every v)
    ∙ every_long (pixmap_spelling v.format.depth) v.samples 0 1 0 (sample_count v.format)

-- ---- from a source

abbrev fit_in : Format → List ℕ → List ℕ → Result (List ℕ × List ℕ) FormFault
fit_in f text rest = with_rest (fitting (pixmap_spelling f.depth) (bits_of f.depth) text) rest

pub pixels_cut : (g : Format) (w l : Option (List ℕ)) (a b : List ℕ) (e : Type 0)
    (f : FormFault) → IsCut f (pixels_size g) w l a b e → Refuses (pixels_walk g) w l a b e f
unfolding pixels_walk
pixels_cut g w l a b e f p =
    refuses_first (field_at (pixels_size g)) (fit_in g) w l a b e f
    (field_refuses f (pixels_size g) w l a b e p)

pub pixels_read : (v : Values) (w l : Option (List ℕ)) (a b : List ℕ)
    → length v.samples ≡ sample_count v.format → AllByRecursion (FitsDepth v.format) v.samples
    → Gives w l a b (pixels_text v) → Reads (pixels_walk v.format) w l a b (pixels_text v)
unfolding pixels_walk
pixels_read v w l a b long all p =
    reads_then (field_at (pixels_size v.format)) (fit_in v.format) w l l a b b (pixels_text v)
    (pixels_text v)
    (field_reads (pixels_size v.format) w l a b (pixels_text v) (pixels_long v) p)
    (reads_pure (fitting (pixmap_spelling v.format.depth) (bits_of v.format.depth) (pixels_text v))
    l b (pixels_text v) (pixels_fit v long all))

pub pixels_refused : (v : Values) (w l : Option (List ℕ)) (a b : List ℕ) (e : Type 0)
    → length v.samples ≡ sample_count v.format
    → (AllByRecursion (FitsDepth v.format) v.samples → ⊥) → Gives w l a b (pixels_text v)
    → Refuses (pixels_walk v.format) w l a b e ValueTooLarge
unfolding pixels_walk
pixels_refused v w l a b e long none p =
    refuses_then (field_at (pixels_size v.format)) (fit_in v.format) w l l a b b e (pixels_text v)
    ValueTooLarge
    (field_reads (pixels_size v.format) w l a b (pixels_text v) (pixels_long v) p)
    (refuses_pure
    (fitting (pixmap_spelling v.format.depth) (bits_of v.format.depth) (pixels_text v)) l b e
    ValueTooLarge tt (pixels_large v long none))

-- ---- what is written is read

pub pixels_again : (v : Values) (behind : List ℕ) → IsPicture v
    → pixels_walk v.format (pixels_text v ++ behind) ≡ Ok (pixels_text v, behind)
unfolding pixels_walk
pixels_again v behind is =
    ap (λ (r : Result (List ℕ × List ℕ) FormFault). r >>=
    λ x. with_rest (fitting (pixmap_spelling v.format.depth) (bits_of v.format.depth) x.0) x.1)
    (field_again (pixels_size v.format) (pixels_text v) behind (pixels_long v))
    ∙ ap (λ (r : Result (List ℕ) FormFault). with_rest r behind)
    (pixels_fit v is.whole is.fit)
