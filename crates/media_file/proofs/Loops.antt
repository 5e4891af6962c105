-- A loop that reads records up to the end.
use Rattle.std.proofs.Common.{◌≡◌, ℕ, zero, suc, ◌-◌, List, [], ◌∷◌, ◌++◌, Option, None, Some}
use Rattle.std.proofs.Common.{Result, Ok, Err, append_assoc, append-nil, refl, sym, ap, ◌∙◌, subst}
use Rattle.std.proofs.Common.{arith}
use Rattle.std.specs.Prelude.{⊤}
use Rattle.std.specs.Io.KnownBytes.{Consumes, IsAtEnd}
use Rattle.media_file.specs.declared.fault.FileFault.{FileFault}
use Rattle.media_file.specs.declared.fault.FileFault.TheVariants.{TooManyRecords}
use Rattle.media_file.specs.Capture.{Content, capture_walk, records_at}
use Rattle.media_file.specs.Fields.{Fails}
use Rattle.st_format.specs.Given.{Takes}
use Rattle.st_format.specs.Reading.{◌>>=◌}
use Rattle.media_file.specs.Fronts.{front_at}
use Rattle.media_file.specs.Reading.{rest_at}
use Rattle.media_file.specs.Records.{Entry, Fits, path_octet, rest_text}
use Rattle.media_file.specs.Source.{FailsRest, ReadsRest}
use Rattle.media_file.proofs.Entries.{rest_again}
use Rattle.st_format.proofs.Origins.{if_content_weaker}
use Rattle.st_format.proofs.Parsing.{gives_then, fails_first, fails_then}
use Rattle.media_file.specs.Faults.{file_fault_origin}

abbrev pub Many : Type 0
Many = Result (List Entry × List ℕ) FileFault

-- records that were read before
abbrev pub with_front : List Entry → Many → Many
with_front front read = read >>= λ x. Ok (front ++ x.0, x.1)

-- what is left to read completes what was read
abbrev pub GoesOn : ℕ → Option (List ℕ) → ℕ → List Entry → Option (List ℕ) → Type 0
GoesOn limit None left so_far now = ⊤
GoesOn limit (Some o) left so_far None = ⊥
GoesOn limit (Some o) left so_far (Some m) =
    records_at limit o ≡ with_front so_far (records_at left m)

front_more : (es : List Entry) (e : Entry) (r : Many)
    → with_front es (r >>= λ y. Ok (e ∷ y.0, y.1)) ≡ with_front (es ++ e ∷ []) r
front_more es e (Ok x) =
    ap (λ (xs : List Entry). let q : Many = Ok (xs, x.1) in q) (sym (append_assoc es (e ∷ []) x.0))
front_more es e (Err f) = refl

one_more : (left : ℕ) (so_far : List Entry) (first : ℕ) (m rest : List ℕ) (e : Entry) → Fits e
    → first ≡ path_octet e.path → m ≡ rest_text e ++ rest
    → with_front so_far (records_at (suc left) (first ∷ m))
    ≡ with_front (so_far ++ e ∷ []) (records_at left rest)
unfolding records_at
one_more left so_far first m rest e fits is given =
    let read : rest_at first m ≡ Ok (e, rest) =
    ap (λ (n : ℕ). rest_at n m) is ∙ ap (rest_at (path_octet e.path)) given
    ∙ rest_again e rest fits in
    ap (λ (r : Result (Entry × List ℕ) FileFault). with_front so_far
    (r >>= λ x. records_at left x.1 >>= λ y. Ok (x.0 ∷ y.0, y.1))) read
    ∙ front_more so_far e (records_at left rest)

-- a record more
pub goes_on_more : (limit left : ℕ) (old now mid new : Option (List ℕ)) (so_far : List Entry)
    (first : ℕ) (e : Entry) → GoesOn limit old (suc left) so_far now
    → Consumes now mid (first ∷ []) → ReadsRest first mid new e
    → GoesOn limit old left (so_far ++ e ∷ []) new
goes_on_more limit left None now mid new so_far first e p q is = tt
goes_on_more limit left (Some o) None mid new so_far first e p q is = absurd p
goes_on_more limit left (Some o) (Some n) None new so_far first e p q is = absurd q
goes_on_more limit left (Some o) (Some n) (Some m) None so_far first e p q is = absurd is.given
goes_on_more limit left (Some o) (Some n) (Some m) (Some rest) so_far first e p q is =
    p ∙ ap (λ (t : List ℕ). with_front so_far (records_at (suc left) t)) q
    ∙ one_more left so_far first m rest e is.fits is.first_is is.given

one_fault : (left : ℕ) (so_far : List Entry) (first : ℕ) (m : List ℕ) (f : FileFault)
    → rest_at first m ≡ Err f → with_front so_far (records_at (suc left) (first ∷ m)) ≡ Err f
unfolding records_at
one_fault left so_far first m f e =
    ap (λ (r : Result (Entry × List ℕ) FileFault). with_front so_far
    (r >>= λ x. records_at left x.1 >>= λ y. Ok (x.0 ∷ y.0, y.1))) e

many : (so_far : List Entry) (first : ℕ) (m : List ℕ)
    → with_front so_far (records_at 0 (first ∷ m)) ≡ Err TooManyRecords
unfolding records_at
many so_far first m = refl

records_none : (left : ℕ) → records_at left [] ≡ Ok ([], [])
unfolding records_at
records_none zero = refl
records_none (suc left) = refl

-- the end
pub goes_on_end : (limit left : ℕ) (old now new : Option (List ℕ)) (so_far : List Entry)
    → GoesOn limit old left so_far now → Consumes now new [] → IsAtEnd new
    → Takes (records_at limit) old new so_far
goes_on_end limit left None now new so_far p q e = tt
goes_on_end limit left (Some o) None new so_far p q e = absurd p
goes_on_end limit left (Some o) (Some n) None so_far p q e = absurd q
goes_on_end limit left (Some o) (Some n) (Some m) so_far p q e =
    p ∙ ap (λ (t : List ℕ). with_front so_far (records_at left t)) (q ∙ e)
    ∙ ap (with_front so_far) (records_none left)
    ∙ ap (λ (xs : List Entry). let r : Many = Ok (xs, []) in r) (append-nil so_far)
    ∙ ap (λ (t : List ℕ). let r : Many = Ok (so_far, t) in r) (sym e)

-- a fault of the record that begins
pub goes_on_fault : (limit left : ℕ) (old now mid : Option (List ℕ)) (so_far : List Entry)
    (first : ℕ) (f : FileFault) → GoesOn limit old (suc left) so_far now
    → Consumes now mid (first ∷ []) → FailsRest f first mid → Fails (records_at limit) old f
goes_on_fault limit left None now mid so_far first f p q is = tt
goes_on_fault limit left (Some o) None mid so_far first f p q is = absurd p
goes_on_fault limit left (Some o) (Some n) None so_far first f p q is = absurd q
goes_on_fault limit left (Some o) (Some n) (Some m) so_far first f p q is =
    if_content_weaker file_fault_origin f (rest_at first m ≡ Err f) (records_at limit o ≡ Err f)
    (λ e. p ∙ ap (λ (t : List ℕ). with_front so_far (records_at (suc left) t)) q
    ∙ one_fault left so_far first m f e) is.content

-- the same where some are left
pub one_less : (limit left : ℕ) (old now : Option (List ℕ)) (so_far : List Entry) → (left ≡ 0 → ⊥)
    → GoesOn limit old left so_far now → GoesOn limit old (suc (left - 1)) so_far now
one_less limit left old now so_far some p = let e : left ≡ suc (left - 1) =
    omega arith in subst (λ (n : ℕ). GoesOn limit old n so_far now) e p

-- a record too many
pub goes_on_many : (limit : ℕ) (old now mid : Option (List ℕ)) (so_far : List Entry) (first : ℕ)
    → GoesOn limit old 0 so_far now → Consumes now mid (first ∷ [])
    → Fails (records_at limit) old TooManyRecords
goes_on_many limit None now mid so_far first p q = tt
goes_on_many limit (Some o) None mid so_far first p q = absurd p
goes_on_many limit (Some o) (Some n) None so_far first p q = absurd q
goes_on_many limit (Some o) (Some n) (Some m) so_far first p q =
    p ∙ ap (λ (t : List ℕ). with_front so_far (records_at 0 t)) q ∙ many so_far first m

-- an option that is no Some is None
pub none_left : (o : Option ℕ) → ((x : ℕ) → o ≡ Some x → ⊥) → o ≡ None
none_left None h = refl
none_left (Some x) h = absurd (h x refl)

abbrev records_of : ℕ → List ℕ → List ℕ → Result (Content × List ℕ) FileFault
records_of limit text octets =
    records_at limit octets >>= λ y. Ok (record { text = text; records = y.0 }, y.1)

records_gives : (limit : ℕ) (text : List ℕ) (mid new : Option (List ℕ)) (es : List Entry)
    → Takes (records_at limit) mid new es
    → Takes (records_of limit text) mid new (record { text = text; records = es })
records_gives limit text None new es p = tt
records_gives limit text (Some m) None es p = absurd p
records_gives limit text (Some m) (Some rest) es p =
    ap (λ (r : Many). r >>= λ y. let q : Result (Content × List ℕ) FileFault =
    Ok (record { text = text; records = y.0 }, y.1) in q) p

records_fails : (limit : ℕ) (text : List ℕ) (mid : Option (List ℕ)) (f : FileFault)
    → Fails (records_at limit) mid f → Fails (records_of limit text) mid f
records_fails limit text None f p = tt
records_fails limit text (Some m) f p =
    if_content_weaker file_fault_origin f (records_at limit m ≡ Err f)
    (records_of limit text m ≡ Err f)
    (λ e. ap
    (λ (r : Many). r >>= λ y. let q : Result (Content × List ℕ) FileFault =
    Ok (record { text = text; records = y.0 }, y.1) in q) e) p

-- a capture is its front and its records
pub capture_gives : (limit : ℕ) (old mid new : Option (List ℕ)) (text : List ℕ) (es : List Entry)
    → Takes front_at old mid text → Takes (records_at limit) mid new es
    → Takes (capture_walk limit) old new (record { text = text; records = es })
unfolding capture_walk
capture_gives limit old mid new text es p q =
    gives_then front_at (records_of limit) old mid new text
    (record { text = text; records = es }) p (records_gives limit text mid new es q)

pub capture_fails : (limit : ℕ) (old mid : Option (List ℕ)) (text : List ℕ) (f : FileFault)
    → Takes front_at old mid text → Fails (records_at limit) mid f
    → Fails (capture_walk limit) old f
unfolding capture_walk
capture_fails limit old mid text f p q =
    fails_then file_fault_origin front_at (records_of limit) old mid text f p
    (records_fails limit text mid f q)

pub capture_cut : (limit : ℕ) (old : Option (List ℕ)) (f : FileFault) → Fails front_at old f
    → Fails (capture_walk limit) old f
unfolding capture_walk
capture_cut limit old f p = fails_first file_fault_origin front_at (records_of limit) old f p
