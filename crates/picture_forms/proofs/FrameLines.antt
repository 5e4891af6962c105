-- The line of a frame, and the frame, read.
use Rattle.std.proofs.Common.{◌≡◌, ℕ, Bool, false, List, [], Option, Result, Ok, Err, refl}
use Rattle.std.proofs.Common.{sym, ap}
use Rattle.std.specs.Prelude.{⊤}
use Rattle.st_format.specs.declared.format.Format.{Format}
use Rattle.st_format.specs.Reading.{◌>>=◌}
use Rattle.picture_forms.specs.declared.fault.FormFault.{FormFault}
use Rattle.picture_forms.specs.Faults.{IsShown}
use Rattle.picture_forms.specs.Frames.{frame_line_at, frame_mark, frame_walk, parameters_at}
use Rattle.picture_forms.specs.Frames.{planes_at}
use Rattle.picture_forms.specs.Walks.{IsCut, Reads, Refuses, field_at}
use Rattle.picture_forms.proofs.Walked.{Reading, field_refuses, gives_none, reads_of, reads_same}
use Rattle.picture_forms.proofs.Walked.{reads_then, refuses_first, refuses_of, refuses_same}
use Rattle.picture_forms.proofs.Walked.{refuses_then}

-- ---- parameters

abbrev nothing_said : List ℕ → Reading ⊤
nothing_said text rest = Ok (tt, rest)

pub no_parameters : (w : Option (List ℕ)) (a : List ℕ) → Reads (parameters_at false) w w a a tt
no_parameters w a =
    reads_of (parameters_at false) w w a a [] tt (gives_none w a) (λ behind. refl)

-- ---- the line

abbrev behind_start : List ℕ → Reading ⊤
behind_start head rest = frame_mark head >>= λ more. parameters_at more rest

pub no_start : (w l : Option (List ℕ)) (a b : List ℕ) (e : Type 0) (f : FormFault)
    → IsCut f 6 w l a b e → Refuses frame_line_at w l a b e f
unfolding frame_line_at
no_start w l a b e f p =
    refuses_first (field_at 6) behind_start w l a b e f (field_refuses f 6 w l a b e p)

marked : (head : List ℕ) (more : Bool) → Ok more ≡ frame_mark head → (o : List ℕ)
    → behind_start head o ≡ parameters_at more o
marked head more is o =
    ap (λ (r : Result Bool FormFault). r >>= λ m. parameters_at m o) (sym is)

not_marked : (head : List ℕ) (f : FormFault) → Err f ≡ frame_mark head → (o : List ℕ)
    → behind_start head o ≡ Err f
not_marked head f is o =
    ap (λ (r : Result Bool FormFault). r >>= λ m. parameters_at m o) (sym is)

pub no_mark : (w l : Option (List ℕ)) (a b head : List ℕ) (e : Type 0) (f : FormFault)
    → Reads (field_at 6) w l a b head → Err f ≡ frame_mark head → IsShown f
    → Refuses frame_line_at w l a b e f
unfolding frame_line_at
no_mark w l a b head e f p is shown =
    refuses_then (field_at 6) behind_start w l l a b b e head f p
    (refuses_of (behind_start head) l l b b [] e f shown (gives_none l b)
    (λ behind. not_marked head f is behind))

pub line_refused : (w m l : Option (List ℕ)) (a b c head : List ℕ) (e : Type 0) (more : Bool)
    (f : FormFault) → Reads (field_at 6) w m a b head → Ok more ≡ frame_mark head
    → Refuses (parameters_at more) m l b c e f → Refuses frame_line_at w l a c e f
unfolding frame_line_at
line_refused w m l a b c head e more f p is q =
    refuses_then (field_at 6) behind_start w m l a b c e head f p
    (refuses_same (parameters_at more) (behind_start head) m l b c e f (marked head more is) q)

pub line_read : (w m l : Option (List ℕ)) (a b c head : List ℕ) (more : Bool)
    → Reads (field_at 6) w m a b head → Ok more ≡ frame_mark head
    → Reads (parameters_at more) m l b c tt → Reads frame_line_at w l a c tt
unfolding frame_line_at
line_read w m l a b c head more p is q =
    reads_then (field_at 6) behind_start w m l a b c head tt p
    (reads_same (parameters_at more) (behind_start head) m l b c tt (marked head more is) q)

-- ---- the frame

abbrev behind_line : Format → ⊤ → Reading (List ℕ)
behind_line f x = planes_at f

pub frame_no_line : (g : Format) (w l : Option (List ℕ)) (a b : List ℕ) (e : Type 0)
    (f : FormFault) → Refuses frame_line_at w l a b e f → Refuses (frame_walk g) w l a b e f
unfolding frame_walk
frame_no_line g w l a b e f p = refuses_first frame_line_at (behind_line g) w l a b e f p

pub frame_refused : (g : Format) (w m l : Option (List ℕ)) (a b c : List ℕ) (e : Type 0)
    (f : FormFault) → Reads frame_line_at w m a b tt → Refuses (planes_at g) m l b c e f
    → Refuses (frame_walk g) w l a c e f
unfolding frame_walk
frame_refused g w m l a b c e f p q =
    refuses_then frame_line_at (behind_line g) w m l a b c e tt f p q

pub frame_read : (g : Format) (w m l : Option (List ℕ)) (a b c text : List ℕ)
    → Reads frame_line_at w m a b tt → Reads (planes_at g) m l b c text
    → Reads (frame_walk g) w l a c text
unfolding frame_walk
frame_read g w m l a b c text p q =
    reads_then frame_line_at (behind_line g) w m l a b c tt text p q
