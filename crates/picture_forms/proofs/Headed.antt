-- The head of a stream, read.
use Rattle.std.proofs.Common.{◌≡◌, ℕ, List, Option, Result, Ok, Err, sym}
use Rattle.std.specs.Prelude.{⊤, IfErr, IfOk}
use Rattle.st_format.specs.declared.format.Format.{Format}
use Rattle.st_format.specs.Fields.{Fields, fields_of, made_fields}
use Rattle.st_format.specs.Given.{with_rest}
use Rattle.picture_forms.specs.declared.fault.FormFault.{FormFault}
use Rattle.picture_forms.specs.Faults.{IsShown}
use Rattle.picture_forms.specs.Heads.{head_at, head_walk, name_at, name_of}
use Rattle.picture_forms.specs.Walks.{IsCut, Reads, Refuses, field_at, line_at}
use Rattle.picture_forms.proofs.Walked.{Reading, field_refuses, pure_reads, pure_refuses}
use Rattle.picture_forms.proofs.Walked.{reads_pure, reads_then, refuses_first, refuses_pure}
use Rattle.picture_forms.proofs.Walked.{refuses_then, then_reads}

-- ---- the name

pub name_cut : (w l : Option (List ℕ)) (a b : List ℕ) (e : Type 0) (f : FormFault)
    → IsCut f 9 w l a b e → Refuses name_at w l a b e f
unfolding name_at
name_cut w l a b e f p =
    refuses_first (field_at 9) (λ z rest. with_rest (name_of z) rest) w l a b e f
    (field_refuses f 9 w l a b e p)

pub name_reads : (w l : Option (List ℕ)) (a b name : List ℕ) (r : Result ⊤ FormFault)
    → Reads (field_at 9) w l a b name → r ≡ name_of name → IfOk r (λ x. Reads name_at w l a b x)
unfolding name_at
name_reads w l a b name r p is = pure_reads (field_at 9) name_of w l a b name r p is

pub name_refuses : (w l : Option (List ℕ)) (a b name : List ℕ) (e : Type 0)
    (r : Result ⊤ FormFault) → Reads (field_at 9) w l a b name → r ≡ name_of name
    → IfErr r IsShown → IfErr r (λ f. Refuses name_at w l a b e f)
unfolding name_at
name_refuses w l a b name e r p is shown =
    pure_refuses (field_at 9) name_of w l a b e name r p is shown

-- ---- the head

abbrev says_format : List ℕ → Reading Fields
says_format text rest = with_rest (head_at text) rest

abbrev behind_name : ⊤ → Reading Fields
behind_name x = then_reads (line_at 256) says_format

pub head_no_name : (w l : Option (List ℕ)) (a b : List ℕ) (e : Type 0) (f : FormFault)
    → Refuses name_at w l a b e f → Refuses head_walk w l a b e f
unfolding head_walk
head_no_name w l a b e f p = refuses_first name_at behind_name w l a b e f p

pub head_no_line : (w m l : Option (List ℕ)) (a b c : List ℕ) (e : Type 0) (f : FormFault)
    → Reads name_at w m a b tt → Refuses (line_at 256) m l b c e f → Refuses head_walk w l a c e f
unfolding head_walk
head_no_line w m l a b c e f p q =
    refuses_then name_at behind_name w m l a b c e tt f p
    (refuses_first (line_at 256) says_format m l b c e f q)

pub head_reads : (w m l : Option (List ℕ)) (a b c text : List ℕ) (r : Result Format FormFault)
    → Reads name_at w m a b tt → Reads (line_at 256) m l b c text
    → made_fields r ≡ head_at text → IfOk r (λ f. Reads head_walk w l a c (fields_of f))
unfolding head_walk
head_reads w m l a b c text (Ok f) p q is =
    reads_then name_at behind_name w m l a b c tt (fields_of f) p
    (reads_then (line_at 256) says_format m l l b c c text (fields_of f) q
    (reads_pure (head_at text) l c (fields_of f) (sym is)))
head_reads w m l a b c text (Err f) p q is = tt

pub head_refuses : (w m l : Option (List ℕ)) (a b c text : List ℕ) (e : Type 0)
    (r : Result Format FormFault) → Reads name_at w m a b tt → Reads (line_at 256) m l b c text
    → made_fields r ≡ head_at text → IfErr r IsShown
    → IfErr r (λ f. Refuses head_walk w l a c e f)
unfolding head_walk
head_refuses w m l a b c text e (Ok f) p q is shown = tt
head_refuses w m l a b c text e (Err f) p q is shown =
    refuses_then name_at behind_name w m l a b c e tt f p
    (refuses_then (line_at 256) says_format m l l b c c e text f q
    (refuses_pure (head_at text) l c e f shown (sym is)))
