-- The head of a pixmap, read.
use Rattle.std.proofs.Common.{◌≡◌, ℕ, List, Option, Result, Ok, Err, sym}
use Rattle.std.specs.Prelude.{⊤, IfErr, IfOk}
use Rattle.st_format.specs.declared.format.Format.{Format}
use Rattle.st_format.specs.Fields.{Fields, fields_of, made_fields}
use Rattle.st_format.specs.Given.{with_rest}
use Rattle.picture_forms.specs.declared.fault.FormFault.{FormFault}
use Rattle.picture_forms.specs.declared.number_part.Stage.TheVariants.{Front, Gap}
use Rattle.picture_forms.specs.Faults.{IsShown}
use Rattle.picture_forms.specs.Numbers.{count_at}
use Rattle.picture_forms.specs.Pixmaps.{magic_at, magic_of, pixmap_format, pixmap_head_walk}
use Rattle.picture_forms.specs.Walks.{IsCut, Reads, Refuses, field_at}
use Rattle.picture_forms.proofs.Walked.{Reading, field_refuses, pure_reads, pure_refuses}
use Rattle.picture_forms.proofs.Walked.{reads_pure, reads_then, refuses_first, refuses_pure}
use Rattle.picture_forms.proofs.Walked.{refuses_then, then_reads}

-- ---- the first octets

pub magic_cut : (w l : Option (List ℕ)) (a b : List ℕ) (e : Type 0) (f : FormFault)
    → IsCut f 2 w l a b e → Refuses magic_at w l a b e f
unfolding magic_at
magic_cut w l a b e f p =
    refuses_first (field_at 2) (λ z rest. with_rest (magic_of z) rest) w l a b e f
    (field_refuses f 2 w l a b e p)

pub magic_reads : (w l : Option (List ℕ)) (a b name : List ℕ) (r : Result ⊤ FormFault)
    → Reads (field_at 2) w l a b name → r ≡ magic_of name → IfOk r (λ x. Reads magic_at w l a b x)
unfolding magic_at
magic_reads w l a b name r p is = pure_reads (field_at 2) magic_of w l a b name r p is

pub magic_refuses : (w l : Option (List ℕ)) (a b name : List ℕ) (e : Type 0)
    (r : Result ⊤ FormFault) → Reads (field_at 2) w l a b name → r ≡ magic_of name
    → IfErr r IsShown → IfErr r (λ f. Refuses magic_at w l a b e f)
unfolding magic_at
magic_refuses w l a b name e r p is shown =
    pure_refuses (field_at 2) magic_of w l a b e name r p is shown

-- ---- the head

abbrev behind_most : ℕ → ℕ → ℕ → ℕ → ℕ → Reading Fields
behind_most n d w h m rest = with_rest (pixmap_format n d w h m) rest

abbrev behind_height : ℕ → ℕ → ℕ → ℕ → Reading Fields
behind_height n d w h = then_reads (count_at Gap) (behind_most n d w h)

abbrev behind_width : ℕ → ℕ → ℕ → Reading Fields
behind_width n d w = then_reads (count_at Gap) (behind_height n d w)

abbrev behind_magic : ℕ → ℕ → ⊤ → Reading Fields
behind_magic n d x = then_reads (count_at Front) (behind_width n d)

pub head_no_magic : (n d : ℕ) (w l : Option (List ℕ)) (a b : List ℕ) (e : Type 0) (f : FormFault)
    → Refuses magic_at w l a b e f → Refuses (pixmap_head_walk n d) w l a b e f
unfolding pixmap_head_walk
head_no_magic n d w l a b e f p = refuses_first magic_at (behind_magic n d) w l a b e f p

pub head_no_width : (n d : ℕ) (w m l : Option (List ℕ)) (a b c : List ℕ) (e : Type 0)
    (f : FormFault) → Reads magic_at w m a b tt → Refuses (count_at Front) m l b c e f
    → Refuses (pixmap_head_walk n d) w l a c e f
unfolding pixmap_head_walk
head_no_width n d w m l a b c e f p q =
    refuses_then magic_at (behind_magic n d) w m l a b c e tt f p
    (refuses_first (count_at Front) (behind_width n d) m l b c e f q)

pub head_no_height : (n d x : ℕ) (w m k l : Option (List ℕ)) (a b c z : List ℕ) (e : Type 0)
    (f : FormFault) → Reads magic_at w m a b tt → Reads (count_at Front) m k b c x
    → Refuses (count_at Gap) k l c z e f → Refuses (pixmap_head_walk n d) w l a z e f
unfolding pixmap_head_walk
head_no_height n d x w m k l a b c z e f p q r =
    refuses_then magic_at (behind_magic n d) w m l a b z e tt f p
    (refuses_then (count_at Front) (behind_width n d) m k l b c z e x f q
    (refuses_first (count_at Gap) (behind_height n d x) k l c z e f r))

pub head_no_most : (n d x y : ℕ) (w m k j l : Option (List ℕ)) (a b c z o : List ℕ) (e : Type 0)
    (f : FormFault) → Reads magic_at w m a b tt → Reads (count_at Front) m k b c x
    → Reads (count_at Gap) k j c z y → Refuses (count_at Gap) j l z o e f
    → Refuses (pixmap_head_walk n d) w l a o e f
unfolding pixmap_head_walk
head_no_most n d x y w m k j l a b c z o e f p q r s =
    refuses_then magic_at (behind_magic n d) w m l a b o e tt f p
    (refuses_then (count_at Front) (behind_width n d) m k l b c o e x f q
    (refuses_then (count_at Gap) (behind_height n d x) k j l c z o e y f r
    (refuses_first (count_at Gap) (behind_most n d x y) j l z o e f s)))

pub head_reads : (n d x y t : ℕ) (w m k j l : Option (List ℕ)) (a b c z o : List ℕ)
    (r : Result Format FormFault) → Reads magic_at w m a b tt → Reads (count_at Front) m k b c x
    → Reads (count_at Gap) k j c z y → Reads (count_at Gap) j l z o t
    → made_fields r ≡ pixmap_format n d x y t
    → IfOk r (λ f. Reads (pixmap_head_walk n d) w l a o (fields_of f))
unfolding pixmap_head_walk
head_reads n d x y t w m k j l a b c z o (Ok f) p q r s is =
    reads_then magic_at (behind_magic n d) w m l a b o tt (fields_of f) p
    (reads_then (count_at Front) (behind_width n d) m k l b c o x (fields_of f) q
    (reads_then (count_at Gap) (behind_height n d x) k j l c z o y (fields_of f) r
    (reads_then (count_at Gap) (behind_most n d x y) j l l z o o t (fields_of f) s
    (reads_pure (pixmap_format n d x y t) l o (fields_of f) (sym is)))))
head_reads n d x y t w m k j l a b c z o (Err f) p q r s is = tt

pub head_refuses : (n d x y t : ℕ) (w m k j l : Option (List ℕ)) (a b c z o : List ℕ) (e : Type 0)
    (r : Result Format FormFault) → Reads magic_at w m a b tt → Reads (count_at Front) m k b c x
    → Reads (count_at Gap) k j c z y → Reads (count_at Gap) j l z o t
    → made_fields r ≡ pixmap_format n d x y t → IfErr r IsShown
    → IfErr r (λ f. Refuses (pixmap_head_walk n d) w l a o e f)
unfolding pixmap_head_walk
head_refuses n d x y t w m k j l a b c z o e (Ok f) p q r s is shown = tt
head_refuses n d x y t w m k j l a b c z o e (Err f) p q r s is shown =
    refuses_then magic_at (behind_magic n d) w m l a b o e tt f p
    (refuses_then (count_at Front) (behind_width n d) m k l b c o e x f q
    (refuses_then (count_at Gap) (behind_height n d x) k j l c z o e y f r
    (refuses_then (count_at Gap) (behind_most n d x y) j l l z o o e t f s
    (refuses_pure (pixmap_format n d x y t) l o e f shown (sym is)))))
