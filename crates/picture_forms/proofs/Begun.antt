-- A fault of a frame comes behind one octet at least.
use Rattle.std.proofs.Common.{◌≡◌, ℕ, ◌<◌, List, [], ◌∷◌, ◌++◌, length, Option, Result, Ok, Err}
use Rattle.std.proofs.Common.{append-nil, refl, sym, ap, arith}
use Rattle.std.proofs.lemmas.List.{length-append}
use Rattle.std.specs.Prelude.{⊤}
use Rattle.st_format.specs.declared.format.Format.{Format}
use Rattle.st_format.specs.Given.{GavePart, field_by}
use Rattle.st_format.specs.Reading.{◌>>=◌}
use Rattle.st_format.proofs.Origins.{if_content}
use Rattle.picture_forms.specs.declared.fault.FormFault.{FormFault}
use Rattle.picture_forms.specs.declared.fault.FormFault.TheVariants.{Truncated}
use Rattle.picture_forms.specs.Faults.{IfContent, form_fault_origin}
use Rattle.picture_forms.specs.Frames.{frame_line_at, frame_walk, planes_at}
use Rattle.picture_forms.specs.Walks.{Reads, Refuses, field_at}
use Rattle.picture_forms.proofs.Walked.{Reading, field_cut}

-- a fault behind octets that were given
pub some_behind : {X : Type 0} (r : Reading X) (m l : Option (List ℕ)) (a b c : List ℕ)
    (e : Type 0) (f : FormFault) → length a < length b → Refuses r m l b c e f
    → IfContent f (length a < length c)
some_behind r m l a b c e f lt p =
    if_content form_fault_origin f (length a < length c)
    (omega (arith, lt, ap length p.gives.grown, length-append b p.part))

clash : {V : Type 0} (q : Result V FormFault) (f : FormFault) (v : V) → q ≡ Err f → q ≡ Ok v → ⊥
clash q f v a b = cc

-- where no octet makes no value, a value was made of some
reads_more : {X : Type 0} (r : Reading X) (w l : Option (List ℕ)) (a b : List ℕ) (x : X)
    → r [] ≡ Err Truncated → Reads r w l a b x → length a < length b
reads_more {X} r w l a b x none p = by p.part p.gives.grown (p.says [])
  where
    by : (part : List ℕ) → b ≡ a ++ part → r (part ++ []) ≡ Ok (x, []) → length a < length b
    by [] grown says = absurd (clash (r []) Truncated (x, []) none says)
    by (o ∷ part) grown says =
        omega (arith, ap length grown, length-append a (o ∷ part))

pub field_more : (n : ℕ) (w l : Option (List ℕ)) (a b octets : List ℕ) → 0 < n
    → Reads (field_at n) w l a b octets → length a < length b
field_more n w l a b octets lt p =
    reads_more (field_at n) w l a b octets (field_cut n [] lt) p

-- so the line of a frame is some
no_line : frame_line_at [] ≡ Err Truncated
unfolding frame_line_at field_by
no_line = refl

pub line_more : (w l : Option (List ℕ)) (a b : List ℕ) → Reads frame_line_at w l a b tt
    → length a < length b
line_more w l a b p = reads_more frame_line_at w l a b tt no_line p

-- nothing has no frame
pub no_frame : (f : Format) (a : List ℕ) → GavePart (frame_walk f) a a
unfolding frame_walk
no_frame f a = record {
  part = [];
  grown = sym (append-nil a);
  fault = Truncated;
  none = ap (λ (r : Result (⊤ × List ℕ) FormFault). r >>= λ x. planes_at f x.1) no_line;
}
