-- Numbers of a pixmap's head, read octet by octet from a source.
use Rattle.std.proofs.Common.{◌≡◌, ℕ, suc, ◌<◌, List, [], ◌∷◌, ◌++◌, length, Option, Err}
use Rattle.std.proofs.Common.{append_assoc, refl, ap, ◌∙◌, subst, arith}
use Rattle.picture_forms.specs.declared.fault.FormFault.{FormFault}
use Rattle.picture_forms.specs.declared.fault.FormFault.TheVariants.{BadHeader, Device, Truncated}
use Rattle.picture_forms.specs.declared.number_part.NumberPart.{NumberPart}
use Rattle.picture_forms.specs.declared.number_part.NumberStep.{NumberStep}
use Rattle.picture_forms.specs.declared.number_part.NumberStep.TheVariants.{More, Done, Wrong}
use Rattle.picture_forms.specs.declared.number_part.Stage.{Stage}
use Rattle.picture_forms.specs.Numbers.{count_at, number_by, number_step, number_then, part_at}
use Rattle.picture_forms.specs.Walks.{Gives, IsCut, Reads, Refuses}
use Rattle.picture_forms.proofs.Walked.{gives_both, gives_none, reads_of, refuses_of}

-- Octets were given behind which a number goes on as this part, with so many octets at most.
pub record InNumber (w l : Option (List ℕ)) (a b : List ℕ) (most : ℕ) (first : NumberPart)
    (left : ℕ) (p : NumberPart) : Type 0 where
  pub text : List ℕ
  pub given : Gives w l a b text
  pub goes : (behind : List ℕ) → number_by most first (text ++ behind) ≡ number_by left p behind

pub number_first : (w : Option (List ℕ)) (a : List ℕ) (most : ℕ) (first : NumberPart)
    → InNumber w w a a most first most first
number_first w a most first =
    record { text = []; given = gives_none w a; goes = λ behind. refl }

-- by one octet
pub one_on : (left : ℕ) (p : NumberPart) (s : NumberStep) (octet : ℕ) (behind : List ℕ)
    → number_step p octet ≡ s
    → number_by (suc left) p (octet ∷ behind) ≡ number_then (number_by left) s behind
unfolding number_by
one_on left p s octet behind is =
    ap (λ (t : NumberStep). number_then (number_by left) t behind) is

stepped : (w m : Option (List ℕ)) (a b : List ℕ) (most left octet : ℕ) (first p : NumberPart)
    (s : NumberStep) (g : InNumber w m a b most first (suc left) p) → number_step p octet ≡ s
    → (behind : List ℕ)
    → number_by most first ((g.text ++ octet ∷ []) ++ behind)
    ≡ number_then (number_by left) s behind
stepped w m a b most left octet first p s g is behind =
    ap (number_by most first) (append_assoc g.text (octet ∷ []) behind)
    ∙ g.goes (octet ∷ behind)
    ∙ one_on left p s octet behind is

more_on : (w m l : Option (List ℕ)) (a b c : List ℕ) (most left octet : ℕ)
    (first p q : NumberPart) → InNumber w m a b most first (suc left) p
    → Gives m l b c (octet ∷ []) → number_step p octet ≡ More q
    → InNumber w l a c most first left q
more_on w m l a b c most left octet first p q g given is = record {
  text = g.text ++ octet ∷ [];
  given = gives_both w m l a b c g.text (octet ∷ []) g.given given;
  goes = stepped w m a b most left octet first p (More q) g is;
}

done_on : (w m l : Option (List ℕ)) (a b c : List ℕ) (most left octet value : ℕ)
    (first p : NumberPart) → InNumber w m a b most first (suc left) p
    → Gives m l b c (octet ∷ []) → number_step p octet ≡ Done value
    → Reads (number_by most first) w l a c value
done_on w m l a b c most left octet value first p g given is =
    reads_of (number_by most first) w l a c (g.text ++ octet ∷ []) value
    (gives_both w m l a b c g.text (octet ∷ []) g.given given)
    (stepped w m a b most left octet first p (Done value) g is)

wrong_on : (w m l : Option (List ℕ)) (a b c : List ℕ) (e : Type 0) (most left octet : ℕ)
    (first p : NumberPart) → InNumber w m a b most first (suc left) p
    → Gives m l b c (octet ∷ []) → number_step p octet ≡ Wrong
    → Refuses (number_by most first) w l a c e BadHeader
wrong_on w m l a b c e most left octet first p g given is =
    refuses_of (number_by most first) w l a c (g.text ++ octet ∷ []) e BadHeader tt
    (gives_both w m l a b c g.text (octet ∷ []) g.given given)
    (stepped w m a b most left octet first p Wrong g is)

pub none_on : (left : ℕ) (p : NumberPart) → number_by (suc left) p [] ≡ Err Truncated
unfolding number_by
none_on left p = refl

cut_on : (w m l : Option (List ℕ)) (a b c : List ℕ) (e : Type 0) (most left : ℕ)
    (first p : NumberPart) (f : FormFault) → InNumber w m a b most first (suc left) p
    → IsCut f 1 m l b c e → Refuses (number_by most first) w l a c e f
cut_on w m l a b c e most left first p f g q = by f q
  where
    empty : (part : List ℕ) → length part < 1 → part ≡ []
    empty [] lt = refl
    empty (x ∷ part) lt = absurd (omega (arith, lt))

    cut : (part : List ℕ) → length part < 1 → number_by most first (g.text ++ part) ≡ Err Truncated
    cut part none =
        ap (number_by most first) (ap (λ (t : List ℕ). g.text ++ t) (empty part none))
        ∙ g.goes [] ∙ none_on left p

    by : (f : FormFault) → IsCut f 1 m l b c e → Refuses (number_by most first) w l a c e f
    by Device q = record {
      part = g.text ++ q.part;
      gives = gives_both w m l a b c g.text q.part g.given q.gives;
      finds = (Truncated, cut q.part q.short);
    }
    by Truncated q = record {
      part = g.text ++ q.part;
      gives = gives_both w m l a b c g.text q.part g.given q.gives;
      finds = (q.short.1.0, (q.short.1.1, cut q.part q.short.0));
    }
    by g q = absurd q.short

pub over_on : (p : NumberPart) (behind : List ℕ) → number_by 0 p behind ≡ Err BadHeader
unfolding number_by
over_on p behind = refl

-- ---- by how many octets may still come

at_left : (w m : Option (List ℕ)) (a b : List ℕ) (most n left : ℕ) (first p : NumberPart)
    → n ≡ left → InNumber w m a b most first n p → InNumber w m a b most first left p
at_left w m a b most n left first p e g =
    subst (λ (k : ℕ). InNumber w m a b most first k p) e g

pub number_more : (w m l : Option (List ℕ)) (a b c : List ℕ) (most n left octet : ℕ)
    (first p q : NumberPart) → n ≡ suc left → InNumber w m a b most first n p
    → Gives m l b c (octet ∷ []) → number_step p octet ≡ More q
    → InNumber w l a c most first left q
number_more w m l a b c most n left octet first p q e g given is =
    more_on w m l a b c most left octet first p q
    (at_left w m a b most n (suc left) first p e g) given is

number_done : (w m l : Option (List ℕ)) (a b c : List ℕ) (most n left octet value : ℕ)
    (first p : NumberPart) → n ≡ suc left → InNumber w m a b most first n p
    → Gives m l b c (octet ∷ []) → number_step p octet ≡ Done value
    → Reads (number_by most first) w l a c value
number_done w m l a b c most n left octet value first p e g given is =
    done_on w m l a b c most left octet value first p
    (at_left w m a b most n (suc left) first p e g) given is

number_wrong : (w m l : Option (List ℕ)) (a b c : List ℕ) (e : Type 0)
    (most n left octet : ℕ) (first p : NumberPart) → n ≡ suc left
    → InNumber w m a b most first n p → Gives m l b c (octet ∷ [])
    → number_step p octet ≡ Wrong → Refuses (number_by most first) w l a c e BadHeader
number_wrong w m l a b c e most n left octet first p eq g given is =
    wrong_on w m l a b c e most left octet first p
    (at_left w m a b most n (suc left) first p eq g) given is

number_cut : (w m l : Option (List ℕ)) (a b c : List ℕ) (e : Type 0) (most n left : ℕ)
    (first p : NumberPart) (f : FormFault) → n ≡ suc left → InNumber w m a b most first n p
    → IsCut f 1 m l b c e → Refuses (number_by most first) w l a c e f
number_cut w m l a b c e most n left first p f eq g q =
    cut_on w m l a b c e most left first p f (at_left w m a b most n (suc left) first p eq g) q

number_over : (w l : Option (List ℕ)) (a b : List ℕ) (e : Type 0) (most n : ℕ)
    (first p : NumberPart) → n ≡ 0 → InNumber w l a b most first n p
    → Refuses (number_by most first) w l a b e BadHeader
number_over w l a b e most n first p eq g =
    let h = at_left w l a b most n 0 first p eq g in
    refuses_of (number_by most first) w l a b h.text e BadHeader tt h.given
    (λ behind. h.goes behind ∙ over_on p behind)

-- ---- of a number from its first octet on

pub count_done : (w m l : Option (List ℕ)) (a b c : List ℕ) (n left octet value : ℕ) (s : Stage)
    (p : NumberPart) → n ≡ suc left → InNumber w m a b 1024 (part_at s 0) n p
    → Gives m l b c (octet ∷ []) → number_step p octet ≡ Done value
    → Reads (count_at s) w l a c value
unfolding count_at
count_done w m l a b c n left octet value s p e g given is =
    number_done w m l a b c 1024 n left octet value (part_at s 0) p e g given is

pub count_wrong : (w m l : Option (List ℕ)) (a b c : List ℕ) (e : Type 0) (n left octet : ℕ)
    (s : Stage) (p : NumberPart) → n ≡ suc left → InNumber w m a b 1024 (part_at s 0) n p
    → Gives m l b c (octet ∷ []) → number_step p octet ≡ Wrong
    → Refuses (count_at s) w l a c e BadHeader
unfolding count_at
count_wrong w m l a b c e n left octet s p eq g given is =
    number_wrong w m l a b c e 1024 n left octet (part_at s 0) p eq g given is

pub count_cut : (w m l : Option (List ℕ)) (a b c : List ℕ) (e : Type 0) (n left : ℕ) (s : Stage)
    (p : NumberPart) (f : FormFault) → n ≡ suc left → InNumber w m a b 1024 (part_at s 0) n p
    → IsCut f 1 m l b c e → Refuses (count_at s) w l a c e f
unfolding count_at
count_cut w m l a b c e n left s p f eq g q =
    number_cut w m l a b c e 1024 n left (part_at s 0) p f eq g q

pub count_over : (w l : Option (List ℕ)) (a b : List ℕ) (e : Type 0) (n : ℕ) (s : Stage)
    (p : NumberPart) → n ≡ 0 → InNumber w l a b 1024 (part_at s 0) n p
    → Refuses (count_at s) w l a b e BadHeader
unfolding count_at
count_over w l a b e n s p eq g = number_over w l a b e 1024 n (part_at s 0) p eq g
