-- Samples of a plane that a source gave.
use Rattle.std.proofs.Common.{◌≡◌, ℕ, zero, suc, ◌+◌, ◌*◌, ◌<◌, ◌≤◌, List, length, Option}
use Rattle.std.proofs.Common.{refl, sym, ap, ◌∙◌, subst, arith}
use Rattle.std.proofs.lemmas.List.{length-append}
use Rattle.picture_forms.specs.declared.fault.FormFault.{FormFault}
use Rattle.picture_forms.specs.declared.planes.Spelling.{Spelling}
use Rattle.picture_forms.specs.declared.planes.Spelling.TheVariants.{One, Little, Big}
use Rattle.picture_forms.specs.Planes.{KeepsOthers, every, every_text, sample_size}
use Rattle.picture_forms.specs.Planes.{sample_text}
use Rattle.picture_forms.specs.Walks.{Gives, IsCut}
use Rattle.picture_forms.proofs.Texts.{every_front, every_more, every_none}
use Rattle.picture_forms.proofs.Filled.{elsewhere, every_same}
use Rattle.picture_forms.proofs.Walked.{cut_behind, gives_both, gives_none}

-- how many octets samples take
sample_long : (s : Spelling) (v : ℕ) → length (sample_text s v) ≡ sample_size s
sample_long One v = refl
sample_long Little v = refl
sample_long Big v = refl

pub every_long : (s : Spelling) (xs : List ℕ) (first step start n : ℕ)
    → length (every_text s xs first step start n) ≡ sample_size s * n
every_long s xs first step start zero =
    ap length (every_none s xs first step start) ∙ omega arith
every_long s xs first step start (suc n) =
    let e : suc n ≡ n + 1 = omega arith in
    let d : sample_size s * (n + 1) ≡ sample_size s * n + sample_size s = grind arith in
    rw (e, d)
    (ap length (every_more s xs first step start n)
    ∙ length-append (every_text s xs first step start n)
    (sample_text s (every xs first step (start + n)))
    ∙ ap (λ (k : ℕ). k + length (sample_text s (every xs first step (start + n))))
    (every_long s xs first step start n)
    ∙ ap (λ (k : ℕ). sample_size s * n + k)
    (sample_long s (every xs first step (start + n))))

-- samples that were put before stay
pub every_kept : (s : Spelling) (xs ys : List ℕ) (first step done n : ℕ) → first < step
    → KeepsOthers xs ys first step done n
    → every_text s xs first step 0 done ≡ every_text s ys first step 0 done
every_kept s xs ys first step done n low p =
    every_same s xs ys first step 0 done
    (λ k le lt. sym (p.others (first + step * k)
    (λ m from to e. elsewhere first step k m (omega arith) (omega arith) e)))

pub keeps_join : (old xs ys : List ℕ) (first step done n : ℕ)
    → KeepsOthers old xs first step 0 done → KeepsOthers xs ys first step done n
    → KeepsOthers old ys first step 0 (done + n)
keeps_join old xs ys first step done n p q = record {
  long = q.long ∙ p.long;
  others =
      λ j h. q.others j (λ k le lt. h k (omega arith) (omega arith))
      ∙ p.others j (λ k le lt. h k (omega arith) (omega arith));
}

-- a piece more
pub piece_given : (w m l : Option (List ℕ)) (a b c : List ℕ) (s : Spelling)
    (xs ys octets : List ℕ) (first step done n : ℕ) → first < step
    → KeepsOthers xs ys first step done n → Gives w m a b (every_text s xs first step 0 done)
    → Gives m l b c octets → every_text s ys first step done n ≡ octets
    → Gives w l a c (every_text s ys first step 0 (done + n))
piece_given w m l a b c s xs ys octets first step done n low p before more put =
    subst (Gives w l a c) (sym (every_front s ys first step done n))
    (gives_both w m l a b c (every_text s ys first step 0 done)
    (every_text s ys first step done n)
    (subst (Gives w m a b) (every_kept s xs ys first step done n low p) before)
    (subst (Gives m l b c) (sym put) more))

pub none_given : (o : Option (List ℕ)) (a : List ℕ) (s : Spelling) (xs : List ℕ)
    (first step : ℕ) → Gives o o a a (every_text s xs first step 0 0)
none_given o a s xs first step =
    subst (Gives o o a a) (sym (every_none s xs first step 0)) (gives_none o a)

-- cut within a piece
pub piece_fails : (f : FormFault) (w m l : Option (List ℕ)) (a b c : List ℕ) (e : Type 0)
    (s : Spelling) (xs : List ℕ) (first step done n count : ℕ) → done + n ≤ count
    → Gives w m a b (every_text s xs first step 0 done)
    → IsCut f (sample_size s * n) m l b c e → IsCut f (sample_size s * count) w l a c e
piece_fails f w m l a b c e s xs first step done n count le p cut =
    let long = every_long s xs first step 0 done in
    let room : sample_size s * done + sample_size s * n ≤ sample_size s * count = grind arith in
    cut_behind f w m l a b c (every_text s xs first step 0 done) e (sample_size s * n)
    (sample_size s * count) p (omega (arith, long, room)) cut
