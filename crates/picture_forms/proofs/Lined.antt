-- Lines that are read.
use Rattle.std.proofs.Common.{◌≡◌, ◌≢◌, ℕ, ◌+◌, ◌<◌, true, false, eqb, ltb, List, []}
use Rattle.std.proofs.Common.{◌∷◌, ◌++◌, length, take, drop, Option, Ok, Err, append_assoc}
use Rattle.std.proofs.Common.{append-nil, refl, sym, ap, ◌∙◌, arith}
use Rattle.std.specs.List.{AllByRecursion, position_or_len}
use Rattle.std.proofs.lemmas.Bool.{lt-ltb, le-ltb, ne_eqb}
use Rattle.std.proofs.lemmas.List.{length-append, take_at, drop_at}
use Rattle.picture_forms.specs.declared.fault.FormFault.{FormFault}
use Rattle.picture_forms.specs.declared.fault.FormFault.TheVariants.{BadHeader, Device, Truncated}
use Rattle.picture_forms.specs.Walks.{Gives, IsCut, Reads, Refuses, line_at}
use Rattle.picture_forms.proofs.Walked.{gives_both, reads_of}
use Rattle.picture_forms.proofs.Walked.{refuses_of}

abbrev pub Plain : List ℕ → Type 0
Plain text = AllByRecursion (λ o. o ≢ 10) text

abbrev before : List ℕ → ℕ
before octets = position_or_len (λ octet. eqb octet 10) octets

before_plain : (text rest : List ℕ) → Plain text
    → before (text ++ rest) ≡ length text + before rest
before_plain [] rest plain = omega arith
before_plain (x ∷ text) rest plain =
    let other : eqb x 10 ≡ false = ne_eqb x 10 plain.0 in
    let more : before (text ++ rest) ≡ length text + before rest =
    before_plain text rest plain.1 in
    rw other (omega (arith, more))

pub line_again : (most : ℕ) (text behind : List ℕ) → Plain text → length text < most
    → line_at most ((text ++ 10 ∷ []) ++ behind) ≡ Ok (text, behind)
unfolding line_at
line_again most text behind plain lt =
    let all : List ℕ = text ++ 10 ∷ behind in
    let same : (text ++ 10 ∷ []) ++ behind ≡ all = append_assoc text (10 ∷ []) behind in
    let n : before all ≡ length text = before_plain text (10 ∷ behind) plain ∙ omega arith in
    let short : ltb (length text) most ≡ true = lt-ltb (length text) most lt in
    let long : length all ≡ length text + length (10 ∷ behind) =
    length-append text (10 ∷ behind) in
    let within : ltb (length text) (length all) ≡ true =
    lt-ltb (length text) (length all) (omega (arith, long)) in
    let front : take (length text) all ≡ text = take_at text (10 ∷ behind) (length text) refl in
    let back : drop (length text + 1) all ≡ behind =
    ap (drop (length text + 1)) (sym same)
    ∙ drop_at (text ++ 10 ∷ []) behind (length text + 1)
    (length-append text (10 ∷ []) ∙ omega arith) in
    rw (same, n, short, within, front, back) refl

pub line_cut : (most : ℕ) (text : List ℕ) → Plain text → length text < most
    → line_at most text ≡ Err Truncated
unfolding line_at
line_cut most text plain lt =
    let n : before text ≡ length text =
    sym (ap before (append-nil text)) ∙ before_plain text [] plain ∙ omega arith in
    let short : ltb (length text) most ≡ true = lt-ltb (length text) most lt in
    let over : ltb (length text) (length text) ≡ false =
    le-ltb (length text) (length text) (omega arith) in
    rw (n, short, over) refl

pub line_long : (most : ℕ) (text behind : List ℕ) → Plain text → length text ≡ most
    → line_at most (text ++ behind) ≡ Err BadHeader
unfolding line_at
line_long most text behind plain is =
    let n : before (text ++ behind) ≡ length text + before behind =
    before_plain text behind plain in
    let long : ltb (before (text ++ behind)) most ≡ false =
    le-ltb (before (text ++ behind)) most (omega (arith, n)) in
    rw long refl

-- ---- from a source

pub line_reads : (most : ℕ) (w m l : Option (List ℕ)) (a b c text : List ℕ) → Plain text
    → length text < most → Gives w m a b text → Gives m l b c (10 ∷ [])
    → Reads (line_at most) w l a c text
line_reads most w m l a b c text plain lt p q =
    reads_of (line_at most) w l a c (text ++ 10 ∷ []) text
    (gives_both w m l a b c text (10 ∷ []) p q)
    (λ behind. line_again most text behind plain lt)

pub line_refuses : (most : ℕ) (w m l : Option (List ℕ)) (a b c text : List ℕ) (e : Type 0)
    (f : FormFault) → Plain text → length text < most → Gives w m a b text
    → IsCut f 1 m l b c e → Refuses (line_at most) w l a c e f
line_refuses most w m l a b c text e f plain lt p q = by f q
  where
    empty : (part : List ℕ) → length part < 1 → part ≡ []
    empty [] lt = refl
    empty (x ∷ part) lt = absurd (omega (arith, lt))

    cut : (part : List ℕ) → length part < 1 → line_at most (text ++ part) ≡ Err Truncated
    cut part none =
        ap (line_at most) (ap (λ (t : List ℕ). text ++ t) (empty part none) ∙ append-nil text)
        ∙ line_cut most text plain lt

    by : (f : FormFault) → IsCut f 1 m l b c e → Refuses (line_at most) w l a c e f
    by Device q = record {
      part = text ++ q.part;
      gives = gives_both w m l a b c text q.part p q.gives;
      finds = (Truncated, cut q.part q.short);
    }
    by Truncated q = record {
      part = text ++ q.part;
      gives = gives_both w m l a b c text q.part p q.gives;
      finds = (q.short.1.0, (q.short.1.1, cut q.part q.short.0));
    }
    by g q = absurd q.short

pub line_over : (most : ℕ) (w l : Option (List ℕ)) (a b text : List ℕ) (e : Type 0) → Plain text
    → length text ≡ most → Gives w l a b text → Refuses (line_at most) w l a b e BadHeader
line_over most w l a b text e plain is p =
    refuses_of (line_at most) w l a b text e BadHeader tt p
    (λ behind. line_long most text behind plain is)
