-- Groups that are read and written after others.
use Rattle.std.proofs.Common.{◌≡◌, ℕ, zero, suc, ◌+◌, List, [], ◌∷◌, ◌++◌, Option, None, Some}
use Rattle.std.proofs.Common.{Result, Ok, Err, refl, sym, ap, ◌∙◌, subst, arith}
use Rattle.std.specs.Io.KnownBytes.{Appends}
use Rattle.std.proofs.KnownBytes.{Appends-trans}
use Rattle.std.proofs.lemmas.Grind.{flat_map-append}
use Rattle.st_format.specs.declared.cell.Cell.{Cell}
use Rattle.st_format.specs.Device.{AppendsPrefix}
use Rattle.media_file.specs.declared.fault.FileFault.{FileFault}
use Rattle.media_file.specs.Fields.{Fails}
use Rattle.st_format.specs.Given.{Takes}
use Rattle.st_format.specs.Reading.{◌>>=◌}
use Rattle.media_file.specs.Groups.{Shape, group_at, group_text, groups_at, groups_text}
use Rattle.media_file.proofs.Written.{prefix_first, prefix_then}
use Rattle.st_format.proofs.Origins.{if_content_weaker}
use Rattle.media_file.specs.Faults.{file_fault_origin}

abbrev Many : Type 0
Many = Result (List (List Cell) × List ℕ) FileFault

abbrev ok_many : List (List Cell) → List ℕ → Many
ok_many gs rest = Ok (gs, rest)

-- some groups, and so many more
abbrev both : Shape → ℕ → Many → Many
both s b r = r >>= λ x. groups_at s b x.1 >>= λ y. ok_many (x.0 ++ y.0) y.1

same_pair : (r : Many) → r ≡ (r >>= λ y. ok_many ([] ++ y.0) y.1)
same_pair (Ok x) = refl
same_pair (Err f) = refl

one_front : (g : List Cell) (front : List (List Cell)) (r : Many)
    → ((r >>= λ z. ok_many (front ++ z.0) z.1) >>= λ z. ok_many (g ∷ z.0) z.1)
    ≡ (r >>= λ z. ok_many ((g ∷ front) ++ z.0) z.1)
one_front g front (Ok z) = refl
one_front g front (Err f) = refl

front_both : (s : Shape) (b : ℕ) (g : List Cell) (r : Many)
    → (both s b r >>= λ z. ok_many (g ∷ z.0) z.1) ≡ both s b (r >>= λ y. ok_many (g ∷ y.0) y.1)
front_both s b g (Ok y) = one_front g y.0 (groups_at s b y.1)
front_both s b g (Err f) = refl

first_both : (s : Shape) (a b : ℕ) (r : Result (List Cell × List ℕ) FileFault)
    → ((m : List ℕ) → groups_at s (a + b) m ≡ both s b (groups_at s a m))
    → (r >>= λ x. groups_at s (a + b) x.1 >>= λ y. ok_many (x.0 ∷ y.0) y.1)
    ≡ both s b (r >>= λ x. groups_at s a x.1 >>= λ y. ok_many (x.0 ∷ y.0) y.1)
first_both s a b (Ok x) h =
    ap (λ (r : Many). r >>= λ y. ok_many (x.0 ∷ y.0) y.1) (h x.1)
    ∙ front_both s b x.0 (groups_at s a x.1)
first_both s a b (Err f) h = refl

-- groups are so many, and then the others
groups_add : (s : Shape) (a b : ℕ) (octets : List ℕ)
    → groups_at s (a + b) octets ≡ both s b (groups_at s a octets)
unfolding groups_at
groups_add s zero b octets = let e : 0 + b ≡ b =
    omega arith in ap (λ (n : ℕ). groups_at s n octets) e ∙ same_pair (groups_at s b octets)
groups_add s (suc a) b octets =
    let e : suc a + b ≡ suc (a + b) = omega arith in
    ap (λ (n : ℕ). groups_at s n octets) e ∙ first_both s a b (group_at s octets) (groups_add s a b)

pub groups_more : (s : Shape) (a b : ℕ) (old mid new : Option (List ℕ)) (gs hs : List (List Cell))
    → Takes (groups_at s a) old mid gs → Takes (groups_at s b) mid new hs
    → Takes (groups_at s (a + b)) old new (gs ++ hs)
groups_more s a b None mid new gs hs p q = tt
groups_more s a b (Some o) None new gs hs p q = absurd p
groups_more s a b (Some o) (Some m) None gs hs p q = absurd q
groups_more s a b (Some o) (Some m) (Some rest) gs hs p q =
    groups_add s a b o ∙ ap (both s b) p ∙ ap (λ (r : Many). r >>= λ y. ok_many (gs ++ y.0) y.1) q

groups_fault : (s : Shape) (a b : ℕ) (old mid : Option (List ℕ)) (gs : List (List Cell))
    (f : FileFault) → Takes (groups_at s a) old mid gs → Fails (groups_at s b) mid f
    → Fails (groups_at s (a + b)) old f
groups_fault s a b None mid gs f p q = tt
groups_fault s a b (Some o) None gs f p q = absurd p
groups_fault s a b (Some o) (Some m) gs f p q =
    if_content_weaker file_fault_origin f (groups_at s b m ≡ Err f) (groups_at s (a + b) o ≡ Err f)
    (λ e. groups_add s a b o ∙ ap (both s b) p
    ∙ ap (λ (r : Many). r >>= λ y. ok_many (gs ++ y.0) y.1) e) q

groups_cut : (s : Shape) (a b : ℕ) (old : Option (List ℕ)) (f : FileFault)
    → Fails (groups_at s a) old f → Fails (groups_at s (a + b)) old f
groups_cut s a b None f p = tt
groups_cut s a b (Some o) f p =
    if_content_weaker file_fault_origin f (groups_at s a o ≡ Err f) (groups_at s (a + b) o ≡ Err f)
    (λ e. groups_add s a b o ∙ ap (both s b) e) p

-- a fault behind groups that were read, before some that weren't
pub groups_stop : (s : Shape) (a b c n : ℕ) (old mid : Option (List ℕ)) (gs : List (List Cell))
    (f : FileFault) → (a + b) + c ≡ n → Takes (groups_at s a) old mid gs
    → Fails (groups_at s b) mid f → Fails (groups_at s n) old f
groups_stop s a b c n old mid gs f e p q =
    subst (λ (k : ℕ). Fails (groups_at s k) old f) e
    (groups_cut s (a + b) c old f (groups_fault s a b old mid gs f p q))

-- no group, and one
pub groups_none : (s : Shape) (known : Option (List ℕ)) → Takes (groups_at s 0) known known []
unfolding groups_at
groups_none s None = tt
groups_none s (Some o) = refl

pub groups_one : (s : Shape) (old new : Option (List ℕ)) (g : List Cell)
    → Takes (group_at s) old new g → Takes (groups_at s 1) old new (g ∷ [])
unfolding groups_at
groups_one s None new g p = tt
groups_one s (Some o) None g p = absurd p
groups_one s (Some o) (Some rest) g p =
    ap (λ (r : Result (List Cell × List ℕ) FileFault). r >>= λ x. ok_many (x.0 ∷ []) x.1) p

pub groups_one_fault : (s : Shape) (old : Option (List ℕ)) (f : FileFault)
    → Fails (group_at s) old f → Fails (groups_at s 1) old f
unfolding groups_at
groups_one_fault s None f p = tt
groups_one_fault s (Some o) f p =
    if_content_weaker file_fault_origin f (group_at s o ≡ Err f) (groups_at s 1 o ≡ Err f)
    (λ e. ap
    (λ (r : Result (List Cell × List ℕ) FileFault). r >>= λ x. ok_many (x.0 ∷ []) x.1) e) p

-- ---- texts

groups_text_add : (s : Shape) (gs hs : List (List Cell))
    → groups_text s (gs ++ hs) ≡ groups_text s gs ++ groups_text s hs
groups_text_add s gs hs = flat_map-append (group_text s) gs hs

pub texts_more : (s : Shape) (gs hs all : List (List Cell)) (old mid new : Option (List ℕ))
    → all ≡ gs ++ hs → Appends old mid (groups_text s gs) → Appends mid new (groups_text s hs)
    → Appends old new (groups_text s all)
texts_more s gs hs all old mid new e p q =
    subst (Appends old new) (sym (ap (groups_text s) e ∙ groups_text_add s gs hs))
    (Appends-trans old mid new (groups_text s gs) (groups_text s hs) p q)

pub texts_cut : (s : Shape) (gs hs rest all : List (List Cell)) (old mid new : Option (List ℕ))
    → all ≡ (gs ++ hs) ++ rest → Appends old mid (groups_text s gs)
    → AppendsPrefix mid new (groups_text s hs) → AppendsPrefix old new (groups_text s all)
texts_cut s gs hs rest all old mid new e p q =
    let whole : groups_text s all ≡ (groups_text s gs ++ groups_text s hs) ++ groups_text s rest =
    ap (groups_text s) e ∙ groups_text_add s (gs ++ hs) rest
    ∙ ap (λ (t : List ℕ). t ++ groups_text s rest) (groups_text_add s gs hs) in
    subst (AppendsPrefix old new) (sym whole)
    (prefix_first old new (groups_text s gs ++ groups_text s hs) (groups_text s rest)
    (prefix_then old mid new (groups_text s gs) (groups_text s hs) p q))
