-- Texts that go to a sink one after the other, by way of a page.
use Rattle.std.proofs.Common.{◌≡◌, ℕ, ◌+◌, ◌<◌, ◌≤◌, List, [], ◌++◌, length, take, Option, Some}
use Rattle.std.proofs.Common.{append_assoc, append-nil, sym, ap, ◌∙◌, subst, arith}
use Rattle.std.specs.Io.KnownBytes.{Appends}
use Rattle.std.proofs.KnownBytes.{Appends-nil, Appends-trans}
use Rattle.std.proofs.Math.Seq.{take-append-add}
use Rattle.std.proofs.lemmas.List.{length-append, take-append-le}
use Rattle.st_format.specs.Device.{AppendsPrefix, GrowsPart}
use Rattle.frame_report.specs.Gathers.{Gathers, SinkTold, TakesPart, TakesText}

-- ---- what a sink holds that tells it

-- what was cut within a text is cut within it and what follows
held_first : (old new : Option (List ℕ)) (xs ys : List ℕ) → AppendsPrefix old new xs
    → AppendsPrefix old new (xs ++ ys)
held_first old new xs ys p = record {
  count = p.count;
  short = let s : p.count < length xs = p.short in omega (arith, length-append xs ys);
  taken = let s : p.count ≤ length xs =
      omega (arith, p.short) in subst (Appends old new)
      (sym (take-append-le p.count xs ys s)) p.taken;
}

-- what was cut behind a text
held_then : (old mid new : Option (List ℕ)) (xs ys : List ℕ) → Appends old mid xs
    → AppendsPrefix mid new ys → AppendsPrefix old new (xs ++ ys)
held_then old mid new xs ys p q = record {
  count = length xs + q.count;
  short = let s : q.count < length ys = q.short in omega (arith, length-append xs ys);
  taken =
      subst (Appends old new) (sym (take-append-add xs ys q.count))
      (Appends-trans old mid new xs (take q.count ys) p q.taken);
}

-- what any sink took, as if it told that it holds just this
part_held : (old new text : List ℕ) → GrowsPart old new text
    → AppendsPrefix (Some old) (Some new) text
part_held old new text p = record { count = p.count; short = p.short; taken = p.grown }

held_part : (old new text : List ℕ) → AppendsPrefix (Some old) (Some new) text
    → GrowsPart old new text
held_part old new text p = record { count = p.count; short = p.short; grown = p.taken }

-- ---- what it took, and what it holds

-- two texts, one behind the other
took_both : (old mid new : SinkTold) (xs ys : List ℕ) → TakesText old mid xs
    → TakesText mid new ys → TakesText old new (xs ++ ys)
took_both old mid new xs ys p q = record {
  took = q.took ∙ ap (λ (t : List ℕ). t ++ ys) p.took ∙ append_assoc old.took xs ys;
  held = Appends-trans old.held mid.held new.held xs ys p.held q.held;
}

pub prefix_first : (old new : SinkTold) (xs ys : List ℕ) → TakesPart old new xs
    → TakesPart old new (xs ++ ys)
prefix_first old new xs ys p = record {
  took =
      held_part old.took new.took (xs ++ ys)
      (held_first (Some old.took) (Some new.took) xs ys (part_held old.took new.took xs p.took));
  held = held_first old.held new.held xs ys p.held;
}

prefix_then : (old mid new : SinkTold) (xs ys : List ℕ) → TakesText old mid xs
    → TakesPart mid new ys → TakesPart old new (xs ++ ys)
prefix_then old mid new xs ys p q = record {
  took =
      held_part old.took new.took (xs ++ ys)
      (held_then (Some old.took) (Some mid.took) (Some new.took) xs ys p.took
      (part_held mid.took new.took ys q.took));
  held = held_then old.held mid.held new.held xs ys p.held q.held;
}

-- ---- texts that are put

pub gathers_none : (known : SinkTold) (page : List ℕ) → Gathers known known page page []
gathers_none known page = record {
  first = [];
  taken = record { took = sym (append-nil known.took); held = Appends-nil known.held };
  whole = append-nil page;
}

-- what waits is written, and nothing then waits
pub gathers_written : (old new : SinkTold) (page page' : List ℕ) → TakesText old new page
    → page' ≡ [] → Gathers old new page page' []
gathers_written old new page page' p e = record {
  first = page;
  taken = p;
  whole = ap (λ (t : List ℕ). page ++ t) (sym e);
}

pub gathers_more : (old new : SinkTold) (page mid page' text : List ℕ)
    → Gathers old new page mid [] → page' ≡ mid ++ text → Gathers old new page page' text
gathers_more old new page mid page' text p e = record {
  first = p.first;
  taken = p.taken;
  whole =
      ap (λ (t : List ℕ). t ++ text) (sym (append-nil page) ∙ p.whole)
      ∙ append_assoc p.first mid text ∙ ap (λ (t : List ℕ). p.first ++ t) (sym e);
}

pub gathers_line : (old new : SinkTold) (page mid page' text whole : List ℕ)
    → Gathers old new page mid [] → page' ≡ mid ++ text → text ≡ whole
    → Gathers old new page page' whole
gathers_line old new page mid page' text whole p e same =
    subst (λ (t : List ℕ). Gathers old new page page' t) same
    (gathers_more old new page mid page' text p e)

pub gathers_then : (old mid new : SinkTold) (page page' page'' first second : List ℕ)
    → Gathers old mid page page' first → Gathers mid new page' page'' second
    → Gathers old new page page'' (first ++ second)
gathers_then old mid new page page' page'' first second p q = record {
  first = p.first ++ q.first;
  taken = took_both old mid new p.first q.first p.taken q.taken;
  whole =
      sym (append_assoc page first second) ∙ ap (λ (t : List ℕ). t ++ second) p.whole
      ∙ append_assoc p.first page' second ∙ ap (λ (t : List ℕ). p.first ++ t) q.whole
      ∙ sym (append_assoc p.first q.first page'');
}

-- ---- and such that are cut

pub cut_first : (old new : SinkTold) (page first second : List ℕ)
    → TakesPart old new (page ++ first) → TakesPart old new (page ++ (first ++ second))
cut_first old new page first second p =
    subst (TakesPart old new) (append_assoc page first second)
    (prefix_first old new (page ++ first) second p)

pub cut_then : (old mid new : SinkTold) (page page' first second : List ℕ)
    → Gathers old mid page page' first → TakesPart mid new (page' ++ second)
    → TakesPart old new (page ++ (first ++ second))
cut_then old mid new page page' first second p q =
    subst (TakesPart old new)
    (sym (append_assoc p.first page' second) ∙ ap (λ (t : List ℕ). t ++ second) (sym p.whole)
    ∙ append_assoc page first second)
    (prefix_then old mid new p.first (page' ++ second) p.taken q)

-- ---- what waits is written at the end

pub gathers_all : (old mid new : SinkTold) (page page' first second : List ℕ)
    → Gathers old mid page page' first → TakesText mid new (page' ++ second)
    → TakesText old new (page ++ (first ++ second))
gathers_all old mid new page page' first second p q =
    subst (TakesText old new)
    (sym (append_assoc p.first page' second) ∙ ap (λ (t : List ℕ). t ++ second) (sym p.whole)
    ∙ append_assoc page first second)
    (took_both old mid new p.first (page' ++ second) p.taken q)

-- ---- a text that is put part by part

-- Of a whole text some was put, and the rest is to come.
pub record IsPut (old new : SinkTold) (page page' rest whole : List ℕ) : Type 0 where
  pub text : List ℕ
  pub gathered : Gathers old new page page' text
  pub all : text ++ rest ≡ whole

pub put_none : (known : SinkTold) (page whole rest : List ℕ) → rest ≡ whole
    → IsPut known known page page rest whole
put_none known page whole rest e =
    record { text = []; gathered = gathers_none known page; all = e }

pub put_more : (old mid new : SinkTold) (page page' page'' here first rest whole : List ℕ)
    → IsPut old mid page page' here whole → here ≡ first ++ rest
    → Gathers mid new page' page'' first → IsPut old new page page'' rest whole
put_more old mid new page page' page'' here first rest whole p e q = record {
  text = p.text ++ first;
  gathered = gathers_then old mid new page page' page'' p.text first p.gathered q;
  all =
      append_assoc p.text first rest ∙ ap (λ (t : List ℕ). p.text ++ t) (sym e) ∙ p.all;
}

pub put_cut : (old mid new : SinkTold) (page page' here first rest whole : List ℕ)
    → IsPut old mid page page' here whole → here ≡ first ++ rest
    → TakesPart mid new (page' ++ first) → TakesPart old new (page ++ whole)
put_cut old mid new page page' here first rest whole p e q =
    subst (λ (t : List ℕ). TakesPart old new (page ++ t))
    (ap (λ (t : List ℕ). p.text ++ t) (sym e) ∙ p.all)
    (cut_then old mid new page page' p.text (first ++ rest) p.gathered
    (cut_first mid new page' first rest q))

pub put_all : (old new : SinkTold) (page page' rest whole : List ℕ)
    → IsPut old new page page' rest whole → rest ≡ [] → Gathers old new page page' whole
put_all old new page page' rest whole p e =
    subst (λ (t : List ℕ). Gathers old new page page' t)
    (sym (append-nil p.text) ∙ ap (λ (t : List ℕ). p.text ++ t) (sym e) ∙ p.all) p.gathered

-- the last part
pub put_last : (old mid new : SinkTold) (page page' page'' here last whole : List ℕ)
    → IsPut old mid page page' here whole → here ≡ last → Gathers mid new page' page'' last
    → Gathers old new page page'' whole
put_last old mid new page page' page'' here last whole p e q =
    subst (λ (t : List ℕ). Gathers old new page page'' t)
    (ap (λ (t : List ℕ). p.text ++ t) (sym e) ∙ p.all)
    (gathers_then old mid new page page' page'' p.text last p.gathered q)

pub put_last_cut : (old mid new : SinkTold) (page page' here last whole : List ℕ)
    → IsPut old mid page page' here whole → here ≡ last
    → TakesPart mid new (page' ++ last) → TakesPart old new (page ++ whole)
put_last_cut old mid new page page' here last whole p e q =
    put_cut old mid new page page' here last [] whole p (e ∙ sym (append-nil last)) q

-- ---- a whole report

pub start_cut : (old new : SinkTold) (page opening frames end : List ℕ) → page ≡ opening
    → TakesPart old new (page ++ frames) → TakesPart old new (opening ++ (frames ++ end))
start_cut old new page opening frames end e p =
    subst (λ (t : List ℕ). TakesPart old new (t ++ (frames ++ end))) e
    (cut_first old new page frames end p)

pub end_cut : (old mid new : SinkTold) (page page' opening frames end : List ℕ)
    → page ≡ opening → Gathers old mid page page' frames → TakesPart mid new (page' ++ end)
    → TakesPart old new (opening ++ (frames ++ end))
end_cut old mid new page page' opening frames end e p q =
    subst (λ (t : List ℕ). TakesPart old new (t ++ (frames ++ end))) e
    (cut_then old mid new page page' frames end p q)

pub end_all : (old mid new : SinkTold) (page page' opening frames end : List ℕ)
    → page ≡ opening → Gathers old mid page page' frames → TakesText mid new (page' ++ end)
    → TakesText old new (opening ++ (frames ++ end))
end_all old mid new page page' opening frames end e p q =
    subst (λ (t : List ℕ). TakesText old new (t ++ (frames ++ end))) e
    (gathers_all old mid new page page' frames end p q)

-- a page on which nothing waited, all of which is written then
pub page_all : (old mid new : SinkTold) (page page' text : List ℕ) → page ≡ []
    → Gathers old mid page page' text → TakesText mid new page' → TakesText old new text
page_all old mid new page page' text e p q =
    subst (TakesText old new)
    (sym p.whole ∙ ap (λ (t : List ℕ). t ++ text) e)
    (took_both old mid new p.first page' p.taken q)

pub page_cut : (old mid new : SinkTold) (page page' text : List ℕ) → page ≡ []
    → Gathers old mid page page' text → TakesPart mid new page' → TakesPart old new text
page_cut old mid new page page' text e p q =
    subst (TakesPart old new)
    (sym p.whole ∙ ap (λ (t : List ℕ). t ++ text) e)
    (prefix_then old mid new p.first page' p.taken q)

pub page_first : (old new : SinkTold) (page text : List ℕ) → page ≡ []
    → TakesPart old new (page ++ text) → TakesPart old new text
page_first old new page text e p =
    subst (TakesPart old new) (ap (λ (t : List ℕ). t ++ text) e) p

-- ---- words that are added one after the other

joined2 : (p q r a b : List ℕ) → q ≡ p ++ a → r ≡ q ++ b → r ≡ p ++ (a ++ b)
joined2 p q r a b e f = f ∙ ap (λ (t : List ℕ). t ++ b) e ∙ append_assoc p a b

joined3 : (p q r s a b c : List ℕ) → q ≡ p ++ a → r ≡ q ++ b → s ≡ r ++ c
    → s ≡ p ++ (a ++ (b ++ c))
joined3 p q r s a b c e f h = joined2 p q s a (b ++ c) e (joined2 q r s b c f h)

pub joined4 : (p q r s t a b c d : List ℕ) → q ≡ p ++ a → r ≡ q ++ b → s ≡ r ++ c → t ≡ s ++ d
    → t ≡ p ++ (a ++ (b ++ (c ++ d)))
joined4 p q r s t a b c d e f h i =
    joined2 p q t a (b ++ (c ++ d)) e (joined3 q r s t b c d f h i)

pub joined5 : (p q r s t u a b c d x : List ℕ) → q ≡ p ++ a → r ≡ q ++ b → s ≡ r ++ c
    → t ≡ s ++ d → u ≡ t ++ x → u ≡ p ++ (a ++ (b ++ (c ++ (d ++ x))))
joined5 p q r s t u a b c d x e f h i j =
    joined2 p q u a (b ++ (c ++ (d ++ x))) e (joined4 q r s t u b c d x f h i j)

pub joined6 : (p q r s t u v a b c d x y : List ℕ) → q ≡ p ++ a → r ≡ q ++ b → s ≡ r ++ c
    → t ≡ s ++ d → u ≡ t ++ x → v ≡ u ++ y → v ≡ p ++ (a ++ (b ++ (c ++ (d ++ (x ++ y)))))
joined6 p q r s t u v a b c d x y e f h i j k =
    joined2 p q v a (b ++ (c ++ (d ++ (x ++ y)))) e (joined5 q r s t u v b c d x y f h i j k)
