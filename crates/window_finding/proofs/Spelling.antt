-- Timestamps that are spelled are read again.
use Rattle.std.proofs.Common.{◌≡◌, ℕ, suc, ◌+◌, ◌^◌, ◌<◌, List, ◌-◌}
use Rattle.std.proofs.Common.{[], ◌∷◌, ◌++◌, length, take, drop, get_or}
use Rattle.std.proofs.Common.{refl, ap, ◌∙◌, sym, subst, arith, lit<, append_assoc, ◌≤◌}
use Rattle.std.proofs.lemmas.List.{length-drop, take_all}
use Rattle.std.proofs.Math.Seq.{take-suc}
use Rattle.std.specs.Fmt.{decimal}
use Rattle.std.proofs.lemmas.Fmt.{decimal_is_IsNumeral, length-decimal-le}
use Rattle.run_outcome.specs.Timestamps.{AreTimestamps, IsNumberOf}
use Rattle.st_format.proofs.Decimals.{digits}
use Rattle.st_format.proofs.Forms.{decimal_lacks, parted_at, parted_none}

-- ---- timestamps

number_of : (n : ℕ) → n < 2 ^ 32 → IsNumberOf (decimal n) n
number_of n small =
    let wide : n < 2 ^ 64 = omega arith in
    let is = decimal_is_IsNumeral n wide in
    record {
      is = record {
        digits = is.0.1;
        some = is.0.0;
        few = length-decimal-le 10 n (lit< tt) (omega arith) wide;
        fits = omega (arith, is.1);
      };
      value = sym is.1;
    }

-- their digits, with commas between
abbrev pub spelled : ℕ → List ℕ → List ℕ
spelled t [] = decimal t
spelled t (u ∷ ts) = decimal t ++ 44 ∷ spelled u ts

pub spelled_more : (t : ℕ) (ts : List ℕ) (u : ℕ)
    → spelled t (ts ++ u ∷ []) ≡ spelled t ts ++ 44 ∷ decimal u
spelled_more t [] u = refl
spelled_more t (v ∷ ts) u =
    ap (λ (l : List ℕ). decimal t ++ 44 ∷ l) (spelled_more v ts u)
    ∙ sym (append_assoc (decimal t) (44 ∷ spelled v ts) (44 ∷ decimal u))

-- each fits
abbrev pub EachFits : List ℕ → Type 0
EachFits ts = (k : ℕ) → get_or ts k 0 < 2 ^ 32

pub are_spelled : (t : ℕ) (ts : List ℕ) → EachFits (t ∷ ts)
    → AreTimestamps (spelled t ts) (t ∷ ts)
are_spelled t [] fit =
    (parted_none 44 (decimal t) (decimal_lacks 44 t (lit< tt) (fit 0)), number_of t (fit 0))
are_spelled t (u ∷ ts) fit = (
  decimal t,
  spelled u ts,
  parted_at 44 (decimal t) (spelled u ts) (decimal_lacks 44 t (lit< tt) (fit 0)),
  number_of t (fit 0),
  are_spelled u ts (λ k. fit (suc k)),
)

-- what stands behind the first
pub rest_is : (w : List ℕ) → take (length w - 1) (drop 1 w) ≡ drop 1 w
rest_is w = take_all (length w - 1) (drop 1 w) (omega (arith, length-drop 1 w))

-- all of a list
pub all_spelled : (w rest text : List ℕ) (k : ℕ) → 0 < length w → rest ≡ drop 1 w
    → text ≡ spelled (get_or w 0 0) (take k (drop 1 w)) → length rest ≤ k → EachFits w
    → AreTimestamps text w
all_spelled [] rest text k some behind is all fit = absurd (omega arith)
all_spelled (t ∷ ts) rest text k some behind is all fit =
    subst (λ (l : List ℕ). AreTimestamps l (t ∷ ts))
    (sym (is ∙ ap (λ (l : List ℕ). spelled t l)
    (take_all k ts (subst (λ (l : List ℕ). length l ≤ k) behind all))))
    (are_spelled t ts fit)

-- one more of them
pub more_spelled : (w rest before mid text : List ℕ) (k : ℕ) → rest ≡ drop 1 w
    → before ≡ spelled (get_or w 0 0) (take k (drop 1 w)) → mid ≡ before ++ 44 ∷ []
    → text ≡ mid ++ decimal (get_or rest k 0) → k < length rest
    → text ≡ spelled (get_or w 0 0) (take (k + 1) (drop 1 w))
more_spelled w rest before mid text k behind is comma more lt =
    let ts : List ℕ = drop 1 w in
    let t : ℕ = get_or w 0 0 in
    let u : ℕ = get_or ts k 0 in
    let inside : k < length ts = subst (λ (l : List ℕ). k < length l) behind lt in
    let next : suc k ≡ k + 1 = omega arith in
    more ∙ ap (λ (l : List ℕ). mid ++ decimal (get_or l k 0)) behind
    ∙ ap (λ (l : List ℕ). l ++ decimal u) comma
    ∙ append_assoc before (44 ∷ []) (decimal u)
    ∙ ap (λ (l : List ℕ). l ++ 44 ∷ decimal u) is
    ∙ sym (spelled_more t (take k ts) u)
    ∙ ap (λ (l : List ℕ). spelled t l) (sym (take-suc ts k 0 inside))
    ∙ ap (λ (n : ℕ). spelled t (take n ts)) next
