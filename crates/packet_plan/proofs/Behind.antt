-- Octets behind a place, which a write up to there leaves.
use Rattle.std.proofs.Common.{◌≡◌, ℕ, ◌+◌, ◌-◌, ◌≤◌, List, ◌++◌, length, take, drop, sym, ap, ◌∙◌}
use Rattle.std.proofs.Common.{subst, arith, append_assoc}
use Rattle.std.proofs.lemmas.List.{drop-append-le, drop-drop, drop_at, length-append, length-drop}
use Rattle.std.proofs.lemmas.List.{length-take-le, take-append-drop}

split : (m n : ℕ) (xs : List ℕ) → m ≤ n → drop (n - m) (drop m xs) ≡ drop n xs
split m n xs le = drop-drop (n - m) m xs ∙ ap (λ (k : ℕ). drop k xs) (omega arith)

-- what stays behind a place stays behind each later one
pub stays_later : (m n : ℕ) (old new : List ℕ) → m ≤ n → drop m new ≡ drop m old
    → drop n new ≡ drop n old
stays_later m n old new le e = sym (split m n new le) ∙ ap (drop (n - m)) e ∙ split m n old le

-- what stays behind the two headers: the first of 12 octets, and over what is behind it a text of n
front_kept : (old xs ys text : List ℕ) (k n : ℕ) → drop 12 xs ≡ drop 12 old
    → ys ≡ text ++ drop n (take k (drop 12 xs))
    → length text ≡ n → 12 ≤ length xs → k ≡ length xs - 12 → n ≤ k
    → drop (12 + n) (take 12 xs ++ (ys ++ drop k (drop 12 xs))) ≡ drop (12 + n) old
front_kept old xs ys text k n kept parts long room size fits =
    let d : List ℕ = drop 12 xs in
    let rest : List ℕ = drop n (take k d) ++ drop k d in
    let count : length (take 12 xs ++ text) ≡ 12 + n =
    omega (arith, length-append (take 12 xs) text, length-take-le 12 xs room) in
    let most : n ≤ length (take k d) =
    omega (arith, length-take-le k d (omega (arith, length-drop 12 xs)), length-drop 12 xs) in
    ap (λ (zs : List ℕ). drop (12 + n) (take 12 xs ++ (zs ++ drop k d))) parts
    ∙ ap (λ (zs : List ℕ). drop (12 + n) (take 12 xs ++ zs))
    (append_assoc text (drop n (take k d)) (drop k d))
    ∙ ap (drop (12 + n)) (sym (append_assoc (take 12 xs) text rest))
    ∙ drop_at (take 12 xs ++ text) rest (12 + n) count
    ∙ sym (drop-append-le n (take k d) (drop k d) most)
    ∙ ap (drop n) (take-append-drop k d)
    ∙ ap (drop n) kept
    ∙ drop-drop n 12 old

pub front_stays : (old xs ys text : List ℕ) (k n r : ℕ) → drop 12 xs ≡ drop 12 old
    → ys ≡ text ++ drop n (take k (drop 12 xs))
    → length text ≡ n → 12 ≤ length xs → k ≡ length xs - 12 → n ≤ k → r ≡ n
    → drop (12 + r) (take 12 xs ++ (ys ++ drop k (drop 12 xs))) ≡ drop (12 + r) old
front_stays old xs ys text k n r kept parts long room size fits same =
    subst (λ (m : ℕ). drop (12 + m) (take 12 xs ++ (ys ++ drop k (drop 12 xs)))
    ≡ drop (12 + m) old) (sym same)
    (front_kept old xs ys text k n kept parts long room size fits)
