-- The octets of addresses as they are written.
use Rattle.std.proofs.Common.{◌≡◌, ℕ, zero, suc, ◌^◌, ◌<◌, Bool, true, List, [], ◌∷◌}
use Rattle.std.proofs.Common.{◌++◌, drop, take, get_or, All, refl, arith, codes, inl, inr}
use Rattle.std.specs.Prelude.{bytes_eq}
use Rattle.std.specs.List.{list_all}
use Rattle.std.proofs.lemmas.Bool.{cond_both}
use Rattle.std.proofs.lemmas.List.Elements.{All-head, All-tail}
use Rattle.std.specs.Net.Addr.{octets_of}
use Rattle.std.specs.Net.Text.{ipv4_text, ipv6_text, hex_groups_text}
use Rattle.std.proofs.NetLemmas.Alphabet.{IsDigitOrDot, IsHexOrColon, All-ipv4_text}
use Rattle.std.proofs.NetLemmas.Alphabet.{All-hex_groups_text}
use Rattle.std.proofs.NetLemmas.Texts.{AllSegments, AllSegments-drop}

-- a test that all octets of an address pass
pub record PassesAddress (q : ℕ → Bool) : Type 0 where
  pub digits : (c : ℕ) → IsDigitOrDot c → q c ≡ true
  pub groups : (c : ℕ) → IsHexOrColon c → q c ≡ true

all_from : (P : ℕ → Type 0) (q : ℕ → Bool) → ((c : ℕ) → P c → q c ≡ true) → (xs : List ℕ)
    → All P xs → list_all q xs ≡ true
all_from P q so [] h = refl
all_from P q so (x ∷ xs) h =
    rw (so x (All-head P x xs h), all_from P q so xs (All-tail P x xs h)) refl

small_octets : (xs : List ℕ) → AllSegments xs → (k : ℕ) → get_or (octets_of xs) k 0 < 2 ^ 8
small_octets [] h k = omega arith
small_octets (x ∷ xs) h zero = let small : x < 2 ^ 16 = h 0 in omega arith
small_octets (x ∷ xs) h (suc zero) = omega arith
small_octets (x ∷ xs) h (suc (suc k)) = small_octets xs (λ j. h (suc j)) k

pub ipv4_passes : (q : ℕ → Bool) (o : List ℕ) → PassesAddress q
    → ((k : ℕ) → get_or o k 0 < 2 ^ 8) → list_all q (ipv4_text o) ≡ true
ipv4_passes q o p small = all_from IsDigitOrDot q p.digits (ipv4_text o) (All-ipv4_text o small)

mapped_passes : (q : ℕ → Bool) (o : List ℕ) → PassesAddress q
    → ((k : ℕ) → get_or o k 0 < 2 ^ 8) → list_all q (codes "::ffff:" ++ ipv4_text o) ≡ true
mapped_passes q o p small =
    let colon : q 58 ≡ true = p.groups 58 (inl (omega arith)) in
    let letter : q 102 ≡ true = p.groups 102 (inr (omega arith)) in
    rw (colon, letter, ipv4_passes q o p small) refl

pub ipv6_passes : (q : ℕ → Bool) (segments : List ℕ) → PassesAddress q → AllSegments segments
    → list_all q (ipv6_text segments) ≡ true
unfolding ipv6_text
ipv6_passes q segments p small =
    cond_both (bytes_eq (take 6 segments) (0 ∷ 0 ∷ 0 ∷ 0 ∷ 0 ∷ 0xffff ∷ []))
    (codes "::ffff:" ++ ipv4_text (octets_of (drop 6 segments)))
    (hex_groups_text segments)
    (λ (text : List ℕ). list_all q text ≡ true)
    (λ e. mapped_passes q (octets_of (drop 6 segments)) p
    (small_octets (drop 6 segments) (AllSegments-drop 6 segments small)))
    (λ e. all_from IsHexOrColon q p.groups (hex_groups_text segments)
    (All-hex_groups_text segments small))
