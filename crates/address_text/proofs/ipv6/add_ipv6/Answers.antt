use Rattle.std.proofs.Common.{◌≡◌, ◌∙◌, ℕ, List, [], ◌∷◌, ◌++◌, false, ap, append_assoc, arith}
use Rattle.std.proofs.Common.{bytes_eq, codes, drop, refl, take}
use Rattle.std.proofs.lemmas.Bool.{false≢true}
use Rattle.std.proofs.lemmas.Slice.Eq.{bytes_eq-Decides}
use Rattle.std.specs.Net.Addr.{octets_of}
use Rattle.std.specs.Net.Text.{hex_groups_text, ipv4_text, ipv6_text}
use Rattle.address_text.proofs.ipv6.add_ipv6.Goals as goal

-- the first six segments of an address that holds an IPv4 address (RFC 4291, 2.5.5.2)
abbrev mapped_prefix : List ℕ
mapped_prefix = 0 ∷ 0 ∷ 0 ∷ 0 ∷ 0 ∷ 0xffff ∷ []

-- an address that holds an IPv4 address was added in two pieces
added_mapped : (old one new segments octets : List ℕ) → take 6 segments ≡ mapped_prefix
    → octets ≡ octets_of (drop 6 segments) → one ≡ old ++ codes "::ffff:"
    → new ≡ one ++ ipv4_text octets → new ≡ old ++ ipv6_text segments
unfolding ipv6_text
added_mapped old one new segments octets mapped same first rest =
    let found = (bytes_eq-Decides (take 6 segments) mapped_prefix).1 mapped in
    rw (found, ← same) (rest ∙ ap (λ (l : List ℕ). l ++ ipv4_text octets) first
    ∙ append_assoc old (codes "::ffff:") (ipv4_text octets))

-- any other address was added
added_other : (old new segments : List ℕ) → ¬ (take 6 segments ≡ mapped_prefix)
    → new ≡ old ++ hex_groups_text segments → new ≡ old ++ ipv6_text segments
unfolding ipv6_text
added_other old new segments other added =
    let not_found : bytes_eq (take 6 segments) mapped_prefix ≡ false =
    grind (arith, bytes_eq-Decides (take 6 segments) mapped_prefix, other) in
    rw not_found added

pub returns-in-Some-clause-text : goal.returns-in-Some-clause-text
returns-in-Some-clause-text g c =
    added_mapped _ _ _ _ _ (c.in-Some.ensures.found.0 refl) c.in-Some.ensures.value
    c.add.ensures.text c.add_ipv4.ensures.text

pub returns-in-None-clause-text : goal.returns-in-None-clause-text
returns-in-None-clause-text g c =
    added_other _ _ _ (λ mapped. false≢true (c.in-None.ensures.found.1 mapped))
    (rw c.segments.ensures at c.add_compressed.ensures.text)
