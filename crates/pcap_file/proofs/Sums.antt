-- The checksums that are written are right: all words, the checksum among them, sum up to a
-- multiple of 65535.
use Rattle.std.proofs.Common.{◌≡◌, ℕ, ◌+◌, ◌-◌, ◌%◌, ◌^◌, ◌<◌, Bool, true, false, cond}
use Rattle.std.proofs.Common.{eqb, List, length, refl, ap, ◌∙◌, arith}
use Rattle.std.proofs.lemmas.Bool.{eqb-true}
use Rattle.pcap_file.specs.declared.writing.Envelope.{Envelope}
use Rattle.pcap_file.specs.Writing.{complement_of, ip_checksum, ip_text, pseudo_sum, sent_sum}
use Rattle.pcap_file.specs.Writing.{udp_checksum, udp_text, word_sum}

complement_by : (s : ℕ) (b : Bool) → eqb s 0 ≡ b → 0 < s
    → (s + (65535 - cond b 0 ((s - 1) % 65535 + 1))) % 65535 ≡ 0
complement_by s true e some = absurd (omega (arith, eqb-true s 0 e))
complement_by s false e some = omega arith

complement_right : (s : ℕ) → 0 < s → (s + complement_of s) % 65535 ≡ 0
complement_right s some = complement_by s (eqb s 0) refl some

small_by : (s : ℕ) (b : Bool) → eqb s 0 ≡ b → 65535 - cond b 0 ((s - 1) % 65535 + 1) < 2 ^ 16
small_by s true e = omega arith
small_by s false e = omega arith

complement_small : (s : ℕ) → complement_of s < 2 ^ 16
complement_small s = small_by s (eqb s 0) refl

-- a checksum in a header of IPv4 adds itself
ip_sum : (e : Envelope) (total c : ℕ) → c < 2 ^ 16
    → word_sum (ip_text e total c) ≡ word_sum (ip_text e total 0) + c
ip_sum e total c small = omega arith

some_sum : (e : Envelope) (total : ℕ) → 0 < word_sum (ip_text e total 0)
some_sum e total = omega arith

pub ip_right : (e : Envelope) (total : ℕ)
    → word_sum (ip_text e total (ip_checksum e total)) % 65535 ≡ 0
ip_right e total =
    let s : ℕ = word_sum (ip_text e total 0) in
    ap (λ (n : ℕ). n % 65535) (ip_sum e total (complement_of s) (complement_small s))
    ∙ complement_right s (some_sum e total)

-- a checksum in a header of UDP adds itself
udp_sum : (e : Envelope) (count c : ℕ) → c < 2 ^ 16
    → word_sum (udp_text e count c) ≡ word_sum (udp_text e count 0) + c
udp_sum e count c small = omega arith

sent_by : (s c : ℕ) (b : Bool) → eqb c 0 ≡ b → (s + c) % 65535 ≡ 0
    → (s + cond b 65535 c) % 65535 ≡ 0
sent_by s c true e right = omega (arith, eqb-true c 0 e, right)
sent_by s c false e right = right

sent_small : (c : ℕ) (b : Bool) → c < 2 ^ 16 → cond b 65535 c < 2 ^ 16
sent_small c true small = omega arith
sent_small c false small = small

pub udp_right : (e : Envelope) (payload : List ℕ)
    → (pseudo_sum e (8 + length payload)
    + word_sum (udp_text e (8 + length payload) (udp_checksum e payload)) + word_sum payload) %
    65535
    ≡ 0
udp_right e payload =
    let count : ℕ = 8 + length payload in
    let s : ℕ =
    pseudo_sum e count + word_sum (udp_text e count 0) + word_sum payload in
    let c : ℕ = complement_of s in
    let some : 0 < s = omega arith in
    let right : (s + sent_sum c) % 65535 ≡ 0 =
    sent_by s c (eqb c 0) refl (complement_right s some) in
    let small : sent_sum c < 2 ^ 16 = sent_small c (eqb c 0) (complement_small s) in
    let all : pseudo_sum e count + word_sum (udp_text e count (sent_sum c)) + word_sum payload
    ≡ s + sent_sum c = omega (arith, udp_sum e count (sent_sum c) small) in
    ap (λ (n : ℕ). n % 65535) all ∙ right
