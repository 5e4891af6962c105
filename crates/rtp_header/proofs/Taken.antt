-- What is read is in the grammar of headers.
use Rattle.std.proofs.Common.{◌≡◌, ℕ, suc, ◌+◌, ◌-◌, ◌*◌, ◌/◌, ◌%◌, ◌^◌, ◌<◌, ◌≤◌, Bool, true}
use Rattle.std.proofs.Common.{false, cond, not, eqb, ltb, leb, ◌||◌, List, [], ◌∷◌, ◌++◌, length}
use Rattle.std.proofs.Common.{get_or, take, drop, Result, Ok, Err, append_assoc, refl, sym, ap, ◌∙◌}
use Rattle.std.proofs.Common.{subst, arith}
use Rattle.std.specs.Int.{w16, w32, from_be_bytes, to_be_bytes}
use Rattle.std.proofs.lemmas.Bool.{eqb-true, eqb-false, ltb-false, leb-true, leb-false}
use Rattle.std.proofs.lemmas.List.{take-append-drop, length-take, length-drop, get_or-drop}
use Rattle.std.proofs.lemmas.List.{append-nil}
use Rattle.std.proofs.Math.Seq.{take-add}
use Rattle.std.proofs.lemmas.Nat.{be_bytes_2, be_bytes_4}
use Rattle.rtp_header.specs.declared.header.RtpFault.{RtpFault}
use Rattle.rtp_header.specs.declared.header.RtpFault.TheVariants.{ShortHeader, BadVersion}
use Rattle.rtp_header.specs.declared.header.RtpFault.TheVariants.{ShortExtension, BadPadding}
use Rattle.rtp_header.specs.Grammar.{Rtp, Flags, bit, fixed_text, IsExtension}
use Rattle.rtp_header.specs.Grammar.{AreOctets, IsExtensionIf, IsPaddingIf, IsRtp}
use Rattle.rtp_header.specs.Reading.{rest_behind, behind_extension, without_padding, rtp_of}
use Rattle.rtp_header.specs.Reading.{◌>>=◌, fixed_at, rtp_walk}
use Rattle.rtp_header.proofs.Steps.{AreOctets-drop, AreOctets-take, bind_ok, guard_ok, not_eqb_at}
use Rattle.rtp_header.proofs.Steps.{three, two_below}

guards_ok : {A : Type 0} (b c : Bool) (d e : RtpFault) (x y : A)
    → cond b (Err d) (cond c (Err e) (Ok x)) ≡ Ok y → (b ≡ false) × (c ≡ false) × (x ≡ y)
guards_ok true c d e x y h = absurd cc
guards_ok false true d e x y h = absurd cc
guards_ok false false d e x y h = (refl, refl, cc)

-- what stands before n octets, and what stands behind
record Splits (octets front rest : List ℕ) (n : ℕ) : Type 0 where
  parts : octets ≡ front ++ rest
  count : length front ≡ n
  bytes : AreOctets rest

behind_ok : (n : ℕ) (octets rest : List ℕ) → AreOctets octets → rest_behind n octets ≡ Ok rest
    → Splits octets (take n octets) rest n
behind_ok n octets rest bytes e =
    let g = guard_ok (ltb (length octets) n) ShortExtension (drop n octets) rest e in
    let long : n ≤ length octets = ltb-false (length octets) n g.0 in
    subst (λ (r : List ℕ). Splits octets (take n octets) r n) g.1
    (record {
      parts = sym (take-append-drop n octets);
      count =
          omega (arith, length-take n octets);
      bytes = AreOctets-drop n octets bytes;
    })

record Extended (flag : Bool) (octets rest : List ℕ) : Type 0 where
  front : List ℕ
  is : IsExtensionIf flag front
  parts : octets ≡ front ++ rest
  bytes : AreOctets rest

-- the text of an extension of n words
extension_text : (octets : List ℕ) (n : ℕ) → AreOctets octets → 4 + 4 * n ≤ length octets
    → n < 2 ^ 16 → n ≡ from_be_bytes w16 (take 2 (drop 2 octets))
    → IsExtension (take (4 + 4 * n) octets)
extension_text octets n bytes long below is =
    let words : List ℕ = take (4 * n) (drop 4 octets) in
    let count : length words ≡ 4 * n =
    omega (arith, length-take (4 * n) (drop 4 octets), length-drop 4 octets) in
    let quarter : length words / 4 ≡ n = omega arith in
    let number : to_be_bytes w16 (length words / 4) ≡ take 2 (drop 2 octets) =
    ap (to_be_bytes w16) quarter
    ∙ be_bytes_2 (take 2 (drop 2 octets)) n
    (omega (arith, length-take 2 (drop 2 octets), length-drop 2 octets))
    (AreOctets-take 2 (drop 2 octets) (AreOctets-drop 2 octets bytes)) is in
    record {
      profile = take 2 octets;
      words = words;
      profile_length = omega (arith, length-take 2 octets);
      whole_words = omega arith;
      few = omega arith;
      parts = take-add 4 (4 * n) octets ∙ ap (λ (x : List ℕ). x ++ words) (take-add 2 2 octets)
          ∙ append_assoc (take 2 octets) (take 2 (drop 2 octets)) words
          ∙ ap (λ (x : List ℕ). take 2 octets ++ (x ++ words)) (sym number);
    }

abbrev ok_list : List ℕ → Result (List ℕ) RtpFault
ok_list x = Ok x

same_ok : (a b : List ℕ) → ok_list a ≡ ok_list b → a ≡ b
same_ok a b e = cc

extension_at : (octets rest : List ℕ) (short : Bool) → AreOctets octets
    → ltb (length octets) 4 ≡ short
    → cond short (Err ShortExtension)
    (rest_behind (4 + 4 * from_be_bytes w16 (take 2 (drop 2 octets))) octets) ≡ Ok rest
    → Extended true octets rest
extension_at octets rest true bytes s e = absurd cc
extension_at octets rest false bytes s e =
    let n : ℕ = from_be_bytes w16 (take 2 (drop 2 octets)) in
    let two : AreOctets (take 2 (drop 2 octets)) =
    AreOctets-take 2 (drop 2 octets) (AreOctets-drop 2 octets bytes) in
    let below : n < 2 ^ 16 = omega (arith, two 0, two 1) in
    let b = behind_ok (4 + 4 * n) octets rest bytes e in
    let long : 4 + 4 * n ≤ length octets = omega (arith, b.count, length-take (4 + 4 * n) octets) in
    record {
      front = take (4 + 4 * n) octets;
      is =
          extension_text octets n bytes long below refl;
      parts = b.parts;
      bytes = b.bytes;
    }

extension_ok : (flag : Bool) (octets rest : List ℕ) → AreOctets octets
    → behind_extension flag octets ≡ Ok rest → Extended flag octets rest
extension_ok false octets rest bytes e =
    record {
      front = [];
      is = refl;
      parts = same_ok octets rest e;
      bytes =
          subst AreOctets (same_ok octets rest e) bytes;
    }
extension_ok true octets rest bytes e =
    extension_at octets rest (ltb (length octets) 4) bytes refl e

record Padded (flag : Bool) (octets payload : List ℕ) : Type 0 where
  padding : List ℕ
  is : IsPaddingIf flag padding
  parts : octets ≡ payload ++ padding

either : (a b : Bool) → (a || b) ≡ false → (a ≡ false) × (b ≡ false)
either true b h = absurd cc
either false b h = (refl, h)

padding_ok : (flag : Bool) (octets payload : List ℕ) → without_padding flag octets ≡ Ok payload
    → Padded flag octets payload
padding_ok false octets payload e =
    record { padding = []; is = refl; parts = same_ok octets payload e ∙ sym (append-nil payload) }
padding_ok true octets payload e =
    let n : ℕ = get_or octets (length octets - 1) 0 in
    let g =
    guard_ok (eqb n 0 || ltb (length octets) n) BadPadding
    (take (length octets - n) octets) payload e in
    let t = either (eqb n 0) (ltb (length octets) n) g.0 in
    let some : n ≡ 0 → ⊥ = eqb-false n 0 t.0 in
    let fits : n ≤ length octets = ltb-false (length octets) n t.1 in
    let k : ℕ = length octets - n in
    let padding : List ℕ = drop k octets in
    let count : length padding ≡ n = omega (arith, length-drop k octets) in
    let last : k + (length padding - 1) ≡ length octets - 1 = omega arith in
    record {
      padding = padding;
      is =
          record {
            some = omega arith;
            counted =
                get_or-drop k octets (length padding - 1) 0 ∙ ap (λ (i : ℕ). get_or octets i 0) last
                ∙ sym count;
          };
      parts = sym (take-append-drop k octets) ∙ ap (λ (x : List ℕ). x ++ padding) g.1;
    }

-- the first octet is its fields
first_octet : (o : ℕ) (p x : Bool) → o < 256 → o / 64 ≡ 2 → eqb (o / 32 % 2) 1 ≡ p
    → eqb (o / 16 % 2) 1 ≡ x → 2 * 64 + bit p 32 + bit x 16 + o % 16 ≡ o
first_octet o true true lt v p x =
    omega (arith, eqb-true (o / 32 % 2) 1 p, eqb-true (o / 16 % 2) 1 x)
first_octet o true false lt v p x = let n : o / 16 % 2 ≡ 1
    → ⊥ = eqb-false (o / 16 % 2) 1 x in omega (arith, eqb-true (o / 32 % 2) 1 p)
first_octet o false true lt v p x = let n : o / 32 % 2 ≡ 1
    → ⊥ = eqb-false (o / 32 % 2) 1 p in omega (arith, eqb-true (o / 16 % 2) 1 x)
first_octet o false false lt v p x = let n : o / 16 % 2 ≡ 1
    → ⊥ = eqb-false (o / 16 % 2) 1 x in let m : o / 32 % 2 ≡ 1
    → ⊥ = eqb-false (o / 32 % 2) 1 p in omega arith

second_octet : (o : ℕ) (m : Bool) → o < 256 → leb 128 o ≡ m → bit m 128 + o % 128 ≡ o
second_octet o true lt h = let le : 128 ≤ o = leb-true 128 o h in omega arith
second_octet o false lt h = let less : o < 128 = leb-false 128 o h in omega arith

ten : (t : List ℕ) → take 10 t ≡ (take 2 t ++ take 4 (drop 2 t)) ++ take 4 (drop 6 t)
ten t = take-add 6 4 t ∙ ap (λ (x : List ℕ). x ++ take 4 (drop 6 t)) (take-add 2 4 t)

abbrev flags_of : List ℕ → Flags
flags_of octets =
    record {
      padded = eqb (get_or octets 0 0 / 32 % 2) 1;
      extended =
          eqb (get_or octets 0 0 / 16 % 2) 1;
      sources = get_or octets 0 0 % 16;
    }

two_heads : (a b c d : ℕ) (t u : List ℕ) → a ≡ c → b ≡ d → t ≡ u → a ∷ b ∷ t ≡ c ∷ d ∷ u
two_heads a b c d t u p q r = cc

-- the first twelve octets are the text of their fields
twelve : (octets payload : List ℕ) → AreOctets octets → 12 ≤ length octets
    → get_or octets 0 0 / 64 ≡ 2
    → take 12 octets ≡ fixed_text (flags_of octets) (rtp_of octets payload)
twelve [] payload bytes long v = absurd (omega arith)
twelve (a ∷ []) payload bytes long v = absurd (omega arith)
twelve (a ∷ b ∷ t) payload bytes long v =
    let bytes_t : AreOctets t = λ i. bytes (suc (suc i)) in
    let s : List ℕ = take 2 t in
    let m : List ℕ = take 4 (drop 2 t) in
    let c : List ℕ = take 4 (drop 6 t) in
    let ts : to_be_bytes w16 (from_be_bytes w16 s) ≡ s =
    be_bytes_2 s (from_be_bytes w16 s) (omega (arith, length-take 2 t))
    (AreOctets-take 2 t bytes_t) refl in
    let tm : to_be_bytes w32 (from_be_bytes w32 m) ≡ m =
    be_bytes_4 m (from_be_bytes w32 m)
    (omega (arith, length-take 4 (drop 2 t), length-drop 2 t))
    (AreOctets-take 4 (drop 2 t) (AreOctets-drop 2 t bytes_t)) refl in
    let tc : to_be_bytes w32 (from_be_bytes w32 c) ≡ c =
    be_bytes_4 c (from_be_bytes w32 c)
    (omega (arith, length-take 4 (drop 6 t), length-drop 6 t))
    (AreOctets-take 4 (drop 6 t) (AreOctets-drop 6 t bytes_t)) refl in
    let rest : take 10 t
    ≡ (to_be_bytes w16 (from_be_bytes w16 s) ++ to_be_bytes w32 (from_be_bytes w32 m))
    ++ to_be_bytes w32 (from_be_bytes w32 c) = ten t ∙ sym (three ts tm tc) in
    two_heads a b _ _ (take 10 t) _
    (sym (first_octet a (eqb (a / 32 % 2) 1) (eqb (a / 16 % 2) 1) (bytes 0) v refl refl))
    (sym (second_octet b (leb 128 b) (bytes 1) refl)) rest

abbrev rtp_ok : Rtp → Result Rtp RtpFault
rtp_ok x = Ok x

done : (x y : Rtp) → rtp_ok x ≡ rtp_ok y → x ≡ y
done x y e = cc

four_below : (bs : List ℕ) → AreOctets bs → from_be_bytes w32 bs < 2 ^ 32
four_below bs bytes = omega (arith, bytes 0, bytes 1, bytes 2, bytes 3)

-- What is read is in the grammar of headers.
pub rtp_takes : (octets : List ℕ) (y : Rtp) → AreOctets octets → rtp_walk octets ≡ Ok y
    → IsRtp octets y
unfolding rtp_walk
rtp_takes octets y bytes e =
    let o : ℕ = get_or octets 0 0 in
    let px : Bool = eqb (o / 16 % 2) 1 in
    let pp : Bool = eqb (o / 32 % 2) 1 in
    let a =
    bind_ok (fixed_at octets)
    (λ words. rest_behind (4 * (o % 16)) words >>= λ x. behind_extension px x >>=
    λ z. without_padding pp z >>= λ w. Ok (rtp_of octets w)) y e in
    let b =
    bind_ok (rest_behind (4 * (o % 16)) a.0)
    (λ x. behind_extension px x >>= λ z. without_padding pp z >>=
    λ w. Ok (rtp_of octets w)) y a.2 in
    let c =
    bind_ok (behind_extension px b.0)
    (λ z. without_padding pp z >>= λ w. Ok (rtp_of octets w)) y b.2 in
    let d = bind_ok (without_padding pp c.0) (λ w. Ok (rtp_of octets w)) y c.2 in
    let g =
    guards_ok (ltb (length octets) 12) (not (eqb (o / 64) 2)) ShortHeader BadVersion
    (drop 12 octets) a.0 a.1 in
    let long : 12 ≤ length octets = ltb-false (length octets) 12 g.0 in
    let version : o / 64 ≡ 2 = not_eqb_at (o / 64) 2 (eqb (o / 64) 2) refl g.1 in
    let bytes_a : AreOctets a.0 = subst AreOctets g.2 (AreOctets-drop 12 octets bytes) in
    let sources = behind_ok (4 * (o % 16)) a.0 b.0 bytes_a b.1 in
    let extension = extension_ok px b.0 c.0 sources.bytes c.1 in
    let padded = padding_ok pp c.0 d.0 d.1 in
    let made : IsRtp octets (rtp_of octets d.0) = record {
      flags = flags_of octets;
      source_list = take (4 * (o % 16)) a.0;
      extension = extension.front;
      padding = padded.padding;
      few_sources = omega arith;
      payload_type = omega arith;
      sequence =
          two_below (take 2 (drop 2 octets))
          (AreOctets-take 2 (drop 2 octets) (AreOctets-drop 2 octets bytes));
      timestamp =
          four_below (take 4 (drop 4 octets))
          (AreOctets-take 4 (drop 4 octets) (AreOctets-drop 4 octets bytes));
      ssrc =
          four_below (take 4 (drop 8 octets))
          (AreOctets-take 4 (drop 8 octets) (AreOctets-drop 8 octets bytes));
      sources = sources.count;
      is_extension = extension.is;
      is_padding = padded.is;
      whole =
          sym (take-append-drop 12 octets)
          ∙ ap (λ (x : List ℕ). x ++ drop 12 octets) (twelve octets d.0 bytes long version)
          ∙ ap (λ (x : List ℕ). fixed_text (flags_of octets) (rtp_of octets d.0) ++ x)
          (g.2 ∙ sources.parts
          ∙ ap (λ (x : List ℕ). take (4 * (o % 16)) a.0 ++ x)
          (extension.parts ∙ ap (λ (x : List ℕ). extension.front ++ x) padded.parts));
    } in
    subst (λ (r : Rtp). IsRtp octets r) (done (rtp_of octets d.0) y d.2) made
