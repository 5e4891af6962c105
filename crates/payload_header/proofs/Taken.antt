-- What is read is in the grammar.
use Rattle.std.proofs.Common.{◌≡◌, ℕ, zero, suc, ◌+◌, ◌%◌, ◌^◌, ◌<◌, ◌≤◌, Bool, true}
use Rattle.std.proofs.Common.{false, cond, ltb, leb, List, [], ◌∷◌, ◌++◌, length, take}
use Rattle.std.proofs.Common.{drop, Option, Some, None, Result, Ok, Err, append_assoc, drop-drop}
use Rattle.std.proofs.Common.{refl, sym, ap, ◌∙◌, subst, arith}
use Rattle.std.specs.List.{AllByRecursion, flat_map}
use Rattle.std.specs.Int.{w16, from_be_bytes, to_be_bytes}
use Rattle.std.proofs.lemmas.Bool.{ltb-false, leb-true, leb-false}
use Rattle.std.proofs.lemmas.List.{take-append-drop, length-take, length-drop}
use Rattle.std.proofs.lemmas.List.{append-nil}
use Rattle.std.proofs.lemmas.Nat.{be_bytes_2}
use Rattle.std.proofs.lemmas.List.Concat.{flat_map-cons}
use Rattle.st_format.specs.declared.format.Format.{Format}
use Rattle.st_format.specs.Raster.{Segment}
use Rattle.payload_header.specs.declared.payload.PayloadFault.{PayloadFault}
use Rattle.payload_header.specs.declared.payload.PayloadFault.TheVariants.{ShortPayloadHeader}
use Rattle.payload_header.specs.declared.payload.PayloadFault.TheVariants.{ShortData}
use Rattle.payload_header.specs.Payload.{Header, HeaderFits, flagged_number, header_text, IsChain}
use Rattle.payload_header.specs.Payload.{IsPayload, most_segments}
use Rattle.payload_header.specs.Reading.{number_at, header_of, headers_at, headers_fault}
use Rattle.st_format.specs.Device.{AreOctets}
use Rattle.st_format.specs.Reading.{◌>>=◌}
use Rattle.payload_header.specs.Reading.{fault_or, segments_at, counted_octets, data_at}
use Rattle.payload_header.specs.Reading.{payload_walk}
use Rattle.st_format.proofs.Octets.{AreOctets-drop, AreOctets-take}
use Rattle.st_format.proofs.Readings.{bind_ok, guard_ok, three, two_below}
use Rattle.payload_header.proofs.Grammar.{all_described, octets_of-cons}

-- a number of two octets
two_back : (two : List ℕ) → length two ≡ 2 → AreOctets two
    → to_be_bytes w16 (from_be_bytes w16 two) ≡ two
two_back two len bytes = be_bytes_2 two (from_be_bytes w16 two) len bytes refl

-- fifteen bits behind a flag
flag_back_at : (n : ℕ) (b : Bool) → n < 2 ^ 16 → leb (2 ^ 15) n ≡ b
    → flagged_number b (n % 2 ^ 15) ≡ to_be_bytes w16 n
flag_back_at n true lt e = let le : 2 ^ 15 ≤ n =
    leb-true (2 ^ 15) n e in let q : 2 ^ 15 + n % 2 ^ 15 ≡ n = omega arith in ap (to_be_bytes w16) q
flag_back_at n false lt e = let less : n < 2 ^ 15 =
    leb-false (2 ^ 15) n e in let q : 0 + n % 2 ^ 15 ≡ n = omega arith in ap (to_be_bytes w16) q

flag_back : (n : ℕ) → n < 2 ^ 16 → flagged_number (leb (2 ^ 15) n) (n % 2 ^ 15) ≡ to_be_bytes w16 n
flag_back n lt = flag_back_at n (leb (2 ^ 15) n) lt refl

pieces : (six : List ℕ) → (take 2 six ++ take 2 (drop 2 six)) ++ drop 4 six ≡ six
pieces six =
    let four : drop 4 six ≡ drop 2 (drop 2 six) = sym (drop-drop 2 2 six) in
    append_assoc (take 2 six) (take 2 (drop 2 six)) (drop 4 six)
    ∙ ap (λ (x : List ℕ). take 2 six ++ (take 2 (drop 2 six) ++ x)) four
    ∙ ap (λ (x : List ℕ). take 2 six ++ x) (take-append-drop 2 (drop 2 six))
    ∙ take-append-drop 2 six

pub record IsText (h : Header) (six : List ℕ) : Type 0 where
  pub text : header_text h ≡ six
  pub fits : HeaderFits h

-- a header is the text of its fields
header_back : (six : List ℕ) → length six ≡ 6 → AreOctets six → IsText (header_of six) six
unfolding header_of
header_back six len bytes =
    let a : List ℕ = take 2 six in
    let r : List ℕ = take 2 (drop 2 six) in
    let o : List ℕ = drop 4 six in
    let bytes_r : AreOctets r = AreOctets-take 2 (drop 2 six) (AreOctets-drop 2 six bytes) in
    let bytes_o : AreOctets o = AreOctets-drop 4 six bytes in
    let ta : to_be_bytes w16 (from_be_bytes w16 a) ≡ a =
    two_back a (omega (arith, length-take 2 six)) (AreOctets-take 2 six bytes) in
    let tr : flagged_number (leb (2 ^ 15) (from_be_bytes w16 r)) (from_be_bytes w16 r % 2 ^ 15)
    ≡ r =
    flag_back (from_be_bytes w16 r) (two_below r bytes_r)
    ∙ two_back r (omega (arith, length-take 2 (drop 2 six), length-drop 2 six)) bytes_r in
    let to : flagged_number (leb (2 ^ 15) (from_be_bytes w16 o)) (from_be_bytes w16 o % 2 ^ 15)
    ≡ o =
    flag_back (from_be_bytes w16 o) (two_below o bytes_o)
    ∙ two_back o (omega (arith, length-drop 4 six)) bytes_o in
    record {
      text = three ta tr to ∙ pieces six;
      fits =
          record {
            octets = two_below a (AreOctets-take 2 six bytes);
            row = omega arith;
            offset =
                omega arith;
          };
    }

-- the headers, and what follows them
pub record Heads (n : ℕ) (octets : List ℕ) (hs : List Header) (rest : List ℕ) : Type 0 where
  pub parts : octets ≡ flat_map header_text hs ++ rest
  pub fit : AllByRecursion HeaderFits hs
  pub chain : IsChain hs
  pub few : length hs ≤ n
  pub bytes : AreOctets rest

chain_more : (h : Header) (hs : List Header) → h.more ≡ true → IsChain hs → IsChain (h ∷ hs)
chain_more h [] more c = absurd c
chain_more h (k ∷ hs) more c = (more, c)

abbrev read_ok : {A : Type 0} → A → Result A PayloadFault
read_ok x = Ok x

done : {A : Type 0} (x y : A) → read_ok x ≡ read_ok y → x ≡ y
done x y e = cc

-- one header, then what the rest gives
heads_more : (n : ℕ) (octets : List ℕ) (h : Header) (hs : List Header) (rest : List ℕ)
    → 6 ≤ length octets → IsText h (take 6 octets) → h.more ≡ true
    → Heads n (drop 6 octets) hs rest → Heads (suc n) octets (h ∷ hs) rest
heads_more n octets h hs rest long is more later = record {
  parts =
      sym (take-append-drop 6 octets) ∙ ap (λ (x : List ℕ). x ++ drop 6 octets) (sym is.text)
      ∙ ap (λ (x : List ℕ). header_text h ++ x) later.parts
      ∙ sym (append_assoc (header_text h) (flat_map header_text hs) rest)
      ∙ ap (λ (x : List ℕ). x ++ rest) (sym (flat_map-cons header_text h hs));
  fit = (is.fits, later.fit);
  chain = chain_more h hs more later.chain;
  few = omega (arith, later.few);
  bytes = later.bytes;
}

heads_last : (n : ℕ) (octets : List ℕ) (h : Header) → AreOctets octets → 6 ≤ length octets
    → IsText h (take 6 octets) → h.more ≡ false → Heads (suc n) octets (h ∷ []) (drop 6 octets)
heads_last n octets h bytes long is last = record {
  parts =
      sym (take-append-drop 6 octets)
      ∙ ap (λ (x : List ℕ). x ++ drop 6 octets) (sym is.text ∙ sym (append-nil (header_text h)));
  fit = (is.fits, tt);
  chain = last;
  few = omega arith;
  bytes = AreOctets-drop 6 octets bytes;
}

abbrev Read : Type 0
Read = Result (List Header × List ℕ) PayloadFault

heads_at : (n : ℕ) (octets : List ℕ) (y : List Header × List ℕ) (h : Header) (later : Read)
    (short more : Bool) → AreOctets octets → ltb (length octets) 6 ≡ short → h.more ≡ more
    → IsText h (take 6 octets)
    → ((z : List Header × List ℕ) → later ≡ Ok z → Heads n (drop 6 octets) z.0 z.1)
    → cond short (Err ShortPayloadHeader)
    (cond more (later >>= λ r. Ok (h ∷ r.0, r.1)) (Ok (h ∷ [], drop 6 octets))) ≡ Ok y
    → Heads (suc n) octets y.0 y.1
heads_at n octets y h later true more bytes s m is rest e = absurd cc
heads_at n octets y h later false true bytes s m is rest e =
    let b = bind_ok later (λ r. Ok (h ∷ r.0, r.1)) y e in
    let long : 6 ≤ length octets = ltb-false (length octets) 6 s in
    subst (λ (z : List Header × List ℕ). Heads (suc n) octets z.0 z.1)
    (done (h ∷ b.0.0, b.0.1) y b.2) (heads_more n octets h b.0.0 b.0.1 long is m (rest b.0 b.1))
heads_at n octets y h later false false bytes s m is rest e =
    let long : 6 ≤ length octets = ltb-false (length octets) 6 s in
    subst (λ (z : List Header × List ℕ). Heads (suc n) octets z.0 z.1)
    (done (h ∷ [], drop 6 octets) y e) (heads_last n octets h bytes long is m)

pub text_at : (octets : List ℕ) → AreOctets octets → (b : Bool) → ltb (length octets) 6 ≡ b
    → (b ≡ false → IsText (header_of (take 6 octets)) (take 6 octets))
text_at octets bytes b e =
    λ no. header_back (take 6 octets)
    (omega (arith, length-take 6 octets, ltb-false (length octets) 6 (e ∙ no)))
    (AreOctets-take 6 octets bytes)

heads_of : (n : ℕ) (octets : List ℕ) (y : List Header × List ℕ) (short : Bool) → AreOctets octets
    → ltb (length octets) 6 ≡ short
    → ((z : List Header × List ℕ) → headers_at n (drop 6 octets) ≡ Ok z
    → Heads n (drop 6 octets) z.0 z.1)
    → cond short (Err ShortPayloadHeader)
    (cond (header_of (take 6 octets)).more
    (headers_at n (drop 6 octets) >>= λ r. Ok (header_of (take 6 octets) ∷ r.0, r.1))
    (Ok (header_of (take 6 octets) ∷ [], drop 6 octets))) ≡ Ok y
    → Heads (suc n) octets y.0 y.1
heads_of n octets y true bytes s rest e = absurd cc
heads_of n octets y false bytes s rest e =
    heads_at n octets y (header_of (take 6 octets)) (headers_at n (drop 6 octets)) false
    (header_of (take 6 octets)).more bytes s refl (text_at octets bytes false s refl) rest e

-- Headers that are read are headers of the grammar.
pub headers_take : (n : ℕ) (octets : List ℕ) (y : List Header × List ℕ) → AreOctets octets
    → headers_at n octets ≡ Ok y → Heads n octets y.0 y.1
unfolding headers_at
headers_take zero octets y bytes e = absurd cc
headers_take (suc n) octets y bytes e =
    heads_of n octets y (ltb (length octets) 6) bytes refl
    (λ z h. headers_take n (drop 6 octets) z (AreOctets-drop 6 octets bytes) h) e

-- The segments' octets stand at the front of the data.
pub data_parts : (hs : List Header) (octets : List ℕ)
    → octets
    ≡ flat_map (λ (s : Segment). s.octets) (segments_at hs octets)
    ++ drop (counted_octets hs) octets
data_parts [] octets = refl
data_parts (h ∷ hs) octets =
    let later : drop h.octets octets
    ≡ flat_map (λ (s : Segment). s.octets) (segments_at hs (drop h.octets octets)) ++ drop
    (counted_octets hs) (drop h.octets octets) = data_parts hs (drop h.octets octets) in
    let same : drop (counted_octets hs) (drop h.octets octets)
    ≡ drop (counted_octets (h ∷ hs)) octets =
    drop-drop (counted_octets hs) h.octets octets
    ∙ ap (λ (n : ℕ). drop n octets) (omega (arith, octets_of-cons h hs)) in
    sym (take-append-drop h.octets octets)
    ∙ ap (λ (x : List ℕ). take h.octets octets ++ x)
    (later ∙ ap
    (λ (x : List ℕ). flat_map (λ (s : Segment). s.octets)
    (segments_at hs (drop h.octets octets)) ++ x) same)
    ∙ sym
    (append_assoc (take h.octets octets)
    (flat_map (λ (s : Segment). s.octets) (segments_at hs (drop h.octets octets)))
    (drop (counted_octets (h ∷ hs)) octets))

fault_none : (o : Option PayloadFault) (later : Result (List Segment) PayloadFault)
    (ss : List Segment) → fault_or o later ≡ Ok ss → (o ≡ None) × (later ≡ Ok ss)
fault_none None later ss e = (refl, e)
fault_none (Some d) later ss e = absurd cc

pub record IsNumber (octets : List ℕ) (n : ℕ) (rest : List ℕ) : Type 0 where
  pub parts : octets ≡ to_be_bytes w16 n ++ rest
  pub below : n < 2 ^ 16
  pub bytes : AreOctets rest

pub number_take : (octets : List ℕ) (y : ℕ × List ℕ) → AreOctets octets → number_at octets ≡ Ok y
    → IsNumber octets y.0 y.1
number_take octets y bytes e =
    let g =
    guard_ok (ltb (length octets) 2) ShortPayloadHeader
    (from_be_bytes w16 (take 2 octets), drop 2 octets) y e in
    let long : 2 ≤ length octets = ltb-false (length octets) 2 g.0 in
    subst (λ (z : ℕ × List ℕ). IsNumber octets z.0 z.1) g.1 (record {
      parts =
          sym (take-append-drop 2 octets)
          ∙ ap (λ (x : List ℕ). x ++ drop 2 octets)
          (sym (two_back (take 2 octets) (omega (arith, length-take 2 octets))
          (AreOctets-take 2 octets bytes)));
      below = two_below (take 2 octets) (AreOctets-take 2 octets bytes);
      bytes = AreOctets-drop 2 octets bytes;
    })

-- What is read is in the grammar.
pub payload_takes : (f : Format) (octets : List ℕ) (y : ℕ × List Segment) → AreOctets octets
    → payload_walk f octets ≡ Ok y → IsPayload octets f y.0 y.1
unfolding payload_walk
payload_takes f octets y bytes e =
    let a =
    bind_ok (number_at octets)
    (λ x. headers_at most_segments x.1 >>=
    λ hs. fault_or (headers_fault f hs.0) (data_at hs.0 hs.1) >>= λ ss. Ok (x.0, ss)) y e in
    let b =
    bind_ok (headers_at most_segments a.0.1)
    (λ hs. fault_or (headers_fault f hs.0) (data_at hs.0 hs.1) >>=
    λ ss. Ok (a.0.0, ss)) y a.2 in
    let c =
    bind_ok (fault_or (headers_fault f b.0.0) (data_at b.0.0 b.0.1))
    (λ ss. Ok (a.0.0, ss)) y b.2 in
    let number = number_take octets a.0 bytes a.1 in
    let heads = headers_take most_segments a.0.1 b.0 number.bytes b.1 in
    let none = fault_none (headers_fault f b.0.0) (data_at b.0.0 b.0.1) c.0 c.1 in
    let g =
    guard_ok (ltb (length b.0.1) (counted_octets b.0.0)) ShortData
    (segments_at b.0.0 b.0.1) c.0 none.1 in
    let enough : counted_octets b.0.0 ≤ length b.0.1
    = ltb-false (length b.0.1) (counted_octets b.0.0) g.0 in
    let made : IsPayload octets f a.0.0 (segments_at b.0.0 b.0.1) = record {
      headers = b.0.0;
      rest = drop (counted_octets b.0.0) b.0.1;
      extended_fits = number.below;
      headers_fit = heads.fit;
      few = heads.few;
      chain = heads.chain;
      described = all_described f b.0.0 b.0.1 none.0 enough;
      whole =
          number.parts ∙ ap (λ (x : List ℕ). to_be_bytes w16 a.0.0 ++ x)
          (heads.parts ∙ ap (λ (x : List ℕ). flat_map header_text b.0.0 ++ x)
          (data_parts b.0.0 b.0.1));
    } in
    subst (λ (z : ℕ × List Segment). IsPayload octets f z.0 z.1)
    (ap (λ (ss : List Segment). (a.0.0, ss)) g.1 ∙ done (a.0.0, c.0) y c.2) made
