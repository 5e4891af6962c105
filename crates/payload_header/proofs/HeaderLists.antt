-- Headers read one after the other.
use Rattle.std.proofs.Common.{◌≡◌, ℕ, suc, ◌+◌, ◌-◌, ◌<◌, ◌≤◌, Bool, true, false, cond, not, List}
use Rattle.std.proofs.Common.{[], ◌∷◌, ◌++◌, length, take, drop, map, Result, Ok, Err, append_assoc}
use Rattle.std.proofs.Common.{refl, sym, ap, ◌∙◌, arith}
use Rattle.payload_header.specs.declared.payload.PayloadFault.{PayloadFault}
use Rattle.payload_header.specs.declared.payload.PayloadFault.TheVariants.{ShortPayloadHeader}
use Rattle.payload_header.specs.declared.payload.PayloadFault.TheVariants.{TooManySegments}
use Rattle.std.proofs.lemmas.Bool.{lt-ltb, le-ltb}
use Rattle.payload_header.specs.Payload.{Header}
use Rattle.payload_header.specs.Reading.{header_of, headers_at, fields}
use Rattle.st_format.specs.Reading.{◌>>=◌}
use Rattle.payload_header.specs.declared.reading.Header.{Header as HeaderCode}
use Rattle.std.proofs.lemmas.List.{map-append}

-- what was read before, and what is still read
abbrev pub with_front : List Header → Result (List Header × List ℕ) PayloadFault
    → Result (List Header × List ℕ) PayloadFault
with_front front read = read >>= λ r. Ok (front ++ r.0, r.1)

not_true : (b : Bool) → not b ≡ true → b ≡ false
not_true true h = cc
not_true false h = refl

not_false : (b : Bool) → not b ≡ false → b ≡ true
not_false true h = refl
not_false false h = cc

pub ends_short : (front : List Header) (i : ℕ) (rest : List ℕ)
    (whole : Result (List Header × List ℕ) PayloadFault) → i < 3 → length rest < 6
    → with_front front (headers_at (3 - i) rest) ≡ whole → whole ≡ Err ShortPayloadHeader
unfolding headers_at
ends_short front i rest whole lt short before =
    let k : 3 - i ≡ suc (3 - (i + 1)) = omega arith in
    let one : with_front front (headers_at (3 - i) rest) ≡ Err ShortPayloadHeader =
    rw (k, lt-ltb (length rest) 6 short) refl in
    sym before ∙ one

pub is_over : (front : List Header) (i : ℕ) (rest : List ℕ)
    (whole : Result (List Header × List ℕ) PayloadFault) → 3 ≤ i
    → with_front front (headers_at (3 - i) rest) ≡ whole → whole ≡ Err TooManySegments
unfolding headers_at
is_over front i rest whole le before =
    let k : 3 - i ≡ 0 = omega arith in
    let one : with_front front (headers_at (3 - i) rest) ≡ Err TooManySegments = rw k refl in
    sym before ∙ one

pub is_last : (front : List Header) (i : ℕ) (rest : List ℕ)
    (whole : Result (List Header × List ℕ) PayloadFault) (h : Header) → i < 3 → 6 ≤ length rest
    → h ≡ header_of (take 6 rest) → h.more ≡ false
    → with_front front (headers_at (3 - i) rest) ≡ whole → whole ≡ Ok (front ++ h ∷ [], drop 6 rest)
unfolding headers_at
is_last front i rest whole h lt long is last before =
    let k : 3 - i ≡ suc (3 - (i + 1)) = omega arith in
    let last' : (header_of (take 6 rest)).more ≡ false =
    ap (λ (x : Header). x.more) (sym is) ∙ last in
    let one : with_front front (headers_at (3 - i) rest)
    ≡ Ok (front ++ header_of (take 6 rest) ∷ [], drop 6 rest) =
    rw (k, le-ltb (length rest) 6 long, last') refl in
    sym before ∙ one ∙ ap (λ (x : Header). Ok (front ++ x ∷ [], drop 6 rest)) (sym is)

regroup : (front : List Header) (h : Header) (read : Result (List Header × List ℕ) PayloadFault)
    → with_front front (read >>= λ r. Ok (h ∷ r.0, r.1)) ≡ with_front (front ++ h ∷ []) read
regroup front h (Ok x) = ap (λ (hs : List Header). Ok (hs, x.1)) (simp append_assoc)
regroup front h (Err e) = refl

pub goes_on : (front : List Header) (i : ℕ) (rest : List ℕ)
    (whole : Result (List Header × List ℕ) PayloadFault) (h : Header) → i < 3 → 6 ≤ length rest
    → h ≡ header_of (take 6 rest) → h.more ≡ true
    → with_front front (headers_at (3 - i) rest) ≡ whole
    → with_front (front ++ h ∷ []) (headers_at (3 - (i + 1)) (drop 6 rest)) ≡ whole
unfolding headers_at
goes_on front i rest whole h lt long is more before =
    let k : 3 - i ≡ suc (3 - (i + 1)) = omega arith in
    let x : Header = header_of (take 6 rest) in
    let more' : x.more ≡ true = ap (λ (y : Header). y.more) (sym is) ∙ more in
    let more_read : Result (List Header × List ℕ) PayloadFault =
    headers_at (3 - (i + 1)) (drop 6 rest) >>= λ r. Ok (x ∷ r.0, r.1) in
    let opened : headers_at (3 - i) rest ≡ cond x.more more_read (Ok (x ∷ [], drop 6 rest)) =
    rw (k, le-ltb (length rest) 6 long) refl in
    let one : with_front front (headers_at (3 - i) rest)
    ≡ with_front (front ++ x ∷ []) (headers_at (3 - (i + 1)) (drop 6 rest)) =
    ap (with_front front)
    (opened ∙ ap (λ (b : Bool). cond b more_read (Ok (x ∷ [], drop 6 rest))) more')
    ∙ regroup front x (headers_at (3 - (i + 1)) (drop 6 rest)) in
    ap (λ (y : Header). with_front (front ++ y ∷ []) (headers_at (3 - (i + 1)) (drop 6 rest))) is
    ∙ sym one ∙ before

-- The same in the code's words: the header of six octets, and what follows them
pub code_last : (front : List HeaderCode) (i : ℕ) (rest six after : List ℕ)
    (whole : Result (List Header × List ℕ) PayloadFault) (h : HeaderCode) (new : List HeaderCode)
    → i < 3 → 6 ≤ length rest → fields h ≡ header_of six → six ≡ take 6 rest → after ≡ drop 6 rest
    → not h.more ≡ true → new ≡ front ++ h ∷ []
    → with_front (map fields front) (headers_at (3 - i) rest) ≡ whole
    → whole ≡ Ok (map fields new, after)
code_last front i rest six after whole h new lt long is is_six is_after last is_new before =
    is_last (map fields front) i rest whole (fields h) lt long (is ∙ ap header_of is_six)
    (not_true h.more last) before
    ∙ ap (λ (hs : List Header). Ok (hs, drop 6 rest))
    (sym (ap (map fields) is_new ∙ map-append fields front (h ∷ [])))
    ∙ ap (λ (r : List ℕ). Ok (map fields new, r)) (sym is_after)

pub code_more : (front : List HeaderCode) (i : ℕ) (rest six after : List ℕ)
    (whole : Result (List Header × List ℕ) PayloadFault) (h : HeaderCode) (new : List HeaderCode)
    → i < 3 → 6 ≤ length rest → fields h ≡ header_of six → six ≡ take 6 rest → after ≡ drop 6 rest
    → not h.more ≡ false → new ≡ front ++ h ∷ []
    → with_front (map fields front) (headers_at (3 - i) rest) ≡ whole
    → with_front (map fields new) (headers_at (3 - (i + 1)) after) ≡ whole
code_more front i rest six after whole h new lt long is is_six is_after more is_new before =
    ap (λ (hs : List Header). with_front hs (headers_at (3 - (i + 1)) after))
    (ap (map fields) is_new ∙ map-append fields front (h ∷ []))
    ∙ ap
    (λ (r : List ℕ). with_front (map fields front ++ fields h ∷ [])
    (headers_at (3 - (i + 1)) r)) is_after
    ∙ goes_on (map fields front) i rest whole (fields h) lt long (is ∙ ap header_of is_six)
    (not_false h.more more) before
