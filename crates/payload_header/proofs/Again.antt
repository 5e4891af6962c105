-- What is in the grammar is read.
use Rattle.std.proofs.Common.{◌≡◌, ℕ, zero, suc, ◌+◌, ◌*◌, ◌/◌, ◌%◌, ◌^◌, ◌<◌, ◌≤◌, Bool, true}
use Rattle.std.proofs.Common.{false, cond, not, eqb, ltb, leb, List, [], ◌∷◌, ◌++◌, length, take}
use Rattle.std.proofs.Common.{drop, Option, None, Result, Ok, Err, append_assoc, refl, sym, ap, ◌∙◌}
use Rattle.std.proofs.Common.{subst, arith}
use Rattle.std.specs.List.{AllZip, AllByRecursion, flat_map}
use Rattle.std.specs.Int.{w16, from_be_bytes, to_be_bytes}
use Rattle.std.proofs.lemmas.Bool.{eqb-false, eq-eqb, le-ltb, le-leb, lt-leb}
use Rattle.std.proofs.lemmas.List.{take_at, drop_at, length-append, append-nil}
use Rattle.std.proofs.lemmas.Nat.{from_be_bytes-to_be_bytes_2}
use Rattle.st_format.specs.declared.format.Format.{Format}
use Rattle.st_format.specs.Raster.{Segment}
use Rattle.payload_header.specs.declared.payload.PayloadFault.{PayloadFault}
use Rattle.payload_header.specs.declared.payload.PayloadFault.TheVariants.{ShortPayloadHeader}
use Rattle.payload_header.specs.declared.payload.PayloadFault.TheVariants.{ShortData, SecondField}
use Rattle.payload_header.specs.declared.payload.PayloadFault.TheVariants.{BadLength, BadOffset}
use Rattle.payload_header.specs.declared.payload.PayloadFault.TheVariants.{RowOutside}
use Rattle.payload_header.specs.declared.payload.PayloadFault.TheVariants.{ColumnsOutside}
use Rattle.payload_header.specs.Payload.{group_of, Header, HeaderFits, header_text, IsChain}
use Rattle.payload_header.specs.Payload.{IsInside, IsHeaderOf, IsPayload, most_segments}
use Rattle.payload_header.specs.Reading.{first_of, number_at, header_of, headers_at}
use Rattle.st_format.specs.Reading.{◌>>=◌}
use Rattle.payload_header.specs.Reading.{headers_fault, option_or, fault_or, segments_at}
use Rattle.payload_header.specs.Reading.{counted_octets}
use Rattle.payload_header.specs.Reading.{data_at, payload_walk}
use Rattle.st_format.specs.Reading.{Gives}
use Rattle.std.specs.Prelude.{IfOk}
use Rattle.payload_header.specs.declared.payload.PayloadView.{PayloadView}
use Rattle.payload_header.specs.View.{said_payload, segments_of}
use Rattle.payload_header.proofs.Taken.{payload_takes}
use Rattle.st_format.specs.Device.{AreOctets}
use Rattle.payload_header.proofs.Grammar.{octets_of-cons}

-- a flag and fifteen bits, as one number
abbrev flag_number : Bool → ℕ → ℕ
flag_number b n = cond b (2 ^ 15) 0 + n

flag_below : (b : Bool) (n : ℕ) → n < 2 ^ 15 → flag_number b n < 2 ^ 16
flag_below true n lt = omega arith
flag_below false n lt = omega arith

flag_of : (b : Bool) (n : ℕ) → n < 2 ^ 15 → leb (2 ^ 15) (flag_number b n) ≡ b
flag_of true n lt = le-leb (2 ^ 15) (2 ^ 15 + n) (omega arith)
flag_of false n lt = lt-leb (2 ^ 15) (0 + n) (omega arith)

bits_of_flag : (b : Bool) (n : ℕ) → n < 2 ^ 15 → flag_number b n % 2 ^ 15 ≡ n
bits_of_flag true n lt = omega arith
bits_of_flag false n lt = omega arith

abbrev header_from : ℕ → ℕ → ℕ → Header
header_from len row offset =
    record {
      octets = len;
      second_field = leb (2 ^ 15) row;
      row = row % 2 ^ 15;
      more =
          leb (2 ^ 15) offset;
      offset = offset % 2 ^ 15;
    }

abbrev header_made : ℕ → Bool → ℕ → Bool → ℕ → Header
header_made len f row c offset =
    record { octets = len; second_field = f; row = row; more = c; offset = offset }

parts_of : (a r o : List ℕ) → length a ≡ 2 → length r ≡ 2
    → (take 2 ((a ++ r) ++ o) ≡ a) × (take 2 (drop 2 ((a ++ r) ++ o)) ≡ r)
    × (drop 4 ((a ++ r) ++ o) ≡ o)
parts_of a r o la lr =
    let same : (a ++ r) ++ o ≡ a ++ (r ++ o) = append_assoc a r o in (
      ap (take 2) same ∙ take_at a (r ++ o) 2 la,
      ap (λ (x : List ℕ). take 2 (drop 2 x)) same ∙ ap (take 2) (drop_at a (r ++ o) 2 la)
          ∙ take_at r o 2 lr,
      drop_at (a ++ r) o 4 (omega (arith, length-append a r)),
    )

-- The fields of a header's text are the fields.
header_again : (h : Header) → HeaderFits h → header_of (header_text h) ≡ h
unfolding header_of
header_again h fits =
    let x : ℕ = flag_number h.second_field h.row in
    let y : ℕ = flag_number h.more h.offset in
    let p = parts_of (to_be_bytes w16 h.octets) (to_be_bytes w16 x) (to_be_bytes w16 y) refl refl in
    let len : from_be_bytes w16 (take 2 (header_text h)) ≡ h.octets =
    ap (from_be_bytes w16) p.0 ∙ from_be_bytes-to_be_bytes_2 h.octets fits.octets in
    let row : from_be_bytes w16 (take 2 (drop 2 (header_text h))) ≡ x =
    ap (from_be_bytes w16) p.1
    ∙ from_be_bytes-to_be_bytes_2 x (flag_below h.second_field h.row fits.row) in
    let offset : from_be_bytes w16 (drop 4 (header_text h)) ≡ y =
    ap (from_be_bytes w16) p.2
    ∙ from_be_bytes-to_be_bytes_2 y (flag_below h.more h.offset fits.offset) in
    ap (λ (n : ℕ). header_from n (from_be_bytes w16 (take 2 (drop 2 (header_text h))))
    (from_be_bytes w16 (drop 4 (header_text h)))) len
    ∙ ap (λ (n : ℕ). header_from h.octets n (from_be_bytes w16 (drop 4 (header_text h)))) row
    ∙ ap (λ (n : ℕ). header_from h.octets x n) offset
    ∙ ap (λ (b : Bool). header_made h.octets b (x % 2 ^ 15) (leb (2 ^ 15) y) (y % 2 ^ 15))
    (flag_of h.second_field h.row fits.row)
    ∙ ap (λ (n : ℕ). header_made h.octets h.second_field n (leb (2 ^ 15) y) (y % 2 ^ 15))
    (bits_of_flag h.second_field h.row fits.row)
    ∙ ap (λ (b : Bool). header_made h.octets h.second_field h.row b (y % 2 ^ 15))
    (flag_of h.more h.offset fits.offset)
    ∙ ap (λ (n : ℕ). header_made h.octets h.second_field h.row h.more n)
    (bits_of_flag h.more h.offset fits.offset)

abbrev Read : Type 0
Read = Result (List Header × List ℕ) PayloadFault

-- reading one header more
pub one_again : (n : ℕ) (h : Header) (rest : List ℕ) → HeaderFits h
    → headers_at (suc n) (header_text h ++ rest)
    ≡ cond h.more (headers_at n rest >>= λ r. Ok (h ∷ r.0, r.1)) (Ok (h ∷ [], rest))
unfolding headers_at
one_again n h rest fits =
    let t : List ℕ = header_text h in
    let front : take 6 (t ++ rest) ≡ t = take_at t rest 6 refl in
    let back : drop 6 (t ++ rest) ≡ rest = drop_at t rest 6 refl in
    let long : ltb (length (t ++ rest)) 6 ≡ false =
    le-ltb (length (t ++ rest)) 6 (omega (arith, length-append t rest)) in
    let is : header_of (take 6 (t ++ rest)) ≡ h = ap header_of front ∙ header_again h fits in
    ap (λ (b : Bool). cond b (Err ShortPayloadHeader)
    (cond (header_of (take 6 (t ++ rest))).more
    (headers_at n (drop 6 (t ++ rest)) >>= λ r. Ok (header_of (take 6 (t ++ rest)) ∷ r.0, r.1))
    (Ok (header_of (take 6 (t ++ rest)) ∷ [], drop 6 (t ++ rest))))) long
    ∙ ap
    (λ (k : Header). cond k.more (headers_at n (drop 6 (t ++ rest)) >>= λ r. Ok (k ∷ r.0, r.1))
    (Ok (k ∷ [], drop 6 (t ++ rest)))) is
    ∙ ap
    (λ (x : List ℕ). cond h.more (headers_at n x >>= λ r. Ok (h ∷ r.0, r.1))
    (Ok (h ∷ [], x))) back

-- Headers of the grammar are read.
pub headers_again : (n : ℕ) (hs : List Header) (rest : List ℕ) → IsChain hs → length hs ≤ n
    → AllByRecursion HeaderFits hs → headers_at n (flat_map header_text hs ++ rest) ≡ Ok (hs, rest)
headers_again n [] rest chain few fit = absurd chain
headers_again zero (h ∷ hs) rest chain few fit = absurd (omega arith)
headers_again (suc n) (h ∷ []) rest chain few fit =
    ap (λ (x : List ℕ). headers_at (suc n) (x ++ rest)) (append-nil (header_text h))
    ∙ one_again n h rest fit.0
    ∙ ap
    (λ (b : Bool). cond b (headers_at n rest >>= λ r. Ok (h ∷ r.0, r.1))
    (Ok (h ∷ [], rest))) chain
headers_again (suc n) (h ∷ k ∷ hs) rest chain few fit =
    let later : List ℕ = flat_map header_text (k ∷ hs) ++ rest in
    ap (headers_at (suc n)) (append_assoc (header_text h) (flat_map header_text (k ∷ hs)) rest)
    ∙ one_again n h later fit.0
    ∙ ap
    (λ (b : Bool). cond b (headers_at n later >>= λ r. Ok (h ∷ r.0, r.1))
    (Ok (h ∷ [], later))) chain.0
    ∙ ap (λ (r : Read). r >>= λ r. Ok (h ∷ r.0, r.1))
    (headers_again n (k ∷ hs) rest chain.1 (omega arith) fit.1)

-- ---- no fault

no_test : (b1 b2 b3 b4 b5 : Bool) → b1 ≡ false → b2 ≡ false → b3 ≡ false → b4 ≡ false → b5 ≡ false
    → first_of
    ((b1, SecondField) ∷ (b2, BadLength) ∷ (b3, BadOffset) ∷ (b4, RowOutside) ∷
    (b5, ColumnsOutside) ∷ []) ≡ None
no_test b1 b2 b3 b4 b5 e1 e2 e3 e4 e5 = rw (e1, e2, e3, e4, e5) refl

zero_test : (n : ℕ) → n ≡ 0 → not (eqb n 0) ≡ false
zero_test n e = ap not (eq-eqb n 0 e)

fault_free : (f : Format) (h : Header) (s : Segment) (b : Bool) → IsHeaderOf h f s
    → eqb h.octets 0 ≡ b
    → cond b None
    (first_of ((h.second_field, SecondField) ∷
    (not (eqb (h.octets % (group_of f).octets) 0), BadLength) ∷
    (not (eqb (h.offset % (group_of f).pixels) 0), BadOffset)
    ∷ (leb f.height h.row, RowOutside) ∷ (
      ltb f.width (h.offset + h.octets / (group_of f).octets * (group_of f).pixels),
      ColumnsOutside,
    ) ∷ [])) ≡ None
fault_free f h s true d e = refl
fault_free f h s false d e =
    let ne : h.octets ≡ 0 → ⊥ = eqb-false h.octets 0 e in
    let some : 0 < length s.octets = omega (arith, d.octets) in
    let is : IsInside s f = d.inside some in
    no_test h.second_field (not (eqb (h.octets % (group_of f).octets) 0))
    (not (eqb (h.offset % (group_of f).pixels) 0)) (leb f.height h.row)
    (ltb f.width (h.offset + h.octets / (group_of f).octets * (group_of f).pixels))
    (d.first_field some)
    (zero_test (h.octets % (group_of f).octets)
    (ap (λ (n : ℕ). n % (group_of f).octets) d.octets ∙ is.whole_groups))
    (zero_test (h.offset % (group_of f).pixels)
    (ap (λ (n : ℕ). n % (group_of f).pixels) d.offset ∙ is.at_group))
    (lt-leb f.height h.row (subst (λ (n : ℕ). n < f.height) (sym d.row) is.row))
    (le-ltb f.width (h.offset + h.octets / (group_of f).octets * (group_of f).pixels)
    (subst (λ (n : ℕ). n + h.octets / (group_of f).octets * (group_of f).pixels ≤ f.width)
    (sym d.offset)
    (subst (λ (n : ℕ). s.offset + n / (group_of f).octets * (group_of f).pixels ≤ f.width)
    (sym d.octets) is.columns)))

no_faults : (f : Format) (hs : List Header) (ss : List Segment)
    → AllZip (λ h s. IsHeaderOf h f s) hs ss
    → headers_fault f hs ≡ None
no_faults f [] ss d = refl
no_faults f (h ∷ hs) [] d = absurd d
no_faults f (h ∷ hs) (s ∷ ss) d =
    ap (λ (o : Option PayloadFault). option_or o (headers_fault f hs))
    (fault_free f h s (eqb h.octets 0) d.0 refl) ∙ no_faults f hs ss d.1

-- ---- the segments

abbrev all_octets : List Segment → List ℕ
all_octets ss = flat_map (λ (s : Segment). s.octets) ss

lengths : (f : Format) (hs : List Header) (ss : List Segment)
    → AllZip (λ h s. IsHeaderOf h f s) hs ss
    → counted_octets hs ≡ length (all_octets ss)
lengths f [] [] d = refl
lengths f [] (s ∷ ss) d = absurd d
lengths f (h ∷ hs) [] d = absurd d
lengths f (h ∷ hs) (s ∷ ss) d =
    omega (
      arith,
      octets_of-cons h hs,
      length-append s.octets (all_octets ss),
      d.0.octets,
      lengths f hs ss d.1,
    )

abbrev segment : ℕ → ℕ → List ℕ → Segment
segment row offset octets = record { row = row; offset = offset; octets = octets }

segments_again : (f : Format) (hs : List Header) (ss : List Segment) (rest : List ℕ)
    → AllZip (λ h s. IsHeaderOf h f s) hs ss → segments_at hs (all_octets ss ++ rest) ≡ ss
segments_again f [] [] rest d = refl
segments_again f [] (s ∷ ss) rest d = absurd d
segments_again f (h ∷ hs) [] rest d = absurd d
segments_again f (h ∷ hs) (s ∷ ss) rest d =
    let grouped : all_octets (s ∷ ss) ++ rest ≡ s.octets ++ (all_octets ss ++ rest) =
    append_assoc s.octets (all_octets ss) rest in
    let front : take h.octets (all_octets (s ∷ ss) ++ rest) ≡ s.octets =
    ap (take h.octets) grouped
    ∙ take_at s.octets (all_octets ss ++ rest) h.octets (sym d.0.octets) in
    let back : drop h.octets (all_octets (s ∷ ss) ++ rest) ≡ all_octets ss ++ rest =
    ap (drop h.octets) grouped
    ∙ drop_at s.octets (all_octets ss ++ rest) h.octets (sym d.0.octets) in
    ap (λ (x : List ℕ). segment h.row h.offset x ∷ segments_at hs
    (drop h.octets (all_octets (s ∷ ss) ++ rest))) front
    ∙ ap (λ (x : List ℕ). segment h.row h.offset s.octets ∷ segments_at hs x) back
    ∙ ap (λ (xs : List Segment). segment h.row h.offset s.octets ∷ xs)
    (segments_again f hs ss rest d.1)
    ∙ ap (λ (n : ℕ). segment n h.offset s.octets ∷ ss) d.0.row
    ∙ ap (λ (n : ℕ). segment s.row n s.octets ∷ ss) d.0.offset

abbrev number_rest : ℕ → List ℕ → Result (ℕ × List ℕ) PayloadFault
number_rest n rest = Ok (n, rest)

pub number_again : (n : ℕ) (rest : List ℕ) → n < 2 ^ 16
    → number_at (to_be_bytes w16 n ++ rest) ≡ Ok (n, rest)
number_again n rest lt =
    let long : ltb (length (to_be_bytes w16 n ++ rest)) 2 ≡ false =
    le-ltb (length (to_be_bytes w16 n ++ rest)) 2
    (omega (arith, length-append (to_be_bytes w16 n) rest)) in
    ap (λ (b : Bool). cond b (Err ShortPayloadHeader)
    (number_rest (from_be_bytes w16 (to_be_bytes w16 n)) rest)) long
    ∙ ap (λ (k : ℕ). number_rest k rest) (from_be_bytes-to_be_bytes_2 n lt)

-- What is in the grammar is read.
pub payload_again : (f : Format) (extended : ℕ) (segments : List Segment) (octets : List ℕ)
    → IsPayload octets f extended segments → payload_walk f octets ≡ Ok (extended, segments)
unfolding payload_walk
payload_again f extended segments octets is =
    let later : List ℕ = all_octets segments ++ is.rest in
    let behind : List ℕ = flat_map header_text is.headers ++ later in
    let enough : ltb (length later) (counted_octets is.headers) ≡ false =
    le-ltb _ _
    (omega (
      arith,
      lengths f is.headers segments is.described,
      length-append (all_octets segments) is.rest,
    )) in
    let cut : data_at is.headers later ≡ Ok segments =
    ap (λ (b : Bool). cond b (Err ShortData) (Ok (segments_at is.headers later))) enough
    ∙ ap (λ (ss : List Segment). Ok ss)
    (segments_again f is.headers segments is.rest is.described) in
    ap (payload_walk f) is.whole
    ∙ ap
    (λ (r : Result (ℕ × List ℕ) PayloadFault). r >>= λ x. headers_at most_segments x.1 >>=
    λ hs. fault_or (headers_fault f hs.0) (data_at hs.0 hs.1) >>= λ ss. Ok (x.0, ss))
    (number_again extended behind is.extended_fits)
    ∙ ap
    (λ (r : Read). r >>= λ hs. fault_or (headers_fault f hs.0) (data_at hs.0 hs.1) >>=
    λ ss. Ok (extended, ss))
    (headers_again most_segments is.headers later is.chain is.few is.headers_fit)
    ∙ ap
    (λ (o : Option PayloadFault). fault_or o (data_at is.headers later) >>=
    λ ss. Ok (extended, ss)) (no_faults f is.headers segments is.described)
    ∙ ap (λ (r : Result (List Segment) PayloadFault). r >>= λ ss. Ok (extended, ss)) cut

-- The clauses of a reader that gives what reading gives
pub is_found : (f : Format) (octets : List ℕ) (r : Result PayloadView PayloadFault)
    → AreOctets octets → Gives said_payload r (payload_walk f octets)
    → IfOk r (λ v. IsPayload octets f v.extended (segments_of v))
is_found f octets (Ok v) bytes gives =
    payload_takes f octets (v.extended, segments_of v) bytes gives
is_found f octets (Err e) bytes gives = tt

pub is_only : (f : Format) (octets : List ℕ) (r : Result PayloadView PayloadFault)
    → Gives said_payload r (payload_walk f octets)
    → (extended : ℕ) (segments : List Segment) → IsPayload octets f extended segments
    → Gives said_payload r (Ok (extended, segments))
is_only f octets (Ok v) gives e ss is = sym (payload_again f e ss octets is) ∙ gives
is_only f octets (Err x) gives e ss is = sym (payload_again f e ss octets is) ∙ gives
