-- What is written, with the segments' octets behind it, is in the grammar.
use Rattle.std.proofs.Common.{◌≡◌, ℕ, suc, ◌+◌, ◌*◌, ◌^◌, ◌<◌, ◌≤◌, ◌↔◌, Bool, true, false, cond}
use Rattle.std.proofs.Common.{ltb, List, [], ◌∷◌, ◌++◌, length, take, drop, Option, Some, None}
use Rattle.std.proofs.Common.{Result, Ok, Err, append_assoc, refl, sym, ap, ◌∙◌, subst, arith}
use Rattle.std.specs.List.{AllZip, AllByRecursion, flat_map}
use Rattle.std.specs.Int.{w16, to_be_bytes}
use Rattle.std.proofs.lemmas.Bool.{le-ltb}
use Rattle.std.proofs.lemmas.List.{take_at, drop_at, length-append, append-nil}
use Rattle.std.proofs.lemmas.List.Concat.{flat_map-cons}
use Rattle.st_format.specs.declared.format.Format.{Format}
use Rattle.st_format.specs.Raster.{Segment}
use Rattle.payload_header.specs.declared.payload.PayloadFault.{PayloadFault}
use Rattle.payload_header.specs.declared.payload.PayloadFault.TheVariants.{ShortData}
use Rattle.payload_header.specs.declared.writing.SegmentHead.{SegmentHead}
use Rattle.payload_header.specs.Payload.{Header, HeaderFits, header_text, IsChain, IsInside}
use Rattle.payload_header.specs.Payload.{IsHeaderOf, IsPayload, most_segments}
use Rattle.payload_header.specs.Reading.{headers_fault, fault_or, segments_at, counted_octets}
use Rattle.st_format.specs.Reading.{◌>>=◌}
use Rattle.payload_header.specs.Reading.{data_at}
use Rattle.payload_header.specs.Faults.{HasHeaders}
use Rattle.payload_header.specs.Writing.{HeadFits, header_of_head, headers_of_heads, payload_front}
use Rattle.payload_header.specs.Writing.{Announces, AreHeads, data_text, AreInside, IsWholePayload}
use Rattle.payload_header.proofs.Grammar.{octets_of-cons, all_inside}
use Rattle.payload_header.proofs.Again.{payload_again}
use Rattle.payload_header.proofs.Refused.{begun_whole, with_number}

-- ---- the headers of heads

length-headers : (heads : List SegmentHead) → length (headers_of_heads heads) ≡ length heads
length-headers [] = refl
length-headers (h ∷ []) = refl
length-headers (h ∷ k ∷ hs) = ap suc (length-headers (k ∷ hs))

length-text : (hs : List Header) → length (flat_map header_text hs) ≡ 6 * length hs
length-text [] = refl
length-text (h ∷ hs) =
    omega (
      arith,
      ap (λ (x : List ℕ). length x) (flat_map-cons header_text h hs),
      length-append (header_text h) (flat_map header_text hs),
      length-text hs,
    )

length-front : (extended : ℕ) (heads : List SegmentHead)
    → length (payload_front extended heads) ≡ 2 + 6 * length heads
length-front extended heads =
    omega (
      arith,
      length-append (to_be_bytes w16 extended) (flat_map header_text (headers_of_heads heads)),
      length-text (headers_of_heads heads),
      length-headers heads,
    )

fits_of : (more : Bool) (h : SegmentHead) → HeadFits h → HeaderFits (header_of_head more h)
fits_of more h fits = record { octets = fits.octets; row = fits.row; offset = fits.offset }

all_fit : (heads : List SegmentHead) → AllByRecursion HeadFits heads
    → AllByRecursion HeaderFits (headers_of_heads heads)
all_fit [] fits = tt
all_fit (h ∷ []) fits = (fits_of false h fits.0, tt)
all_fit (h ∷ k ∷ hs) fits = (fits_of true h fits.0, all_fit (k ∷ hs) fits.1)

is_chain : (heads : List SegmentHead) → 0 < length heads → IsChain (headers_of_heads heads)
is_chain [] some = absurd (omega arith)
is_chain (h ∷ []) some = refl
is_chain (h ∷ k ∷ []) some = (refl, refl)
is_chain (h ∷ k ∷ j ∷ hs) some = (refl, is_chain (k ∷ j ∷ hs) (omega arith))

-- ---- headers and segments

-- a header of the first field with a segment's place and number of octets
record Fronts (h : Header) (s : Segment) : Type 0 where
  octets : h.octets ≡ length s.octets
  row : h.row ≡ s.row
  offset : h.offset ≡ s.offset
  first_field : h.second_field ≡ false

front_of : (more : Bool) (h : SegmentHead) (s : Segment) → Announces h s
    → Fronts (header_of_head more h) s
front_of more h s a =
    record { octets = a.octets; row = a.row; offset = a.offset; first_field = refl }

all_front : (heads : List SegmentHead) (segments : List Segment) → AllZip Announces heads segments
    → AllZip Fronts (headers_of_heads heads) segments
all_front [] [] a = tt
all_front [] (s ∷ ss) a = absurd a
all_front (h ∷ []) [] a = absurd a
all_front (h ∷ []) (s ∷ []) a = (front_of false h s a.0, tt)
all_front (h ∷ []) (s ∷ t ∷ ss) a = absurd a.1
all_front (h ∷ k ∷ hs) [] a = absurd a
all_front (h ∷ k ∷ hs) (s ∷ ss) a = (front_of true h s a.0, all_front (k ∷ hs) ss a.1)

describes : (f : Format) (h : Header) (s : Segment) → Fronts h s
    → (0 < length s.octets → IsInside s f) → IsHeaderOf h f s
describes f h s a inside =
    record {
      octets = a.octets;
      row = a.row;
      offset = a.offset;
      first_field =
          λ some. a.first_field;
      inside = inside;
    }

all_describe : (f : Format) (hs : List Header) (segments : List Segment)
    → AllZip Fronts hs segments → AreInside segments f → AllZip
    (λ h s. IsHeaderOf h f s) hs segments
all_describe f [] [] a inside = tt
all_describe f [] (s ∷ ss) a inside = absurd a
all_describe f (h ∷ hs) [] a inside = absurd a
all_describe f (h ∷ hs) (s ∷ ss) a inside =
    (describes f h s a.0 inside.0, all_describe f hs ss a.1 inside.1)

front_lengths : (hs : List Header) (segments : List Segment) → AllZip Fronts hs segments
    → counted_octets hs ≡ length (data_text segments)
front_lengths [] [] a = refl
front_lengths [] (s ∷ ss) a = absurd a
front_lengths (h ∷ hs) [] a = absurd a
front_lengths (h ∷ hs) (s ∷ ss) a =
    omega (
      arith,
      octets_of-cons h hs,
      length-append s.octets (data_text ss),
      a.0.octets,
      front_lengths hs ss a.1,
    )

abbrev segment : ℕ → ℕ → List ℕ → Segment
segment row offset octets = record { row = row; offset = offset; octets = octets }

-- The segments' octets are cut out again.
segments_back : (hs : List Header) (segments : List Segment) (rest : List ℕ)
    → AllZip Fronts hs segments → segments_at hs (data_text segments ++ rest) ≡ segments
segments_back [] [] rest a = refl
segments_back [] (s ∷ ss) rest a = absurd a
segments_back (h ∷ hs) [] rest a = absurd a
segments_back (h ∷ hs) (s ∷ ss) rest a =
    let grouped : data_text (s ∷ ss) ++ rest ≡ s.octets ++ (data_text ss ++ rest) =
    append_assoc s.octets (data_text ss) rest in
    let front : take h.octets (data_text (s ∷ ss) ++ rest) ≡ s.octets =
    ap (take h.octets) grouped
    ∙ take_at s.octets (data_text ss ++ rest) h.octets (sym a.0.octets) in
    let back : drop h.octets (data_text (s ∷ ss) ++ rest) ≡ data_text ss ++ rest =
    ap (drop h.octets) grouped
    ∙ drop_at s.octets (data_text ss ++ rest) h.octets (sym a.0.octets) in
    ap (λ (x : List ℕ). segment h.row h.offset x ∷ segments_at hs
    (drop h.octets (data_text (s ∷ ss) ++ rest))) front
    ∙ ap (λ (x : List ℕ). segment h.row h.offset s.octets ∷ segments_at hs x) back
    ∙ ap (λ (xs : List Segment). segment h.row h.offset s.octets ∷ xs)
    (segments_back hs ss rest a.1)
    ∙ ap (λ (n : ℕ). segment n h.offset s.octets ∷ ss) a.0.row
    ∙ ap (λ (n : ℕ). segment s.row n s.octets ∷ ss) a.0.offset

-- ---- the laws

written_whole : (f : Format) (extended : ℕ) (heads : List SegmentHead) (segments : List Segment)
    → AreHeads extended heads segments → AreInside segments f
    → IsWholePayload (payload_front extended heads ++ data_text segments) f extended segments
written_whole f extended heads segments are inside =
    let made : IsPayload (payload_front extended heads ++ data_text segments) f extended segments =
    record {
      headers = headers_of_heads heads;
      rest = [];
      extended_fits = are.extended_fits;
      headers_fit = all_fit heads are.fields;
      few = omega (arith, length-headers heads, are.few);
      chain = is_chain heads are.some;
      described =
          all_describe f (headers_of_heads heads) segments
          (all_front heads segments are.announce) inside;
      whole =
          append_assoc (to_be_bytes w16 extended) (flat_map header_text (headers_of_heads heads))
          (data_text segments)
          ∙ ap
          (λ (x : List ℕ). to_be_bytes w16 extended ++
          (flat_map header_text (headers_of_heads heads) ++ x))
          (sym (append-nil (data_text segments)));
    } in
    record { is_payload = made; no_rest = refl }

pub is_written_payload : (f : Format) (extended : ℕ) (heads : List SegmentHead)
    (segments : List Segment) → AreHeads extended heads segments
    → AreInside segments f
    ↔ IsWholePayload (payload_front extended heads ++ data_text segments) f extended segments
is_written_payload f extended heads segments are = (
  λ inside. written_whole f extended heads segments are inside,
  λ is. all_inside f is.is_payload.headers segments is.is_payload.described,
)

abbrev Whole : Type 0
Whole = Result (ℕ × List Segment) PayloadFault

abbrev read_of : ℕ × List Segment → Whole
read_of x = Ok x

abbrev cut_of : List Segment → Result (List Segment) PayloadFault
cut_of ss = Ok ss

same_read : (x y : ℕ × List Segment) → read_of x ≡ read_of y → x ≡ y
same_read x y h = cc

-- what was read, if no header was told wrong
told : (o : Option PayloadFault) (n : ℕ) (ss : List Segment) (x : ℕ × List Segment)
    → (fault_or o (cut_of ss) >>= with_number n) ≡ read_of x → (n, ss) ≡ x
told None n ss x e = same_read (n, ss) x e
told (Some d) n ss x e = absurd cc

pub written_has : (f : Format) (extended d : ℕ) (heads : List SegmentHead)
    (segments ts : List Segment) (rest : List ℕ) → AreHeads extended heads segments
    → IsPayload (payload_front extended heads ++ (data_text segments ++ rest)) f d ts
    → (d ≡ extended) × (ts ≡ segments)
written_has f extended d heads segments ts rest are is =
    let hs : List Header = headers_of_heads heads in
    let later : List ℕ = data_text segments ++ rest in
    let fronts : AllZip Fronts hs segments = all_front heads segments are.announce in
    let whole : HasHeaders (payload_front extended heads ++ later) hs later = record {
      begins = record {
        extended = extended;
        extended_fits = are.extended_fits;
        headers_fit = all_fit heads are.fields;
        parts = append_assoc (to_be_bytes w16 extended) (flat_map header_text hs) later;
      };
      chain = is_chain heads are.some;
      few = omega (arith, length-headers heads, are.few);
    } in
    let enough : ltb (length later) (counted_octets hs) ≡ false =
    le-ltb (length later) (counted_octets hs)
    (omega (
      arith,
      front_lengths hs segments fronts,
      length-append (data_text segments) rest,
    )) in
    let cut : data_at hs later ≡ cut_of segments =
    ap (λ (b : Bool). cond b (Err ShortData) (cut_of (segments_at hs later))) enough
    ∙ ap (λ (ss : List Segment). cut_of ss) (segments_back hs segments rest fronts) in
    let read : (fault_or (headers_fault f hs) (cut_of segments) >>= with_number extended)
    ≡ read_of (d, ts) =
    ap (λ (r : Result (List Segment) PayloadFault). fault_or
    (headers_fault f hs) r >>= with_number extended) (sym cut)
    ∙ sym (begun_whole f (payload_front extended heads ++ later) hs later whole)
    ∙ payload_again f d ts (payload_front extended heads ++ later) is in
    let pair : (extended, segments) ≡ (d, ts) =
    told (headers_fault f hs) extended segments (d, ts) read in
    (ap (λ (x : ℕ × List Segment). x.0) (sym pair), ap (λ (x : ℕ × List Segment). x.1) (sym pair))

-- The clause of the writer
pub is_written : (extended : ℕ) (heads : List SegmentHead) (new behind : List ℕ)
    → extended < 2 ^ 16 → 0 < length heads → length heads ≤ most_segments
    → AllByRecursion HeadFits heads
    → new ≡ payload_front extended heads ++ behind → (f : Format) (segments : List Segment)
    → AllZip Announces heads segments
    → AreInside segments f
    ↔ IsWholePayload (take (2 + 6 * length heads) new ++ data_text segments) f extended segments
is_written extended heads new behind small some few fields written f segments announce =
    let front : take (2 + 6 * length heads) new ≡ payload_front extended heads =
    ap (take (2 + 6 * length heads)) written
    ∙ take_at (payload_front extended heads) behind (2 + 6 * length heads)
    (length-front extended heads) in
    subst (λ (x : List ℕ). AreInside segments f
    ↔ IsWholePayload (x ++ data_text segments) f extended segments) (sym front)
    (is_written_payload f extended heads segments
    (record {
      extended_fits = small;
      some = some;
      few = few;
      fields = fields;
      announce =
          announce;
    }))
