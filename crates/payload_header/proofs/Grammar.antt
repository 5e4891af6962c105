-- What is read is in the grammar, and what is in the grammar is read.
use Rattle.std.proofs.Common.{◌≡◌, ℕ, ◌+◌, ◌*◌, ◌/◌, ◌%◌, ◌<◌, ◌≤◌, Bool, true, false, cond, not}
use Rattle.std.proofs.Common.{eqb, ltb, leb, List, [], ◌∷◌, length, take, drop, map, All, Option}
use Rattle.std.proofs.Common.{Some, None, refl, sym, ap, ◌∙◌, subst, arith}
use Rattle.std.specs.List.{AllZip, AllByRecursion}
use Rattle.std.proofs.lemmas.Bool.{eqb-true, leb-false, ltb-false}
use Rattle.std.proofs.lemmas.List.{length-take, length-drop}
use Rattle.std.proofs.lemmas.List.Elements.{All-from_recursion}
use Rattle.std.proofs.lemmas.List.Sums.{sum_by-cons}
use Rattle.st_format.specs.declared.format.Format.{Format}
use Rattle.st_format.specs.Raster.{Segment}
use Rattle.st_format.proofs.Readings.{not_eqb_at}
use Rattle.payload_header.specs.declared.payload.PayloadFault.{PayloadFault}
use Rattle.payload_header.specs.declared.payload.PayloadFault.TheVariants.{SecondField, BadLength}
use Rattle.payload_header.specs.declared.payload.PayloadFault.TheVariants.{BadOffset, RowOutside}
use Rattle.payload_header.specs.declared.payload.PayloadFault.TheVariants.{ColumnsOutside}
use Rattle.payload_header.specs.declared.payload.Segment.{Segment as SegmentView}
use Rattle.payload_header.specs.Payload.{group_of, Header, IsInside, IsHeaderOf, seen_segment}
use Rattle.payload_header.specs.Reading.{first_of, header_fault, headers_fault, option_or}
use Rattle.payload_header.specs.Reading.{segments_at, counted_octets}

-- what five tests say of which none holds
none_holds : (f : Format) (b1 b2 b3 b4 b5 : Bool)
    → first_of
    ((b1, SecondField) ∷ (b2, BadLength) ∷ (b3, BadOffset) ∷ (b4, RowOutside) ∷
    (b5, ColumnsOutside) ∷ []) ≡ None
    → (b1 ≡ false) × (b2 ≡ false) × (b3 ≡ false) × (b4 ≡ false) × (b5 ≡ false)
none_holds f true b2 b3 b4 b5 h = absurd cc
none_holds f false true b3 b4 b5 h = absurd cc
none_holds f false false true b4 b5 h = absurd cc
none_holds f false false false true b5 h = absurd cc
none_holds f false false false false true h = absurd cc
none_holds f false false false false false h = (refl, refl, refl, refl, refl)

not_eqb : (a b : ℕ) → not (eqb a b) ≡ false → a ≡ b
not_eqb a b h = not_eqb_at a b (eqb a b) refl h

-- A header that has octets and no fault describes a segment of its octets.
header_ok : (f : Format) (h : Header) (b : Bool) → eqb h.octets 0 ≡ b
    → cond b None
    (first_of ((h.second_field, SecondField) ∷
    (not (eqb (h.octets % (group_of f).octets) 0), BadLength) ∷
    (not (eqb (h.offset % (group_of f).pixels) 0), BadOffset)
    ∷ (leb f.height h.row, RowOutside) ∷ (
      ltb f.width (h.offset + h.octets / (group_of f).octets * (group_of f).pixels),
      ColumnsOutside,
    ) ∷ [])) ≡ None
    → (s : Segment) → h.octets ≡ length s.octets → h.row ≡ s.row → h.offset ≡ s.offset
    → IsHeaderOf h f s
header_ok f h true e none s o r p =
    let empty : h.octets ≡ 0 = eqb-true h.octets 0 e in
    record {
      octets = o;
      row = r;
      offset = p;
      first_field = λ some. absurd (omega arith);
      inside =
          λ some. absurd (omega arith);
    }
header_ok f h false e none s o r p =
    let t =
    none_holds f h.second_field (not (eqb (h.octets % (group_of f).octets) 0))
    (not (eqb (h.offset % (group_of f).pixels) 0)) (leb f.height h.row)
    (ltb f.width (h.offset + h.octets / (group_of f).octets * (group_of f).pixels)) none in
    record {
      octets = o;
      row = r;
      offset = p;
      first_field = λ some. t.0;
      inside = λ some. record {
        whole_groups =
            ap (λ (n : ℕ). n % (group_of f).octets) (sym o)
            ∙ not_eqb (h.octets % (group_of f).octets) 0 t.1;
        at_group =
            ap (λ (n : ℕ). n % (group_of f).pixels) (sym p)
            ∙ not_eqb (h.offset % (group_of f).pixels) 0 t.2;
        row = subst (λ (n : ℕ). n < f.height) r (leb-false f.height h.row t.3);
        columns =
            subst (λ (n : ℕ). n + length s.octets / (group_of f).octets * (group_of f).pixels
            ≤ f.width) p
            (subst (λ (n : ℕ). h.offset + n / (group_of f).octets * (group_of f).pixels
            ≤ f.width) o
            (ltb-false f.width
            (h.offset + h.octets / (group_of f).octets * (group_of f).pixels) t.4));
      };
    }

pub octets_of-cons : (h : Header) (hs : List Header) → counted_octets (h ∷ hs)
    ≡ h.octets + counted_octets hs
octets_of-cons h hs = sum_by-cons (λ (x : Header). x.octets) h hs

-- The same of each header and its octets in turn
option_none : (a b : Option PayloadFault) → option_or a b ≡ None → (a ≡ None) × (b ≡ None)
option_none None b h = (refl, h)
option_none (Some e) b h = absurd cc

pub all_described : (f : Format) (hs : List Header) (octets : List ℕ) → headers_fault f hs ≡ None
    → counted_octets hs ≤ length octets → AllZip (λ h s. IsHeaderOf h f s) hs
    (segments_at hs octets)
all_described f [] octets none enough = tt
all_described f (h ∷ hs) octets none enough =
    let two = option_none (header_fault f h) (headers_fault f hs) none in
    let total : h.octets + counted_octets hs ≤ length octets
    = omega (arith, octets_of-cons h hs) in (
      header_ok f h (eqb h.octets 0) refl two.0
          (record { row = h.row; offset = h.offset; octets = take h.octets octets })
          (omega (arith, length-take h.octets octets)) refl refl,
      all_described f hs (drop h.octets octets) two.1 (omega (arith, length-drop h.octets octets)),
    )

-- what the segments of a view owe
pub all_inside : (f : Format) (hs : List Header) (ss : List Segment)
    → AllZip (λ h s. IsHeaderOf h f s) hs ss
    → AllByRecursion (λ s. 0 < length s.octets → IsInside s f) ss
all_inside f [] [] d = tt
all_inside f [] (s ∷ ss) d = absurd d
all_inside f (h ∷ hs) [] d = absurd d
all_inside f (h ∷ hs) (s ∷ ss) d = (d.0.inside, all_inside f hs ss d.1)

seen_inside : (f : Format) (ss : List SegmentView)
    → AllByRecursion (λ s. 0 < length s.octets → IsInside s f) (map seen_segment ss)
    → AllByRecursion (λ s. 0 < length s.octets.now → IsInside (seen_segment s) f) ss
seen_inside f [] h = tt
seen_inside f (s ∷ ss) h = (h.0, seen_inside f ss h.1)

pub view_inside : (f : Format) (hs : List Header) (octets : List ℕ) (ss : List SegmentView)
    → map seen_segment ss ≡ segments_at hs octets → headers_fault f hs ≡ None
    → counted_octets hs ≤ length octets
    → All (λ s. 0 < length s.octets.now → IsInside (seen_segment s) f) ss
view_inside f hs octets ss is none enough =
    All-from_recursion (λ s. 0 < length s.octets.now → IsInside (seen_segment s) f) ss
    (seen_inside f ss
    (all_inside f hs (map seen_segment ss)
    (subst (λ (xs : List Segment). AllZip (λ h s. IsHeaderOf h f s) hs xs) (sym is)
    (all_described f hs octets none enough))))
