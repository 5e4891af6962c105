-- Octets are refused with a fault exactly where that fault's condition holds.
use Rattle.std.proofs.Common.{◌≡◌, ℕ, zero, suc, ◌<◌, ◌⊎◌, ◌↔◌, inl, inr, Bool, true, false, cond}
use Rattle.std.proofs.Common.{ltb, List, [], ◌∷◌, ◌++◌, length, take, drop, Option, Some, None}
use Rattle.std.proofs.Common.{Result, Ok, Err, append_assoc, refl, sym, ap, ◌∙◌, subst, arith}
use Rattle.std.specs.List.{AllByRecursion, flat_map}
use Rattle.std.specs.Int.{w16, to_be_bytes}
use Rattle.std.proofs.lemmas.Bool.{ltb-true, lt-ltb}
use Rattle.std.proofs.lemmas.List.{take-append-drop}
use Rattle.std.proofs.lemmas.List.Concat.{flat_map-cons}
use Rattle.st_format.specs.declared.format.Format.{Format}
use Rattle.st_format.specs.Raster.{Segment}
use Rattle.payload_header.specs.declared.payload.PayloadFault.{PayloadFault}
use Rattle.payload_header.specs.declared.payload.PayloadFault.TheVariants.{ShortPayloadHeader}
use Rattle.payload_header.specs.declared.payload.PayloadFault.TheVariants.{TooManySegments}
use Rattle.payload_header.specs.declared.payload.PayloadFault.TheVariants.{SecondField, BadLength}
use Rattle.payload_header.specs.declared.payload.PayloadFault.TheVariants.{BadOffset, RowOutside}
use Rattle.payload_header.specs.declared.payload.PayloadFault.TheVariants.{ColumnsOutside}
use Rattle.payload_header.specs.declared.payload.PayloadFault.TheVariants.{ShortData}
use Rattle.payload_header.specs.declared.payload.PayloadView.{PayloadView}
use Rattle.payload_header.specs.Payload.{Header, HeaderFits, header_text, most_segments}
use Rattle.payload_header.specs.Reading.{number_at, header_of, headers_at, headers_fault}
use Rattle.st_format.specs.Reading.{◌>>=◌}
use Rattle.payload_header.specs.Reading.{fault_or, segments_at, counted_octets, data_at}
use Rattle.payload_header.specs.Reading.{payload_walk}
use Rattle.st_format.specs.Reading.{Gives}
use Rattle.payload_header.specs.Faults.{BeginsWith, AllGoOn, LacksHeader, GoesPastThree, HasHeaders}
use Rattle.payload_header.specs.Faults.{HasPayloadFault, LacksData, IsRefusedPayload}
use Rattle.payload_header.specs.View.{said_payload}
use Rattle.payload_header.proofs.Taken.{IsText, text_at, Heads, headers_take}
use Rattle.st_format.proofs.Octets.{AreOctets-drop}
use Rattle.st_format.specs.Device.{AreOctets}
use Rattle.payload_header.proofs.Taken.{IsNumber, number_take}
use Rattle.payload_header.proofs.Again.{one_again, headers_again, number_again}
use Rattle.payload_header.proofs.Tests.{Unsound, unsound, fault_told, all_sound, all_quiet}

abbrev Read : Type 0
Read = Result (List Header × List ℕ) PayloadFault

abbrev put_front : Header → List Header × List ℕ → Read
put_front h r = Ok (h ∷ r.0, r.1)

abbrev one_read : Header → List ℕ → Read
one_read h rest = Ok (h ∷ [], rest)

abbrev pub with_number : ℕ → List Segment → Result (ℕ × List Segment) PayloadFault
with_number n ss = Ok (n, ss)

abbrev failed : (A : Type 0) → PayloadFault → Result A PayloadFault
failed A fault = Err fault

-- ---- reading that stops is refused

-- up to n headers are read, and reading stops
record Stops (n : ℕ) (octets : List ℕ) (fault : PayloadFault) : Type 0 where
  headers : List Header
  more : List ℕ
  parts : octets ≡ flat_map header_text headers ++ more
  fit : AllByRecursion HeaderFits headers
  go_on : AllGoOn headers
  why : ((fault ≡ ShortPayloadHeader) × (length headers < n) × (length more < 6))
      ⊎ ((fault ≡ TooManySegments) × (length headers ≡ n))

why_later : (n k : ℕ) (more : List ℕ) (fault : PayloadFault)
    → ((fault ≡ ShortPayloadHeader) × (k < n) × (length more < 6))
    ⊎ ((fault ≡ TooManySegments) × (k ≡ n))
    → ((fault ≡ ShortPayloadHeader) × (suc k < suc n) × (length more < 6))
    ⊎ ((fault ≡ TooManySegments) × (suc k ≡ suc n))
why_later n k more fault (inl w) = inl (w.0, omega (arith, w.1), w.2)
why_later n k more fault (inr w) = inr (w.0, ap suc w.1)

stops_later : (n : ℕ) (octets : List ℕ) (h : Header) (fault : PayloadFault)
    → IsText h (take 6 octets) → h.more ≡ true → Stops n (drop 6 octets) fault
    → Stops (suc n) octets fault
stops_later n octets h fault is more later = record {
  headers = h ∷ later.headers;
  more = later.more;
  parts =
      sym (take-append-drop 6 octets) ∙ ap (λ (x : List ℕ). x ++ drop 6 octets) (sym is.text)
      ∙ ap (λ (x : List ℕ). header_text h ++ x) later.parts
      ∙ sym (append_assoc (header_text h) (flat_map header_text later.headers) later.more)
      ∙ ap (λ (x : List ℕ). x ++ later.more) (sym (flat_map-cons header_text h later.headers));
  fit = (is.fits, later.fit);
  go_on = (more, later.go_on);
  why = why_later n (length later.headers) later.more fault later.why;
}

err_is : (A : Type 0) (x y : PayloadFault) → failed A x ≡ failed A y → x ≡ y
err_is A x y e = cc

front_err : (h : Header) (r : Read) (fault : PayloadFault) → (r >>= put_front h) ≡ Err fault
    → r ≡ Err fault
front_err h (Ok x) fault e = absurd cc
front_err h (Err d) fault e = e

stop_at : (n : ℕ) (octets : List ℕ) (h : Header) (later : Read) (fault : PayloadFault)
    (short more : Bool) → ltb (length octets) 6 ≡ short → h.more ≡ more
    → (short ≡ false → IsText h (take 6 octets))
    → (later ≡ Err fault → Stops n (drop 6 octets) fault)
    → cond short (Err ShortPayloadHeader)
    (cond more (later >>= put_front h) (one_read h (drop 6 octets))) ≡ Err fault
    → Stops (suc n) octets fault
stop_at n octets h later fault true more s m is rest e = record {
  headers = [];
  more = octets;
  parts = refl;
  fit = tt;
  go_on = tt;
  why =
      inl (
        sym (err_is (List Header × List ℕ) ShortPayloadHeader fault e),
        omega arith,
        ltb-true (length octets) 6 s,
      );
}
stop_at n octets h later fault false true s m is rest e =
    stops_later n octets h fault (is refl) m (rest (front_err h later fault e))
stop_at n octets h later fault false false s m is rest e = absurd cc

stop_of : (n : ℕ) (octets : List ℕ) (fault : PayloadFault) (short : Bool) → AreOctets octets
    → ltb (length octets) 6 ≡ short
    → (headers_at n (drop 6 octets) ≡ Err fault → Stops n (drop 6 octets) fault)
    → cond short (Err ShortPayloadHeader)
    (cond (header_of (take 6 octets)).more
    (headers_at n (drop 6 octets) >>= put_front (header_of (take 6 octets)))
    (one_read (header_of (take 6 octets)) (drop 6 octets))) ≡ Err fault
    → Stops (suc n) octets fault
stop_of n octets fault short bytes s rest e =
    stop_at n octets (header_of (take 6 octets)) (headers_at n (drop 6 octets)) fault short
    (header_of (take 6 octets)).more s refl (text_at octets bytes short s) rest e

headers_stop : (n : ℕ) (octets : List ℕ) (fault : PayloadFault) → AreOctets octets
    → headers_at n octets ≡ Err fault → Stops n octets fault
unfolding headers_at
headers_stop zero octets fault bytes e = record {
  headers = [];
  more = octets;
  parts = refl;
  fit = tt;
  go_on = tt;
  why = inr (sym (err_is (List Header × List ℕ) TooManySegments fault e), refl);
}
headers_stop (suc n) octets fault bytes e =
    stop_of n octets fault (ltb (length octets) 6) bytes refl
    (headers_stop n (drop 6 octets) fault (AreOctets-drop 6 octets bytes)) e

-- where a chain of readings failed
bind_err : {A B : Type 0} (r : Result A PayloadFault) (k : A → Result B PayloadFault)
    (fault : PayloadFault) → (r >>= k) ≡ Err fault
    → (r ≡ Err fault) ⊎ ((x : A) × (r ≡ Ok x) × (k x ≡ Err fault))
bind_err {B = B} (Ok x) k fault e = inr (x, refl, e)
bind_err {A = A} {B = B} (Err d) k fault e =
    inl (ap (λ (y : PayloadFault). Err y) (err_is (B) d fault e))

begins : (octets : List ℕ) (n : ℕ) (rest : List ℕ) (headers : List Header) (more : List ℕ)
    → IsNumber octets n rest → rest ≡ flat_map header_text headers ++ more
    → AllByRecursion HeaderFits headers
    → BeginsWith octets headers more
begins octets n rest headers more number parts fit = record {
  extended = n;
  extended_fits = number.below;
  headers_fit = fit;
  parts = number.parts ∙ ap (λ (x : List ℕ). to_be_bytes w16 n ++ x) parts;
}

refused_stop : (f : Format) (octets : List ℕ) (n : ℕ) (rest : List ℕ) (fault : PayloadFault)
    (headers : List Header) (more : List ℕ) → BeginsWith octets headers more → AllGoOn headers
    → ((fault ≡ ShortPayloadHeader) × (length headers < most_segments) × (length more < 6))
    ⊎ ((fault ≡ TooManySegments) × (length headers ≡ most_segments))
    → IsRefusedPayload octets f fault
refused_stop f octets n rest fault headers more begin go_on (inl w) =
    subst (IsRefusedPayload octets f) (sym w.0)
    (inr (record {
      headers = headers;
      more = more;
      begins = begin;
      go_on = go_on;
      few =
          w.1;
      short = w.2;
    }))
refused_stop f octets n rest fault headers more begin go_on (inr w) =
    subst (IsRefusedPayload octets f) (sym w.0)
    (record { headers = headers; more = more; begins = begin; go_on = go_on; as_many = w.1 })

-- only the five tests of a header are told of a header
refused_header : (f : Format) (octets : List ℕ) (fault : PayloadFault)
    → HasPayloadFault octets f fault
    → IsRefusedPayload octets f fault
refused_header f octets ShortPayloadHeader has = absurd has.has.wrong
refused_header f octets TooManySegments has = absurd has.has.wrong
refused_header f octets SecondField has = has
refused_header f octets BadLength has = has
refused_header f octets BadOffset has = has
refused_header f octets RowOutside has = has
refused_header f octets ColumnsOutside has = has
refused_header f octets ShortData has = absurd has.has.wrong

refused_data_at : (f : Format) (octets : List ℕ) (headers : List Header) (more : List ℕ)
    (fault : PayloadFault) (short : Bool) → HasHeaders octets headers more
    → headers_fault f headers ≡ None
    → ltb (length more) (counted_octets headers) ≡ short
    → cond short (Err ShortData) (Ok (segments_at headers more)) ≡ Err fault
    → IsRefusedPayload octets f fault
refused_data_at f octets headers more fault true whole none s e =
    subst (IsRefusedPayload octets f) (err_is (List Segment) ShortData fault e)
    (record {
      headers = headers;
      more = more;
      whole = whole;
      sound =
          all_sound f headers none;
      short = ltb-true (length more) (counted_octets headers) s;
    })
refused_data_at f octets headers more fault false whole none s e = absurd cc

refused_tests : (f : Format) (octets : List ℕ) (headers : List Header) (more : List ℕ)
    (fault : PayloadFault) (o : Option PayloadFault) → HasHeaders octets headers more
    → headers_fault f headers ≡ o
    → fault_or o (data_at headers more) ≡ Err fault → IsRefusedPayload octets f fault
refused_tests f octets headers more fault None whole is e =
    refused_data_at f octets headers more fault
    (ltb (length more) (counted_octets headers)) whole is refl e
refused_tests f octets headers more fault (Some d) whole is e =
    let u : Unsound f headers fault =
    unsound f headers fault
    (is ∙ ap (λ (x : PayloadFault). Some x) (err_is (List Segment) d fault e)) in
    refused_header f octets fault (record {
      before = u.before;
      header = u.header;
      after = u.after;
      more = more;
      whole = subst (λ (hs : List Header). HasHeaders octets hs more) u.parts whole;
      sound = u.sound;
      has = u.has;
    })

ok_last : (n : ℕ) (r : Result (List Segment) PayloadFault) (fault : PayloadFault)
    → (r >>= with_number n) ≡ Err fault → r ≡ Err fault
ok_last n (Ok x) fault e = absurd cc
ok_last n (Err d) fault e = ap (λ (y : PayloadFault). Err y) (err_is (ℕ × List Segment) d fault e)

abbrev pub after_headers : Format → ℕ → List Header × List ℕ
    → Result (ℕ × List Segment) PayloadFault
after_headers f n hs = fault_or (headers_fault f hs.0) (data_at hs.0 hs.1) >>= with_number n

refused_after : (f : Format) (octets : List ℕ) (n : ℕ) (rest : List ℕ) (hs : List Header × List ℕ)
    (fault : PayloadFault) → IsNumber octets n rest → Heads most_segments rest hs.0 hs.1
    → after_headers f n hs ≡ Err fault → IsRefusedPayload octets f fault
refused_after f octets n rest hs fault number heads e =
    refused_tests f octets hs.0 hs.1 fault (headers_fault f hs.0)
    (record {
      begins = begins octets n rest hs.0 hs.1 number heads.parts heads.fit;
      chain =
          heads.chain;
      few = heads.few;
    }) refl
    (ok_last n (fault_or (headers_fault f hs.0) (data_at hs.0 hs.1)) fault e)

refused_number : (f : Format) (octets : List ℕ) (n : ℕ) (rest : List ℕ) (fault : PayloadFault)
    → IsNumber octets n rest
    → (headers_at most_segments rest >>= after_headers f n) ≡ Err fault
    → IsRefusedPayload octets f fault
refused_number f octets n rest fault number e =
    elim (bind_err (headers_at most_segments rest) (after_headers f n) fault e) [
      | inl stop ↦ let s : Stops most_segments rest fault =
          headers_stop most_segments rest fault number.bytes stop in
          refused_stop f octets n rest fault s.headers s.more
          (begins octets n rest s.headers s.more number s.parts s.fit) s.go_on s.why
      | inr x ↦ refused_after f octets n rest x.0 fault number
          (headers_take most_segments rest x.0 number.bytes x.1) x.2
    ]

number_err : (octets : List ℕ) (fault : PayloadFault) (short : Bool)
    → ltb (length octets) 2 ≡ short → (x : ℕ × List ℕ)
    → cond short (Err ShortPayloadHeader) (Ok x) ≡ Err fault
    → (fault ≡ ShortPayloadHeader) × (length octets < 2)
number_err octets fault true s x e =
    (sym (err_is (ℕ × List ℕ) ShortPayloadHeader fault e), ltb-true (length octets) 2 s)
number_err octets fault false s x e = absurd cc

abbrev after_number : Format → ℕ × List ℕ → Result (ℕ × List Segment) PayloadFault
after_number f x = headers_at most_segments x.1 >>= after_headers f x.0

-- What isn't read has a fault's condition.
pub payload_refused : (f : Format) (octets : List ℕ) (fault : PayloadFault) → AreOctets octets
    → payload_walk f octets ≡ Err fault → IsRefusedPayload octets f fault
unfolding payload_walk
payload_refused f octets fault bytes e =
    elim (bind_err (number_at octets) (after_number f) fault e) [
      | inl stop ↦ let s =
          number_err octets fault (ltb (length octets) 2)
          refl _ stop in subst (IsRefusedPayload octets f)
          (sym s.0) (inl s.1)
      | inr x ↦ refused_number f octets x.0.0 x.0.1 fault (number_take octets x.0 bytes x.1) x.2
    ]

-- ---- what is refused isn't read

headers_short : (n : ℕ) (hs : List Header) (more : List ℕ) → AllGoOn hs
    → AllByRecursion HeaderFits hs → length hs < n → length more < 6
    → headers_at n (flat_map header_text hs ++ more) ≡ Err ShortPayloadHeader
unfolding headers_at
headers_short zero hs more go_on fit few short = absurd (omega arith)
headers_short (suc n) [] more go_on fit few short = rw (lt-ltb (length more) 6 short) refl
headers_short (suc n) (h ∷ hs) more go_on fit few short =
    let later : List ℕ = flat_map header_text hs ++ more in
    ap (λ (x : List ℕ). headers_at (suc n) (x ++ more)) (flat_map-cons header_text h hs)
    ∙ ap (headers_at (suc n)) (append_assoc (header_text h) (flat_map header_text hs) more)
    ∙ one_again n h later fit.0
    ∙ ap (λ (b : Bool). cond b (headers_at n later >>= put_front h) (one_read h later)) go_on.0
    ∙ ap (λ (r : Read). r >>= put_front h)
    (headers_short n hs more go_on.1 fit.1 (omega arith) short)

headers_many : (n : ℕ) (hs : List Header) (more : List ℕ) → AllGoOn hs
    → AllByRecursion HeaderFits hs → length hs ≡ n
    → headers_at n (flat_map header_text hs ++ more) ≡ Err TooManySegments
unfolding headers_at
headers_many zero [] more go_on fit as_many = refl
headers_many zero (h ∷ hs) more go_on fit as_many = absurd (omega arith)
headers_many (suc n) [] more go_on fit as_many = absurd (omega arith)
headers_many (suc n) (h ∷ hs) more go_on fit as_many =
    let later : List ℕ = flat_map header_text hs ++ more in
    ap (λ (x : List ℕ). headers_at (suc n) (x ++ more)) (flat_map-cons header_text h hs)
    ∙ ap (headers_at (suc n)) (append_assoc (header_text h) (flat_map header_text hs) more)
    ∙ one_again n h later fit.0
    ∙ ap (λ (b : Bool). cond b (headers_at n later >>= put_front h) (one_read h later)) go_on.0
    ∙ ap (λ (r : Read). r >>= put_front h) (headers_many n hs more go_on.1 fit.1 (omega arith))

-- what is read of octets that begin with headers
begun : (f : Format) (octets : List ℕ) (headers : List Header) (more : List ℕ)
    (b : BeginsWith octets headers more)
    → payload_walk f octets
    ≡ (headers_at most_segments
    (flat_map header_text headers ++ more) >>= after_headers f b.extended)
unfolding payload_walk
begun f octets headers more b =
    ap (payload_walk f) b.parts
    ∙ ap (λ (r : Result (ℕ × List ℕ) PayloadFault). r >>= after_number f)
    (number_again b.extended (flat_map header_text headers ++ more) b.extended_fits)

pub begun_whole : (f : Format) (octets : List ℕ) (headers : List Header) (more : List ℕ)
    (whole : HasHeaders octets headers more)
    → payload_walk f octets ≡ after_headers f whole.begins.extended (headers, more)
begun_whole f octets headers more whole =
    begun f octets headers more whole.begins
    ∙ ap (λ (r : Read). r >>= after_headers f whole.begins.extended)
    (headers_again most_segments headers more whole.chain whole.few whole.begins.headers_fit)

lacks_header : (f : Format) (octets : List ℕ) → LacksHeader octets
    → payload_walk f octets ≡ Err ShortPayloadHeader
lacks_header f octets l =
    begun f octets l.headers l.more l.begins
    ∙ ap (λ (r : Read). r >>= after_headers f l.begins.extended)
    (headers_short most_segments l.headers l.more l.go_on l.begins.headers_fit l.few l.short)

goes_on : (f : Format) (octets : List ℕ) → GoesPastThree octets
    → payload_walk f octets ≡ Err TooManySegments
goes_on f octets g =
    begun f octets g.headers g.more g.begins
    ∙ ap (λ (r : Read). r >>= after_headers f g.begins.extended)
    (headers_many most_segments g.headers g.more g.go_on g.begins.headers_fit g.as_many)

has_fault : (f : Format) (octets : List ℕ) (fault : PayloadFault) → HasPayloadFault octets f fault
    → payload_walk f octets ≡ Err fault
has_fault f octets fault h =
    let headers : List Header = h.before ++ h.header ∷ h.after in
    begun_whole f octets headers h.more h.whole
    ∙ ap
    (λ (o : Option PayloadFault). fault_or o
    (data_at headers h.more) >>= with_number h.whole.begins.extended)
    (fault_told f h.before h.header h.after fault h.sound h.has)

lacks_data : (f : Format) (octets : List ℕ) → LacksData octets f
    → payload_walk f octets ≡ Err ShortData
lacks_data f octets l =
    begun_whole f octets l.headers l.more l.whole
    ∙ ap
    (λ (o : Option PayloadFault). fault_or o
    (data_at l.headers l.more) >>= with_number l.whole.begins.extended)
    (all_quiet f l.headers l.sound)
    ∙ ap
    (λ (b : Bool). cond b (Err ShortData)
    (Ok (segments_at l.headers l.more)) >>= with_number l.whole.begins.extended)
    (lt-ltb (length l.more) (counted_octets l.headers) l.short)

no_number : (f : Format) (octets : List ℕ) → length octets < 2
    → payload_walk f octets ≡ Err ShortPayloadHeader
unfolding payload_walk
no_number f octets lt = rw (lt-ltb (length octets) 2 lt) refl

pub refused_payload : (f : Format) (octets : List ℕ) (fault : PayloadFault)
    → IsRefusedPayload octets f fault → payload_walk f octets ≡ Err fault
refused_payload f octets ShortPayloadHeader (inl lt) = no_number f octets lt
refused_payload f octets ShortPayloadHeader (inr lacks) = lacks_header f octets lacks
refused_payload f octets TooManySegments is = goes_on f octets is
refused_payload f octets SecondField is = has_fault f octets SecondField is
refused_payload f octets BadLength is = has_fault f octets BadLength is
refused_payload f octets BadOffset is = has_fault f octets BadOffset is
refused_payload f octets RowOutside is = has_fault f octets RowOutside is
refused_payload f octets ColumnsOutside is = has_fault f octets ColumnsOutside is
refused_payload f octets ShortData is = lacks_data f octets is

-- The clause of a reader that gives what reading gives
pub is_refused : (f : Format) (octets : List ℕ) (r : Result PayloadView PayloadFault)
    → AreOctets octets → Gives said_payload r (payload_walk f octets)
    → (fault : PayloadFault) → (r ≡ Err fault) ↔ IsRefusedPayload octets f fault
is_refused f octets (Ok v) bytes gives fault =
    (λ e. absurd cc, λ is. let e = refused_payload f octets fault is in absurd cc)
is_refused f octets (Err d) bytes gives fault = (
  λ e. payload_refused f octets fault bytes
      (gives ∙ ap (λ (x : PayloadFault). Err x) (err_is (PayloadView) d fault e)),
  λ is. let e = refused_payload f octets fault is in cc,
)
