-- The tests of a header, as five Booleans.
use Rattle.std.proofs.Common.{◌≡◌, ◌≢◌, ℕ, ◌+◌, ◌*◌, ◌/◌, ◌%◌, ◌<◌, Bool, true, false, cond, not}
use Rattle.std.proofs.Common.{eqb, ltb, leb, List, [], ◌∷◌, ◌++◌, Option, Some, None, refl, sym, ap}
use Rattle.std.proofs.Common.{◌∙◌, subst, arith}
use Rattle.std.specs.List.{AllByRecursion}
use Rattle.std.proofs.lemmas.Bool.{both_ways, eqb-true, eqb-false, eq-eqb, ne_eqb, lt-ltb, ltb-true}
use Rattle.std.proofs.lemmas.Bool.{le-leb, leb-true, false_from_ne_true, true_from_ne_false}
use Rattle.st_format.specs.declared.format.Format.{Format}
use Rattle.payload_header.specs.declared.payload.PayloadFault.{PayloadFault}
use Rattle.payload_header.specs.declared.payload.PayloadFault.TheVariants.{ShortPayloadHeader}
use Rattle.payload_header.specs.declared.payload.PayloadFault.TheVariants.{TooManySegments}
use Rattle.payload_header.specs.declared.payload.PayloadFault.TheVariants.{SecondField, BadLength}
use Rattle.payload_header.specs.declared.payload.PayloadFault.TheVariants.{BadOffset, RowOutside}
use Rattle.payload_header.specs.declared.payload.PayloadFault.TheVariants.{ColumnsOutside}
use Rattle.payload_header.specs.declared.payload.PayloadFault.TheVariants.{ShortData}
use Rattle.payload_header.specs.Payload.{group_of, Header}
use Rattle.payload_header.specs.Reading.{first_of, header_fault, headers_fault, option_or}
use Rattle.payload_header.specs.Faults.{payload_fault_number, IsWrong, IsSoundHeader, HasFirst}

-- the five tests, and what they answered
record Tests (f : Format) (h : Header) (field length offset row columns : Bool) : Type 0 where
  is_field : h.second_field ≡ field
  is_length : not (eqb (h.octets % (group_of f).octets) 0) ≡ length
  is_offset : not (eqb (h.offset % (group_of f).pixels) 0) ≡ offset
  is_row : leb f.height h.row ≡ row
  is_columns : ltb f.width (h.offset + h.octets / (group_of f).octets * (group_of f).pixels)
      ≡ columns

abbrev answer : Bool → Bool → Bool → Bool → Bool → PayloadFault → Bool
answer a b c d e SecondField = a
answer a b c d e BadLength = b
answer a b c d e BadOffset = c
answer a b c d e RowOutside = d
answer a b c d e ColumnsOutside = e
answer a b c d e ShortPayloadHeader = false
answer a b c d e TooManySegments = false
answer a b c d e ShortData = false

abbrev first_answer : Bool → Bool → Bool → Bool → Bool → Option PayloadFault
first_answer a b c d e =
    first_of ((a, SecondField) ∷ (b, BadLength) ∷ (c, BadOffset) ∷ (d, RowOutside) ∷
    (e, ColumnsOutside) ∷ [])

not_zero : (n : ℕ) (b : Bool) → not (eqb n 0) ≡ b → b ≡ true → n ≢ 0
not_zero n b e t z = both_ways b (sym e ∙ ap not (eq-eqb n 0 z)) t

is_zero : (n : ℕ) (b : Bool) → not (eqb n 0) ≡ b → b ≡ false → n ≢ 0 → ⊥
is_zero n b e f ne = both_ways b f (sym e ∙ ap not (ne_eqb n 0 ne))

-- what was answered is so
is_wrong : (f : Format) (h : Header) (a b c d e : Bool) → Tests f h a b c d e
    → (fault : PayloadFault) → answer a b c d e fault ≡ true → IsWrong h f fault
is_wrong f h a b c d e t SecondField holds = t.is_field ∙ holds
is_wrong f h a b c d e t BadLength holds =
    not_zero (h.octets % (group_of f).octets) b t.is_length holds
is_wrong f h a b c d e t BadOffset holds =
    not_zero (h.offset % (group_of f).pixels) c t.is_offset holds
is_wrong f h a b c d e t RowOutside holds = leb-true f.height h.row (t.is_row ∙ holds)
is_wrong f h a b c d e t ColumnsOutside holds =
    ltb-true f.width (h.offset + h.octets / (group_of f).octets * (group_of f).pixels)
    (t.is_columns ∙ holds)
is_wrong f h a b c d e t ShortPayloadHeader holds = absurd cc
is_wrong f h a b c d e t TooManySegments holds = absurd cc
is_wrong f h a b c d e t ShortData holds = absurd cc

is_right : (f : Format) (h : Header) (a b c d e : Bool) → Tests f h a b c d e
    → (fault : PayloadFault) → answer a b c d e fault ≡ false → IsWrong h f fault → ⊥
is_right f h a b c d e t SecondField fails wrong = both_ways a fails (sym t.is_field ∙ wrong)
is_right f h a b c d e t BadLength fails wrong =
    is_zero (h.octets % (group_of f).octets) b t.is_length fails wrong
is_right f h a b c d e t BadOffset fails wrong =
    is_zero (h.offset % (group_of f).pixels) c t.is_offset fails wrong
is_right f h a b c d e t RowOutside fails wrong =
    both_ways d fails (sym t.is_row ∙ le-leb f.height h.row wrong)
is_right f h a b c d e t ColumnsOutside fails wrong =
    both_ways e fails
    (sym t.is_columns
    ∙ lt-ltb f.width (h.offset + h.octets / (group_of f).octets * (group_of f).pixels) wrong)
is_right f h a b c d e t ShortPayloadHeader fails wrong = wrong
is_right f h a b c d e t TooManySegments fails wrong = wrong
is_right f h a b c d e t ShortData fails wrong = wrong

-- the first answer of five
record IsFirst (a b c d e : Bool) (fault : PayloadFault) : Type 0 where
  holds : answer a b c d e fault ≡ true
  earlier : (other : PayloadFault) → payload_fault_number other < payload_fault_number fault
      → answer a b c d e other ≡ false

no_earlier : (a b c d e : Bool) (n : ℕ) → (3 < n → a ≡ false) → (4 < n → b ≡ false)
    → (5 < n → c ≡ false) → (6 < n → d ≡ false) → (7 < n → e ≡ false)
    → (other : PayloadFault) → payload_fault_number other < n → answer a b c d e other ≡ false
no_earlier a b c d e n na nb nc nd ne SecondField lt = na lt
no_earlier a b c d e n na nb nc nd ne BadLength lt = nb lt
no_earlier a b c d e n na nb nc nd ne BadOffset lt = nc lt
no_earlier a b c d e n na nb nc nd ne RowOutside lt = nd lt
no_earlier a b c d e n na nb nc nd ne ColumnsOutside lt = ne lt
no_earlier a b c d e n na nb nc nd ne ShortPayloadHeader lt = refl
no_earlier a b c d e n na nb nc nd ne TooManySegments lt = refl
no_earlier a b c d e n na nb nc nd ne ShortData lt = refl

some_is : (x y : PayloadFault) → Some x ≡ Some y → x ≡ y
some_is x y e = cc

-- what first_of answers is the first
first_found : (a b c d e : Bool) (fault : PayloadFault) → first_answer a b c d e ≡ Some fault
    → IsFirst a b c d e fault
first_found true b c d e fault h = subst (IsFirst true b c d e) (some_is SecondField fault h)
    (record {
      holds = refl;
      earlier =
          no_earlier true b c d e 3 (λ lt. absurd (omega arith)) (λ lt. absurd (omega arith))
          (λ lt. absurd (omega arith)) (λ lt. absurd (omega arith)) (λ lt. absurd (omega arith));
    })
first_found false true c d e fault h = subst (IsFirst false true c d e) (some_is BadLength fault h)
    (record {
      holds = refl;
      earlier =
          no_earlier false true c d e 4 (λ lt. refl) (λ lt. absurd (omega arith))
          (λ lt. absurd (omega arith)) (λ lt. absurd (omega arith)) (λ lt. absurd (omega arith));
    })
first_found false false true d e fault h =
    subst (IsFirst false false true d e) (some_is BadOffset fault h)
    (record {
      holds = refl;
      earlier =
          no_earlier false false true d e 5 (λ lt. refl) (λ lt. refl) (λ lt. absurd (omega arith))
          (λ lt. absurd (omega arith)) (λ lt. absurd (omega arith));
    })
first_found false false false true e fault h =
    subst (IsFirst false false false true e) (some_is RowOutside fault h)
    (record {
      holds = refl;
      earlier =
          no_earlier false false false true e 6 (λ lt. refl) (λ lt. refl) (λ lt. refl)
          (λ lt. absurd (omega arith)) (λ lt. absurd (omega arith));
    })
first_found false false false false true fault h =
    subst (IsFirst false false false false true) (some_is ColumnsOutside fault h)
    (record {
      holds = refl;
      earlier =
          no_earlier false false false false true 7 (λ lt. refl) (λ lt. refl) (λ lt. refl)
          (λ lt. refl) (λ lt. absurd (omega arith));
    })
first_found false false false false false fault h = absurd cc

first_answered : (a b c d e : Bool) (fault : PayloadFault) → IsFirst a b c d e fault
    → first_answer a b c d e ≡ Some fault
first_answered a b c d e SecondField h = rw h.holds refl
first_answered a b c d e BadLength h = rw (h.earlier SecondField (omega arith), h.holds) refl
first_answered a b c d e BadOffset h =
    rw (h.earlier SecondField (omega arith), h.earlier BadLength (omega arith), h.holds) refl
first_answered a b c d e RowOutside h =
    rw (
      h.earlier SecondField (omega arith),
      h.earlier BadLength (omega arith),
      h.earlier BadOffset (omega arith),
      h.holds,
    ) refl
first_answered a b c d e ColumnsOutside h =
    rw (
      h.earlier SecondField (omega arith),
      h.earlier BadLength (omega arith),
      h.earlier BadOffset (omega arith),
      h.earlier RowOutside (omega arith),
      h.holds,
    ) refl
first_answered a b c d e ShortPayloadHeader h = absurd (both_ways false refl h.holds)
first_answered a b c d e TooManySegments h = absurd (both_ways false refl h.holds)
first_answered a b c d e ShortData h = absurd (both_ways false refl h.holds)

none_answered : (a b c d e : Bool) → ((fault : PayloadFault) → answer a b c d e fault ≡ false)
    → first_answer a b c d e ≡ None
none_answered a b c d e fails =
    rw (
      fails SecondField,
      fails BadLength,
      fails BadOffset,
      fails RowOutside,
      fails ColumnsOutside,
    ) refl

none_found : (a b c d e : Bool) → first_answer a b c d e ≡ None → (fault : PayloadFault)
    → answer a b c d e fault ≡ false
none_found true b c d e h fault = absurd cc
none_found false true c d e h fault = absurd cc
none_found false false true d e h fault = absurd cc
none_found false false false true e h fault = absurd cc
none_found false false false false true h fault = absurd cc
none_found false false false false false h fault =
    no_earlier false false false false false 9 (λ lt. refl) (λ lt. refl) (λ lt. refl) (λ lt. refl)
    (λ lt. refl) fault (below_nine fault) where
      below_nine : (x : PayloadFault) → payload_fault_number x < 9
      below_nine ShortPayloadHeader = omega arith
      below_nine TooManySegments = omega arith
      below_nine SecondField = omega arith
      below_nine BadLength = omega arith
      below_nine BadOffset = omega arith
      below_nine RowOutside = omega arith
      below_nine ColumnsOutside = omega arith
      below_nine ShortData = omega arith

-- ---- a header

abbrev length_test : Format → Header → Bool
length_test f h = not (eqb (h.octets % (group_of f).octets) 0)

abbrev offset_test : Format → Header → Bool
offset_test f h = not (eqb (h.offset % (group_of f).pixels) 0)

abbrev row_test : Format → Header → Bool
row_test f h = leb f.height h.row

abbrev columns_test : Format → Header → Bool
columns_test f h = ltb f.width (h.offset + h.octets / (group_of f).octets * (group_of f).pixels)

abbrev tested : Format → Header → Option PayloadFault
tested f h =
    first_answer h.second_field (length_test f h) (offset_test f h) (row_test f h)
    (columns_test f h)

abbrev its_answer : Format → Header → PayloadFault → Bool
its_answer f h fault =
    answer h.second_field (length_test f h) (offset_test f h) (row_test f h)
    (columns_test f h) fault

tests_of : (f : Format) (h : Header)
    → Tests f h h.second_field (length_test f h) (offset_test f h) (row_test f h) (columns_test f h)
tests_of f h =
    record { is_field = refl; is_length = refl; is_offset = refl; is_row = refl; is_columns = refl }

wrong_of : (f : Format) (h : Header) (fault : PayloadFault) → its_answer f h fault ≡ true
    → IsWrong h f fault
wrong_of f h fault holds =
    is_wrong f h h.second_field (length_test f h) (offset_test f h) (row_test f h)
    (columns_test f h) (tests_of f h) fault holds

right_of : (f : Format) (h : Header) (fault : PayloadFault) → its_answer f h fault ≡ false
    → IsWrong h f fault → ⊥
right_of f h fault fails =
    is_right f h h.second_field (length_test f h) (offset_test f h) (row_test f h)
    (columns_test f h) (tests_of f h) fault fails

has_first_at : (f : Format) (h : Header) (fault : PayloadFault) (b : Bool) → eqb h.octets 0 ≡ b
    → cond b None (tested f h) ≡ Some fault → HasFirst h f fault
has_first_at f h fault true e is = absurd cc
has_first_at f h fault false e is =
    let ne : h.octets ≡ 0 → ⊥ = eqb-false h.octets 0 e in
    let found : IsFirst h.second_field (length_test f h) (offset_test f h) (row_test f h)
    (columns_test f h) fault =
    first_found h.second_field (length_test f h) (offset_test f h) (row_test f h)
    (columns_test f h) fault is in
    record {
      some = omega (arith, ne);
      wrong = wrong_of f h fault found.holds;
      first = λ earlier lt. right_of f h earlier (found.earlier earlier lt);
    }

pub has_first : (f : Format) (h : Header) (fault : PayloadFault) → header_fault f h ≡ Some fault
    → HasFirst h f fault
has_first f h fault is = has_first_at f h fault (eqb h.octets 0) refl is

pub first_told : (f : Format) (h : Header) (fault : PayloadFault) → HasFirst h f fault
    → header_fault f h ≡ Some fault
first_told f h fault has =
    let test : eqb h.octets 0 ≡ false = ne_eqb h.octets 0 (λ z. omega (arith, has.some, z)) in
    ap (λ (b : Bool). cond b None (tested f h)) test
    ∙ first_answered h.second_field (length_test f h) (offset_test f h) (row_test f h)
    (columns_test f h) fault (record {
      holds =
          true_from_ne_false (its_answer f h fault) (λ fails. right_of f h fault fails has.wrong);
      earlier =
          λ other lt. false_from_ne_true (its_answer f h other)
          (λ holds. has.first other lt (wrong_of f h other holds));
    })

sound_at : (f : Format) (h : Header) (b : Bool) → eqb h.octets 0 ≡ b
    → cond b None (tested f h) ≡ None → IsSoundHeader h f
sound_at f h true e is = let z : h.octets ≡ 0 =
    eqb-true h.octets 0 e in λ some fault wrong. omega (arith, some, z)
sound_at f h false e is =
    λ some fault. right_of f h fault
    (none_found h.second_field (length_test f h) (offset_test f h) (row_test f h)
    (columns_test f h) is fault)

is_sound : (f : Format) (h : Header) → header_fault f h ≡ None → IsSoundHeader h f
is_sound f h is = sound_at f h (eqb h.octets 0) refl is

quiet_at : (f : Format) (h : Header) (b : Bool) → eqb h.octets 0 ≡ b → IsSoundHeader h f
    → cond b None (tested f h) ≡ None
quiet_at f h true e sound = refl
quiet_at f h false e sound =
    let ne : h.octets ≡ 0 → ⊥ = eqb-false h.octets 0 e in
    let some : 0 < h.octets = omega (arith, ne) in
    none_answered h.second_field (length_test f h) (offset_test f h) (row_test f h)
    (columns_test f h)
    (λ fault. false_from_ne_true (its_answer f h fault)
    (λ holds. sound some fault (wrong_of f h fault holds)))

sound_quiet : (f : Format) (h : Header) → IsSoundHeader h f → header_fault f h ≡ None
sound_quiet f h sound = quiet_at f h (eqb h.octets 0) refl sound

-- ---- headers in turn

-- the first header that isn't sound
pub record Unsound (f : Format) (hs : List Header) (fault : PayloadFault) : Type 0 where
  pub before : List Header
  pub header : Header
  pub after : List Header
  pub parts : hs ≡ before ++ header ∷ after
  pub sound : AllByRecursion (λ h. IsSoundHeader h f) before
  pub has : HasFirst header f fault

unsound_at : (f : Format) (h : Header) (hs : List Header) (fault : PayloadFault)
    (o : Option PayloadFault) → header_fault f h ≡ o
    → (headers_fault f hs ≡ Some fault → Unsound f hs fault)
    → option_or o (headers_fault f hs) ≡ Some fault → Unsound f (h ∷ hs) fault
unsound_at f h hs fault None e later is =
    let u : Unsound f hs fault = later is in
    record {
      before = h ∷ u.before;
      header = u.header;
      after = u.after;
      parts =
          ap (λ (xs : List Header). h ∷ xs) u.parts;
      sound = (is_sound f h e, u.sound);
      has = u.has;
    }
unsound_at f h hs fault (Some d) e later is =
    record {
      before = [];
      header = h;
      after = hs;
      parts = refl;
      sound = tt;
      has =
          has_first f h fault (e ∙ is);
    }

pub unsound : (f : Format) (hs : List Header) (fault : PayloadFault)
    → headers_fault f hs ≡ Some fault → Unsound f hs fault
unsound f [] fault is = absurd cc
unsound f (h ∷ hs) fault is =
    unsound_at f h hs fault (header_fault f h) refl (unsound f hs fault) is

pub fault_told : (f : Format) (before : List Header) (h : Header) (after : List Header)
    (fault : PayloadFault) → AllByRecursion (λ h. IsSoundHeader h f) before → HasFirst h f fault
    → headers_fault f (before ++ h ∷ after) ≡ Some fault
fault_told f [] h after fault sound has =
    ap (λ (o : Option PayloadFault). option_or o (headers_fault f after)) (first_told f h fault has)
fault_told f (b ∷ before) h after fault sound has =
    ap (λ (o : Option PayloadFault). option_or o (headers_fault f (before ++ h ∷ after)))
    (sound_quiet f b sound.0) ∙ fault_told f before h after fault sound.1 has

all_sound_at : (f : Format) (h : Header) (hs : List Header) (o : Option PayloadFault)
    → header_fault f h ≡ o
    → (headers_fault f hs ≡ None → AllByRecursion (λ h. IsSoundHeader h f) hs)
    → option_or o (headers_fault f hs) ≡ None → AllByRecursion (λ h. IsSoundHeader h f) (h ∷ hs)
all_sound_at f h hs None e later is = (is_sound f h e, later is)
all_sound_at f h hs (Some d) e later is = absurd cc

pub all_sound : (f : Format) (hs : List Header) → headers_fault f hs ≡ None
    → AllByRecursion (λ h. IsSoundHeader h f) hs
all_sound f [] is = tt
all_sound f (h ∷ hs) is = all_sound_at f h hs (header_fault f h) refl (all_sound f hs) is

pub all_quiet : (f : Format) (hs : List Header) → AllByRecursion (λ h. IsSoundHeader h f) hs
    → headers_fault f hs ≡ None
all_quiet f [] sound = refl
all_quiet f (h ∷ hs) sound =
    ap (λ (o : Option PayloadFault). option_or o (headers_fault f hs)) (sound_quiet f h sound.0)
    ∙ all_quiet f hs sound.1
