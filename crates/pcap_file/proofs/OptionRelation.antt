-- Options that are read are those that stand there.
use Rattle.std.proofs.Common.{◌≡◌, ℕ, zero, suc, ◌+◌, ◌<◌, ◌≤◌, ◌⊎◌, inl, inr, Bool, true}
use Rattle.std.proofs.Common.{false, eqb, ltb, List, [], ◌∷◌, ◌++◌, length, take, drop, Some}
use Rattle.std.proofs.Common.{None, Ok, Err, append_assoc, refl, sym, ap, ◌∙◌, subst, arith}
use Rattle.std.specs.Prelude.{⊤}
use Rattle.std.specs.Int.{w16}
use Rattle.std.specs.List.{concat, AllByRecursion}
use Rattle.std.proofs.lemmas.Bool.{eqb-true, eqb-false, ltb-false}
use Rattle.std.proofs.lemmas.List.{drop-append-le, length-append, length-drop}
use Rattle.std.proofs.lemmas.List.{length-take-le, nil_from_length, take-append-drop}
use Rattle.std.proofs.lemmas.List.{take-append-le}
use Rattle.std.proofs.lemmas.List.{take-take, take_at, drop_at}
use Rattle.pcap_file.specs.declared.order.ByteOrder.{ByteOrder}
use Rattle.pcap_file.specs.Orders.{number_by, short_at}
use Rattle.pcap_file.specs.Blocks.{HasOption, IsOption, IsOtherOption, LacksOption, SkipsTo}
use Rattle.pcap_file.specs.Blocks.{option_octets}
use Rattle.pcap_file.specs.BlockReading.{option_at}
use Rattle.pcap_file.proofs.Options.{Found, at_end, at_found, at_none, at_other, by_tests, end_of}
use Rattle.pcap_file.proofs.Options.{stepped, value_in}

module _ (order : ByteOrder) where
  -- a number in the front of octets
  short_append : (i : ℕ) (h r : List ℕ) → i + 2 ≤ length h
      → short_at order i (h ++ r) ≡ short_at order i h
  short_append i h r fits =
      ap (λ (x : List ℕ). number_by order w16 (take 2 x)) (drop-append-le i h r (omega arith))
      ∙ ap (λ (x : List ℕ). number_by order w16 x)
      (take-append-le 2 (drop i h) r (omega (arith, length-drop i h)))

  short_front : (i : ℕ) (o : List ℕ) → i + 2 ≤ 4 → 4 ≤ length o
      → short_at order i o ≡ short_at order i (take 4 o)
  short_front i o fits long =
      ap (short_at order i) (sym (take-append-drop 4 o))
      ∙ short_append i (take 4 o) (drop 4 o) (omega (arith, length-take-le 4 o long))

  -- an option at the front of octets
  option_front : (o : List ℕ) → 4 ≤ length o → option_octets (short_at order 2 o) ≤ length o
      → IsOption order (take (option_octets (short_at order 2 o)) o) (short_at order 0 o)
      (take (short_at order 2 o) (drop 4 o))
  option_front o long whole =
      let n : ℕ = short_at order 2 o in
      let k : ℕ = option_octets n in
      let x : List ℕ = take k o in
      let fits : n ≤ length (drop 4 o) = omega (arith, length-drop 4 o) in
      let four : 4 ≤ k = omega arith in
      let count : length (take n (drop 4 o)) ≡ n = length-take-le n (drop 4 o) fits in
      record {
        front = take 4 o;
        padding = drop n (drop 4 x);
        front_octets = length-take-le 4 o long;
        code_is = short_front 0 o (omega arith) long;
        counted = count ∙ short_front 2 o (omega arith) long;
        whole_octets = length-take-le k o whole ∙ ap option_octets (sym count);
        whole =
            sym (take-append-drop 4 x)
            ∙ ap (λ (y : List ℕ). y ++ drop 4 x) (take-take 4 k o four)
            ∙ ap (λ (y : List ℕ). take 4 o ++ y)
            (sym (take-append-drop n (drop 4 x))
            ∙ ap (λ (y : List ℕ). y ++ drop n (drop 4 x)) (value_in o n));
      }

  -- what stands at the front where an option does
  record Fronted (found : ℕ) (value o : List ℕ) (octets : ℕ) : Type 0 where
    long : 4 ≤ length o
    code : short_at order 0 o ≡ found
    count : short_at order 2 o ≡ length value
    ends : option_octets (short_at order 2 o) ≡ octets
    there : octets ≤ length o
    value_is : take (short_at order 2 o) (drop 4 o) ≡ value

  fronted : (x more : List ℕ) (found : ℕ) (value : List ℕ) → IsOption order x found value
      → Fronted found value (x ++ more) (length x)
  fronted x more found value is =
      let o : List ℕ = x ++ more in
      let parts : o ≡ is.front ++ (value ++ (is.padding ++ more)) =
      ap (λ (y : List ℕ). y ++ more) is.whole
      ∙ append_assoc is.front (value ++ is.padding) more
      ∙ ap (λ (y : List ℕ). is.front ++ y) (append_assoc value is.padding more) in
      let rest : List ℕ = value ++ (is.padding ++ more) in
      let code : short_at order 0 o ≡ found =
      ap (short_at order 0) parts
      ∙ short_append 0 is.front rest (omega (arith, is.front_octets)) ∙ sym is.code_is in
      let count : short_at order 2 o ≡ length value =
      ap (short_at order 2) parts
      ∙ short_append 2 is.front rest (omega (arith, is.front_octets)) ∙ sym is.counted in
      record {
        long =
            omega (
              arith,
              ap (λ (y : List ℕ). length y) parts,
              length-append is.front rest,
              is.front_octets,
            );
        code = code;
        count = count;
        ends = ap option_octets count ∙ sym is.whole_octets;
        there = omega (arith, length-append x more);
        value_is =
            ap (λ (n : ℕ). take n (drop 4 o)) count
            ∙ ap (λ (y : List ℕ). take (length value) y)
            (ap (drop 4) parts ∙ drop_at is.front rest 4 is.front_octets)
            ∙ take_at value (is.padding ++ more) (length value) refl;
      }

  module _ (code : ℕ) (some_code : code ≡ 0 → ⊥) where
    abbrev pub Says : List ℕ → Found → Type 0
    Says o (Ok None) = LacksOption order code o
    Says o (Ok (Some value)) = HasOption order code o value
    Says o (Err f) = ⊤

    none_skipped : (o : List ℕ) → SkipsTo order code o o
    none_skipped o = record { others = []; each = tt; parts = refl }

    push : (o x q rest : List ℕ) → IsOtherOption order code x → o ≡ x ++ q
        → SkipsTo order code q rest → SkipsTo order code o rest
    push o x q rest is parts s =
        record {
          others = x ∷ s.others;
          each = (is, s.each);
          parts =
              parts ∙ ap (λ (y : List ℕ). x ++ y) s.parts
              ∙ sym (append_assoc x (concat s.others) rest);
        }

    push_says : (o x q : List ℕ) (r : Found) → IsOtherOption order code x → o ≡ x ++ q → Says q r
        → Says o r
    push_says o x q (Ok None) is parts s =
        record { rest = s.rest; skips = push o x q s.rest is parts s.skips; ends = s.ends }
    push_says o x q (Ok (Some value)) is parts s =
        record {
          option = s.option;
          rest = s.rest;
          skips = push o x q (s.option ++ s.rest) is parts s.skips;
          is = s.is;
          goes_on = s.goes_on;
        }
    push_says o x q (Err f) is parts s = tt

    said_by : (o : List ℕ) (a b c d : Bool) (later : Found) → ltb (length o) 4 ≡ a
        → eqb (short_at order 0 o) 0 ≡ b → ltb (length o) (end_of order code o) ≡ c
        → eqb (short_at order 0 o) code ≡ d → Says (drop (end_of order code o) o) later
        → Says o (by_tests a b c d (take (short_at order 2 o) (drop 4 o)) later)
    said_by o true b c d later ea eb ec ed says = tt
    said_by o false true c d later ea eb ec ed says =
        record {
          rest = o;
          skips = none_skipped o;
          ends = inr (ltb-false (length o) 4 ea, eqb-true (short_at order 0 o) 0 eb);
        }
    said_by o false false true d later ea eb ec ed says = tt
    said_by o false false false true later ea eb ec ed says =
        let k : ℕ = end_of order code o in
        let is = option_front o (ltb-false (length o) 4 ea) (ltb-false (length o) k ec) in
        record {
          option = take k o;
          rest = drop k o;
          skips =
              subst (λ (y : List ℕ). SkipsTo order code o y) (sym (take-append-drop k o))
              (none_skipped o);
          is =
              subst (λ (n : ℕ). IsOption order (take k o) n (take (short_at order 2 o) (drop 4 o)))
              (eqb-true (short_at order 0 o) code ed) is;
          goes_on = some_code;
        }
    said_by o false false false false later ea eb ec ed says =
        let k : ℕ = end_of order code o in
        push_says o (take k o) (drop k o) later
        (record {
          found = short_at order 0 o;
          value = take (short_at order 2 o) (drop 4 o);
          is = option_front o (ltb-false (length o) 4 ea) (ltb-false (length o) k ec);
          other = eqb-false (short_at order 0 o) code ed;
          goes_on = eqb-false (short_at order 0 o) 0 eb;
        }) (sym (take-append-drop k o)) says

    said_some : (o : List ℕ) → 0 < length o
        → Says (drop (end_of order code o) o) (option_at order code (drop (end_of order code o) o))
        → Says o (option_at order code o)
    said_some o some says =
        let k : ℕ = end_of order code o in
        subst (Says o)
        (sym (stepped order code o (ltb (length o) 4) (eqb (short_at order 0 o) 0)
        (ltb (length o) k) (eqb (short_at order 0 o) code) some refl refl refl refl))
        (said_by o (ltb (length o) 4) (eqb (short_at order 0 o) 0) (ltb (length o) k)
        (eqb (short_at order 0 o) code) (option_at order code (drop k o)) refl refl refl refl says)

    said_none : (o : List ℕ) → length o ≡ 0 → Says o (option_at order code o)
    said_none o none =
        subst (Says o) (sym (at_none order code o none))
        (record {
          rest = o;
          skips = none_skipped o;
          ends = inl (nil_from_length o none);
        })

    said_up_to : (n : ℕ) (o : List ℕ) → length o ≤ n → Says o (option_at order code o)
    said_up_to zero o few = said_none o (omega arith)
    said_up_to (suc n) [] few = said_none [] refl
    said_up_to (suc n) (x ∷ xs) few =
        let o : List ℕ = x ∷ xs in
        said_some o (omega arith)
        (said_up_to n (drop (end_of order code o) o)
        (omega (arith, length-drop (end_of order code o) o)))

    pub said : (o : List ℕ) → Says o (option_at order code o)
    said o = said_up_to (length o) o (omega arith)

    -- ---- what stands there is read

    skip_again : (others : List (List ℕ)) (rest : List ℕ)
        → AllByRecursion (IsOtherOption order code) others
        → option_at order code (concat others ++ rest) ≡ option_at order code rest
    skip_again [] rest each = refl
    skip_again (x ∷ xs) rest each =
        let more : List ℕ = concat xs ++ rest in
        let other : IsOtherOption order code x = each.0 in
        let f = fronted x more other.found other.value other.is in
        ap (λ (y : List ℕ). option_at order code y) (append_assoc x (concat xs) rest)
        ∙ sym (at_other order code (x ++ more) more f.long
        (λ e. other.goes_on (sym f.code ∙ e)) (omega (arith, f.ends, f.there))
        (λ e. other.other (sym f.code ∙ e))
        (sym (ap (λ (n : ℕ). drop n (x ++ more)) f.ends ∙ drop_at x more (length x) refl)))
        ∙ skip_again xs rest each.1

    pub has_again : (o value : List ℕ) → HasOption order code o value
        → option_at order code o ≡ Ok (Some value)
    has_again o value has =
        let f = fronted has.option has.rest code value has.is in
        ap (λ (y : List ℕ). option_at order code y) has.skips.parts
        ∙ skip_again has.skips.others (has.option ++ has.rest) has.skips.each
        ∙ at_found order code (has.option ++ has.rest) f.long (λ e. some_code (sym f.code ∙ e))
        (omega (arith, f.ends, f.there)) f.code
        ∙ ap (λ (y : List ℕ). let r : Found = Ok (Some y) in r) f.value_is

    lacks_rest : (rest : List ℕ) → (rest ≡ []) ⊎ ((4 ≤ length rest) × (short_at order 0 rest ≡ 0))
        → option_at order code rest ≡ Ok None
    lacks_rest rest (inl none) = at_none order code rest (ap (λ (y : List ℕ). length y) none)
    lacks_rest rest (inr ends) = at_end order code rest ends.0 ends.1

    pub lacks_again : (o : List ℕ) → LacksOption order code o → option_at order code o ≡ Ok None
    lacks_again o lacks =
        ap (λ (y : List ℕ). option_at order code y) lacks.skips.parts
        ∙ skip_again lacks.skips.others lacks.rest lacks.skips.each
        ∙ lacks_rest lacks.rest lacks.ends
