-- Options of blocks: reading them one after another.
use Rattle.std.proofs.Common.{◌*◌, ◌/◌}
use Rattle.std.proofs.Common.{◌≡◌, ℕ, zero, suc, ◌+◌, ◌<◌, ◌≤◌, Bool, true, false, cond, eqb, ltb}
use Rattle.std.proofs.Common.{List, [], ◌∷◌, length, take, drop, Option, Some, None, Result, Ok}
use Rattle.std.proofs.Common.{Err}
use Rattle.std.proofs.Common.{refl, sym, ap, ◌∙◌, arith}
use Rattle.std.proofs.lemmas.Bool.{eq-eqb, ne_eqb, lt-ltb}
use Rattle.std.proofs.lemmas.Bool.{le-ltb}
use Rattle.std.proofs.lemmas.List.{drop-take, length-drop, take-take}
use Rattle.pcap_file.specs.Blocks.{option_octets}
use Rattle.pcap_file.specs.BlockReading.{option_at, option_by, options_at}
use Rattle.pcap_file.specs.Orders.{short_at}
use Rattle.pcap_file.specs.declared.fault.RecordingFault.{RecordingFault}
use Rattle.pcap_file.specs.declared.fault.RecordingFault.TheVariants.{BadBlock}
use Rattle.pcap_file.specs.declared.order.ByteOrder.{ByteOrder}

abbrev pub Found : Type 0
Found = Result (Option (List ℕ)) RecordingFault

abbrev pub found : Option (List ℕ) → Found
found x = Ok x

abbrev pub bad : Found
bad = Err BadBlock

-- the tests of one option in their order
abbrev pub by_tests : Bool → Bool → Bool → Bool → List ℕ → Found → Found
by_tests a b c d value later =
    cond a bad (cond b (found None) (cond c bad (cond d (found (Some value)) later)))

same_tests : (a b c d k l m n : Bool) (value : List ℕ) (later : Found) → a ≡ k → b ≡ l → c ≡ m
    → d ≡ n → by_tests a b c d value later ≡ by_tests k l m n value later
same_tests a b c d k l m n value later p q r s =
    ap (λ (x : Bool). by_tests x b c d value later) p
    ∙ ap (λ (x : Bool). by_tests k x c d value later) q
    ∙ ap (λ (x : Bool). by_tests k l x d value later) r
    ∙ ap (λ (x : Bool). by_tests k l m x value later) s

module _ (order : ByteOrder) (code : ℕ) where
  -- where an option ends
  abbrev pub end_of : List ℕ → ℕ
  end_of o = option_octets (short_at order 2 o)

  step_same : (o : List ℕ) (f g : List ℕ → Found) → f (drop (end_of o) o) ≡ g (drop (end_of o) o)
      → option_by order code o f ≡ option_by order code o g
  step_same o f g e =
      ap (λ (later : Found). by_tests (ltb (length o) 4) (eqb (short_at order 0 o) 0)
      (ltb (length o) (end_of o)) (eqb (short_at order 0 o) code)
      (take (short_at order 2 o) (drop 4 o)) later) e

  enough : (n m : ℕ) (o : List ℕ) → length o ≤ n → length o ≤ m
      → options_at n order code o ≡ options_at m order code o
  unfolding options_at
  enough zero zero o few less = refl
  enough zero (suc m) [] few less = refl
  enough zero (suc m) (x ∷ xs) few less = absurd (omega arith)
  enough (suc n) zero [] few less = refl
  enough (suc n) zero (x ∷ xs) few less = absurd (omega arith)
  enough (suc n) (suc m) [] few less = refl
  enough (suc n) (suc m) (x ∷ xs) few less =
      step_same (x ∷ xs) (λ rest. options_at n order code rest)
      (λ rest. options_at m order code rest)
      (enough n m (drop (end_of (x ∷ xs)) (x ∷ xs))
      (omega (arith, length-drop (end_of (x ∷ xs)) (x ∷ xs)))
      (omega (arith, length-drop (end_of (x ∷ xs)) (x ∷ xs))))

  -- one option is looked at, and then what is behind it
  step : (o : List ℕ) → 0 < length o
      → option_at order code o ≡ option_by order code o (λ rest. option_at order code rest)
  unfolding options_at
  step [] some = absurd (omega arith)
  step (x ∷ xs) some =
      let o : List ℕ = x ∷ xs in
      step_same o (λ rest. options_at (length xs) order code rest)
      (λ rest. option_at order code rest)
      (enough (length xs) (length (drop (end_of o) o)) (drop (end_of o) o)
      (omega (arith, length-drop (end_of o) o)) (omega arith))

  pub stepped : (o : List ℕ) (k l m n : Bool) → 0 < length o → ltb (length o) 4 ≡ k
      → eqb (short_at order 0 o) 0 ≡ l → ltb (length o) (end_of o) ≡ m
      → eqb (short_at order 0 o) code ≡ n → option_at order code o
      ≡ by_tests k l m n (take (short_at order 2 o) (drop 4 o))
      (option_at order code (drop (end_of o) o))
  stepped o k l m n some ek el em en =
      step o some
      ∙ same_tests (ltb (length o) 4) (eqb (short_at order 0 o) 0) (ltb (length o) (end_of o))
      (eqb (short_at order 0 o) code) k l m n (take (short_at order 2 o) (drop 4 o))
      (option_at order code (drop (end_of o) o)) ek el em en

  pub at_none : (o : List ℕ) → length o ≡ 0 → option_at order code o ≡ Ok None
  unfolding options_at
  at_none [] none = refl
  at_none (x ∷ xs) none = absurd (omega arith)

  pub at_short : (o : List ℕ) → 0 < length o → length o < 4 → option_at order code o ≡ Err BadBlock
  at_short o some short =
      stepped o true (eqb (short_at order 0 o) 0) (ltb (length o) (end_of o))
      (eqb (short_at order 0 o) code) some (lt-ltb (length o) 4 short) refl refl refl

  pub at_end : (o : List ℕ) → 4 ≤ length o → short_at order 0 o ≡ 0 → option_at order code o ≡ Ok
      None
  at_end o long is =
      stepped o false true (ltb (length o) (end_of o)) (eqb (short_at order 0 o) code) (omega arith)
      (le-ltb (length o) 4 long) (eq-eqb (short_at order 0 o) 0 is) refl refl

  pub at_cut : (o : List ℕ) → 4 ≤ length o → (short_at order 0 o ≡ 0 → ⊥) → length o < end_of o
      → option_at order code o ≡ Err BadBlock
  at_cut o long goes_on short =
      stepped o false false true (eqb (short_at order 0 o) code) (omega arith)
      (le-ltb (length o) 4 long) (ne_eqb (short_at order 0 o) 0 goes_on)
      (lt-ltb (length o) (end_of o) short) refl

  pub at_found : (o : List ℕ) → 4 ≤ length o → (short_at order 0 o ≡ 0 → ⊥) → end_of o ≤ length o
      → short_at order 0 o ≡ code
      → option_at order code o ≡ Ok (Some (take (short_at order 2 o) (drop 4 o)))
  at_found o long goes_on whole is =
      stepped o false false false true (omega arith) (le-ltb (length o) 4 long)
      (ne_eqb (short_at order 0 o) 0 goes_on) (le-ltb (length o) (end_of o) whole)
      (eq-eqb (short_at order 0 o) code is)

  pub at_other : (o after : List ℕ) → 4 ≤ length o → (short_at order 0 o ≡ 0 → ⊥)
      → end_of o ≤ length o → (short_at order 0 o ≡ code → ⊥) → after ≡ drop (end_of o) o
      → option_at order code after ≡ option_at order code o
  at_other o after long goes_on whole other is =
      ap (λ (x : List ℕ). option_at order code x) is
      ∙ sym (stepped o false false false false (omega arith) (le-ltb (length o) 4 long)
      (ne_eqb (short_at order 0 o) 0 goes_on) (le-ltb (length o) (end_of o) whole)
      (ne_eqb (short_at order 0 o) code other))

-- the value, cut out of the whole option
pub value_in : (o : List ℕ) (count : ℕ)
    → take count (drop 4 (take (option_octets count) o)) ≡ take count (drop 4 o)
value_in o count =
    let m : ℕ = (count + 3) / 4 * 4 in
    let fits : count ≤ m = omega arith in
    ap (λ (x : List ℕ). take count x) (drop-take 4 m o) ∙ take-take count m (drop 4 o) fits
