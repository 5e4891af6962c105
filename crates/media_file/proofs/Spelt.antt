-- Samples that are read and written in pieces.
use Rattle.std.proofs.Common.{◌≡◌, ℕ, zero, suc, ◌+◌, ◌-◌, ◌*◌, ◌/◌, ◌%◌, ◌<◌, ◌≤◌, List, [], ◌∷◌}
use Rattle.std.proofs.Common.{◌++◌, length, map, take, drop, ltb, Option, None, Some, Result, Ok}
use Rattle.std.proofs.Common.{Err, cond, Bool, refl, sym, ap, ◌∙◌, subst, inl, inr, arith}
use Rattle.std.specs.List.{flat_map}
use Rattle.std.specs.Io.KnownBytes.{Appends, Consumes}
use Rattle.std.proofs.KnownBytes.{Appends-nil, Appends-trans, Consumes-nil, Consumes-trans}
use Rattle.std.proofs.lemmas.Bool.{lt-ltb, ltb-true}
use Rattle.std.proofs.lemmas.Grind.{flat_map-append}
use Rattle.std.proofs.lemmas.List.{length-append, length-drop, length-take-le, take-append-drop}
use Rattle.std.proofs.lemmas.List.{take-append-le, drop-append-le, map-append}
use Rattle.std.proofs.Math.Seq.{take-add}
use Rattle.std.proofs.Math.Nat.{mul-add, mul-le-mul_left}
use Rattle.st_format.specs.Device.{AppendsPrefix}
use Rattle.st_format.specs.Samples.{bits, number, octets_in, pieces, Spells}
use Rattle.st_format.proofs.Spelled.{joined_length}
use Rattle.pgroup_pack.proofs.Numbers.{Spells-append}
use Rattle.media_file.specs.declared.fault.FileFault.{FileFault}
use Rattle.media_file.specs.declared.fault.FileFault.TheVariants.{NoMemory, Device, BadName}
use Rattle.media_file.specs.declared.fault.FileFault.TheVariants.{BadVersion, Truncated, BadField}
use Rattle.media_file.specs.declared.fault.FileFault.TheVariants.{TrailingBytes, MixedGroup}
use Rattle.media_file.specs.declared.fault.FileFault.TheVariants.{TooManyRecords}
use Rattle.media_file.specs.Faults.{IsOfField}
use Rattle.media_file.specs.Fields.{Fails, field_at}
use Rattle.st_format.specs.Given.{Takes, field_by}
use Rattle.media_file.specs.PictureFile.{GivesSpelled}
use Rattle.media_file.proofs.Entries.{chosen}
use Rattle.media_file.proofs.Written.{prefix_first, prefix_then}

abbrev Part : Type 0
Part = Result (List ℕ × List ℕ) FileFault

abbrev part : List ℕ → List ℕ → Part
part xs rest = Ok (xs, rest)

abbrev cut : Part
cut = Err Truncated

abbrev first_in : Part → List ℕ
first_in (Ok x) = x.0
first_in (Err f) = []

abbrev rest_in : Part → List ℕ
rest_in (Ok x) = x.1
rest_in (Err f) = []

-- a source that gave a field gave its octets
pub field_given : (n : ℕ) (old new : Option (List ℕ)) (buf : List ℕ)
    → Takes (field_at n) old new buf → Consumes old new buf
unfolding field_by
field_given n None new buf p = tt
field_given n (Some o) None buf p = absurd p
field_given n (Some o) (Some rest) buf p =
    elim (chosen (ltb (length o) n) cut (part (take n o) (drop n o)) (part buf rest) p) [
      | inl w ↦ let bad : cut ≡ part buf rest = w.1 in absurd cc
      | inr w ↦
          let same : part (take n o) (drop n o) ≡ part buf rest = w.1 in
          sym (take-append-drop n o) ∙ ap (λ (xs : List ℕ). xs ++ drop n o) (ap first_in same)
          ∙ ap (λ (xs : List ℕ). buf ++ xs) (ap rest_in same)
    ]

-- octets that are no field are too few
short_of : (n : ℕ) (o : List ℕ) → field_at n o ≡ Err Truncated → length o < n
unfolding field_by
short_of n o e =
    elim (chosen (ltb (length o) n) cut (part (take n o) (drop n o)) cut e) [
      | inl w ↦ ltb-true (length o) n w.0
      | inr w ↦ let bad : part (take n o) (drop n o) ≡ cut = w.1 in absurd cc
    ]

field_short : (n : ℕ) (o : List ℕ) → length o < n → field_at n o ≡ Err Truncated
unfolding field_by
field_short n o lt =
    ap (λ (b : Bool). cond b cut (part (take n o) (drop n o))) (lt-ltb (length o) n lt)

-- where a field within a longer one is cut, the longer one is
pub fails_longer : (n k : ℕ) (old mid : Option (List ℕ)) (given : List ℕ) (f : FileFault)
    → IsOfField f → length given + n ≤ k → Consumes old mid given → Fails (field_at n) mid f
    → Fails (field_at k) old f
fails_longer n k None mid given f named le p q = tt
fails_longer n k (Some o) None given f named le p q = absurd p
fails_longer n k (Some o) (Some m) given NoMemory named le p q = tt
fails_longer n k (Some o) (Some m) given Device named le p q = tt
fails_longer n k (Some o) (Some m) given Truncated named le p q =
    let lt : length m < n = short_of n m q in
    let size : length o ≡ length given + length m = ap length p ∙ length-append given m in
    field_short k o (omega arith)
fails_longer n k (Some o) (Some m) given BadName named le p q = absurd named
fails_longer n k (Some o) (Some m) given BadVersion named le p q = absurd named
fails_longer n k (Some o) (Some m) given BadField named le p q = absurd named
fails_longer n k (Some o) (Some m) given TrailingBytes named le p q = absurd named
fails_longer n k (Some o) (Some m) given MixedGroup named le p q = absurd named
fails_longer n k (Some o) (Some m) given TooManyRecords named le p q = absurd named

-- ---- read

pub spelled_none : (n : ℕ) (known : Option (List ℕ)) → GivesSpelled n known known []
spelled_none n known =
    record {
      octets = [];
      given = Consumes-nil known;
      spelled =
          record { fit = tt; same_bits = refl };
    }

pub spelled_more : (n : ℕ) (old mid new : Option (List ℕ)) (vs ws : List ℕ)
    → GivesSpelled n old mid vs → GivesSpelled n mid new ws → GivesSpelled n old new (vs ++ ws)
spelled_more n old mid new vs ws p q = record {
  octets = p.octets ++ q.octets;
  given = Consumes-trans old mid new p.octets q.octets p.given q.given;
  spelled = Spells-append n p.octets q.octets vs ws p.spelled q.spelled;
}

-- so many octets spell so many values
pub spelled_size : (n : ℕ) (octets vs : List ℕ) → Spells n octets vs
    → 8 * length octets ≡ n * length vs
spelled_size n octets vs p =
    sym (joined_length 8 octets) ∙ ap length p.same_bits ∙ joined_length n vs

-- ---- written

pieces-append : (k l : ℕ) (xs ys : List ℕ) → length xs ≡ 8 * k
    → pieces 8 (k + l) (xs ++ ys) ≡ pieces 8 k xs ++ pieces 8 l ys
unfolding pieces
pieces-append zero l [] ys e = let s : 0 + l ≡ l = omega arith in ap (λ (n : ℕ). pieces 8 n ys) s
pieces-append zero l (x ∷ xs) ys e = absurd (omega (arith, e))
pieces-append (suc k) l xs ys e =
    let s : suc k + l ≡ suc (k + l) = omega arith in
    let le : 8 ≤ length xs = omega arith in
    let short : length (drop 8 xs) ≡ 8 * k = omega (arith, length-drop 8 xs) in
    ap (λ (n : ℕ). pieces 8 n (xs ++ ys)) s
    ∙ ap (λ (p : List ℕ). p ∷ pieces 8 (k + l) (drop 8 (xs ++ ys))) (take-append-le 8 xs ys le)
    ∙ ap (λ (p : List ℕ). take 8 xs ∷ pieces 8 (k + l) p) (drop-append-le 8 xs ys le)
    ∙ ap (λ (p : List (List ℕ)). take 8 xs ∷ p) (pieces-append k l (drop 8 xs) ys short)

count_of : (n : ℕ) (vs : List ℕ) (k : ℕ) → n * length vs ≡ 8 * k → n * length vs / 8 ≡ k
count_of n vs k e = omega arith

-- the octets of values, one after the other
pub octets_in-append : (n k l : ℕ) (vs ws : List ℕ) → n * length vs ≡ 8 * k → n * length ws ≡ 8 * l
    → octets_in n (vs ++ ws) ≡ octets_in n vs ++ octets_in n ws
unfolding octets_in
octets_in-append n k l vs ws first second =
    let xs : List ℕ = flat_map (bits n) vs in
    let ys : List ℕ = flat_map (bits n) ws in
    let both : n * length (vs ++ ws) ≡ 8 * (k + l) =
    sym (joined_length n (vs ++ ws)) ∙ ap length (flat_map-append (bits n) vs ws)
    ∙ length-append xs ys ∙ omega (arith, joined_length n vs, joined_length n ws) in
    let eight : length xs ≡ 8 * k = joined_length n vs ∙ first in
    ap (λ (c : ℕ). map number (pieces 8 c (flat_map (bits n) (vs ++ ws))))
    (count_of n (vs ++ ws) (k + l) both)
    ∙ ap (λ (p : List ℕ). map number (pieces 8 (k + l) p)) (flat_map-append (bits n) vs ws)
    ∙ ap (map number) (pieces-append k l xs ys eight)
    ∙ map-append number (pieces 8 k xs) (pieces 8 l ys)
    ∙ ap (λ (c : ℕ). map number (pieces 8 c xs) ++ map number (pieces 8 l ys))
    (sym (count_of n vs k first))
    ∙ ap (λ (c : ℕ). map number (pieces 8 (n * length vs / 8) xs) ++ map number (pieces 8 c ys))
    (sym (count_of n ws l second))

octets_in-none : (n : ℕ) → octets_in n [] ≡ []
unfolding octets_in pieces
octets_in-none n = let e : n * 0 / 8 ≡ 0 =
    omega arith in ap (λ (c : ℕ). map number (pieces 8 c [])) e

-- ---- in pieces

pub none_written : (n : ℕ) (known : Option (List ℕ)) → Appends known known (octets_in n [])
none_written n known = subst (Appends known known) (sym (octets_in-none n)) (Appends-nil known)

-- the values up to the end of a piece
pub piece_taken : (d n : ℕ) (vs : List ℕ)
    → take (d + n) vs ≡ take d vs ++ take (d + n - d) (drop d vs)
piece_taken d n vs =
    let e : n ≡ d + n - d = omega arith in
    take-add d n vs ∙ ap (λ (k : ℕ). take d vs ++ take k (drop d vs)) e

eighths : (a : ℕ) → a % 8 ≡ 0 → a ≡ 8 * (a / 8)
eighths a e = omega arith

-- values of whole octets, and those of a piece behind them
pub octets_taken : (b d n : ℕ) (vs : List ℕ) → d + n ≤ length vs → b * d % 8 ≡ 0 → b * n % 8 ≡ 0
    → octets_in b (take (d + n) vs)
    ≡ octets_in b (take d vs) ++ octets_in b (take (d + n - d) (drop d vs))
octets_taken b d n vs le first second =
    let e : d + n - d ≡ n = omega arith in
    let front : length (take d vs) ≡ d = length-take-le d vs (omega arith) in
    let piece : length (take (d + n - d) (drop d vs)) ≡ n =
    length-take-le (d + n - d) (drop d vs) (omega (arith, length-drop d vs)) ∙ e in
    ap (octets_in b) (piece_taken d n vs)
    ∙ octets_in-append b (b * d / 8) (b * n / 8) (take d vs) (take (d + n - d) (drop d vs))
    (ap (λ (k : ℕ). b * k) front ∙ eighths (b * d) first)
    (ap (λ (k : ℕ). b * k) piece ∙ eighths (b * n) second)

-- and those that are left
pub octets_left : (b d : ℕ) (vs : List ℕ) → d ≤ length vs → b * d % 8 ≡ 0 → b * length vs % 8 ≡ 0
    → octets_in b (take d vs) ++ octets_in b (drop d vs) ≡ octets_in b vs
octets_left b d vs le first all =
    let front : length (take d vs) ≡ d = length-take-le d vs le in
    let rest : d + length (drop d vs) ≡ length vs = omega (arith, length-drop d vs) in
    let split : b * length vs ≡ b * d + b * length (drop d vs) =
    ap (λ (k : ℕ). b * k) (sym rest) ∙ mul-add b d (length (drop d vs)) in
    let last : b * length (drop d vs) % 8 ≡ 0 = omega arith in
    sym (octets_in-append b (b * d / 8) (b * length (drop d vs) / 8) (take d vs) (drop d vs)
    (ap (λ (k : ℕ). b * k) front ∙ eighths (b * d) first)
    (eighths (b * length (drop d vs)) last))
    ∙ ap (octets_in b) (take-append-drop d vs)

-- a piece that a sink took a part of
pub piece_cut : (b d n : ℕ) (vs : List ℕ) (old mid new : Option (List ℕ)) → d + n ≤ length vs
    → b * d % 8 ≡ 0 → b * n % 8 ≡ 0 → b * (d + n) % 8 ≡ 0 → b * length vs % 8 ≡ 0
    → Appends old mid (octets_in b (take d vs))
    → AppendsPrefix mid new (octets_in b (take (d + n - d) (drop d vs)))
    → AppendsPrefix old new (octets_in b vs)
piece_cut b d n vs old mid new le first second both all p q =
    subst (AppendsPrefix old new) (octets_left b (d + n) vs le both all)
    (prefix_first old new (octets_in b (take (d + n) vs)) (octets_in b (drop (d + n) vs))
    (subst (AppendsPrefix old new) (sym (octets_taken b d n vs le first second))
    (prefix_then old mid new (octets_in b (take d vs))
    (octets_in b (take (d + n - d) (drop d vs))) p q)))

pub piece_whole : (b d n : ℕ) (vs : List ℕ) (old mid new : Option (List ℕ)) → d + n ≤ length vs
    → b * d % 8 ≡ 0 → b * n % 8 ≡ 0
    → Appends old mid (octets_in b (take d vs))
    → Appends mid new (octets_in b (take (d + n - d) (drop d vs)))
    → Appends old new (octets_in b (take (d + n) vs))
piece_whole b d n vs old mid new le first second p q =
    subst (Appends old new) (sym (octets_taken b d n vs le first second))
    (Appends-trans old mid new (octets_in b (take d vs))
    (octets_in b (take (d + n - d) (drop d vs))) p q)

-- a piece that a source did not give
pub piece_fails : (b d n count size : ℕ) (old mid : Option (List ℕ)) (vs : List ℕ) (f : FileFault)
    → IsOfField f → d + n ≤ count → 8 * size ≡ b * n → length vs ≡ d
    → GivesSpelled b old mid vs → Fails (field_at size) mid f
    → Fails (field_at (b * count / 8)) old f
piece_fails b d n count size old mid vs f named le is len p q =
    let given : 8 * length p.octets ≡ b * d =
    spelled_size b p.octets vs p.spelled ∙ ap (λ (k : ℕ). b * k) len in
    let most : b * (d + n) ≤ b * count = mul-le-mul_left b le in
    let both : b * (d + n) ≡ b * d + b * n = mul-add b d n in
    fails_longer size (b * count / 8) old mid p.octets f named (omega arith) p.given q

-- what is left for the next piece
pub record Piece (b d n count : ℕ) : Type 0 where
  pub few : b * n ≤ 28800
  pub whole : b * n % 8 ≡ 0
  pub next : b * (d + n) % 8 ≡ 0

pub piece_last : (b d n most count : ℕ) → d + n ≡ count → n < most → b * most ≡ 28800
    → b * d % 8 ≡ 0 → b * count % 8 ≡ 0 → Piece b d n count
piece_last b d n most count all lt is done whole =
    let le : n ≤ most = omega arith in
    let less : b * n ≤ b * most = mul-le-mul_left b le in
    let both : b * (d + n) ≡ b * d + b * n = mul-add b d n in
    let same : b * (d + n) ≡ b * count = ap (λ (k : ℕ). b * k) all in
    record { few = omega arith; whole = omega arith; next = omega arith }

pub piece_most : (b d most count : ℕ) → b * most ≡ 28800 → b * d % 8 ≡ 0 → Piece b d most count
piece_most b d most count is done =
    let both : b * (d + most) ≡ b * d + b * most = mul-add b d most in
    record { few = omega arith; whole = omega arith; next = omega arith }
