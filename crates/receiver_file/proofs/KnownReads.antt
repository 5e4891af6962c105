-- A group that is read: its state, and what is behind it.
use Rattle.std.proofs.Common.{◌≡◌, ℕ, ◌≤◌, Bool, cond, eqb, get_or, List, [], ◌∷◌, length, map}
use Rattle.std.proofs.Common.{replicate, take, drop, Option, None, Some, Result, Ok, Err, refl, sym}
use Rattle.std.proofs.Common.{ap, ◌∙◌, subst, arith}
use Rattle.std.specs.Prelude.{IfErr, IfOk}
use Rattle.std.specs.Int.{bit_at}
use Rattle.std.proofs.lemmas.Bool.{le-ltb, ne_eqb}
use Rattle.std.proofs.lemmas.Nat.Bits.{bit_at-zero, bit_at_above}
use Rattle.std.proofs.lemmas.Result.{IfErr-weaker, IfOk-weaker}
use Rattle.st_format.specs.declared.cell.Cell.{Cell}
use Rattle.st_format.specs.declared.cell.Cell.TheVariants.{Missing, Value}
use Rattle.st_format.specs.Samples.{values_in}
use Rattle.frame_assembly.specs.declared.state.GroupState.{GroupState}
use Rattle.frame_assembly.specs.declared.state.GroupState.TheVariants.{Gone, Whole, Mixed}
use Rattle.pgroup_pack.specs.Groups.{blanked_samples}
use Rattle.media_file.specs.declared.fault.FileFault.{FileFault}
use Rattle.media_file.specs.declared.fault.FileFault.TheVariants.{BadField, Truncated}
use Rattle.media_file.specs.Fields.{Fails, field_at}
use Rattle.st_format.specs.Given.{Takes, field_by, with_rest}
use Rattle.st_format.specs.Reading.{◌>>=◌}
use Rattle.media_file.specs.Groups.{Shape, group_at}
use Rattle.frame_assembly.specs.Marks.{contested_mask}
use Rattle.receiver_file.specs.Known.{IsKnownGroup, cells_known, mixed_at}
use Rattle.receiver_file.specs.Numbers.{octet_at}
use Rattle.receiver_file.proofs.Knowing.{none_zeroed, zeroed_same}
use Rattle.receiver_file.proofs.Valued.{value_cut, value_gives, valued}
use Rattle.st_format.proofs.Origins.{if_content_weaker}
use Rattle.st_format.proofs.Parsing.{fails_first, fails_then, gives_pure, gives_then, then_reads}
use Rattle.media_file.specs.Faults.{file_fault_origin}

abbrev Cells : Type 0
Cells = Result (List Cell × List ℕ) FileFault

abbrev ok_cells : List Cell → Result (List Cell) FileFault
ok_cells cells = Ok cells

abbrev whole_by : Shape → List ℕ → Result (List Cell) FileFault
whole_by s octets = ok_cells (map Value (values_in s.bits octets))

abbrev bad : Cells
bad = Err BadField

-- what is read behind a state
abbrev group_by : Shape → ℕ → List ℕ → Cells
group_by s n octets =
    cond (eqb n 0) (with_rest (ok_cells (replicate s.samples Missing)) octets)
    (cond (eqb n 1) (valued (field_at s.octets) (whole_by s) octets)
    (cond (eqb n 2) (mixed_at s octets) bad))

abbrev short : Result (List ℕ × List ℕ) FileFault
short = Err Truncated

pub octet_is : (x : ℕ) (xs : List ℕ) → octet_at (x ∷ xs) ≡ Ok (x, xs)
unfolding octet_at field_by
octet_is x xs =
    let long : 1 ≤ length (x ∷ xs) = omega arith in
    ap (λ (b : Bool). cond b short (Ok (take 1 (x ∷ xs), drop 1 (x ∷ xs))) >>=
    λ y. let r : Result (ℕ × List ℕ) FileFault = Ok (get_or y.0 0 0, y.1) in r)
    (le-ltb (length (x ∷ xs)) 1 long)

group_none : (s : Shape) → group_at s [] ≡ then_reads octet_at (group_by s) []
unfolding group_at octet_at field_by
group_none s = refl

group_some : (s : Shape) (x : ℕ) (xs : List ℕ) → group_at s (x ∷ xs) ≡ group_by s x xs
unfolding group_at mixed_at
group_some s x xs = refl

group_is : (s : Shape) (octets : List ℕ)
    → group_at s octets ≡ then_reads octet_at (group_by s) octets
group_is s [] = group_none s
group_is s (x ∷ xs) =
    group_some s x xs
    ∙ ap (λ (r : Result (ℕ × List ℕ) FileFault). r >>= λ z. group_by s z.0 z.1)
    (sym (octet_is x xs))

gives_alike : {A : Type 0} (r q : List ℕ → Result (A × List ℕ) FileFault)
    → ((o : List ℕ) → q o ≡ r o) → (old new : Option (List ℕ)) (x : A) → Takes r old new x
    → Takes q old new x
gives_alike r q e None new x p = tt
gives_alike r q e (Some o) None x p = absurd p
gives_alike r q e (Some o) (Some rest) x p = e o ∙ p

fails_alike : {A : Type 0} (r q : List ℕ → Result (A × List ℕ) FileFault)
    → ((o : List ℕ) → q o ≡ r o) → (old : Option (List ℕ)) (f : FileFault) → Fails r old f
    → Fails q old f
fails_alike r q e None f p = tt
fails_alike {A} r q e (Some o) f p =
    if_content_weaker file_fault_origin f (r o ≡ Err f) (q o ≡ Err f) (λ h. e o ∙ h) p

-- a state, and what is behind it
group_gives : (s : Shape) (old mid new : Option (List ℕ)) (n m : ℕ) (cells : List Cell) → n ≡ m
    → Takes octet_at old mid n → Takes (group_by s m) mid new cells
    → Takes (group_at s) old new cells
group_gives s old mid new n m cells e p q =
    gives_alike (then_reads octet_at (group_by s)) (group_at s) (group_is s) old new cells
    (gives_then octet_at (group_by s) old mid new m cells
    (subst (λ (k : ℕ). Takes octet_at old mid k) e p) q)

group_fails : (s : Shape) (old mid : Option (List ℕ)) (n m : ℕ) (f : FileFault) → n ≡ m
    → Takes octet_at old mid n → Fails (group_by s m) mid f → Fails (group_at s) old f
group_fails s old mid n m f e p q =
    fails_alike (then_reads octet_at (group_by s)) (group_at s) (group_is s) old f
    (fails_then file_fault_origin octet_at (group_by s) old mid m f
    (subst (λ (k : ℕ). Takes octet_at old mid k) e p) q)

pub group_cut : (s : Shape) (old : Option (List ℕ)) (f : FileFault) → Fails octet_at old f
    → Fails (group_at s) old f
group_cut s old f p =
    fails_alike (then_reads octet_at (group_by s)) (group_at s) (group_is s) old f
    (fails_first file_fault_origin octet_at (group_by s) old f p)

pub gone_gives : (s : Shape) (old mid : Option (List ℕ)) (n : ℕ) → n ≡ 0 → Takes octet_at old mid n
    → Takes (group_at s) old mid (replicate s.samples Missing)
gone_gives s old mid n e p =
    group_gives s old mid mid n 0 (replicate s.samples Missing) e p
    (gives_pure (ok_cells (replicate s.samples Missing)) mid (replicate s.samples Missing) refl)

pub whole_gives : (s : Shape) (old mid new : Option (List ℕ)) (n : ℕ) (octets : List ℕ) → n ≡ 1
    → Takes octet_at old mid n → Takes (field_at s.octets) mid new octets
    → Takes (group_at s) old new (map Value (values_in s.bits octets))
whole_gives s old mid new n octets e p q =
    group_gives s old mid new n 1 (map Value (values_in s.bits octets)) e p
    (value_gives (field_at s.octets) (whole_by s) mid new octets
    (map Value (values_in s.bits octets)) q refl)

pub whole_short : (s : Shape) (old mid : Option (List ℕ)) (n : ℕ) (f : FileFault) → n ≡ 1
    → Takes octet_at old mid n → Fails (field_at s.octets) mid f → Fails (group_at s) old f
whole_short s old mid n f e p q =
    group_fails s old mid n 1 f e p (value_cut (field_at s.octets) (whole_by s) mid f q)

pub mixed_then : (s : Shape) (old mid new : Option (List ℕ)) (n : ℕ) (octets : List ℕ)
    (r : Result GroupState FileFault) → n ≡ 2 → Takes octet_at old mid n
    → IfOk r (λ state. Takes (mixed_at s) mid new (cells_known s state octets))
    → IfOk r (λ state. Takes (group_at s) old new (cells_known s state octets))
mixed_then s old mid new n octets r e p q =
    IfOk-weaker r (λ state. Takes (mixed_at s) mid new (cells_known s state octets))
    (λ state. Takes (group_at s) old new (cells_known s state octets))
    (λ state known. group_gives s old mid new n 2 (cells_known s state octets) e p known) q

pub mixed_fault : (s : Shape) (old mid : Option (List ℕ)) (n : ℕ) (r : Result GroupState FileFault)
    → n ≡ 2 → Takes octet_at old mid n → IfErr r (λ f. Fails (mixed_at s) mid f)
    → IfErr r (λ f. Fails (group_at s) old f)
mixed_fault s old mid n r e p q =
    IfErr-weaker r (λ f. Fails (mixed_at s) mid f) (λ f. Fails (group_at s) old f)
    (λ f known. group_fails s old mid n 2 f e p known) q

pub state_bad : (s : Shape) (old mid : Option (List ℕ)) (n : ℕ) → (n ≡ 0 → ⊥) → (n ≡ 1 → ⊥)
    → (n ≡ 2 → ⊥) → Takes octet_at old mid n → Fails (group_at s) old BadField
state_bad s old mid n none one two p = group_fails s old mid n n BadField refl p (other mid)
  where
    other : (known : Option (List ℕ)) → Fails (group_by s n) known BadField
    other None = tt
    other (Some o) =
        ap (λ (b : Bool). cond b (with_rest (ok_cells (replicate s.samples Missing)) o)
        (cond (eqb n 1) (valued (field_at s.octets) (whole_by s) o)
        (cond (eqb n 2) (mixed_at s o) bad))) (ne_eqb n 0 none)
        ∙ ap
        (λ (b : Bool). cond b (valued (field_at s.octets) (whole_by s) o)
        (cond (eqb n 2) (mixed_at s o) bad)) (ne_eqb n 1 one)
        ∙ ap (λ (b : Bool). cond b (mixed_at s o) bad) (ne_eqb n 2 two)

-- ---- what a frame is given

pub known_bits : (s : Shape) (state : GroupState) (octets : List ℕ) → IsKnownGroup s state octets
    → (i : ℕ) → s.samples ≤ i → bit_at (contested_mask state) i ≡ 0
known_bits s Gone octets k i le = bit_at-zero i
known_bits s Whole octets k i le = bit_at-zero i
known_bits s (Mixed mask) octets k i le = bit_at_above mask s.samples i k.0 le

pub known_zero : (s : Shape) (state : GroupState) (octets : List ℕ) → IsKnownGroup s state octets
    → values_in s.bits octets ≡ blanked_samples (contested_mask state) (values_in s.bits octets)
known_zero s Gone octets k =
    sym (zeroed_same 0 (values_in s.bits octets) (none_zeroed (values_in s.bits octets)))
known_zero s Whole octets k =
    sym (zeroed_same 0 (values_in s.bits octets) (none_zeroed (values_in s.bits octets)))
known_zero s (Mixed mask) octets k = sym (zeroed_same mask (values_in s.bits octets) k.1)
