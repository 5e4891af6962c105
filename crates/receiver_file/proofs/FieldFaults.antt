-- The fields before the frames: each fault is read exactly where its condition holds.
use Rattle.std.proofs.Common.{◌≡◌, ℕ, zero, suc, ◌^◌, ◌<◌, ◌≤◌, Bool, true, false, cond, ◌||◌, eqb}
use Rattle.std.proofs.Common.{ltb, List, [], ◌∷◌, length, get_or, Option, None, Some, Result, Ok}
use Rattle.std.proofs.Common.{Err, refl, sym, ap, ◌∙◌, subst, inl, inr, arith}
use Rattle.std.specs.Prelude.{◌⊎◌}
use Rattle.std.proofs.lemmas.Bool.{eq-eqb, eqb-true, eqb-false, lt-ltb, ltb-false, ltb-true, ne_eqb}
use Rattle.std.proofs.lemmas.Bool.{or_parts}
use Rattle.st_format.specs.Device.{AreOctets}
use Rattle.st_format.specs.Fields.{Fields}
use Rattle.path_receiver.specs.Opening.{IsWindowSize}
use Rattle.media_file.specs.declared.fault.FileFault.{FileFault}
use Rattle.media_file.specs.declared.fault.FileFault.TheVariants.{BadField, Truncated}
use Rattle.media_file.specs.Blocks.{block_at, block_of}
use Rattle.media_file.specs.Fields.{field_at}
use Rattle.st_format.specs.Reading.{◌>>=◌}
use Rattle.st_format.specs.Given.{with_rest, field_by}
use Rattle.media_file.specs.StateFile.{SsrcFits}
use Rattle.media_file.proofs.BlockFaults.{block_again, block_fails}
use Rattle.media_file.proofs.Entries.{chosen}
use Rattle.media_file.proofs.Failing.{answered, field_fails, not_both, same_fault, split_fails}
use Rattle.media_file.proofs.Found.{failed, given, split_then}
use Rattle.media_file.proofs.PictureFaults.{block_refused}
use Rattle.receiver_file.specs.declared.front.Head.{Head}
use Rattle.receiver_file.specs.Front.{count_at, flag_at, flag_of, head_at, payload_type_at, ssrc_at}
use Rattle.receiver_file.specs.Front.{ssrc_of}
use Rattle.receiver_file.specs.Numbers.{number_at, octet_at}
use Rattle.receiver_file.specs.StateFaults.{HasNoBlock, HasNumber, HasOctet, IsStateHead}
use Rattle.receiver_file.specs.StateFaults.{flag_octet}
use Rattle.receiver_file.proofs.Found.{flag_takes, number_takes, octet_takes, type_takes, with_flag}
use Rattle.receiver_file.proofs.Found.{with_head, with_number, with_source}
use Rattle.receiver_file.proofs.FrameFaults.{FieldFails, number_begins, number_fails, number_read}
use Rattle.receiver_file.proofs.FrameFaults.{number_short, tested_clear, tested_fails, tested_finds}
use Rattle.receiver_file.proofs.FrameFaults.FieldFails.{Ends, Says}
use Rattle.receiver_file.proofs.GroupsFound.{behind, cut_takes}
use Rattle.receiver_file.proofs.KnownReads.{octet_is}

abbrev Number : Type 0
Number = Result (ℕ × List ℕ) FileFault

-- ---- the format block

pub block_fault : (octets : List ℕ) (e : FileFault) → AreOctets octets → block_at octets ≡ Err e
    → FieldFails (length octets < 14) (HasNoBlock octets) e
unfolding block_at
block_fault octets e bytes h =
    elim (split_fails (field_at 14 octets) (λ x. with_rest (block_of x.0) x.1) e h) [
      | inl p ↦ let f = field_fails 14 octets e p in Ends f.is f.short
      | inr a ↦
          let c = cut_takes 14 octets a.first bytes a.is in
          elim (split_fails (block_of a.first.0) (λ f. answered (Fields × List ℕ) (f, a.first.1)) e
          a.next) [
            | inl p ↦ Says (block_fails a.first.0 e c.size p) (record {
              block = a.first.0;
              behind = a.first.1;
              whole = c.text;
              long = c.size;
              none = λ g is same. not_both Fields g e
                  (sym (ap block_of same ∙ block_again g is) ∙ p);
            })
            | inr b ↦ absurd (not_both (Fields × List ℕ) (b.first, a.first.1) e b.next)
          ]
    ]

pub block_none : (octets : List ℕ) → AreOctets octets → HasNoBlock octets
    → block_at octets ≡ Err BadField
block_none octets bytes h =
    ap block_at h.whole
    ∙ block_refused h.block h.behind (subst AreOctets h.whole bytes) h.long h.none

-- ---- octets

nothing : (octets : List ℕ) → length octets < 1 → octets ≡ []
nothing [] lt = refl
nothing (x ∷ octets) lt = absurd (omega (arith, lt))

pub octet_fails : (octets : List ℕ) (e : FileFault) → octet_at octets ≡ Err e
    → (Truncated ≡ e) × (octets ≡ [])
unfolding octet_at
octet_fails octets e h =
    elim (split_fails (field_at 1 octets) (λ y. with_number (get_or y.0 0 0) y.1) e h) [
      | inl p ↦ let f = field_fails 1 octets e p in (f.is, nothing octets f.short)
      | inr t ↦ absurd (not_both (ℕ × List ℕ) (get_or t.first.0 0 0, t.first.1) e t.next)
    ]

octet_none : octet_at [] ≡ Err Truncated
unfolding octet_at field_by
octet_none = refl

octet_gone : (octets : List ℕ) → octets ≡ [] → octet_at octets ≡ Err Truncated
octet_gone octets none = ap octet_at none ∙ octet_none

octet_begins : (octets : List ℕ) (Is : ℕ → Type 0) (h : HasOctet Is octets)
    → octet_at octets ≡ Ok (h.first, h.behind)
octet_begins octets Is h = ap octet_at h.whole ∙ octet_is h.first h.behind

abbrev OctetFails : (ℕ → Type 0) → List ℕ → FileFault → Type 0
OctetFails Is octets e = FieldFails (octets ≡ []) (HasOctet Is octets) e

octet_tested : (test : ℕ → Bool) (Is : ℕ → Type 0) (octets : List ℕ) (e : FileFault)
    → AreOctets octets → ((n : ℕ) → test n ≡ true → Is n)
    → (octet_at octets >>= λ y. with_rest
    (cond (test y.0) (failed ℕ BadField) (answered ℕ y.0)) y.1) ≡ Err e
    → OctetFails Is octets e
octet_tested test Is octets e bytes found h =
    elim (tested_fails test (octet_at octets) e h) [
      | inl p ↦ let o = octet_fails octets e p in Ends o.0 o.1
      | inr t ↦ Says t.fault (record {
        first = t.read.0;
        behind = t.read.1;
        whole = octet_takes octets t.read bytes t.is;
        is = found t.read.0 t.found;
      })
    ]

-- ---- the payload type

pub type_fails : (octets : List ℕ) (e : FileFault) → AreOctets octets
    → payload_type_at octets ≡ Err e → OctetFails (λ type. 127 < type) octets e
unfolding payload_type_at
type_fails octets e bytes h =
    octet_tested (λ n. ltb 127 n) (λ n. 127 < n) octets e bytes (λ n t. ltb-true 127 n t) h

pub type_gone : (octets : List ℕ) → octets ≡ [] → payload_type_at octets ≡ Err Truncated
unfolding payload_type_at
type_gone octets none = ap (λ (r : Number). r >>= λ y. with_rest
    (cond (ltb 127 y.0) (failed ℕ BadField) (answered ℕ y.0)) y.1) (octet_gone octets none)

pub type_above : (octets : List ℕ) → HasOctet (λ type. 127 < type) octets
    → payload_type_at octets ≡ Err BadField
unfolding payload_type_at
type_above octets h =
    tested_finds (λ n. ltb 127 n) (octet_at octets) h.first h.behind
    (octet_begins octets (λ type. 127 < type) h) (lt-ltb 127 h.first h.is)

pub type_read : (octets : List ℕ) (x : ℕ × List ℕ) → payload_type_at octets ≡ Ok x → x.0 < 128
unfolding payload_type_at
type_read octets x h =
    let least : x.0 ≤ 127
    = ltb-false 127 x.0 (tested_clear (λ n. ltb 127 n) (octet_at octets) x h) in
    omega (arith, least)

-- ---- the flag

above_1 : (n : ℕ) → (n ≡ 0 → ⊥) → (n ≡ 1 → ⊥) → 1 < n
above_1 zero a b = absurd (a refl)
above_1 (suc zero) a b = absurd (b refl)
above_1 (suc (suc n)) a b = omega arith

flag_above : (n : ℕ) (e : FileFault) → flag_of n ≡ Err e → (BadField ≡ e) × (1 < n)
flag_above n e h =
    let other : Result Bool FileFault
    = cond (eqb n 1) (answered Bool true) (failed Bool BadField) in
    elim (chosen (eqb n 0) (answered Bool false) other (failed Bool e) h) [
      | inl w ↦ absurd (not_both Bool false e w.1)
      | inr w ↦
          elim (chosen (eqb n 1) (answered Bool true) (failed Bool BadField) (failed Bool e) w.1) [
            | inl u ↦ absurd (not_both Bool true e u.1)
            | inr u ↦ (
              same_fault Bool BadField e u.1,
              above_1 n (eqb-false n 0 w.0) (eqb-false n 1 u.0),
            )
          ]
    ]

pub flag_fails : (octets : List ℕ) (e : FileFault) → AreOctets octets → flag_at octets ≡ Err e
    → OctetFails (λ flag. 1 < flag) octets e
unfolding flag_at
flag_fails octets e bytes h =
    elim (split_fails (octet_at octets) (λ y. with_rest (flag_of y.0) y.1) e h) [
      | inl p ↦ let o = octet_fails octets e p in Ends o.0 o.1
      | inr a ↦
          elim (split_fails (flag_of a.first.0) (λ b. with_flag b a.first.1) e a.next) [
            | inl p ↦
                let f = flag_above a.first.0 e p in
                Says f.0 (record {
                  first = a.first.0;
                  behind = a.first.1;
                  whole = octet_takes octets a.first bytes a.is;
                  is = f.1;
                })
            | inr b ↦ absurd (not_both (Bool × List ℕ) (b.first, a.first.1) e b.next)
          ]
    ]

pub flag_gone : (octets : List ℕ) → octets ≡ [] → flag_at octets ≡ Err Truncated
unfolding flag_at
flag_gone octets none
    = ap (λ (r : Number). r >>= λ y. with_rest (flag_of y.0) y.1) (octet_gone octets none)

pub flag_other : (octets : List ℕ) → HasOctet (λ flag. 1 < flag) octets
    → flag_at octets ≡ Err BadField
unfolding flag_at
flag_other octets h =
    let n : ℕ = h.first in
    let above : 1 < n = h.is in
    let other : Result Bool FileFault
    = cond (eqb n 1) (answered Bool true) (failed Bool BadField) in
    ap (λ (r : Number). r >>= λ y. with_rest (flag_of y.0) y.1)
    (octet_begins octets (λ flag. 1 < flag) h)
    ∙ ap (λ (b : Bool). with_rest (cond b (answered Bool false) other) h.behind)
    (ne_eqb n 0 (λ (e : n ≡ 0). absurd (omega (arith, above, e))))
    ∙ ap (λ (b : Bool). with_rest (cond b (answered Bool true) (failed Bool BadField)) h.behind)
    (ne_eqb n 1 (λ (e : n ≡ 1). absurd (omega (arith, above, e))))

-- ---- the source

abbrev pub source_at : Bool → List ℕ → Result (Option ℕ × List ℕ) FileFault
source_at pinned octets = number_at octets >>= λ n. with_rest (ssrc_of pinned n.0) n.1

abbrev pub IsOther : Bool → List ℕ → Type 0
IsOther true octets = ⊥
IsOther false octets = HasNumber (λ ssrc. 0 < ssrc) octets

not_nought : (n : ℕ) → (n ≡ 0 → ⊥) → 0 < n
not_nought zero a = absurd (a refl)
not_nought (suc n) a = omega arith

other_fails : (pinned : Bool) (octets : List ℕ) (x : ℕ × List ℕ) (e : FileFault)
    → AreOctets octets → number_at octets ≡ Ok x → ssrc_of pinned x.0 ≡ Err e
    → (BadField ≡ e) × IsOther pinned octets
other_fails true octets x e bytes is h = absurd (not_both (Option ℕ) (Some x.0) e h)
other_fails false octets x e bytes is h =
    elim (chosen (eqb x.0 0) (answered (Option ℕ) None) (failed (Option ℕ) BadField)
    (failed (Option ℕ) e) h) [
      | inl w ↦ absurd (not_both (Option ℕ) None e w.1)
      | inr w ↦ (
        same_fault (Option ℕ) BadField e w.1,
        record {
          number = x.0;
          behind = x.1;
          fits = number_read octets x bytes is;
          whole = number_takes octets x bytes is;
          is = not_nought x.0 (eqb-false x.0 0 w.0);
        },
      )
    ]

pub source_fails : (pinned : Bool) (octets : List ℕ) (e : FileFault) → AreOctets octets
    → source_at pinned octets ≡ Err e → FieldFails (length octets < 4) (IsOther pinned octets) e
source_fails pinned octets e bytes h =
    elim (split_fails (number_at octets) (λ n. with_rest (ssrc_of pinned n.0) n.1) e h) [
      | inl p ↦ let n = number_fails octets e p in Ends n.0 n.1
      | inr a ↦
          elim (split_fails (ssrc_of pinned a.first.0) (λ s. with_source s a.first.1) e a.next) [
            | inl p ↦
                let o = other_fails pinned octets a.first e bytes a.is p in
                Says o.0 o.1
            | inr b ↦ absurd (not_both (Option ℕ × List ℕ) (b.first, a.first.1) e b.next)
          ]
    ]

pub source_short : (pinned : Bool) (octets : List ℕ) → length octets < 4
    → source_at pinned octets ≡ Err Truncated
source_short pinned octets lt
    = ap (λ (r : Number). r >>= λ n. with_rest (ssrc_of pinned n.0) n.1) (number_short octets lt)

pub source_other : (pinned : Bool) (octets : List ℕ) → IsOther pinned octets
    → source_at pinned octets ≡ Err BadField
source_other true octets h = absurd h
source_other false octets h =
    let some : 0 < h.number = h.is in
    ap (λ (r : Number). r >>= λ n. with_rest (ssrc_of false n.0) n.1)
    (number_begins octets (λ ssrc. 0 < ssrc) h)
    ∙ ap (λ (b : Bool). with_rest
    (cond b (answered (Option ℕ) None) (failed (Option ℕ) BadField)) h.behind)
    (ne_eqb h.number 0 (λ (e : h.number ≡ 0). absurd (omega (arith, some, e))))

source_fits : (pinned : Bool) (n : ℕ) (s : Option ℕ) → n < 2 ^ 32 → ssrc_of pinned n ≡ Ok s
    → SsrcFits s
source_fits true n s lt e =
    let same : Some n ≡ s = ap (λ (r : Result (Option ℕ) FileFault). given r s) e in
    subst SsrcFits same lt
source_fits false n s lt e =
    elim (chosen (eqb n 0) (answered (Option ℕ) None) (failed (Option ℕ) BadField) (Ok s) e) [
      | inl w ↦
          let same : None ≡ s = ap (λ (r : Result (Option ℕ) FileFault). given r s) w.1 in
          subst SsrcFits same tt
      | inr w ↦ absurd (not_both (Option ℕ) s BadField (sym w.1))
    ]

pub ssrc_read : (octets : List ℕ) (x : Option ℕ × List ℕ) → AreOctets octets → ssrc_at octets ≡ Ok x
    → SsrcFits x.0
unfolding ssrc_at
ssrc_read octets x bytes h =
    let a = split_then (flag_at octets) (λ y. source_at y.0 y.1) x h in
    let b
    = split_then (number_at a.first.1) (λ n. with_rest (ssrc_of a.first.0 n.0) n.1) x a.next in
    let c = split_then (ssrc_of a.first.0 b.first.0) (λ s. with_source s b.first.1) x b.next in
    let same : (c.first, b.first.1) ≡ x
    = ap (λ (r : Result (Option ℕ × List ℕ) FileFault). given r x) c.next in
    let second : AreOctets a.first.1
    = behind (flag_octet a.first.0 ∷ []) octets a.first.1 bytes
    (flag_takes octets a.first bytes a.is) in
    let fits : SsrcFits c.first = source_fits a.first.0 b.first.0 c.first
    (number_read a.first.1 b.first second b.is) c.is in
    subst (λ (p : Option ℕ × List ℕ). SsrcFits p.0) same fits

-- ---- the number of timestamps

abbrev is_no_count : ℕ → Bool
is_no_count n = eqb n 0 || ltb 16 n

no_count_by : (n : ℕ) (a b : Bool) → eqb n 0 ≡ a → ltb 16 n ≡ b → (a || b) ≡ true
    → (n ≡ 0) ⊎ (16 < n)
no_count_by n true b p q h = inl (eqb-true n 0 p)
no_count_by n false true p q h = inr (ltb-true 16 n q)
no_count_by n false false p q h = let bad : false ≡ true = h in absurd cc

or_true : (a : Bool) → (a || true) ≡ true
or_true true = refl
or_true false = refl

no_count_is : (n : ℕ) → (n ≡ 0) ⊎ (16 < n) → is_no_count n ≡ true
no_count_is n (inl e) = ap (λ (b : Bool). b || ltb 16 n) (eq-eqb n 0 e)
no_count_is n (inr lt) = ap (λ (b : Bool). eqb n 0 || b) (lt-ltb 16 n lt) ∙ or_true (eqb n 0)

pub count_fails : (octets : List ℕ) (e : FileFault) → AreOctets octets → count_at octets ≡ Err e
    → OctetFails (λ count. (count ≡ 0) ⊎ (16 < count)) octets e
unfolding count_at
count_fails octets e bytes h =
    octet_tested is_no_count (λ n. (n ≡ 0) ⊎ (16 < n)) octets e bytes
    (λ n t. no_count_by n (eqb n 0) (ltb 16 n) refl refl t) h

pub count_gone : (octets : List ℕ) → octets ≡ [] → count_at octets ≡ Err Truncated
unfolding count_at
count_gone octets none = ap (λ (r : Number). r >>= λ y. with_rest
    (cond (is_no_count y.0) (failed ℕ BadField) (answered ℕ y.0)) y.1) (octet_gone octets none)

pub count_other : (octets : List ℕ) → HasOctet (λ count. (count ≡ 0) ⊎ (16 < count)) octets
    → count_at octets ≡ Err BadField
unfolding count_at
count_other octets h =
    tested_finds is_no_count (octet_at octets) h.first h.behind
    (octet_begins octets (λ count. (count ≡ 0) ⊎ (16 < count)) h) (no_count_is h.first h.is)

count_read : (octets : List ℕ) (x : ℕ × List ℕ) → count_at octets ≡ Ok x → IsWindowSize x.0
unfolding count_at
count_read octets x h =
    let p = or_parts (eqb x.0 0) (ltb 16 x.0) (tested_clear is_no_count (octet_at octets) x h) in
    record { some = not_nought x.0 (eqb-false x.0 0 p.0); most = ltb-false 16 x.0 p.1 }

-- ---- all of them

pub head_read : (octets : List ℕ) (x : Head × List ℕ) → AreOctets octets → head_at octets ≡ Ok x
    → IsStateHead x.0
unfolding head_at
head_read octets x bytes h =
    let a
    = split_then (payload_type_at octets)
    (λ p. ssrc_at p.1 >>= λ s. count_at s.1 >>= λ n. with_head p.0 s.0 n.0 n.1) x h in
    let b
    = split_then (ssrc_at a.first.1)
    (λ s. count_at s.1 >>= λ n. with_head a.first.0 s.0 n.0 n.1) x a.next in
    let c = split_then (count_at b.first.1) (λ n. with_head a.first.0 b.first.0 n.0 n.1) x b.next in
    let made : Head = record { payload_type = a.first.0; ssrc = b.first.0; count = c.first.0 } in
    let same : (made, c.first.1) ≡ x
    = ap (λ (r : Result (Head × List ℕ) FileFault). given r x) c.next in
    let second : AreOctets a.first.1
    = behind (a.first.0 ∷ []) octets a.first.1 bytes (type_takes octets a.first bytes a.is) in
    let is : IsStateHead made = record {
      payload_type = type_read octets a.first a.is;
      ssrc = ssrc_read a.first.1 b.first second b.is;
      count = count_read b.first.1 c.first c.is;
    } in
    subst (λ (p : Head × List ℕ). IsStateHead p.0) same is
