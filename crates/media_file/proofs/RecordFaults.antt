-- Records: each fault is read exactly where its condition holds.
use Rattle.std.proofs.Common.{◌≡◌, ℕ, zero, suc, ◌+◌, ◌-◌, ◌<◌, ◌≤◌, Bool, cond, eqb, ltb, List, []}
use Rattle.std.proofs.Common.{◌∷◌, ◌++◌, length, take, drop, Option, None, Some, Result, Ok, Err}
use Rattle.std.proofs.Common.{append_assoc, refl, sym, ap, ◌∙◌, subst, inl, inr, arith}
use Rattle.std.specs.Int.{w16, w64, from_be_bytes}
use Rattle.std.proofs.lemmas.Bool.{cases_lt, lt-ltb, le-ltb, ltb-true, ltb-false, ne_eqb}
use Rattle.std.proofs.lemmas.List.{drop-take, length-drop, take-take}
use Rattle.st_format.specs.Device.{AreOctets}
use Rattle.st_format.specs.declared.path.Path.{Path}
use Rattle.st_format.specs.declared.path.Path.TheVariants.{A, B}
use Rattle.media_file.specs.declared.fault.FileFault.{FileFault}
use Rattle.media_file.specs.declared.fault.FileFault.TheVariants.{NoMemory, Device, BadName}
use Rattle.media_file.specs.declared.fault.FileFault.TheVariants.{BadVersion, Truncated, BadField}
use Rattle.media_file.specs.declared.fault.FileFault.TheVariants.{TrailingBytes, MixedGroup}
use Rattle.media_file.specs.declared.fault.FileFault.TheVariants.{TooManyRecords}
use Rattle.media_file.specs.declared.record.RecordHead.{RecordHead}
use Rattle.media_file.specs.Capture.{records_at}
use Rattle.media_file.specs.CaptureFaults.{HasBadPath, IsCutRecord, IsRecordFault, count_in}
use Rattle.media_file.specs.CaptureFaults.IsCutRecord.{Head, Octets}
use Rattle.st_format.specs.Reading.{◌>>=◌}
use Rattle.media_file.specs.Reading.{fault_at, fault_by, head_at, head_by, octets_at, path_of}
use Rattle.media_file.specs.Reading.{rest_at}
use Rattle.media_file.specs.Records.{AllFit, Entry, Fits, entry_of, path_octet, record_text}
use Rattle.media_file.specs.Records.{records_text, rest_text}
use Rattle.media_file.proofs.Entries.{chosen, rest_again}
use Rattle.media_file.proofs.Failing.{answered, not_both, same_fault, split_fails}
use Rattle.media_file.proofs.Found.{failed}
use Rattle.media_file.proofs.Splits.{AreOctets-back, AreOctets-tail, rest_takes}

abbrev One : Type 0
One = Entry × List ℕ

abbrev Many : Type 0
Many = List Entry × List ℕ

-- ---- heads

path_bad : (first : ℕ) → 1 < first → path_of first ≡ Err BadField
path_bad first lt =
    ap (λ (b : Bool). cond b (answered Path A)
    (cond (eqb first 1) (answered Path B) (failed Path BadField)))
    (ne_eqb first 0 (λ p. omega arith))
    ∙ ap (λ (b : Bool). cond b (answered Path B) (failed Path BadField))
    (ne_eqb first 1 (λ p. omega arith))

record IsPath (first : ℕ) : Type 0 where
  path : Path
  is : path_of first ≡ answered Path path

path_good : (first : ℕ) → first ≤ 1 → IsPath first
path_good zero le = record { path = A; is = refl }
path_good (suc zero) le = record { path = B; is = refl }
path_good (suc (suc n)) le = absurd (omega arith)

-- a first octet and ten more: a head with its count, or no path
data HeadCase (first : ℕ) (octets : List ℕ) : Type 0 where
  Good : (h : RecordHead) → first ≤ 1 → head_at first octets ≡ answered RecordHead h
      → h.length ≡ from_be_bytes w16 (take 2 (drop 8 octets)) → HeadCase first octets
  NoPath : 1 < first → head_at first octets ≡ failed RecordHead BadField → HeadCase first octets

abbrev made : Path → List ℕ → RecordHead
made path octets
    = record {
      path = path;
      moment = from_be_bytes w64 (take 8 octets);
      length = from_be_bytes w16 (take 2 (drop 8 octets));
    }

head_case : (first : ℕ) (octets : List ℕ) → HeadCase first octets
head_case first octets =
    elim (cases_lt 1 first) [
      | inl lt ↦ NoPath lt
          (ap (λ (p : Result Path FileFault). head_by p octets) (path_bad first lt))
      | inr le ↦ let p = path_good first le in
          Good (made p.path octets) le (ap (λ (r : Result Path FileFault). head_by r octets) p.is)
          refl
    ]

-- the count of a head, from its first octet on
count_is : (first : ℕ) (octets : List ℕ)
    → from_be_bytes w16 (take 2 (drop 8 (take 10 octets))) ≡ count_in (first ∷ octets)
count_is first octets =
    let cut : drop 8 (take 10 octets) ≡ take 2 (drop 8 octets) = drop-take 8 2 octets in
    let twice : take 2 (take 2 (drop 8 octets)) ≡ take 2 (drop 8 octets)
    = take-take 2 2 (drop 8 octets) (omega arith) in
    ap (λ (t : List ℕ). from_be_bytes w16 (take 2 t)) cut
    ∙ ap (λ (t : List ℕ). from_be_bytes w16 t) twice

cut_short : (l d n m : ℕ) → d ≡ l - 10 → 10 ≤ l → d < n → n ≡ m → suc l < 11 + m
cut_short l d n m p q r s = omega arith

short_cut : (l d n m : ℕ) → d ≡ l - 10 → n ≡ m → 11 ≤ suc l → suc l < 11 + m → d < n
short_cut l d n m p s q r = omega arith

-- ---- what is read of a record has the fault

record_by : (first : ℕ) (octets : List ℕ) (e : FileFault) → 10 ≤ length octets
    → HeadCase first (take 10 octets)
    → octets_at (head_at first (take 10 octets)) (drop 10 octets) ≡ Err e
    → IsRecordFault e (first ∷ octets)
record_by first octets e long (NoPath lt is) h =
    let bad : failed One BadField ≡ failed One e
    = sym (ap (λ (r : Result RecordHead FileFault). octets_at r (drop 10 octets)) is) ∙ h in
    let wrong : HasBadPath (first ∷ octets) = record { head = omega arith; path = lt } in
    subst (λ (k : FileFault). IsRecordFault k (first ∷ octets)) (same_fault One BadField e bad)
    wrong
record_by first octets e long (Good hd le is count) h =
    let d : List ℕ = drop 10 octets in
    let cut : octets_at (answered RecordHead hd) d ≡ failed One e
    = sym (ap (λ (r : Result RecordHead FileFault). octets_at r d) is) ∙ h in
    elim (chosen (ltb (length d) hd.length) (failed One Truncated)
    (answered One (entry_of hd d, drop hd.length d)) (failed One e) cut) [
      | inl w ↦
          let few : length d < hd.length = ltb-true (length d) hd.length w.0 in
          let wrong : IsCutRecord (first ∷ octets)
          = Octets (omega arith) le
          (cut_short (length octets) (length d) hd.length (count_in (first ∷ octets))
          (length-drop 10 octets) long few (count ∙ count_is first octets)) in
          subst (λ (k : FileFault). IsRecordFault k (first ∷ octets))
          (same_fault One Truncated e w.1)
          wrong
      | inr w ↦ absurd (not_both One (entry_of hd d, drop hd.length d) e w.1)
    ]

pub record_fails : (first : ℕ) (octets : List ℕ) (e : FileFault) → rest_at first octets ≡ Err e
    → IsRecordFault e (first ∷ octets)
unfolding rest_at
record_fails first octets e h =
    elim (chosen (ltb (length octets) 10) (failed One Truncated)
    (octets_at (head_at first (take 10 octets)) (drop 10 octets)) (failed One e) h) [
      | inl w ↦
          let lt : length octets < 10 = ltb-true (length octets) 10 w.0 in
          let wrong : IsCutRecord (first ∷ octets) = Head (omega arith) (omega arith) in
          subst (λ (k : FileFault). IsRecordFault k (first ∷ octets))
          (same_fault One Truncated e w.1)
          wrong
      | inr w ↦ record_by first octets e (ltb-false (length octets) 10 w.0)
          (head_case first (take 10 octets)) w.1
    ]

-- ---- what has the fault is read so

-- no fault stands at the end
pub fault_needs : (e : FileFault) → IsRecordFault e [] → ⊥
fault_needs Truncated (Head more lt) = omega arith
fault_needs Truncated (Octets long le short) = omega arith
fault_needs BadField h = let long : 11 ≤ length {A = ℕ} [] = h.head in omega arith
fault_needs NoMemory h = h
fault_needs Device h = h
fault_needs BadName h = h
fault_needs BadVersion h = h
fault_needs TrailingBytes h = h
fault_needs MixedGroup h = h
fault_needs TooManyRecords h = h

abbrev from_head : ℕ → List ℕ → Result (Entry × List ℕ) FileFault
from_head first octets = octets_at (head_at first (take 10 octets)) (drop 10 octets)

whole_head : (first : ℕ) (octets : List ℕ) → 11 ≤ suc (length octets)
    → rest_at first octets ≡ from_head first octets
unfolding rest_at
whole_head first octets long
    = ap (λ (b : Bool). cond b (failed One Truncated) (from_head first octets))
    (le-ltb (length octets) 10 (omega arith))

cut_head : (first : ℕ) (octets : List ℕ) → suc (length octets) < 11
    → rest_at first octets ≡ Err Truncated
unfolding rest_at
cut_head first octets short
    = ap (λ (b : Bool). cond b (failed One Truncated) (from_head first octets))
    (lt-ltb (length octets) 10 (omega arith))

path_tells : (first : ℕ) (octets : List ℕ) → 1 < first → HeadCase first (take 10 octets)
    → from_head first octets ≡ Err BadField
path_tells first octets lt (Good hd le is count) = absurd (omega arith)
path_tells first octets lt (NoPath more is)
    = ap (λ (r : Result RecordHead FileFault). octets_at r (drop 10 octets)) is

octets_tell : (first : ℕ) (octets : List ℕ) → first ≤ 1 → 11 ≤ suc (length octets)
    → suc (length octets) < 11 + count_in (first ∷ octets) → HeadCase first (take 10 octets)
    → from_head first octets ≡ Err Truncated
octets_tell first octets le long short (NoPath lt is) = absurd (omega arith)
octets_tell first octets le long short (Good hd most is count) =
    let d : List ℕ = drop 10 octets in
    let few : length d < hd.length
    = short_cut (length octets) (length d) hd.length (count_in (first ∷ octets))
    (length-drop 10 octets) (count ∙ count_is first octets) long short in
    ap (λ (r : Result RecordHead FileFault). octets_at r d) is
    ∙ ap (λ (b : Bool). cond b (failed One Truncated)
    (answered One (entry_of hd d, drop hd.length d))) (lt-ltb (length d) hd.length few)

pub record_tells : (e : FileFault) (first : ℕ) (octets : List ℕ) → IsRecordFault e (first ∷ octets)
    → rest_at first octets ≡ Err e
record_tells Truncated first octets (Head more lt) = cut_head first octets lt
record_tells Truncated first octets (Octets long le short)
    = whole_head first octets long
    ∙ octets_tell first octets le long short (head_case first (take 10 octets))
record_tells BadField first octets h
    = whole_head first octets h.head
    ∙ path_tells first octets h.path (head_case first (take 10 octets))
record_tells NoMemory first octets h = absurd h
record_tells Device first octets h = absurd h
record_tells BadName first octets h = absurd h
record_tells BadVersion first octets h = absurd h
record_tells TrailingBytes first octets h = absurd h
record_tells MixedGroup first octets h = absurd h
record_tells TooManyRecords first octets h = absurd h

-- ---- the fault at the front of octets

abbrev some_fault : FileFault → Option FileFault
some_fault f = Some f

abbrev no_fault : Option FileFault
no_fault = None

fault_of : (first : ℕ) (octets : List ℕ) (e : FileFault) (r : Result (Entry × List ℕ) FileFault)
    → rest_at first octets ≡ r → fault_by r ≡ Some e → IsRecordFault e (first ∷ octets)
fault_of first octets e (Ok x) is h = let bad : no_fault ≡ some_fault e = h in absurd cc
fault_of first octets e (Err f) is h =
    let same : some_fault f ≡ some_fault e = h in
    let eq : f ≡ e = cc in
    record_fails first octets e (is ∙ ap (failed One) eq)

pub front_fails : (e : FileFault) (octets : List ℕ) → fault_at octets ≡ Some e
    → IsRecordFault e octets
unfolding fault_at
front_fails e [] h = let bad : no_fault ≡ some_fault e = h in absurd cc
front_fails e (first ∷ octets) h = fault_of first octets e (rest_at first octets) refl h

pub front_tells : (e : FileFault) (octets : List ℕ) → IsRecordFault e octets
    → fault_at octets ≡ Some e
unfolding fault_at
front_tells e [] h = absurd (fault_needs e h)
front_tells e (first ∷ octets) h = ap fault_by (record_tells e first octets h)

-- ---- records up to a fault

abbrev more : Entry → List Entry × List ℕ → Result (List Entry × List ℕ) FileFault
more e z = Ok (e ∷ z.0, z.1)

abbrev and_more : ℕ → Entry × List ℕ → Result (List Entry × List ℕ) FileFault
and_more limit x = records_at limit x.1 >>= more x.0

-- the limit is reached, or a record has a fault
pub data IsStop (limit : ℕ) (e : FileFault) (entries : List Entry) (behind : List ℕ) : Type 0 where
  Full : TooManyRecords ≡ e → length entries ≡ limit → 0 < length behind
      → IsStop limit e entries behind
  Wrong : length entries < limit → IsRecordFault e behind → IsStop limit e entries behind

pub record Stops (limit : ℕ) (e : FileFault) (octets : List ℕ) : Type 0 where
  pub entries : List Entry
  pub behind : List ℕ
  pub fit : AllFit entries
  pub whole : octets ≡ records_text entries ++ behind
  pub stop : IsStop limit e entries behind

stop_more : (limit : ℕ) (e : FileFault) (x : Entry) (entries : List Entry) (behind : List ℕ)
    → IsStop limit e entries behind → IsStop (suc limit) e (x ∷ entries) behind
stop_more limit e x entries behind (Full is full left) = Full is (ap suc full) left
stop_more limit e x entries behind (Wrong few wrong) = Wrong (omega arith) wrong

pub records_fail : (limit : ℕ) (octets : List ℕ) (e : FileFault) → AreOctets octets
    → records_at limit octets ≡ Err e → Stops limit e octets
unfolding records_at
records_fail zero [] e bytes h = absurd (not_both Many ([], []) e h)
records_fail zero (first ∷ octets) e bytes h
    = record {
      entries = [];
      behind = first ∷ octets;
      fit = tt;
      whole = refl;
      stop = Full (same_fault Many TooManyRecords e h) refl (omega arith);
    }
records_fail (suc limit) [] e bytes h = absurd (not_both Many ([], []) e h)
records_fail (suc limit) (first ∷ octets) e bytes h =
    elim (split_fails (rest_at first octets) (and_more limit) e h) [
      | inl p ↦ record {
        entries = [];
        behind = first ∷ octets;
        fit = tt;
        whole = refl;
        stop = Wrong (omega arith) (record_fails first octets e p);
      }
      | inr t ↦
          let k = rest_takes first octets t.first (AreOctets-tail first octets bytes) t.is in
          let left : AreOctets t.first.1
          = AreOctets-back (rest_text t.first.0) t.first.1
          (subst AreOctets k.text (AreOctets-tail first octets bytes)) in
          elim (split_fails (records_at limit t.first.1) (more t.first.0) e t.next) [
            | inl p ↦
                let s = records_fail limit t.first.1 e left p in
                record {
                  entries = t.first.0 ∷ s.entries;
                  behind = s.behind;
                  fit = (k.fits, s.fit);
                  whole = ap (λ (n : ℕ). n ∷ octets) k.first_is
                      ∙ ap (λ (o : List ℕ). path_octet t.first.0.path ∷ o) (k.text
                      ∙ ap (λ (o : List ℕ). rest_text t.first.0 ++ o) s.whole)
                      ∙ sym (append_assoc (record_text t.first.0) (records_text s.entries)
                      s.behind);
                  stop = stop_more limit e t.first.0 s.entries s.behind s.stop;
                }
            | inr u ↦ absurd (not_both Many (t.first.0 ∷ u.first.0, u.first.1) e u.next)
          ]
    ]

records_on : (limit : ℕ) (x : Entry) (entries : List Entry) (behind : List ℕ) (e : FileFault)
    → Fits x → records_at limit (records_text entries ++ behind) ≡ Err e
    → records_at (suc limit) (records_text (x ∷ entries) ++ behind) ≡ Err e
unfolding records_at
records_on limit x entries behind e fits h =
    ap (records_at (suc limit)) (append_assoc (record_text x) (records_text entries) behind)
    ∙ ap (λ (r : Result (Entry × List ℕ) FileFault). r >>= and_more limit)
    (rest_again x (records_text entries ++ behind) fits)
    ∙ ap (λ (r : Result (List Entry × List ℕ) FileFault). r >>= more x) h

pub full_tells : (limit : ℕ) (entries : List Entry) (behind : List ℕ) → AllFit entries
    → length entries ≡ limit → 0 < length behind
    → records_at limit (records_text entries ++ behind) ≡ Err TooManyRecords
unfolding records_at
full_tells zero [] [] fit full left = absurd (omega arith)
full_tells zero [] (first ∷ octets) fit full left = refl
full_tells (suc limit) [] behind fit full left = absurd (omega arith)
full_tells zero (x ∷ entries) behind fit full left = absurd (omega arith)
full_tells (suc limit) (x ∷ entries) behind fit full left
    = records_on limit x entries behind TooManyRecords fit.0
    (full_tells limit entries behind fit.1 (omega arith) left)

pub wrong_tells : (limit : ℕ) (entries : List Entry) (behind : List ℕ) (e : FileFault)
    → AllFit entries → length entries < limit → IsRecordFault e behind
    → records_at limit (records_text entries ++ behind) ≡ Err e
unfolding records_at
wrong_tells zero entries behind e fit few wrong = absurd (omega arith)
wrong_tells (suc limit) [] [] e fit few wrong = absurd (fault_needs e wrong)
wrong_tells (suc limit) [] (first ∷ octets) e fit few wrong
    = ap (λ (r : Result (Entry × List ℕ) FileFault). r >>= and_more limit)
    (record_tells e first octets wrong)
wrong_tells (suc limit) (x ∷ entries) behind e fit few wrong
    = records_on limit x entries behind e fit.0
    (wrong_tells limit entries behind e fit.1 (omega arith) wrong)
