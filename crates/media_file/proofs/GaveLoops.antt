-- A loop that reads records up to the end, by what the source gave: at each moment what it is by
-- what a source was to give, whatever is behind.
use Rattle.std.proofs.Common.{◌≡◌, ℕ, ◌-◌, ◌<◌, ◌≤◌, ◌⊎◌, inl, inr, Bool, cond, List, []}
use Rattle.std.proofs.Common.{◌∷◌, ◌++◌, length, take, drop, Option, None, Some, Result, Ok, Err}
use Rattle.std.proofs.Common.{append_assoc, append-nil, refl, sym, ap, ◌∙◌, subst}
use Rattle.std.proofs.lemmas.Bool.{cases_lt, lt-ltb, le-ltb}
use Rattle.std.proofs.lemmas.List.{length-take-le, take-append-drop}
use Rattle.media_file.specs.declared.fault.FileFault.{FileFault}
use Rattle.media_file.specs.declared.fault.FileFault.TheVariants.{NoMemory, Device, Truncated}
use Rattle.media_file.specs.declared.fault.FileFault.TheVariants.{BadField, TooManyRecords}
use Rattle.media_file.specs.declared.record.RecordHead.{RecordHead}
use Rattle.media_file.specs.Capture.{records_at}
use Rattle.media_file.specs.Faults.{IfContent, IsDevice}
use Rattle.media_file.specs.Fields.{Fails, GaveFault}
use Rattle.st_format.specs.Given.{GaveWhole, Takes}
use Rattle.media_file.specs.Given.{GivesWrong}
use Rattle.media_file.specs.Reading.{fault_at, fault_by, head_at, octets_at, rest_at}
use Rattle.media_file.specs.Records.{Entry, Fits, entry_of, path_octet, rest_text}
use Rattle.media_file.specs.Source.{FailsRest, IsOfRecord}
use Rattle.media_file.proofs.Content.{of_device}
use Rattle.media_file.proofs.Loops.{GoesOn, Many, goes_on_end, goes_on_fault, goes_on_many}
use Rattle.media_file.proofs.Loops.{goes_on_more, one_less, with_front}
use Rattle.media_file.proofs.Rests.{behind_head, short_head}
use Rattle.st_format.proofs.Gave.{grew_twice}

-- ---- a record that is none

cut_only : (f : FileFault) (r : Result (Entry × List ℕ) FileFault) → r ≡ Err Truncated
    → r ≡ Err f → f ≡ Truncated
cut_only f r is bad = cc

never_bad : (f : FileFault) (r : Result (Entry × List ℕ) FileFault) (x : Entry × List ℕ)
    → r ≡ Ok x → r ≡ Err f → ⊥
never_bad f r x is bad = cc

-- the octets that a head says are there, or they are cut
octets_fail : (h : RecordHead) (more : List ℕ) (f : FileFault) → octets_at (Ok h) more ≡ Err f
    → f ≡ Truncated
octets_fail h more f bad = by (cases_lt (length more) h.length)
  where
    cut : Result (Entry × List ℕ) FileFault
    cut = Err Truncated

    all : Result (Entry × List ℕ) FileFault
    all = Ok (entry_of h more, drop h.length more)

    by : (length more < h.length) ⊎ (h.length ≤ length more) → f ≡ Truncated
    by (inl lt) =
        cut_only f (octets_at (Ok h) more)
        (ap (λ (b : Bool). cond b cut all) (lt-ltb (length more) h.length lt)) bad
    by (inr le) =
        absurd (never_bad f (octets_at (Ok h) more) (entry_of h more, drop h.length more)
        (ap (λ (b : Bool). cond b cut all) (le-ltb (length more) h.length le)) bad)

-- what is no head is none with more behind it
wider_head : (first : ℕ) (head more behind : List ℕ) (f : FileFault) → length head ≡ 10
    → rest_at first (head ++ more) ≡ Err f → (f ≡ Truncated → ⊥)
    → rest_at first (head ++ (more ++ behind)) ≡ Err f
wider_head first head more behind f ten bad not =
    behind_head first head (more ++ behind) ten
    ∙ by (head_at first head) (sym (behind_head first head more ten) ∙ bad)
  where
    by : (h : Result RecordHead FileFault) → octets_at h more ≡ Err f
        → octets_at h (more ++ behind) ≡ Err f
    by (Err e) is = is
    by (Ok h) is = absurd (not (octets_fail h more f is))

rest_wider : (first : ℕ) (part behind : List ℕ) (f : FileFault) → rest_at first part ≡ Err f
    → (f ≡ Truncated → ⊥) → rest_at first (part ++ behind) ≡ Err f
rest_wider first part behind f bad not = by (cases_lt (length part) 10)
  where
    by : (length part < 10) ⊎ (10 ≤ length part) → rest_at first (part ++ behind) ≡ Err f
    by (inl lt) =
        absurd (not (cut_only f (rest_at first part) (short_head first part lt) bad))
    by (inr le) =
        let split : take 10 part ++ drop 10 part ≡ part = take-append-drop 10 part in
        sym (ap (λ (l : List ℕ). rest_at first l)
        (sym (append_assoc (take 10 part) (drop 10 part) behind)
        ∙ ap (λ (l : List ℕ). l ++ behind) split))
        ∙ wider_head first (take 10 part) (drop 10 part) behind f (length-take-le 10 part le)
        (ap (rest_at first) split ∙ bad) not

-- A record that was wrong is so whatever is behind it; and where it was cut, nothing is.
pub rest_fails : (f : FileFault) (first : ℕ) (part behind : List ℕ) (fault : FileFault)
    (ended : Type 0) → IsOfRecord f → rest_at first part ≡ Err fault → IfContent f (fault ≡ f)
    → (f ≡ Truncated → ended) → (ended → behind ≡ [])
    → FailsRest f first (Some (part ++ behind))
rest_fails Device first part behind fault ended named bad told cut all =
    record { named = named; content = tt }
rest_fails Truncated first part behind fault ended named bad told cut all =
    let same : part ++ behind ≡ part =
    ap (λ (l : List ℕ). part ++ l) (all (cut refl)) ∙ append-nil part in
    record {
      named = named;
      content =
          ap (rest_at first) same ∙ bad
          ∙ ap (λ (e : FileFault). let r : Result (Entry × List ℕ) FileFault = Err e in r) told;
    }
rest_fails BadField first part behind fault ended named bad told cut all =
    record {
      named = named;
      content =
          rest_wider first part behind BadField
          (bad
          ∙ ap (λ (e : FileFault). let r : Result (Entry × List ℕ) FileFault = Err e in r) told)
          (λ same. other same);
    }
  where
    other : BadField ≡ Truncated → ⊥
    other same = cc
rest_fails f first part behind fault ended named bad told cut all = absurd named

-- ---- the loop

-- what is left to read completes what was read, whatever is behind what the source gave
pub record GoesGave (limit : ℕ) (before : List ℕ) (left : ℕ) (so_far : List Entry)
    (now : List ℕ) : Type 0 where
  pub part : List ℕ
  pub grown : now ≡ before ++ part
  pub goes : (behind : List ℕ) → GoesOn limit (Some (part ++ behind)) left so_far (Some behind)

no_front : (r : Many) → r ≡ with_front [] r
no_front (Ok x) = refl
no_front (Err f) = refl

pub goes_first : (limit : ℕ) (known : Option (List ℕ)) → GoesOn limit known limit [] known
goes_first limit None = tt
goes_first limit (Some o) = no_front (records_at limit o)

pub gave_first : (limit : ℕ) (now : List ℕ) → GoesGave limit now limit [] now
gave_first limit now = record {
  part = [];
  grown = sym (append-nil now);
  goes = λ behind. no_front (records_at limit behind);
}

-- a record more
pub gave_record : (limit left : ℕ) (before now mid new : List ℕ) (so_far : List Entry)
    (first : ℕ) (e : Entry) → (left ≡ 0 → ⊥) → GoesGave limit before left so_far now
    → mid ≡ now ++ first ∷ [] → new ≡ mid ++ rest_text e → Fits e → first ≡ path_octet e.path
    → GoesGave limit before (left - 1) (so_far ++ e ∷ []) new
gave_record limit left before now mid new so_far first e some g one more fits is =
    let text : List ℕ = first ∷ rest_text e in
    record {
      part = g.part ++ text;
      grown =
          grew_twice before now new g.part text g.grown
          (grew_twice now mid new (first ∷ []) (rest_text e) one more);
      goes = λ behind.
          let all : List ℕ = rest_text e ++ behind in
          subst (λ (o : List ℕ). GoesOn limit (Some o) (left - 1) (so_far ++ e ∷ [])
          (Some behind)) (sym (append_assoc g.part text behind))
          (goes_on_more limit (left - 1) (Some (g.part ++ (first ∷ all))) (Some (first ∷ all))
          (Some all) (Some behind) so_far first e
          (one_less limit left (Some (g.part ++ (first ∷ all))) (Some (first ∷ all)) so_far some
          (g.goes (first ∷ all))) refl
          (record { fits = fits; first_is = is; given = refl }));
    }

-- the end
pub gave_end : (limit left : ℕ) (before now new : List ℕ) (so_far : List Entry) (ended : Type 0)
    → GoesGave limit before left so_far now → new ≡ now ++ [] → ended
    → GaveWhole (records_at limit) before new ended so_far
gave_end limit left before now new so_far ended g same over = record {
  part = g.part;
  grown = same ∙ append-nil now ∙ g.grown;
  over = over;
  says =
      subst (λ (o : List ℕ). Takes (records_at limit) (Some o) (Some []) so_far)
      (append-nil g.part)
      (goes_on_end limit left (Some (g.part ++ [])) (Some []) (Some []) so_far (g.goes []) refl
      refl);
}

-- a record too many
pub gave_many : (limit : ℕ) (before now new : List ℕ) (so_far : List Entry) (first : ℕ)
    (ended : Type 0) → GoesGave limit before 0 so_far now → new ≡ now ++ first ∷ []
    → GaveFault (records_at limit) before new ended TooManyRecords
gave_many limit before now new so_far first ended g one = record {
  part = g.part ++ first ∷ [];
  grown = grew_twice before now new g.part (first ∷ []) g.grown one;
  says = λ behind all.
      subst (λ (o : List ℕ). Fails (records_at limit) (Some o) TooManyRecords)
      (sym (append_assoc g.part (first ∷ []) behind))
      (goes_on_many limit (Some (g.part ++ (first ∷ behind))) (Some (first ∷ behind))
      (Some behind) so_far first (g.goes (first ∷ behind)) refl);
}

-- a fault of the record that begins
pub gave_wrong : (limit left : ℕ) (before now mid new : List ℕ) (so_far : List Entry) (first : ℕ)
    (f : FileFault) (was to_give : Option (List ℕ)) (ended : Type 0) → (left ≡ 0 → ⊥)
    → GoesGave limit before left so_far now → mid ≡ now ++ first ∷ [] → IsOfRecord f
    → GivesWrong (rest_at first) f was to_give mid new → (f ≡ Truncated → ended)
    → GaveFault (records_at limit) before new ended f
gave_wrong limit left before now mid new so_far first f was to_give ended some g one named w cut =
    let text : List ℕ = first ∷ w.part in
    record {
      part = g.part ++ text;
      grown =
          grew_twice before now new g.part text g.grown
          (grew_twice now mid new (first ∷ []) w.part one w.grown);
      says = λ behind all.
          let rest : List ℕ = w.part ++ behind in
          subst (λ (o : List ℕ). Fails (records_at limit) (Some o) f)
          (sym (append_assoc g.part text behind))
          (goes_on_fault limit (left - 1) (Some (g.part ++ (first ∷ rest))) (Some (first ∷ rest))
          (Some rest) so_far first f
          (one_less limit left (Some (g.part ++ (first ∷ rest))) (Some (first ∷ rest)) so_far some
          (g.goes (first ∷ rest))) refl
          (rest_fails f first w.part behind w.fault ended named w.none w.told cut all));
    }

-- ---- the memory failed

pub fails_memory : {X : Type 0} (r : List ℕ → Result (X × List ℕ) FileFault)
    (known : Option (List ℕ)) → Fails r known NoMemory
fails_memory r None = tt
fails_memory r (Some o) = tt

-- the device failed
pub fails_device : {X : Type 0} (r : List ℕ → Result (X × List ℕ) FileFault)
    (known : Option (List ℕ)) (f : FileFault) → IsDevice f → Fails r known f
fails_device r None f device = tt
fails_device r (Some o) f device = of_device f (r o ≡ Err f) device

pub fault_memory : {X : Type 0} (r : List ℕ → Result (X × List ℕ) FileFault)
    (before now part : List ℕ) (ended : Type 0) → now ≡ before ++ part
    → GaveFault r before now ended NoMemory
fault_memory r before now part ended grown = record {
  part = part;
  grown = grown;
  says = λ behind all. tt;
}

-- the memory was refused for a record that was given
pub no_record : (limit left : ℕ) (before now mid new : List ℕ) (so_far : List Entry)
    (first rest : List ℕ) (ended : Type 0) → GoesGave limit before left so_far now
    → mid ≡ now ++ first → new ≡ mid ++ rest → GaveFault (records_at limit) before new ended NoMemory
no_record limit left before now mid new so_far first rest ended g begun given =
    fault_memory (records_at limit) before new ((g.part ++ first) ++ rest) ended
    (grew_twice before mid new (g.part ++ first) rest
    (grew_twice before now mid g.part first g.grown begun) given)

-- ---- what is wrong at the front of octets

pub by_fault : (f : FileFault) (r : Result (Entry × List ℕ) FileFault) → fault_by r ≡ Some f
    → r ≡ Err f
by_fault f (Ok x) is = cc
by_fault f (Err e) is = cc

wrong_front : (f : FileFault) (part behind : List ℕ) → fault_at part ≡ Some f
    → ((first : ℕ) (rest : List ℕ) → rest_at first rest ≡ Err f
    → rest_at first (rest ++ behind) ≡ Err f) → fault_at (part ++ behind) ≡ Some f
unfolding fault_at
wrong_front f [] behind told step = absurd (none (fault_at []) refl told)
  where
    none : (r : Option FileFault) → r ≡ None → r ≡ Some f → ⊥
    none r is other = cc
wrong_front f (first ∷ rest) behind told step =
    ap fault_by (step first rest (by_fault f (rest_at first rest) told))

-- It is so whatever is behind them; and where they are cut, nothing is.
pub front_fails : (f : FileFault) (part behind : List ℕ) (ended : Type 0) → IsOfRecord f
    → IfContent f (fault_at part ≡ Some f) → (f ≡ Truncated → ended) → (ended → behind ≡ [])
    → IfContent f (fault_at (part ++ behind) ≡ Some f)
front_fails Device part behind ended named told cut all = tt
front_fails Truncated part behind ended named told cut all =
    wrong_front Truncated part behind told
    (λ first rest bad. (rest_fails Truncated first rest behind Truncated ended named bad refl cut
    all).content)
front_fails BadField part behind ended named told cut all =
    wrong_front BadField part behind told
    (λ first rest bad. (rest_fails BadField first rest behind BadField ended named bad refl cut
    all).content)
front_fails f part behind ended named told cut all = absurd named
