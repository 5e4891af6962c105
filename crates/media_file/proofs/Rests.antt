-- The rest of a record, read from a source.
use Rattle.std.proofs.Common.{◌≡◌, ℕ, ◌<◌, Bool, false, cond, ltb, List, [], ◌∷◌, ◌++◌}
use Rattle.std.proofs.Common.{length, take, drop, Option, None, Some, Result, Ok, Err, append-nil}
use Rattle.std.proofs.Common.{sym, ap, ◌∙◌, subst, arith}
use Rattle.std.specs.Prelude.{⊤}
use Rattle.std.specs.Io.KnownBytes.{Consumes, IsAtEnd}
use Rattle.std.proofs.KnownBytes.{Consumes-trans}
use Rattle.std.proofs.lemmas.Bool.{lt-ltb, le-ltb}
use Rattle.std.proofs.lemmas.List.{length-append, take_at, drop_at}
use Rattle.media_file.specs.declared.fault.FileFault.{FileFault}
use Rattle.media_file.specs.declared.fault.FileFault.TheVariants.{Truncated, BadField}
use Rattle.media_file.specs.declared.record.RecordHead.{RecordHead}
use Rattle.media_file.specs.Fields.{GivesPart}
use Rattle.media_file.specs.Reading.{fault_at, fault_by, head_at, octets_at, rest_at}
use Rattle.media_file.specs.Records.{Entry, entry_of}
use Rattle.media_file.specs.Faults.{IfContent, file_fault_origin}
use Rattle.media_file.specs.Source.{FailsRecord, FailsRest, IsOfRecord}
use Rattle.st_format.proofs.Origins.{if_content, if_content_weaker}

abbrev truncated : Result (Entry × List ℕ) FileFault
truncated = Err Truncated

-- what a source gave that is then at its end is all that it told
all_given : (o rest given : List ℕ) → o ≡ given ++ rest → rest ≡ [] → o ≡ given
all_given o rest given p e = p ∙ ap (λ (xs : List ℕ). given ++ xs) e ∙ append-nil given

-- fewer than ten octets are no head
pub short_head : (first : ℕ) (given : List ℕ) → length given < 10
    → rest_at first given ≡ Err Truncated
unfolding rest_at
short_head first given lt =
    ap (λ (b : Bool). cond b truncated
    (octets_at (head_at first (take 10 given)) (drop 10 given))) (lt-ltb (length given) 10 lt)

pub part_head : (first : ℕ) (old new : Option (List ℕ)) (given : List ℕ) → Consumes old new given
    → length given < 10 → GivesPart (rest_at first) old new
part_head first old new given p lt =
    record { part = given; given = p; fault = Truncated; none = short_head first given lt }

pub cut_head : (first : ℕ) (old new : Option (List ℕ)) (given : List ℕ) → Consumes old new given
    → IsAtEnd new → length given < 10 → FailsRest Truncated first old
cut_head first None new given p e lt = record { named = tt; content = tt }
cut_head first (Some o) None given p e lt = absurd p
cut_head first (Some o) (Some rest) given p e lt =
    record {
      named = tt;
      content = ap (rest_at first) (all_given o rest given p e) ∙ short_head first given lt;
    }

-- ten octets are a head, and what follows them has its octets
pub behind_head : (first : ℕ) (head rest : List ℕ) → length head ≡ 10
    → rest_at first (head ++ rest) ≡ octets_at (head_at first head) rest
unfolding rest_at
behind_head first head rest ten =
    let long : ltb (length (head ++ rest)) 10 ≡ false =
    le-ltb (length (head ++ rest)) 10 (omega (arith, length-append head rest)) in
    ap (λ (b : Bool). cond b truncated
    (octets_at (head_at first (take 10 (head ++ rest))) (drop 10 (head ++ rest)))) long
    ∙ ap (λ (xs : List ℕ). octets_at (head_at first xs) (drop 10 (head ++ rest)))
    (take_at head rest 10 ten)
    ∙ ap (λ (xs : List ℕ). octets_at (head_at first head) xs) (drop_at head rest 10 ten)

-- a head that is none
pub bad_head : (f : FileFault) (first : ℕ) (old new : Option (List ℕ)) (head : List ℕ)
    → Consumes old new head → length head ≡ 10 → head_at first head ≡ Err f → f ≡ BadField
    → FailsRest f first old
bad_head f first None new head p ten bad is =
    record {
      named = subst IsOfRecord (sym is) tt;
      content =
          subst (λ (e : FileFault). IfContent e ⊤) (sym is) tt;
    }
bad_head f first (Some o) None head p ten bad is = absurd p
bad_head f first (Some o) (Some rest) head p ten bad is =
    let at : rest_at first o ≡ Err f =
    ap (rest_at first) p ∙ behind_head first head rest ten
    ∙ ap (λ (r : Result RecordHead FileFault). octets_at r rest) bad in
    record {
      named = subst IsOfRecord (sym is) tt;
      content =
          if_content file_fault_origin f (rest_at first o ≡ Err f) at;
    }

pub part_bad : (f : FileFault) (first : ℕ) (old new : Option (List ℕ)) (head : List ℕ)
    → Consumes old new head → length head ≡ 10 → head_at first head ≡ Err f
    → GivesPart (rest_at first) old new
part_bad f first old new head p ten bad = record {
  part = head;
  given = p;
  fault = f;
  none = ap (rest_at first) (sym (append-nil head)) ∙ behind_head first head [] ten
      ∙ ap (λ (r : Result RecordHead FileFault). octets_at r []) bad;
}

-- fewer octets than the head says
pub short_octets : (first : ℕ) (head given : List ℕ) (h : RecordHead) → length head ≡ 10
    → head_at first head ≡ Ok h → length given < h.length
    → rest_at first (head ++ given) ≡ Err Truncated
short_octets first head given h ten is lt =
    behind_head first head given ten
    ∙ ap (λ (r : Result RecordHead FileFault). octets_at r given) is
    ∙ ap (λ (b : Bool). cond b truncated (Ok (entry_of h given, drop h.length given)))
    (lt-ltb (length given) h.length lt)

pub part_octets : (first : ℕ) (old mid new : Option (List ℕ)) (head given : List ℕ)
    (h : RecordHead) → Consumes old mid head → length head ≡ 10 → head_at first head ≡ Ok h
    → Consumes mid new given → length given < h.length → GivesPart (rest_at first) old new
part_octets first old mid new head given h p ten is q lt = record {
  part = head ++ given;
  given = Consumes-trans old mid new head given p q;
  fault = Truncated;
  none = short_octets first head given h ten is lt;
}

pub cut_octets : (first : ℕ) (old mid new : Option (List ℕ)) (head given : List ℕ) (h : RecordHead)
    → Consumes old mid head → length head ≡ 10 → head_at first head ≡ Ok h
    → Consumes mid new given → IsAtEnd new → length given < h.length → FailsRest Truncated first old
cut_octets first None mid new head given h p ten is q e lt = record { named = tt; content = tt }
cut_octets first (Some o) None new head given h p ten is q e lt = absurd p
cut_octets first (Some o) (Some m) None head given h p ten is q e lt = absurd q
cut_octets first (Some o) (Some m) (Some rest) head given h p ten is q e lt =
    record {
      named = tt;
      content =
          ap (rest_at first)
          (p ∙ ap (λ (xs : List ℕ). head ++ xs) (all_given m rest given q e))
          ∙ short_octets first head given h ten is lt;
    }

-- what is wrong behind an octet is wrong at the front of it and them
pub fails_from : (f : FileFault) (first : ℕ) (old mid : Option (List ℕ))
    → Consumes old mid (first ∷ []) → FailsRest f first mid → FailsRecord f old
unfolding fault_at
fails_from f first None mid p is =
    record { named = is.named; content = if_content file_fault_origin f ⊤ tt }
fails_from f first (Some o) None p is = absurd p
fails_from f first (Some o) (Some m) p is = record {
  named = is.named;
  content =
      if_content_weaker file_fault_origin f (rest_at first m ≡ Err f) (fault_at o ≡ Some f)
      (λ e. ap fault_at p ∙ ap fault_by e) is.content;
}
