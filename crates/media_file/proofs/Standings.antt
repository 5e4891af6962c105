-- Where a reader of a capture stands, one call later.
use Rattle.std.proofs.Common.{◌≡◌, ℕ, ◌+◌, ◌-◌, ◌^◌, min, List, [], ◌∷◌, ◌++◌, Option}
use Rattle.std.proofs.Common.{None, Some, refl, sym, ap, subst, ◌∙◌, arith, append_assoc}
use Rattle.std.proofs.Common.{append-nil, length-append}
use Rattle.std.proofs.lemmas.List.Concat.{flat_map-append}
use Rattle.std.specs.Io.KnownBytes.{Consumes}
use Rattle.st_format.specs.Device.{Told}
use Rattle.media_file.specs.declared.fault.FileFault.{FileFault}
use Rattle.media_file.specs.declared.reader.Standing.{Standing}
use Rattle.media_file.specs.declared.reader.Standing.TheVariants.{Reads, Ended, Failed}
use Rattle.media_file.specs.Faults.{CountsFault}
use Rattle.media_file.specs.Reader.{HasDelivered, StandsRight}
use Rattle.media_file.specs.Records.{AllFit, Entry, record_text, records_text}
use Rattle.media_file.specs.Source.{FailsRecord, GivesRecords, ReadsEnd, ReadsRecord}

-- ---- records that a source gave

pub one_record : (old new : Option (List ℕ)) (e : Entry) → ReadsRecord old new e
    → GivesRecords 1 old new
one_record old new e read = record {
  records = e ∷ [];
  fit = (read.fits, tt);
  counted = refl;
  given = joined old new read.given;
}
  where
    joined : (old new : Option (List ℕ)) → Consumes old new (record_text e)
        → Consumes old new (records_text (e ∷ []))
    joined None new given = tt
    joined (Some xs) None given = absurd given
    joined (Some xs) (Some ys) given =
        given ∙ ap (λ (l : List ℕ). l ++ ys) (sym (append-nil (record_text e)))

pub both_fit : (xs ys : List Entry) → AllFit xs → AllFit ys → AllFit (xs ++ ys)
both_fit [] ys some more = more
both_fit (x ∷ xs) ys some more = (some.0, both_fit xs ys some.1 more)

both_given : (a b c : Option (List ℕ)) (xs ys : List Entry) → Consumes a b (records_text xs)
    → Consumes b c (records_text ys) → Consumes a c (records_text (xs ++ ys))
both_given None b c xs ys first then = tt
both_given (Some p) None c xs ys first then = absurd first
both_given (Some p) (Some q) None xs ys first then = absurd then
both_given (Some p) (Some q) (Some r) xs ys first then =
    first ∙ ap (λ (l : List ℕ). records_text xs ++ l) then
    ∙ sym (append_assoc (records_text xs) (records_text ys) r)
    ∙ ap (λ (l : List ℕ). l ++ r) (sym (flat_map-append record_text xs ys))

pub more_records : (k n : ℕ) (a b c : Option (List ℕ)) → GivesRecords k a b → GivesRecords n b c
    → GivesRecords (k + n) a c
more_records k n a b c first then = record {
  records = first.records ++ then.records;
  fit = both_fit first.records then.records first.fit then.fit;
  counted = omega (arith, first.counted, then.counted, length-append first.records then.records);
  given = both_given a b c first.records then.records first.given then.given;
}

-- ---- what was delivered

-- one record more
one_delivered : (delivered now : ℕ) (began old new : Option (List ℕ)) (e : Entry)
    → HasDelivered delivered began old → ReadsRecord old new e
    → now ≡ min (delivered + 1) (2 ^ 64 - 1) → HasDelivered now began new
one_delivered delivered now began old new e so read is = record {
  count = so.count + 1;
  counted = omega (arith, so.counted, is);
  gave = more_records so.count 1 began old new so.gave (one_record old new e read);
}

-- and none more
end_delivered : (delivered : ℕ) (began old new : Option (List ℕ)) → HasDelivered delivered began old
    → Consumes old new [] → HasDelivered delivered began new
end_delivered delivered began old new so none = record {
  count = so.count;
  counted = so.counted;
  gave = record {
    records = so.gave.records;
    fit = so.gave.fit;
    counted = so.gave.counted;
    given = on began old new so.gave.given none;
  };
}
  where
    on : (a b c : Option (List ℕ)) → Consumes a b (records_text so.gave.records) → Consumes b c []
        → Consumes a c (records_text so.gave.records)
    on None b c first then = tt
    on (Some p) None c first then = absurd first
    on (Some p) (Some q) None first then = absurd then
    on (Some p) (Some q) (Some r) first then =
        first ∙ ap (λ (l : List ℕ). records_text so.gave.records ++ l) then

-- ---- where a reader stands

-- at the front of a record or at the end
reading : (standing : Standing) (delivered : ℕ) (before : Told) (to_give : Option (List ℕ))
    (failures : ℕ) → standing ≡ Reads → StandsRight standing delivered before to_give failures
    → StandsRight Reads delivered before to_give failures
reading standing delivered before to_give failures is stands =
    subst (λ (s : Standing). StandsRight s delivered before to_give failures) is stands

-- behind one record more
pub stands_again : (standing : Standing) (delivered now : ℕ) (before : Told)
    (old new : Option (List ℕ)) (failures failures' : ℕ) (e : Entry) → standing ≡ Reads
    → StandsRight standing delivered before old failures → ReadsRecord old new e
    → now ≡ min (delivered + 1) (2 ^ 64 - 1) → failures' ≡ failures
    → StandsRight standing now before new failures'
stands_again standing delivered now before old new failures failures' e is stands read one same =
    let was = reading standing delivered before old failures is stands in
    subst (λ (s : Standing). StandsRight s now before new failures') (sym is)
    (one_delivered delivered now before.to_give old new e was.0 read one, same ∙ was.1)

-- at the end
pub stands_at_end : (standing : Standing) (delivered : ℕ) (before : Told)
    (old new : Option (List ℕ)) (failures failures' : ℕ) → standing ≡ Reads
    → StandsRight standing delivered before old failures → ReadsEnd old new → failures' ≡ failures
    → StandsRight Ended delivered before new failures'
stands_at_end standing delivered before old new failures failures' is stands end same =
    let was = reading standing delivered before old failures is stands in
    (end_delivered delivered before.to_give old new was.0 end.none, same ∙ was.1, end.after)

-- at a fault
pub stands_at_fault : (standing : Standing) (fault : FileFault) (delivered : ℕ) (before : Told)
    (old new : Option (List ℕ)) (failures failures' : ℕ) → standing ≡ Reads
    → StandsRight standing delivered before old failures → FailsRecord fault old
    → CountsFault fault failures failures'
    → StandsRight (Failed fault) delivered before new failures'
stands_at_fault standing fault delivered before old new failures failures' is stands fails counts =
    let was = reading standing delivered before old failures is stands in (
      record { count = was.0.count; behind = old; gave = was.0.gave; fails = fails },
      subst (λ (n : ℕ). CountsFault fault n failures') was.1 counts,
    )
