-- The next record of a capture, read in two steps.
use Rattle.std.proofs.Common.{◌≡◌, ℕ, ◌-◌, List, [], ◌∷◌, ◌++◌, Option, sym, ap, ◌∙◌, take}
use Rattle.std.proofs.Common.{append-nil, arith, subst}
use Rattle.std.specs.Io.KnownBytes.{Consumes}
use Rattle.media_file.specs.Faults.{IsDevice}
use Rattle.media_file.specs.Given.{GivesWrong}
use Rattle.media_file.specs.Reading.{rest_at}
use Rattle.media_file.specs.Records.{Entry, Fits, entry_of, path_octet, record_text, rest_text}
use Rattle.media_file.specs.Source.{FailsRest}
use Rattle.media_file.specs.declared.fault.FileFault.{FileFault}
use Rattle.media_file.specs.declared.fault.FileFault.TheVariants.{Device, Truncated}
use Rattle.media_file.specs.declared.record.RecordHead.{RecordHead}
use Rattle.media_file.proofs.Dues.{entries_none}
use Rattle.media_file.proofs.Givings.{none_behind}
use Rattle.st_format.proofs.Gave.{grew_twice}
use Rattle.recording_reader.specs.Capturing.{FailsRecord, ReadsRecord}
use Rattle.recording_reader.specs.Found.{entry_at}
use Rattle.recording_reader.specs.declared.found.Found.{Found}

-- a record, by a head
abbrev entry_by : RecordHead → List ℕ → Entry
entry_by h octets = record { path = h.path; moment = h.moment; octets = octets }

-- what is found of a head at the front of a buffer
abbrev found_by : RecordHead → Found
found_by h = record { path = h.path; moment = h.moment; start = 0; end = h.length }

found_is : (h : RecordHead) (buffer : List ℕ) (f : Found) → f ≡ found_by h
    → entry_of h buffer ≡ entry_at f buffer
found_is h buffer f is =
    let whole : h.length ≡ h.length - 0 = omega arith in
    ap (λ (n : ℕ). entry_by h (take n buffer)) whole
    ∙ ap (λ (x : Found). entry_at x buffer) (sym is)

pub record_found : (first : ℕ) (old mid new : List ℕ) (h : RecordHead) (buffer : List ℕ)
    (f : Found) → f ≡ found_by h → Fits (entry_of h buffer) → first ≡ path_octet h.path
    → mid ≡ old ++ first ∷ [] → new ≡ mid ++ rest_text (entry_of h buffer)
    → ReadsRecord old new (entry_at f buffer)
record_found first old mid new h buffer f is fits path one more =
    let e : Entry = entry_of h buffer in
    let grown : new ≡ old ++ record_text e =
    grew_twice old mid new (first ∷ []) (rest_text e) one more
    ∙ ap (λ (k : ℕ). old ++ k ∷ rest_text e) path in
    subst (λ (x : Entry). ReadsRecord old new x) (found_is h buffer f is)
    (record { fits = fits; grown = grown })

-- the device failed at the first octet
pub no_record_first : (f : FileFault) (old new : List ℕ) (ended : Type 0) → IsDevice f
    → new ≡ old → FailsRecord f old new ended
no_record_first Device old new ended device same = record {
  part = [];
  grown = same ∙ sym (append-nil old);
  no_record = record {
    named = tt;
    none = entries_none;
    told = tt;
    cut = λ is. let other : Device ≡ Truncated = is in absurd cc;
  };
}
no_record_first f old new ended device same = absurd device

-- a fault behind it
pub no_record_behind : (f : FileFault) (first : ℕ) (was mid left : Option (List ℕ))
    (old between new : List ℕ) (ended : Type 0) → Consumes was mid (first ∷ [])
    → between ≡ old ++ first ∷ [] → GivesWrong (rest_at first) f mid left between new
    → FailsRest f first mid → (f ≡ Truncated → ended) → FailsRecord f old new ended
no_record_behind f first was mid left old between new ended given grown wrong fails cut =
    let none = none_behind f first was mid left old between new given grown wrong in
    record {
      part = none.part;
      grown = none.grown;
      no_record = record {
        named = fails.named;
        none = none.none;
        told = none.told;
        cut = cut;
      };
    }
