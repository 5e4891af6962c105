-- A capture that is cut is cut in one place.
use Rattle.std.proofs.Common.{◌≡◌, ℕ, ◌+◌, ◌<◌, List, ◌++◌, length, drop, Result, Ok, Err}
use Rattle.std.proofs.Common.{append_assoc, refl, sym, ap, ◌∙◌, subst, arith}
use Rattle.std.proofs.lemmas.List.{drop_at, length-append}
use Rattle.st_format.specs.Device.{AreOctets}
use Rattle.media_file.specs.declared.fault.FileFault.{FileFault}
use Rattle.media_file.specs.declared.fault.FileFault.TheVariants.{Truncated}
use Rattle.media_file.specs.declared.front.Version.TheVariants.{Two}
use Rattle.media_file.specs.CaptureFaults.{HasBadRecord, HasCutText, IsCutCapture, IsCutRecord}
use Rattle.media_file.specs.CaptureFaults.{cut_place, record_place}
use Rattle.media_file.specs.CaptureFaults.IsCutCapture.{Kind, Text, Record}
use Rattle.media_file.specs.CaptureFaults.IsCutRecord.{Head, Octets}
use Rattle.media_file.specs.Fronts.{capture_name, front_at, front_text, kind_text}
use Rattle.media_file.specs.Reading.{entries_in, rest_at}
use Rattle.media_file.specs.Records.{Entry, path_octet, record_text, records_text, rest_text}
use Rattle.media_file.specs.Runs.{HasNoRecord, AreRecordsOf}
use Rattle.media_file.proofs.CaptureFaults.{front_again, front_cut, front_short}
use Rattle.media_file.proofs.Entries.{rest_again}
use Rattle.media_file.proofs.Failing.{answered, not_both}
use Rattle.media_file.proofs.Found.{given}
use Rattle.media_file.proofs.KindFaults.{kind_cut}
use Rattle.media_file.proofs.RecordFaults.{record_tells}
use Rattle.media_file.proofs.Splits.{AreOctets-back, run_read}

abbrev Part : Type 0
Part = List ℕ × List ℕ

-- a record that is cut is none
no_record : (behind : List ℕ) → IsCutRecord behind → HasNoRecord behind
no_record behind cut e more fits is =
    let own : IsCutRecord (record_text e ++ more) = subst IsCutRecord is cut in
    let bad : rest_at (path_octet e.path) (rest_text e ++ more) ≡ Err Truncated
    = record_tells Truncated (path_octet e.path) (rest_text e ++ more) own in
    not_both (Entry × List ℕ) (e, more) Truncated (sym (rest_again e more fits) ∙ bad)

-- what stands behind the front of a capture with a record that is cut
abbrev behind_front : {limit : ℕ} {octets : List ℕ} → HasBadRecord octets limit Truncated → List ℕ
behind_front h = records_text h.capture.records ++ h.behind

abbrev front_is : {limit : ℕ} {octets : List ℕ} → HasBadRecord octets limit Truncated → List ℕ
front_is h = front_text h.stands.is.version h.capture.text

whole_is : (limit : ℕ) (octets : List ℕ) (h : HasBadRecord octets limit Truncated)
    → octets ≡ front_is h ++ behind_front h
whole_is limit octets h =
    h.stands.whole ∙ ap (λ (o : List ℕ). o ++ h.behind) h.stands.is.whole
    ∙ append_assoc (front_is h) (records_text h.capture.records) h.behind

front_reads : (limit : ℕ) (octets : List ℕ) (h : HasBadRecord octets limit Truncated)
    → front_at octets ≡ Ok (h.capture.text, behind_front h)
front_reads limit octets h =
    ap front_at (whole_is limit octets h)
    ∙ front_again h.stands.is.version h.capture.text (behind_front h) h.stands.is.front

records_are : (limit : ℕ) (octets : List ℕ) (h : HasBadRecord octets limit Truncated)
    → AreOctets octets → h.capture.records ≡ entries_in (behind_front h)
records_are limit octets h bytes =
    let own : AreOctets (behind_front h)
    = AreOctets-back (front_is h) (behind_front h)
    (subst AreOctets (whole_is limit octets h) bytes) in
    let run : AreRecordsOf h.capture.records h.behind (behind_front h)
    = record { fit = h.stands.is.fit; whole = refl; no_more = no_record h.behind h.wrong } in
    run_read (behind_front h) h.behind h.capture.records own run

behind_same : (es fs : List Entry) (b c : List ℕ) → es ≡ fs
    → records_text es ++ b ≡ records_text fs ++ c → b ≡ c
behind_same es fs b c same whole =
    let n : ℕ = length (records_text es) in
    let other : records_text es ++ b ≡ records_text es ++ c
    = whole ∙ ap (λ (gs : List Entry). records_text gs ++ c) (sym same) in
    sym (drop_at (records_text es) b n refl) ∙ ap (λ (o : List ℕ). drop n o) other
    ∙ drop_at (records_text es) c n refl

record_once : (b c : List ℕ) (x : IsCutRecord b) (y : IsCutRecord c) → b ≡ c
    → record_place x ≡ record_place y
record_once b c (Head more short) (Head left few) same = refl
record_once b c (Head more short) (Octets long path few) same =
    absurd (omega (arith, ap length same))
record_once b c (Octets long path short) (Head left few) same =
    absurd (omega (arith, ap length same))
record_once b c (Octets long path short) (Octets whole one few) same = refl

records_once : (limit : ℕ) (octets : List ℕ) (g h : HasBadRecord octets limit Truncated)
    → AreOctets octets → record_place g.wrong ≡ record_place h.wrong
records_once limit octets g h bytes =
    let reads : answered Part (g.capture.text, behind_front g)
    ≡ answered Part (h.capture.text, behind_front h)
    = sym (front_reads limit octets g) ∙ front_reads limit octets h in
    let rest : behind_front g ≡ behind_front h
    = ap (λ (r : Result Part FileFault). (given r (g.capture.text, behind_front g)).1) reads in
    let records : g.capture.records ≡ h.capture.records
    = records_are limit octets g bytes ∙ ap entries_in rest
    ∙ sym (records_are limit octets h bytes) in
    record_once g.behind h.behind g.wrong h.wrong
    (behind_same g.capture.records h.capture.records g.behind h.behind records rest)

kind_or_text : (octets : List ℕ) → length octets < 8 → HasCutText octets → ⊥
kind_or_text octets lt h =
    let size : length (kind_text capture_name Two) ≡ 8 = refl in
    let all : length octets ≡ length (kind_text capture_name Two) + length h.behind
    = ap length h.whole ∙ length-append (kind_text capture_name Two) h.behind in
    omega arith

front_or_record : (limit : ℕ) (octets : List ℕ) → front_at octets ≡ Err Truncated
    → HasBadRecord octets limit Truncated → ⊥
front_or_record limit octets bad h =
    not_both Part (h.capture.text, behind_front h) Truncated
    (sym (front_reads limit octets h) ∙ bad)

kind_fails : (octets : List ℕ) → length octets < 8 → front_at octets ≡ Err Truncated
kind_fails octets lt = front_cut octets Truncated (kind_cut capture_name octets lt)

pub cut_once : (limit : ℕ) (octets : List ℕ) → AreOctets octets → (a b : IsCutCapture octets limit)
    → cut_place a ≡ cut_place b
cut_once limit octets bytes (Kind x) (Kind y) = refl
cut_once limit octets bytes (Kind x) (Text y) = absurd (kind_or_text octets x y)
cut_once limit octets bytes (Kind x) (Record y) =
    absurd (front_or_record limit octets (kind_fails octets x) y)
cut_once limit octets bytes (Text x) (Kind y) = absurd (kind_or_text octets y x)
cut_once limit octets bytes (Text x) (Text y) = refl
cut_once limit octets bytes (Text x) (Record y) =
    absurd (front_or_record limit octets (front_short octets x) y)
cut_once limit octets bytes (Record x) (Kind y) =
    absurd (front_or_record limit octets (kind_fails octets y) x)
cut_once limit octets bytes (Record x) (Text y) =
    absurd (front_or_record limit octets (front_short octets y) x)
cut_once limit octets bytes (Record x) (Record y) = records_once limit octets x y bytes
