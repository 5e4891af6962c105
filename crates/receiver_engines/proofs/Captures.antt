-- A job's picture sent into a capture: what the capture's sink took of it.
use Rattle.std.proofs.Common.{◌≡◌, ℕ, false, List, [], ◌∷◌, ◌++◌, Option, length, subst, sym, take}
use Rattle.std.proofs.Common.{ap, ◌∙◌}
use Rattle.std.proofs.lemmas.List.{take-append-drop}
use Rattle.std.specs.Borrow.{GName}
use Rattle.key_mix.specs.Preparing.{IsPreparedJob, Prepared}
use Rattle.key_mix.specs.Sending.{IsSentJob}
use Rattle.key_mix.specs.declared.Job.{Job}
use Rattle.media_file.proofs.Putting.{each_written}
use Rattle.media_file.proofs.Written.{part_first, part_then, records_append, took_both}
use Rattle.media_file.specs.Faults.{CountsFault, IsDevice}
use Rattle.media_file.specs.Fronts.{front_text}
use Rattle.media_file.specs.Records.{records_text}
use Rattle.media_file.specs.Writer.{FailsDatagram, TakesDatagram, Writer, WriterPlace}
use Rattle.media_file.specs.Writer.{entries_from, entries_of, moment_behind, written_text}
use Rattle.media_file.specs.declared.fault.FileFault.{FileFault}
use Rattle.media_file.specs.declared.fault.FileFault.TheVariants as file
use Rattle.media_file.specs.declared.front.Version.TheVariants.{Two}
use Rattle.media_file.specs.declared.paths.Paths.TheVariants.{OnlyA}
use Rattle.packet_plan.proofs.Texts.{picture_sent}
use Rattle.packet_plan.specs.Text.{IsStamp, datagram_texts}
use Rattle.packet_plan.specs.declared.stamp.Stamp.{Stamp}
use Rattle.run_outcome.proofs.Blaming.{failed_one}
use Rattle.st_format.specs.Device.{Failed, GrowsPart}
use Rattle.st_format.specs.Picture.{Values}
use Rattle.st_format.specs.Puts.{FailsAt, TakesEach}

-- the datagrams that a prepared job is sent in, whether or not they are
pub texts_of_job : (p : Prepared) (job : Job) (pictures : List Values) (size : ℕ) (stamp : Stamp)
    → IsPreparedJob p job pictures size → IsStamp stamp
    → IsSentJob (datagram_texts p.picture stamp 0 p.plan.packets) job pictures size stamp
texts_of_job p job pictures size stamp is fits = record {
  picture = p.picture;
  made = is.made;
  plan = p.plan.packets;
  full = is.full;
  sent =
      picture_sent p.picture stamp size p.plan.packets is.full.limits.most is.full.plan is.whole
      fits;
}

-- a writer at the beginning of a capture by path A
abbrev pub begun : List ℕ → WriterPlace
begun text = record { paths = OnlyA; text_len = length text; moment = 0; failed = false }

-- a front of which a part was written
pub front_cut : (old new text : List ℕ) (ds : List (List ℕ)) → GrowsPart old new (front_text Two text)
    → GrowsPart old new (written_text OnlyA text ds)
front_cut old new text ds part =
    part_first old new (front_text Two text) (records_text (entries_from OnlyA 0 ds)) part

-- the front, and then all datagrams
pub writes_all : {K : Type 0} (held : K → Option (List ℕ)) (took : K → List ℕ)
    (failures : K → ℕ) (names : K → List GName) (text before : List ℕ) (old new : Writer K)
    (ds : List (List ℕ)) → old.place ≡ begun text → took old.sink ≡ before ++ front_text Two text
    → TakesEach (TakesDatagram held took failures names) old ds new
    → took new.sink ≡ before ++ written_text OnlyA text ds
writes_all {K} held took failures names text before old new ds place front taken =
    took_both before (took old.sink) (took new.sink) (front_text Two text)
    (records_text (entries_from OnlyA 0 ds)) front
    (subst (λ (p : WriterPlace). took new.sink
    ≡ took old.sink ++ records_text (entries_from p.paths p.moment ds)) place
    (each_written held took failures names old ds new taken).taken)

-- a writer that failed at a datagram behind others wrote a part of the records of all
records_cut : {K : Type 0} (held : K → Option (List ℕ)) (took : K → List ℕ) (failures : K → ℕ)
    (names : K → List GName) (old : Writer K) (ds : List (List ℕ)) (last new : Writer K)
    (d : List ℕ) (more : List (List ℕ)) → old.place.failed ≡ false
    → TakesEach (TakesDatagram held took failures names) old ds last
    → FailsDatagram held took failures names last d new
    → GrowsPart (took old.sink) (took new.sink)
    (records_text (entries_from old.place.paths old.place.moment (ds ++ d ∷ more)))
records_cut {K} held took failures names old [] last new d more stands same failed =
    let p : WriterPlace = old.place in
    let first : FailsDatagram held took failures names old d new =
    subst (λ (w : Writer K). FailsDatagram held took failures names w d new) same failed in
    subst (GrowsPart (took old.sink) (took new.sink))
    (sym (records_append (entries_of p.paths p.moment d)
    (entries_from p.paths (moment_behind p.paths p.moment) more)))
    (part_first (took old.sink) (took new.sink) (records_text (entries_of p.paths p.moment d))
    (records_text (entries_from p.paths (moment_behind p.paths p.moment) more))
    (first.part stands))
records_cut {K} held took failures names old (x ∷ ds) last new d more stands (next, one, each)
    failed =
    let p : WriterPlace = old.place in
    let behind : List ℕ =
    records_text (entries_from p.paths (moment_behind p.paths p.moment) (ds ++ d ∷ more)) in
    let rest : GrowsPart (took next.sink) (took new.sink) behind =
    subst (λ (q : WriterPlace). GrowsPart (took next.sink) (took new.sink)
    (records_text (entries_from q.paths q.moment (ds ++ d ∷ more)))) one.place
    (records_cut held took failures names next ds last new d more
    (ap (λ (q : WriterPlace). q.failed) one.place ∙ stands) each failed) in
    subst (GrowsPart (took old.sink) (took new.sink))
    (sym (records_append (entries_of p.paths p.moment x)
    (entries_from p.paths (moment_behind p.paths p.moment) (ds ++ d ∷ more))))
    (part_then (took old.sink) (took next.sink) (took new.sink)
    (records_text (entries_of p.paths p.moment x)) behind one.grown rest)

-- the front, and then a part of the datagrams' records
pub writes_part : {K : Type 0} (held : K → Option (List ℕ)) (took : K → List ℕ)
    (failures : K → ℕ) (names : K → List GName) (text before : List ℕ) (old new : Writer K)
    (ds : List (List ℕ)) (count : ℕ) → old.place ≡ begun text
    → took old.sink ≡ before ++ front_text Two text
    → FailsAt (TakesDatagram held took failures names) (FailsDatagram held took failures names)
    old ds count new
    → GrowsPart before (took new.sink) (written_text OnlyA text ds)
writes_part {K} held took failures names text before old new ds count place front at =
    let whole : take count ds ++ at.datagram ∷ at.more ≡ ds =
    ap (λ (l : List (List ℕ)). take count ds ++ l) (sym at.behind) ∙ take-append-drop count ds in
    part_then before (took old.sink) (took new.sink) (front_text Two text)
    (records_text (entries_from OnlyA 0 ds)) front
    (subst (λ (l : List (List ℕ)). GrowsPart (took old.sink) (took new.sink)
    (records_text (entries_from OnlyA 0 l))) whole
    (subst (λ (p : WriterPlace). GrowsPart (took old.sink) (took new.sink)
    (records_text (entries_from p.paths p.moment (take count ds ++ at.datagram ∷ at.more)))) place
    (records_cut held took failures names old (take count ds) at.last new at.datagram at.more
    (ap (λ (p : WriterPlace). p.failed) place) at.taken at.failed)))

-- an `open` that failed: its sink failed once
pub open_failed : (f : FileFault) (old new : ℕ) → IsDevice f → CountsFault f old new
    → Failed old new
open_failed file.Device old new is counted = failed_one old new counted
open_failed file.NoMemory old new is counted = absurd is
open_failed file.BadName old new is counted = absurd is
open_failed file.BadVersion old new is counted = absurd is
open_failed file.Truncated old new is counted = absurd is
open_failed file.BadField old new is counted = absurd is
open_failed file.TrailingBytes old new is counted = absurd is
open_failed file.MixedGroup old new is counted = absurd is
open_failed file.TooManyRecords old new is counted = absurd is

-- what is so of a sink that is lent is so of the lender's
pub lent : {K : Type 0} (Is : K → K → Type 0) (old new lent_old lent_new : K) → lent_old ≡ old
    → new ≡ lent_new → Is lent_old lent_new → Is old new
lent {K} Is old new lent_old lent_new same again is =
    subst (λ (k : K). Is k new) same (subst (λ (k : K). Is lent_old k) (sym again) is)
