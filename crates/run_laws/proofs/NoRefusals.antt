-- Against what a run read that ended well no refusal speaks.
use Rattle.std.proofs.Common.{◌≡◌, ℕ, zero, suc, ◌+◌, List, [], ◌∷◌, ◌++◌}
use Rattle.std.proofs.Common.{Option, Result, Ok, Err, inl, inr, refl, sym, ap, ◌∙◌, subst, arith}
use Rattle.st_format.specs.Device.{AreOctets}
use Rattle.st_format.specs.Member.{IsMember}
use Rattle.st_format.specs.Picture.{Values}
use Rattle.st_format.specs.declared.format.Format.{Format}
use Rattle.st_format.proofs.Histories.{since_is}
use Rattle.st_format.proofs.SameFields.{same_format}
use Rattle.media_file.specs.Capture.{Content, capture_walk}
use Rattle.media_file.specs.PictureFaults.{IsPictureFault}
use Rattle.media_file.specs.PictureFile.{IsPictureFile, Shown, picture_walk, shown_of}
use Rattle.media_file.specs.StateFile.{Kept}
use Rattle.media_file.specs.declared.fault.FileFault.{FileFault}
use Rattle.media_file.proofs.CaptureFaults.{capture_tells}
use Rattle.media_file.proofs.PictureFaults.{picture_tells}
use Rattle.media_file.proofs.Seen.{picture_again, picture_once}
use Rattle.packet_plan.specs.Plan.{IsSize}
use Rattle.packet_plan.specs.declared.plan.PlanFault.{PlanFault}
use Rattle.packet_plan.specs.declared.plan.PlanFault.TheVariants.{NoMemory, BadPacketSize}
use Rattle.path_receiver.specs.Frames.{State}
use Rattle.receiver_file.specs.Saved.{IsReceiverFile, kept_of}
use Rattle.receiver_file.specs.StateFaults.{IsStateFault}
use Rattle.receiver_file.specs.StateReading.{state_walk}
use Rattle.receiver_file.proofs.Again.{state_again}
use Rattle.receiver_file.proofs.Savable.{writable_saved}
use Rattle.receiver_file.proofs.StateFaults.{state_tells}
use Rattle.run_outcome.specs.Moments.{WasRead}
use Rattle.run_outcome.specs.Pictures.{IsPlanFault}
use Rattle.run_outcome.specs.declared.refusal.Refusal.{Refusal}
use Rattle.run_outcome.specs.declared.refusal.Refusal.TheVariants as why
use Rattle.capture_engines.specs.Looped.{IsLoopRefusal}
use Rattle.capture_engines.specs.Looping.{Link, Loops}
use Rattle.receiver_engines.specs.MergeAllRefused.{IsMergeAllRefusal, StopsMerge, StopsMergeBehind}
use Rattle.receiver_engines.specs.MergeRefused.{AreUnlike, IsMergeRefusal}
use Rattle.receiver_engines.specs.MergedAll.{AreOpenAlike, MergesAll}
use Rattle.receiver_engines.specs.Merging.{GivesReceiver, MergesFiles, SaysReceiver}
use Rattle.receiver_engines.specs.Reading.{SayReceivers}
use Rattle.receiver_engines.specs.Reporting.{Reports}
use Rattle.receiver_engines.specs.States.{IsStateRefusal}
use Rattle.export_engine.specs.ExportRefused.{IsExportRefusal}
use Rattle.export_engine.specs.Exported.{PrintsExported}
use Rattle.run_laws.specs.Received.{read_of}
use Rattle.run_laws.proofs.Receiving.{was_read}

-- ---- a file and a fault of it

abbrev whole : {X : Type 0} → X → Result X FileFault
whole x = Ok x

abbrev failed : (X : Type 0) → FileFault → Result X FileFault
failed X f = Err f

pub apart : {X : Type 0} (r : Result X FileFault) (x : X) (f : FileFault) → r ≡ whole x
    → r ≡ failed X f → ⊥
apart {X} r x f reads fails = let bad : whole x ≡ failed X f = sym reads ∙ fails in absurd cc

no_state_fault : (octets : List ℕ) (r : State) (f : FileFault) → AreOctets octets
    → IsReceiverFile octets r → IsStateFault f octets → ⊥
no_state_fault octets r f bytes is wrong =
    let rest : List ℕ = [] in
    let pair : Kept × List ℕ = (kept_of r, rest) in
    apart (state_walk octets) pair f
    (ap state_walk is.whole ∙ state_again (kept_of r) (writable_saved r is.writable))
    (state_tells f octets bytes wrong)

pub no_picture_fault : (octets : List ℕ) (p : Values) (f : FileFault) → AreOctets octets
    → IsPictureFile octets p → IsPictureFault f octets → ⊥
no_picture_fault octets p f bytes is wrong =
    let rest : List ℕ = [] in
    let pair : Shown × List ℕ = (shown_of p, rest) in
    apart (picture_walk octets) pair f (ap picture_walk is.whole ∙ picture_again p is.picture)
    (picture_tells f octets bytes wrong)

pub not_state : (told : List ℕ → Type 0) (octets : List ℕ) (r : State) (refusal : Refusal)
    → told octets → AreOctets octets → SaysReceiver told r → IsStateRefusal told refusal → ⊥
not_state told octets r (why.State f) there bytes says wrong =
    no_state_fault octets r f bytes (says octets there) (wrong octets there bytes)
not_state told octets r refusal there bytes says wrong = absurd wrong

pub report_not : {S : Type 0} (gave : S → List ℕ) (ended : S → Type 0) (source later : S)
    (old new : List ℕ) (refusal : Refusal)
    → Reports (WasRead gave ended (source, later)) old new
    → AreOctets (read_of gave (source, later))
    → IsStateRefusal (WasRead gave ended (source, later)) refusal → ⊥
report_not gave ended source later old new refusal reports bytes wrong =
    not_state (WasRead gave ended (source, later)) (read_of gave (source, later))
    reports.receiver refusal (was_read gave ended (source, later)) bytes reports.says wrong

-- ---- files that are merged

-- what was read gives the receiver whose file it is
gives : (told : List ℕ → Type 0) (octets : List ℕ) (r : State) → told octets
    → SaysReceiver told r → GivesReceiver told r
gives told octets r there says =
    let file : IsReceiverFile octets r = says octets there in
    record { read = subst told file.whole there; writable = file.writable }

alike_first : (s r : State) (rs : List State) → AreOpenAlike s (r ∷ rs) → s.opening ≡ r.opening
alike_first s r rs all = all zero r (omega arith)

alike_others : (s r : State) (rs : List State) → AreOpenAlike s (r ∷ rs) → AreOpenAlike s rs
alike_others s r rs all = λ k d lt. all (suc k) d (omega (arith, lt))

-- the receiver of one of the files, and that it is opened as the first is
record OneOf {S : Type 0} (told : S → List ℕ → Type 0) (at : S) (s : State) : Type 0 where
  receiver : State
  says : SaysReceiver (told at) receiver
  alike : s.opening ≡ receiver.opening

one_of : {S : Type 0} (told : S → List ℕ → Type 0) (front : List S) (at : S) (behind : List S)
    (s : State) (rs : List State) → SayReceivers told (front ++ at ∷ behind) rs → AreOpenAlike s rs
    → OneOf told at s
one_of told [] at behind s [] say all = absurd say
one_of told [] at behind s (r ∷ rs) say all = record {
  receiver = r;
  says = say.0;
  alike = alike_first s r rs all;
}
one_of told (x ∷ front) at behind s [] say all = absurd say
one_of told (x ∷ front) at behind s (r ∷ rs) say all =
    one_of told front at behind s rs say.1 (alike_others s r rs all)

among : {X : Type 0} (front : List X) (x : X) (behind : List X)
    → IsMember x (front ++ x ∷ behind)
among [] x behind = inl refl
among (y ∷ front) x behind = inr (among front x behind)

module _ {S : Type 0} (gave : S → List ℕ) (ended : S → Type 0) (first : S × S)
    (others : List (S × S)) (old new : List ℕ)
    (merges : MergesAll (WasRead gave ended first) (WasRead gave ended) others old new)
    (bytes : (s : S × S) → IsMember s (first ∷ others) → AreOctets (read_of gave s))
  where
    one : (s : State) (Is : (List ℕ → Type 0) → Type 0)
        (stops : StopsMerge s (WasRead gave ended) others Is)
        → OneOf (WasRead gave ended) stops.at merges.receiver
    one s Is stops =
        one_of (WasRead gave ended) stops.front stops.at stops.behind merges.receiver
        merges.receivers
        (subst (λ (l : List (S × S)). SayReceivers (WasRead gave ended) l merges.receivers)
        stops.parts merges.receivers_are)
        merges.taken.alike

    of_file : (f : FileFault) → StopsMergeBehind (WasRead gave ended first) (WasRead gave ended) others
        (λ t. IsStateRefusal t (why.State f)) → ⊥
    of_file f behind =
        let stops = behind.2 in
        let o = one behind.0 (λ t. IsStateRefusal t (why.State f)) stops in
        let there : IsMember stops.at others =
        subst (λ (l : List (S × S)). IsMember stops.at l) (sym stops.parts)
        (among stops.front stops.at stops.behind) in
        not_state (WasRead gave ended stops.at) (read_of gave stops.at) o.receiver (why.State f)
        (was_read gave ended stops.at) (bytes stops.at (inr there)) o.says stops.is

    unlike : StopsMergeBehind (WasRead gave ended first) (WasRead gave ended) others
        (AreUnlike (WasRead gave ended first)) → ⊥
    unlike behind =
        let stops = behind.2 in
        let o = one behind.0 (AreUnlike (WasRead gave ended first)) stops in
        stops.is.unlike merges.receiver o.receiver
        (gives (WasRead gave ended first) (read_of gave first) merges.receiver
        (was_read gave ended first) merges.receiver_is)
        (gives (WasRead gave ended stops.at) (read_of gave stops.at) o.receiver
        (was_read gave ended stops.at) o.says)
        o.alike

    merge_not : (refusal : Refusal)
        → IsMergeAllRefusal (WasRead gave ended first) (WasRead gave ended) others refusal → ⊥
    merge_not (why.State f) (inl wrong) =
        not_state (WasRead gave ended first) (read_of gave first) merges.receiver (why.State f)
        (was_read gave ended first) (bytes first (inl refl)) merges.receiver_is wrong
    merge_not (why.State f) (inr behind) = of_file f behind
    merge_not why.MergeUnlike wrong = unlike wrong
    merge_not refusal wrong = absurd wrong

-- so of two
module _ {L R : Type 0} (gave : L → List ℕ) (ended : L → Type 0) (gave' : R → List ℕ)
    (ended' : R → Type 0) (left left_later : L) (right right_later : R) (old new : List ℕ)
  where
    pub two_not : (refusal : Refusal)
        → MergesFiles (WasRead gave ended (left, left_later))
        (WasRead gave' ended' (right, right_later)) old new
        → AreOctets (read_of gave (left, left_later))
        → AreOctets (read_of gave' (right, right_later))
        → IsMergeRefusal (WasRead gave ended (left, left_later))
        (WasRead gave' ended' (right, right_later)) refusal → ⊥
    two_not (why.State f) merges bytes bytes' (inl wrong) =
        not_state (WasRead gave ended (left, left_later)) (read_of gave (left, left_later))
        merges.first (why.State f) (was_read gave ended (left, left_later)) bytes merges.first_is
        wrong
    two_not (why.State f) merges bytes bytes' (inr wrong) =
        not_state (WasRead gave' ended' (right, right_later))
        (read_of gave' (right, right_later)) merges.second (why.State f)
        (was_read gave' ended' (right, right_later)) bytes' merges.second_is wrong.2
    two_not why.MergeUnlike merges bytes bytes' wrong =
        wrong.unlike merges.first merges.second
        (gives (WasRead gave ended (left, left_later)) (read_of gave (left, left_later))
        merges.first (was_read gave ended (left, left_later)) merges.first_is)
        (gives (WasRead gave' ended' (right, right_later))
        (read_of gave' (right, right_later)) merges.second
        (was_read gave' ended' (right, right_later)) merges.second_is)
        merges.taken.alike
    two_not refusal merges bytes bytes' wrong = absurd wrong

-- ---- a picture that goes through a link

pub one_format : (octets : List ℕ) (p q : Values) → IsPictureFile octets p → IsPictureFile octets q
    → p.format ≡ q.format
one_format octets p q a b =
    same_format p.format q.format
    (ap (λ (s : Shown). s.format)
    (picture_once p q a.picture b.picture (sym a.whole ∙ b.whole)))

pub no_plan_fault : (max : ℕ) (f : Format) (e : PlanFault) → IsSize max f → IsPlanFault max f e → ⊥
no_plan_fault max f BadPacketSize is (inl few) = absurd (omega (arith, is.least, few))
no_plan_fault max f BadPacketSize is (inr many) = absurd (omega (arith, is.most, many))
no_plan_fault max f NoMemory is wrong = absurd wrong

module _ {S : Type 0} (gave : S → List ℕ) (ended : S → Type 0) (max limit : ℕ) (source later : S)
    (before after : Link) (old new : List ℕ)
  where
    loop_not : (refusal : Refusal)
        → Loops max limit (WasRead gave ended (source, later)) before after old new
        → AreOctets (read_of gave (source, later))
        → IsLoopRefusal max (WasRead gave ended (source, later)) refusal → ⊥
    loop_not (why.Picture f) run bytes wrong =
        let octets : List ℕ = read_of gave (source, later) in
        let there = was_read gave ended (source, later) in
        no_picture_fault octets run.picture f bytes (run.read octets there)
        (wrong octets there bytes)
    loop_not (why.Plan e) run bytes wrong =
        let octets : List ℕ = read_of gave (source, later) in
        let there = was_read gave ended (source, later) in
        let other = wrong.1 octets there in
        let format : run.picture.format ≡ wrong.0 =
        one_format octets run.picture other.0 (run.read octets there) other.2 ∙ other.1 in
        no_plan_fault max wrong.0 e (subst (IsSize max) format run.plan.limits) wrong.2
    loop_not refusal run bytes wrong = absurd wrong

pub loop_refuses_none : {S : Type 0} (gave : S → List ℕ) (ended : S → Type 0) (max limit : ℕ)
    (source later : S) (before after : Link) (old new : List ℕ) (refusal : Refusal)
    → Loops max limit (WasRead gave ended (source, later)) before after old new
    → AreOctets (read_of gave (source, later))
    → IsLoopRefusal max (WasRead gave ended (source, later)) refusal → ⊥
loop_refuses_none gave ended max limit source later before after old new refusal =
    loop_not gave ended max limit source later before after old new refusal

pub merge_refuses_none : {S : Type 0} (gave : S → List ℕ) (ended : S → Type 0) (first : S × S)
    (others : List (S × S)) (old new : List ℕ) (refusal : Refusal)
    → MergesAll (WasRead gave ended first) (WasRead gave ended) others old new
    → ((s : S × S) → IsMember s (first ∷ others) → AreOctets (read_of gave s))
    → IsMergeAllRefusal (WasRead gave ended first) (WasRead gave ended) others refusal → ⊥
merge_refuses_none gave ended first others old new refusal merges bytes =
    merge_not gave ended first others old new merges bytes refusal

-- ---- a capture that is exported

pub export_not : {S : Type 0} (gave : S → List ℕ) (ended : S → Type 0) (a : List ℕ)
    (b : Option (List ℕ)) (source later : S) (old new shown printed : List ℕ) (refusal : Refusal)
    → PrintsExported a b (gave source) (gave later) (ended later) old new shown printed
    → AreOctets (read_of gave (source, later))
    → IsExportRefusal a b (WasRead gave ended (source, later)) refusal → ⊥
export_not gave ended a b source later old new shown printed why.ExportFlow exports bytes wrong =
    wrong exports.exported.envelopes exports.exported.are
export_not gave ended a b source later old new shown printed (why.Capture f) exports bytes wrong =
    let capture = exports.exported.exported in
    let octets : List ℕ = read_of gave (source, later) in
    let rest : List ℕ = [] in
    let pair : Content × List ℕ = (capture.content, rest) in
    let same : octets ≡ capture.read.part =
    since_is (gave source) (gave later) capture.read.part capture.read.grown in
    apart (capture_walk 16777216 octets) pair f
    (ap (capture_walk 16777216) same ∙ capture.read.says)
    (capture_tells 16777216 f octets
    (wrong.1 octets (was_read gave ended (source, later)) bytes))
export_not gave ended a b source later old new shown printed refusal exports bytes wrong =
    absurd wrong.1
