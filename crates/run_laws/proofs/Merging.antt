-- Received files, merged, are received files.
use Rattle.std.proofs.Common.{◌≡◌, ℕ, ◌≤◌, List, [], ◌∷◌, ◌++◌, length, append-nil}
use Rattle.std.proofs.Common.{append_assoc, sym, subst, arith}
use Rattle.std.specs.List.{AllZip}
use Rattle.std.proofs.lemmas.List.Elements.{All-cons, All-nil}
use Rattle.st_format.specs.History.{since}
use Rattle.st_format.specs.Member.{SameDatagrams}
use Rattle.st_format.proofs.Histories.{since_is}
use Rattle.path_receiver.specs.Frames.{Holds, State}
use Rattle.path_receiver.specs.Opening.{Opening}
use Rattle.media_file.specs.StateFile.{state_text}
use Rattle.receiver_file.specs.Saved.{IsReceiverFile, IsWritable, kept_of}
use Rattle.run_outcome.specs.Moments.{WasRead}
use Rattle.run_outcome.specs.Sources.{IsSourceText}
use Rattle.run_outcome.specs.Timestamps.{AreTimestamps}
use Rattle.capture_engines.specs.Taking.{AnnouncesStream}
use Rattle.receiver_engines.specs.MergedAll.{AreOpenAlike, GiveReceivers, MergesAll}
use Rattle.receiver_engines.specs.MergedAll.{behind_each_other, merged_all}
use Rattle.receiver_engines.specs.Merging.{GivesReceiver, MergesFiles, merged_state}
use Rattle.receiver_engines.specs.Reading.{SayReceivers}
use Rattle.receiver_engines.proofs.Merged.{holds_both}
use Rattle.receiver_engines.proofs.JoinedAll.{alike_head, alike_tail, all_opening}
use Rattle.run_laws.specs.Merged.{AreFilesOf, AreReceivedFiles, AreReceiverFiles, IsMergedFile}
use Rattle.run_laws.specs.Merged.{Trees, datagrams_below}
use Rattle.run_laws.specs.Merged.Trees.{NoTree, Received, Merged}
use Rattle.run_laws.specs.Received.{IsReceivedFile, all_read, read_of}
use Rattle.run_laws.proofs.Receiving.{same_file, was_read}
use Rattle.run_laws.proofs.Writable.{CanOpen, can_open, holding_writable}

-- ---- runs of `merge`

gives : {S : Type 0} (gave : S → List ℕ) (ended : S → Type 0) (s : S × S) (r : State)
    → IsReceiverFile (read_of gave s) r → GivesReceiver (WasRead gave ended s) r
gives gave ended s r is = record {
  read = subst (WasRead gave ended s) is.whole (was_read gave ended s);
  writable = is.writable;
}

all_give : {S : Type 0} (gave : S → List ℕ) (ended : S → Type 0) (ss : List (S × S))
    (rs : List State) → AreReceiverFiles (all_read gave ss) rs
    → GiveReceivers (WasRead gave ended) ss rs
all_give gave ended [] [] are = tt
all_give gave ended [] (r ∷ rs) are = absurd are
all_give gave ended (s ∷ ss) [] are = absurd are
all_give gave ended (s ∷ ss) (r ∷ rs) are =
    (gives gave ended s r are.0, all_give gave ended ss rs are.1)

all_are : {S : Type 0} (gave : S → List ℕ) (ended : S → Type 0) (ss : List (S × S))
    (rs : List State) → SayReceivers (WasRead gave ended) ss rs
    → AreReceiverFiles (all_read gave ss) rs
all_are gave ended [] [] say = tt
all_are gave ended [] (r ∷ rs) say = absurd say
all_are gave ended (s ∷ ss) [] say = absurd say
all_are gave ended (s ∷ ss) (r ∷ rs) say =
    (say.0 (read_of gave s) (was_read gave ended s), all_are gave ended ss rs say.1)

pub run_merged_all : {S : Type 0} (gave : S → List ℕ) (ended : S → Type 0) (first : S × S)
    (others : List (S × S)) (old new : List ℕ)
    → MergesAll (WasRead gave ended first) (WasRead gave ended) others old new
    → IsMergedFile (read_of gave first) (all_read gave others) (since old new)
run_merged_all gave ended first others old new m = record {
  receiver = m.receiver;
  receivers = m.receivers;
  first_is = m.receiver_is (read_of gave first) (was_read gave ended first);
  others_are = all_are gave ended others m.receivers m.receivers_are;
  merged = λ s ts is are.
      let saves = m.saved s ts (gives gave ended first s is) (all_give gave ended others ts are) in
      (saves.alike, since_is old new (state_text (kept_of (merged_all s ts))) saves.taken);
}

two_merged : {L R : Type 0} (gave : L → List ℕ) (ended : L → Type 0) (also_gave : R → List ℕ)
    (also_ended : R → Type 0) (left : L × L) (right : R × R) (old new : List ℕ)
    → MergesFiles (WasRead gave ended left) (WasRead also_gave also_ended right) old new
    → (s : State) (ts : List State) → IsReceiverFile (read_of gave left) s
    → AreReceiverFiles (read_of also_gave right ∷ []) ts
    → AreOpenAlike s ts × (since old new ≡ state_text (kept_of (merged_all s ts)))
two_merged gave ended also_gave also_ended left right old new m s [] is are = absurd are
two_merged gave ended also_gave also_ended left right old new m s (t ∷ []) is are =
    let saves =
    m.saved s t (gives gave ended left s is) (gives also_gave also_ended right t are.0) in (
      All-cons (λ (u : State). s.opening ≡ u.opening) t [] saves.alike
          (All-nil (λ (u : State). s.opening ≡ u.opening)),
      since_is old new (state_text (kept_of (merged_state s t))) saves.taken,
    )
two_merged gave ended also_gave also_ended left right old new m s (t ∷ u ∷ ts) is are =
    absurd are.1

pub run_merged : {L R : Type 0} (gave : L → List ℕ) (ended : L → Type 0) (also_gave : R → List ℕ)
    (also_ended : R → Type 0) (left : L × L) (right : R × R) (old new : List ℕ)
    → MergesFiles (WasRead gave ended left) (WasRead also_gave also_ended right) old new
    → IsMergedFile (read_of gave left) (read_of also_gave right ∷ []) (since old new)
run_merged gave ended also_gave also_ended left right old new m = record {
  receiver = m.first;
  receivers = m.second ∷ [];
  first_is = m.first_is (read_of gave left) (was_read gave ended left);
  others_are = (m.second_is (read_of also_gave right) (was_read also_gave also_ended right), tt);
  merged = two_merged gave ended also_gave also_ended left right old new m;
}

-- ---- receivers merged

few_refusals : (s : State) (ts : List State) → length s.refusals ≤ 64
    → length (merged_all s ts).refusals ≤ 64
few_refusals s [] few = few
few_refusals s (t ∷ ts) few = few_refusals (merged_state s t) ts (omega arith)

holds_all : (s : State) (ts : List State) (datagrams : List (List ℕ))
    (lists : List (List (List ℕ))) → AreOpenAlike s ts → Holds s datagrams → AllZip Holds ts lists
    → Holds (merged_all s ts) (datagrams ++ behind_each_other lists)
holds_all s [] datagrams [] alike holds each = subst (Holds s) (sym (append-nil datagrams)) holds
holds_all s [] datagrams (l ∷ ls) alike holds each = absurd each
holds_all s (t ∷ ts) datagrams [] alike holds each = absurd each
holds_all s (t ∷ ts) datagrams (l ∷ ls) alike holds each =
    subst (Holds (merged_all s (t ∷ ts))) (append_assoc datagrams l (behind_each_other ls))
    (holds_all (merged_state s t) ts (datagrams ++ l) ls (alike_tail s t ts alike)
    (holds_both s t (alike_head s t ts alike) datagrams l holds each.0) each.1)

-- ---- received files

-- the receivers of received files
record Gathered (lists : List (List (List ℕ))) (files : List (List ℕ)) : Type 0 where
  receivers : List State
  are : AreReceiverFiles files receivers
  hold : AllZip Holds receivers lists

gathered : (window source text : List ℕ) (lists : List (List (List ℕ))) (files : List (List ℕ))
    → AreReceivedFiles window source text lists files → Gathered lists files
gathered window source text [] [] are = record { receivers = []; are = tt; hold = tt }
gathered window source text [] (f ∷ fs) are = absurd are
gathered window source text (l ∷ ls) [] are = absurd are
gathered window source text (l ∷ ls) (f ∷ fs) are =
    let more = gathered window source text ls fs are.1 in
    let one = are.0 in
    record {
      receivers = one.receiver ∷ more.receivers;
      are = (one.file_is, more.are);
      hold = (one.holds, more.hold);
    }

pub pieces : (window source text : List ℕ) (datagrams : List (List ℕ))
    (lists : List (List (List ℕ))) (first : List ℕ) (others : List (List ℕ)) (file : List ℕ)
    → IsReceivedFile window source text datagrams first
    → AreReceivedFiles window source text lists others → IsMergedFile first others file
    → IsReceivedFile window source text (datagrams ++ behind_each_other lists) file
pieces window source text datagrams lists first others file a are m =
    let g = gathered window source text lists others are in
    let s : State = a.receiver in
    let all : State = merged_all s g.receivers in
    let is = m.merged s g.receivers a.file_is g.are in
    let opening : s.opening ≡ all.opening = sym (all_opening s g.receivers) in
    let holds : Holds all (datagrams ++ behind_each_other lists) =
    holds_all s g.receivers datagrams lists is.0 a.holds g.hold in
    let writable : IsWritable all =
    holding_writable all (datagrams ++ behind_each_other lists) holds
    (subst CanOpen opening (can_open s a.file_is.writable))
    (few_refusals s g.receivers a.file_is.writable.receiver.few_refusals) in
    record {
      receiver = all;
      window_is = subst (λ (o : Opening). AreTimestamps window o.window) opening a.window_is;
      source_is = subst (λ (o : Opening). IsSourceText source o.ssrc) opening a.source_is;
      announced = subst (AnnouncesStream text) opening a.announced;
      holds = holds;
      file_is = record { writable = writable; whole = is.1 };
    }

-- ---- trees

merged_of : (window source text : List ℕ) (lists : List (List (List ℕ))) (first : List ℕ)
    (others : List (List ℕ)) (file : List ℕ)
    → AreReceivedFiles window source text lists (first ∷ others) → IsMergedFile first others file
    → IsReceivedFile window source text (behind_each_other lists) file
merged_of window source text [] first others file are m = absurd are
merged_of window source text (l ∷ ls) first others file are m =
    pieces window source text l ls first others file are.0 are.1 m

all_received : (window source text : List ℕ) (trees : Trees) (files : List (List ℕ))
    → AreFilesOf window source text trees files
    → AreReceivedFiles window source text (datagrams_below trees) files
all_received window source text NoTree files are =
    subst (AreReceivedFiles window source text []) (sym are) tt
all_received window source text (Received l beside) [] are = absurd are
all_received window source text (Received l beside) (f ∷ fs) are =
    (are.0, all_received window source text beside fs are.1)
all_received window source text (Merged below beside) [] are = absurd are
all_received window source text (Merged below beside) (f ∷ fs) are =
    let m = are.0 in (
      merged_of window source text (datagrams_below below) m.0 m.1 f
          (all_received window source text below (m.0 ∷ m.1) m.2) m.3,
      all_received window source text beside fs are.1,
    )

single : (window source text : List ℕ) (lists : List (List (List ℕ))) (file : List ℕ)
    → AreReceivedFiles window source text lists (file ∷ [])
    → IsReceivedFile window source text (behind_each_other lists) file
single window source text [] file are = absurd are
single window source text (l ∷ []) file are =
    subst (λ (ds : List (List ℕ)). IsReceivedFile window source text ds file) (sym (append-nil l))
    are.0
single window source text (l ∷ k ∷ ls) file are = absurd are.1

pub in_trees : (window source text : List ℕ) (tree : Trees) (datagrams : List (List ℕ))
    (file at_once : List ℕ) → AreFilesOf window source text tree (file ∷ [])
    → IsReceivedFile window source text datagrams at_once
    → SameDatagrams (behind_each_other (datagrams_below tree)) datagrams → file ≡ at_once
in_trees window source text tree datagrams file at_once are whole same =
    same_file window source text (behind_each_other (datagrams_below tree)) datagrams file at_once
    (single window source text (datagrams_below tree) file
    (all_received window source text tree (file ∷ []) are)) whole same
