-- The files below the sinks of `follow`.
use Rattle.std.proofs.Common.{◌≡◌, ◌∙◌, ◌+◌, ℕ, List, [], ◌∷◌, ◌++◌, Option, None, Some}
use Rattle.std.proofs.Common.{Result, Ok, Err}
use Rattle.std.specs.Prelude.{IfOk, MatchResult}
use Rattle.std.proofs.Common.{ap, append-nil, append_assoc, refl, subst, sym}
use Rattle.follow_runs.specs.Followed.{FollowsFiles, IsListed}
use Rattle.follow_runs.specs.Outputs.{AreSinksOver, FollowSinks, IsFilesOver, IsReportOver}
use Rattle.follow_runs.specs.Outputs.{FilesFrames, SameOutputs, TakesAllOver, TakesReport}
use Rattle.follow_runs.specs.Outputs.{directory_under, files_failures, files_under, outputs_under}
use Rattle.follow_runs.specs.Outputs.{pictures_failures, report_failures, report_under}
use Rattle.follow_runs.specs.Outputs.{sinks_failures, written_failures}
use Rattle.follow_runs.specs.Pictured.{IsSinkOver, SameFile, TakesPictureStream, failures_under}
use Rattle.follow_runs.specs.Pictured.{file_under, octets_under}
use Rattle.capture_runs.specs.Replayed.{replayed_ended, replayed_gave}
use Rattle.follow_runs.specs.declared.outputs.FollowOutputs.{FollowOutputs}
use Rattle.follow_runs.specs.declared.picture_directory.PictureDirectory.{PictureDirectory}
use Rattle.follow_runs.specs.declared.unplaced.UnplacedOutput.{UnplacedOutput}
use Rattle.capture_runs.specs.declared.replayed.Replayed.{Replayed}
use Rattle.devices.specs.Passed.{file_took, writing_failures}
use Rattle.devices.specs.Written.{took_in}
use Rattle.devices.specs.declared.file_output.FileOutput.{FileOutput}
use Rattle.flow.specs.declared.flows.Flows.{Flows}
use Rattle.follow_engine.specs.Events.{frames_of_events}
use Rattle.follow_engine.specs.Followed.{FollowsWhole, followed_events}
use Rattle.follow_engine.specs.Shown.{TakesEachFrame, TakesIn}
use Rattle.follow_engine.specs.Sides.{SideRead}
use Rattle.follow_engine.specs.declared.opening.FollowAsked.{FollowAsked}
use Rattle.follow_engine.specs.declared.telling.FollowTotals.{FollowTotals}
use Rattle.following.specs.Following.{Handed}
use Rattle.frame_sinks.specs.Files.{FilesFrame, files_for}
use Rattle.frame_sinks.specs.Pictures.{form_stream, pictures_of}
use Rattle.frame_sinks.specs.Sinks.{SinkTakes, TakesBoth, TakesLines, frames_report}
use Rattle.frame_sinks.specs.declared.files_sink.FilesSink.{FilesSink}
use Rattle.frame_sinks.specs.declared.filling.Filling.{Filling}
use Rattle.frame_sinks.specs.declared.form_sink.FormSink.{FormSink}
use Rattle.frame_sinks.specs.declared.report_sink.ReportSink.{ReportSink}
use Rattle.frame_sinks.specs.declared.settling.Settling.{Settling}
use Rattle.frame_sinks.proofs.Filed.{all_filed}
use Rattle.frame_sinks.proofs.Shown.{all_both, all_lines}
use Rattle.frame_sinks.proofs.Streams.{all_written}
use Rattle.run_outcome.specs.Fault.{Accounts, counts, failures_in}
use Rattle.run_outcome.specs.declared.fault.Fault.{Fault}
use Rattle.run_outcome.specs.declared.fault.Fault.TheVariants.{Device, Memory, Refused}
use Rattle.run_outcome.specs.Refusing.{OfRefusal}
use Rattle.run_outcome.specs.declared.refusal.Refusal.{Refusal}
use Rattle.side_by_side.specs.declared.side.Side.{Side}
use Rattle.st_format.specs.declared.format.Format.{Format}
use Rattle.st_format.specs.Picture.{Values}

-- ---- a sink that may be none

none_stays : {K : Type 0} (takes : K → Handed → K → Type 0) (k l : Option K) (hs : List Handed)
    → k ≡ None → TakesEachFrame (TakesIn takes) k hs l → l ≡ None
none_stays takes k l [] none is = is ∙ none
none_stays takes k l (h ∷ hs) none is =
    let one : TakesIn takes None h is.0 =
    subst (λ (x : Option _). TakesIn takes x h is.0) none is.1 in
    none_stays takes is.0 l hs one is.2

-- one took frames
abbrev TookAll : {K : Type 0} → (K → Handed → K → Type 0) → K → List Handed → Option K → Type 0
TookAll takes k hs l = (m : _) × (l ≡ Some m) × TakesEachFrame takes k hs m

some_step : {K : Type 0} (takes : K → Handed → K → Type 0) (k : K) (h : Handed) (l : Option K)
    (hs : List Handed) (mid : Option K) → TakesIn takes (Some k) h mid
    → TakesEachFrame (TakesIn takes) mid hs l
    → ((m : K) → TakesEachFrame (TakesIn takes) (Some m) hs l → TookAll takes m hs l)
    → TookAll takes k (h ∷ hs) l
some_step takes k h l hs None one more next = absurd one
some_step takes k h l hs (Some m) one more next =
    let r = next m more in (r.0, r.1, (m, one, r.2))

some_took : {K : Type 0} (takes : K → Handed → K → Type 0) (k : K) (l : Option K)
    (hs : List Handed) → TakesEachFrame (TakesIn takes) (Some k) hs l → TookAll takes k hs l
some_took takes k l [] is = (k, is, refl)
some_took takes k l (h ∷ hs) is =
    some_step takes k h l hs is.0 is.1 is.2 (λ m. some_took takes m l hs)

-- ---- what the file took

-- where it has not its name yet, that is what went to it
took_unplaced : (s : UnplacedOutput) → file_took s.file ≡ octets_under s
took_unplaced s = ap (λ (p : _). took_in p s.file.sink.progress) s.unplaced

sink_wrote : {A : Type 0} (filling : Filling) (fill : Option (List ℕ)) (f : FileOutput)
    (k m : FormSink UnplacedOutput A) (hs : List Handed)
    → IsSinkOver filling fill (Some f) (Some k) → TakesEachFrame (SinkTakes octets_under) k hs m
    → file_took m.sink.file
    ≡ file_took f ++ form_stream None (pictures_of filling fill None hs)
sink_wrote filling fill f k m hs is all =
    let s : Settling _ = k.settling in
    took_unplaced m.sink ∙ all_written octets_under k m hs all
    ∙ ap (λ (t : List ℕ). t ++ form_stream k.format (pictures_of s.filling s.fill s.held hs))
    (sym (took_unplaced k.sink))
    ∙ ap (λ (x : FileOutput). file_took x
    ++ form_stream k.format (pictures_of s.filling s.fill s.held hs)) is.0
    ∙ ap (λ (x : Filling). file_took f ++ form_stream k.format (pictures_of x s.fill s.held hs))
    is.1
    ∙ ap (λ (x : Option (List ℕ)). file_took f
    ++ form_stream k.format (pictures_of filling x s.held hs)) is.2
    ∙ ap (λ (x : Option Format). file_took f
    ++ form_stream x (pictures_of filling fill s.held hs)) is.3
    ∙ ap (λ (x : Option Values). file_took f
    ++ form_stream None (pictures_of filling fill x hs)) is.4

took_pictures : {A : Type 0} (filling : Filling) (fill : Option (List ℕ))
    (out : Option FileOutput) (k l : Option (FormSink UnplacedOutput A)) (hs : List Handed)
    → IsSinkOver filling fill out k → TakesEachFrame (TakesIn (SinkTakes octets_under)) k hs l
    → TakesPictureStream filling fill hs out (file_under l)
took_pictures filling fill None k l hs is all =
    ap file_under (none_stays (SinkTakes octets_under) k l hs is all)
took_pictures filling fill (Some f) None l hs is all = absurd is
took_pictures filling fill (Some f) (Some k) l hs is all =
    let r = some_took (SinkTakes octets_under) k l hs all in
    subst (λ (x : Option (FormSink UnplacedOutput _)).
    TakesPictureStream filling fill hs (Some f) (file_under x)) (sym r.1)
    (sink_wrote filling fill f k r.0 hs is r.2)

report_wrote : (f : FileOutput) (k m : ReportSink UnplacedOutput) (hs : List Handed)
    → k.sink.file ≡ f → TakesEachFrame (TakesLines octets_under) k hs m
    → file_took m.sink.file ≡ file_took f ++ frames_report hs
report_wrote f k m hs is all =
    took_unplaced m.sink ∙ all_lines octets_under k m hs all
    ∙ ap (λ (t : List ℕ). t ++ frames_report hs) (sym (took_unplaced k.sink))
    ∙ ap (λ (x : FileOutput). file_took x ++ frames_report hs) is

took_report : (out : Option FileOutput) (k l : Option (ReportSink UnplacedOutput))
    (hs : List Handed) → IsReportOver out k
    → TakesEachFrame (TakesIn (TakesLines octets_under)) k hs l
    → TakesReport hs out (report_under l)
took_report None k l hs is all =
    ap report_under (none_stays (TakesLines octets_under) k l hs is all)
took_report (Some f) None l hs is all = absurd is
took_report (Some f) (Some k) l hs is all =
    let r = some_took (TakesLines octets_under) k l hs all in
    subst (λ (x : Option (ReportSink UnplacedOutput)). TakesReport hs (Some f) (report_under x))
    (sym r.1) (report_wrote f k r.0 hs is r.2)

files_wrote : {A : Type 0} (filling : Filling) (fill : Option (List ℕ)) (d : PictureDirectory)
    (k m : FilesSink PictureDirectory A) (hs : List Handed)
    → IsFilesOver filling fill (Some d) (Some k) → TakesEachFrame (FilesFrame files_under) k hs m
    → files_under m.files
    ≡ files_under d ++ files_for hs (pictures_of filling fill None hs)
files_wrote filling fill d k m hs is all =
    let s = k.settling in
    all_filed files_under k m hs all
    ∙ ap (λ (x : PictureDirectory). files_under x
    ++ files_for hs (pictures_of s.filling s.fill s.held hs)) is.0
    ∙ ap (λ (x : Filling). files_under d ++ files_for hs (pictures_of x s.fill s.held hs)) is.1
    ∙ ap (λ (x : Option (List ℕ)). files_under d
    ++ files_for hs (pictures_of filling x s.held hs)) is.2
    ∙ ap (λ (x : Option Values). files_under d ++ files_for hs (pictures_of filling fill x hs)) is.3

took_files : {A : Type 0} (filling : Filling) (fill : Option (List ℕ))
    (pictures : Option PictureDirectory) (k l : Option (FilesSink PictureDirectory A))
    (hs : List Handed) → IsFilesOver filling fill pictures k
    → TakesEachFrame (TakesIn (FilesFrame files_under)) k hs l
    → FilesFrames filling fill hs pictures (directory_under l)
took_files filling fill None k l hs is all =
    ap directory_under (none_stays (FilesFrame files_under) k l hs is all)
took_files filling fill (Some d) None l hs is all = absurd is
took_files filling fill (Some d) (Some k) l hs is all =
    let r = some_took (FilesFrame files_under) k l hs all in
    subst (λ (x : Option (FilesSink PictureDirectory _)).
    FilesFrames filling fill hs (Some d) (directory_under x)) (sym r.1)
    (files_wrote filling fill d k r.0 hs is r.2)

-- ---- frames that are listed

pub listed : (hs frames : List Handed) → TakesEachFrame IsListed frames hs (frames ++ hs)
listed [] frames = append-nil frames
listed (h ∷ hs) frames = (
  frames ++ h ∷ [],
  refl,
  subst (λ (l : List Handed). TakesEachFrame IsListed (frames ++ h ∷ []) hs l)
      (append_assoc frames (h ∷ []) hs) (listed hs (frames ++ h ∷ [])),
)

-- the files below sinks all of which took these frames
pub all_under : {A : Type 0} (filling : Filling) (fill : Option (List ℕ)) (o : FollowOutputs)
    (k l : FollowSinks A) (hs : List Handed) → AreSinksOver filling fill o k
    → TakesEachFrame TakesAllOver k hs l
    → TakesPictureStream filling fill hs o.out (file_under l.first)
    × TakesReport hs o.report (report_under l.second.first)
    × FilesFrames filling fill hs o.pictures (directory_under l.second.second)
all_under filling fill o k l hs over is =
    let both =
    all_both (TakesIn (SinkTakes octets_under)) (TakesBoth (TakesIn (TakesLines octets_under))
    (TakesIn (FilesFrame files_under))) k l hs is in
    let others =
    all_both (TakesIn (TakesLines octets_under)) (TakesIn (FilesFrame files_under)) k.second
    l.second hs both.1 in (
      took_pictures filling fill o.out k.first l.first hs over.0 both.0,
      took_report o.report k.second.first l.second.first hs over.1 others.0,
      took_files filling fill o.pictures k.second.second l.second.second hs over.2 others.1,
    )

pub follows_files : {A B : Type 0} (w : FollowAsked) (sdp : Option (List ℕ))
    (ways : List (Result Flows Refusal)) (files : List (Side B Replayed × Side B Replayed))
    (filling : Filling) (fill : Option (List ℕ)) (o : FollowOutputs)
    (k l : FollowSinks A) (took took' : List ℕ) (totals : FollowTotals)
    → AreSinksOver filling fill o k
    → FollowsWhole w sdp ways (SideRead replayed_gave replayed_ended) files TakesAllOver k l
    took took' totals
    → FollowsFiles w sdp ways files filling fill o (outputs_under l) took took'
follows_files w sdp ways files filling fill o k l took took' totals over is =
    let frames : List Handed = frames_of_events (followed_events w is.opening is.entries) in
    let under = all_under filling fill o k l frames over is.shown in
    record {
      frames = frames;
      totals = totals;
      follows =
          record {
            opening = is.opening;
            entries = is.entries;
            size = is.size;
            no_window = is.no_window;
            source_is = is.source_is;
            announced = is.announced;
            goes = is.goes;
            has_text = is.has_text;
            by_flows = is.by_flows;
            few = is.few;
            printed = is.printed;
            shown = listed frames [];
            told_totals = is.told_totals;
          };
      written = under.0;
      reported = under.1;
      filed = under.2;
    }

-- the same by other names of the text and of the ways
pub follows_same : {A B : Type 0} (w : FollowAsked) (sdp sdp' : Option (List ℕ))
    (ways ways' : List (Result Flows Refusal))
    (files : List (Side B Replayed × Side B Replayed))
    (k l : FollowSinks A) (took took' : List ℕ) (totals : FollowTotals)
    → sdp ≡ sdp' → ways ≡ ways'
    → FollowsWhole w sdp ways (SideRead replayed_gave replayed_ended) files TakesAllOver k l
    took took' totals
    → FollowsWhole w sdp' ways' (SideRead replayed_gave replayed_ended) files TakesAllOver k l
    took took' totals
follows_same w sdp sdp' ways ways' files k l took took' totals text way is =
    subst (λ (x : Option (List ℕ)). FollowsWhole w x ways'
    (SideRead replayed_gave replayed_ended) files TakesAllOver k l took took' totals) text
    (subst (λ (x : List (Result Flows Refusal)). FollowsWhole w sdp x
    (SideRead replayed_gave replayed_ended) files TakesAllOver k l took took' totals) way is)

-- ---- how often it failed

failed_before : {A : Type 0} (filling : Filling) (fill : Option (List ℕ))
    (out : Option FileOutput) (k : Option (FormSink UnplacedOutput A))
    → IsSinkOver filling fill out k
    → failures_in failures_under k ≡ failures_in writing_failures out
failed_before filling fill None k is = ap (λ (x : Option _). failures_in failures_under x) is
failed_before filling fill (Some f) None is = absurd is
failed_before filling fill (Some f) (Some k) is = ap writing_failures is.0

failed_after : {A : Type 0} (l : Option (FormSink UnplacedOutput A))
    → failures_in failures_under l ≡ failures_in writing_failures (file_under l)
failed_after None = refl
failed_after (Some l) = refl

report_before : (out : Option FileOutput) (k : Option (ReportSink UnplacedOutput))
    → IsReportOver out k → failures_in report_failures k ≡ failures_in writing_failures out
report_before None k is = ap (λ (x : Option _). failures_in report_failures x) is
report_before (Some f) None is = absurd is
report_before (Some f) (Some k) is = ap writing_failures is

report_after : (l : Option (ReportSink UnplacedOutput))
    → failures_in report_failures l ≡ failures_in writing_failures (report_under l)
report_after None = refl
report_after (Some l) = refl

files_before : {A : Type 0} (filling : Filling) (fill : Option (List ℕ))
    (pictures : Option PictureDirectory) (k : Option (FilesSink PictureDirectory A))
    → IsFilesOver filling fill pictures k
    → failures_in files_failures k ≡ failures_in pictures_failures pictures
files_before filling fill None k is = ap (λ (x : Option _). failures_in files_failures x) is
files_before filling fill (Some d) None is = absurd is
files_before filling fill (Some d) (Some k) is = ap pictures_failures is.0

files_after : {A : Type 0} (l : Option (FilesSink PictureDirectory A))
    → failures_in files_failures l ≡ failures_in pictures_failures (directory_under l)
files_after None = refl
files_after (Some l) = refl

sum_is : (a a' b b' c c' : ℕ) → a ≡ a' → b ≡ b' → c ≡ c' → a + (b + c) ≡ a' + (b' + c')
sum_is a a' b b' c c' first second third =
    ap (λ (n : ℕ). n + (b + c)) first ∙ ap (λ (n : ℕ). a' + (n + c)) second
    ∙ ap (λ (n : ℕ). a' + (b' + n)) third

pub sinks_before : {A : Type 0} (filling : Filling) (fill : Option (List ℕ)) (o : FollowOutputs)
    (k : FollowSinks A) → AreSinksOver filling fill o k → sinks_failures k ≡ written_failures o
sinks_before filling fill o k is =
    sum_is (failures_in failures_under k.first) (failures_in writing_failures o.out)
    (failures_in report_failures k.second.first) (failures_in writing_failures o.report)
    (failures_in files_failures k.second.second) (failures_in pictures_failures o.pictures)
    (failed_before filling fill o.out k.first is.0) (report_before o.report k.second.first is.1)
    (files_before filling fill o.pictures k.second.second is.2)

pub sinks_after : {A : Type 0} (l : FollowSinks A)
    → sinks_failures l ≡ written_failures (outputs_under l)
sinks_after l =
    sum_is (failures_in failures_under l.first) (failures_in writing_failures (file_under l.first))
    (failures_in report_failures l.second.first)
    (failures_in writing_failures (report_under l.second.first))
    (failures_in files_failures l.second.second)
    (failures_in pictures_failures (directory_under l.second.second)) (failed_after l.first)
    (report_after l.second.first) (files_after l.second.second)

-- the same of what a run came to
pub accounts_file : {V : Type 0} (r : Result V Fault) (a a' b b' m m' c c' : ℕ) → b ≡ m → b' ≡ m'
    → Accounts r (counts a a' ∷ counts b b' ∷ counts c c' ∷ [])
    → Accounts r (counts a a' ∷ counts m m' ∷ counts c c' ∷ [])
accounts_file r a a' b b' m m' c c' before after is =
    subst (λ (x : ℕ). Accounts r (counts a a' ∷ counts m x ∷ counts c c' ∷ [])) after
    (subst (λ (x : ℕ). Accounts r (counts a a' ∷ counts x b' ∷ counts c c' ∷ [])) before is)

-- ---- a file that is settled

pub settled_pictures : (filling : Filling) (fill : Option (List ℕ)) (frames : List Handed)
    (out mid new : Option FileOutput) → TakesPictureStream filling fill frames out mid
    → SameFile mid new → TakesPictureStream filling fill frames out new
settled_pictures filling fill frames None None new is same = same
settled_pictures filling fill frames None (Some g) new is same = absurd cc
settled_pictures filling fill frames (Some f) None new is same = absurd is
settled_pictures filling fill frames (Some f) (Some g) None is same = absurd same
settled_pictures filling fill frames (Some f) (Some g) (Some h) is same = same.0 ∙ is

pub settled_report : (frames : List Handed) (out mid new : Option FileOutput)
    → TakesReport frames out mid → SameFile mid new → TakesReport frames out new
settled_report frames None None new is same = same
settled_report frames None (Some g) new is same = absurd cc
settled_report frames (Some f) None new is same = absurd is
settled_report frames (Some f) (Some g) None is same = absurd same
settled_report frames (Some f) (Some g) (Some h) is same = same.0 ∙ is

settled_failures : (mid new : Option FileOutput) → SameFile mid new
    → failures_in writing_failures new ≡ failures_in writing_failures mid
settled_failures None new same = ap (failures_in writing_failures) same
settled_failures (Some f) None same = absurd same
settled_failures (Some f) (Some g) same = same.1

settled_written : (mid new : FollowOutputs) → SameOutputs mid new
    → written_failures new ≡ written_failures mid
settled_written mid new same =
    sum_is (failures_in writing_failures new.out) (failures_in writing_failures mid.out)
    (failures_in writing_failures new.report) (failures_in writing_failures mid.report)
    (failures_in pictures_failures new.pictures) (failures_in pictures_failures mid.pictures)
    (settled_failures mid.out new.out same.0) (settled_failures mid.report new.report same.1)
    (ap (failures_in pictures_failures) same.2)

settled_follows : {A : Type 0} (w : FollowAsked) (sdp : Option (List ℕ))
    (ways : List (Result Flows Refusal)) (files : List (Side A Replayed × Side A Replayed))
    (filling : Filling) (fill : Option (List ℕ)) (out mid new : FollowOutputs)
    (took took' : List ℕ) → FollowsFiles w sdp ways files filling fill out mid took took'
    → SameOutputs mid new → FollowsFiles w sdp ways files filling fill out new took took'
settled_follows w sdp ways files filling fill out mid new took took' is same = record {
  frames = is.frames;
  totals = is.totals;
  follows = is.follows;
  written = settled_pictures filling fill is.frames out.out mid.out new.out is.written same.0;
  reported = settled_report is.frames out.report mid.report new.report is.reported same.1;
  filed =
      subst (λ (x : Option PictureDirectory). FilesFrames filling fill is.frames out.pictures x)
      (sym same.2) is.filed;
}

-- ---- a run that is refused before it begins

pub refused_first : (f : Fault) (out : FollowOutputs) (took : List ℕ)
    → OfRefusal f (λ r. (f ≡ Refused r) × (out ≡ out) × (took ≡ took))
refused_first (Refused r) out took = (refl, refl, refl)
refused_first Device out took = tt
refused_first Memory out took = tt

-- ---- a run that is settled

pub done_settled : {A : Type 0} (opened : Result (Option (List ℕ)) Fault) (w : FollowAsked)
    (sdp : Option (List ℕ)) (ways : List (Result Flows Refusal))
    (files : List (Side A Replayed × Side A Replayed)) (filling : Filling)
    (out mid new : FollowOutputs) (took took' : List ℕ) → SameOutputs mid new
    → IfOk opened (λ fill. FollowsFiles w sdp ways files filling fill out mid took took')
    → IfOk opened (λ fill. FollowsFiles w sdp ways files filling fill out new took took')
done_settled (Ok fill) w sdp ways files filling out mid new took took' same is =
    settled_follows w sdp ways files filling fill out mid new took took' is same
done_settled (Err f) w sdp ways files filling out mid new took took' same is = tt

pub refused_settled : {V : Type 0} (opened : Result V Fault) (P P' : V → Type 0) (Q : Type 0)
    (r : Refusal) (old mid new : FollowOutputs) → SameOutputs mid new
    → ((v : V) → P v → P' v)
    → MatchResult opened P (λ g. (g ≡ Refused r) × (mid ≡ old) × Q)
    → MatchResult opened P' (λ g. (g ≡ Refused r) × SameOutputs old new × Q)
refused_settled (Ok v) P P' Q r old mid new same then is = then v is
refused_settled (Err g) P P' Q r old mid new same then is =
    (is.0, subst (λ (x : FollowOutputs). SameOutputs x new) is.1 same, is.2)

pub owed_settled : {V W : Type 0} (opened : Result V Fault) (o : Result W Fault) (a a' c c' : ℕ)
    (out mid new : FollowOutputs) → SameOutputs mid new
    → MatchResult opened (λ _. Accounts o (counts a a'
    ∷ counts (written_failures out) (written_failures mid) ∷ counts c c' ∷ [])) (λ f. o ≡ Err f)
    → MatchResult opened (λ _. Accounts o (counts a a'
    ∷ counts (written_failures out) (written_failures new) ∷ counts c c' ∷ [])) (λ f. o ≡ Err f)
owed_settled (Ok v) o a a' c c' out mid new same is =
    accounts_file o a a' (written_failures out) (written_failures mid) (written_failures out)
    (written_failures new) c c' refl (sym (settled_written mid new same)) is
owed_settled (Err f) o a a' c c' out mid new same is = is
