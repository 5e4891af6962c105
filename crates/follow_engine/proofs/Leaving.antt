-- Frames that leave, one after the other.
use Rattle.std.proofs.Common.{◌≡◌, ℕ, Bool, true, false, List, [], ◌∷◌, ◌++◌, None, refl, sym, ap}
use Rattle.std.proofs.Common.{subst, ◌∙◌}
use Rattle.std.proofs.Common.{append_assoc, append-nil, drop, take}
use Rattle.following.specs.Follower.{Following, opened, without_oldest}
use Rattle.following.specs.Following.{Handed, frames_in, with_timestamps}
use Rattle.following.specs.Need.{Noted}
use Rattle.following.specs.Tally.{one_more}
use Rattle.following.specs.Turned.{goes_early, handed_early, state_early}
use Rattle.following.proofs.Turning.{handed_more, handed_still, state_none}
use Rattle.path_receiver.specs.Opening.{Opening}
use Rattle.path_receiver.specs.Sliding.{with_window}
use Rattle.st_format.specs.Raster.{Raster}
use Rattle.follow_engine.specs.Events.{Anew, Event, Left, Running, anew, frames_with, late_left}
use Rattle.follow_engine.specs.Events.{leaving, without}
use Rattle.follow_engine.specs.Running.{BeginsAnew, Finishes, IsSoundRun, LeavesTurn, LeavesWith}
use Rattle.follow_engine.specs.Running.{TellsEvents, running_of}
use Rattle.follow_engine.specs.declared.running.Run.{Run}
use Rattle.follow_engine.proofs.Tells.{told_both, told_none}

pub leaving_append : (late : ℕ) (hs gs : List Handed)
    → leaving late (hs ++ gs) ≡ leaving late hs ++ leaving (late_left late hs) gs
leaving_append late [] gs = refl
leaving_append late (h ∷ []) gs = refl
leaving_append late (h ∷ i ∷ hs) gs =
    ap (λ (es : List Event). Left h late ∷ es) (leaving_append 0 (i ∷ hs) gs)

late_append : (late : ℕ) (hs gs : List Handed)
    → late_left late (hs ++ gs) ≡ late_left (late_left late hs) gs
late_append late [] gs = refl
late_append late (h ∷ hs) [] = refl
late_append late (h ∷ hs) (i ∷ gs) = refl

frames_append : (frames : ℕ) (hs gs : List Handed)
    → frames_with frames (hs ++ gs) ≡ frames_with (frames_with frames hs) gs
frames_append frames [] gs = refl
frames_append frames (h ∷ hs) gs = frames_append (one_more frames) hs gs

-- one of which nothing is in, and a need that forgot what came
abbrev pub begun_by : Opening → ℕ → ℕ → Following
begun_by o size ahead = record {
  opening = o;
  frames = [];
  size = size;
  most_ahead = ahead;
  gone = None;
}

abbrev forgotten : ℕ → Noted
forgotten need = record { newest = []; need = need }

abbrev counted : Running → Following → ℕ → ℕ → Running
counted r s frames late = record r { follower = s; frames = frames; late = late }

pub without_append : (r : Running) (hs gs : List Handed) (s t : Following)
    → without (without r hs s) gs t ≡ without r (hs ++ gs) t
without_append r hs gs s t =
    ap (λ (n : ℕ). counted r t n (late_left (late_left r.late hs) gs))
    (sym (frames_append r.frames hs gs))
    ∙ ap (λ (n : ℕ). counted r t (frames_with r.frames (hs ++ gs)) n)
    (sym (late_append r.late hs gs))

-- These have left a stream so far, of those that are to leave, and were told.
pub record HasLeft {K : Type 0} (takes : K → Handed → K → Type 0) (those : Following → List Handed)
    (r r' : Running) (old new : K) (took took' : List ℕ) : Type 0 where
  pub gone : List Handed
  pub parts : gone ++ those r'.follower ≡ those r.follower
  pub running : r' ≡ without r gone r'.follower
  pub told : TellsEvents takes old new took took' (leaving r.late gone)

pub left_none : {K : Type 0} (takes : K → Handed → K → Type 0) (those : Following → List Handed)
    (r : Running) (k : K) (took : List ℕ) → HasLeft takes those r r k k took took
left_none takes those r k took = record {
  gone = [];
  parts = refl;
  running = refl;
  told = told_none takes k took;
}

-- and more
pub left_more : {K : Type 0} (takes : K → Handed → K → Type 0) (those : Following → List Handed)
    (r r' r'' : Running) (old mid new : K) (took took' took'' : List ℕ) (hs : List Handed)
    (t : Following) → (left : HasLeft takes those r r' old mid took took')
    → those r'.follower ≡ hs ++ those t
    → LeavesWith takes (record r' { follower = t }) r'' hs mid new took' took''
    → HasLeft takes those r r'' old new took took''
left_more takes those r r' r'' old mid new took took' took'' hs t left frames leaves =
    let late : r'.late ≡ late_left r.late left.gone = ap (λ (x : Running). x.late) left.running in
    let at : r''.follower ≡ t = ap (λ (x : Running). x.follower) leaves.running in
    record {
      gone = left.gone ++ hs;
      parts =
          append_assoc left.gone hs (those r''.follower)
          ∙ ap (λ (x : Following). left.gone ++ (hs ++ those x)) at
          ∙ ap (λ (l : List Handed). left.gone ++ l) (sym frames) ∙ left.parts;
      running =
          leaves.running ∙ ap (λ (x : Running). without x hs t) left.running
          ∙ without_append r left.gone hs r'.follower t
          ∙ ap (λ (x : Following). without r (left.gone ++ hs) x) (sym at);
      told =
          subst (λ (es : List Event). TellsEvents takes old new took took'' es)
          (sym (leaving_append r.late left.gone hs))
          (told_both takes old mid new took took' took'' (leaving r.late left.gone)
          (leaving (late_left r.late left.gone) hs) left.told
          (subst (λ (n : ℕ). TellsEvents takes mid new took' took'' (leaving n hs)) late
          leaves.told));
    }

-- ---- one after the other

no_frames : (w : List ℕ) → with_timestamps w [] ≡ []
no_frames [] = refl
no_frames (t ∷ w) = refl

oldest_first : (w : List ℕ) (rs : List Raster)
    → with_timestamps w rs
    ≡ take 1 (with_timestamps w rs) ++ with_timestamps (drop 1 w) (drop 1 rs)
oldest_first [] rs = refl
oldest_first (t ∷ w) [] = sym (no_frames w)
oldest_first (t ∷ w) (r ∷ rs) = refl

-- the oldest, and those that are in behind it
pub oldest_parts : (s t : Following) → t ≡ without_oldest s
    → frames_in s ≡ take 1 (frames_in s) ++ frames_in t
oldest_parts s t is =
    oldest_first s.opening.window s.frames
    ∙ ap (λ (x : Following). take 1 (frames_in s) ++ frames_in x) (sym is)

-- so of a frame that was handed out
pub oldest_frames : (s t : Following) (hs : List Handed) → t ≡ without_oldest s
    → hs ≡ take 1 (frames_in s) → frames_in s ≡ hs ++ frames_in t
oldest_frames s t hs is handed =
    oldest_parts s t is ∙ ap (λ (l : List Handed). l ++ frames_in t) (sym handed)

-- where none is in
pub left_end : (s : Following) → s.opening.window ≡ [] → frames_in s ≡ []
left_end s none = ap (λ (w : List ℕ). with_timestamps w s.frames) none

-- all have left when there is none of those any more
pub left_all : {K : Type 0} (takes : K → Handed → K → Type 0) (those : Following → List Handed)
    (r r' : Running) (old new : K) (took took' : List ℕ)
    → (left : HasLeft takes those r r' old new took took') → those r'.follower ≡ []
    → (r' ≡ without r (those r.follower) r'.follower)
    × TellsEvents takes old new took took' (leaving r.late (those r.follower))
left_all takes those r r' old new took took' left none =
    let all : left.gone ≡ those r.follower =
    sym (append-nil left.gone) ∙ ap (λ (l : List Handed). left.gone ++ l) (sym none)
    ∙ left.parts in (
      left.running ∙ ap (λ (hs : List Handed). without r hs r'.follower) all,
      subst (λ (hs : List Handed). TellsEvents takes old new took took' (leaving r.late hs)) all
          left.told,
    )

-- ---- those that go early

-- the oldest of them, and the others
pub early_frames : (eager : Bool) (s t u : Following) (hs : List Handed) → t ≡ s
    → u ≡ without_oldest t → hs ≡ take 1 (frames_in t) → goes_early eager s ≡ true
    → handed_early eager s ≡ hs ++ handed_early eager u
early_frames eager s t u hs same gone first goes =
    let v : Following = without_oldest s in
    handed_more eager s goes
    ∙ ap (λ (l : List Handed). l ++ handed_early eager v)
    (sym (first ∙ ap (λ (x : Following). take 1 (frames_in x)) same))
    ∙ ap (λ (x : Following). hs ++ handed_early eager x)
    (sym (gone ∙ ap (λ (x : Following). without_oldest x) same))

-- all of them have left
pub left_early : {K : Type 0} (takes : K → Handed → K → Type 0) (eager : Bool) (r r' : Running)
    (old new : K) (took took' : List ℕ)
    → (left : HasLeft takes (handed_early eager) r r' old new took took')
    → goes_early eager r'.follower ≡ false
    → state_early eager r'.follower ≡ state_early eager r.follower
    → LeavesTurn takes eager r r' [] old new took took'
left_early takes eager r r' old new took took' left still state =
    let all =
    left_all takes (handed_early eager) r r' old new took took' left
    (handed_still eager r'.follower still) in
    let at : r'.follower ≡ state_early eager r.follower =
    sym (state_none eager r'.follower still) ∙ state in
    record {
      running =
          all.0 ∙ ap (λ (x : Following). without r (handed_early eager r.follower) x) at;
      told = all.1;
    }

-- behind these
pub leaves_turn : {K : Type 0} (takes : K → Handed → K → Type 0) (eager : Bool)
    (r r' r'' : Running) (hs : List Handed) (old mid new : K) (took took' took'' : List ℕ)
    → LeavesWith takes r r' hs old mid took took'
    → LeavesTurn takes eager r' r'' [] mid new took' took''
    → LeavesTurn takes eager r r'' hs old new took took''
leaves_turn takes eager r r' r'' hs old mid new took took' took'' first rest =
    let early : List Handed = handed_early eager r.follower in
    let t : Following = state_early eager r.follower in
    record {
      running =
          rest.running
          ∙ ap (λ (x : Running).
          without x (handed_early eager x.follower) (state_early eager x.follower)) first.running
          ∙ without_append r hs early r.follower t;
      told =
          subst (λ (es : List Event). TellsEvents takes old new took took'' es)
          (sym (leaving_append r.late hs early))
          (told_both takes old mid new took took' took'' (leaving r.late hs)
          (leaving (late_left r.late hs) early) first.told
          (subst (λ (x : Running).
          TellsEvents takes mid new took' took'' (leaving x.late (handed_early eager x.follower)))
          first.running rest.told));
    }

-- one frame that leaves
pub leaves_one : {K : Type 0} (takes : K → Handed → K → Type 0) (r : Running) (h : Handed)
    (frames : ℕ) (old new : K) (took took' : List ℕ) → frames ≡ one_more r.frames
    → TellsEvents takes old new took took' (Left h r.late ∷ [])
    → LeavesWith takes r (record r { frames = frames; late = 0 }) (h ∷ []) old new took took'
leaves_one takes r h frames old new took took' counted_so told = record {
  running = ap (λ (n : ℕ). counted r r.follower n 0) counted_so;
  told = told;
}

-- none that does
pub leaves_none : {K : Type 0} (takes : K → Handed → K → Type 0) (r : Running) (k : K)
    (took : List ℕ) → LeavesWith takes r r [] k k took took
leaves_none takes r k took = record { running = refl; told = told_none takes k took }

-- ---- followed anew

-- all leave, and the stream begins anew
anew_at : (r m : Running) (t : Following) (need : Noted) → m ≡ without r (frames_in r.follower) m.follower
    → with_window m.follower.opening [] ≡ with_window r.follower.opening []
    → m.follower.size ≡ r.follower.size → m.follower.most_ahead ≡ r.follower.most_ahead
    → t ≡ opened m.follower.opening m.follower.size m.follower.most_ahead
    → need ≡ record { newest = []; need = m.need.need }
    → record m { follower = t; need = need } ≡ anew r
anew_at r m t need is opening size ahead begun forgot =
    let f : Following = m.follower in
    let again : t ≡ opened r.follower.opening r.follower.size r.follower.most_ahead =
    begun ∙ ap (λ (o : Opening). begun_by o f.size f.most_ahead) opening
    ∙ ap (λ (n : ℕ). begun_by (with_window r.follower.opening []) n f.most_ahead) size
    ∙ ap (λ (n : ℕ). begun_by (with_window r.follower.opening []) r.follower.size n) ahead in
    ap (λ (x : Noted). record m { follower = t; need = x }) forgot
    ∙ ap (λ (x : Following). record m { follower = x; need = forgotten m.need.need }) again
    ∙ ap (λ (x : Running).
    record x {
      follower = opened r.follower.opening r.follower.size r.follower.most_ahead;
      need = forgotten x.need.need;
    }) is

pub begins_anew : {A K : Type 0} (takes : K → Handed → K → Type 0) (timestamp : ℕ)
    (r m r' : Run A) (old new : K) (took took' took'' : List ℕ)
    → (done : Finishes takes r m old new took took') → IsSoundRun r'
    → r'.follower ≡ opened m.follower.opening m.follower.size m.follower.most_ahead
    → r'.need ≡ record { newest = []; need = m.need.need }
    → running_of r' ≡ record (running_of m) { follower = r'.follower; need = r'.need }
    → TellsEvents takes new new took' took'' (Anew timestamp ∷ [])
    → BeginsAnew takes timestamp r r' old new took took''
begins_anew takes timestamp r m r' old new took took' took'' done run begun forgot same told = record {
  run = run;
  running =
      same
      ∙ anew_at (running_of r) (running_of m) r'.follower r'.need done.running done.opening done.size
      done.ahead begun forgot;
  told = told_both takes old new new took took' took'' (leaving r.late (frames_in r.follower))
      (Anew timestamp ∷ []) done.told told;
}
