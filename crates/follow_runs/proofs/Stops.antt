-- The files of `follow` where a run is refused.
use Rattle.std.proofs.Common.{◌≡◌, ℕ, inl, inr, List, [], Option, Result, Ok, Err, IfErr, refl}
use Rattle.std.proofs.Common.{subst, sym}
use Rattle.follow_runs.specs.Followed.{StopsFiles}
use Rattle.follow_runs.specs.Outputs.{AreSinksOver, FilesFrames, FollowSinks, SameOutputs}
use Rattle.follow_runs.specs.Outputs.{TakesAllOver, outputs_under}
use Rattle.capture_runs.specs.Replayed.{replayed_ended, replayed_gave}
use Rattle.follow_runs.specs.declared.outputs.FollowOutputs.{FollowOutputs}
use Rattle.follow_runs.specs.declared.picture_directory.PictureDirectory.{PictureDirectory}
use Rattle.capture_runs.specs.declared.replayed.Replayed.{Replayed}
use Rattle.flow.specs.declared.flows.Flows.{Flows}
use Rattle.follow_engine.specs.Events.{frames_of_events}
use Rattle.follow_engine.specs.Followed.{StopsShort, first_events}
use Rattle.follow_engine.specs.Sides.{SideRead}
use Rattle.follow_engine.specs.declared.opening.FollowAsked.{FollowAsked}
use Rattle.following.specs.Following.{Handed}
use Rattle.frame_sinks.specs.declared.filling.Filling.{Filling}
use Rattle.run_outcome.specs.Fault.{IfRefused}
use Rattle.run_outcome.specs.Refusing.{OfRefusal}
use Rattle.run_outcome.specs.declared.fault.Fault.{Fault}
use Rattle.run_outcome.specs.declared.fault.Fault.TheVariants.{Device, Memory, Refused}
use Rattle.run_outcome.specs.declared.refusal.Refusal.{Refusal}
use Rattle.side_by_side.specs.declared.side.Side.{Side}
use Rattle.follow_runs.proofs.FileUnder.{all_under, listed, settled_pictures, settled_report}

pub stops_files : {A B : Type 0} (w : FollowAsked) (sdp : Option (List ℕ))
    (ways : List (Result Flows Refusal)) (files : List (Side B Replayed × Side B Replayed))
    (filling : Filling) (fill : Option (List ℕ)) (o : FollowOutputs)
    (k l : FollowSinks A) (took took' : List ℕ) → AreSinksOver filling fill o k
    → StopsShort w sdp ways (SideRead replayed_gave replayed_ended) files TakesAllOver k l
    took took'
    → StopsFiles w sdp ways files filling fill o (outputs_under l) took took'
stops_files w sdp ways files filling fill o k l took took' over (inl none) =
    let under = all_under filling fill o k l [] over none.0 in
    record {
      frames = [];
      stops = inl (refl, none.1);
      written = under.0;
      reported = under.1;
      filed = under.2;
    }
stops_files w sdp ways files filling fill o k l took took' over (inr is) =
    let frames : List Handed = frames_of_events (first_events w is.opening is.entries) in
    let under = all_under filling fill o k l frames over is.tells.shown in
    record {
      frames = frames;
      stops = inr (record {
        opening = is.opening;
        entries = is.entries;
        no_window = is.no_window;
        source_is = is.source_is;
        announced = is.announced;
        goes = is.goes;
        tells = record { printed = is.tells.printed; shown = listed frames [] };
      });
      written = under.0;
      reported = under.1;
      filed = under.2;
    }

-- the same by other names of the text and of the ways
pub stops_same : {A B : Type 0} (w : FollowAsked) (sdp sdp' : Option (List ℕ))
    (ways ways' : List (Result Flows Refusal)) (files : List (Side B Replayed × Side B Replayed))
    (k l : FollowSinks A) (took took' : List ℕ) → sdp ≡ sdp' → ways ≡ ways'
    → StopsShort w sdp ways (SideRead replayed_gave replayed_ended) files TakesAllOver k l
    took took'
    → StopsShort w sdp' ways' (SideRead replayed_gave replayed_ended) files TakesAllOver k l
    took took'
stops_same w sdp sdp' ways ways' files k l took took' text way is =
    subst (λ (x : Option (List ℕ)). StopsShort w x ways'
    (SideRead replayed_gave replayed_ended) files TakesAllOver k l took took') text
    (subst (λ (x : List (Result Flows Refusal)). StopsShort w sdp x
    (SideRead replayed_gave replayed_ended) files TakesAllOver k l took took') way is)

-- settled they hold the same
pub settled_stops : {A : Type 0} (w : FollowAsked) (sdp : Option (List ℕ))
    (ways : List (Result Flows Refusal)) (files : List (Side A Replayed × Side A Replayed))
    (filling : Filling) (fill : Option (List ℕ)) (out mid new : FollowOutputs)
    (took took' : List ℕ) → StopsFiles w sdp ways files filling fill out mid took took'
    → SameOutputs mid new → StopsFiles w sdp ways files filling fill out new took took'
settled_stops w sdp ways files filling fill out mid new took took' is same = record {
  frames = is.frames;
  stops = is.stops;
  written = settled_pictures filling fill is.frames out.out mid.out new.out is.written same.0;
  reported = settled_report is.frames out.report mid.report new.report is.reported same.1;
  filed =
      subst (λ (x : Option PictureDirectory). FilesFrames filling fill is.frames out.pictures x)
      (sym same.2) is.filed;
}

-- what holds of a refusal, and what holds beside it
pub both_refused : {V : Type 0} (P : Refusal → Type 0) (Q : Type 0) (r : Result V Fault)
    → IfErr r (λ f. OfRefusal f P) → IfErr r (λ f. IfRefused f Q)
    → IfErr r (λ f. OfRefusal f (λ x. P x × Q))
both_refused P Q (Ok v) is also = tt
both_refused P Q (Err (Refused x)) is also = (is, also)
both_refused P Q (Err Device) is also = tt
both_refused P Q (Err Memory) is also = tt
