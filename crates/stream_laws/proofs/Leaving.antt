-- The frames that leave a stream that isn't followed anew.
use Rattle.std.proofs.Common.{◌≡◌, ◌∙◌, ℕ, Bool, false, List, ap, inl, inr, map, refl, subst, sym}
use Rattle.follow_engine.specs.Events.{behind_all, frames_of_events, running_from}
use Rattle.follow_engine.specs.Followed.{followed_events}
use Rattle.follow_engine.specs.Order.{datagrams_in}
use Rattle.follow_engine.specs.Plain.{NoneAnew}
use Rattle.follow_engine.specs.declared.opening.FollowAsked.{FollowAsked}
use Rattle.follow_engine.proofs.Without.{plain_frames}
use Rattle.following.specs.Acts.{AreNearby}
use Rattle.following.specs.Follower.{Following, opened}
use Rattle.following.specs.Following.{Handed}
use Rattle.following.specs.Pictures.{BroughtAll, IsOfSome, pictures_from, timed_from}
use Rattle.following.specs.Times.{AreTimed, Timed, handed_at, in_order, octets_of, times_of}
use Rattle.following.specs.Turned.{handed_all, kept_of}
use Rattle.following.proofs.Lost.{kept_stream}
use Rattle.following.proofs.Made.{of_some}
use Rattle.following.proofs.PromptPictures.{prompt_pictures}
use Rattle.following.proofs.Pictures.{timed-octets}
use Rattle.media_file.specs.Records.{Entry}
use Rattle.packet_plan.specs.Sender.{Sender}
use Rattle.path_receiver.specs.Opening.{Opening}
use Rattle.st_format.specs.Member.{IsMember}
use Rattle.st_format.specs.Picture.{Values}
use Rattle.st_format.specs.Raster.{Raster}
use Rattle.stream_laws.specs.Brought.{GoesInTime, GoesPrompt, IsInTime, LosesNone}
use Rattle.stream_laws.proofs.LosesNone.{orderly_none}
use Rattle.stream_laws.proofs.NoneLate.{IsClear, all_kept, none_counted, totals_clear, totals_plain}
use Rattle.stream_laws.proofs.SenderTimes.{are_near, are_timed, frames_of_times, near_one}

pub frame_format : (w : FollowAsked) (o : Opening) (entries : List Entry) (h : Handed)
    → NoneAnew w.is_eager (running_from (opened o w.frames 900000)) (datagrams_in entries)
    → IsMember h (frames_of_events (followed_events w o entries)) → h.frame.format ≡ o.format
frame_format w o entries h plain m =
    let f : Following = opened o w.frames 900000 in
    let ds : List (List ℕ) = datagrams_in entries in
    let some : IsOfSome o ds h =
    of_some w.is_eager o w.frames 900000 ds h
    (subst (λ (hs : List Handed). IsMember h hs)
    (plain_frames w.is_eager (running_from f) ds plain) m) in
    ap (λ (r : Raster). r.format) some.is

-- ---- a sender's

-- None of its datagrams is lost, where they came in such an order.
pub none_late : (w : FollowAsked) (o : Opening) (s : Sender) (ps : List Values)
    (entries : List Entry) → BroughtAll o s ps (datagrams_in entries)
    → GoesInTime w o s.base entries → LosesNone w o entries
none_late w o s ps entries brought time =
    let f : Following = opened o w.frames 900000 in
    let ds : List (List ℕ) = datagrams_in entries in
    let xs : List Timed = map (timed_from o s.base) ds in
    let clear : IsClear (behind_all w.is_eager (running_from f) ds).tally =
    subst (λ (b : Bool). IsClear (behind_all b (running_from f) ds).tally) (sym time.due)
    (subst (λ (es : List (List ℕ)). IsClear (behind_all false (running_from f) es).tally)
    (timed-octets o s.base ds)
    (none_counted (running_from f) xs (record { late = refl; far = refl })
    (orderly_none o w.frames 900000 time.frames.some xs (are_timed o s ps ds brought)
    time.orderly (near_one o s ps ds brought)))) in
    record { frames = time.frames; late = clear.late; far = clear.far }

-- Where none was lost, its frames are the sender's pictures.
kept_frames : (w : FollowAsked) (o : Opening) (s : Sender) (ps : List Values)
    (entries : List Entry) → BroughtAll o s ps (datagrams_in entries) → LosesNone w o entries
    → frames_of_events (followed_events w o entries) ≡ pictures_from s 0 ps
kept_frames w o s ps entries brought none =
    let f : Following = opened o w.frames 900000 in
    let ds : List (List ℕ) = datagrams_in entries in
    let xs : List Timed = map (timed_from o s.base) ds in
    let octets : octets_of xs ≡ ds = timed-octets o s.base ds in
    let kept : kept_of w.is_eager f xs ≡ xs =
    all_kept w.is_eager (running_from f) xs
    (subst (λ (es : List (List ℕ)). IsClear (behind_all w.is_eager (running_from f) es).tally)
    (sym octets) (totals_clear w o entries none.late none.far)) in
    plain_frames w.is_eager (running_from f) ds (totals_plain w o entries none.late none.far)
    ∙ ap (λ (es : List (List ℕ)). handed_all w.is_eager f es) (sym octets)
    ∙ kept_stream w.is_eager o w.frames 900000 xs none.frames.some
    (subst (λ (ys : List Timed). AreTimed o ys) (sym kept) (are_timed o s ps ds brought))
    (subst (λ (ys : List Timed). AreNearby w.frames (times_of o ys)) (sym kept)
    (are_near o s ps ds brought w.frames))
    ∙ ap (λ (ys : List Timed). map (handed_at o ys) (in_order (times_of o ys))) kept
    ∙ frames_of_times o s ps ds brought

-- So they are where what comes late is a repeat, also where frames leave early.
prompt_frames : (w : FollowAsked) (o : Opening) (s : Sender) (ps : List Values)
    (entries : List Entry) → BroughtAll o s ps (datagrams_in entries)
    → GoesPrompt w o s.base entries
    → frames_of_events (followed_events w o entries) ≡ pictures_from s 0 ps
prompt_frames w o s ps entries brought goes =
    let ds : List (List ℕ) = datagrams_in entries in
    plain_frames w.is_eager (running_from (opened o w.frames 900000)) ds goes.plain
    ∙ prompt_pictures w.is_eager o w.frames 900000 s ps ds goes.frames.some brought goes.prompt

pub in_time_frames : (w : FollowAsked) (o : Opening) (s : Sender) (ps : List Values)
    (entries : List Entry) → BroughtAll o s ps (datagrams_in entries)
    → IsInTime w o s.base entries
    → frames_of_events (followed_events w o entries) ≡ pictures_from s 0 ps
in_time_frames w o s ps entries brought (inl time) =
    kept_frames w o s ps entries brought (none_late w o s ps entries brought time)
in_time_frames w o s ps entries brought (inr (inl none)) =
    kept_frames w o s ps entries brought none
in_time_frames w o s ps entries brought (inr (inr goes)) =
    prompt_frames w o s ps entries brought goes
