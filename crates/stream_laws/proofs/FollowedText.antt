-- What is written of a stream that was followed.
use Rattle.std.proofs.Common.{◌≡◌, ◌∙◌, ℕ, List, [], ◌∷◌, ◌++◌, Option, None, Some, Result, ap}
use Rattle.std.proofs.Common.{append-nil, append_assoc, subst, sym}
use Rattle.std.specs.List.{flat_map}
use Rattle.capture_engines.specs.Files.{files_datagrams}
use Rattle.capture_engines.specs.Sending.{run_sender}
use Rattle.capture_engines.specs.declared.sender.Sending.{Sending}
use Rattle.follow_runs.specs.Followed.{FollowsFiles, IsListed}
use Rattle.follow_runs.specs.Outputs.{outputs_of}
use Rattle.capture_runs.specs.Replayed.{replayed_ended, replayed_gave}
use Rattle.follow_runs.specs.declared.outputs.FollowOutputs.{FollowOutputs}
use Rattle.follow_runs.specs.declared.picture_directory.PictureDirectory.{PictureDirectory}
use Rattle.capture_runs.specs.declared.replayed.Replayed.{Replayed}
use Rattle.devices.specs.Filed.{filed_files}
use Rattle.devices.specs.Passed.{file_took}
use Rattle.devices.specs.declared.file_output.FileOutput.{FileOutput}
use Rattle.flow.specs.declared.flows.Flows.{Flows}
use Rattle.follow_engine.specs.Events.{frames_of_events, running_from}
use Rattle.follow_engine.specs.Followed.{FollowsWhole, followed_events}
use Rattle.follow_engine.specs.Order.{datagrams_in}
use Rattle.follow_engine.specs.Plain.{NoneAnew}
use Rattle.follow_engine.specs.Running.{steering_of}
use Rattle.follow_engine.specs.Shown.{TakesEachFrame}
use Rattle.follow_engine.specs.Sides.{SideRead}
use Rattle.follow_engine.specs.declared.opening.FollowAsked.{FollowAsked}
use Rattle.follow_engine.specs.declared.telling.FollowTotals.{FollowTotals}
use Rattle.following.specs.Follower.{opened}
use Rattle.following.specs.Following.{Handed}
use Rattle.following.specs.Pictures.{BroughtAll, pictures_from}
use Rattle.frame_sinks.specs.Files.{files_for}
use Rattle.frame_sinks.specs.Pictures.{form_stream, held_by, picture_of, pictures_of}
use Rattle.frame_sinks.specs.Sinks.{SinkTakes}
use Rattle.frame_sinks.specs.declared.filling.Filling.{Filling}
use Rattle.frame_sinks.specs.declared.form_sink.FormSink.{FormSink}
use Rattle.frame_sinks.proofs.Streams.{all_written, rgb_stream, ycc_stream}
use Rattle.packet_plan.specs.Sender.{Sender}
use Rattle.path_receiver.specs.Opening.{Opening}
use Rattle.picture_forms.specs.Layouts.{IsRgb, IsYcc, pixmap_text, y4m_text}
use Rattle.run_laws.specs.Sent.{IsSentFile}
use Rattle.run_outcome.specs.declared.refusal.Refusal.{Refusal}
use Rattle.side_by_side.specs.declared.side.Side.{Side}
use Rattle.st_format.specs.declared.format.Format.{Format}
use Rattle.st_format.specs.Member.{IsMember}
use Rattle.st_format.specs.Picture.{Values}
use Rattle.stream_laws.specs.Brought.{AreWhole, AwaitsPictures, BringDatagrams, IsInTime}
use Rattle.stream_laws.proofs.Leaving.{frame_format, in_time_frames}
use Rattle.stream_laws.proofs.SameStream.{files_taken, same_as_both}
use Rattle.stream_laws.proofs.Settled.{pictures_formats, pictures_whole, sender_formats}

-- ---- frames as a stream

-- of frames of one format
format_text : (f : Format) (filling : Filling) (fill : Option (List ℕ)) (held : Option Values)
    (h : Handed) (hs : List Handed) → IsYcc f.sampling
    → ((x : Handed) → IsMember x (h ∷ hs) → x.frame.format ≡ f)
    → form_stream None (pictures_of filling fill held (h ∷ hs))
    ≡ y4m_text f (pictures_of filling fill held (h ∷ hs))
format_text f filling fill held h hs ycc all =
    let p : Values = picture_of fill held h.frame in
    ycc_stream f p (pictures_of filling fill (held_by filling p) hs) ycc
    (pictures_formats f filling fill held (h ∷ hs) all)

-- of the frames of a sender's pictures
module _ (wanted : Sending) (text : List ℕ) (format : Format) (capture : List ℕ)
    (filling : Filling) (fill : Option (List ℕ)) (held : Option Values) (hs : List Handed)
  where
    abbrev s : Sender
    s = run_sender format wanted

    ycc_text : (p : Values) (ps : List Values) → IsSentFile wanted text format (p ∷ ps) capture
        → AreWhole (p ∷ ps) → hs ≡ pictures_from s 0 (p ∷ ps) → IsYcc format.sampling
        → form_stream None (pictures_of filling fill held hs) ≡ y4m_text format (p ∷ ps)
    ycc_text p ps sent whole frames ycc =
        ap (λ (xs : List Handed). form_stream None (pictures_of filling fill held xs)) frames
        ∙ ap (λ (qs : List Values). form_stream None qs)
        (pictures_whole filling fill held s 0 (p ∷ ps) whole)
        ∙ ycc_stream format p ps ycc
        (sender_formats s 0 (p ∷ ps) wanted.first sent.datagrams sent.sent.sent)

    rgb_text : (ps : List Values) → IsSentFile wanted text format ps capture → AreWhole ps
        → hs ≡ pictures_from s 0 ps → IsRgb format.sampling
        → form_stream None (pictures_of filling fill held hs) ≡ flat_map pixmap_text ps
    rgb_text ps sent whole frames rgb =
        ap (λ (xs : List Handed). form_stream None (pictures_of filling fill held xs)) frames
        ∙ ap (λ (qs : List Values). form_stream None qs)
        (pictures_whole filling fill held s 0 ps whole)
        ∙ rgb_stream format ps rgb
        (sender_formats s 0 ps wanted.first sent.datagrams sent.sent.sent)

-- ---- a stream that was followed

module _ {S T : Type 0} (told : S → List ℕ → Type 0) (takes : T → Handed → T → Type 0)
    (w : FollowAsked) (sdp : Option (List ℕ)) (ways : List (Result Flows Refusal))
    (files : List S) (k l : T) (printed printed' : List ℕ) (totals : FollowTotals)
    (is : FollowsWhole w sdp ways told files takes k l printed printed' totals)
  where
    abbrev frames : List Handed
    frames = frames_of_events (followed_events w is.opening is.entries)

    -- the frames of what was sent
    pub sent_frames : (wanted : Sending) (text : List ℕ) (format : Format) (ps : List Values)
        (capture : List ℕ) (sent : IsSentFile wanted text format ps capture)
        → BringDatagrams told ways files sent.datagrams
        → AwaitsPictures is.opening (run_sender format wanted) ps
        → IsInTime w is.opening wanted.base is.entries
        → frames ≡ pictures_from (run_sender format wanted) 0 ps
    sent_frames wanted text format ps capture sent bring awaits time =
        let s : Sender = run_sender format wanted in
        let brought : BroughtAll is.opening s ps (datagrams_in is.entries) = record {
          first = wanted.first;
          sent = sent.datagrams;
          list = sent.sent;
          opened = awaits.opened;
          whole = awaits.whole;
          same =
              same_as_both (datagrams_in is.entries) (files_datagrams ways bring.octets)
              sent.datagrams
              (files_taken (steering_of is.opening) ways bring.octets is.entries
              (is.goes bring.octets bring.read)) bring.same;
        } in
        in_time_frames w is.opening s ps is.entries brought time

-- ---- into a sink

module _ {S K A : Type 0} (told : S → List ℕ → Type 0) (took : K → List ℕ) (w : FollowAsked)
    (sdp : Option (List ℕ)) (ways : List (Result Flows Refusal)) (files : List S)
    (k l : FormSink K A) (printed printed' : List ℕ) (totals : FollowTotals)
    (is : FollowsWhole w sdp ways told files (SinkTakes took) k l printed printed' totals)
  where
    abbrev shown : List Handed
    shown = frames_of_events (followed_events w is.opening is.entries)

    new_stream : k.format ≡ None
        → took l.sink ≡ took k.sink
        ++ form_stream None (pictures_of k.settling.filling k.settling.fill k.settling.held shown)
    new_stream begun =
        all_written took k l shown is.shown
        ∙ ap (λ (b : Option Format). took k.sink
        ++ form_stream b (pictures_of k.settling.filling k.settling.fill k.settling.held shown))
        begun

    pub one_stream_text : (h : Handed) (hs : List Handed)
        → NoneAnew w.is_eager (running_from (opened is.opening w.frames 900000))
        (datagrams_in is.entries)
        → shown ≡ h ∷ hs → IsYcc is.opening.format.sampling → k.format ≡ None
        → took l.sink ≡ took k.sink ++ y4m_text is.opening.format
        (pictures_of k.settling.filling k.settling.fill k.settling.held (h ∷ hs))
    one_stream_text h hs plain are ycc begun =
        new_stream begun
        ∙ ap (λ (xs : List Handed). took k.sink
        ++ form_stream None (pictures_of k.settling.filling k.settling.fill k.settling.held xs)) are
        ∙ ap (λ (t : List ℕ). took k.sink ++ t)
        (format_text is.opening.format k.settling.filling k.settling.fill k.settling.held h hs ycc
        (λ x m. frame_format w is.opening is.entries x plain
        (subst (λ (xs : List Handed). IsMember x xs) (sym are) m)))

    pub sink_ycc : (wanted : Sending) (text : List ℕ) (format : Format) (p : Values)
        (ps : List Values) (capture : List ℕ)
        (sent : IsSentFile wanted text format (p ∷ ps) capture)
        → BringDatagrams told ways files sent.datagrams
        → AwaitsPictures is.opening (run_sender format wanted) (p ∷ ps)
        → IsInTime w is.opening wanted.base is.entries → IsYcc format.sampling
        → k.format ≡ None → took l.sink ≡ took k.sink ++ y4m_text format (p ∷ ps)
    sink_ycc wanted text format p ps capture sent bring awaits time ycc begun =
        new_stream begun
        ∙ ap (λ (t : List ℕ). took k.sink ++ t)
        (ycc_text wanted text format capture k.settling.filling k.settling.fill
        k.settling.held shown p ps sent awaits.whole
        (sent_frames told (SinkTakes took) w sdp ways files k l printed printed' totals is wanted
        text format (p ∷ ps) capture sent bring awaits time) ycc)

    pub sink_rgb : (wanted : Sending) (text : List ℕ) (format : Format) (ps : List Values)
        (capture : List ℕ) (sent : IsSentFile wanted text format ps capture)
        → BringDatagrams told ways files sent.datagrams
        → AwaitsPictures is.opening (run_sender format wanted) ps
        → IsInTime w is.opening wanted.base is.entries → IsRgb format.sampling
        → k.format ≡ None → took l.sink ≡ took k.sink ++ flat_map pixmap_text ps
    sink_rgb wanted text format ps capture sent bring awaits time rgb begun =
        new_stream begun
        ∙ ap (λ (t : List ℕ). took k.sink ++ t)
        (rgb_text wanted text format capture k.settling.filling k.settling.fill
        k.settling.held shown ps sent awaits.whole
        (sent_frames told (SinkTakes took) w sdp ways files k l printed printed' totals is wanted
        text format ps capture sent bring awaits time) rgb)

-- ---- into the command's file

-- frames that are listed are those that were shown
all_listed : (hs old new : List Handed) → TakesEachFrame IsListed old hs new → new ≡ old ++ hs
all_listed [] old new is = is ∙ sym (append-nil old)
all_listed (h ∷ hs) old new is =
    all_listed hs is.0 new is.2 ∙ ap (λ (l : List Handed). l ++ hs) is.1
    ∙ append_assoc old (h ∷ []) hs

module _ {A : Type 0} (w : FollowAsked) (sdp : Option (List ℕ))
    (ways : List (Result Flows Refusal)) (files : List (Side A Replayed × Side A Replayed))
    (filling : Filling) (fill : Option (List ℕ)) (outputs outputs' : FollowOutputs)
    (printed printed' : List ℕ)
    (is : FollowsFiles w sdp ways files filling fill outputs outputs' printed printed')
  where
    abbrev Told : Side A Replayed × Side A Replayed → List ℕ → Type 0
    Told = SideRead replayed_gave replayed_ended

    abbrev o : Opening
    o = is.follows.opening

    file_frames : (wanted : Sending) (text : List ℕ) (format : Format) (ps : List Values)
        (capture : List ℕ) (sent : IsSentFile wanted text format ps capture)
        → BringDatagrams Told ways files sent.datagrams
        → AwaitsPictures o (run_sender format wanted) ps
        → IsInTime w o wanted.base is.follows.entries
        → is.frames ≡ pictures_from (run_sender format wanted) 0 ps
    file_frames wanted text format ps capture sent bring awaits time =
        all_listed (frames_of_events (followed_events w o is.follows.entries)) [] is.frames
        is.follows.shown
        ∙ sent_frames Told IsListed w sdp ways files [] is.frames printed printed' is.totals
        is.follows wanted text format ps capture sent bring awaits time

module _ {A : Type 0} (w : FollowAsked) (sdp : Option (List ℕ))
    (ways : List (Result Flows Refusal)) (files : List (Side A Replayed × Side A Replayed))
    (filling : Filling) (fill : Option (List ℕ)) (out out' : FileOutput)
    (report report' : Option FileOutput) (directory directory' : Option PictureDirectory)
    (printed printed' : List ℕ)
    (is : FollowsFiles w sdp ways files filling fill (outputs_of (Some out) report directory)
    (outputs_of (Some out') report' directory') printed printed')
  where
    abbrev before : FollowOutputs
    before = outputs_of (Some out) report directory

    abbrev behind : FollowOutputs
    behind = outputs_of (Some out') report' directory'

    pub file_ycc : (wanted : Sending) (text : List ℕ) (format : Format) (p : Values)
        (ps : List Values) (capture : List ℕ)
        (sent : IsSentFile wanted text format (p ∷ ps) capture)
        → BringDatagrams (SideRead replayed_gave replayed_ended) ways files sent.datagrams
        → AwaitsPictures is.follows.opening (run_sender format wanted) (p ∷ ps)
        → IsInTime w is.follows.opening wanted.base is.follows.entries → IsYcc format.sampling
        → file_took out' ≡ file_took out ++ y4m_text format (p ∷ ps)
    file_ycc wanted text format p ps capture sent bring awaits time ycc =
        is.written
        ∙ ap (λ (t : List ℕ). file_took out ++ t)
        (ycc_text wanted text format capture filling fill None is.frames p ps sent awaits.whole
        (file_frames w sdp ways files filling fill before behind printed printed' is wanted text
        format (p ∷ ps) capture sent bring awaits time) ycc)

    pub file_rgb : (wanted : Sending) (text : List ℕ) (format : Format) (ps : List Values)
        (capture : List ℕ) (sent : IsSentFile wanted text format ps capture)
        → BringDatagrams (SideRead replayed_gave replayed_ended) ways files sent.datagrams
        → AwaitsPictures is.follows.opening (run_sender format wanted) ps
        → IsInTime w is.follows.opening wanted.base is.follows.entries → IsRgb format.sampling
        → file_took out' ≡ file_took out ++ flat_map pixmap_text ps
    file_rgb wanted text format ps capture sent bring awaits time rgb =
        is.written
        ∙ ap (λ (t : List ℕ). file_took out ++ t)
        (rgb_text wanted text format capture filling fill None is.frames ps sent awaits.whole
        (file_frames w sdp ways files filling fill before behind printed printed' is wanted text
        format ps capture sent bring awaits time) rgb)

-- ---- into the command's directory

module _ {A : Type 0} (w : FollowAsked) (sdp : Option (List ℕ))
    (ways : List (Result Flows Refusal)) (files : List (Side A Replayed × Side A Replayed))
    (filling : Filling) (fill : Option (List ℕ)) (out out' report report' : Option FileOutput)
    (directory directory' : PictureDirectory) (printed printed' : List ℕ)
    (is : FollowsFiles w sdp ways files filling fill (outputs_of out report (Some directory))
    (outputs_of out' report' (Some directory')) printed printed')
  where
    pub picture_files : (wanted : Sending) (text : List ℕ) (format : Format) (ps : List Values)
        (capture : List ℕ) (sent : IsSentFile wanted text format ps capture)
        → BringDatagrams (SideRead replayed_gave replayed_ended) ways files sent.datagrams
        → AwaitsPictures is.follows.opening (run_sender format wanted) ps
        → IsInTime w is.follows.opening wanted.base is.follows.entries
        → filed_files directory'.directory ≡ filed_files directory.directory
        ++ files_for (pictures_from (run_sender format wanted) 0 ps) ps
    picture_files wanted text format ps capture sent bring awaits time =
        let s : Sender = run_sender format wanted in
        let kept : List (List ℕ × List ℕ) = filed_files directory.directory in
        is.filed
        ∙ ap (λ (hs : List Handed). kept ++ files_for hs (pictures_of filling fill None hs))
        (file_frames w sdp ways files filling fill (outputs_of out report (Some directory))
        (outputs_of out' report' (Some directory')) printed printed' is wanted text format ps
        capture sent bring awaits time)
        ∙ ap (λ (qs : List Values). kept ++ files_for (pictures_from s 0 ps) qs)
        (pictures_whole filling fill None s 0 ps awaits.whole)
