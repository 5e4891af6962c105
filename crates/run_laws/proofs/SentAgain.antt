-- What was sent and received is the pictures.
use Rattle.std.proofs.Common.{◌≡◌, ℕ, ◌^◌, ◌<◌, ◌≤◌, List, [], ◌∷◌, Option, Some, length, sym}
use Rattle.std.proofs.Common.{subst, inl, arith}
use Rattle.st_format.specs.Device.{AreOctets}
use Rattle.st_format.specs.History.{since}
use Rattle.st_format.specs.Member.{SameDatagrams}
use Rattle.st_format.specs.Picture.{Values, timestamp_of}
use Rattle.st_format.specs.Position.{Position}
use Rattle.st_format.specs.declared.format.Format.{Format}
use Rattle.st_format.proofs.Histories.{since_is}
use Rattle.media_file.specs.Writer.{written_text}
use Rattle.packet_plan.specs.Sender.{Sender}
use Rattle.packet_plan.specs.declared.stamp.Stamp.{Stamp}
use Rattle.path_receiver.specs.Frames.{State, cell_in, frame_at}
use Rattle.path_receiver.specs.Sender.{AreAmong, IsSendersCell, picture_raster}
use Rattle.path_receiver.specs.TookSent.{Awaits, TookOfSender, TookPicture}
use Rattle.path_receiver.proofs.Held.{all_of_sender, cells_of_sender, whole_by_others}
use Rattle.key_mix.specs.declared.Job.{Job}
use Rattle.run_outcome.specs.Moments.{WasRead}
use Rattle.run_outcome.specs.Text.{GivesText}
use Rattle.capture_engines.specs.Files.{capture_datagrams}
use Rattle.capture_engines.specs.Migrating.{Migrates}
use Rattle.capture_engines.specs.Sending.{SayPictures, SendsAll, TakesPictures, run_sender}
use Rattle.capture_engines.specs.declared.sender.Sending.{Sending}
use Rattle.receiver_engines.specs.Processing.{TakesSaid}
use Rattle.recording_reader.specs.Files.{text_of_file}
use Rattle.run_laws.specs.Received.{IsReceivedFile}
use Rattle.run_laws.specs.Sent.{AwaitsPicture, IsSentFile, IsSentOf}
use Rattle.run_laws.proofs.Captures.{moved_datagrams, moved_text}
use Rattle.run_laws.proofs.Receiving.{same_file}

-- ---- a run of `send`

module _ {S : Type 0} (gave : S → List ℕ) (ended : S → Type 0) (wanted : Sending)
    (sdp sdp_later : Option S) (first first_later : S) (others others_later : List S)
    (old new printed printed_new : List ℕ)
    (sent : SendsAll gave ended wanted sdp sdp_later (first ∷ others)
    (first_later ∷ others_later) old new printed printed_new)
  where
    abbrev Is : Type 0
    Is = IsSentOf gave ended wanted sdp sdp_later (first ∷ others) (first_later ∷ others_later)
        (since old new)

    by_pictures : (ps : List Values)
        → SayPictures (WasRead gave ended) (first ∷ others) (first_later ∷ others_later) ps
        → TakesPictures wanted sent.text ps old new sent.count → Is
    by_pictures [] say taken = absurd say
    by_pictures (p ∷ ps) say taken = record {
      text = sent.text;
      says = sent.says;
      format = p.format;
      pictures = p ∷ ps;
      say = say;
      is =
          record {
            datagrams = taken.datagrams;
            sent = taken.sent;
            file_is =
                since_is old new (written_text wanted.paths sent.text taken.datagrams)
                taken.taken;
          };
    }

    pub sent_of : Is
    sent_of = by_pictures sent.pictures.pictures sent.pictures.say sent.pictures.taken

-- ---- received

module _ (wanted : Sending) (text : List ℕ) (format : Format) (pictures : List Values)
    (capture window source said : List ℕ) (datagrams : List (List ℕ)) (file : List ℕ)
    (sent : IsSentFile wanted text format pictures capture)
    (received : IsReceivedFile window source said datagrams file)
  where
    abbrev r : State
    r = received.receiver

    abbrev s : Sender
    s = run_sender format wanted

    took : AreAmong datagrams sent.datagrams → format ≡ r.opening.format
        → TookOfSender r s pictures
    took among same = record {
      first = wanted.first;
      sent = sent.datagrams;
      list = sent.sent;
      format = same;
      taken = datagrams;
      holds = received.holds;
      among = among;
    }

    pub pictures_received : (k : ℕ) (p : Values) → SameDatagrams sent.datagrams datagrams
        → Awaits r s pictures k p
        → frame_at r.opening.window r.frames (timestamp_of format wanted.base k)
        ≡ Some (picture_raster p)
    unfolding took
    pictures_received k p same awaits =
        all_of_sender r s pictures k p (took same.back awaits.opened.format) awaits same.forth

    pub values_received : (timestamp : ℕ) (at : Position) → AreAmong datagrams sent.datagrams
        → format ≡ r.opening.format
        → IsSendersCell (cell_in r timestamp at) s pictures timestamp at
    values_received timestamp at among same =
        cells_of_sender r s pictures (took among same) timestamp at

module _ (text : List ℕ) (job : Job) (pictures : List Values) (size : ℕ) (stamp : Stamp)
    (old new : List ℕ) (count : ℕ) (window source said : List ℕ) (datagrams : List (List ℕ))
    (file : List ℕ) (sent : TakesSaid text job pictures size stamp old new count)
    (received : IsReceivedFile window source said datagrams file)
  where
    abbrev q : State
    q = received.receiver

    pub job_received : SameDatagrams sent.datagrams datagrams
        → AwaitsPicture q sent.spell.picture stamp
        → frame_at q.opening.window q.frames stamp.timestamp
        ≡ Some (picture_raster sent.spell.picture)
    job_received same awaits =
        let took : TookPicture q sent.spell.picture stamp = record {
          opened = awaits.opened;
          inside = awaits.inside;
          whole = awaits.whole;
          size = size;
          packets = sent.spell.plan;
          sent = sent.datagrams;
          picture = sent.spell.sent;
          taken = datagrams;
          holds = received.holds;
          all = same.forth;
        } in
        whole_by_others q sent.spell.picture stamp took (λ octets m. inl (same.back octets m))

-- ---- a migrated capture

module _ (gave gave' : List ℕ) (end : Type 0) (before now : List ℕ) (ended : Type 0)
    (old new : List ℕ)
    (moved : Migrates (GivesText 65535 gave gave' end) before now ended old new)
    (bytes : AreOctets (since before now))
  where
    fits : length moved.text < 2 ^ 16
    fits = let few : length moved.text ≤ 65535 = moved.read.few in omega (arith, few)

    pub migrated_datagrams : capture_datagrams (since old new)
        ≡ capture_datagrams (since before now)
    migrated_datagrams =
        moved_datagrams 16777216 moved.count moved.text before now ended old new moved.written
        bytes fits

    pub migrated_text : text_of_file (since old new) ≡ moved.text
    migrated_text =
        moved_text 16777216 moved.count moved.text before now ended old new moved.written bytes
        fits

    pub migrated_received : (window by said file other : List ℕ)
        → IsReceivedFile window by said (capture_datagrams (since before now)) file
        → IsReceivedFile window by said (capture_datagrams (since old new)) other → file ≡ other
    migrated_received window by said file other a b =
        let same : SameDatagrams (capture_datagrams (since before now))
        (capture_datagrams (since before now)) =
        record { forth = λ x m. m; back = λ x m. m } in
        same_file window by said (capture_datagrams (since before now))
        (capture_datagrams (since old new)) file other a b
        (subst (SameDatagrams (capture_datagrams (since before now))) (sym migrated_datagrams)
        same)
