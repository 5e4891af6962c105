-- Files that are octet for octet the same are processed into one capture.
use Rattle.std.proofs.Common.{◌≡◌, ◌∙◌, ℕ, ◌%◌, ◌^◌, ◌<◌, List, [], ◌∷◌, ◌++◌, length, get_or}
use Rattle.std.proofs.Common.{Option, sym, ap, subst}
use Rattle.std.specs.Int.{w16, w64, to_be_bytes}
use Rattle.std.specs.List.{AllByRecursion}
use Rattle.std.specs.Option.{option_map}
use Rattle.st_format.specs.Device.{AreOctets}
use Rattle.st_format.specs.History.{since}
use Rattle.st_format.specs.Picture.{Values}
use Rattle.st_format.specs.Position.{Position, number_of, place, sample_count}
use Rattle.st_format.specs.declared.format.Format.{Format}
use Rattle.st_format.specs.declared.path.Path.TheVariants.{A}
use Rattle.st_format.proofs.Histories.{since_is}
use Rattle.st_format.proofs.Numbering.{number_of-place}
use Rattle.st_format.proofs.Octets.{all_octets}
use Rattle.st_format.proofs.Places.{place-is_position}
use Rattle.key_mix.specs.declared.Job.{Job}
use Rattle.media_file.specs.Fronts.{front_text}
use Rattle.media_file.specs.Records.{Entry, record_text, records_text}
use Rattle.media_file.specs.Writer.{entries_from, entry, moment_behind, written_text}
use Rattle.media_file.specs.declared.front.Version.TheVariants.{Two}
use Rattle.media_file.specs.declared.paths.Paths.TheVariants.{OnlyA}
use Rattle.packet_plan.specs.Plan.{IsFullPlan}
use Rattle.packet_plan.specs.Sent.{IsSentPicture}
use Rattle.packet_plan.specs.declared.run.PacketRun.{PacketRun}
use Rattle.packet_plan.specs.declared.stamp.Stamp.{Stamp}
use Rattle.run_outcome.specs.Moments.{WasRead}
use Rattle.receiver_engines.specs.Inputs.{settled_frames}
use Rattle.receiver_engines.specs.Processing.{SendsSaidFiles, TakesSaid}
use Rattle.run_laws.specs.Received.{all_read, read_of}
use Rattle.run_laws.specs.Sent.{AreOnePicture}
use Rattle.run_laws.proofs.OneJob.{one_job}
use Rattle.run_laws.proofs.OnePlan.{one_plan}
use Rattle.run_laws.proofs.OneSent.{Small, same_values_sent, small_behind, small_front}
use Rattle.run_laws.proofs.ProcessedOnce.{job_once, pictures_are}

-- ---- a capture of octets has datagrams of octets

record_small : (e : Entry) → Small (record_text e) → Small e.octets
record_small e all =
    small_behind (to_be_bytes w16 (length e.octets)) e.octets
    (small_behind (to_be_bytes w64 e.moment) (to_be_bytes w16 (length e.octets) ++ e.octets) all.1)

records_small : (moment : ℕ) (ds : List (List ℕ))
    → Small (records_text (entries_from OnlyA moment ds)) → AllByRecursion Small ds
records_small moment [] all = tt
records_small moment (d ∷ ds) all =
    let e : Entry = entry A moment d in
    let later : List ℕ = records_text (entries_from OnlyA (moment_behind OnlyA moment) ds) in (
      record_small e (small_front (record_text e) later all),
      records_small (moment_behind OnlyA moment) ds (small_behind (record_text e) later all),
    )

written_small : (text : List ℕ) (ds : List (List ℕ)) → Small (written_text OnlyA text ds)
    → AllByRecursion Small ds
written_small text ds all =
    records_small 0 ds
    (small_behind (front_text Two text) (records_text (entries_from OnlyA 0 ds)) all)

-- ---- one picture has one value for each sample

samples_same : (p q : Values) → AreOnePicture p q → (k : ℕ) → k < sample_count p.format
    → get_or p.samples k 0 ≡ get_or q.samples k 0
samples_same p q one k lt =
    let at : Position = place p.format k in
    ap (λ (n : ℕ). get_or p.samples n 0) (sym (number_of-place p.format k))
    ∙ one.values at (place-is_position p.format k lt)
    ∙ ap (λ (f : Format). get_or q.samples (number_of f at) 0) (sym one.format)
    ∙ ap (λ (n : ℕ). get_or q.samples n 0) (number_of-place p.format k)

-- ---- a job's picture is written as one capture

module _ (text : List ℕ) (job : Job) (pictures : List Values) (size : ℕ) (stamp : Stamp)
    (old new : List ℕ) (count : ℕ) (old' new' : List ℕ) (count' : ℕ)
    (first : TakesSaid text job pictures size stamp old new count)
    (second : TakesSaid text job pictures size stamp old' new' count')
    (octets : AreOctets (since old new)) (others : AreOctets (since old' new'))
  where
    abbrev p : Values
    p = first.spell.picture

    abbrev q : Values
    q = second.spell.picture

    wrote : since old new ≡ written_text OnlyA text first.datagrams
    wrote = since_is old new (written_text OnlyA text first.datagrams) first.written

    wrote_again : since old' new' ≡ written_text OnlyA text second.datagrams
    wrote_again = since_is old' new' (written_text OnlyA text second.datagrams) second.written

    one : AreOnePicture p q
    one = job_once job pictures p q first.spell.made second.spell.made

    plans : first.spell.plan ≡ second.spell.plan
    plans =
        one_plan first.spell.plan second.spell.plan p.format size first.spell.full
        (subst (λ (f : Format). IsFullPlan second.spell.plan f size) (sym one.format)
        second.spell.full)

    small : AllByRecursion Small first.datagrams
    small =
        written_small text first.datagrams
        (subst Small wrote (all_octets (since old new) octets))

    small_again : AllByRecursion Small second.datagrams
    small_again =
        written_small text second.datagrams
        (subst Small wrote_again (all_octets (since old' new') others))

    same_datagrams : first.datagrams ≡ second.datagrams
    same_datagrams =
        same_values_sent first.datagrams second.datagrams p q stamp size second.spell.plan small
        small_again one.format (samples_same p q one)
        (subst (λ (ps : List (List PacketRun)). IsSentPicture first.datagrams p stamp size ps) plans
        first.spell.sent)
        second.spell.sent

    pub taken_again : (since old new ≡ since old' new') × (count ≡ count')
    taken_again = (
      wrote ∙ ap (written_text OnlyA text) same_datagrams ∙ sym wrote_again,
      first.count_is ∙ ap (λ (ds : List (List ℕ)). length ds % 2 ^ 32) same_datagrams
          ∙ sym second.count_is,
    )

-- ---- two runs

module _ {S T : Type 0} (gave : S → List ℕ) (ended : S → Type 0) (gave' : T → List ℕ)
    (ended' : T → Type 0) (text : List ℕ) (states : List (S × S)) (others : List (T × T))
    (hold : Option (S × S)) (held : Option (T × T)) (job_text : List ℕ) (ts : ℕ) (fill : List ℕ)
    (size : ℕ) (stamp : Stamp) (old new : List ℕ) (count : ℕ) (old' new' : List ℕ) (count' : ℕ)
    (first : SendsSaidFiles text (WasRead gave ended) states hold job_text ts fill size stamp old
    new count)
    (second : SendsSaidFiles text (WasRead gave' ended') others held job_text ts fill size stamp
    old' new' count')
    (same : all_read gave states ≡ all_read gave' others)
    (same_held : option_map (read_of gave) hold ≡ option_map (read_of gave') held)
  where
    abbrev pictures_of_second : List Values
    pictures_of_second = settled_frames second.held second.sends.fill second.sends.frames

    -- what the first wrote, of the job and the pictures of the second
    takes : TakesSaid text second.job pictures_of_second size stamp old new count
    takes =
        subst (λ (vs : List Values). TakesSaid text second.job vs size stamp old new count)
        (pictures_are gave ended gave' ended' text text states others hold held job_text ts fill
        size size stamp stamp old new count old' new' count' first second same same_held)
        (subst
        (λ (j : Job). TakesSaid text j
        (settled_frames first.held first.sends.fill first.sends.frames) size stamp old new count)
        (one_job job_text first.job second.job first.job_is second.job_is) first.sends.takes)

    pub processed_again : AreOctets (since old new) → AreOctets (since old' new')
        → (since old new ≡ since old' new') × (count ≡ count')
    processed_again =
        taken_again text second.job pictures_of_second size stamp old new count old' new' count'
        takes second.sends.takes
