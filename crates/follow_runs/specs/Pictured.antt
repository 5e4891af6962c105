-- The file that `follow` writes pictures to, where one is named (own).
use Rattle.std.specs.Prelude.{◌≡◌, ℕ, ◌<◌, ⊤, slice_index, List, ◌++◌, Option, None, Some}
use Rattle.std.specs.Prelude.{option_map}
use Rattle.follow_runs.specs.declared.unplaced.UnplacedOutput.{UnplacedOutput}
use Rattle.devices.specs.Passed.{file_took, sink_took, writing_failures}
use Rattle.devices.specs.declared.file_output.FileOutput.{FileOutput}
use Rattle.following.specs.Following.{Handed}
use Rattle.frame_sinks.specs.Pictures.{form_stream, pictures_of}
use Rattle.frame_sinks.specs.declared.filling.Filling.{Filling}
use Rattle.frame_sinks.specs.declared.form_sink.FormSink.{FormSink}
use Rattle.receiver_engines.specs.FillText.{IsFillText}
use Rattle.run_outcome.specs.declared.refusal.Refusal.{Refusal}
use Rattle.run_outcome.specs.declared.refusal.Refusal.TheVariants.{FollowFill}

-- ---- the fill

-- the values that its text says, where there is one
abbrev pub IsFillGiven : Option (List ℕ) → Option (List ℕ) → Type 0
IsFillGiven None None = ⊤
IsFillGiven None (Some fill) = ⊥
IsFillGiven (Some text) None = ⊥
IsFillGiven (Some text) (Some fill) =
    IsFillText text (slice_index fill 0) (slice_index fill 1) (slice_index fill 2)

-- a text, where there is one, says some
abbrev pub HasSoundFill : Option (List ℕ) → Type 0
HasSoundFill text = (values : Option (List ℕ)) × IsFillGiven text values

-- a text says none
abbrev pub IsNoFillText : Option (List ℕ) → Type 0
IsNoFillText None = ⊥
IsNoFillText (Some text) =
    (a b c : ℕ) → a < 65536 → b < 65536 → c < 65536 → IsFillText text a b c → ⊥

-- the refusal of such a text
abbrev pub IsFillRefusal : Option (List ℕ) → Refusal → Type 0
IsFillRefusal text r = (r ≡ FollowFill) × IsNoFillText text

-- ---- the file

-- a sink of pictures stands over the file, and nothing went into it
abbrev pub IsSinkOver : {A : Type 0} → Filling → Option (List ℕ) → Option FileOutput
    → Option (FormSink UnplacedOutput A) → Type 0
IsSinkOver filling fill None k = k ≡ None
IsSinkOver filling fill (Some f) None = ⊥
IsSinkOver filling fill (Some f) (Some k) = (k.sink.file ≡ f) × (k.settling.filling ≡ filling)
    × (k.settling.fill ≡ fill) × (k.format ≡ None) × (k.settling.held ≡ None)

-- the file below a sink of pictures
abbrev pub file_under : {A : Type 0} → Option (FormSink UnplacedOutput A) → Option FileOutput
file_under pictures = option_map (λ k. k.sink.file) pictures

-- what it took, and how often that failed
abbrev pub octets_under : UnplacedOutput → List ℕ
octets_under s = sink_took s.file.sink

-- how often the file under a sink of pictures failed
abbrev pub failures_under : {A : Type 0} → FormSink UnplacedOutput A → ℕ
failures_under k = writing_failures k.sink.file

-- a file took nothing more, and failed no more
abbrev pub SameFile : Option FileOutput → Option FileOutput → Type 0
SameFile None g = g ≡ None
SameFile (Some f) None = ⊥
SameFile (Some f) (Some g) =
    (file_took g ≡ file_took f) × (writing_failures g ≡ writing_failures f)

-- A file took the stream of the pictures of these frames, where there is one; and nothing else.
abbrev pub TakesPictureStream : Filling → Option (List ℕ) → List Handed → Option FileOutput
    → Option FileOutput → Type 0
TakesPictureStream filling fill frames None g = g ≡ None
TakesPictureStream filling fill frames (Some f) None = ⊥
TakesPictureStream filling fill frames (Some f) (Some g) =
    file_took g ≡ file_took f ++ form_stream None (pictures_of filling fill None frames)
