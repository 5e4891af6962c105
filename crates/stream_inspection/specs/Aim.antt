-- What the datagrams of a stream are to be, and what says it (own).
use Rattle.std.specs.Prelude.{◌≡◌, ℕ, List, [], ◌∷◌, Option, None, Some, MatchOption, ⊤}
use Rattle.sdp_format.specs.Bytes.{lines}
use Rattle.sdp_format.specs.Grammar.{IsDescribed}
use Rattle.sdp_format.specs.Sections.{Description, video_sections}
use Rattle.st_format.specs.Fields.{fields_of}
use Rattle.capture_engines.specs.Received.{IsOpeningRefusal}
use Rattle.recording_reader.specs.Files.{text_of_file}
use Rattle.run_outcome.specs.declared.refusal.Refusal.{Refusal}
use Rattle.stream_inspection.specs.declared.target.Target.{Target}
use Rattle.stream_inspection.specs.declared.target.Wanted.{Wanted}
use Rattle.stream_inspection.specs.declared.target.Wanted.TheVariants.{Said, Given}

-- an SDP text says this format and this payload type
pub record AnnouncesTarget (text : List ℕ) (t : Target) : Type 0 where
  pub description : Description
  pub described : IsDescribed (video_sections (lines text)) description
  pub format : fields_of t.format ≡ description.leg.format
  pub payload_type : t.payload_type ≡ description.leg.payload_type

-- so does the text of the first of some files
abbrev pub FirstAnnounces : List (List ℕ) → Target → Type 0
FirstAnnounces [] t = ⊥
FirstAnnounces (octets ∷ files) t = AnnouncesTarget (text_of_file octets) t

-- By what a stream is looked for: by what is given; by what the SDP text says that is given; or
-- else by what that of the first file says.
abbrev pub IsTarget : Wanted → Option (List ℕ) → List (List ℕ) → Target → Type 0
IsTarget (Given u) sdp files t = t ≡ u
IsTarget Said None files t = FirstAnnounces files t
IsTarget Said (Some text) files t = AnnouncesTarget text t

-- It is known behind some files: what is given; or the SDP text that is given says it; or else that
-- of the first file, where there is one.
abbrev pub IsAimed : Wanted → Option (List ℕ) → List (List ℕ) → Type 0
IsAimed (Given u) sdp files = ⊤
IsAimed Said (Some text) files = (t : Target) × AnnouncesTarget text t
IsAimed Said None [] = ⊤
IsAimed Said None (octets ∷ files) = (t : Target) × AnnouncesTarget (text_of_file octets) t

-- what is known of it before files are read
abbrev pub IsBegunTarget : Wanted → Option (List ℕ) → Option Target → Type 0
IsBegunTarget (Given u) sdp begun = begun ≡ Some u
IsBegunTarget Said None begun = begun ≡ None
IsBegunTarget Said (Some text) begun = (t : Target) × (begun ≡ Some t) × AnnouncesTarget text t

-- the refusals of that: those of the SDP text, where that is to say it
abbrev pub IsBeginRefusal : Wanted → Option (List ℕ) → Refusal → Type 0
IsBeginRefusal (Given u) sdp r = ⊥
IsBeginRefusal Said sdp r = MatchOption sdp ⊥ (λ text. IsOpeningRefusal (0 ∷ []) text r)
