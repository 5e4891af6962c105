-- Against what a run of `export --paced` read that ended well no refusal speaks.
use Rattle.std.proofs.Common.{◌≡◌, ◌∙◌, ℕ, List, [], Option, Result, Ok, inl, inr, ap}
use Rattle.std.proofs.Common.{subst, sym}
use Rattle.std.specs.Prelude.{◌⊎◌}
use Rattle.st_format.specs.Device.{AreOctets}
use Rattle.st_format.specs.Given.{GaveWhole}
use Rattle.st_format.proofs.Histories.{since_is}
use Rattle.media_file.specs.Capture.{Content, IsCapture, capture_walk}
use Rattle.media_file.specs.Fronts.{front_at}
use Rattle.media_file.specs.Records.{records_text}
use Rattle.media_file.specs.declared.fault.FileFault.{FileFault}
use Rattle.media_file.proofs.CaptureFaults.{capture_tells, front_again}
use Rattle.media_file.proofs.Found.{capture_found}
use Rattle.sdp_format.specs.Bytes.{lines}
use Rattle.sdp_format.specs.Grammar.{IsTextFault}
use Rattle.sdp_format.specs.Sections.{video_sections}
use Rattle.run_outcome.specs.Moments.{WasRead}
use Rattle.run_outcome.specs.declared.refusal.Refusal.{Refusal}
use Rattle.run_outcome.specs.declared.refusal.Refusal.TheVariants as why
use Rattle.export_engine.specs.ExportRefused.{IsReadRefusal}
use Rattle.paced_export.specs.PacedExported.{PrintsPaced, SaysActive}
use Rattle.paced_export.specs.PacedRefused.{IsAheadRefusal, IsPacedRefusal, IsReadAhead}
use Rattle.run_laws.specs.Received.{read_of}
use Rattle.run_laws.proofs.NoRefusals.{apart}
use Rattle.run_laws.proofs.NoTextFault.{no_text_fault}
use Rattle.run_laws.proofs.Receiving.{was_read}

abbrev Front : Type 0
Front = Result (List ℕ × List ℕ) FileFault

abbrev front : List ℕ → List ℕ → Front
front text rest = Ok (text, rest)

same_front : (x y : List ℕ × List ℕ) → (let r : Front = Ok x in r ≡ Ok y) → x ≡ y
same_front x y e = cc

one_front : (text rest : List ℕ) (x : List ℕ × List ℕ) → front text rest ≡ Ok x → text ≡ x.0
one_front text rest x e =
    let pair : List ℕ × List ℕ = (text, rest) in
    ap (λ (y : List ℕ × List ℕ). y.0) (same_front pair x e)

-- a capture that was read whole
module _ {S : Type 0} (gave : S → List ℕ) (ended : S → Type 0) (source later : S)
    (content : Content)
    (read : GaveWhole (capture_walk 16777216) (gave source) (gave later) (ended later) content)
    (bytes : AreOctets (read_of gave (source, later)))
  where
    walked : capture_walk 16777216 (read_of gave (source, later)) ≡ Ok (content, [])
    walked =
        ap (capture_walk 16777216) (since_is (gave source) (gave later) read.part read.grown)
        ∙ read.says

    read_not : (r : Refusal) → IsReadRefusal (WasRead gave ended (source, later)) r → ⊥
    read_not (why.Capture f) wrong =
        let rest : List ℕ = [] in
        let pair : Content × List ℕ = (content, rest) in
        apart (capture_walk 16777216 (read_of gave (source, later))) pair f walked
        (capture_tells 16777216 f (read_of gave (source, later))
        (wrong (read_of gave (source, later)) (was_read gave ended (source, later)) bytes))
    read_not r wrong = absurd wrong

    -- its text is the one that stands at its front
    text_is : (x : List ℕ × List ℕ) → front_at (read_of gave (source, later)) ≡ Ok x
        → content.text ≡ x.0
    text_is x e =
        let is : IsCapture (read_of gave (source, later)) content =
        (capture_found 16777216 (read_of gave (source, later)) (content, []) bytes walked).is in
        let behind : List ℕ = records_text content.records in
        one_front content.text behind x
        (sym (front_again is.version content.text behind is.front) ∙ sym (ap front_at is.whole)
        ∙ e)

    ahead_not : (active : ℕ) → SaysActive content.text active → (r : Refusal)
        → IsAheadRefusal (WasRead gave ended (source, later)) r → ⊥
    ahead_not active says (why.Capture f) wrong = read_not (why.Capture f) wrong.0
    ahead_not active says (why.Sdp at) wrong =
        let x = wrong (read_of gave (source, later)) (was_read gave ended (source, later)) in
        no_text_fault content.text says.sdp at.fault says.described
        (subst (λ (t : List ℕ). IsTextFault (video_sections (lines t)) at.fault)
        (sym (text_is x.0 x.1)) x.2)
    ahead_not active says r wrong = absurd wrong

module _ {S : Type 0} (gave : S → List ℕ) (ended : S → Type 0) (start : ℕ) (a : List ℕ)
    (b : Option (List ℕ)) (ahead ahead_later capture later : S) (old new shown printed : List ℕ)
    (run : PrintsPaced start a b (gave ahead) (gave ahead_later) (ended ahead_later)
    (gave capture) (gave later) (ended later) old new shown printed)
    (first : AreOctets (read_of gave (ahead, ahead_later)))
    (second : AreOctets (read_of gave (capture, later)))
  where
    either_not : (r : Refusal)
        → IsAheadRefusal (WasRead gave ended (ahead, ahead_later)) r
        ⊎ (IsReadAhead (WasRead gave ended (ahead, ahead_later))
        × IsReadRefusal (WasRead gave ended (capture, later)) r)
        → ⊥
    either_not r (inl wrong) =
        ahead_not gave ended ahead ahead_later run.paces.whole run.paces.first_read first
        run.paces.pace.active run.paces.pace_is.active r wrong
    either_not r (inr wrong) =
        read_not gave ended capture later run.paces.paces.content run.paces.paces.read second r
        wrong.1

    refusal_not : (r : Refusal)
        → IsPacedRefusal a b (WasRead gave ended (ahead, ahead_later))
        (WasRead gave ended (capture, later)) r → ⊥
    refusal_not why.ExportFlow wrong = wrong run.paces.envelopes run.paces.are
    refusal_not r wrong = either_not r wrong.1

pub paced_not : {S : Type 0} (gave : S → List ℕ) (ended : S → Type 0) (start : ℕ) (a : List ℕ)
    (b : Option (List ℕ)) (ahead ahead_later capture later : S) (old new shown printed : List ℕ)
    (r : Refusal)
    → PrintsPaced start a b (gave ahead) (gave ahead_later) (ended ahead_later) (gave capture)
    (gave later) (ended later) old new shown printed
    → AreOctets (read_of gave (ahead, ahead_later)) → AreOctets (read_of gave (capture, later))
    → IsPacedRefusal a b (WasRead gave ended (ahead, ahead_later))
    (WasRead gave ended (capture, later)) r → ⊥
paced_not gave ended start a b ahead ahead_later capture later old new shown printed r run first
    second wrong =
    refusal_not gave ended start a b ahead ahead_later capture later old new shown printed run
    first second r wrong
