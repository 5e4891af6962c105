-- The files that a sink of pictures writes, one after the other.
use Rattle.std.proofs.Common.{◌≡◌, ◌∙◌, ℕ, List, [], ◌∷◌, ◌++◌, Option}
use Rattle.std.proofs.Common.{ap, append-nil, append_assoc, sym}
use Rattle.follow_engine.specs.Shown.{TakesEachFrame}
use Rattle.following.specs.Following.{Handed}
use Rattle.frame_sinks.specs.Files.{FilesFrame, file_for, files_for}
use Rattle.frame_sinks.specs.Pictures.{held_by, picture_of, pictures_of}
use Rattle.frame_sinks.specs.declared.files_sink.FilesSink.{FilesSink}
use Rattle.frame_sinks.specs.declared.filling.Filling.{Filling}
use Rattle.frame_sinks.specs.declared.settling.Settling.{Settling}
use Rattle.st_format.specs.Picture.{Values}

-- the files of frames, by all that their pictures go by
abbrev rest_of : List Handed → Filling → Option (List ℕ) → Option Values
    → List (List ℕ × List ℕ)
rest_of hs filling fill held = files_for hs (pictures_of filling fill held hs)

pub all_filed : {F A : Type 0} (files : F → List (List ℕ × List ℕ)) (k l : FilesSink F A)
    (hs : List Handed) → TakesEachFrame (FilesFrame files) k hs l
    → files l.files ≡ files k.files
    ++ files_for hs (pictures_of k.settling.filling k.settling.fill k.settling.held hs)
all_filed files k l [] is =
    ap (λ (m : FilesSink _ _). files m.files) is ∙ sym (append-nil (files k.files))
all_filed files k l (h ∷ hs) is =
    let m : FilesSink _ _ = is.0 in
    let s : Settling _ = k.settling in
    let one : List ℕ × List ℕ = file_for h.timestamp (picture_of s.fill s.held h.frame) in
    let held : Option Values = held_by s.filling (picture_of s.fill s.held h.frame) in
    all_filed files m l hs is.2
    ∙ ap (λ (t : List (List ℕ × List ℕ)).
    t ++ rest_of hs m.settling.filling m.settling.fill m.settling.held) is.1.filed
    ∙ append_assoc (files k.files) (one ∷ [])
    (rest_of hs m.settling.filling m.settling.fill m.settling.held)
    ∙ ap (λ (t : List (List ℕ × List ℕ)). files k.files ++ (one ∷ t))
    (ap (λ (x : Filling). rest_of hs x m.settling.fill m.settling.held) is.1.filling
    ∙ ap (λ (x : Option (List ℕ)). rest_of hs s.filling x m.settling.held) is.1.fill
    ∙ ap (λ (x : Option Values). rest_of hs s.filling s.fill x) is.1.held)

-- A sink settled a frame, which made m of what it is settled with; its picture was filed, and that
-- was kept.
pub takes_file : {F A : Type 0} (files : F → List (List ℕ × List ℕ)) (k l : FilesSink F A)
    (m : Settling A) (p : Values) (h : Handed) → m.filling ≡ k.settling.filling
    → m.fill ≡ k.settling.fill → m.held ≡ k.settling.held
    → p ≡ picture_of k.settling.fill k.settling.held h.frame
    → files l.files ≡ files k.files ++ file_for h.timestamp p ∷ []
    → l.settling.filling ≡ m.filling → l.settling.fill ≡ m.fill
    → l.settling.held ≡ held_by m.filling p → FilesFrame files k h l
takes_file files k l m p h filling fill held is filed filled by kept = record {
  filed =
      filed ∙ ap (λ (x : Values). files k.files ++ file_for h.timestamp x ∷ []) is;
  held =
      kept ∙ ap (λ (x : Filling). held_by x p) filling
      ∙ ap (λ (x : Values). held_by k.settling.filling x) is;
  filling = filled ∙ filling;
  fill = by ∙ fill;
}
