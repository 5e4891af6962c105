-- Files that are at their ends: all of their records went.
use Rattle.std.proofs.Common.{◌≡◌, ℕ, List, [], ◌∷◌, Option, None, Some, refl, sym, ap, subst, ◌∙◌}
use Rattle.std.specs.List.{AllByRecursion, AllZip}
use Rattle.media_file.specs.Records.{Entry}
use Rattle.recording_engines.proofs.FileFaults.{fault_none, strand_by}
use Rattle.recording_engines.proofs.Joined.{all_over}
use Rattle.recording_engines.specs.Files.{HasKnownOctets}
use Rattle.recording_engines.specs.Joining.{Strand}
use Rattle.recording_engines.specs.Steps.{Ahead, Over, lefts, nothing, whole, whole_by, wholes}
use Rattle.recording_engines.specs.Strands.{strand_in}
use Rattle.recording_engines.specs.declared.file.ImportFile.{ImportFile}
use Rattle.recording_engines.specs.declared.file.ImportFile.TheVariants.{Closed, Open, Taken}
use Rattle.recording_reader.specs.FileReader.{FileReader, IsKnownBy, HasGivenFile}
use Rattle.recording_reader.specs.declared.way.Standing.{Standing as Stand}
use Rattle.recording_reader.specs.declared.way.Standing.TheVariants.{Reads, Ended, Failed}
use Rattle.st_format.specs.History.{IsRead}
use Rattle.side_by_side.specs.Side.{ahead_by, coming_by, reader_standing, standing_by}
use Rattle.side_by_side.specs.Sides.{AllOver, FileGave, HasGivenAll, IsSideBySide, SideGave, Sides}
use Rattle.side_by_side.specs.Sides.{standings, strand_of, strands_of}
use Rattle.side_by_side.specs.Strands.{Goes}
use Rattle.side_by_side.specs.declared.going.Going.{Going}
use Rattle.side_by_side.specs.declared.going.Going.TheVariants.{Unread, AtOnce, By, Never}
use Rattle.side_by_side.specs.declared.side.Side.{Side}

no_coming : (h : Option Entry) → coming_by h ≡ Over None → ⊥
no_coming None is = absurd cc
no_coming (Some e) is = absurd cc

ended_by : (stand : Stand) (w : Going) (h : Option Entry) → ahead_by stand w h ≡ Over None
    → stand ≡ Ended
ended_by Reads Unread h is = absurd cc
ended_by Reads AtOnce h is = absurd (no_coming h is)
ended_by Reads (By t) h is = absurd (no_coming h is)
ended_by Reads Never h is = absurd cc
ended_by Ended w h is = refl
ended_by (Failed f) w h is = absurd cc

over_reader : {S : Type 0} (gave : S → List ℕ) (ended : S → Type 0) (w : Going) (r : FileReader S)
    (octets : List ℕ) → HasGivenFile gave ended r → ahead_by r.standing w r.at_hand ≡ Over None
    → IsRead r.before.gave (gave r.source) (ended r.source) octets
    → strand_in r.flows octets ≡ whole (reader_standing w r) nothing
over_reader gave ended w r octets known over read =
    let at : r.standing ≡ Ended = ended_by r.standing w r.at_hand over in
    let is =
    subst (λ (s : Stand). IsKnownBy r.flows s octets r.records r.left_out) at
    (known octets read).known in
    strand_by r.flows octets r.records None is.0.records_are (fault_none octets is.1)
    ∙ sym (ap (λ (a : Ahead). whole_by r.records a nothing) over)

over_file : {A S : Type 0} (gave : S → List ℕ) (ended : S → Type 0) (w : Going)
    (f : ImportFile A S) (octets : List ℕ) → HasKnownOctets gave ended f
    → (standing_by w f).ahead ≡ Over None → FileGave gave ended f octets
    → strand_of f octets ≡ whole (standing_by w f) nothing
over_file gave ended w (Closed s) octets known over read = refl
over_file gave ended w (Open r) octets known over read =
    over_reader gave ended w r octets known over read
over_file gave ended w Taken octets known over read = refl

cons : {x y : Strand} {xs ys : List Strand} → x ≡ y → xs ≡ ys → x ∷ xs ≡ y ∷ ys
cons one rest = cc

all_strands : {A S : Type 0} (gave : S → List ℕ) (ended : S → Type 0) (sides : List (Side A S))
    (octets : List (List ℕ)) → AllByRecursion (λ s. HasKnownOctets gave ended s.file) sides
    → AllOver sides → AllZip (SideGave gave ended) sides octets
    → strands_of sides octets ≡ wholes (standings sides) []
all_strands gave ended [] octets known over read = refl
all_strands gave ended (s ∷ ss) [] known over read = absurd read
all_strands gave ended (s ∷ ss) (o ∷ os) known over read =
    cons (over_file gave ended s.going s.file o known.0 over.0 read.0)
    (all_strands gave ended ss os known.1 over.1 read.1)

over_standings : {A S : Type 0} (sides : List (Side A S)) → AllOver sides
    → AllByRecursion (λ s. s.ahead ≡ Over None) (standings sides)
over_standings [] over = tt
over_standings (s ∷ ss) over = (over.0, over_standings ss over.1)

pub given_all : {A S : Type 0} (gave : S → List ℕ) (ended : S → Type 0) (s : Sides A S)
    → IsSideBySide s → AllByRecursion (λ x. HasKnownOctets gave ended x.file) s.sides
    → AllOver s.sides
    → HasGivenAll gave ended s
given_all gave ended s is known over = record {
  entries = is.entries;
  came_is = is.came_is;
  goes = λ octets read.
      record {
        left = lefts (standings s.sides) [];
        goes = subst (λ (l : List Strand). Goes s.steering l is.entries
            (lefts (standings s.sides) []))
            (sym (all_strands gave ended s.sides octets known over read)) (is.gone.goes []);
        over = all_over (standings s.sides) [] (over_standings s.sides over);
      };
}
