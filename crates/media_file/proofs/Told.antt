-- The datagrams that a writer tells.
use Rattle.std.proofs.Common.{◌≡◌, ℕ, ◌^◌, ◌<◌, true, false, List, [], ◌∷◌, ◌++◌, length, take}
use Rattle.std.proofs.Common.{Option, None, Some, append-nil, refl, sym, ap, ◌∙◌, subst}
use Rattle.std.specs.Io.KnownBytes.{Appends, IsAtEnd}
use Rattle.std.specs.Prelude.{⊤, Result, Ok, Err, OnErr}
use Rattle.st_format.specs.Device.{AppendsPrefix, GrowsPart, StaysUntold, TakesOne, KeepsAll}
use Rattle.st_format.specs.History.{GrewFrom, since}
use Rattle.st_format.proofs.Histories.{since_is, since_more}
use Rattle.media_file.specs.declared.paths.Paths.{Paths}
use Rattle.media_file.specs.declared.front.Version.TheVariants.{Two}
use Rattle.media_file.specs.Fronts.{front_text}
use Rattle.media_file.specs.Records.{records_text}
use Rattle.media_file.specs.Source.{IfTold}
use Rattle.media_file.specs.Writer.{IsShortEnough, IsWritten, WriterPlace, StandsWritten}
use Rattle.media_file.specs.Writer.{datagrams_in}
use Rattle.media_file.specs.Writer.{entries_of, moment_behind, place_behind, place_failed}
use Rattle.media_file.specs.Writer.{taken_of, took_of}
use Rattle.media_file.proofs.Datagrams.{holds, keeps, takes, writes}

-- a writer that wrote a datagram took it
pub takes_one : (p : WriterPlace) (old new : Option (List ℕ)) (d : List ℕ) → p.failed ≡ false
    → p.moment < 2 ^ 64 → IsShortEnough d → StandsWritten p old
    → Appends old new (records_text (entries_of p.paths p.moment d))
    → TakesOne (taken_of p old) (taken_of (place_behind p) new) d
takes_one p None new d ok lt fits stands a = tt
takes_one p (Some o) None d ok lt fits stands a = absurd a
takes_one p (Some o) (Some o2) d ok lt fits stands a =
    let is : IsWritten p.paths p.text_len p.moment o = stands ok in
    ap (datagrams_in p.paths p.text_len) a ∙ takes p.paths p.text_len p.moment o d is lt fits
    ∙ ap (λ (xs : List (List ℕ)). xs ++ d ∷ []) (sym (holds p.paths p.text_len p.moment o is))

-- and one that was cut off didn't
pub keeps_all : (p : WriterPlace) (old new : Option (List ℕ)) (d : List ℕ) → p.failed ≡ false
    → p.moment < 2 ^ 64 → IsShortEnough d → StandsWritten p old
    → AppendsPrefix old new (records_text (entries_of p.paths p.moment d))
    → KeepsAll (taken_of p old) (taken_of (place_failed p) new)
keeps_all p None new d ok lt fits stands a = tt
keeps_all p (Some o) None d ok lt fits stands a = absurd a.taken
keeps_all p (Some o) (Some o2) d ok lt fits stands a =
    let is : IsWritten p.paths p.text_len p.moment o = stands ok in
    ap (datagrams_in p.paths p.text_len) a.taken
    ∙ keeps p.paths p.text_len p.moment o d a.count is lt fits a.short
    ∙ sym (holds p.paths p.text_len p.moment o is)

-- behind a datagram the sink holds what was written
pub stands_behind : (p : WriterPlace) (old new : Option (List ℕ)) (d : List ℕ) → p.failed ≡ false
    → IsShortEnough d → StandsWritten p old → StaysUntold old new
    → Appends old new (records_text (entries_of p.paths p.moment d))
    → StandsWritten (place_behind p) new
stands_behind p old None d ok fits stands untold a = tt
stands_behind p None (Some o2) d ok fits stands untold a = let bad : Some o2 ≡ None =
    untold in absurd cc
stands_behind p (Some o) (Some o2) d ok fits stands untold a =
    λ _. subst (IsWritten p.paths p.text_len (moment_behind p.paths p.moment)) (sym a)
    (writes p.paths p.text_len p.moment o d (stands ok) fits)

pub on_err : {T E : Type 0} (r : Result T E) → OnErr r ⊤
on_err (Ok x) = tt
on_err (Err e) = tt

-- a new writer
abbrev pub place_new : Paths → List ℕ → WriterPlace
place_new paths text = record { paths = paths; text_len = length text; moment = 0; failed = false }

-- the sink of a new writer holds the capture of no datagram
is_new : (paths : Paths) (text o o2 : List ℕ) → length text < 2 ^ 16 → o ≡ []
    → o2 ≡ o ++ front_text Two text → IsWritten paths (length text) 0 o2
is_new paths text o o2 fits e a = record {
  text = text;
  datagrams = [];
  text_fits = fits;
  text_len_is = refl;
  fit = tt;
  moment_is = refl;
  whole =
      a ∙ ap (λ (t : List ℕ). t ++ front_text Two text) e ∙ sym (append-nil (front_text Two text));
}

-- its sink stands so
pub stands_new : (paths : Paths) (text : List ℕ) (old new : Option (List ℕ)) → length text < 2 ^ 16
    → IsAtEnd old → StaysUntold old new → Appends old new (front_text Two text)
    → StandsWritten (place_new paths text) new
stands_new paths text old None fits e untold a = tt
stands_new paths text None (Some o2) fits e untold a = let bad : Some o2 ≡ None =
    untold in absurd cc
stands_new paths text (Some o) (Some o2) fits e untold a = λ _. is_new paths text o o2 fits e a

-- it has taken none
pub takes_none : (paths : Paths) (text : List ℕ) (old new : Option (List ℕ)) → length text < 2 ^ 16
    → IsAtEnd old → Appends old new (front_text Two text)
    → IfTold old (λ _. taken_of (place_new paths text) new ≡ Some [])
unfolding is_new
takes_none paths text None new fits e a = tt
takes_none paths text (Some o) None fits e a = absurd a
takes_none paths text (Some o) (Some o2) fits e a =
    ap (λ (ds : List (List ℕ)). let r : Option (List (List ℕ)) = Some ds in r)
    (holds paths (length text) 0 o2 (is_new paths text o o2 fits e a))

-- ---- by what the sink took since the writer began

-- after a fault nothing is said
pub stands_failed : (p : WriterPlace) (held : Option (List ℕ)) → p.failed ≡ true
    → StandsWritten p held
stands_failed p None is = tt
stands_failed p (Some held) is = λ ok. absurd cc

-- a first part, behind what was taken since
pub prefix_since : (before old new octets : List ℕ) → GrewFrom before old → GrowsPart old new octets
    → AppendsPrefix (Some (since before old)) (Some (since before new)) octets
prefix_since before old new octets grew part = record {
  count = part.count;
  short = part.short;
  taken = since_more before old new (take part.count octets) grew part.grown;
}

-- a new writer took a front
pub front_since : (before new : List ℕ) (text : List ℕ) → new ≡ before ++ front_text Two text
    → Appends (Some []) (Some (since before new)) (front_text Two text)
front_since before new text took = since_is before new (front_text Two text) took

pub takes_new : (paths : Paths) (text o : List ℕ) → length text < 2 ^ 16
    → Appends (Some []) (Some o) (front_text Two text) → took_of (place_new paths text) o ≡ []
unfolding is_new
takes_new paths text o fits took =
    holds paths (length text) 0 o (is_new paths text [] o fits refl took)
