-- Lines that are printed one after the other.
use Rattle.std.proofs.Common.{◌≡◌, ℕ, ◌+◌, ◌<◌, ◌≤◌, List, [], ◌∷◌, ◌++◌, length, take, drop, codes}
use Rattle.std.proofs.Common.{get_or, count_by, Option, Some, ap, append-nil, subst, sym, ◌∙◌}
use Rattle.std.proofs.Common.{Result, Ok, Err, IfErr, OnErr, OnOk, arith, inl, inr, refl}
use Rattle.std.specs.List.{flat_map}
use Rattle.std.proofs.lemmas.Grind.{flat_map-append}
use Rattle.std.proofs.lemmas.List.{length-append, take_all, take_more, take-append-drop}
pub use Rattle.media_file.proofs.Written.{part_first, part_then, took_both}
use Rattle.frame_assembly.specs.declared.counts.Counts.{Counts}
use Rattle.frame_assembly.specs.Kinds.{counts_of}
use Rattle.path_receiver.specs.Frames.{State, frame_at}
use Rattle.st_format.specs.Cell.{is_contested, is_missing, is_present}
use Rattle.st_format.specs.Device.{GrowsPart}
use Rattle.st_format.specs.Raster.{Raster}
use Rattle.run_outcome.specs.AtFault.{PrintedAtFault}
use Rattle.run_outcome.specs.Fault.{Accounts, counts as failures_of}
use Rattle.run_outcome.specs.Frames.{frame_counts, frame_line, frame_line_at}
use Rattle.run_outcome.specs.declared.fault.Fault.{Fault}
use Rattle.run_outcome.specs.declared.fault.Fault.TheVariants as fault
use Rattle.run_outcome.specs.declared.refusal.Refusal.{Refusal}

-- the texts of the first items
abbrev pub texts_before : {X : Type 0} → (X → List ℕ) → List X → ℕ → List ℕ
texts_before f xs i = flat_map f (take i xs)

next_text : {X : Type 0} (f : X → List ℕ) (xs : List X) (i : ℕ) (d x : X) → i < length xs
    → x ≡ get_or xs i d → texts_before f xs (i + 1) ≡ texts_before f xs i ++ f x
next_text f xs i d x lt is =
    ap (flat_map f) (take_more xs i d lt ∙ ap (λ (y : _). take i xs ++ y ∷ []) (sym is))
    ∙ flat_map-append f (take i xs) (x ∷ [])
    ∙ ap (λ (t : List ℕ). texts_before f xs i ++ t) (append-nil (f x))

pub texts_more : {X : Type 0} (f : X → List ℕ) (xs : List X) (i : ℕ) (d x : X)
    (old mid new : List ℕ) → i < length xs → x ≡ get_or xs i d
    → mid ≡ old ++ texts_before f xs i → new ≡ mid ++ f x
    → new ≡ old ++ texts_before f xs (i + 1)
texts_more f xs i d x old mid new lt is p q =
    subst (λ (t : List ℕ). new ≡ old ++ t) (sym (next_text f xs i d x lt is))
    (took_both old mid new (texts_before f xs i) (f x) p q)

-- what is cut within the text of an item is cut within the texts of all
pub texts_cut : {X : Type 0} (f : X → List ℕ) (xs : List X) (i : ℕ) (d x : X)
    (old mid new : List ℕ) → i < length xs → x ≡ get_or xs i d
    → mid ≡ old ++ texts_before f xs i → GrowsPart mid new (f x)
    → GrowsPart old new (flat_map f xs)
texts_cut f xs i d x old mid new lt is p q =
    let rest : List ℕ = flat_map f (drop (i + 1) xs) in
    let whole : flat_map f xs ≡ (texts_before f xs i ++ f x) ++ rest =
    ap (flat_map f) (sym (take-append-drop (i + 1) xs))
    ∙ flat_map-append f (take (i + 1) xs) (drop (i + 1) xs)
    ∙ ap (λ (t : List ℕ). t ++ rest) (next_text f xs i d x lt is) in
    subst (λ (t : List ℕ). GrowsPart old new t) (sym whole)
    (part_first old new (texts_before f xs i ++ f x) rest
    (part_then old mid new (texts_before f xs i) (f x) p q))

pub texts_all : {X : Type 0} (f : X → List ℕ) (xs : List X) (i : ℕ) (old new : List ℕ)
    → length xs ≤ i → new ≡ old ++ texts_before f xs i → new ≡ old ++ flat_map f xs
texts_all f xs i old new end p =
    subst (λ (ys : List _). new ≡ old ++ flat_map f ys) (take_all i xs end) p

some_left : (ys : List ℕ) (x : ℕ) → 0 < length (ys ++ x ∷ [])
some_left ys x = omega (arith, length-append ys (x ∷ []))

-- nothing was taken of a line
pub none_taken : (took text : List ℕ) (end : ℕ) → GrowsPart took took (text ++ end ∷ [])
none_taken took text end = record {
  count = 0;
  short = some_left text end;
  grown = sym (append-nil took);
}

abbrev counts : ℕ → ℕ → ℕ → Counts
counts p m c = record { present = p; missing = m; contested = c }

-- three numbers are a frame's counts
pub are_counts : (c : Counts) (r : Raster) → c.present ≡ count_by is_present r.cells
    → c.missing ≡ count_by is_missing r.cells → c.contested ≡ count_by is_contested r.cells
    → c ≡ counts_of r
are_counts c r present missing contested =
    ap (λ (n : ℕ). counts n c.missing c.contested) present
    ∙ ap (λ (n : ℕ). counts (counts_of r).present n c.contested) missing
    ∙ ap (λ (n : ℕ). counts (counts_of r).present (counts_of r).missing n) contested

-- the line of a receiver's frame, by its counts
pub frame_line_is : (s : State) (timestamp : ℕ) (r : Raster) (c : Counts)
    → ◌≡◌ {A = Option Raster} (Some r) (frame_at s.opening.window s.frames timestamp)
    → c ≡ counts_of r
    → frame_counts (codes "frame ") timestamp c ++ 10 ∷ [] ≡ frame_line_at s timestamp
frame_line_is s timestamp r c found same =
    ap (λ (n : Counts). frame_counts (codes "frame ") timestamp n ++ 10 ∷ []) same
    ∙ ap (λ (o : Option Raster). frame_line timestamp o) found

-- what follows from what holds of a value, and from what holds after a fault
pub on_ok : {V E : Type 0} (r : Result V E) (P Q : Type 0) → (P → Q) → OnOk r P → OnOk r Q
on_ok (Ok v) P Q then is = then is
on_ok (Err e) P Q then is = is

pub on_err : {V E : Type 0} (r : Result V E) (P Q : Type 0) → (P → Q) → OnErr r P → OnErr r Q
on_err (Ok v) P Q then is = is
on_err (Err e) P Q then is = then is

-- what holds whatever a run came to holds after a fault
pub whenever : {V E : Type 0} (r : Result V E) (P : Type 0) → P → OnErr r P
whenever (Ok v) P p = tt
whenever (Err e) P p = p

-- ---- what is printed at a fault

-- nothing, whatever a run came to
pub none_printed : {V O : Type 0} (r : Result V Fault) (took : O → List ℕ) (failures : O → ℕ)
    (IsText : List ℕ → Type 0) (output : O)
    → OnErr r (PrintedAtFault took failures IsText output output)
none_printed r took failures IsText output = whenever r _ (inl refl)

memory_unlike : fault.Memory ≡ fault.Device → ⊥
memory_unlike is = cc

refusal_unlike : (e : Refusal) → fault.Refused e ≡ fault.Device → ⊥
refusal_unlike e is = cc

-- a first part of a text, where a run ends by printing it
pub part_printed : {V O : Type 0} (r : Result V Fault) (took : O → List ℕ) (failures : O → ℕ)
    (IsText : List ℕ → Type 0) (text : List ℕ) (old new : O) → IsText text
    → OnErr r (GrowsPart (took old) (took new) text) → IfErr r (λ f. f ≡ fault.Device)
    → Accounts r (failures_of (failures old) (failures new) ∷ [])
    → OnErr r (PrintedAtFault took failures IsText old new)
part_printed (Ok v) took failures IsText text old new is cut device accounts = tt
part_printed (Err fault.Device) took failures IsText text old new is cut device accounts =
    inr (accounts, (text, is, cut))
part_printed (Err fault.Memory) took failures IsText text old new is cut device accounts =
    absurd (memory_unlike device)
part_printed (Err (fault.Refused e)) took failures IsText text old new is cut device accounts =
    absurd (refusal_unlike e device)
