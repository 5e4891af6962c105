-- What the calls of a follower keep.
use Rattle.std.proofs.Common.{◌≡◌, ℕ, ◌+◌, ◌<◌, ◌≤◌, List, [], ◌∷◌, ◌++◌, length, set}
use Rattle.std.proofs.Common.{get_or, All, Option, Some, Ok, Err, refl, sym, ap, ◌∙◌, subst}
use Rattle.std.proofs.Common.{arith, length-append, Bool, true, cond, option_to_list, Result}
use Rattle.std.specs.Prelude.{slice_get}
use Rattle.std.specs.List.{AllByRecursion, insert}
use Rattle.std.proofs.lemmas.List.{length-replicate}
use Rattle.std.proofs.lemmas.List.Edits.{length-insert}
use Rattle.std.proofs.lemmas.List.Elements.{recursion_from_All, All-from_recursion}
use Rattle.st_format.specs.declared.cell.Cell.TheVariants.{Missing}
use Rattle.st_format.specs.declared.format.Format.{Format}
use Rattle.st_format.specs.Position.{sample_count}
use Rattle.st_format.specs.Raster.{IsWhole, Raster, blank, cells_of, joined_cells, offers_in_all}
use Rattle.path_receiver.specs.declared.answer.Refusal.{Refusal}
use Rattle.path_receiver.specs.Frames.{IsReceiver}
use Rattle.path_receiver.specs.Grammar.{Datagram}
use Rattle.path_receiver.specs.Opening.{Opening}
use Rattle.path_receiver.specs.Sliding.{with_window}
use Rattle.path_receiver.proofs.Joined.{frames_kept, receiver_set, state}
use Rattle.path_receiver.proofs.Windows.{below_get}
use Rattle.following.specs.declared.answer.Followed.{Followed}
use Rattle.following.specs.declared.standing.Standing.{Standing}
use Rattle.following.specs.declared.standing.Standing.TheVariants.{Beyond, Inside, New, Waits}
use Rattle.following.specs.declared.standing.Standing.TheVariants.{Nowhere}
use Rattle.following.specs.Follower.{AreRising, Following, IsFollower, brought_in, followed_at, joined}
use Rattle.following.specs.Follower.{place_reached, read_in, reached, reading_of, since}
use Rattle.following.specs.Follower.{standing_of, state_after, taken_in, without_oldest}
use Rattle.following.specs.Spare.{HasSpare}
use Rattle.following.proofs.Newest.{comes_near}
use Rattle.following.proofs.Rising.{ComesIn, all_insert, different, place_within}
use Rattle.following.proofs.Rising.{rising_in, rising_since}

-- ---- a frame that comes in

pub comes_to : (s : Following) (place ts : ℕ) → standing_of s ts ≡ New place
    → ComesIn s.opening.window s.gone s.size ts place
comes_to s place ts h =
    comes_near s.most_ahead s.opening.window s.gone s.size ts place h

pub within_window : (w : List ℕ) (gone : Option ℕ) (size ts place : ℕ) → ComesIn w gone size ts place
    → place ≤ length w
within_window w before size ts place k = omega (arith, place_within ts w, k.at)

abbrev OfFormat : Format → Raster → Type 0
OfFormat f r = r.format ≡ f

-- A follower that a frame came into is a follower.
pub follower_brought : (s : Following) (place ts : ℕ) → IsFollower s → standing_of s ts ≡ New place
    → IsFollower (brought_in s place ts)
follower_brought s place ts is h =
    let f : Format = s.opening.format in
    let w : List ℕ = s.opening.window in
    let k : ComesIn w s.gone s.size ts place = comes_to s place ts h in
    let le : place ≤ length w = within_window w s.gone s.size ts place k in
    let most : place ≤ length s.frames = omega (arith, le, is.one_each) in
    record {
      payload_type = is.payload_type;
      size = is.size;
      room = omega (arith, length-insert w place ts le, k.room);
      rising =
          subst (λ (i : ℕ). AreRising (since s.gone (insert w i ts))) k.at
          (rising_since s.gone ts w is.rising k.behind k.all);
      one_each =
          omega (
            arith,
            length-insert w place ts le,
            length-insert s.frames place (blank f) most,
            is.one_each,
          );
      of_format =
          All-from_recursion (OfFormat f) (insert s.frames place (blank f))
          (all_insert (OfFormat f) (blank f) s.frames place
          (recursion_from_All (OfFormat f) s.frames is.of_format) refl);
      whole =
          All-from_recursion IsWhole (insert s.frames place (blank f))
          (all_insert IsWhole (blank f) s.frames place
          (recursion_from_All IsWhole s.frames is.whole)
          (length-replicate (sample_count f) Missing));
    }

-- ---- spare frames

all_front : {X : Type 0} (P : X → Type 0) (xs : List X) (x : X) → AllByRecursion P (xs ++ x ∷ [])
    → AllByRecursion P xs × P x
all_front P [] x h = (tt, h.0)
all_front P (y ∷ ys) x h = let k = all_front P ys x h.1 in ((h.0, k.0), k.1)

spare_is : (all spare : List Raster) (o : Option Raster) (r : Raster)
    → all ≡ spare ++ option_to_list o → o ≡ Some r → all ≡ spare ++ r ∷ []
spare_is all spare o r e got =
    e ∙ ap (λ (x : Option Raster). spare ++ option_to_list x) got

both_format : (f : Format) (spare : List Raster) (r : Raster) (all : List Raster)
    → All (OfFormat f) all → all ≡ spare ++ r ∷ []
    → AllByRecursion (OfFormat f) spare × OfFormat f r
both_format f spare r all h e =
    all_front (OfFormat f) spare r
    (subst (λ (xs : List Raster). AllByRecursion (OfFormat f) xs) e
    (recursion_from_All (OfFormat f) all h))

-- A spare frame was taken: it is blank, and the others are of the format.
pub spare_blank : (f : Format) (all spare : List Raster) (o : Option Raster) (r clear : Raster)
    → All (OfFormat f) all → all ≡ spare ++ option_to_list o → o ≡ Some r
    → clear ≡ blank r.format → clear ≡ blank f
spare_blank f all spare o r clear h e got cleared =
    cleared ∙ ap blank (both_format f spare r all h (spare_is all spare o r e got)).1

pub spare_rest : (f : Format) (all spare : List Raster) (o : Option Raster) (r : Raster)
    → All (OfFormat f) all → all ≡ spare ++ option_to_list o → o ≡ Some r
    → All (OfFormat f) spare
spare_rest f all spare o r h e got =
    All-from_recursion (OfFormat f) spare
    (both_format f spare r all h (spare_is all spare o r e got)).0

pub spare_count : (all spare : List Raster) (o : Option Raster) (r : Raster)
    → all ≡ spare ++ option_to_list o → o ≡ Some r → length spare + 1 ≡ length all
spare_count all spare o r e got =
    sym (ap length (spare_is all spare o r e got) ∙ length-append spare (r ∷ []))

-- One of them came in.
pub spare_taken : (f : Format) (size place : ℕ) (frames more spare all : List Raster) (r : Raster)
    (frames_most spare_most most room : ℕ) → HasSpare f size frames all frames_most spare_most
    → more ≡ insert frames place r → place ≤ length frames → length spare + 1 ≡ length all
    → All (OfFormat f) spare → frames_most ≤ most → room ≡ spare_most
    → HasSpare f size more spare most room
spare_taken f size place frames more spare all r frames_most spare_most most room has is le count h
    grew same = record {
      count =
          omega (arith, has.count, count, ap length is, length-insert frames place r le);
      of_format = h;
      room = omega (arith, has.room, grew);
      spare_room = omega (arith, has.spare_room, same);
    }

-- The frame that came in stands at its place.
pub frames_brought : (frames more : List Raster) (r q : Raster) (place : ℕ) (ok : Bool) → r ≡ q
    → ok ≡ true → more ≡ cond ok (insert frames place r) frames → more ≡ insert frames place q
frames_brought frames more r q place ok same is items =
    items ∙ ap (λ (b : Bool). cond b (insert frames place r) frames) is
    ∙ ap (λ (x : Raster). insert frames place x) same

abbrev made : Opening → ℕ → ℕ → Option ℕ → List ℕ → List Raster → Following
made o size ahead gone window frames = record {
  opening = with_window o window;
  frames = frames;
  size = size;
  most_ahead = ahead;
  gone = gone;
}

-- So the follower has one frame more.
pub brought_is : (s t : Following) (place ts : ℕ) (w : List ℕ) (frames : List Raster) → s ≡ t
    → w ≡ insert s.opening.window place ts
    → frames ≡ insert s.frames place (blank s.opening.format)
    → made s.opening s.size s.most_ahead s.gone w frames ≡ brought_in t place ts
brought_is s t place ts w frames same window more =
    ap (λ (x : List ℕ). made s.opening s.size s.most_ahead s.gone x frames) window
    ∙ ap (made s.opening s.size s.most_ahead s.gone (insert s.opening.window place ts)) more
    ∙ ap (λ (x : Following). brought_in x place ts) same

-- A frame was exchanged for another.
pub spare_kept : (f : Format) (size i : ℕ) (frames spare : List Raster) (new : Raster)
    (frames_most spare_most : ℕ) → HasSpare f size frames spare frames_most spare_most
    → length (set frames i new) ≡ length frames
    → HasSpare f size (set frames i new) spare frames_most spare_most
spare_kept f size i frames spare new frames_most spare_most has same = record {
  count = omega (arith, has.count, same);
  of_format = has.of_format;
  room = has.room;
  spare_room = has.spare_room;
}

-- ---- a datagram that is joined

-- it has the frames of a receiver with this window
as_receiver : (s : Following) → IsFollower s → 0 < length s.opening.window
    → IsReceiver (state s.opening s.frames [])
as_receiver s is some = record {
  payload_type = is.payload_type;
  window = record {
    size = record { some = some; most = omega (arith, is.room, is.size.most) };
    different =
        different s.opening.window (rising_in s.gone s.opening.window is.rising);
  };
  one_each = is.one_each;
  of_format = is.of_format;
  whole = is.whole;
  few_refusals = omega arith;
}

abbrev pub with_set : Following → ℕ → Raster → Following
with_set s place new = record {
  opening = s.opening;
  frames = set s.frames place new;
  size = s.size;
  most_ahead = s.most_ahead;
  gone = s.gone;
}

some_get : (ts place : ℕ) (w : List ℕ) → slice_get w place ≡ Some ts → 0 < length w
some_get ts place w at = let lt : place < length w = below_get ts place w at in omega (arith, lt)

-- A follower with one frame exchanged for another of its format is a follower.
pub follower_set : (s : Following) (place ts : ℕ) (new : Raster) → IsFollower s
    → slice_get s.opening.window place ≡ Some ts → new.format ≡ s.opening.format → IsWhole new
    → IsFollower (with_set s place new)
follower_set s place ts new is at kept whole =
    let r =
    receiver_set (state s.opening s.frames []) place new
    (as_receiver s is (some_get ts place s.opening.window at)) kept whole in
    record {
      payload_type = is.payload_type;
      size = is.size;
      room = is.room;
      rising = is.rising;
      one_each = r.one_each;
      of_format = r.of_format;
      whole = r.whole;
    }

abbrev with_frames : Following → List Raster → Following
with_frames s frames = record {
  opening = s.opening;
  frames = frames;
  size = s.size;
  most_ahead = s.most_ahead;
  gone = s.gone;
}

-- What a datagram offers was joined to the frame at its place.
pub joined_set : (s : Following) (octets : List ℕ) (d : Datagram) (place : ℕ) (new old : Raster)
    → IsFollower s → reading_of s.opening octets ≡ Ok d
    → slice_get s.opening.window place ≡ Some d.timestamp → old ≡ get_or s.frames place old
    → new.format ≡ old.format
    → ((ts : ℕ)
    → new.cells
    ≡ joined_cells old.cells (cells_of old.format (offers_in_all old.format ts d.segments) ts))
    → with_set s place new ≡ joined s octets
joined_set s octets d place new old is read at is_old kept joins =
    ap (with_frames s)
    (frames_kept (state s.opening s.frames []) octets d place new old
    (as_receiver s is (some_get d.timestamp place s.opening.window at)) read at is_old kept
    joins)

-- ---- where it stands

reading-reached : (s : Following) (ts : ℕ) (octets : List ℕ) (x : Standing)
    → reading_of (reached s ts x).opening octets ≡ reading_of s.opening octets
reading-reached s ts octets (Inside p) = refl
reading-reached s ts octets (New p) = refl
reading-reached s ts octets Waits = refl
reading-reached s ts octets Nowhere = refl
reading-reached s ts octets Beyond = refl

-- it says the same to the follower that a frame came into
pub read_again : (s t : Following) (octets : List ℕ) (ts : ℕ) (d : Datagram) (x : Standing)
    → t ≡ reached s ts x → reading_of s.opening octets ≡ Ok d → reading_of t.opening octets ≡ Ok d
read_again s t octets ts d x same read =
    ap (λ (u : Following). reading_of u.opening octets) same ∙ reading-reached s ts octets x ∙ read

pub taken_from : (s : Following) (octets : List ℕ) (ts place : ℕ) (x : Standing)
    → place_reached x ≡ Ok place → joined (reached s ts x) octets ≡ taken_in s octets ts x
taken_from s octets ts place (Inside p) h = refl
taken_from s octets ts place (New p) h = refl
taken_from s octets ts place Waits h = absurd cc
taken_from s octets ts place Nowhere h = absurd cc
taken_from s octets ts place Beyond h = absurd cc

-- A datagram that was joined was taken.
pub joined_taken : (s t : Following) (octets : List ℕ) (d : Datagram) (place : ℕ)
    → reading_of s.opening octets ≡ Ok d
    → t ≡ reached s d.timestamp (standing_of s d.timestamp)
    → place_reached (standing_of s d.timestamp) ≡ Ok place
    → joined t octets ≡ state_after s octets
joined_taken s t octets d place read same at =
    ap (λ (u : Following). joined u octets) same
    ∙ taken_from s octets d.timestamp place (standing_of s d.timestamp) at
    ∙ sym (ap (read_in s octets) read)

pub left_from : (s : Following) (octets : List ℕ) (ts number : ℕ) (x : Standing) (f : Followed)
    → place_reached x ≡ Err f
    → (reached s ts x ≡ s) × (taken_in s octets ts x ≡ s) × (followed_at number x ≡ f)
left_from s octets ts number (Inside p) f h = absurd cc
left_from s octets ts number (New p) f h = absurd cc
left_from s octets ts number Waits f h = (refl, refl, cc)
left_from s octets ts number Nowhere f h = (refl, refl, cc)
left_from s octets ts number Beyond f h = (refl, refl, cc)

-- One that was not joined left the follower.
pub left_state : (s t : Following) (octets : List ℕ) (d : Datagram) (f : Followed)
    → reading_of s.opening octets ≡ Ok d
    → t ≡ reached s d.timestamp (standing_of s d.timestamp)
    → place_reached (standing_of s d.timestamp) ≡ Err f → t ≡ state_after s octets
left_state s t octets d f read same at =
    let k = left_from s octets d.timestamp d.number (standing_of s d.timestamp) f at in
    same ∙ k.0 ∙ sym k.1 ∙ sym (ap (read_in s octets) read)

pub refused_state : (s : Following) (octets : List ℕ) (e : Refusal)
    → reading_of s.opening octets ≡ Err e → s ≡ state_after s octets
refused_state s octets e read = sym (ap (read_in s octets) read)

-- ---- formats

format-reached : (s : Following) (ts : ℕ) (x : Standing)
    → (reached s ts x).opening.format ≡ s.opening.format
format-reached s ts (Inside p) = refl
format-reached s ts (New p) = refl
format-reached s ts Waits = refl
format-reached s ts Nowhere = refl
format-reached s ts Beyond = refl

pub format_again : (s t : Following) (ts : ℕ) (x : Standing) → t ≡ reached s ts x
    → t.opening.format ≡ s.opening.format
format_again s t ts x same =
    ap (λ (u : Following). u.opening.format) same ∙ format-reached s ts x

format-taken : (s : Following) (octets : List ℕ) (ts : ℕ) (x : Standing)
    → (taken_in s octets ts x).opening.format ≡ s.opening.format
format-taken s octets ts (Inside p) = refl
format-taken s octets ts (New p) = refl
format-taken s octets ts Waits = refl
format-taken s octets ts Nowhere = refl
format-taken s octets ts Beyond = refl

format-read : (s : Following) (octets : List ℕ) (r : Result Datagram Refusal)
    → (read_in s octets r).opening.format ≡ s.opening.format
format-read s octets (Ok d) = format-taken s octets d.timestamp (standing_of s d.timestamp)
format-read s octets (Err e) = refl

-- Taking a datagram leaves the format.
pub format_left : (s t : Following) (octets : List ℕ) → t ≡ state_after s octets
    → t.opening.format ≡ s.opening.format
format_left s t octets same =
    ap (λ (u : Following). u.opening.format) same
    ∙ format-read s octets (reading_of s.opening octets)

first_format : (f : Format) (rs : List Raster) (r : Raster) → AllByRecursion (OfFormat f) rs
    → slice_get rs 0 ≡ Some r → r.format ≡ f
first_format f [] r h e = absurd cc
first_format f (q ∷ rs) r h e = let same : q ≡ r = cc in ap (λ (x : Raster). x.format) (sym same) ∙ h.0

-- What is handed out has the follower's format.
pub handed_format : (s t : Following) (r : Raster) → IsFollower s → slice_get s.frames 0 ≡ Some r
    → t ≡ without_oldest s → r.format ≡ t.opening.format
handed_format s t r is first same =
    first_format s.opening.format s.frames r
    (recursion_from_All (OfFormat s.opening.format) s.frames is.of_format) first
    ∙ ap (λ (u : Following). u.opening.format) (sym same)
