-- The lines of a text, by how many octets they have and how many LFs stand before them.
use Rattle.std.proofs.Common.{◌≡◌, ◌≤◌, ◌+◌, ℕ, zero, suc, Bool, true, false, List, [], ◌∷◌}
use Rattle.std.proofs.Common.{length, take, drop, arith, refl, ap}
use Rattle.std.specs.Prelude.{map}
use Rattle.std.specs.List.{position_or_len}
use Rattle.std.specs.Str.Lines.{strip_carriage_return}
use Rattle.std.proofs.lemmas.Grind.{common_steps}
use Rattle.std.proofs.lemmas.List.{length-take}
use Rattle.std.proofs.lemmas.List.Sums.{sum_by-cons}
use Rattle.sdp_format.specs.Bytes.{front, lines}
use Rattle.sdp_format.specs.Places.{IsPlace, is_line_feed, line_feeds}
use Rattle.sdp_format.specs.declared.place.Place.{Place}
use Rattle.sdp_format.proofs.Parts.{next_part}

-- LINE FEEDS

feeds-cons : (x : ℕ) (xs : List ℕ)
    → line_feeds (x ∷ xs) ≡ line_feeds (x ∷ []) + line_feeds xs
feeds-cons x xs = grind (arith, common_steps, sum_by-cons {X = ℕ})

pub feeds_mono : (a b : ℕ) (xs : List ℕ) → a ≤ b
    → line_feeds (take a xs) ≤ line_feeds (take b xs)
feeds_mono zero b xs h = omega arith
feeds_mono (suc a) zero xs h = absurd (omega arith)
feeds_mono (suc a) (suc b) [] h = omega arith
feeds_mono (suc a) (suc b) (x ∷ xs) h =
    let le : a ≤ b = omega arith in
    omega (arith, feeds_mono a b xs le, feeds-cons x (take a xs), feeds-cons x (take b xs))

take_none : (n : ℕ) → take {A = ℕ} n [] ≡ []
take_none zero = refl
take_none (suc n) = refl

pub feeds-add : (a b : ℕ) (xs : List ℕ)
    → line_feeds (take (a + b) xs) ≡ line_feeds (take a xs) + line_feeds (take b (drop a xs))
feeds-add zero b xs =
    let e : 0 + b ≡ b = omega arith in
    let same : line_feeds (take b xs) ≡ 0 + line_feeds (take b xs) = omega arith in
    rw e same
feeds-add (suc a) b [] =
    let e : suc a + b ≡ suc (a + b) = omega arith in
    rw (e, take_none b) (omega arith)
feeds-add (suc a) b (x ∷ xs) =
    let e : suc a + b ≡ suc (a + b) = omega arith in
    rw e (omega (arith, feeds-add a b xs, feeds-cons x (take (a + b) xs), feeds-cons x (take a xs)))

-- by cases on the first octet
no_feed_by : (k x : ℕ) (xs : List ℕ) (t : Bool) → is_line_feed x ≡ t
    → (k ≤ position_or_len is_line_feed xs → line_feeds (take k xs) ≡ 0)
    → suc k ≤ position_or_len is_line_feed (x ∷ xs) → line_feeds (take (suc k) (x ∷ xs)) ≡ 0
no_feed_by k x xs true e below h =
    let none : position_or_len is_line_feed (x ∷ xs) ≡ 0 = rw e refl in absurd (omega arith)
no_feed_by k x xs false e below h =
    let more : position_or_len is_line_feed (x ∷ xs) ≡ 1 + position_or_len is_line_feed xs =
    rw e refl in
    let none : line_feeds (x ∷ []) ≡ 0 = rw e refl in
    omega (arith, below (omega arith), feeds-cons x (take k xs))

pub no_feed : (k : ℕ) (xs : List ℕ) → k ≤ position_or_len is_line_feed xs
    → line_feeds (take k xs) ≡ 0
no_feed zero xs h = refl
no_feed (suc k) [] h = refl
no_feed (suc k) (x ∷ xs) h = no_feed_by k x xs (is_line_feed x) refl (no_feed k xs) h

-- LINES

pub strip_shorter : (bs : List ℕ) → length (strip_carriage_return bs) ≤ length bs
strip_shorter bs = grind (arith, common_steps)

first_line : (text line : List ℕ) (rest : List (List ℕ)) → lines text ≡ line ∷ rest
    → line ≡ strip_carriage_return (front 10 text)
first_line text line rest e = let h = ap (map strip_carriage_return) (next_part 10 text) in cc

pub line_shorter : (text line : List ℕ) (rest : List (List ℕ)) → lines text ≡ line ∷ rest
    → length line ≤ length text
line_shorter text line rest e =
    let f = first_line text line rest e in
    rw f (omega (
      arith,
      strip_shorter (front 10 text),
      length-take (position_or_len is_line_feed text) text,
    ))

pub line_whole : (text line : List ℕ) (rest : List (List ℕ)) → lines text ≡ line ∷ rest
    → line_feeds (take (length line) text) ≡ 0
line_whole text line rest e =
    let f = first_line text line rest e in
    let within : length line ≤ position_or_len is_line_feed text =
    rw f (omega (
      arith,
      strip_shorter (front 10 text),
      length-take (position_or_len is_line_feed text) text,
    )) in
    no_feed (length line) text within

-- PLACES

pub narrowed_place : (text : List ℕ) (p : Place) (from to : ℕ) → IsPlace text p → from ≤ to
    → p.start + to ≤ p.end
    → IsPlace text (record { line = p.line; start = p.start + from; end = p.start + to })
narrowed_place text p from to h ordered within = record {
  ordered = omega arith;
  within = omega (arith, h.within);
  line = omega (
    arith,
    h.line,
    h.same_line,
    feeds_mono p.start (p.start + from) text (omega arith),
    feeds_mono (p.start + from) p.end text (omega arith),
  );
  same_line = omega (
    arith,
    h.line,
    h.same_line,
    feeds_mono p.start (p.start + to) text (omega arith),
    feeds_mono (p.start + to) p.end text within,
  );
}
