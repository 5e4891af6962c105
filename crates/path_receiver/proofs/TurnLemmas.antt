-- What a receiver has of the turns of a source.
use Rattle.std.proofs.Common.{◌≡◌, ℕ, zero, suc, ◌+◌, ◌-◌, ◌^◌, ◌≤◌, ◌<◌, min, Bool, true, false}
use Rattle.std.proofs.Common.{List, [], ◌∷◌, ◌++◌}
use Rattle.std.proofs.Common.{fold, length, map, take, drop, Option, Some, None, Result, Ok, Err}
use Rattle.std.proofs.Common.{MatchResult, refl, sym, ap, ◌∙◌, subst, arith}
use Rattle.std.specs.List.{AllByRecursion, flat_map}
use Rattle.std.proofs.lemmas.List.{append-nil, append_assoc, length-append, length-drop, take_at}
use Rattle.std.proofs.lemmas.List.{drop-append-le, drop-drop, drop_at}
use Rattle.std.proofs.lemmas.List.Concat.{flat_map-append}
use Rattle.std.proofs.lemmas.List.Sums.{fold_push}
use Rattle.std.proofs.lemmas.List.Elements.{recursion_from_All}
use Rattle.st_format.specs.declared.cell.Cell.{Cell}
use Rattle.st_format.specs.declared.device.Turn.TheVariants.{Datagram, Quiet}
use Rattle.st_format.specs.declared.format.Format.{Format}
use Rattle.st_format.specs.declared.path.Path.{Path}
use Rattle.st_format.specs.Device.{CountsOne}
use Rattle.st_format.specs.Member.{SameDatagrams}
use Rattle.st_format.specs.Position.{sample_count}
use Rattle.st_format.specs.Raster.{Raster, IsWhole, cells_of, joined_cells, raster_of}
use Rattle.st_format.specs.Turns.{Due, Comes, Nothing, GivesTurns, HasEnded, TakesTurn}
use Rattle.st_format.specs.Turns.{came_of, datagrams_of}
use Rattle.st_format.proofs.Rasters.{joined_none}
use Rattle.path_receiver.specs.declared.answer.Refusal.{Refusal}
use Rattle.path_receiver.specs.declared.answer.Taken.{Taken}
use Rattle.path_receiver.specs.declared.receiving.ReceiveFault.{ReceiveFault}
use Rattle.path_receiver.specs.declared.receiving.Received.{Received}
use Rattle.path_receiver.specs.Frames.{State, Holds, IsReceiver, frames_of, joined_frames}
use Rattle.path_receiver.specs.Answers.{last_64, refusals_after, taken_at}
use Rattle.path_receiver.specs.Opening.{Opening}
use Rattle.path_receiver.specs.Took.{ComesMore, CountsAll, HearsAll, TakesDue, Took, TookUpTo}
use Rattle.path_receiver.specs.Took.{answers_to, datagrams_since, delivered_in, refusal_of}
use Rattle.path_receiver.specs.Took.{refused_by}
use Rattle.path_receiver.proofs.Frames.{frames_of-append, frames_of-same}
use Rattle.path_receiver.proofs.MergeLemmas.{joined_frames-assoc}

-- ---- joins of frames

abbrev with_cells : Raster → List Cell → Raster
with_cells r cells = record { format = r.format; cells = cells }

frames_stay : (f : Format) (w : List ℕ) (rs : List Raster) → length rs ≡ length w
    → AllByRecursion (λ r. r.format ≡ f) rs → AllByRecursion IsWhole rs
    → rs ≡ joined_frames rs (map (raster_of f []) w)
frames_stay f [] [] e formats whole = refl
frames_stay f [] (r ∷ rs) e formats whole = absurd (omega arith)
frames_stay f (t ∷ w) [] e formats whole = absurd (omega arith)
frames_stay f (t ∷ w) (r ∷ rs) e formats whole =
    let first : r ≡ with_cells r (joined_cells r.cells (cells_of f [] t)) =
    ap (with_cells r) (sym (joined_none f t r.cells (whole.0 ∙ ap sample_count formats.0))) in
    let rest : rs ≡ joined_frames rs (map (raster_of f []) w) =
    frames_stay f w rs (omega arith) formats.1 whole.1 in
    ap (λ (q : Raster). q ∷ rs) first
    ∙ ap (λ (qs : List Raster). with_cells r (joined_cells r.cells (cells_of f [] t)) ∷ qs) rest

-- no datagram leaves the frames
no_datagram : (s : State) → IsReceiver s
    → s.frames ≡ joined_frames s.frames (frames_of s.opening [])
no_datagram s is =
    frames_stay s.opening.format s.opening.window s.frames is.one_each
    (recursion_from_All (λ (r : Raster). r.format ≡ s.opening.format) s.frames is.of_format)
    (recursion_from_All IsWhole s.frames is.whole)

-- some datagrams, and one more
one_more : (s t u : State) (ds : List (List ℕ)) (d : List ℕ) → t.opening ≡ s.opening
    → t.frames ≡ joined_frames s.frames (frames_of s.opening ds)
    → u.frames ≡ joined_frames t.frames (frames_of t.opening (d ∷ []))
    → u.frames ≡ joined_frames s.frames (frames_of s.opening (ds ++ d ∷ []))
one_more s t u ds d opening before now =
    now ∙ ap (λ (o : Opening). joined_frames t.frames (frames_of o (d ∷ []))) opening
    ∙ ap (λ (rs : List Raster). joined_frames rs (frames_of s.opening (d ∷ []))) before
    ∙ joined_frames-assoc s.frames (frames_of s.opening ds) (frames_of s.opening (d ∷ []))
    ∙ ap (joined_frames s.frames) (sym (frames_of-append s.opening ds (d ∷ [])))

-- ---- turns

pub datagrams_of-append : (xs ys : List Due)
    → datagrams_of (xs ++ ys) ≡ datagrams_of xs ++ datagrams_of ys
datagrams_of-append [] ys = refl
datagrams_of-append (Comes path octets ∷ xs) ys =
    ap (λ (ds : List (List ℕ)). octets ∷ ds) (datagrams_of-append xs ys)
datagrams_of-append (Nothing ∷ xs) ys = datagrams_of-append xs ys

came_of-append : (xs ys : List Due) → came_of (xs ++ ys) ≡ came_of xs ++ came_of ys
came_of-append [] ys = refl
came_of-append (Comes path octets ∷ xs) ys =
    ap (λ (ds : List (Path × List ℕ)). (path, octets) ∷ ds) (came_of-append xs ys)
came_of-append (Nothing ∷ xs) ys = came_of-append xs ys

-- what came in turns, and in more
comes_more : (xs ys : List Due) (old mid new : List (Path × List ℕ)) → ComesMore old mid xs
    → new ≡ mid ++ came_of ys → ComesMore old new (xs ++ ys)
comes_more xs ys old mid new first next =
    next ∙ ap (λ (ds : List (Path × List ℕ)). ds ++ came_of ys) first
    ∙ append_assoc old (came_of xs) (came_of ys)
    ∙ ap (λ (ds : List (Path × List ℕ)). old ++ ds) (sym (came_of-append xs ys))

gives_none : (old : Option (List Due)) → GivesTurns old old []
gives_none None = tt
gives_none (Some due) = refl

gives_more : (xs ys : List Due) (old mid new : Option (List Due)) → GivesTurns old mid xs
    → GivesTurns mid new ys → GivesTurns old new (xs ++ ys)
gives_more xs ys None mid new first next = tt
gives_more xs ys (Some a) None new first next = absurd first
gives_more xs ys (Some a) (Some b) None first next = absurd next
gives_more xs ys (Some a) (Some b) (Some c) first next =
    first ∙ ap (λ (l : List Due). xs ++ l) next ∙ sym (append_assoc xs ys c)

-- ---- refusals

pub last_64_few : {X : Type 0} → (xs : List X) → length xs ≤ 64 → last_64 xs ≡ xs
last_64_few xs few = let none : length xs - 64 ≡ 0 =
    omega (arith, few) in ap (λ (n : ℕ). drop n xs) none

-- the last of the last and more are the last of all
pub last_64_again : {X : Type 0} → (xs ys : List X)
    → last_64 (last_64 xs ++ ys) ≡ last_64 (xs ++ ys)
last_64_again xs ys =
    let n : ℕ = length xs - 64 in
    let le : n ≤ length xs = omega arith in
    let front : drop n xs ++ ys ≡ drop n (xs ++ ys) = sym (drop-append-le n xs ys le) in
    let many : n + (length (drop n xs ++ ys) - 64) ≡ length (xs ++ ys) - 64 =
    omega (arith, length-append (drop n xs) ys, length-append xs ys, length-drop n xs) in
    ap (drop (length (drop n xs ++ ys) - 64)) front
    ∙ drop-drop (length (drop n xs ++ ys) - 64) n (xs ++ ys)
    ∙ ap (λ (m : ℕ). drop m (xs ++ ys)) many

-- what is kept after an answer
kept_after : (path : Path) (r : Result Taken Refusal) (xs : List (Path × Refusal)) → length xs ≤ 64
    → refusals_after path r xs ≡ last_64 (xs ++ refused_by path r)
kept_after path (Ok t) xs few =
    sym (ap (λ (ys : List (Path × Refusal)). last_64 ys) (append-nil xs) ∙ last_64_few xs few)
kept_after path (Err e) xs few = refl

-- what is kept after one turn more
refused_more : (s t u : State) (due more : List Due) (path : Path) (d : List ℕ)
    (r : Result Taken Refusal) → more ≡ Comes path d ∷ [] → IsReceiver t → t.opening ≡ s.opening
    → t.refusals ≡ last_64 (s.refusals ++ flat_map (refusal_of s.opening) due)
    → r ≡ taken_at t.opening d → u.refusals ≡ refusals_after path r t.refusals
    → u.refusals ≡ last_64 (s.refusals ++ flat_map (refusal_of s.opening) (due ++ more))
refused_more s t u due more path d r is_more is opening before answer now =
    let before_all : List (Path × Refusal) = s.refusals ++ flat_map (refusal_of s.opening) due in
    let one : List (Path × Refusal) = refused_by path r in
    let said : one ≡ flat_map (refusal_of s.opening) more =
    ap (refused_by path) (answer ∙ ap (λ (o : Opening). taken_at o d) opening)
    ∙ sym (append-nil (refusal_of s.opening (Comes path d)))
    ∙ ap (flat_map (refusal_of s.opening)) (sym is_more) in
    now ∙ kept_after path r t.refusals is.few_refusals
    ∙ ap (λ (xs : List (Path × Refusal)). last_64 (xs ++ one)) before
    ∙ last_64_again before_all one
    ∙ ap (λ (xs : List (Path × Refusal)). last_64 (before_all ++ xs)) said
    ∙ ap (λ (xs : List (Path × Refusal)). last_64 xs)
    (append_assoc s.refusals (flat_map (refusal_of s.opening) due)
    (flat_map (refusal_of s.opening) more)
    ∙ ap (λ (xs : List (Path × Refusal)). s.refusals ++ xs)
    (sym (flat_map-append (refusal_of s.opening) due more)))

-- ---- what was taken

-- what was taken in k turns
pub record SoFar (k delivered : ℕ) (old now : Option (List Due))
    (before after : State) : Type 0 where
  pub due : List Due
  pub given : GivesTurns old now due
  pub turns : length due ≡ k
  pub taken : TakesDue due delivered before after

pub nothing_taken : (old : Option (List Due)) (s : State) → IsReceiver s → SoFar 0 0 old old s s
nothing_taken old s is = record {
  due = [];
  given = gives_none old;
  turns = refl;
  taken =
      record {
        count = refl;
        opening = refl;
        frames = no_datagram s is;
        refusals =
            sym (ap (λ (xs : List (Path × Refusal)). last_64 xs) (append-nil s.refusals)
            ∙ last_64_few s.refusals is.few_refusals);
      };
}

pub datagram_taken : (k n count : ℕ) (path : Path) (buf : List ℕ) (r : Result Taken Refusal)
    (old mid new : Option (List Due)) (s t u : State) → SoFar k n old mid s t → IsReceiver t
    → TakesTurn mid new (Datagram path count) buf → u.opening ≡ t.opening
    → u.frames ≡ joined_frames t.frames (frames_of t.opening (take count buf ∷ []))
    → r ≡ taken_at t.opening (take count buf) → u.refusals ≡ refusals_after path r t.refusals
    → SoFar (k + 1) (n + 1) old new s u
datagram_taken k n count path buf r old mid new s t u so_far is turn opening frames answer
    refusals =
    let d : List ℕ = take count buf in
    let more : List Due = Comes path d ∷ [] in
    let all : datagrams_of (so_far.due ++ more) ≡ datagrams_of so_far.due ++ d ∷ [] =
    datagrams_of-append so_far.due more in
    record {
      due = so_far.due ++ more;
      given = gives_more so_far.due more old mid new so_far.given turn;
      turns = omega (arith, length-append so_far.due more, so_far.turns);
      taken = record {
        count =
            ap length all
            ∙ omega (arith, length-append (datagrams_of so_far.due) (d ∷ []), so_far.taken.count);
        opening = opening ∙ so_far.taken.opening;
        frames =
            one_more s t u
            (datagrams_of so_far.due) d so_far.taken.opening so_far.taken.frames frames
            ∙ ap (λ (ds : List (List ℕ)). joined_frames s.frames (frames_of s.opening ds))
            (sym all);
        refusals =
            refused_more s t u so_far.due more path d r refl is so_far.taken.opening
            so_far.taken.refusals answer refusals;
      };
    }

pub quiet_taken : (k n : ℕ) (buf : List ℕ) (old mid new : Option (List Due)) (s t : State)
    → SoFar k n old mid s t → TakesTurn mid new Quiet buf → SoFar (k + 1) n old new s t
quiet_taken k n buf old mid new s t so_far turn =
    let more : List Due = Nothing ∷ [] in
    let all : datagrams_of (so_far.due ++ more) ≡ datagrams_of so_far.due =
    datagrams_of-append so_far.due more ∙ append-nil (datagrams_of so_far.due) in
    record {
      due = so_far.due ++ more;
      given = gives_more so_far.due more old mid new so_far.given turn;
      turns = omega (arith, length-append so_far.due more, so_far.turns);
      taken = record {
        count = ap length all ∙ so_far.taken.count;
        opening = so_far.taken.opening;
        frames =
            so_far.taken.frames
            ∙ ap (λ (ds : List (List ℕ)). joined_frames s.frames (frames_of s.opening ds))
            (sym all);
        refusals =
            so_far.taken.refusals
            ∙ ap (λ (xs : List (Path × Refusal)). last_64 (s.refusals ++ xs))
            (sym (flat_map-append (refusal_of s.opening) so_far.due more
            ∙ append-nil (flat_map (refusal_of s.opening) so_far.due)));
      };
    }

-- ---- what was heard

-- the answers to turns, and to one datagram more
answers_more : (o : Opening) (due : List Due) (path : Path) (d : List ℕ)
    → answers_to o (due ++ Comes path d ∷ []) ≡ answers_to o due ++ taken_at o d ∷ []
answers_more o [] path d = refl
answers_more o (Comes p x ∷ due) path d =
    ap (λ (rest : List (Result Taken Refusal)). taken_at o x ∷ rest) (answers_more o due path d)
answers_more o (Nothing ∷ due) path d = answers_more o due path d

answers_quiet : (o : Opening) (due : List Due)
    → answers_to o (due ++ Nothing ∷ []) ≡ answers_to o due
answers_quiet o [] = refl
answers_quiet o (Comes p x ∷ due) =
    ap (λ (rest : List (Result Taken Refusal)). taken_at o x ∷ rest) (answers_quiet o due)
answers_quiet o (Nothing ∷ due) = answers_quiet o due

-- what was taken in k turns, an observer was told the answers, and this came
pub record Heard {O : Type 0} (after : O → Result Taken Refusal → O) (k delivered : ℕ)
    (old now : Option (List Due)) (before later : State) (was is : O)
    (first last : List (Path × List ℕ)) : Type 0 where
  pub so_far : SoFar k delivered old now before later
  pub heard : HearsAll after before.opening so_far.due was is
  pub came : ComesMore first last so_far.due

pub nothing_heard : {O : Type 0} (after : O → Result Taken Refusal → O) (old : Option (List Due))
    (s : State) (o : O) (c : List (Path × List ℕ)) → IsReceiver s
    → Heard after 0 0 old old s s o o c c
unfolding nothing_taken
nothing_heard after old s o c is =
    record { so_far = nothing_taken old s is; heard = refl; came = sym (append-nil c) }

pub datagram_heard : {O : Type 0} (after : O → Result Taken Refusal → O) (k n count : ℕ)
    (path : Path) (buf : List ℕ) (r : Result Taken Refusal)
    (old mid new : Option (List Due)) (s t u : State) (was is now : O)
    (c d e : List (Path × List ℕ)) → Heard after k n old mid s t was is c d → IsReceiver t
    → TakesTurn mid new (Datagram path count) buf → u.opening ≡ t.opening
    → u.frames ≡ joined_frames t.frames (frames_of t.opening (take count buf ∷ []))
    → r ≡ taken_at t.opening (take count buf) → u.refusals ≡ refusals_after path r t.refusals
    → now ≡ after is r → e ≡ d ++ (path, take count buf) ∷ []
    → Heard after (k + 1) (n + 1) old new s u was now c e
unfolding datagram_taken
datagram_heard {O} after k n count path buf r old mid new s t u was is now c d e so receiver turn
    opening frames answer refusals noted came =
    let octets : List ℕ = take count buf in
    let due : List Due = so.so_far.due in
    let said : r ≡ taken_at s.opening octets =
    answer ∙ ap (λ (o : Opening). taken_at o octets) so.so_far.taken.opening in
    record {
      so_far = datagram_taken k n count path buf r old mid new s t u so.so_far receiver turn opening
          frames answer refusals;
      heard = noted ∙ ap (λ (o : O). after o r) so.heard
          ∙ ap (after (fold after was (answers_to s.opening due))) said
          ∙ sym (fold_push after was (answers_to s.opening due) (taken_at s.opening octets))
          ∙ ap (fold after was) (sym (answers_more s.opening due path octets));
      came = comes_more due (Comes path octets ∷ []) c d e so.came came;
    }

pub quiet_heard : {O : Type 0} (after : O → Result Taken Refusal → O) (k n : ℕ) (buf : List ℕ)
    (old mid new : Option (List Due)) (s t : State) (was is : O) (c d e : List (Path × List ℕ))
    → Heard after k n old mid s t was is c d → TakesTurn mid new Quiet buf → e ≡ d ++ []
    → Heard after (k + 1) n old new s t was is c e
unfolding quiet_taken
quiet_heard after k n buf old mid new s t was is c d e so turn came = record {
  so_far = quiet_taken k n buf old mid new s t so.so_far turn;
  heard = so.heard ∙ ap (fold after was) (sym (answers_quiet s.opening so.so_far.due));
  came = comes_more so.so_far.due (Nothing ∷ []) c d e so.came came;
}

-- up to the limit
pub heard_limit : {O : Type 0} (after : O → Result Taken Refusal → O) (limit k n : ℕ)
    (old now : Option (List Due)) (s t : State) (was is : O) (c d : List (Path × List ℕ))
    → Heard after k n old now s t was is c d → limit ≤ k → k ≤ limit
    → (took : Took limit (record { delivered = n; ended = false }) old now s t)
    × HearsAll after s.opening took.due was is × ComesMore c d took.due
heard_limit after limit k n old now s t was is c d so most least = (
  record {
    due = so.so_far.due;
    given = so.so_far.given;
    turns = omega (arith, so.so_far.turns, most, least);
    ended = λ not. absurd (never not);
    taken = so.so_far.taken;
  },
  so.heard,
  so.came,
)
  where
    never : (let none : Bool = false in none ≡ true) → ⊥
    never not = cc

-- up to the end
pub heard_end : {O : Type 0} (after : O → Result Taken Refusal → O) (limit k n : ℕ)
    (old mid new : Option (List Due)) (s t : State) (was is : O) (c d e : List (Path × List ℕ))
    → Heard after k n old mid s t was is c d → k < limit → GivesTurns mid new [] → HasEnded new
    → e ≡ d ++ []
    → (took : Took limit (record { delivered = n; ended = true }) old new s t)
    × HearsAll after s.opening took.due was is × ComesMore c e took.due
heard_end after limit k n old mid new s t was is c d e so below given end none = (
  record {
    due = so.so_far.due;
    given = subst (λ (due : List Due). GivesTurns old new due) (append-nil so.so_far.due)
        (gives_more so.so_far.due [] old mid new so.so_far.given given);
    turns = omega (arith, so.so_far.turns, below);
    ended = λ _. end;
    taken = so.so_far.taken;
  },
  so.heard,
  none ∙ append-nil d ∙ so.came,
)

-- up to a fault
pub heard_fault : {O : Type 0} (after : O → Result Taken Refusal → O) (limit k n : ℕ)
    (old now : Option (List Due)) (s t : State) (was is : O) (c d e : List (Path × List ℕ))
    → Heard after k n old now s t was is c d → k < limit → e ≡ d
    → (took : TookUpTo limit n old s t) × HearsAll after s.opening took.due was is
    × ComesMore c e took.due
heard_fault after limit k n old now s t was is c d e so below same = (
  record {
    due = so.so_far.due;
    rest = now;
    given = so.so_far.given;
    turns = omega (arith, so.so_far.turns, below);
    taken = so.so_far.taken;
  },
  so.heard,
  same ∙ so.came,
)

-- ---- counts

pub counts_none : (old : ℕ) → CountsAll 0 old old
counts_none old = record { none = λ _. refl; some = λ lt. absurd (omega arith) }

one_counted : (n old mid new : ℕ) → CountsAll n old mid → CountsOne mid new
    → new ≡ min (old + (n + 1)) (2 ^ 64 - 1)
one_counted zero old mid new before one = let same : mid ≡ old =
    before.none refl in omega (arith, one, same)
one_counted (suc n) old mid new before one = let is : mid ≡ min (old + suc n) (2 ^ 64 - 1) =
    before.some (omega arith) in omega (arith, one, is)

pub counts_more : (n old mid new : ℕ) → CountsAll n old mid → CountsOne mid new
    → CountsAll (n + 1) old new
counts_more n old mid new before one =
    record { none = λ e. absurd (omega arith); some = λ _. one_counted n old mid new before one }

-- ---- what it holds

gave_first : (old : List Due) (rest : Option (List Due)) (due : List Due) (n : ℕ)
    → GivesTurns (Some old) rest due → length (datagrams_of due) ≡ n
    → take n (datagrams_of old) ≡ datagrams_of due
gave_first old None due n given count = absurd given
gave_first old (Some rest) due n given count =
    ap (λ (ts : List Due). take n (datagrams_of ts)) given
    ∙ ap (take n) (datagrams_of-append due rest)
    ∙ take_at (datagrams_of due) (datagrams_of rest) n count

-- of some datagrams, and of those among turns
holds_taken : (due : List Due) (n : ℕ) (s t : State) (ds : List (List ℕ)) → TakesDue due n s t
    → Holds s ds → Holds t (ds ++ datagrams_of due)
holds_taken due n s t ds taken holds =
    let xs : List (List ℕ) = datagrams_of due in
    taken.frames ∙ ap (λ (rs : List Raster). joined_frames rs (frames_of s.opening xs)) holds
    ∙ sym (frames_of-append s.opening ds xs)
    ∙ ap (λ (o : Opening). frames_of o (ds ++ xs)) (sym taken.opening)

holds_due : (old rest : Option (List Due)) (due turns : List Due) (n : ℕ) (s t : State)
    (ds : List (List ℕ)) → GivesTurns old rest due → TakesDue due n s t → old ≡ Some turns
    → Holds s ds
    → Holds t (ds ++ take n (datagrams_of turns))
holds_due old rest due turns n s t ds given taken told holds =
    let first : take n (datagrams_of turns) ≡ datagrams_of due =
    gave_first turns rest due n
    (subst (λ (o : Option (List Due)). GivesTurns o rest due) told given) taken.count in
    subst (λ (xs : List (List ℕ)). Holds t (ds ++ xs)) (sym first)
    (holds_taken due n s t ds taken holds)

-- what came in turns are their datagrams
octets_came : (due : List Due)
    → map (λ (d : Path × List ℕ). d.1) (came_of due) ≡ datagrams_of due
octets_came [] = refl
octets_came (Comes path octets ∷ due) =
    ap (λ (ds : List (List ℕ)). octets ∷ ds) (octets_came due)
octets_came (Nothing ∷ due) = octets_came due

since_due : (due : List Due) (c d : List (Path × List ℕ)) → ComesMore c d due
    → datagrams_since c d ≡ datagrams_of due
since_due due c d came =
    ap (λ (ds : List (Path × List ℕ)). map (λ (d : Path × List ℕ). d.1) ds)
    (ap (drop (length c)) came ∙ drop_at c (came_of due) (length c) refl)
    ∙ octets_came due

holds_since : (due : List Due) (n : ℕ) (s t : State) (c d : List (Path × List ℕ))
    (ds : List (List ℕ)) → TakesDue due n s t → ComesMore c d due → Holds s ds
    → Holds t (ds ++ datagrams_since c d)
holds_since due n s t c d ds taken came holds =
    subst (λ (xs : List (List ℕ)). Holds t (ds ++ xs)) (sym (since_due due c d came))
    (holds_taken due n s t ds taken holds)

-- Where a receiver held the Frames of some datagrams, it then holds those of them and of what was
-- delivered.
pub holds_delivered : (limit : ℕ) (r : Result Received ReceiveFault) (old new : Option (List Due))
    (s t : State)
    → MatchResult r (λ x. Took limit x old new s t) (λ e. TookUpTo limit e.delivered old s t)
    → (ds : List (List ℕ)) (turns : List Due) → old ≡ Some turns → Holds s ds
    → Holds t (ds ++ take (delivered_in r) (datagrams_of turns))
holds_delivered limit (Ok x) old new s t took ds turns told holds =
    holds_due old new took.due turns x.delivered s t ds took.given took.taken told holds
holds_delivered limit (Err e) old new s t took ds turns told holds =
    holds_due old took.rest took.due turns e.delivered s t ds took.given took.taken told holds

-- From the Frames of nothing, it then holds those of every list with the same datagrams.
pub holds_any : (s t : State) (n : ℕ) (due : List Due)
    → ((ds : List (List ℕ)) → Holds s ds → Holds t (ds ++ take n (datagrams_of due)))
    → (ds : List (List ℕ)) → Holds s [] → SameDatagrams (take n (datagrams_of due)) ds → Holds t ds
holds_any s t n due holds ds none same =
    holds [] none ∙ frames_of-same t.opening (take n (datagrams_of due)) ds same

-- ---- what was heard of turns that a source told

heard_due : {O : Type 0} (after : O → Result Taken Refusal → O) (o : Opening)
    (old rest : Option (List Due)) (due turns : List Due) (n : ℕ) (was is : O)
    → GivesTurns old rest due → length (datagrams_of due) ≡ n → old ≡ Some turns
    → HearsAll after o due was is
    → is ≡ fold after was (map (taken_at o) (take n (datagrams_of turns)))
heard_due after o old rest due turns n was is given count told heard =
    heard ∙ ap (λ (ds : List (List ℕ)). fold after was (map (taken_at o) ds))
    (sym (gave_first turns rest due n
    (subst (λ (x : Option (List Due)). GivesTurns x rest due) told given) count))

-- the answers to as many datagrams as were delivered
pub heard_delivered : {O : Type 0} (after : O → Result Taken Refusal → O) (limit : ℕ)
    (r : Result Received ReceiveFault) (old new : Option (List Due)) (s t : State) (was is : O)
    → MatchResult r
    (λ x. (took : Took limit x old new s t) × HearsAll after s.opening took.due was is)
    (λ e. (took : TookUpTo limit e.delivered old s t) × HearsAll after s.opening took.due was is)
    → (turns : List Due) → old ≡ Some turns
    → is ≡ fold after was (map (taken_at s.opening) (take (delivered_in r) (datagrams_of turns)))
heard_delivered after limit (Ok x) old new s t was is (took, heard) turns told =
    heard_due after s.opening old new took.due turns x.delivered was is took.given took.taken.count
    told heard
heard_delivered after limit (Err e) old new s t was is (took, heard) turns told =
    heard_due after s.opening old took.rest took.due turns e.delivered was is took.given
    took.taken.count told heard

-- what was taken, without what was heard
pub only_taken : {O : Type 0} (after : O → Result Taken Refusal → O) (limit : ℕ)
    (r : Result Received ReceiveFault) (old new : Option (List Due)) (s t : State) (was is : O)
    → MatchResult r
    (λ x. (took : Took limit x old new s t) × HearsAll after s.opening took.due was is)
    (λ e. (took : TookUpTo limit e.delivered old s t) × HearsAll after s.opening took.due was is)
    → MatchResult r (λ x. Took limit x old new s t) (λ e. TookUpTo limit e.delivered old s t)
only_taken after limit (Ok x) old new s t was is (took, heard) = took
only_taken after limit (Err e) old new s t was is (took, heard) = took

-- ---- what came

-- what was taken and heard, without what came
pub only_heard : {O : Type 0} (after : O → Result Taken Refusal → O) (limit : ℕ)
    (r : Result Received ReceiveFault) (old new : Option (List Due)) (s t : State) (was is : O)
    (c d : List (Path × List ℕ))
    → MatchResult r
    (λ x. (took : Took limit x old new s t) × HearsAll after s.opening took.due was is
    × ComesMore c d took.due)
    (λ e. (took : TookUpTo limit e.delivered old s t) × HearsAll after s.opening took.due was is
    × ComesMore c d took.due)
    → MatchResult r
    (λ x. (took : Took limit x old new s t) × HearsAll after s.opening took.due was is)
    (λ e. (took : TookUpTo limit e.delivered old s t) × HearsAll after s.opening took.due was is)
only_heard after limit (Ok x) old new s t was is c d (took, heard, came) = (took, heard)
only_heard after limit (Err e) old new s t was is c d (took, heard, came) = (took, heard)

-- what was taken and came, without what was heard
pub only_came : {O : Type 0} (after : O → Result Taken Refusal → O) (limit : ℕ)
    (r : Result Received ReceiveFault) (old new : Option (List Due)) (s t : State) (was is : O)
    (c d : List (Path × List ℕ))
    → MatchResult r
    (λ x. (took : Took limit x old new s t) × HearsAll after s.opening took.due was is
    × ComesMore c d took.due)
    (λ e. (took : TookUpTo limit e.delivered old s t) × HearsAll after s.opening took.due was is
    × ComesMore c d took.due)
    → MatchResult r (λ x. (took : Took limit x old new s t) × ComesMore c d took.due)
    (λ e. (took : TookUpTo limit e.delivered old s t) × ComesMore c d took.due)
only_came after limit (Ok x) old new s t was is c d (took, heard, came) = (took, came)
only_came after limit (Err e) old new s t was is c d (took, heard, came) = (took, came)

-- Where a receiver held the Frames of some datagrams, it then holds those of them and of what came.
pub holds_came : {O : Type 0} (after : O → Result Taken Refusal → O) (limit : ℕ)
    (r : Result Received ReceiveFault) (old new : Option (List Due)) (s t : State) (was is : O)
    (c d : List (Path × List ℕ))
    → MatchResult r
    (λ x. (took : Took limit x old new s t) × HearsAll after s.opening took.due was is
    × ComesMore c d took.due)
    (λ e. (took : TookUpTo limit e.delivered old s t) × HearsAll after s.opening took.due was is
    × ComesMore c d took.due)
    → (ds : List (List ℕ)) → Holds s ds → Holds t (ds ++ datagrams_since c d)
holds_came after limit (Ok x) old new s t was is c d (took, heard, came) ds holds =
    holds_since took.due x.delivered s t c d ds took.taken came holds
holds_came after limit (Err e) old new s t was is c d (took, heard, came) ds holds =
    holds_since took.due e.delivered s t c d ds took.taken came holds
