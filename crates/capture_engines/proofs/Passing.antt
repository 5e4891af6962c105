-- What a receiver has of the turns of a link, one after the other.
use Rattle.std.proofs.Common.{◌≡◌, ℕ, ◌+◌, List, [], ◌∷◌, ◌++◌, map, zero, suc}
use Rattle.std.proofs.Common.{refl, sym, ap, ◌∙◌, subst, arith, append-nil, append_assoc}
use Rattle.std.proofs.lemmas.List.{length-append, map-append}
use Rattle.st_format.specs.declared.path.Path.{Path}
use Rattle.path_receiver.specs.Frames.{Holds, State}
use Rattle.path_receiver.specs.Took.{CountsAll}
use Rattle.capture_engines.specs.Looping.{Came}

abbrev Arrivals : Type 0
Arrivals = List (Path × List ℕ)

abbrev octets_of : Arrivals → List (List ℕ)
octets_of arrivals = map (λ (d : Path × List ℕ). d.1) arrivals

-- what came before the first turn
pub none_came : (s : State) (c : Arrivals) → Holds s [] → Came 0 0 c c s
none_came s c holds = record {
  arrivals = [];
  came = sym (append-nil c);
  count = refl;
  few = omega arith;
  holds = holds;
}

-- what came in a turn of a datagram
pub one_came : (turns before : ℕ) (path : Path) (octets : List ℕ) (first old new : Arrivals)
    (s t : State) → new ≡ old ++ (path, octets) ∷ []
    → ((ds : List (List ℕ)) → Holds s ds → Holds t (ds ++ octets ∷ []))
    → Came turns before first old s → Came (turns + 1) (before + 1) first new t
one_came turns before path octets first old new s t more holds came =
    let one : Arrivals = (path, octets) ∷ [] in
    record {
      arrivals = came.arrivals ++ one;
      came =
          more ∙ ap (λ (ds : Arrivals). ds ++ one) came.came
          ∙ append_assoc first came.arrivals one;
      count = length-append came.arrivals one ∙ ap (λ (n : ℕ). n + 1) came.count;
      few = omega (arith, came.few);
      holds =
          subst (Holds t)
          (sym (map-append (λ (d : Path × List ℕ). d.1) came.arrivals one))
          (holds (octets_of came.arrivals) came.holds);
    }

-- what came in another turn
pub still_came : (turns before : ℕ) (first old new : Arrivals) (s : State) → new ≡ old ++ []
    → Came turns before first old s → Came (turns + 1) (before + 0) first new s
still_came turns before first old new s none came = record {
  arrivals = came.arrivals;
  came = none ∙ append-nil old ∙ came.came;
  count = came.count ∙ omega arith;
  few = omega (arith, came.few);
  holds = came.holds;
}

-- what was put into a link, and one datagram more
pub put_more : (old mid new xs ys : List (List ℕ)) (d : List ℕ) → mid ≡ old ++ xs
    → new ≡ mid ++ d ∷ [] → ys ≡ xs ++ d ∷ [] → new ≡ old ++ ys
put_more old mid new xs ys d first then is =
    then ∙ ap (λ (ds : List (List ℕ)). ds ++ d ∷ []) first ∙ append_assoc old xs (d ∷ [])
    ∙ ap (λ (ds : List (List ℕ)). old ++ ds) (sym is)

-- ---- what the link counts

pub none_counted : (count : ℕ) → CountsAll 0 count count
none_counted count = record { none = λ _. refl; some = λ any. absurd (omega (arith, any)) }

-- what it counts in one turn more
pub more_counted : (a b before between after : ℕ) → CountsAll a before between
    → CountsAll b between after → CountsAll (a + b) before after
more_counted zero b before between after first second =
    let same : between ≡ before = first.none refl in
    record {
      none = λ none. second.none (omega (arith, none)) ∙ same;
      some = λ any. let is = second.some (omega (arith, any)) in omega (arith, same, is);
    }
more_counted (suc a) zero before between after first second =
    let is = first.some (omega arith) in
    let same : after ≡ between = second.none refl in
    record {
      none = λ none. absurd (omega (arith, none));
      some = λ any. omega (arith, same, is);
    }
more_counted (suc a) (suc b) before between after first second =
    let one = first.some (omega arith) in
    let two = second.some (omega arith) in
    record {
      none = λ none. absurd (omega (arith, none));
      some = λ any. omega (arith, one, two);
    }
