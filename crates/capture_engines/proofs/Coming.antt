-- Which datagrams come out of a link in memory.
use Rattle.std.proofs.Common.{◌≡◌, ℕ, zero, suc, ◌+◌, ◌<◌, ◌≤◌, List, [], ◌∷◌, ◌++◌, length}
use Rattle.std.proofs.Common.{take, drop, set, get_or, append-nil, refl, sym, ap, ◌∙◌, arith}
use Rattle.std.specs.Prelude.{Option, None, Some, option_to_list}
use Rattle.std.specs.List.{All, AllByRecursion}
use Rattle.std.proofs.lemmas.List.{drop_all, map-append}
use Rattle.std.proofs.lemmas.List.Elements.{recursion_from_All}
use Rattle.st_format.specs.declared.path.Path.{Path}
use Rattle.st_format.specs.declared.path.Path.TheVariants.{A}
use Rattle.capture_engines.specs.Coming.{at_places, first_in, places_in}

-- ---- turns

come_suc : (turns : List (Option ℕ)) (at : ℕ) → at < length turns
    → places_in (take (suc at) turns)
    ≡ places_in (take at turns) ++ option_to_list (first_in (drop at turns))
come_suc [] at lt = absurd (omega (arith, lt))
come_suc (None ∷ turns) zero lt = refl
come_suc (Some place ∷ turns) zero lt = refl
come_suc (None ∷ turns) (suc at) lt = come_suc turns at (omega (arith, lt))
come_suc (Some place ∷ turns) (suc at) lt =
    ap (λ (l : List ℕ). place ∷ l) (come_suc turns at (omega (arith, lt)))

-- one turn more
pub come_one : (turns : List (Option ℕ)) (at : ℕ) → at < length turns
    → places_in (take (at + 1) turns)
    ≡ places_in (take at turns) ++ option_to_list (first_in (drop at turns))
come_one turns at lt =
    let one : at + 1 ≡ suc at = omega arith in
    ap (λ (k : ℕ). places_in (take k turns)) one ∙ come_suc turns at lt

-- none behind the last
pub come_none : (turns : List (Option ℕ)) (at : ℕ) → length turns ≤ at
    → places_in (take at turns)
    ≡ places_in (take at turns) ++ option_to_list (first_in (drop at turns))
come_none turns at le =
    sym (ap (λ (l : List (Option ℕ)). places_in (take at turns) ++ option_to_list (first_in l))
    (drop_all at turns le)
    ∙ append-nil (places_in (take at turns)))

skip_suc : (turns : List (Option ℕ)) (at : ℕ) → at < length turns
    → places_in (take (suc at) (set turns at None)) ≡ places_in (take at turns)
skip_suc [] at lt = absurd (omega (arith, lt))
skip_suc (turn ∷ turns) zero lt = refl
skip_suc (None ∷ turns) (suc at) lt = skip_suc turns at (omega (arith, lt))
skip_suc (Some place ∷ turns) (suc at) lt =
    ap (λ (l : List ℕ). place ∷ l) (skip_suc turns at (omega (arith, lt)))

-- a turn in which none comes
pub skip_one : (turns : List (Option ℕ)) (at : ℕ) → at < length turns
    → places_in (take (at + 1) (set turns at None)) ≡ places_in (take at turns)
skip_one turns at lt =
    let one : at + 1 ≡ suc at = omega arith in
    ap (λ (k : ℕ). places_in (take k (set turns at None))) one ∙ skip_suc turns at lt

-- ---- datagrams at places

-- those that are there stay where one is put in
at_longer : (taken more : List (List ℕ)) (place : ℕ) → place < length taken
    → get_or (taken ++ more) place [] ≡ get_or taken place []
at_longer [] more place lt = absurd (omega (arith, lt))
at_longer (d ∷ taken) more zero lt = refl
at_longer (d ∷ taken) more (suc place) lt = at_longer taken more place (omega (arith, lt))

places_longer : (taken more : List (List ℕ)) (places : List ℕ)
    → AllByRecursion (λ (place : ℕ). place < length taken) places
    → at_places (taken ++ more) places ≡ at_places taken places
places_longer taken more [] all = refl
places_longer taken more (place ∷ places) all =
    ap (λ (d : List ℕ). (A, d) ∷ at_places (taken ++ more) places)
    (at_longer taken more place all.0)
    ∙ ap (λ (l : List (Path × List ℕ)). (A, get_or taken place []) ∷ l)
    (places_longer taken more places all.1)

-- what came stays where one is put in
pub came_stays : (taken new more : List (List ℕ)) (places after : List ℕ)
    → All (λ (place : ℕ). place < length taken) places → after ≡ places → new ≡ taken ++ more
    → at_places new after ≡ at_places taken places
came_stays taken new more places after all same is =
    ap (λ (l : List ℕ). at_places new l) same
    ∙ ap (λ (l : List (List ℕ)). at_places l places) is
    ∙ places_longer taken more places
    (recursion_from_All (λ (place : ℕ). place < length taken) places all)

-- one more came
pub came_more : (taken : List (List ℕ)) (places after : List ℕ) (due : Option ℕ) (place : ℕ)
    (octets : List ℕ) → after ≡ places ++ option_to_list due → due ≡ Some place
    → get_or taken place [] ≡ octets
    → at_places taken after ≡ at_places taken places ++ (A, octets) ∷ []
came_more taken places after due place octets is at here =
    ap (λ (l : List ℕ). at_places taken l)
    (is ∙ ap (λ (o : Option ℕ). places ++ option_to_list o) at)
    ∙ map-append (λ (p : ℕ). (A, get_or taken p [])) places (place ∷ [])
    ∙ ap (λ (d : List ℕ). at_places taken places ++ (A, d) ∷ []) here

pub came_same : (taken : List (List ℕ)) (places after : List ℕ) → after ≡ places
    → at_places taken after ≡ at_places taken places ++ []
came_same taken places after same =
    ap (λ (l : List ℕ). at_places taken l) same ∙ sym (append-nil (at_places taken places))
