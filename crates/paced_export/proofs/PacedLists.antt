-- Records at the moments that a sender has for them, one more at a time.
use Rattle.std.proofs.Common.{◌≡◌, ℕ, List, [], ◌∷◌, ◌++◌, length, refl, sym, ap, ◌∙◌}
use Rattle.std.proofs.Common.{append-nil, append_assoc, arith}
use Rattle.st_format.specs.declared.path.Path.{Path}
use Rattle.media_file.specs.Records.{Entry}
use Rattle.paced_export.specs.Paced.{paced, paced_behind, paced_entry}
use Rattle.paced_export.specs.Counts.{count_of}
use Rattle.paced_export.specs.Pacing.{paced_moment, timestamp_in}
use Rattle.paced_export.specs.declared.pace.Pace.{Pace}

behind_more : (p : Pace) (all : Path → ℕ → ℕ) (before xs : List Entry) (e : Entry)
    → paced_behind p all before (xs ++ e ∷ [])
    ≡ paced_behind p all before xs ++ paced_entry p all (before ++ xs) e ∷ []
behind_more p all before [] e =
    ap (λ (l : List Entry). paced_entry p all l e ∷ []) (sym (append-nil before))
behind_more p all before (x ∷ xs) e =
    ap (λ (l : List Entry). paced_entry p all before x ∷ l)
    (behind_more p all (before ++ x ∷ []) xs e
    ∙ ap (λ (l : List Entry). paced_behind p all (before ++ x ∷ []) xs
    ++ paced_entry p all l e ∷ []) (append_assoc before (x ∷ []) xs))

-- a record more
pub paced_more : (p : Pace) (all : Path → ℕ → ℕ) (xs : List Entry) (e : Entry)
    → paced p all (xs ++ e ∷ []) ≡ paced p all xs ++ paced_entry p all xs e ∷ []
paced_more p all xs e = behind_more p all [] xs e

behind_length : (p : Pace) (all : Path → ℕ → ℕ) (before xs : List Entry)
    → length (paced_behind p all before xs) ≡ length xs
behind_length p all before [] = refl
behind_length p all before (x ∷ xs) =
    omega (arith, behind_length p all (before ++ x ∷ []) xs)

-- they are as many
pub paced_length : (p : Pace) (all : Path → ℕ → ℕ) (xs : List Entry)
    → length (paced p all xs) ≡ length xs
paced_length p all xs = behind_length p all [] xs

entry_alike : (p : Pace) (f g : Path → ℕ → ℕ) → ((path : Path) (ts : ℕ) → f path ts ≡ g path ts)
    → (before : List Entry) (e : Entry) → paced_entry p f before e ≡ paced_entry p g before e
entry_alike p f g same before e =
    let ts : ℕ = timestamp_in e.octets in
    ap
    (λ (n : ℕ). let d : Entry = record {
      path = e.path;
      moment = paced_moment p ts (count_of e.path ts before) n;
      octets = e.octets;
    } in d)
    (same e.path ts)

behind_alike : (p : Pace) (f g : Path → ℕ → ℕ) → ((path : Path) (ts : ℕ) → f path ts ≡ g path ts)
    → (before xs : List Entry) → paced_behind p f before xs ≡ paced_behind p g before xs
behind_alike p f g same before [] = refl
behind_alike p f g same before (x ∷ xs) =
    ap (λ (d : Entry). d ∷ paced_behind p f (before ++ x ∷ []) xs)
    (entry_alike p f g same before x)
    ∙ ap (λ (l : List Entry). paced_entry p g before x ∷ l)
    (behind_alike p f g same (before ++ x ∷ []) xs)

-- by counts that are the same they are the same
pub paced_alike : (p : Pace) (f g : Path → ℕ → ℕ)
    → ((path : Path) (ts : ℕ) → f path ts ≡ g path ts) → (xs : List Entry)
    → paced p f xs ≡ paced p g xs
paced_alike p f g same xs = behind_alike p f g same [] xs

-- the record of a head with that moment
pub entry_is : (path q : Path) (moment r : ℕ) (octets : List ℕ) → path ≡ q → moment ≡ r
    → (let d : Entry = record { path = path; moment = moment; octets = octets } in d)
    ≡ (let d : Entry = record { path = q; moment = r; octets = octets } in d)
entry_is path q moment r octets by at =
    ap (λ (x : Path). let d : Entry = record { path = x; moment = moment; octets = octets } in d) by
    ∙ ap (λ (n : ℕ). let d : Entry = record { path = q; moment = n; octets = octets } in d) at
