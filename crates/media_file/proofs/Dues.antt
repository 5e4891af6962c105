-- The records at the front of octets, and the turns of a reader.
use Rattle.std.proofs.Common.{◌≡◌, ℕ, zero, suc, ◌≤◌, List, [], ◌∷◌, ◌++◌, length, map, Option}
use Rattle.std.proofs.Common.{None, Some, Result, Ok, Err, refl, ap, ◌∙◌, arith}
use Rattle.std.specs.Option.{option_map}
use Rattle.std.specs.Io.KnownBytes.{IsAtEnd}
use Rattle.std.proofs.lemmas.List.{length-append}
use Rattle.st_format.specs.Turns.{Comes, GivesTurns, HasEnded}
use Rattle.media_file.specs.declared.fault.FileFault.{FileFault}
use Rattle.media_file.specs.declared.reader.Standing.{Standing}
use Rattle.media_file.specs.declared.reader.Standing.TheVariants.{Reads}
use Rattle.media_file.specs.Reader.{due_of_entry, dues_in, turns_of}
use Rattle.media_file.specs.Reading.{entries_by, entries_up_to, entries_in, rest_at}
use Rattle.media_file.specs.Records.{Entry, Fits, record_text, rest_text}
use Rattle.media_file.specs.Source.{ReadsEnd, ReadsRecord}
use Rattle.media_file.proofs.Entries.{rest_again, rest_shrinks}

-- by what is read first
bound_by : (n m : ℕ) (r : Result (Entry × List ℕ) FileFault) (octets : List ℕ)
    → ((x : Entry × List ℕ) → r ≡ Ok x → length x.1 ≤ length octets) → length octets ≤ n
    → length octets ≤ m
    → ((o : List ℕ) → length o ≤ n → length o ≤ m → entries_up_to n o ≡ entries_up_to m o)
    → entries_by r (entries_up_to n) ≡ entries_by r (entries_up_to m)
bound_by n m (Ok x) octets shrinks p q same =
    let s : length x.1 ≤ length octets = shrinks x refl in
    ap (λ (es : List Entry). x.0 ∷ es) (same x.1 (omega arith) (omega arith))
bound_by n m (Err f) octets shrinks p q same = refl

-- a bound that is as long as the octets is as good as another
pub bound : (n m : ℕ) (octets : List ℕ) → length octets ≤ n → length octets ≤ m
    → entries_up_to n octets ≡ entries_up_to m octets
unfolding entries_up_to
bound zero zero octets p q = refl
bound zero (suc m) [] p q = refl
bound zero (suc m) (x ∷ octets) p q = absurd (omega arith)
bound (suc n) zero [] p q = refl
bound (suc n) zero (x ∷ octets) p q = absurd (omega arith)
bound (suc n) (suc m) [] p q = refl
bound (suc n) (suc m) (x ∷ octets) p q =
    bound_by n m (rest_at x octets) octets (λ y e. rest_shrinks x octets y e) (omega arith)
    (omega arith) (λ o a b. bound n m o a b)

-- a record at the front is the first
pub entries_first : (e : Entry) (behind : List ℕ) → Fits e
    → entries_in (record_text e ++ behind) ≡ e ∷ entries_in behind
unfolding entries_up_to
entries_first e behind fits =
    let rest : List ℕ = rest_text e ++ behind in
    ap (λ (r : Result (Entry × List ℕ) FileFault). entries_by r (entries_up_to (length rest)))
    (rest_again e behind fits)
    ∙ ap (λ (es : List Entry). e ∷ es)
    (bound (length rest) (length behind) behind
    (omega (arith, length-append (rest_text e) behind)) (omega arith))

pub entries_none : entries_in [] ≡ []
unfolding entries_up_to
entries_none = refl

-- the turns of a source that gave a record begin with it
gives_first : (old new : Option (List ℕ)) (e : Entry) → ReadsRecord old new e
    → GivesTurns (option_map dues_in old) (option_map dues_in new) (Comes e.path e.octets ∷ [])
gives_first None new e is = tt
gives_first (Some o) None e is = absurd is.given
gives_first (Some o) (Some behind) e is =
    ap dues_in is.given ∙ ap (map due_of_entry) (entries_first e behind is.fits)

-- a reader gives the record that its source gives
pub gives_record : (s t : Standing) (old new : Option (List ℕ)) (e : Entry) → s ≡ Reads → t ≡ Reads
    → ReadsRecord old new e
    → GivesTurns (turns_of s old) (turns_of t new) (Comes e.path e.octets ∷ [])
gives_record s t old new e p q is = rw (p, q) (gives_first old new e is)

-- the end of a source
gives_none : (old : Option (List ℕ)) → IsAtEnd old
    → GivesTurns (option_map dues_in old) (Some []) [] × HasEnded (option_map dues_in old)
gives_none None e = (tt, tt)
gives_none (Some o) e = let none : dues_in o ≡ [] =
    ap dues_in e ∙ ap (map due_of_entry) entries_none in (none, none)

-- and is at its end where its source is
pub gives_end : (s : Standing) (old new : Option (List ℕ)) → s ≡ Reads → ReadsEnd old new
    → GivesTurns (turns_of s old) (Some []) [] × HasEnded (turns_of s old)
gives_end s old new p is = rw p (gives_none old is.before)
