-- The datagrams that a writer's sink holds.
use Rattle.std.proofs.Common.{◌≡◌, ℕ, ◌+◌, ◌-◌, ◌%◌, ◌^◌, ◌<◌, ◌≤◌, List, [], ◌∷◌, ◌++◌, length}
use Rattle.std.proofs.Common.{take, drop, map, append_assoc, append-nil, refl, sym, ap, ◌∙◌, subst}
use Rattle.std.proofs.Common.{inl, inr, lit<, arith}
use Rattle.std.specs.List.{AllByRecursion}
use Rattle.std.proofs.lemmas.Bool.{cases_lt}
use Rattle.std.proofs.lemmas.List.{length-append, take-append-le, drop_at}
use Rattle.std.proofs.Math.Seq.{take-append-add}
use Rattle.st_format.specs.declared.path.Path.TheVariants.{A, B}
use Rattle.media_file.specs.declared.paths.Paths.{Paths}
use Rattle.media_file.specs.declared.paths.Paths.TheVariants.{OnlyA, OnlyB, Both}
use Rattle.media_file.specs.declared.front.Version.TheVariants.{Two}
use Rattle.media_file.specs.Fronts.{front_head, front_text}
use Rattle.media_file.specs.Reading.{entries_in}
use Rattle.media_file.specs.Records.{AllFit, Entry, Fits, record_text, records_text}
use Rattle.media_file.specs.Writer.{IsShortEnough, IsWritten, datagrams_by, datagrams_in}
use Rattle.media_file.specs.Writer.{entries_from, entries_of, entry, first_of_two, moment_after}
use Rattle.media_file.specs.Writer.{moment_behind}
use Rattle.media_file.proofs.Cuts.{entries_front, entries_cut}
use Rattle.media_file.proofs.Written.{records_append}
use Rattle.media_file.proofs.Dues.{entries_first, entries_none}

-- the datagrams of all their records, and of what follows them
by_from : (paths : Paths) (m : ℕ) (ds : List (List ℕ)) (more : List Entry)
    → datagrams_by paths (entries_from paths m ds ++ more) ≡ ds ++ datagrams_by paths more
by_from OnlyA m [] more = refl
by_from OnlyA m (d ∷ ds) more =
    ap (λ (xs : List (List ℕ)). d ∷ xs) (by_from OnlyA (moment_behind OnlyA m) ds more)
by_from OnlyB m [] more = refl
by_from OnlyB m (d ∷ ds) more =
    ap (λ (xs : List (List ℕ)). d ∷ xs) (by_from OnlyB (moment_behind OnlyB m) ds more)
by_from Both m [] more = refl
by_from Both m (d ∷ ds) more =
    ap (λ (xs : List (List ℕ)). d ∷ xs) (by_from Both (moment_behind Both m) ds more)

entry_fits : (m : ℕ) (d : List ℕ) → m < 2 ^ 64 → IsShortEnough d
    → (A_fits : Fits (entry A m d)) × Fits (entry B m d)
entry_fits m d lt fits =
    (record { moment = lt; octets = fits }, record { moment = lt; octets = fits })

-- the records of a datagram have a text
pub fits_of : (paths : Paths) (m : ℕ) (d : List ℕ) → m < 2 ^ 64 → IsShortEnough d
    → AllFit (entries_of paths m d)
fits_of OnlyA m d lt fits = ((entry_fits m d lt fits).0, tt)
fits_of OnlyB m d lt fits = ((entry_fits m d lt fits).1, tt)
fits_of Both m d lt fits =
    ((entry_fits m d lt fits).0, ((entry_fits ((m + 1) % 2 ^ 64) d (omega arith) fits).1, tt))

fits_append : (xs ys : List Entry) → AllFit xs → AllFit ys → AllFit (xs ++ ys)
fits_append [] ys p q = q
fits_append (x ∷ xs) ys p q = (p.0, fits_append xs ys p.1 q)

pub fits_from : (paths : Paths) (m : ℕ) (ds : List (List ℕ)) → m < 2 ^ 64
    → AllByRecursion IsShortEnough ds → AllFit (entries_from paths m ds)
fits_from paths m [] lt fits = tt
fits_from paths m (d ∷ ds) lt fits =
    fits_append (entries_of paths m d) (entries_from paths (moment_behind paths m) ds)
    (fits_of paths m d lt fits.0)
    (fits_from paths (moment_behind paths m) ds (omega arith) fits.1)

-- the records of a datagram that is cut are those of none
tail_cut : (paths : Paths) (m : ℕ) (d : List ℕ) (k : ℕ) → m < 2 ^ 64 → IsShortEnough d
    → k < length (records_text (entries_of paths m d))
    → datagrams_by paths (entries_in (take k (records_text (entries_of paths m d)))) ≡ []
tail_cut OnlyA m d k lt fits short =
    let e : Entry = entry A m d in
    ap (λ (t : List ℕ). map (λ (x : Entry). x.octets) (entries_in (take k t)))
    (append-nil (record_text e))
    ∙ ap (map (λ (x : Entry). x.octets))
    (entries_cut e k (entry_fits m d lt fits).0
    (subst (λ (t : List ℕ). k < length t) (append-nil (record_text e)) short))
tail_cut OnlyB m d k lt fits short =
    let e : Entry = entry B m d in
    ap (λ (t : List ℕ). map (λ (x : Entry). x.octets) (entries_in (take k t)))
    (append-nil (record_text e))
    ∙ ap (map (λ (x : Entry). x.octets))
    (entries_cut e k (entry_fits m d lt fits).1
    (subst (λ (t : List ℕ). k < length t) (append-nil (record_text e)) short))
tail_cut Both m d k lt fits short =
    let a : Entry = entry A m d in
    let b : Entry = entry B ((m + 1) % 2 ^ 64) d in
    let fa : Fits a = (entry_fits m d lt fits).0 in
    let fb : Fits b = (entry_fits ((m + 1) % 2 ^ 64) d (omega arith) fits).1 in
    let ta : List ℕ = record_text a in
    let tb : List ℕ = record_text b in
    let drops : records_text (entries_of Both m d) ≡ ta ++ tb =
    ap (λ (t : List ℕ). ta ++ t) (append-nil tb) in
    let short2 : k < length (ta ++ tb) = subst (λ (t : List ℕ). k < length t) drops short in
    ap (λ (t : List ℕ). first_of_two (entries_in (take k t))) drops ∙
    elim (cases_lt k (length ta)) [
      | inl w ↦
          let le : k ≤ length ta = omega (arith, w) in
          ap (λ (t : List ℕ). first_of_two (entries_in t)) (take-append-le k ta tb le)
          ∙ ap first_of_two (entries_cut a k fa w)
      | inr w ↦
          let j : ℕ = k - length ta in
          let is : k ≡ length ta + j = omega (arith, w) in
          let fit : j < length tb = omega (arith, w, length-append ta tb) in
          ap (λ (n : ℕ). first_of_two (entries_in (take n (ta ++ tb)))) is
          ∙ ap (λ (t : List ℕ). first_of_two (entries_in t)) (take-append-add ta tb j)
          ∙ ap first_of_two (entries_first a (take j tb) fa)
          ∙ ap (λ (es : List Entry). first_of_two (a ∷ es)) (entries_cut b j fb fit)
    ]

-- and of one that is whole
tail_whole : (paths : Paths) (m : ℕ) (d : List ℕ)
    → datagrams_by paths (entries_of paths m d ++ []) ≡ d ∷ []
tail_whole OnlyA m d = refl
tail_whole OnlyB m d = refl
tail_whole Both m d = refl

snoc : (paths : Paths) (m : ℕ) (ds : List (List ℕ)) (d : List ℕ)
    → entries_from paths m (ds ++ d ∷ [])
    ≡ entries_from paths m ds ++ entries_of paths (moment_after paths m ds) d
snoc paths m [] d = append-nil (entries_of paths m d)
snoc paths m (x ∷ ds) d =
    ap (λ (es : List Entry). entries_of paths m x ++ es) (snoc paths (moment_behind paths m) ds d)
    ∙ sym
    (append_assoc (entries_of paths m x) (entries_from paths (moment_behind paths m) ds)
    (entries_of paths (moment_after paths (moment_behind paths m) ds) d))

moment_snoc : (paths : Paths) (m : ℕ) (ds : List (List ℕ)) (d : List ℕ)
    → moment_after paths m (ds ++ d ∷ []) ≡ moment_behind paths (moment_after paths m ds)
moment_snoc paths m [] d = refl
moment_snoc paths m (x ∷ ds) d = moment_snoc paths (moment_behind paths m) ds d

datagrams_fit : (ds : List (List ℕ)) (d : List ℕ) → AllByRecursion IsShortEnough ds
    → IsShortEnough d
    → AllByRecursion IsShortEnough (ds ++ d ∷ [])
datagrams_fit [] d p q = (q, tt)
datagrams_fit (x ∷ ds) d p q = (p.0, datagrams_fit ds d p.1 q)

-- behind the front of a capture
behind_front : (text rest : List ℕ) (n : ℕ) → length text ≡ n
    → drop (10 + n) (front_text Two text ++ rest) ≡ rest
behind_front text rest n len =
    drop_at (front_text Two text) rest (10 + n)
    (length-append (front_head (length text)) text ∙ ap (λ (k : ℕ). 10 + k) len)

-- what a sink holds with more behind it
pub holds_more : (paths : Paths) (n m : ℕ) (held more : List ℕ) → (is : IsWritten paths n m held)
    → datagrams_in paths n (held ++ more) ≡ is.datagrams ++ datagrams_by paths (entries_in more)
holds_more paths n m held more is =
    let es : List Entry = entries_from paths 0 is.datagrams in
    let front : List ℕ = front_text Two is.text in
    ap (λ (t : List ℕ). datagrams_in paths n (t ++ more)) is.whole
    ∙ ap (datagrams_in paths n) (append_assoc front (records_text es) more)
    ∙ ap (λ (t : List ℕ). datagrams_by paths (entries_in t))
    (behind_front is.text (records_text es ++ more) n is.text_len_is)
    ∙ ap (datagrams_by paths)
    (entries_front es more (fits_from paths 0 is.datagrams (lit< tt) is.fit))
    ∙ by_from paths 0 is.datagrams (entries_in more)

by_none : (paths : Paths) → datagrams_by paths [] ≡ []
by_none OnlyA = refl
by_none OnlyB = refl
by_none Both = refl

-- with nothing behind it
holds_none : (paths : Paths) (n m : ℕ) (held more : List ℕ) → (is : IsWritten paths n m held)
    → datagrams_by paths (entries_in more) ≡ [] → datagrams_in paths n (held ++ more) ≡ is.datagrams
holds_none paths n m held more is none =
    holds_more paths n m held more is ∙ ap (λ (xs : List (List ℕ)). is.datagrams ++ xs) none
    ∙ append-nil is.datagrams

pub holds : (paths : Paths) (n m : ℕ) (held : List ℕ) → (is : IsWritten paths n m held)
    → datagrams_in paths n held ≡ is.datagrams
holds paths n m held is =
    ap (datagrams_in paths n) (sym (append-nil held))
    ∙ holds_none paths n m held [] is (ap (datagrams_by paths) entries_none ∙ by_none paths)

-- a datagram more
pub takes : (paths : Paths) (n m : ℕ) (held : List ℕ) (d : List ℕ)
    → (is : IsWritten paths n m held) → m < 2 ^ 64 → IsShortEnough d
    → datagrams_in paths n (held ++ records_text (entries_of paths m d)) ≡ is.datagrams ++ d ∷ []
takes paths n m held d is lt fits =
    let es : List Entry = entries_of paths m d in
    let one : datagrams_by paths (entries_in (records_text es)) ≡ d ∷ [] =
    ap (λ (t : List ℕ). datagrams_by paths (entries_in t)) (sym (append-nil (records_text es)))
    ∙ ap (datagrams_by paths)
    (entries_front es [] (fits_of paths m d lt fits)
    ∙ ap (λ (xs : List Entry). es ++ xs) entries_none)
    ∙ tail_whole paths m d in
    holds_more paths n m held (records_text es) is
    ∙ ap (λ (xs : List (List ℕ)). is.datagrams ++ xs) one

-- a datagram that is cut
pub keeps : (paths : Paths) (n m : ℕ) (held : List ℕ) (d : List ℕ) (k : ℕ)
    → (is : IsWritten paths n m held) → m < 2 ^ 64 → IsShortEnough d
    → k < length (records_text (entries_of paths m d))
    → datagrams_in paths n (held ++ take k (records_text (entries_of paths m d))) ≡ is.datagrams
keeps paths n m held d k is lt fits short =
    holds_none paths n m held (take k (records_text (entries_of paths m d))) is
    (tail_cut paths m d k lt fits short)

-- what is written then
pub writes : (paths : Paths) (n m : ℕ) (held : List ℕ) (d : List ℕ)
    → (is : IsWritten paths n m held) → IsShortEnough d
    → IsWritten paths n (moment_behind paths m) (held ++ records_text (entries_of paths m d))
writes paths n m held d is fits =
    let es : List Entry = entries_from paths 0 is.datagrams in
    let front : List ℕ = front_text Two is.text in
    let more : List ℕ = records_text (entries_of paths m d) in
    record {
      text = is.text;
      datagrams = is.datagrams ++ d ∷ [];
      text_fits = is.text_fits;
      text_len_is = is.text_len_is;
      fit = datagrams_fit is.datagrams d is.fit fits;
      moment_is = moment_snoc paths 0 is.datagrams d ∙ ap (moment_behind paths) is.moment_is;
      whole = ap (λ (t : List ℕ). t ++ more) is.whole ∙ append_assoc front (records_text es) more
          ∙ ap (λ (t : List ℕ). front ++ t) (sym (records_append es (entries_of paths m d))
          ∙ ap (λ (q : ℕ). records_text (es ++ entries_of paths q d)) (sym is.moment_is)
          ∙ ap records_text (sym (snoc paths 0 is.datagrams d)));
    }
