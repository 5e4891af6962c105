-- Datagrams put into a writer, one after the other.
use Rattle.std.proofs.Common.{◌≡◌, ℕ, List, [], ◌∷◌, ◌++◌, Option, false, refl, sym}
use Rattle.std.proofs.Common.{ap, append-nil, subst, take, ◌∙◌}
use Rattle.std.specs.Borrow.{GName}
use Rattle.st_format.specs.Device.{CountsOne}
use Rattle.st_format.specs.Puts.{FailsAt, TakesEach}
use Rattle.media_file.specs.Records.{records_text}
use Rattle.media_file.specs.Writer.{FailsDatagram, TakesDatagram, Writer, WriterPlace}
use Rattle.media_file.specs.Writer.{WritesDatagrams, entries_from, entries_of, moment_after}
use Rattle.media_file.specs.Writer.{moment_behind}
use Rattle.media_file.proofs.Written.{records_append, took_both}

-- ---- a writer took datagrams

-- it wrote their records
pub each_written : {K : Type 0} (held : K → Option (List ℕ)) (took : K → List ℕ)
    (failures : K → ℕ) (names : K → List GName) (old : Writer K)
    (ds : List (List ℕ)) (new : Writer K)
    → TakesEach (TakesDatagram held took failures names) old ds new
    → WritesDatagrams took ds old new
each_written {K} held took failures names old [] new is =
    subst (λ (w : Writer K). WritesDatagrams took [] old w) (sym is)
    (record { taken = sym (append-nil (took old.sink)); paths = refl; moment = refl })
each_written {K} held took failures names old (d ∷ ds) new (next, one, more) =
    let rest : WritesDatagrams took ds next new =
    each_written held took failures names next ds new more in
    let p : WriterPlace = old.place in
    let first : List ℕ = records_text (entries_of p.paths p.moment d) in
    let behind : List ℕ =
    records_text (entries_from p.paths (moment_behind p.paths p.moment) ds) in
    let taken : took new.sink ≡ took next.sink ++ behind =
    subst (λ (q : WriterPlace). took new.sink
    ≡ took next.sink ++ records_text (entries_from q.paths q.moment ds)) one.place rest.taken in
    record {
      taken =
          subst (λ (t : List ℕ). took new.sink ≡ took old.sink ++ t)
          (sym (records_append (entries_of p.paths p.moment d)
          (entries_from p.paths (moment_behind p.paths p.moment) ds)))
          (took_both (took old.sink) (took next.sink) (took new.sink) first behind one.grown
          taken);
      paths = rest.paths ∙ ap (λ (q : WriterPlace). q.paths) one.place;
      moment = rest.moment
          ∙ ap (λ (q : WriterPlace). moment_after q.paths q.moment ds) one.place;
    }

-- it stands as it stood
pub each_stands : {K : Type 0} (held : K → Option (List ℕ)) (took : K → List ℕ)
    (failures : K → ℕ) (names : K → List GName) (old : Writer K)
    (ds : List (List ℕ)) (new : Writer K)
    → TakesEach (TakesDatagram held took failures names) old ds new
    → new.place.failed ≡ old.place.failed
each_stands {K} held took failures names old [] new is = ap (λ (w : Writer K). w.place.failed) is
each_stands {K} held took failures names old (d ∷ ds) new (next, one, more) =
    each_stands held took failures names next ds new more
    ∙ ap (λ (q : WriterPlace). q.failed) one.place

-- its sink did not fail
pub each_faultless : {K : Type 0} (held : K → Option (List ℕ)) (took : K → List ℕ)
    (failures : K → ℕ) (names : K → List GName) (old : Writer K)
    (ds : List (List ℕ)) (new : Writer K)
    → TakesEach (TakesDatagram held took failures names) old ds new
    → failures new.sink ≡ failures old.sink
each_faultless {K} held took failures names old [] new is =
    ap (λ (w : Writer K). failures w.sink) is
each_faultless {K} held took failures names old (d ∷ ds) new (next, one, more) =
    each_faultless held took failures names next ds new more ∙ one.faultless

-- the references by which its sink writes stay
pub each_lent : {K : Type 0} (held : K → Option (List ℕ)) (took : K → List ℕ)
    (failures : K → ℕ) (names : K → List GName) (old : Writer K)
    (ds : List (List ℕ)) (new : Writer K)
    → TakesEach (TakesDatagram held took failures names) old ds new
    → names new.sink ≡ names old.sink
each_lent {K} held took failures names old [] new is = ap (λ (w : Writer K). names w.sink) is
each_lent {K} held took failures names old (d ∷ ds) new (next, one, more) =
    each_lent held took failures names next ds new more ∙ one.lent

-- ---- it failed at one of them

-- where it stood, its sink failed once
pub fails_once : {K : Type 0} (held : K → Option (List ℕ)) (took : K → List ℕ)
    (failures : K → ℕ) (names : K → List GName) (old : Writer K)
    (ds : List (List ℕ)) (count : ℕ) (new : Writer K)
    → old.place.failed ≡ false
    → FailsAt (TakesDatagram held took failures names) (FailsDatagram held took failures names)
    old ds count new
    → CountsOne (failures old.sink) (failures new.sink)
fails_once held took failures names old ds count new stands at =
    let front : List (List ℕ) = take count ds in
    subst (λ (n : ℕ). CountsOne n (failures new.sink))
    (each_faultless held took failures names old front at.last at.taken)
    (at.failed.device (each_stands held took failures names old front at.last at.taken ∙ stands))

-- the references by which its sink writes stay
pub fails_lent : {K : Type 0} (held : K → Option (List ℕ)) (took : K → List ℕ)
    (failures : K → ℕ) (names : K → List GName) (old : Writer K)
    (ds : List (List ℕ)) (count : ℕ) (new : Writer K)
    → FailsAt (TakesDatagram held took failures names) (FailsDatagram held took failures names)
    old ds count new
    → names new.sink ≡ names old.sink
fails_lent held took failures names old ds count new at =
    at.failed.lent ∙ each_lent held took failures names old (take count ds) at.last at.taken
