-- Timestamps where one more comes.
use Rattle.std.proofs.Common.{◌≡◌, ◌∙◌, ℕ, Bool, true, false, cond, List, [], ◌∷◌, ◌++◌, map}
use Rattle.std.proofs.Common.{Option, None, Some, refl, ap, sym, subst, append-nil, append_assoc}
use Rattle.std.proofs.Common.{⊎_elim, ◌+◌, ◌<◌, get_or, length, take}
use Rattle.std.proofs.lemmas.Bool.{both_ways, cases_Bool, false_from_ne_true}
use Rattle.std.proofs.lemmas.List.{map-append, take_more}
use Rattle.std.proofs.lemmas.List.Elements.{filter-append}
use Rattle.std.specs.BTreeMap.{Updates, get, is_at}
use Rattle.std.specs.List.{filter}
use Rattle.std.specs.Ordering.{is_eq}
use Rattle.std.specs.declared.cmp.Ordering.{Ordering}
use Rattle.std.specs.declared.cmp.Ordering.TheVariants.{Less, Equal, Greater}
use Rattle.recording_counts.specs.Streams.{is_same, key_cmp}
use Rattle.recording_counts.specs.declared.packet.StreamKey.{StreamKey}
use Rattle.recording_counts.specs.declared.timestamp.TimestampCount.{TimestampCount}
use Rattle.recording_counts.proofs.Keys.{exact_streams, stream_keys}
use Rattle.stream_inspection.specs.Arrivals.{Arrival}
use Rattle.stream_inspection.specs.Timestamps.{AreLasts, last_after, last_of, timestamp_line}
use Rattle.stream_inspection.specs.Timestamps.{timestamps_behind}
use Rattle.stream_inspection.specs.declared.text.Form.{Form}
use Rattle.stream_inspection.specs.declared.timestamps.Lasts.{Lasts}

abbrev time : TimestampCount → ℕ
time c = c.key.timestamp

last_is : (before : Option ℕ) (ns : List ℕ) (n : ℕ) → last_after before (ns ++ n ∷ []) ≡ Some n
last_is before [] n = refl
last_is before (m ∷ ns) n = last_is (Some m) ns n

own_more : (k : StreamKey) (front : List TimestampCount) (c : TimestampCount) (b : Bool)
    → is_same k c.key.stream ≡ b
    → map time (filter (λ x. is_same k x.key.stream) (front ++ c ∷ []))
    ≡ map time (filter (λ x. is_same k x.key.stream) front) ++ map time (cond b (c ∷ []) [])
own_more k front c b is =
    ap (map time)
    (filter-append (λ x. is_same k x.key.stream) front (c ∷ [])
    ∙ ap (λ (t : Bool). filter (λ x. is_same k x.key.stream) front ++ cond t (c ∷ []) []) is)
    ∙ map-append time (filter (λ x. is_same k x.key.stream) front) (cond b (c ∷ []) [])

last_same : (k : StreamKey) (front : List TimestampCount) (c : TimestampCount)
    → is_same k c.key.stream ≡ true → last_of k (front ++ c ∷ []) ≡ Some c.key.timestamp
last_same k front c is =
    ap (last_after None) (own_more k front c true is)
    ∙ last_is None (map time (filter (λ x. is_same k x.key.stream) front)) c.key.timestamp

last_other : (k : StreamKey) (front : List TimestampCount) (c : TimestampCount)
    → is_same k c.key.stream ≡ false → last_of k (front ++ c ∷ []) ≡ last_of k front
last_other k front c isnt =
    ap (last_after None)
    (own_more k front c false isnt
    ∙ append-nil (map time (filter (λ x. is_same k x.key.stream) front)))

pub is_equal : (o : Ordering) → is_eq o ≡ true → o ≡ Equal
is_equal Less e = absurd (cc)
is_equal Equal e = refl
is_equal Greater e = absurd (cc)

pub lasts_more : {A : Type 0} (old new : Lasts A) (front : List TimestampCount)
    (c : TimestampCount) → AreLasts old front
    → Updates key_cmp old.timestamps new.timestamps c.key.stream (Some c.key.timestamp)
    → AreLasts new (front ++ c ∷ [])
lasts_more old new front c are updates = record {
  each = λ k.
      ⊎_elim
      (λ here.
      let e : k ≡ c.key.stream = stream_keys.one k c.key.stream here in
      ap (get key_cmp new.timestamps) e ∙ updates.1 ∙ sym (last_same k front c here))
      (λ other.
      let apart : is_at (key_cmp c.key.stream) k ≡ false =
      false_from_ne_true _
      (λ t.
      let e : c.key.stream ≡ k = exact_streams c.key.stream k (is_equal _ t) in
      both_ways (is_same k c.key.stream) other
      (subst (λ (x : StreamKey). is_same x c.key.stream ≡ true) e
      (stream_keys.itself c.key.stream))) in
      updates.2 k apart ∙ are.each k ∙ sym (last_other k front c other))
      (cases_Bool (is_same k c.key.stream));
}

-- the lines of one timestamp more
pub behind_more : (form : Form) (arrivals : List Arrival) (front xs : List TimestampCount)
    (c : TimestampCount)
    → timestamps_behind form arrivals front (xs ++ c ∷ [])
    ≡ timestamps_behind form arrivals front xs
    ++ timestamp_line form arrivals (front ++ xs) c
behind_more form arrivals front [] c =
    append-nil (timestamp_line form arrivals front c)
    ∙ ap (λ (l : List TimestampCount). timestamp_line form arrivals l c) (sym (append-nil front))
behind_more form arrivals front (x ∷ xs) c =
    ap (λ (l : List ℕ). timestamp_line form arrivals front x ++ l)
    (behind_more form arrivals (front ++ x ∷ []) xs c)
    ∙ sym (append_assoc (timestamp_line form arrivals front x)
    (timestamps_behind form arrivals (front ++ x ∷ []) xs)
    (timestamp_line form arrivals ((front ++ x ∷ []) ++ xs) c))
    ∙ ap (λ (l : List TimestampCount). (timestamp_line form arrivals front x
    ++ timestamps_behind form arrivals (front ++ x ∷ []) xs) ++ timestamp_line form arrivals l c)
    (append_assoc front (x ∷ []) xs)

take_on : (xs : List TimestampCount) (i : ℕ) (d c : TimestampCount) → i < length xs
    → c ≡ get_or xs i d → take (i + 1) xs ≡ take i xs ++ c ∷ []
take_on xs i d c lt is =
    take_more xs i d lt ∙ ap (λ (y : TimestampCount). take i xs ++ y ∷ []) (sym is)

lines_on : (form : Form) (arrivals : List Arrival) (t0 t1 t2 : List ℕ)
    (xs : List TimestampCount) (i : ℕ) (c : TimestampCount)
    → t1 ≡ t0 ++ timestamps_behind form arrivals [] (take i xs)
    → t2 ≡ t1 ++ timestamp_line form arrivals (take i xs) c
    → take (i + 1) xs ≡ take i xs ++ c ∷ []
    → t2 ≡ t0 ++ timestamps_behind form arrivals [] (take (i + 1) xs)
lines_on form arrivals t0 t1 t2 xs i c p q more =
    let front : List TimestampCount = take i xs in
    q
    ∙ ap (λ (l : List ℕ). l ++ timestamp_line form arrivals front c) p
    ∙ append_assoc t0 (timestamps_behind form arrivals [] front)
    (timestamp_line form arrivals front c)
    ∙ ap (λ (l : List ℕ). t0 ++ l) (sym (behind_more form arrivals [] front c))
    ∙ ap (λ (l : List TimestampCount). t0 ++ timestamps_behind form arrivals [] l) (sym more)

-- the same of the item of a place
pub lasts_next : {A : Type 0} (table : Lasts A) (xs : List TimestampCount) (i : ℕ)
    (d : TimestampCount) → i < length xs → AreLasts table (take i xs ++ get_or xs i d ∷ [])
    → AreLasts table (take (i + 1) xs)
lasts_next table xs i d lt are =
    subst (λ (ys : List TimestampCount). AreLasts table ys)
    (sym (take_on xs i d (get_or xs i d) lt refl)) are

pub lines_next : (form : Form) (arrivals : List Arrival) (t0 t1 t2 : List ℕ)
    (xs : List TimestampCount) (i : ℕ) (d : TimestampCount) → i < length xs
    → t1 ≡ t0 ++ timestamps_behind form arrivals [] (take i xs)
    → t2 ≡ t1 ++ timestamp_line form arrivals (take i xs) (get_or xs i d)
    → t2 ≡ t0 ++ timestamps_behind form arrivals [] (take (i + 1) xs)
lines_next form arrivals t0 t1 t2 xs i d lt p q =
    lines_on form arrivals t0 t1 t2 xs i (get_or xs i d) p q
    (take_on xs i d (get_or xs i d) lt refl)
