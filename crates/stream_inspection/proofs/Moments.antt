-- Probes where one more packet comes.
use Rattle.std.proofs.Common.{◌≡◌, ◌∙◌, ℕ, Bool, true, false, cond, not, ◌&&◌, List, [], ◌∷◌, ◌++◌}
use Rattle.std.proofs.Common.{Option, None, Some, refl, ap, sym, subst, append-nil, eqb, map}
use Rattle.std.proofs.Common.{length}
use Rattle.std.proofs.lemmas.Bool.{both_ways, cases_Bool, eq-eqb, false_from_ne_true}
use Rattle.std.proofs.lemmas.List.{length-map, map-append}
use Rattle.std.proofs.lemmas.List.Elements.{filter-append}
use Rattle.std.proofs.Common.{⊎_elim}
use Rattle.std.specs.BTreeMap.{Updates, get, is_at}
use Rattle.std.specs.List.{filter, zip}
use Rattle.recording_counts.specs.Numbering.{highest_of, number_after}
use Rattle.recording_counts.specs.Streams.{is_a, is_same, key_cmp, key_of}
use Rattle.recording_counts.specs.Timestamps.{is_same_timestamp, timestamp_cmp, timestamp_key_of}
use Rattle.recording_counts.specs.declared.packet.Packet.{Packet}
use Rattle.recording_counts.specs.declared.packet.StreamKey.{StreamKey}
use Rattle.recording_counts.specs.declared.packet.TimestampKey.{TimestampKey}
use Rattle.recording_counts.proofs.Keys.{exact_streams, exact_timestamps, stream_keys}
use Rattle.recording_counts.proofs.Keys.{timestamp_keys}
use Rattle.stream_inspection.specs.Arrivals.{Arrival, packets}
use Rattle.stream_inspection.specs.Numbers.{any_high, numbers_in, told_as, without_high}
use Rattle.stream_inspection.specs.Skews.{AreProbes, arrivals_in_stream, by_a_with, by_b_with}
use Rattle.stream_inspection.specs.Skews.{first_known, moment_after, numbering_in, numbering_of}
use Rattle.stream_inspection.specs.Skews.{own_by, probe_of, probe_with, probes_in, probes_of}
use Rattle.stream_inspection.specs.Skews.{skew_by, skew_in}
use Rattle.stream_inspection.specs.declared.numbering.Numbering.{Numbering}
use Rattle.stream_inspection.specs.declared.probe.Probe.{Probe}
use Rattle.stream_inspection.specs.declared.probe.Probes.{Probes}
use Rattle.stream_inspection.specs.declared.probes.ProbeTable.{ProbeTable}
use Rattle.stream_inspection.proofs.NumberLaws.{beside_more, without_more}
use Rattle.stream_inspection.proofs.Lasts.{is_equal}
use Rattle.stream_inspection.proofs.Noting.{packet_in}

-- ---- one probe

-- the moment behind one packet more
moment_more : (known : Option ℕ) (later : List (Arrival × ℕ)) (a : Arrival × ℕ)
    → moment_after known (later ++ a ∷ []) ≡ first_known (moment_after known later) a.0.moment
moment_more known [] a = refl
moment_more known (b ∷ later) a = moment_more (first_known known b.0.moment) later a

-- of the packets that pass a test
passes : (test : Arrival × ℕ → Bool) (own : List (Arrival × ℕ)) (a : Arrival × ℕ) → test a ≡ true
    → moment_after None (filter test (own ++ a ∷ []))
    ≡ first_known (moment_after None (filter test own)) a.0.moment
passes test own a is =
    ap (moment_after None)
    (filter-append test own (a ∷ [])
    ∙ ap (λ (b : Bool). filter test own ++ cond b (a ∷ []) []) is)
    ∙ moment_more None (filter test own) a

fails : (test : Arrival × ℕ → Bool) (own : List (Arrival × ℕ)) (a : Arrival × ℕ) → test a ≡ false
    → moment_after None (filter test (own ++ a ∷ [])) ≡ moment_after None (filter test own)
fails test own a is =
    ap (moment_after None)
    (filter-append test own (a ∷ [])
    ∙ ap (λ (b : Bool). filter test own ++ cond b (a ∷ []) []) is
    ∙ append-nil (filter test own))

abbrev pub with_moments : ℕ → Option ℕ → Option ℕ → Probe
with_moments number a b = record { number = number; a = a; b = b }

probe_a : (number : ℕ) (own : List (Arrival × ℕ)) (a : Arrival × ℕ)
    → eqb a.1 number ≡ true → is_a a.0.packet.path ≡ true
    → probe_with number (own ++ a ∷ [])
    ≡ with_moments number
    (first_known (moment_after None (filter (by_a_with number) own)) a.0.moment)
    (moment_after None (filter (by_b_with number) own))
probe_a number own a is_it by =
    ap (λ (m : Option ℕ). with_moments number m
    (moment_after None (filter (by_b_with number) (own ++ a ∷ []))))
    (passes (by_a_with number) own a
    (ap (λ (b : Bool). b && is_a a.0.packet.path) is_it ∙ by))
    ∙ ap (λ (m : Option ℕ). with_moments number
    (first_known (moment_after None (filter (by_a_with number) own)) a.0.moment) m)
    (fails (by_b_with number) own a
    (ap (λ (b : Bool). b && not (is_a a.0.packet.path)) is_it ∙ ap not by))

probe_b : (number : ℕ) (own : List (Arrival × ℕ)) (a : Arrival × ℕ)
    → eqb a.1 number ≡ true → is_a a.0.packet.path ≡ false
    → probe_with number (own ++ a ∷ [])
    ≡ with_moments number (moment_after None (filter (by_a_with number) own))
    (first_known (moment_after None (filter (by_b_with number) own)) a.0.moment)
probe_b number own a is_it by =
    ap (λ (m : Option ℕ). with_moments number m
    (moment_after None (filter (by_b_with number) (own ++ a ∷ []))))
    (fails (by_a_with number) own a
    (ap (λ (b : Bool). b && is_a a.0.packet.path) is_it ∙ by))
    ∙ ap (λ (m : Option ℕ). with_moments number
    (moment_after None (filter (by_a_with number) own)) m)
    (passes (by_b_with number) own a
    (ap (λ (b : Bool). b && not (is_a a.0.packet.path)) is_it ∙ ap not by))

-- a probe of packets is that of the first one's number
some_probe : (p q : Probe) → Some p ≡ Some q → p ≡ q
some_probe p q e = cc

none_probe : (p : Probe) → let o : Option Probe = None in Some p ≡ o → ⊥
none_probe p e = cc

record IsProbe (p : Probe) (own : List (Arrival × ℕ)) (next : Arrival × ℕ) : Type 0 where
  pub is : p ≡ probe_with p.number own
  pub then_is : probe_of (own ++ next ∷ []) ≡ Some (probe_with p.number (own ++ next ∷ []))

is_probe : (p : Probe) (own : List (Arrival × ℕ)) (next : Arrival × ℕ) → Some p ≡ probe_of own
    → IsProbe p own next
is_probe p [] next e = absurd (none_probe p e)
is_probe p (a ∷ own) next e =
    let same : p ≡ probe_with a.1 (a ∷ own) =
    some_probe p (probe_with a.1 (a ∷ own)) e in
    let own_number : a.1 ≡ p.number = ap (λ (q : Probe). q.number) (sym same) in
    record {
      is = same ∙ ap (λ (n : ℕ). probe_with n (a ∷ own)) own_number;
      then_is =
          ap (λ (n : ℕ). Some (probe_with n (a ∷ (own ++ next ∷ [])))) own_number;
    }

-- one of its number by A, and by B
pub noted_a : (p q : Probe) (own : List (Arrival × ℕ)) (a : Arrival × ℕ)
    → a.1 ≡ p.number → is_a a.0.packet.path ≡ true
    → q ≡ with_moments p.number (first_known p.a a.0.moment) p.b → Some p ≡ probe_of own
    → Some q ≡ probe_of (own ++ a ∷ [])
noted_a p q own a is_it by same e =
    let i : IsProbe p own a = is_probe p own a e in
    ap (λ (x : Probe). Some x)
    (same
    ∙ ap (λ (x : Probe). with_moments p.number (first_known x.a a.0.moment) x.b) i.is
    ∙ sym (probe_a p.number own a (eq-eqb a.1 p.number is_it) by))
    ∙ sym i.then_is

pub noted_b : (p q : Probe) (own : List (Arrival × ℕ)) (a : Arrival × ℕ)
    → a.1 ≡ p.number → is_a a.0.packet.path ≡ false
    → q ≡ with_moments p.number p.a (first_known p.b a.0.moment) → Some p ≡ probe_of own
    → Some q ≡ probe_of (own ++ a ∷ [])
noted_b p q own a is_it by same e =
    let i : IsProbe p own a = is_probe p own a e in
    ap (λ (x : Probe). Some x)
    (same
    ∙ ap (λ (x : Probe). with_moments p.number x.a (first_known x.b a.0.moment)) i.is
    ∙ sym (probe_b p.number own a (eq-eqb a.1 p.number is_it) by))
    ∙ sym i.then_is

-- the first packet came by A, and by B
pub begun_a : (p : Probe) (a : Arrival × ℕ) → is_a a.0.packet.path ≡ true
    → p ≡ with_moments a.1 (first_known None a.0.moment) None
    → Some p ≡ probe_of (a ∷ [])
begun_a p a by same =
    ap (λ (x : Probe). Some x)
    (same
    ∙ sym (probe_a a.1 [] a (eq-eqb a.1 a.1 refl) by))

pub begun_b : (p : Probe) (a : Arrival × ℕ) → is_a a.0.packet.path ≡ false
    → p ≡ with_moments a.1 None (first_known None a.0.moment)
    → Some p ≡ probe_of (a ∷ [])
begun_b p a by same =
    ap (λ (x : Probe). Some x)
    (same
    ∙ sym (probe_b a.1 [] a (eq-eqb a.1 a.1 refl) by))

-- ---- the packets of a stream and of a timestamp

arrivals_same : (k : StreamKey) (arrivals : List Arrival) (a : Arrival)
    → is_same k (key_of a.packet) ≡ true
    → arrivals_in_stream k (arrivals ++ a ∷ []) ≡ arrivals_in_stream k arrivals ++ a ∷ []
arrivals_same k arrivals a is =
    filter-append (λ x. is_same k (key_of x.packet)) arrivals (a ∷ [])
    ∙ ap (λ (b : Bool). arrivals_in_stream k arrivals ++ cond b (a ∷ []) []) is

arrivals_other : (k : StreamKey) (arrivals : List Arrival) (a : Arrival)
    → is_same k (key_of a.packet) ≡ false
    → arrivals_in_stream k (arrivals ++ a ∷ []) ≡ arrivals_in_stream k arrivals
arrivals_other k arrivals a isnt =
    filter-append (λ x. is_same k (key_of x.packet)) arrivals (a ∷ [])
    ∙ ap (λ (b : Bool). arrivals_in_stream k arrivals ++ cond b (a ∷ []) []) isnt
    ∙ append-nil (arrivals_in_stream k arrivals)

packets_more : (own : List Arrival) (a : Arrival)
    → packets (own ++ a ∷ []) ≡ packets own ++ a.packet ∷ []
packets_more own a = map-append packet_in own (a ∷ [])

-- those of a timestamp beside their numbers
abbrev at_time : ℕ → Arrival × ℕ → Bool
at_time timestamp q = eqb timestamp q.0.packet.timestamp

module _ (taken : List Packet → List Packet) (one : Packet → Packet)
    (more : (own : List Packet) (p : Packet) → taken (own ++ p ∷ []) ≡ taken own ++ one p ∷ [])
    (same : (own : List Packet) → length (taken own) ≡ length own) where
  abbrev pub next_number : List Arrival → Arrival → ℕ
  next_number own a =
      number_after (highest_of (numbers_in (taken (packets own)))) (one a.packet)

  beside : (own : List Arrival) (a : Arrival)
      → zip (own ++ a ∷ []) (numbers_in (taken (packets (own ++ a ∷ []))))
      ≡ zip own (numbers_in (taken (packets own))) ++ (a, next_number own a) ∷ []
  beside own a =
      ap (λ (ps : List Packet). zip (own ++ a ∷ []) (numbers_in ps))
      (ap taken (packets_more own a) ∙ more (packets own) a.packet)
      ∙ beside_more own a (taken (packets own)) (one a.packet)
      (sym (same (packets own) ∙ length-map own packet_in))

  own_if : (k : TimestampKey) (arrivals : List Arrival) (a : Arrival) (b : Bool)
      → is_same k.stream (key_of a.packet) ≡ true → eqb k.timestamp a.packet.timestamp ≡ b
      → own_by taken k (arrivals ++ a ∷ [])
      ≡ own_by taken k arrivals
      ++ cond b ((a, next_number (arrivals_in_stream k.stream arrivals) a) ∷ []) []
  own_if k arrivals a b here is =
      let own : List Arrival = arrivals_in_stream k.stream arrivals in
      let q : Arrival × ℕ = (a, next_number own a) in
      ap (λ (l : List Arrival). filter (at_time k.timestamp)
      (zip l (numbers_in (taken (packets l))))) (arrivals_same k.stream arrivals a here)
      ∙ ap (filter (at_time k.timestamp)) (beside own a)
      ∙ filter-append (at_time k.timestamp) (zip own (numbers_in (taken (packets own)))) (q ∷ [])
      ∙ ap (λ (c : Bool). own_by taken k arrivals ++ cond c (q ∷ []) []) is

  own_elsewhere : (k : TimestampKey) (arrivals : List Arrival) (a : Arrival)
      → is_same k.stream (key_of a.packet) ≡ false
      → own_by taken k (arrivals ++ a ∷ []) ≡ own_by taken k arrivals
  own_elsewhere k arrivals a isnt =
      ap (λ (l : List Arrival). filter (at_time k.timestamp)
      (zip l (numbers_in (taken (packets l))))) (arrivals_other k.stream arrivals a isnt)

  -- of another timestamp
  pub own_other : (k : TimestampKey) (arrivals : List Arrival) (a : Arrival)
      → is_same_timestamp k (timestamp_key_of a.packet) ≡ false
      → own_by taken k (arrivals ++ a ∷ []) ≡ own_by taken k arrivals
  own_other k arrivals a isnt =
      ⊎_elim
      (λ here.
      own_if k arrivals a false here
      (sym (ap (λ (b : Bool). b && eqb k.timestamp a.packet.timestamp) here) ∙ isnt)
      ∙ append-nil (own_by taken k arrivals))
      (λ other. own_elsewhere k arrivals a other)
      (cases_Bool (is_same k.stream (key_of a.packet)))

  -- of its own
  pub own_same : (arrivals : List Arrival) (a : Arrival)
      → own_by taken (timestamp_key_of a.packet) (arrivals ++ a ∷ [])
      ≡ own_by taken (timestamp_key_of a.packet) arrivals
      ++ (a, next_number (arrivals_in_stream (key_of a.packet) arrivals) a) ∷ []
  own_same arrivals a =
      own_if (timestamp_key_of a.packet) arrivals a true (stream_keys.itself (key_of a.packet))
      (eq-eqb a.packet.timestamp a.packet.timestamp refl)

-- as the packets are, and without high halves
as_they_are : (own : List Packet) (p : Packet) → own ++ p ∷ [] ≡ own ++ p ∷ []
as_they_are own p = refl

as_many : (own : List Packet) → length own ≡ length own
as_many own = refl

without_many : (own : List Packet) → length (map without_high own) ≡ length own
without_many own = length-map own without_high

-- ---- the table

abbrev with_probes : Option Probe → Option Probe → Probes
with_probes long short = record { long = long; short = short }

-- the probes of the packet's timestamp go on by it
abbrev pub GoOn : List Arrival → Arrival → Probes → Probes → Type 0
GoOn arrivals a old new =
    (old ≡ probes_of (timestamp_key_of a.packet) arrivals)
    → new ≡ probes_of (timestamp_key_of a.packet) (arrivals ++ a ∷ [])

pub go_on : (arrivals : List Arrival) (a : Arrival) (n : Numbering) (long short : ℕ)
    (old new : Probes)
    → n ≡ numbering_of (packets (arrivals_in_stream (key_of a.packet) arrivals))
    → long ≡ number_after n.long a.packet → short ≡ number_after n.short (without_high a.packet)
    → ((own : List (Arrival × ℕ)) → old.long ≡ probe_of own
    → new.long ≡ probe_of (own ++ (a, long) ∷ []))
    → ((own : List (Arrival × ℕ)) → old.short ≡ probe_of own
    → new.short ≡ probe_of (own ++ (a, short) ∷ []))
    → GoOn arrivals a old new
go_on arrivals a n long short old new n_is long_is short_is on_long on_short was =
    let k : TimestampKey = timestamp_key_of a.packet in
    let own : List Arrival = arrivals_in_stream (key_of a.packet) arrivals in
    let l : long ≡ next_number (λ ps. ps) (λ p. p) as_they_are as_many own a =
    long_is ∙ ap (λ (m : Numbering). number_after m.long a.packet) n_is in
    let s : short ≡ next_number (map without_high) without_high without_more without_many own a =
    short_is ∙ ap (λ (m : Numbering). number_after m.short (without_high a.packet)) n_is in
    ap (λ (o : Option Probe). with_probes o new.short)
    (on_long (own_by (λ ps. ps) k arrivals) (ap (λ (x : Probes). x.long) was)
    ∙ ap (λ (m : ℕ). probe_of (own_by (λ ps. ps) k arrivals ++ (a, m) ∷ [])) l
    ∙ ap probe_of (sym (own_same (λ ps. ps) (λ p. p) as_they_are as_many arrivals a)))
    ∙ ap (λ (o : Option Probe). with_probes (probe_of (own_by (λ ps. ps) k (arrivals ++ a ∷ []))) o)
    (on_short (own_by (map without_high) k arrivals) (ap (λ (x : Probes). x.short) was)
    ∙ ap (λ (m : ℕ). probe_of (own_by (map without_high) k arrivals ++ (a, m) ∷ [])) s
    ∙ ap probe_of
    (sym (own_same (map without_high) without_high without_more without_many arrivals a)))

probes_other : (k : TimestampKey) (arrivals : List Arrival) (a : Arrival)
    → is_same_timestamp k (timestamp_key_of a.packet) ≡ false
    → probes_of k arrivals ≡ probes_of k (arrivals ++ a ∷ [])
probes_other k arrivals a isnt =
    ap (λ (l : List (Arrival × ℕ)). with_probes (probe_of l)
    (probe_of (own_by (map without_high) k arrivals)))
    (sym (own_other (λ ps. ps) (λ p. p) as_they_are as_many k arrivals a isnt))
    ∙ ap (λ (l : List (Arrival × ℕ)).
    with_probes (probe_of (own_by (λ ps. ps) k (arrivals ++ a ∷ []))) (probe_of l))
    (sym (own_other (map without_high) without_high without_more without_many k arrivals a isnt))

apart_stream : (d k : StreamKey) → is_same k d ≡ false → is_at (key_cmp d) k ≡ false
apart_stream d k other =
    false_from_ne_true _
    (λ t.
    let e : d ≡ k = exact_streams d k (is_equal _ t) in
    both_ways (is_same k d) other
    (subst (λ (x : StreamKey). is_same x d ≡ true) e (stream_keys.itself d)))

apart_time : (d k : TimestampKey) → is_same_timestamp k d ≡ false
    → is_at (timestamp_cmp d) k ≡ false
apart_time d k other =
    false_from_ne_true _
    (λ t.
    let e : d ≡ k = exact_timestamps d k (is_equal _ t) in
    both_ways (is_same_timestamp k d) other
    (subst (λ (x : TimestampKey). is_same_timestamp x d ≡ true) e (timestamp_keys.itself d)))

module _ {A : Type 0} (old new : ProbeTable A) (arrivals : List Arrival) (a : Arrival)
    (are : AreProbes old arrivals) where
  numbers_next : (n : Numbering)
      → Updates key_cmp old.numberings new.numberings (key_of a.packet) (Some n)
      → n ≡ numbering_of (packets (arrivals_in_stream (key_of a.packet) arrivals) ++ a.packet ∷ [])
      → (k : StreamKey) → numbering_in (get key_cmp new.numberings k)
      ≡ numbering_of (packets (arrivals_in_stream k (arrivals ++ a ∷ [])))
  numbers_next n updates is k =
      let d : StreamKey = key_of a.packet in
      ⊎_elim
      (λ here.
      let e : k ≡ d = stream_keys.one k d here in
      ap (λ (x : StreamKey). numbering_in (get key_cmp new.numberings x)) e
      ∙ ap numbering_in updates.1 ∙ is
      ∙ ap numbering_of
      (sym
      (ap packets (arrivals_same d arrivals a (stream_keys.itself d))
      ∙ packets_more (arrivals_in_stream d arrivals) a))
      ∙ ap (λ (x : StreamKey). numbering_of (packets (arrivals_in_stream x (arrivals ++ a ∷ []))))
      (sym e))
      (λ other.
      ap numbering_in (updates.2 k (apart_stream d k other)) ∙ are.numbers k
      ∙ ap (λ (l : List Arrival). numbering_of (packets l))
      (sym (arrivals_other k arrivals a other)))
      (cases_Bool (is_same k d))

  probes_next : (q : Probes)
      → Updates timestamp_cmp old.probes new.probes (timestamp_key_of a.packet) (Some q)
      → q ≡ probes_of (timestamp_key_of a.packet) (arrivals ++ a ∷ [])
      → (k : TimestampKey) → probes_in (get timestamp_cmp new.probes k)
      ≡ probes_of k (arrivals ++ a ∷ [])
  probes_next q updates is k =
      let d : TimestampKey = timestamp_key_of a.packet in
      ⊎_elim
      (λ here.
      let e : k ≡ d = timestamp_keys.one k d here in
      ap (λ (x : TimestampKey). probes_in (get timestamp_cmp new.probes x)) e
      ∙ ap probes_in updates.1 ∙ is
      ∙ ap (λ (x : TimestampKey). probes_of x (arrivals ++ a ∷ [])) (sym e))
      (λ other.
      ap probes_in (updates.2 k (apart_time d k other)) ∙ are.each k
      ∙ probes_other k arrivals a other)
      (cases_Bool (is_same_timestamp k d))

  pub probes_more : (d : StreamKey) (e : TimestampKey) (n m : Numbering) (old_probes q : Probes)
      → d ≡ key_of a.packet → e ≡ timestamp_key_of a.packet
      → Updates key_cmp old.numberings new.numberings d (Some m)
      → Updates timestamp_cmp old.probes new.probes e (Some q)
      → n ≡ numbering_in (get key_cmp old.numberings d)
      → old_probes ≡ probes_in (get timestamp_cmp old.probes e)
      → ((own : List Packet) → n ≡ numbering_of own → m ≡ numbering_of (own ++ a.packet ∷ []))
      → (n ≡ numbering_of (packets (arrivals_in_stream (key_of a.packet) arrivals))
      → GoOn arrivals a old_probes q)
      → AreProbes new (arrivals ++ a ∷ [])
  probes_more d e n m old_probes q d_is e_is numbers_updates probes_updates n_is probes_is on go =
      let numbers_are : n ≡ numbering_of (packets (arrivals_in_stream (key_of a.packet) arrivals)) =
      n_is ∙ ap (λ (k : StreamKey). numbering_in (get key_cmp old.numberings k)) d_is
      ∙ are.numbers (key_of a.packet) in
      record {
        numbers =
            numbers_next m
            (subst (λ (k : StreamKey). Updates key_cmp old.numberings new.numberings k (Some m))
            d_is numbers_updates)
            (on (packets (arrivals_in_stream (key_of a.packet) arrivals)) numbers_are);
        each =
            probes_next q
            (subst (λ (k : TimestampKey). Updates timestamp_cmp old.probes new.probes k (Some q))
            e_is probes_updates)
            (go numbers_are
            (probes_is
            ∙ ap (λ (k : TimestampKey). probes_in (get timestamp_cmp old.probes k)) e_is
            ∙ are.each (timestamp_key_of a.packet)));
      }

-- ---- the skew that is told

told_if : (k : TimestampKey) (arrivals : List Arrival) (b : Bool)
    → any_high (packets (arrivals_in_stream k.stream arrivals)) ≡ b
    → cond b (probe_of (own_by (λ ps. ps) k arrivals))
    (probe_of (own_by (map without_high) k arrivals)) ≡ probe_of (own_by told_as k arrivals)
told_if k arrivals true is =
    let own : List Arrival = arrivals_in_stream k.stream arrivals in
    ap (λ (b : Bool). probe_of (filter (at_time k.timestamp)
    (zip own (numbers_in (cond b (packets own) (map without_high (packets own))))))) (sym is)
told_if k arrivals false is =
    let own : List Arrival = arrivals_in_stream k.stream arrivals in
    ap (λ (b : Bool). probe_of (filter (at_time k.timestamp)
    (zip own (numbers_in (cond b (packets own) (map without_high (packets own))))))) (sym is)

module _ {A : Type 0} (table : ProbeTable A) (arrivals : List Arrival) (k : TimestampKey)
    (are : AreProbes table arrivals) (n : Numbering) (p : Probes)
    (n_is : n ≡ numbering_in (get key_cmp table.numberings k.stream))
    (p_is : p ≡ probes_in (get timestamp_cmp table.probes k)) where
  high_is : (b : Bool) → n.high ≡ b
      → any_high (packets (arrivals_in_stream k.stream arrivals)) ≡ b
  high_is b e =
      sym (ap (λ (m : Numbering). m.high) (n_is ∙ are.numbers k.stream)) ∙ e

  pub skew_long : n.high ≡ true → skew_in p.long ≡ skew_by arrivals k
  skew_long e =
      ap (λ (x : Probes). skew_in x.long) (p_is ∙ are.each k)
      ∙ ap skew_in (told_if k arrivals true (high_is true e))

  pub skew_short : n.high ≡ false → skew_in p.short ≡ skew_by arrivals k
  skew_short e =
      ap (λ (x : Probes). skew_in x.short) (p_is ∙ are.each k)
      ∙ ap skew_in (told_if k arrivals false (high_is false e))
