-- Packet numbers, and what is counted by them, where one more packet comes.
use Rattle.std.proofs.Common.{◌≡◌, ◌∙◌, ℕ, ◌+◌, ◌<◌, ◌≤◌, Bool, true, false, cond, max, ◌||◌}
use Rattle.std.proofs.Common.{List, [], ◌∷◌, ◌++◌, map, length, get_or, Option, Some}
use Rattle.std.proofs.Common.{refl, ap, sym, subst, append-nil, arith, ⊎_elim}
use Rattle.std.proofs.Math.Bool.{or-false}
use Rattle.std.proofs.lemmas.Bool.{both_ways, cases_Bool, false_from_ne_true}
use Rattle.std.proofs.lemmas.List.{get_or-map, length-append, length-map, map-append}
use Rattle.std.proofs.lemmas.List.Elements.{filter-append}
use Rattle.std.proofs.lemmas.List.Folds.{list_any-append}
use Rattle.std.specs.BTreeSet.{BTreeSet, Updates, contains}
use Rattle.std.specs.BTreeMap.{is_at}
use Rattle.std.specs.List.{zip}
use Rattle.std.specs.Option.{option_map_or}
use Rattle.recording_counts.specs.Numbering.{Numbered, highest_of, number_after, numbered}
use Rattle.recording_counts.specs.Numbering.{numbered_after, numbered_behind}
use Rattle.recording_counts.specs.Streams.{is_same, key_cmp, key_of, stream_of, streams_of}
use Rattle.recording_counts.specs.Tables.{different}
use Rattle.recording_counts.specs.declared.packet.Packet.{Packet}
use Rattle.recording_counts.specs.declared.packet.StreamKey.{StreamKey}
use Rattle.recording_counts.specs.declared.stream.StreamCount.{StreamCount}
use Rattle.recording_counts.proofs.CountLaws.{highest_more}
use Rattle.recording_counts.proofs.Keys.{exact_streams, stream_keys}
use Rattle.recording_counts.proofs.StreamLaws.{numbered_more}
use Rattle.stream_inspection.specs.Numbers.{AreStreams, any_high, is_high, numbers_in, of_stream}
use Rattle.stream_inspection.specs.Numbers.{told_stream, told_streams, without_high}
use Rattle.stream_inspection.specs.Skews.{numbering_of}
use Rattle.stream_inspection.specs.declared.numbering.Numbering.{Numbering}
use Rattle.stream_inspection.specs.declared.stream_tables.StreamTables.{StreamTables}
use Rattle.stream_inspection.proofs.Lasts.{is_equal}

-- ---- the numbers of a stream

abbrev number : Numbered → ℕ
number n = n.number

pub numbers_more : (own : List Packet) (p : Packet)
    → numbers_in (own ++ p ∷ [])
    ≡ numbers_in own ++ number_after (highest_of (numbers_in own)) p ∷ []
numbers_more own p =
    ap (map number) (numbered_more [] own p)
    ∙ map-append number (numbered own) (numbered_behind (numbered own) p ∷ [])

numbered_length : (before : List Numbered) (own : List Packet)
    → length (numbered_after before own) ≡ length before + length own
numbered_length before [] = omega arith
numbered_length before (p ∷ own) =
    let more : List Numbered = before ++ numbered_behind before p ∷ [] in
    let one : length more ≡ length before + 1 =
    length-append before (numbered_behind before p ∷ []) in
    numbered_length more own ∙ omega arith

pub numbers_length : (own : List Packet) → length (numbers_in own) ≡ length own
numbers_length own = length-map (numbered own) number ∙ numbered_length [] own ∙ omega arith

zip_more : {X Y : Type 0} (xs : List X) (ys : List Y) (x : X) (y : Y) → length xs ≡ length ys
    → zip (xs ++ x ∷ []) (ys ++ y ∷ []) ≡ zip xs ys ++ (x, y) ∷ []
zip_more [] [] x y e = refl
zip_more [] (b ∷ ys) x y e = absurd (omega arith)
zip_more (a ∷ xs) [] x y e = absurd (omega arith)
zip_more {X} {Y} (a ∷ xs) (b ∷ ys) x y e =
    ap (λ (l : List (X × Y)). (a, b) ∷ l) (zip_more xs ys x y (omega arith))

-- records beside the numbers of packets, where one more comes
pub beside_more : {X : Type 0} (xs : List X) (x : X) (own : List Packet) (p : Packet)
    → length xs ≡ length own
    → zip (xs ++ x ∷ []) (numbers_in (own ++ p ∷ []))
    ≡ zip xs (numbers_in own) ++ (x, number_after (highest_of (numbers_in own)) p) ∷ []
beside_more {X} xs x own p same =
    ap (λ (ns : List ℕ). zip (xs ++ x ∷ []) ns) (numbers_more own p)
    ∙ zip_more xs (numbers_in own) x (number_after (highest_of (numbers_in own)) p)
    (same ∙ sym (numbers_length own))

-- ---- what is known of them

highest_behind : (own : List Packet) (p : Packet) (n : ℕ)
    → n ≡ number_after (highest_of (numbers_in own)) p
    → Some (option_map_or (λ h. max h n) (highest_of (numbers_in own)) n)
    ≡ highest_of (numbers_in (own ++ p ∷ []))
highest_behind own p n is =
    sym (highest_more (numbers_in own) n)
    ∙ ap (λ (m : ℕ). highest_of (numbers_in own ++ m ∷ [])) is
    ∙ ap highest_of (sym (numbers_more own p))

pub without_more : (own : List Packet) (p : Packet)
    → map without_high (own ++ p ∷ []) ≡ map without_high own ++ without_high p ∷ []
without_more own p = map-append without_high own (p ∷ [])

pub any_more : (own : List Packet) (p : Packet)
    → any_high (own ++ p ∷ []) ≡ (any_high own || is_high p.extended)
any_more own p =
    list_any-append (λ q. is_high q.extended) own (p ∷ [])
    ∙ ap (λ (b : Bool). any_high own || b) (or-false (is_high p.extended))

abbrev pub with_numbers : Option ℕ → Option ℕ → Bool → Numbering
with_numbers long short high = record { long = long; short = short; high = high }

-- what is known behind one more packet
module _ (n : Numbering) (own : List Packet) (p : Packet) (is : n ≡ numbering_of own) where
  long_more : (long highest : ℕ) → long ≡ number_after n.long p
      → highest ≡ option_map_or (λ h. max h long) n.long long
      → Some highest ≡ highest_of (numbers_in (own ++ p ∷ []))
  long_more long highest long_is highest_is =
      let of_long : n.long ≡ highest_of (numbers_in own) =
      ap (λ (m : Numbering). m.long) is in
      ap (λ (h : ℕ). Some h) highest_is
      ∙ ap (λ (o : Option ℕ). Some (option_map_or (λ h. max h long) o long)) of_long
      ∙ highest_behind own p long
      (long_is ∙ ap (λ (o : Option ℕ). number_after o p) of_long)

  short_more : (short highest : ℕ) → short ≡ number_after n.short (without_high p)
      → highest ≡ option_map_or (λ h. max h short) n.short short
      → Some highest ≡ highest_of (numbers_in (map without_high (own ++ p ∷ [])))
  short_more short highest short_is highest_is =
      let of_short : n.short ≡ highest_of (numbers_in (map without_high own)) =
      ap (λ (m : Numbering). m.short) is in
      ap (λ (h : ℕ). Some h) highest_is
      ∙ ap (λ (o : Option ℕ). Some (option_map_or (λ h. max h short) o short)) of_short
      ∙ highest_behind (map without_high own) (without_high p) short
      (short_is ∙ ap (λ (o : Option ℕ). number_after o (without_high p)) of_short)
      ∙ ap (λ (ps : List Packet). highest_of (numbers_in ps)) (sym (without_more own p))

  high_more : (n.high || is_high p.extended) ≡ any_high (own ++ p ∷ [])
  high_more =
      ap (λ (m : Numbering). m.high || is_high p.extended) is ∙ sym (any_more own p)

  pub numbering_more : (long short highest other : ℕ) (high : Bool)
      → long ≡ number_after n.long p → short ≡ number_after n.short (without_high p)
      → highest ≡ option_map_or (λ h. max h long) n.long long
      → other ≡ option_map_or (λ h. max h short) n.short short
      → high ≡ (n.high || is_high p.extended)
      → with_numbers (Some highest) (Some other) high ≡ numbering_of (own ++ p ∷ [])
  numbering_more long short highest other high long_is short_is highest_is other_is high_is =
      ap (λ (o : Option ℕ). with_numbers o (Some other) high)
      (long_more long highest long_is highest_is)
      ∙ ap (λ (o : Option ℕ). with_numbers (highest_of (numbers_in (own ++ p ∷ []))) o high)
      (short_more short other short_is other_is)
      ∙ ap (λ (b : Bool). with_numbers (highest_of (numbers_in (own ++ p ∷ [])))
      (highest_of (numbers_in (map without_high (own ++ p ∷ [])))) b) (high_is ∙ high_more)

-- ---- the streams

stream_more : (k : StreamKey) (packets : List Packet) (p : Packet) (b : Bool)
    → is_same k (key_of p) ≡ b
    → of_stream k (packets ++ p ∷ []) ≡ of_stream k packets ++ cond b (p ∷ []) []
stream_more k packets p b is =
    filter-append (λ q. is_same k (key_of q)) packets (p ∷ [])
    ∙ ap (λ (c : Bool). of_stream k packets ++ cond c (p ∷ []) []) is

high_same : (k : StreamKey) (packets : List Packet) (p : Packet)
    → is_same k (key_of p) ≡ true
    → any_high (of_stream k (packets ++ p ∷ []))
    ≡ (any_high (of_stream k packets) || is_high p.extended)
high_same k packets p is =
    ap any_high (stream_more k packets p true is) ∙ any_more (of_stream k packets) p

high_other : (k : StreamKey) (packets : List Packet) (p : Packet)
    → is_same k (key_of p) ≡ false
    → any_high (of_stream k (packets ++ p ∷ [])) ≡ any_high (of_stream k packets)
high_other k packets p isnt =
    ap any_high
    (stream_more k packets p false isnt ∙ append-nil (of_stream k packets))

-- where the packet says no high half
high_kept : (k : StreamKey) (packets : List Packet) (p : Packet) → is_high p.extended ≡ false
    → any_high (of_stream k packets) ≡ any_high (of_stream k (packets ++ p ∷ []))
high_kept k packets p isnt =
    ⊎_elim
    (λ here.
    sym
    (high_same k packets p here
    ∙ ap (λ (b : Bool). any_high (of_stream k packets) || b) isnt
    ∙ or-false (any_high (of_stream k packets))))
    (λ other. sym (high_other k packets p other))
    (cases_Bool (is_same k (key_of p)))

or_true : (b : Bool) → (b || true) ≡ true
or_true true = refl
or_true false = refl

-- where it says one
high_put : (old new : BTreeSet StreamKey) (k d : StreamKey) (packets : List Packet) (p : Packet)
    → d ≡ key_of p → is_high p.extended ≡ true
    → contains key_cmp old k ≡ any_high (of_stream k packets) → Updates key_cmp old new d true
    → contains key_cmp new k ≡ any_high (of_stream k (packets ++ p ∷ []))
high_put old new k d packets p is high was updates =
    ⊎_elim
    (λ here.
    let e : k ≡ d = stream_keys.one k d here in
    ap (contains key_cmp new) e ∙ updates.1
    ∙ sym
    (high_same k packets p (subst (λ (x : StreamKey). is_same k x ≡ true) is here)
    ∙ ap (λ (b : Bool). any_high (of_stream k packets) || b) high
    ∙ or_true (any_high (of_stream k packets))))
    (λ other.
    let apart : is_at (key_cmp d) k ≡ false =
    false_from_ne_true _
    (λ t.
    let e : d ≡ k = exact_streams d k (is_equal _ t) in
    both_ways (is_same k d) other
    (subst (λ (x : StreamKey). is_same x d ≡ true) e (stream_keys.itself d))) in
    updates.2 k apart ∙ was
    ∙ sym
    (high_other k packets p (subst (λ (x : StreamKey). is_same k x ≡ false) is other)))
    (cases_Bool (is_same k d))

module _ {A : Type 0} where
  -- tables behind one more packet
  pub streams_more : (old new : StreamTables A) (packets : List Packet) (p : Packet)
      → AreStreams old packets
      → ((ps : List Packet) → old.long ≡ streams_of ps → new.long ≡ streams_of (ps ++ p ∷ []))
      → ((ps : List Packet) → old.short ≡ streams_of ps
      → new.short ≡ streams_of (ps ++ without_high p ∷ []))
      → ((k : StreamKey) → contains key_cmp new.highs k
      ≡ any_high (of_stream k (packets ++ p ∷ []))) → AreStreams new (packets ++ p ∷ [])
  streams_more old new packets p are long short highs = record {
    long = long packets are.long;
    short =
        short (map without_high packets) are.short
        ∙ ap (λ (ps : List Packet). streams_of ps) (sym (without_more packets p));
    highs = highs;
  }

  pub streams_kept : (old new : StreamTables A) (packets : List Packet) (p : Packet)
      → AreStreams old packets
      → ((ps : List Packet) → old.long ≡ streams_of ps → new.long ≡ streams_of (ps ++ p ∷ []))
      → ((ps : List Packet) → old.short ≡ streams_of ps
      → new.short ≡ streams_of (ps ++ without_high p ∷ []))
      → is_high p.extended ≡ false → new.highs ≡ old.highs → AreStreams new (packets ++ p ∷ [])
  streams_kept old new packets p are long short isnt same =
      streams_more old new packets p are long short
      (λ k. ap (λ (s : BTreeSet StreamKey). contains key_cmp s k) same ∙ are.highs k
      ∙ high_kept k packets p isnt)

  pub streams_put : (old new : StreamTables A) (packets : List Packet) (p : Packet)
      (d : StreamKey) → AreStreams old packets
      → ((ps : List Packet) → old.long ≡ streams_of ps → new.long ≡ streams_of (ps ++ p ∷ []))
      → ((ps : List Packet) → old.short ≡ streams_of ps
      → new.short ≡ streams_of (ps ++ without_high p ∷ []))
      → is_high p.extended ≡ true → d ≡ key_of p → Updates key_cmp old.highs new.highs d true
      → AreStreams new (packets ++ p ∷ [])
  streams_put old new packets p d are long short high is updates =
      streams_more old new packets p are long short
      (λ k. high_put old.highs new.highs k d packets p is high (are.highs k) updates)

-- ---- what is told of a stream

keys_without : (packets : List Packet)
    → map key_of (map without_high packets) ≡ map key_of packets
keys_without [] = refl
keys_without (p ∷ packets) = ap (λ (ks : List StreamKey). key_of p ∷ ks) (keys_without packets)

cons_if : (b : Bool) (p : Packet) (own : List Packet)
    → cond b (without_high p ∷ map without_high own) (map without_high own)
    ≡ map without_high (cond b (p ∷ own) own)
cons_if true p own = refl
cons_if false p own = refl

own_without : (k : StreamKey) (packets : List Packet)
    → of_stream k (map without_high packets) ≡ map without_high (of_stream k packets)
own_without k [] = refl
own_without k (p ∷ packets) =
    ap (λ (own : List Packet). cond (is_same k (key_of p)) (without_high p ∷ own) own)
    (own_without k packets)
    ∙ cons_if (is_same k (key_of p)) p (of_stream k packets)

abbrev keys : List Packet → List StreamKey
keys packets = different is_same (map key_of packets)

module _ (A : Type 0) (packets : List Packet) where
  abbrev long_of : StreamKey → StreamCount A
  long_of k = stream_of k (of_stream k packets)

  abbrev short_of : StreamKey → StreamCount A
  short_of k = stream_of k (map without_high (of_stream k packets))

  abbrev told_of : StreamKey → StreamCount A
  told_of k = told_stream k (of_stream k packets)

  short_each : (ks : List StreamKey)
      → map (λ k. stream_of {A = A} k (of_stream k (map without_high packets))) ks
      ≡ map short_of ks
  short_each [] = refl
  short_each (k ∷ ks) =
      ap (λ (own : List Packet). stream_of {A = A} k own
      ∷ map (λ l. stream_of {A = A} l (of_stream l (map without_high packets))) ks)
      (own_without k packets)
      ∙ ap (λ (l : List (StreamCount A)). short_of k ∷ l) (short_each ks)

  shorts : streams_of {A = A} (map without_high packets) ≡ map short_of (keys packets)
  shorts =
      ap (λ (ks : List StreamKey).
      map (λ k. stream_of {A = A} k (of_stream k (map without_high packets)))
      (different is_same ks)) (keys_without packets)
      ∙ short_each (keys packets)

  told_high : (k : StreamKey) → any_high (of_stream k packets) ≡ true → long_of k ≡ told_of k
  told_high k is =
      ap (λ (b : Bool). stream_of {A = A} k (cond b (of_stream k packets)
      (map without_high (of_stream k packets)))) (sym is)

  told_low : (k : StreamKey) → any_high (of_stream k packets) ≡ false → short_of k ≡ told_of k
  told_low k isnt =
      ap (λ (b : Bool). stream_of {A = A} k (cond b (of_stream k packets)
      (map without_high (of_stream k packets)))) (sym isnt)

  pub told_length : length (told_streams {A = A} packets) ≡ length (streams_of {A = A} packets)
  told_length = length-map (keys packets) told_of ∙ sym (length-map (keys packets) long_of)

  -- a place of the tables
  pub place_told : (tables : StreamTables A) (longs : List (StreamCount A)) (place : ℕ)
      (long : StreamCount A) → AreStreams tables packets → longs ≡ tables.long
      → place < length longs → long ≡ get_or longs place long
      → (place < length (streams_of {A = A} packets))
      × (long ≡ get_or (streams_of packets) place long)
      × (place < length (told_streams {A = A} packets))
  place_told tables longs place long are same lt is =
      let all : longs ≡ streams_of packets = same ∙ are.long in
      let within : place < length (streams_of {A = A} packets) =
      subst (λ (l : List (StreamCount A)). place < length l) all lt in (
        within,
        subst (λ (l : List (StreamCount A)). long ≡ get_or l place long) all is,
        subst (λ (n : ℕ). place < n) (sym told_length) within,
      )

  -- and behind the last one
  pub end_told : (tables : StreamTables A) (longs : List (StreamCount A)) (place : ℕ)
      → AreStreams tables packets → longs ≡ tables.long → length longs ≤ place
      → length (told_streams {A = A} packets) ≤ place
  end_told tables longs place are same end =
      let n : length longs ≡ length (streams_of {A = A} packets) =
      ap (λ (l : List (StreamCount A)). length l) (same ∙ are.long) in
      subst (λ (m : ℕ). m ≤ place) (n ∙ sym told_length) end

  module _ (tables : StreamTables A) (are : AreStreams tables packets) (place : ℕ)
      (count : StreamCount A) (lt : place < length (streams_of {A = A} packets))
      (is : count ≡ get_or (streams_of packets) place count) where
    abbrev key : StreamKey
    key = get_or (keys packets) place count.key

    within : place < length (keys packets)
    within = subst (λ (n : ℕ). place < n) (length-map (keys packets) long_of) lt

    count_is : count ≡ long_of key
    count_is = is ∙ get_or-map long_of (keys packets) place count.key count within

    high_is : (b : Bool) → contains key_cmp tables.highs count.key ≡ b
        → any_high (of_stream key packets) ≡ b
    high_is b e =
        ap (λ (c : StreamCount A). any_high (of_stream c.key packets)) (sym count_is)
        ∙ sym (are.highs count.key) ∙ e

    told_is : get_or (told_streams packets) place count ≡ told_of key
    told_is = get_or-map told_of (keys packets) place count.key count within

    -- by 32 bits
    pub told_long : contains key_cmp tables.highs count.key ≡ true
        → count ≡ get_or (told_streams packets) place count
    told_long e = count_is ∙ told_high key (high_is true e) ∙ sym told_is

    short_at : (d : StreamCount A) → get_or tables.short place d ≡ short_of key
    short_at d =
        ap (λ (l : List (StreamCount A)). get_or l place d) (are.short ∙ shorts)
        ∙ get_or-map short_of (keys packets) place count.key d within

    -- by 16 bits
    pub told_short : (short : StreamCount A) → contains key_cmp tables.highs count.key ≡ false
        → short ≡ get_or tables.short place short
        → short ≡ get_or (told_streams packets) place count
    told_short short e found =
        found ∙ short_at short ∙ told_low key (high_is false e) ∙ sym told_is

    pub never_absent : length tables.short ≤ place → ⊥
    never_absent none =
        let n : length tables.short ≡ length (keys packets) =
        ap (λ (l : List (StreamCount A)). length l) (are.short ∙ shorts)
        ∙ length-map (keys packets) short_of in
        let lt_keys : place < length (keys packets) = within in
        omega arith
