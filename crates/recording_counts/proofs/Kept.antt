-- The streams of a flow, where one more packet comes.
use Rattle.std.proofs.Common.{◌≡◌, ◌≢◌, ℕ, zero, suc, ◌+◌, ◌-◌, ◌^◌, ◌<◌, ◌≤◌, Bool, true, false, cond}
use Rattle.std.proofs.Common.{◌==◌, min, nat_lt, List, [], ◌∷◌, ◌++◌, length, map, take, fold, Option}
use Rattle.std.proofs.Common.{Some, None, option_map, get_or, slice_set, if◌then◌else◌}
use Rattle.std.proofs.Common.{refl, ap, sym, ◌∙◌, arith, subst, ⊎_elim}
use Rattle.std.proofs.lemmas.Bool.{cases_Bool, eqb-true, eqb-false, le-ltb, lt-ltb}
use Rattle.std.proofs.lemmas.List.{get_or_default, length-append, length-take, map-append}
use Rattle.std.proofs.lemmas.List.{take-append-le, take-set-le, take_all, length-set}
use Rattle.std.proofs.lemmas.List.Sums.{fold-append}
use Rattle.std.proofs.Math.Seq.{take-set-lt}
use Rattle.arrayvec.specs.ArrayVec.{ArrayVec}
use Rattle.rtp_header.specs.Grammar.{Rtp}
use Rattle.st_format.specs.Device.{capped}
use Rattle.recording_counts.specs.Streams.{is_same}
use Rattle.recording_counts.specs.Tables.{first_index}
use Rattle.recording_counts.specs.declared.packet.StreamKey.{StreamKey}
use Rattle.recording_counts.proofs.Keys.{stream_parts}
use Rattle.recording_counts.proofs.Tables.{below, note_new, note_there}
use Rattle.recording_counts.specs.FlowStreams.{all_streams, earlier, stream_key_of, later, rtp_key, stream_by}
use Rattle.recording_counts.specs.FlowStreams.{rtp_stream_of, rtp_streams_of}
use Rattle.recording_counts.specs.declared.rtp_stream.RtpStream.{RtpStream}
use Rattle.recording_counts.specs.declared.rtp_streams.Streams.{Streams}
use Rattle.std.specs.List.{position_from}

pub capped_more : (n : ℕ) → min (capped n + 1) (2 ^ 64 - 1) ≡ capped (n + 1)
capped_more n = omega arith

-- ---- one stream

abbrev built : StreamKey → ℕ → ℕ → ℕ → RtpStream
built k d f l =
    record { payload_type = k.payload_type; ssrc = k.ssrc; datagrams = d; first = f; last = l }

pub step_first : (key : StreamKey) (ts : List ℕ) (t : ℕ) (old : RtpStream)
    → old ≡ stream_by key ts → old.datagrams ≡ 0
    → stream_by (stream_key_of old) (t ∷ []) ≡ stream_by key (ts ++ t ∷ [])
step_first key [] t old e z = ap (λ (s : RtpStream). stream_by (stream_key_of s) (t ∷ [])) e
step_first key (u ∷ ts) t old e z =
    let n : capped (suc (length ts)) ≡ 0 = sym (ap (λ (s : RtpStream). s.datagrams) e) ∙ z in
    absurd (omega arith)

pub step_more : (key : StreamKey) (ts : List ℕ) (t : ℕ) (old : RtpStream) (d f l : ℕ)
    → old ≡ stream_by key ts → old.datagrams ≢ 0 → d ≡ min (old.datagrams + 1) (2 ^ 64 - 1)
    → f ≡ earlier old.first t → l ≡ later old.last t
    → built (stream_key_of old) d f l ≡ stream_by key (ts ++ t ∷ [])
step_more key [] t old d f l e n p q r = absurd (n (ap (λ (s : RtpStream). s.datagrams) e))
step_more key (u ∷ ts) t old d f l e n p q r =
    let all : List ℕ = u ∷ ts in
    let d_is : d ≡ capped (length (all ++ t ∷ [])) =
    p ∙ ap (λ (s : RtpStream). min (s.datagrams + 1) (2 ^ 64 - 1)) e ∙ capped_more (length all)
    ∙ ap capped (sym (length-append all (t ∷ []))) in
    let f_is : f ≡ fold earlier u (ts ++ t ∷ []) =
    q ∙ ap (λ (s : RtpStream). earlier s.first t) e ∙ sym (fold-append earlier u ts (t ∷ [])) in
    let l_is : l ≡ fold later u (ts ++ t ∷ []) =
    r ∙ ap (λ (s : RtpStream). later s.last t) e ∙ sym (fold-append later u ts (t ∷ [])) in
    ap (λ (s : RtpStream). built (stream_key_of s) d f l) e
    ∙ ap (λ (x : ℕ). built key x f l) d_is
    ∙ ap (λ (x : ℕ). built key (capped (length (all ++ t ∷ []))) x l) f_is
    ∙ ap (λ (x : ℕ). built key (capped (length (all ++ t ∷ []))) (fold earlier u (ts ++ t ∷ [])) x) l_is

-- what is counted of a stream where one more packet comes, by what was counted
abbrev step : RtpStream → ℕ → RtpStream
step old t =
    if old.datagrams == 0
    then stream_by (stream_key_of old) (t ∷ [])
    else built (stream_key_of old) (min (old.datagrams + 1) (2 ^ 64 - 1)) (earlier old.first t) (later old.last t)

step_goes : (old : RtpStream) (t : ℕ) (key : StreamKey) (ts : List ℕ) → old ≡ stream_by key ts
    → step old t ≡ stream_by key (ts ++ t ∷ [])
step_goes old t key ts e =
    let next : RtpStream =
    built (stream_key_of old) (min (old.datagrams + 1) (2 ^ 64 - 1)) (earlier old.first t) (later old.last t) in
    ⊎_elim
    (λ is.
    ap (λ (b : Bool). cond b (stream_by (stream_key_of old) (t ∷ [])) next) is
    ∙ step_first key ts t old e (eqb-true old.datagrams 0 is))
    (λ not.
    ap (λ (b : Bool). cond b (stream_by (stream_key_of old) (t ∷ [])) next) not
    ∙ step_more key ts t old (min (old.datagrams + 1) (2 ^ 64 - 1)) (earlier old.first t)
    (later old.last t) e (eqb-false old.datagrams 0 not) refl refl refl)
    (cases_Bool (old.datagrams == 0))

-- the same of packets
pub goes : (old next : RtpStream) (r : Rtp)
    → ((k : StreamKey) (ts : List ℕ) → old ≡ stream_by k ts
    → next ≡ stream_by k (ts ++ r.timestamp ∷ []))
    → (k : StreamKey) (own : List Rtp) → old ≡ rtp_stream_of k own
    → next ≡ rtp_stream_of k (own ++ r ∷ [])
goes old next r on k own e =
    on k (map (λ (x : Rtp). x.timestamp) own) e
    ∙ ap (stream_by k) (sym (map-append (λ (x : Rtp). x.timestamp) own (r ∷ [])))

-- ---- places among the first of a list

abbrev pub place : StreamKey → List RtpStream → Option ℕ
place k cs = first_index is_same k (map stream_key_of cs)

-- a place among the first n is the place in the whole list
pub place_in : (k : StreamKey) (n : ℕ) (cs : List RtpStream) (i : ℕ)
    → place k (take n cs) ≡ Some i → (i < n) × (place k cs ≡ Some i)
place_in k zero cs i e = absurd (cc)
place_in k (suc n) [] i e = absurd (cc)
place_in k (suc n) (c ∷ cs) i e =
    by (is_same k (stream_key_of c)) (place k (take n cs)) refl e (λ j f. place_in k n cs j f)
  where
    by : (b : Bool) (o : Option ℕ) → place k (take n cs) ≡ o
        → cond b (Some 0) (option_map (λ j. j + 1) o) ≡ Some i
        → ((j : ℕ) → place k (take n cs) ≡ Some j → (j < n) × (place k cs ≡ Some j))
        → (i < suc n) × (cond b (Some 0) (option_map (λ j. j + 1) (place k cs)) ≡ Some i)
    by true o f e more = let z : 0 ≡ i = cc in (omega arith, e)
    by false None f e more = absurd (cc)
    by false (Some j) f e more =
        let m = more j f in
        let z : j + 1 ≡ i = cc in
        let lt : j < n = m.0 in
        (omega arith, ap (option_map (λ x. x + 1)) m.1 ∙ e)

-- where a key has no place among the first n, it has one behind them or none
pub place_behind : (k : StreamKey) (n : ℕ) (cs : List RtpStream) (i : ℕ)
    → place k (take n cs) ≡ None → place k cs ≡ Some i → n ≤ i
place_behind k zero cs i e f = omega arith
place_behind k (suc n) [] i e f = absurd (cc)
place_behind k (suc n) (c ∷ cs) i e f =
    by (is_same k (stream_key_of c)) (place k (take n cs)) (place k cs) refl refl e f
    (λ j s t. place_behind k n cs j s t)
  where
    by : (b : Bool) (o p : Option ℕ) → place k (take n cs) ≡ o → place k cs ≡ p
        → cond b (Some 0) (option_map (λ j. j + 1) o) ≡ None
        → cond b (Some 0) (option_map (λ j. j + 1) p) ≡ Some i
        → ((j : ℕ) → place k (take n cs) ≡ None → place k cs ≡ Some j → n ≤ j) → suc n ≤ i
    by true o p s t e f more = absurd (cc)
    by false (Some j) p s t e f more = absurd (cc)
    by false None None s t e f more = absurd (cc)
    by false None (Some j) s t e f more =
        let z : j + 1 ≡ i = cc in
        let m : n ≤ j = more j s t in
        omega arith

-- a search along streams finds the place
pub found : (k : StreamKey) (i : ℕ) (cs : List RtpStream)
    → position_from (λ (s : RtpStream). is_same k (stream_key_of s)) i cs
    ≡ option_map (λ j. j + i) (place k cs)
found k i [] = refl
found k i (c ∷ cs) = by (is_same k (stream_key_of c)) (place k cs) (found k (i + 1) cs)
  where
    by : (b : Bool) (o : Option ℕ)
        → position_from (λ (s : RtpStream). is_same k (stream_key_of s)) (i + 1) cs
        ≡ option_map (λ j. j + (i + 1)) o
        → cond b (Some i) (position_from (λ (s : RtpStream). is_same k (stream_key_of s)) (i + 1) cs)
        ≡ option_map (λ j. j + i) (cond b (Some 0) (option_map (λ j. j + 1) o))
    by true o e = ap (λ (x : ℕ). Some x) (let z : i ≡ 0 + i = omega arith in z)
    by false None e = e
    by false (Some j) e =
        e ∙ ap (λ (x : ℕ). Some x) (let z : j + (i + 1) ≡ j + 1 + i = omega arith in z)

pub found_at : (k : StreamKey) (cs : List RtpStream)
    → position_from (λ (s : RtpStream). is_same k (stream_key_of s)) 0 cs ≡ place k cs
found_at k cs = found k 0 cs ∙ plain (place k cs)
  where
    plain : (o : Option ℕ) → option_map (λ j. j + 0) o ≡ o
    plain None = refl
    plain (Some j) = ap (λ (x : ℕ). Some x) (let z : j + 0 ≡ j = omega arith in z)

-- ---- the streams that are kept

abbrev kept : List RtpStream → Streams
kept cs = record { kept = record { items = take 16 cs }; others = nat_lt 16 (length cs) }

abbrev record_of : ArrayVec RtpStream → Bool → Streams
record_of streams others = record { kept = streams; others = others }

abbrev listed : List RtpStream → ArrayVec RtpStream
listed cs = record { items = cs }

abbrev items_of : Streams → List RtpStream
items_of s = s.kept.items

-- one of the first n of a list is the same in the whole list
get_take : (n : ℕ) (xs : List RtpStream) (j : ℕ) (d : RtpStream) → j < n
    → get_or (take n xs) j d ≡ get_or xs j d
get_take zero xs j d h = absurd (omega arith)
get_take (suc n) [] j d h = refl
get_take (suc n) (x ∷ xs) zero d h = refl
get_take (suc n) (x ∷ xs) (suc j) d h = get_take n xs j d (omega (arith, h))

-- one of those that are kept goes on
pub kept_on : (said : List Rtp) (s : Streams) (r : Rtp) (i : ℕ) (old next : RtpStream)
    (now : ArrayVec RtpStream) → s ≡ rtp_streams_of said
    → place (rtp_key r) s.kept.items ≡ Some i → old ≡ get_or s.kept.items i old
    → now.items ≡ slice_set s.kept.items i next
    → ((k : StreamKey) (ts : List ℕ) → old ≡ stream_by k ts
    → next ≡ stream_by k (ts ++ r.timestamp ∷ []))
    → record_of now s.others ≡ rtp_streams_of (said ++ r ∷ [])
kept_on said s r i old next now e found at is on =
    let cs : List RtpStream = all_streams said in
    let items : s.kept.items ≡ take 16 cs = ap items_of e in
    let there = place_in (rtp_key r) 16 cs i (ap (place (rtp_key r)) (sym items) ∙ found) in
    let same : get_or (take 16 cs) i old ≡ get_or cs i old = get_take 16 cs i old there.0 in
    let more : slice_set cs i next ≡ all_streams (said ++ r ∷ []) =
    note_there is_same stream_parts rtp_key rtp_stream_of stream_key_of (λ d rs. refl) said r cs i old next
    (rtp_key r) refl refl there.1
    (at ∙ ap (λ (x : List RtpStream). get_or x i old) items ∙ same)
    (goes old next r on) in
    ap (λ (x : List RtpStream). record_of (listed x) s.others)
    (is ∙ ap (λ (x : List RtpStream). slice_set x i next) items ∙ sym (take-set-lt 16 cs i next there.0))
    ∙ ap (λ (b : Bool). record_of (listed (take 16 (slice_set cs i next))) b)
    (ap (λ (x : Streams). x.others) e ∙ ap (nat_lt 16) (sym (length-set cs i next)))
    ∙ ap kept more

-- the same, by what it was where it stood
pub kept_at : (said : List Rtp) (s : Streams) (r : Rtp) (i : ℕ) (xs : List RtpStream)
    (d next : RtpStream) (now : ArrayVec RtpStream) → s ≡ rtp_streams_of said
    → place (rtp_key r) s.kept.items ≡ Some i → xs ≡ s.kept.items
    → now.items ≡ slice_set xs i next
    → ((k : StreamKey) (ts : List ℕ) → get_or xs i d ≡ stream_by k ts
    → next ≡ stream_by k (ts ++ r.timestamp ∷ []))
    → record_of now s.others ≡ rtp_streams_of (said ++ r ∷ [])
kept_at said s r i xs d next now e found same is on =
    let items : List RtpStream = s.kept.items in
    let old : RtpStream = get_or xs i d in
    let lt : i < length items =
    below is_same stream_key_of items (rtp_key r) i found in
    kept_on said s r i old next now e found
    (ap (λ (x : List RtpStream). get_or x i d) same ∙ get_or_default items i d old lt)
    (is ∙ ap (λ (x : List RtpStream). slice_set x i next) same) on

-- one comes that isn't among the sixteen that are kept
pub kept_full : (said : List Rtp) (s : Streams) (r : Rtp) → s ≡ rtp_streams_of said
    → place (rtp_key r) s.kept.items ≡ None → length s.kept.items ≡ 16
    → record_of s.kept true ≡ rtp_streams_of (said ++ r ∷ [])
kept_full said s r e none l =
    let cs : List RtpStream = all_streams said in
    let items : s.kept.items ≡ take 16 cs = ap items_of e in
    let full : length (take 16 cs) ≡ 16 = ap length (sym items) ∙ l in
    let many : 16 ≤ length cs = omega (arith, length-take 16 cs, full) in
    let absent : place (rtp_key r) (take 16 cs) ≡ None =
    ap (place (rtp_key r)) (sym items) ∙ none in
    by many items absent (place (rtp_key r) cs) refl
  where
    grown : (cs all : List RtpStream) → s.kept.items ≡ take 16 cs → take 16 all ≡ take 16 cs
        → 16 < length all → record_of s.kept true ≡ kept all
    grown cs all items same more =
        ap (λ (x : List RtpStream). record_of (listed x) true) (items ∙ sym same)
        ∙ ap (λ (b : Bool). record_of (listed (take 16 all)) b) (sym (lt-ltb 16 (length all) more))

    by : 16 ≤ length (all_streams said)
        → s.kept.items ≡ take 16 (all_streams said)
        → place (rtp_key r) (take 16 (all_streams said)) ≡ None → (o : Option ℕ)
        → place (rtp_key r) (all_streams said) ≡ o
        → record_of s.kept true ≡ rtp_streams_of (said ++ r ∷ [])
    by many items absent None p =
        let c : RtpStream = rtp_stream_of (rtp_key r) (r ∷ []) in
        let all : List RtpStream = all_streams said in
        let more : all ++ c ∷ [] ≡ all_streams (said ++ r ∷ []) =
        note_new is_same stream_parts rtp_key rtp_stream_of stream_key_of (λ d rs. refl) said r all
        (all ++ c ∷ []) (rtp_key r) refl refl p refl in
        grown all (all ++ c ∷ []) items (take-append-le 16 all (c ∷ []) many)
        (omega (arith, length-append all (c ∷ []), many))
        ∙ ap kept more
    by many items absent (Some i) p =
        let all : List RtpStream = all_streams said in
        let far : 16 ≤ i = place_behind (rtp_key r) 16 all i absent p in
        let lt : i < length all =
        below is_same stream_key_of all (rtp_key r) i p in
        let none_yet : RtpStream = stream_by (rtp_key r) [] in
        let old : RtpStream = get_or all i none_yet in
        let next : RtpStream = step old r.timestamp in
        let more : slice_set all i next ≡ all_streams (said ++ r ∷ []) =
        note_there is_same stream_parts rtp_key rtp_stream_of stream_key_of (λ d rs. refl) said r all i old
        next (rtp_key r) refl refl p (get_or_default all i none_yet old lt)
        (goes old next r (step_goes old r.timestamp)) in
        grown all (slice_set all i next) items (take-set-le 16 all i next far)
        (omega (arith, length-set all i next, far, lt))
        ∙ ap kept more

-- one comes that is new, and there is room
pub kept_room : (said : List Rtp) (s : Streams) (r : Rtp) (now : ArrayVec RtpStream)
    → s ≡ rtp_streams_of said → place (rtp_key r) s.kept.items ≡ None
    → length s.kept.items < 16
    → now.items ≡ s.kept.items ++ rtp_stream_of (rtp_key r) (r ∷ []) ∷ []
    → record_of now s.others ≡ rtp_streams_of (said ++ r ∷ [])
kept_room said s r now e none l n =
    let cs : List RtpStream = all_streams said in
    let c : RtpStream = rtp_stream_of (rtp_key r) (r ∷ []) in
    let items : s.kept.items ≡ take 16 cs = ap items_of e in
    let few : length (take 16 cs) < 16 = subst (λ (k : ℕ). k < 16) (ap length items) l in
    let h : length cs < 16 = omega (arith, length-take 16 cs, few) in
    let all : take 16 cs ≡ cs = take_all 16 cs (omega (arith, h)) in
    let absent : place (rtp_key r) cs ≡ None =
    ap (place (rtp_key r)) (sym (items ∙ all)) ∙ none in
    let more : cs ++ c ∷ [] ≡ all_streams (said ++ r ∷ []) =
    note_new is_same stream_parts rtp_key rtp_stream_of stream_key_of (λ d rs. refl) said r cs
    (cs ++ c ∷ []) (rtp_key r) refl refl absent refl in
    let len : length (cs ++ c ∷ []) ≡ length cs + 1 = length-append cs (c ∷ []) in
    let again : take 16 (cs ++ c ∷ []) ≡ cs ++ c ∷ [] =
    take_all 16 (cs ++ c ∷ []) (omega (arith, h, len)) in
    let others : s.others ≡ nat_lt 16 (length (cs ++ c ∷ [])) =
    ap (λ (x : Streams). x.others) e ∙ le-ltb 16 (length cs) (omega (arith, h))
    ∙ sym (le-ltb 16 (length (cs ++ c ∷ [])) (omega (arith, h, len))) in
    ap (λ (x : List RtpStream). record_of (listed x) s.others)
    (n ∙ ap (λ (x : List RtpStream). x ++ c ∷ []) (items ∙ all) ∙ sym again)
    ∙ ap (λ (b : Bool). record_of (listed (take 16 (cs ++ c ∷ []))) b) others
    ∙ ap kept more
