-- Keys of streams, of timestamps and of flows.
use Rattle.std.proofs.Common.{◌≡◌, ◌∙◌, ℕ, ◌+◌, List, [], ◌∷◌, map, Option, Some, cond, option_map, true, ap, refl, sym}
use Rattle.std.proofs.lemmas.Bool.{and_from, and_parts, eq-eqb, eqb-true}
use Rattle.std.proofs.lemmas.Map.Lookups.{CmpEqualImpliesEq, exact_bytes, exact_pairs, exact_unsigned}
use Rattle.std.proofs.lemmas.Slice.Eq.{bytes_eq-Decides}
use Rattle.std.specs.Cmp.Lexicographic.{slice_cmp}
use Rattle.std.specs.Ordering.{nat_cmp}
use Rattle.arrayvec.specs.ArrayVec.{ArrayVec}
use Rattle.recording_counts.specs.FlowPlaces.{FlowKey, flow_key_cmp, flow_key_of, is_same_key}
use Rattle.recording_counts.specs.Flows.{is_same_flow}
use Rattle.recording_counts.specs.Tables.{first_index}
use Rattle.recording_counts.specs.declared.flow_count.FlowCount.{FlowCount}
use Rattle.std.specs.declared.net.socket_addr.SocketAddr.{SocketAddr}
use Rattle.recording_counts.specs.declared.packet.StreamKey.{StreamKey}
use Rattle.recording_counts.specs.declared.packet.TimestampKey.{TimestampKey}
use Rattle.recording_counts.specs.Streams.{is_same, key_cmp}
use Rattle.recording_counts.specs.Timestamps.{is_same_timestamp, timestamp_cmp}
use Rattle.recording_counts.proofs.Tables.{AreKeys, Parts, coded_parts, parts_of}

abbrev stream_key : ℕ → ℕ → StreamKey
stream_key t s = record { payload_type = t; ssrc = s }

abbrev timestamp_key : StreamKey → ℕ → TimestampKey
timestamp_key k t = record { stream = k; timestamp = t }

one_stream : (k l : StreamKey) → is_same k l ≡ true → k ≡ l
one_stream k l e =
    let both = and_parts _ _ e in
    ap (λ (x : ℕ). stream_key x k.ssrc) (eqb-true k.payload_type l.payload_type both.0)
    ∙ ap (λ (x : ℕ). stream_key l.payload_type x) (eqb-true k.ssrc l.ssrc both.1)

same_stream : (k : StreamKey) → is_same k k ≡ true
same_stream k =
    and_from _ _ (eq-eqb k.payload_type k.payload_type refl) (eq-eqb k.ssrc k.ssrc refl)

pub stream_keys : AreKeys is_same
stream_keys = record { one = one_stream; itself = same_stream }

pub stream_parts : Parts is_same
stream_parts = parts_of is_same stream_keys

pub exact_streams : CmpEqualImpliesEq key_cmp
exact_streams k l h =
    ap (λ (p : ℕ × ℕ). stream_key p.0 p.1)
    (exact_pairs nat_cmp nat_cmp exact_unsigned exact_unsigned (k.payload_type, k.ssrc)
    (l.payload_type, l.ssrc) h)

one_timestamp : (k l : TimestampKey) → is_same_timestamp k l ≡ true → k ≡ l
one_timestamp k l e =
    let both = and_parts (is_same k.stream l.stream) _ e in
    ap (λ (x : StreamKey). timestamp_key x k.timestamp) (one_stream k.stream l.stream both.0)
    ∙ ap (λ (x : ℕ). timestamp_key l.stream x) (eqb-true k.timestamp l.timestamp both.1)

same_timestamp : (k : TimestampKey) → is_same_timestamp k k ≡ true
same_timestamp k =
    and_from (is_same k.stream k.stream) _ (same_stream k.stream)
    (eq-eqb k.timestamp k.timestamp refl)

pub timestamp_keys : AreKeys is_same_timestamp
timestamp_keys = record { one = one_timestamp; itself = same_timestamp }

pub timestamp_parts : Parts is_same_timestamp
timestamp_parts = parts_of is_same_timestamp timestamp_keys

pub exact_timestamps : CmpEqualImpliesEq timestamp_cmp
exact_timestamps k l h =
    ap (λ (p : StreamKey × ℕ). timestamp_key p.0 p.1)
    (exact_pairs key_cmp nat_cmp exact_streams exact_unsigned (k.stream, k.timestamp)
    (l.stream, l.timestamp) h)

-- ---- flows

exact_octets : CmpEqualImpliesEq (λ (v w : ArrayVec ℕ). slice_cmp nat_cmp v.items w.items)
exact_octets v w e =
    ap (λ (xs : List ℕ). record { items = xs }) (exact_bytes v.items w.items e)

pub exact_flows : CmpEqualImpliesEq flow_key_cmp
exact_flows =
    exact_pairs nat_cmp (λ (v w : ArrayVec ℕ). slice_cmp nat_cmp v.items w.items) exact_unsigned
    exact_octets

pair_is : (k : FlowKey) (p : ℕ) (o : List ℕ) → k.0 ≡ p → k.1.items ≡ o
    → ◌≡◌ {A = FlowKey} k (p, record { items = o })
pair_is k p o e f = ap (λ (x : ℕ). (x, k.1)) e ∙ ap (λ (x : List ℕ). (p, record { items = x })) f

one_flow : (k l : FlowKey) → is_same_key k l ≡ true → k ≡ l
one_flow k l e =
    let both = and_parts _ _ e in
    pair_is k l.0 l.1.items (eqb-true k.0 l.0 both.0)
    ((bytes_eq-Decides k.1.items l.1.items).0 both.1)

same_flow : (k : FlowKey) → is_same_key k k ≡ true
same_flow k =
    and_from _ _ (eq-eqb k.0 k.0 refl) ((bytes_eq-Decides k.1.items k.1.items).1 refl)

pub flow_keys : AreKeys is_same_key
flow_keys = record { one = one_flow; itself = same_flow }

pub flow_parts : Parts is_same_flow
flow_parts = coded_parts is_same_key flow_key_of (parts_of is_same_key flow_keys)

-- a flow's place among counts is that of its key
pub flow_place : (k : FlowKey) (d : SocketAddr) (counts : List FlowCount) → k ≡ flow_key_of d
    → first_index is_same_flow d (map (λ c. c.destination) counts)
    ≡ first_index is_same_key k (map (λ c. flow_key_of c.destination) counts)
flow_place k d [] e = refl
flow_place k d (c ∷ counts) e =
    ap (λ (o : Option ℕ). cond (is_same_flow d c.destination) (Some 0) (option_map (λ j. j + 1) o))
    (flow_place k d counts e)
    ∙ ap (λ (x : FlowKey). cond (is_same_key x (flow_key_of c.destination)) (Some 0)
    (option_map (λ j. j + 1)
    (first_index is_same_key k (map (λ y. flow_key_of y.destination) counts)))) (sym e)
