-- The record that is found in a packet.
use Rattle.std.proofs.Common.{◌≡◌, ℕ, ◌+◌, ◌-◌, ◌≤◌, List, ◌++◌, Option, Some, refl, sym, ap, ◌∙◌, arith}
use Rattle.std.proofs.Common.{take, drop, length, append_assoc, length-append, length-drop, Result, Ok}
use Rattle.std.proofs.lemmas.List.{drop-drop, drop_at, length-take, take-append-drop, take_at}
use Rattle.flow.specs.Flow.{path_to}
use Rattle.flow.specs.declared.flows.Flows.{Flows}
use Rattle.media_file.specs.Records.{Entry}
use Rattle.pcap_file.specs.Link.{link_of}
use Rattle.pcap_file.specs.PacketDatagram.{walk_of}
use Rattle.pcap_file.specs.Runs.{packet_seen}
use Rattle.pcap_file.specs.Udp.{Datagram}
use Rattle.pcap_file.specs.declared.datagram.NoDatagram.{NoDatagram}
use Rattle.pcap_file.specs.declared.recording.Packet.{Packet}
use Rattle.st_format.specs.declared.path.Path.{Path}
use Rattle.recording_reader.specs.Found.{StandAt}
use Rattle.recording_reader.specs.Records.{entry_by, entry_of, moment_of, omission_by, omission_of}
use Rattle.recording_reader.specs.Records.{other_by, record_of}

abbrev pub some_path : Path → Option Path
some_path path = Some path

abbrev pub some_entry : Path → ℕ → List ℕ → Option Entry
some_entry path moment octets =
    Some (record { path = path; moment = moment; octets = octets })

-- the octets of a packet, as a part of a buffer
abbrev pub part_of : Packet → List ℕ → List ℕ
part_of p buffer =
    take (p.place + p.head.captured - p.place) (drop p.place buffer)

part_is : (at n : ℕ) (xs : List ℕ) → take n (drop at xs) ≡ take (at + n - at) (drop at xs)
part_is at n xs =
    let same : n ≡ at + n - at = omega arith in ap (λ (k : ℕ). take k (drop at xs)) same

pub record_by : (flows : Flows) (p : Packet) (buffer : List ℕ) (d : Result Datagram NoDatagram)
    → walk_of (link_of p.head.link) (part_of p buffer) ≡ d
    → record_of flows (packet_seen p buffer)
    ≡ entry_of flows p.head.interface (moment_of p.head.time) d
record_by flows p buffer d read =
    ap
    (λ (o : List ℕ). entry_of flows p.head.interface (moment_of p.head.time)
    (walk_of (link_of p.head.link) o)) (part_is p.place p.head.captured buffer)
    ∙ ap
    (λ (r : Result Datagram NoDatagram). entry_of flows p.head.interface (moment_of p.head.time) r)
    read

pub record_to : (flows : Flows) (p : Packet) (buffer : List ℕ) (d : Datagram) (path : Option Path)
    → walk_of (link_of p.head.link) (part_of p buffer) ≡ Ok d
    → path ≡ path_to flows p.head.interface d.source d.destination d.destination_port
    → record_of flows (packet_seen p buffer) ≡ entry_by path (moment_of p.head.time) d.payload
record_to flows p buffer d path read is =
    record_by flows p buffer (Ok d) read
    ∙ ap (λ (o : Option Path). entry_by o (moment_of p.head.time) d.payload) (sym is)

-- why there is none
pub omission_at : (flows : Flows) (p : Packet) (buffer : List ℕ) (d : Result Datagram NoDatagram)
    → walk_of (link_of p.head.link) (part_of p buffer) ≡ d
    → omission_of flows (packet_seen p buffer) ≡ omission_by flows p.head.interface d
omission_at flows p buffer d read =
    ap (λ (o : List ℕ). omission_by flows p.head.interface (walk_of (link_of p.head.link) o))
    (part_is p.place p.head.captured buffer)
    ∙ ap (omission_by flows p.head.interface) read

pub omission_to : (flows : Flows) (p : Packet) (buffer : List ℕ) (d : Datagram) (path : Option Path)
    → walk_of (link_of p.head.link) (part_of p buffer) ≡ Ok d
    → path ≡ path_to flows p.head.interface d.source d.destination d.destination_port
    → omission_of flows (packet_seen p buffer) ≡ other_by path
omission_to flows p buffer d path read is =
    omission_at flows p buffer (Ok d) read ∙ ap other_by (sym is)

-- octets that stand in a part of a buffer, where they stand in it
pub placed_in : (at n place : ℕ) (part octets buffer : List ℕ) → part ≡ take n (drop at buffer)
    → StandAt place octets part → take (length octets) (drop (at + place) buffer) ≡ octets
placed_in at n place part octets buffer is stands =
    let rest : List ℕ = drop n (drop at buffer) in
    let behind : List ℕ = (octets ++ stands.behind) ++ rest in
    let whole : drop at buffer ≡ stands.front ++ behind =
    sym (take-append-drop n (drop at buffer))
    ∙ ap (λ (x : List ℕ). x ++ rest) (sym is ∙ stands.whole)
    ∙ append_assoc stands.front (octets ++ stands.behind) rest in
    let there : drop (at + place) buffer ≡ octets ++ (stands.behind ++ rest) =
    sym (drop-drop place at buffer) ∙ ap (λ (x : List ℕ). drop place x) whole
    ∙ drop_at stands.front behind place stands.counted
    ∙ append_assoc octets stands.behind rest in
    ap (λ (x : List ℕ). take (length octets) x) there
    ∙ take_at octets (stands.behind ++ rest) (length octets) refl

pub placed_within : (at n place : ℕ) (part octets buffer : List ℕ)
    → part ≡ take n (drop at buffer) → at ≤ length buffer → StandAt place octets part
    → at + place + length octets ≤ length buffer
placed_within at n place part octets buffer is inside stands =
    omega (
      arith,
      ap (λ (x : List ℕ). length x) is,
      length-take n (drop at buffer),
      length-drop at buffer,
      inside,
      ap (λ (x : List ℕ). length x) stands.whole,
      length-append stands.front (octets ++ stands.behind),
      length-append octets stands.behind,
      stands.counted,
    )

-- what is found in it
pub found_is : (flows : Flows) (p : Packet) (buffer : List ℕ) (d : Datagram) (path : Path)
    (moment place start stop : ℕ) → walk_of (link_of p.head.link) (part_of p buffer) ≡ Ok d
    → some_path path ≡ path_to flows p.head.interface d.source d.destination d.destination_port
    → moment ≡ moment_of p.head.time → StandAt place d.payload (part_of p buffer)
    → start ≡ p.place + place → stop ≡ start + length d.payload
    → some_entry path moment (take (stop - start) (drop start buffer))
    ≡ record_of flows (packet_seen p buffer)
found_is flows p buffer d path moment place start stop read is at stands starts ends =
    let n = p.place + p.head.captured - p.place in
    let count : stop - start ≡ length d.payload = omega (arith, ends) in
    let there : take (stop - start) (drop start buffer) ≡ d.payload =
    ap (λ (k : ℕ). take k (drop start buffer)) count
    ∙ ap (λ (k : ℕ). take (length d.payload) (drop k buffer)) starts
    ∙ placed_in p.place n place (part_of p buffer) d.payload buffer refl stands in
    ap (λ (o : List ℕ). some_entry path moment o) there
    ∙ ap (λ (m : ℕ). some_entry path m d.payload) at
    ∙ sym (record_to flows p buffer d (some_path path) read is)
