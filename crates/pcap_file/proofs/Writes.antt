-- What is written of a datagram is read as it.
use Rattle.std.proofs.Common.{◌≡◌, ℕ, ◌+◌, ◌*◌, ◌/◌, ◌%◌, ◌^◌, ◌<◌, ◌≤◌, inl}
use Rattle.std.proofs.Common.{List, [], ◌∷◌, ◌++◌, length, take, slice_index, Option, Some}
use Rattle.std.proofs.Common.{append-nil, append_assoc, refl, sym, ap, ◌∙◌, arith, Bool, true}
use Rattle.std.proofs.Common.{false, cond}
use Rattle.std.specs.Int.{w32, from_be_bytes, to_be_bytes}
use Rattle.std.proofs.lemmas.List.{length-append, take_all, take_at, drop_at}
use Rattle.std.proofs.lemmas.Nat.{from_be_bytes-to_be_bytes_2, from_be_bytes-to_be_bytes_4}
use Rattle.pcap_file.specs.declared.link.IpVersion.TheVariants.{V4}
use Rattle.pcap_file.specs.declared.link.Link.TheVariants.{Ethernet}
use Rattle.pcap_file.specs.declared.writing.Envelope.{Envelope}
use Rattle.pcap_file.specs.Link.{IsLinked}
use Rattle.pcap_file.specs.Ip.{IsPacket4, Packet, total_octets}
use Rattle.pcap_file.specs.Udp.{IsUdp, udp_octets}
use Rattle.pcap_file.specs.Datagram.{IsDatagram}
use Rattle.pcap_file.specs.PcapReading.{IsRecord}
use Rattle.pcap_file.specs.Writing.{EnvelopeFits, datagram_of, datagram_text}
use Rattle.pcap_file.specs.Writing.{ethernet_of, ethernet_text, frame_text, ip_checksum, ip_text}
use Rattle.pcap_file.specs.Writing.{is_group}
use Rattle.pcap_file.specs.Writing.{record_text, recorded_of, udp_checksum}
use Rattle.pcap_file.specs.Writing.{udp_text, written_file}

six : (address : List ℕ) (b : Bool)
    → length (cond b
    (1 ∷ 0 ∷ 0x5e ∷ (slice_index address 1 % 128) ∷ slice_index address 2 ∷ slice_index address 3
    ∷ []) (0 ∷ 0 ∷ 0 ∷ 0 ∷ 0 ∷ 0 ∷ [])) ≡ 6
six address true = refl
six address false = refl

module _ (e : Envelope) (fits : EnvelopeFits e) (payload : List ℕ) (few : length payload ≤ 65507)
  where
    abbrev total : ℕ
    total = 28 + length payload

    abbrev count : ℕ
    count = 8 + length payload

    abbrev ip : List ℕ
    ip = ip_text e total (ip_checksum e total)

    abbrev udp_head : List ℕ
    udp_head = udp_text e count (udp_checksum e payload)

    abbrev packet : List ℕ
    packet = ip ++ (udp_head ++ payload)

    abbrev to : List ℕ
    to = ethernet_of e.destination

    to_octets : length to ≡ 6
    to_octets = six e.destination (is_group e.destination)

    abbrev carried : Packet
    carried =
        record {
          source = e.source;
          destination = e.destination;
          carried = udp_head ++ payload;
        }

    linked : IsLinked Ethernet (frame_text e payload) V4 packet
    linked =
        record {
          front = to ++ (0 ∷ 0 ∷ 0 ∷ 0 ∷ 0 ∷ 0 ∷ []);
          typed = 8 ∷ 0 ∷ packet;
          begins = record {
            counted = omega (arith, length-append to (0 ∷ 0 ∷ 0 ∷ 0 ∷ 0 ∷ 0 ∷ []), to_octets);
            parts =
                append_assoc to (0 ∷ 0 ∷ 0 ∷ 0 ∷ 0 ∷ 0 ∷ 8 ∷ 0 ∷ []) packet
                ∙ sym (append_assoc to (0 ∷ 0 ∷ 0 ∷ 0 ∷ 0 ∷ 0 ∷ []) (8 ∷ 0 ∷ packet));
          };
          is = inl (record {
            type = 8 ∷ 0 ∷ [];
            begins = record { counted = refl; parts = refl };
            known = refl;
          });
        }

    ip_octets : length ip ≡ 20
    ip_octets =
        omega (arith, length-append e.source e.destination, fits.source, fits.destination)

    total_is : total_octets ip ≡ total
    total_is = from_be_bytes-to_be_bytes_2 total (omega arith)

    udp_octets_is : length (udp_head ++ payload) ≡ count
    udp_octets_is = length-append udp_head payload

    is_packet : IsPacket4 packet carried
    is_packet =
        record {
          header = ip;
          options = [];
          behind = [];
          counted = ip_octets;
          is_header = record {
            version = refl;
            fixed = omega arith;
            inside = omega (arith, total_is);
          };
          words = omega (arith, ip_octets);
          total = omega (arith, ip_octets, total_is, udp_octets_is);
          protocol = refl;
          unfragmented = refl;
          source = sym (take_at e.source e.destination 4 fits.source);
          destination =
              sym (ap (take 4) (drop_at e.source e.destination 4 fits.source)
              ∙ take_all 4 e.destination (omega (arith, fits.destination)));
          whole = ap (λ (x : List ℕ). ip ++ x) (sym (append-nil (udp_head ++ payload)));
        }

    count_is : udp_octets udp_head ≡ count
    count_is = from_be_bytes-to_be_bytes_2 count (omega arith)

    is_udp : IsUdp carried (datagram_of e payload)
    is_udp =
        record {
          header = udp_head;
          behind = [];
          counted = refl;
          total = sym count_is;
          source = refl;
          destination = refl;
          source_port = sym (from_be_bytes-to_be_bytes_2 e.source_port fits.source_port);
          destination_port =
              sym (from_be_bytes-to_be_bytes_2 e.destination_port fits.destination_port);
          whole = ap (λ (x : List ℕ). udp_head ++ x) (sym (append-nil payload));
        }

    pub is_datagram : IsDatagram Ethernet (frame_text e payload) (datagram_of e payload)
    is_datagram =
        record {
          packet = carried;
          has = record { version = V4; packet = packet; linked = linked; is = is_packet };
          is = is_udp;
        }

    frame_octets : length (frame_text e payload) ≡ 42 + length payload
    frame_octets =
        omega (
          arith,
          length-append (ethernet_text e) packet,
          length-append to (0 ∷ 0 ∷ 0 ∷ 0 ∷ 0 ∷ 0 ∷ 8 ∷ 0 ∷ []),
          to_octets,
          length-append ip (udp_head ++ payload),
          ip_octets,
          udp_octets_is,
        )

    pub is_record : (time : ℕ) → time < 2 ^ 32 * 1000000000
        → IsRecord written_file (datagram_text e time payload) (recorded_of e time payload)
    is_record time small =
        let seconds : from_be_bytes w32 (to_be_bytes w32 (time / 1000000000)) ≡ time / 1000000000 =
        from_be_bytes-to_be_bytes_4 (time / 1000000000) (omega arith) in
        let fraction : from_be_bytes w32 (to_be_bytes w32 (time % 1000000000)) ≡ time % 1000000000 =
        from_be_bytes-to_be_bytes_4 (time % 1000000000) (omega arith) in
        let size : from_be_bytes w32 (to_be_bytes w32 (42 + length payload)) ≡ 42 + length payload =
        from_be_bytes-to_be_bytes_4 (42 + length payload) (omega arith) in
        let all : time ≡ time / 1000000000 * 1000000000 + time % 1000000000 * 1 = omega arith in
        record {
          front = record_text time (42 + length payload);
          front_octets = refl;
          is = record {
            time =
                ap (λ (n : ℕ). let o : Option ℕ = Some n in o)
                (all
                ∙ ap (λ (n : ℕ). n * 1000000000 + time % 1000000000 * 1) (sym seconds)
                ∙ ap
                (λ (n : ℕ). from_be_bytes w32 (to_be_bytes w32 (time / 1000000000)) * 1000000000
                + n * 1) (sym fraction));
            link = refl;
            captured = sym size;
            original = sym size;
            unnamed = refl;
          };
          counted = frame_octets;
          whole = refl;
        }
