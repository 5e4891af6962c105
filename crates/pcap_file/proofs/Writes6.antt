-- What is written of a datagram of IPv6 is read as it.
use Rattle.std.proofs.Common.{◌≡◌, ℕ, ◌+◌, ◌*◌, ◌/◌, ◌%◌, ◌^◌, ◌<◌, ◌≤◌, inl}
use Rattle.std.proofs.Common.{List, [], ◌∷◌, ◌++◌, length, take, slice_index, Option, Some}
use Rattle.std.proofs.Common.{append-nil, append_assoc, refl, sym, ap, ◌∙◌, arith, Bool, true}
use Rattle.std.proofs.Common.{false, cond}
use Rattle.std.specs.Int.{w32, from_be_bytes, to_be_bytes}
use Rattle.std.proofs.lemmas.List.{length-append, take_all, take_at, drop_at}
use Rattle.std.proofs.lemmas.Nat.{from_be_bytes-to_be_bytes_2, from_be_bytes-to_be_bytes_4}
use Rattle.pcap_file.specs.declared.link.IpVersion.TheVariants.{V6}
use Rattle.pcap_file.specs.declared.link.Link.TheVariants.{Ethernet}
use Rattle.pcap_file.specs.declared.writing6.Envelope6.{Envelope6}
use Rattle.pcap_file.specs.Link.{IsLinked}
use Rattle.pcap_file.specs.Ip.{IsPacket6, Packet, payload_octets}
use Rattle.pcap_file.specs.Udp.{IsUdp, udp_octets}
use Rattle.pcap_file.specs.Datagram.{IsDatagram}
use Rattle.pcap_file.specs.PcapReading.{IsRecord}
use Rattle.pcap_file.specs.Writing.{datagram_of, record_text, written_file}
use Rattle.pcap_file.specs.Writing6.{EnvelopeFits6, datagram6_text, ends_of, ethernet6_of}
use Rattle.pcap_file.specs.Writing6.{ethernet6_text, frame6_text, ip6_text, is_group6, recorded6_of}
use Rattle.pcap_file.specs.Writing6.{udp6_text}

six : (address : List ℕ) (b : Bool)
    → length (cond b
    (0x33 ∷ 0x33 ∷ slice_index address 12 ∷ slice_index address 13 ∷ slice_index address 14
    ∷ slice_index address 15 ∷ []) (0 ∷ 0 ∷ 0 ∷ 0 ∷ 0 ∷ 0 ∷ [])) ≡ 6
six address true = refl
six address false = refl

module _ (e : Envelope6) (fits : EnvelopeFits6 e) (payload : List ℕ)
    (few : length payload ≤ 65527) where
  abbrev count : ℕ
  count = 8 + length payload

  abbrev ip : List ℕ
  ip = ip6_text e count

  abbrev udp_head : List ℕ
  udp_head = udp6_text e payload

  abbrev packet : List ℕ
  packet = ip ++ (udp_head ++ payload)

  abbrev to : List ℕ
  to = ethernet6_of e.destination

  to_octets : length to ≡ 6
  to_octets = six e.destination (is_group6 e.destination)

  abbrev carried : Packet
  carried =
      record {
        source = e.source;
        destination = e.destination;
        carried = udp_head ++ payload;
      }

  linked : IsLinked Ethernet (frame6_text e payload) V6 packet
  linked =
      record {
        front = to ++ (0 ∷ 0 ∷ 0 ∷ 0 ∷ 0 ∷ 0 ∷ []);
        typed = 0x86 ∷ 0xdd ∷ packet;
        begins = record {
          counted = omega (arith, length-append to (0 ∷ 0 ∷ 0 ∷ 0 ∷ 0 ∷ 0 ∷ []), to_octets);
          parts =
              append_assoc to (0 ∷ 0 ∷ 0 ∷ 0 ∷ 0 ∷ 0 ∷ 0x86 ∷ 0xdd ∷ []) packet
              ∙ sym (append_assoc to (0 ∷ 0 ∷ 0 ∷ 0 ∷ 0 ∷ 0 ∷ []) (0x86 ∷ 0xdd ∷ packet));
        };
        is = inl (record {
          type = 0x86 ∷ 0xdd ∷ [];
          begins = record { counted = refl; parts = refl };
          known = refl;
        });
      }

  ip_octets : length ip ≡ 40
  ip_octets =
      omega (arith, length-append e.source e.destination, fits.source, fits.destination)

  total_is : payload_octets ip ≡ count
  total_is = from_be_bytes-to_be_bytes_2 count (omega arith)

  udp_octets_is : length (udp_head ++ payload) ≡ count
  udp_octets_is = length-append udp_head payload

  is_packet : IsPacket6 packet carried
  is_packet =
      record {
        header = ip;
        payload = udp_head ++ payload;
        behind = [];
        counted = ip_octets;
        version = refl;
        total = udp_octets_is ∙ sym total_is;
        leads = record { extensions = []; linked = refl; parts = refl };
        source = sym (take_at e.source e.destination 16 fits.source);
        destination =
            sym (ap (take 16) (drop_at e.source e.destination 16 fits.source)
            ∙ take_all 16 e.destination (omega (arith, fits.destination)));
        whole = ap (λ (x : List ℕ). ip ++ x) (sym (append-nil (udp_head ++ payload)));
      }

  count_is : udp_octets udp_head ≡ count
  count_is = from_be_bytes-to_be_bytes_2 count (omega arith)

  is_udp : IsUdp carried (datagram_of (ends_of e) payload)
  is_udp =
      record {
        header = udp_head;
        behind = [];
        counted = refl;
        total = sym count_is;
        source = refl;
        destination = refl;
        source_port = sym (from_be_bytes-to_be_bytes_2 e.source_port fits.source_port);
        destination_port =
            sym (from_be_bytes-to_be_bytes_2 e.destination_port fits.destination_port);
        whole = ap (λ (x : List ℕ). udp_head ++ x) (sym (append-nil payload));
      }

  pub is_datagram6 : IsDatagram Ethernet (frame6_text e payload) (datagram_of (ends_of e) payload)
  is_datagram6 =
      record {
        packet = carried;
        has = record { version = V6; packet = packet; linked = linked; is = is_packet };
        is = is_udp;
      }

  frame_octets : length (frame6_text e payload) ≡ 62 + length payload
  frame_octets =
      omega (
        arith,
        length-append (ethernet6_text e) packet,
        length-append to (0 ∷ 0 ∷ 0 ∷ 0 ∷ 0 ∷ 0 ∷ 0x86 ∷ 0xdd ∷ []),
        to_octets,
        length-append ip (udp_head ++ payload),
        ip_octets,
        udp_octets_is,
      )

  pub is_record6 : (time : ℕ) → time < 2 ^ 32 * 1000000000
      → IsRecord written_file (datagram6_text e time payload) (recorded6_of e time payload)
  is_record6 time small =
      let seconds : from_be_bytes w32 (to_be_bytes w32 (time / 1000000000)) ≡ time / 1000000000 =
      from_be_bytes-to_be_bytes_4 (time / 1000000000) (omega arith) in
      let fraction : from_be_bytes w32 (to_be_bytes w32 (time % 1000000000)) ≡ time % 1000000000 =
      from_be_bytes-to_be_bytes_4 (time % 1000000000) (omega arith) in
      let size : from_be_bytes w32 (to_be_bytes w32 (62 + length payload)) ≡ 62 + length payload =
      from_be_bytes-to_be_bytes_4 (62 + length payload) (omega arith) in
      let all : time ≡ time / 1000000000 * 1000000000 + time % 1000000000 * 1 = omega arith in
      record {
        front = record_text time (62 + length payload);
        front_octets = refl;
        is = record {
          time =
              ap (λ (n : ℕ). let o : Option ℕ = Some n in o)
              (all
              ∙ ap (λ (n : ℕ). n * 1000000000 + time % 1000000000 * 1) (sym seconds)
              ∙ ap
              (λ (n : ℕ). from_be_bytes w32 (to_be_bytes w32 (time / 1000000000)) * 1000000000
              + n * 1) (sym fraction));
          link = refl;
          captured = sym size;
          original = sym size;
          unnamed = refl;
        };
        counted = frame_octets;
        whole = refl;
      }
