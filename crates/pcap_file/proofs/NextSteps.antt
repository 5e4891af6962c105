-- The next block of a recording is read as what it is.
use Rattle.std.proofs.Common.{◌≡◌, ℕ, ◌≤◌, inl, inr, Bool, cond, List, [], ◌∷◌}
use Rattle.std.proofs.Common.{◌++◌, length, take, drop, Option, None, Some, Result, Ok, Err, sym}
use Rattle.std.proofs.Common.{ap}
use Rattle.std.proofs.Common.{◌∙◌, subst}
use Rattle.std.proofs.lemmas.Bool.{lt-ltb}
use Rattle.st_format.specs.Device.{AreOctets}
use Rattle.st_format.specs.Reading.{◌>>=◌}
use Rattle.pcap_file.specs.declared.blocks.Interface.{Interface}
use Rattle.pcap_file.specs.declared.fault.RecordingFault.{RecordingFault}
use Rattle.pcap_file.specs.declared.fault.RecordingFault.TheVariants.{TooManyInterfaces}
use Rattle.pcap_file.specs.declared.pcap.PacketHead.{PacketHead}
use Rattle.pcap_file.specs.Blocks.{IsBlock, long_number, short_number}
use Rattle.pcap_file.specs.NgSteps.{Known, Stepped, body_read, enter_of, entered, fresh}
use Rattle.pcap_file.specs.NgSteps.{most_interfaces, step_at, with_interface, with_packet}
use Rattle.pcap_file.specs.PcapReading.{Recorded}
use Rattle.pcap_file.specs.Recording.{Describes, Does, HasEnhanced, HasObsolete, HasSimple, IsNext}
use Rattle.pcap_file.specs.Recording.{recorded}
use Rattle.pcap_file.proofs.BlockSteps.{block_again}
use Rattle.pcap_file.proofs.Packets.{simple_again, simple_octets, stamped_again, stamped_octets}
use Rattle.pcap_file.proofs.InterfaceRelation.{interface_again}
use Rattle.pcap_file.proofs.SectionSteps.{section_step_again}

abbrev Found : Type 0
Found = Result (Known × Stepped) RecordingFault

abbrev found : Known → Option Recorded → Found
found k s = Ok (k, Some s)

same_found : (k l : Known) (s t : Option Recorded) → k ≡ l → s ≡ t → found k s ≡ found l t
same_found k l s t p q =
    ap (λ (x : Known). found x s) p ∙ ap (λ (x : Option Recorded). found l x) q

with_octets : (p : PacketHead) (a b : List ℕ) → a ≡ b → recorded p a ≡ recorded p b
with_octets p a b e = ap (λ (x : List ℕ). recorded p x) e

describes : (k after : Known) (body : List ℕ) (s : Option Recorded) → Describes k body after s
    → enter_of k 1 body ≡ found after s
unfolding enter_of
describes k after body s d =
    ap (λ (r : Result Interface RecordingFault). r >>= λ i. with_interface k i)
    (interface_again k.order body d.interface d.is)
    ∙ ap (λ (b : Bool). cond b
    (found (record { order = k.order; interfaces = k.interfaces ++ d.interface ∷ [] }) None)
    (let r : Found = Err TooManyInterfaces in r)) (lt-ltb (length k.interfaces) most_interfaces
    d.room)
    ∙ same_found (record { order = k.order; interfaces = k.interfaces ++ d.interface ∷ [] }) after
    None s (sym d.after_is) (sym d.none)

has_simple : (k after : Known) (body : List ℕ) (s : Option Recorded) → HasSimple k body after s
    → enter_of k 3 body ≡ found after s
unfolding enter_of
has_simple k after body s d =
    ap (λ (r : Result PacketHead RecordingFault). r >>= λ p. with_packet k 4 body p)
    (simple_again k.order k.interfaces body d.head d.octets d.is)
    ∙ same_found k after (recorded d.head (take d.head.captured (drop 4 body))) s (sym d.after_is)
    (with_octets d.head (take d.head.captured (drop 4 body)) d.octets
    (sym (simple_octets k.order k.interfaces body d.head d.octets d.is)) ∙ sym d.packet)

has_enhanced : (k after : Known) (body : List ℕ) (s : Option Recorded)
    → HasEnhanced k body after s → enter_of k 6 body ≡ found after s
unfolding enter_of
has_enhanced k after body s d =
    ap (λ (r : Result PacketHead RecordingFault). r >>= λ p. with_packet k 20 body p)
    (stamped_again (long_number k.order) k.order k.interfaces body d.head d.octets d.is)
    ∙ same_found k after (recorded d.head (take d.head.captured (drop 20 body))) s (sym d.after_is)
    (with_octets d.head (take d.head.captured (drop 20 body)) d.octets
    (sym (stamped_octets (long_number k.order) k.order k.interfaces body d.head d.octets d.is)) ∙
    sym d.packet)

has_obsolete : (k after : Known) (body : List ℕ) (s : Option Recorded)
    → HasObsolete k body after s → enter_of k 2 body ≡ found after s
unfolding enter_of
has_obsolete k after body s d =
    ap (λ (r : Result PacketHead RecordingFault). r >>= λ p. with_packet k 20 body p)
    (stamped_again (short_number k.order) k.order k.interfaces body d.head d.octets d.is)
    ∙ same_found k after (recorded d.head (take d.head.captured (drop 20 body))) s (sym d.after_is)
    (with_octets d.head (take d.head.captured (drop 20 body)) d.octets
    (sym (stamped_octets (short_number k.order) k.order k.interfaces body d.head d.octets d.is))
    ∙ sym d.packet)

does_again : (k after : Known) (type : ℕ) (body : List ℕ) (s : Option Recorded)
    → Does k type body after s → entered k type (body_read type body) ≡ found after s
does_again k after type body s (inl d) =
    subst (λ (t : ℕ). entered k t (body_read t body) ≡ found after s) (sym d.0)
    (describes k after body s d.1)
does_again k after type body s (inr (inl d)) =
    subst (λ (t : ℕ). entered k t (body_read t body) ≡ found after s) (sym d.0)
    (has_obsolete k after body s d.1)
does_again k after type body s (inr (inr (inl d))) =
    subst (λ (t : ℕ). entered k t (body_read t body) ≡ found after s) (sym d.0)
    (has_simple k after body s d.1)
does_again k after type body s (inr (inr (inr (inl d)))) =
    subst (λ (t : ℕ). entered k t (body_read t body) ≡ found after s) (sym d.0)
    (has_enhanced k after body s d.1)
does_again k after type body s (inr (inr (inr (inr d)))) =
    ap (λ (b : Bool). entered k type (cond b (let r : Option (List ℕ) = Some body in r) None)) d.0
    ∙ same_found k after None s (sym d.1) (sym d.2)

pub next_again : (room : ℕ) (k after : Known) (octets rest : List ℕ) (s : Option Recorded)
    → AreOctets octets
    → ((type : ℕ) (body : List ℕ) → IsBlock k.order octets type body rest → length body ≤ room)
    → IsNext k octets after s rest → step_at room k octets ≡ Ok ((after, Some s), rest)
next_again room k after octets rest s fit fits (inl b) =
    section_step_again room k octets rest b.order fit b.is
    ∙ ap (λ (r : Found). r >>= λ x.
    (let q : Result ((Known × Stepped) × List ℕ) RecordingFault = Ok (x, rest) in q))
    (same_found (fresh b.order) after None s (sym b.after_is) (sym b.none))
next_again room k after octets rest s fit fits (inr b) =
    block_again room k octets b.body rest b.type (after, Some s) b.is b.other
    (λ _. fits b.type b.body b.is) (does_again k after b.type b.body s b.does)
