-- What the body of a block does, by its type: a packet by what was read of it.
use Rattle.std.proofs.Common.{◌≡◌, ℕ, ◌+◌, ◌≤◌, List, Some, None, Result, Ok, Err, refl, sym, ap}
use Rattle.std.proofs.Common.{◌∙◌, subst}
use Rattle.std.specs.Prelude.{IfErr, IfOk}
use Rattle.std.proofs.lemmas.Bool.{ne_eqb}
use Rattle.st_format.specs.Reading.{◌>>=◌}
use Rattle.pcap_file.specs.declared.blocks.Interface.{Interface}
use Rattle.pcap_file.specs.declared.fault.RecordingFault.{RecordingFault}
use Rattle.pcap_file.specs.declared.pcap.PacketHead.{PacketHead}
use Rattle.pcap_file.specs.declared.section.Step.{Step}
use Rattle.pcap_file.specs.BlockReading.{enhanced_of, obsolete_of, simple_of}
use Rattle.pcap_file.specs.Fields.{IsContent}
use Rattle.pcap_file.specs.NgSteps.{GoesOn, IsPacketWithin, Known, Stepped, describe_of, enter_of}
use Rattle.pcap_file.specs.NgSteps.{packet_step, step_seen, with_packet}

abbrev Read : Type 0
Read = Result PacketHead RecordingFault

abbrev Found : Type 0
Found = Result (Known × Stepped) RecordingFault

abbrev put : Known → ℕ → List ℕ → Read → Found
put k at body x = x >>= λ p. with_packet k at body p

-- ---- by the type

pub of_interface : (k : Known) (type : ℕ) (body : List ℕ) → type ≡ 1
    → enter_of k type body ≡ describe_of k body
unfolding enter_of
of_interface k type body t = ap (λ (n : ℕ). enter_of k n body) t

pub of_obsolete : (k : Known) (type : ℕ) (body : List ℕ) (known : List Interface) (x : Read)
    → type ≡ 2 → known ≡ k.interfaces → x ≡ obsolete_of k.order known body
    → enter_of k type body ≡ put k 20 body x
unfolding enter_of
of_obsolete k type body known x t i e =
    ap (λ (n : ℕ). enter_of k n body) t
    ∙ ap (λ (y : List Interface). put k 20 body (obsolete_of k.order y body)) (sym i)
    ∙ ap (λ (y : Read). put k 20 body y) (sym e)

pub of_simple : (k : Known) (type : ℕ) (body : List ℕ) (known : List Interface) (x : Read)
    → type ≡ 3 → known ≡ k.interfaces → x ≡ simple_of k.order known body
    → enter_of k type body ≡ put k 4 body x
unfolding enter_of
of_simple k type body known x t i e =
    ap (λ (n : ℕ). enter_of k n body) t
    ∙ ap (λ (y : List Interface). put k 4 body (simple_of k.order y body)) (sym i)
    ∙ ap (λ (y : Read). put k 4 body y) (sym e)

pub of_enhanced : (k : Known) (type : ℕ) (body : List ℕ) (known : List Interface) (x : Read)
    → type ≡ 6 → known ≡ k.interfaces → x ≡ enhanced_of k.order known body
    → enter_of k type body ≡ put k 20 body x
unfolding enter_of
of_enhanced k type body known x t i e =
    ap (λ (n : ℕ). enter_of k n body) t
    ∙ ap (λ (y : List Interface). put k 20 body (enhanced_of k.order y body)) (sym i)
    ∙ ap (λ (y : Read). put k 20 body y) (sym e)

pub of_other : (k : Known) (type : ℕ) (body : List ℕ) → (type ≡ 1 → ⊥) → (type ≡ 2 → ⊥)
    → (type ≡ 3 → ⊥) → (type ≡ 6 → ⊥) → enter_of k type body ≡ Ok (k, Some None)
unfolding enter_of
of_other k type body a b c d =
    rw (ne_eqb type 1 a, ne_eqb type 2 b, ne_eqb type 3 c, ne_eqb type 6 d) refl

-- ---- a packet

pub packet_ok : (k : Known) (at : ℕ) (body : List ℕ) (x : Read) (r : Result Step RecordingFault)
    (found : Found) → r ≡ packet_step x at → found ≡ put k at body x
    → IfOk r (λ s. found ≡ Ok (k, step_seen s body))
packet_ok k at body (Ok p) r found e is =
    subst (λ (q : Result Step RecordingFault). IfOk q (λ s. found ≡ Ok (k, step_seen s body)))
    (sym e) is
packet_ok k at body (Err f) r found e is =
    subst (λ (q : Result Step RecordingFault). IfOk q (λ s. found ≡ Ok (k, step_seen s body)))
    (sym e) tt

pub packet_fault : (k : Known) (at : ℕ) (body : List ℕ) (x : Read)
    (r : Result Step RecordingFault) (found : Found) → r ≡ packet_step x at
    → found ≡ put k at body x → IfErr r (λ f. found ≡ Err f)
packet_fault k at body (Ok p) r found e is =
    subst (λ (q : Result Step RecordingFault). IfErr q (λ f. found ≡ Err f)) (sym e) tt
packet_fault k at body (Err f) r found e is =
    subst (λ (q : Result Step RecordingFault). IfErr q (λ g. found ≡ Err g)) (sym e) is

pub packet_within : (at room : ℕ) (x : Read) (r : Result Step RecordingFault)
    → r ≡ packet_step x at → IfOk x (λ p. at + p.captured ≤ room)
    → IfOk r (λ s. IsPacketWithin s room)
packet_within at room (Ok p) r e is =
    subst (λ (q : Result Step RecordingFault). IfOk q (λ s. IsPacketWithin s room)) (sym e) is
packet_within at room (Err f) r e is =
    subst (λ (q : Result Step RecordingFault). IfOk q (λ s. IsPacketWithin s room)) (sym e) tt

pub packet_goes_on : (at : ℕ) (x : Read) (r : Result Step RecordingFault) → r ≡ packet_step x at
    → IfOk r (λ s. GoesOn s)
packet_goes_on at (Ok p) r e =
    subst (λ (q : Result Step RecordingFault). IfOk q (λ s. GoesOn s)) (sym e) tt
packet_goes_on at (Err f) r e =
    subst (λ (q : Result Step RecordingFault). IfOk q (λ s. GoesOn s)) (sym e) tt

pub packet_named : (at : ℕ) (x : Read) (r : Result Step RecordingFault) → r ≡ packet_step x at
    → IfErr x IsContent → IfErr r IsContent
packet_named at (Ok p) r e is =
    subst (λ (q : Result Step RecordingFault). IfErr q IsContent) (sym e) tt
packet_named at (Err f) r e is =
    subst (λ (q : Result Step RecordingFault). IfErr q IsContent) (sym e) is
