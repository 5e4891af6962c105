-- The sections of a text that is written: each has the line of the parameters, and names its leg.
use Rattle.std.proofs.Common.{◌≡◌, ℕ, ◌<◌, ◌≤◌, ◌^◌, false, List, [], ◌∷◌, ◌++◌}
use Rattle.std.proofs.Common.{get_or, refl, ap, ◌∙◌, sym, subst, arith, codes, decimal}
use Rattle.std.proofs.Common.{append_assoc, Option, Some, None, inl, inr}
use Rattle.std.specs.Prelude.{◌==◌, ◌≢◌, IfSome}
use Rattle.std.proofs.lemmas.Bool.Decides.{nat_tests}
use Rattle.std.specs.List.{AllZip}
use Rattle.std.specs.Option.{option_or}
use Rattle.std.proofs.lemmas.List.{append-nil}
use Rattle.std.proofs.lemmas.List.Elements.{All-nil, All-cons}
use Rattle.std.specs.declared.net.ip_addr.IpAddr.{IpAddr}
use Rattle.std.specs.declared.net.ip_addr.IpAddr.TheVariants.{V4, V6}
use Rattle.flow.specs.declared.flows.Flow.{Flow}
use Rattle.sdp_writing.specs.Written.{IsTold}
use Rattle.sdp_format.specs.Back.{HasLine}
use Rattle.sdp_format.specs.Bytes.{begins_with, trimmed}
use Rattle.sdp_format.specs.Destinations.{AreFlows, IsAddressOf, IsFlowOf, IsSourceOf, SectionsFlows}
use Rattle.sdp_format.specs.Destinations.{first_connection}
use Rattle.sdp_format.specs.Grammar.{HasNone, IsAttribute, IsMediaLine}
use Rattle.sdp_format.specs.Sections.{Section, section_lines, video_sections}
use Rattle.sdp_format.proofs.Again.{number_decimal}
use Rattle.sdp_format.proofs.Sources.{BeginOther, begin_other_both, none_first}
use Rattle.sdp_writing.specs.Written.{connection_line, connection_lines, leg_lines, map_line}
use Rattle.sdp_writing.specs.Written.{media_line, ports, sdp_lines, session_lines, told, told_legs}
use Rattle.sdp_writing.proofs.Connections.{IsAddress, connection_named}

-- ---- octets that differ

unequal : (m n : ℕ) → (m == n) ≡ false → m ≢ n
unequal m n e = λ same. grind (arith, nat_tests)

-- ---- lines that begin no section

abbrev pub IsOther : List ℕ → Type 0
IsOther line =
    (begins_with (codes "m=") line ≡ false) × (begins_with (codes "m=video ") line ≡ false)

abbrev pub AreOther : List (List ℕ) → Type 0
AreOther [] = Unit {0}
AreOther (l ∷ ls) = IsOther l × AreOther ls

section_lines-others : (ls more : List (List ℕ)) → AreOther ls
    → section_lines (ls ++ more) ≡ ls ++ section_lines more
section_lines-others [] more h = refl
section_lines-others (l ∷ ls) more h =
    rw h.0.0 (ap (λ z. l ∷ z) (section_lines-others ls more h.1))

video_sections-others : (ls more : List (List ℕ)) → AreOther ls
    → video_sections (ls ++ more) ≡ video_sections more
video_sections-others [] more h = refl
video_sections-others (l ∷ ls) more h = rw h.0.1 (video_sections-others ls more h.1)

-- ---- the section of a leg, with a line of parameters

module _ (payload_type : ℕ) (rest : List ℕ) where
  abbrev parameters : List ℕ
  parameters = codes "a=fmtp:" ++ rest

  abbrev named_lines : List ℕ → List (List ℕ)
  named_lines name = map_line payload_type ∷ parameters ∷ (codes "a=mid:" ++ name) ∷ []

  -- a section, and what stands behind it up to the next one
  abbrev section_of : Flow → List ℕ → List (List ℕ) → Section
  section_of leg name behind = record {
    media = media_line payload_type leg.port;
    lines = (connection_lines leg.address ++ named_lines name) ++ behind;
  }

  are_other : (address : Option IpAddr) (name : List ℕ)
      → AreOther (connection_lines address ++ named_lines name)
  are_other None name = ((refl, refl), ((refl, refl), ((refl, refl), tt)))
  are_other (Some (V4 a)) name =
      ((refl, refl), ((refl, refl), ((refl, refl), ((refl, refl), tt))))
  are_other (Some (V6 a)) name =
      ((refl, refl), ((refl, refl), ((refl, refl), ((refl, refl), tt))))

  leg_section : (leg : Flow) (name : List ℕ) (more : List (List ℕ))
      → video_sections (leg_lines payload_type parameters leg name ++ more)
      ≡ section_of leg name (section_lines more) ∷ video_sections more
  leg_section leg name more =
      let others = are_other leg.address name in
      let behind = connection_lines leg.address ++ named_lines name in
      ap (λ (ls : List (List ℕ)).
      record { media = media_line payload_type leg.port; lines = ls }
      ∷ video_sections (behind ++ more)) (section_lines-others behind more others)
      ∙ ap (λ (ss : List Section). section_of leg name (section_lines more) ∷ ss)
      (video_sections-others behind more others)

  -- ---- what the section says

  is_media : (leg : Flow) → payload_type ≤ 127 → leg.port < 2 ^ 16
      → IsMediaLine (media_line payload_type leg.port) leg.port payload_type
  is_media leg few small = record {
    port_text = decimal leg.port;
    type_text = decimal payload_type;
    spaces = [];
    whole = sym (append-nil (media_line payload_type leg.port));
    is_port = number_decimal leg.port (omega arith);
    most_port = omega arith;
    is_type = number_decimal payload_type (omega arith);
    most_type = few;
    blank = refl;
  }

  -- a line of an address is no attribute, and that of the payload type none of parameters
  abbrev IsNone : List ℕ → List ℕ → Type 0
  IsNone word line = (text : List ℕ) → IsAttribute line word payload_type text → ⊥

  connection_none : (address : Option IpAddr)
      → HasNone (connection_lines address) (codes "a=rtpmap:") payload_type
  connection_none None = All-nil (IsNone (codes "a=rtpmap:"))
  connection_none (Some a) =
      All-cons (IsNone (codes "a=rtpmap:")) (connection_line a) [] (no_map a)
      (All-nil (IsNone (codes "a=rtpmap:")))
    where
      no_map : (a : IpAddr) → IsNone (codes "a=rtpmap:") (connection_line a)
      no_map (V4 a) text h =
          let e : 99 ≡ 97 = ap (λ (l : List ℕ). get_or l 0 0) h.whole in omega (arith, e)
      no_map (V6 a) text h =
          let e : 99 ≡ 97 = ap (λ (l : List ℕ). get_or l 0 0) h.whole in omega (arith, e)

  map_no_parameters : IsNone (codes "a=fmtp:") (map_line payload_type)
  map_no_parameters text h =
      let e : 114 ≡ 102 = ap (λ (l : List ℕ). get_or l 2 0) h.whole in omega (arith, e)

  map_none : HasNone (map_line payload_type ∷ []) (codes "a=fmtp:") payload_type
  map_none =
      All-cons (IsNone (codes "a=fmtp:")) (map_line payload_type) [] map_no_parameters
      (All-nil (IsNone (codes "a=fmtp:")))

  before_none : (address : Option IpAddr)
      → HasNone (connection_lines address ++ map_line payload_type ∷ []) (codes "a=fmtp:")
      payload_type
  before_none None = map_none
  before_none (Some a) =
      All-cons (IsNone (codes "a=fmtp:")) (connection_line a) (map_line payload_type ∷ [])
      (no_parameters a) map_none
    where
      no_parameters : (a : IpAddr) → IsNone (codes "a=fmtp:") (connection_line a)
      no_parameters (V4 a) text h =
          let e : 99 ≡ 97 = ap (λ (l : List ℕ). get_or l 0 0) h.whole in omega (arith, e)
      no_parameters (V6 a) text h =
          let e : 99 ≡ 97 = ap (λ (l : List ℕ). get_or l 0 0) h.whole in omega (arith, e)

  has_line : (leg : Flow) (name : List ℕ) (behind : List (List ℕ)) → payload_type ≤ 127
      → leg.port < 2 ^ 16 → HasLine (section_of leg name behind) parameters payload_type leg.port
  unfolding trimmed
  has_line leg name behind few small =
      let before = connection_lines leg.address in
      record {
        media = is_media leg few small;
        map = codes "raw/90000";
        rtpmap =
            record {
              before = connection_lines leg.address;
              line = map_line payload_type;
              after = parameters ∷ (codes "a=mid:" ++ name) ∷ behind;
              whole = append_assoc before (named_lines name) behind;
              none = connection_none leg.address;
              first =
                  record {
                    digits = decimal payload_type;
                    whole = refl;
                    is_type = number_decimal payload_type (omega arith);
                  };
            };
        raw = refl;
        before = connection_lines leg.address ++ map_line payload_type ∷ [];
        after = (codes "a=mid:" ++ name) ∷ behind;
        whole =
            append_assoc before (named_lines name) behind
            ∙ sym (append_assoc before (map_line payload_type ∷ [])
            (parameters ∷ (codes "a=mid:" ++ name) ∷ behind));
        none = before_none leg.address;
      }

  -- ---- where the section is sent to

  is_address : (ls : List (List ℕ)) (address : Option IpAddr) (name : List ℕ)
      (behind : List (List ℕ)) → first_connection (section_lines ls) ≡ None
      → first_connection behind ≡ None → IfSome address IsAddress
      → IsAddressOf
      (option_or (first_connection ((connection_lines address ++ named_lines name) ++ behind))
      (first_connection (section_lines ls))) address
  is_address ls None name behind session none is = rw (none, session) tt
  is_address ls (Some (V4 a)) name behind session none is = connection_named (V4 a) is
  is_address ls (Some (V6 a)) name behind session none is = connection_named (V6 a) is

  -- no line of it is a filter
  named_unlike : (name : List ℕ) → BeginOther (named_lines name)
  named_unlike name =
      (inr (unequal 114 115 refl), (inr (unequal 102 115 refl), (inr (unequal 109 115 refl), tt)))

  unlike : (address : Option IpAddr) (name : List ℕ)
      → BeginOther (connection_lines address ++ named_lines name)
  unlike None name = named_unlike name
  unlike (Some (V4 a)) name = (inl (unequal 99 97 refl), named_unlike name)
  unlike (Some (V6 a)) name = (inl (unequal 99 97 refl), named_unlike name)

  no_source : (ls : List (List ℕ)) (address : Option IpAddr) (port : ℕ) (name : List ℕ)
      (behind : List (List ℕ)) → BeginOther (section_lines ls) → BeginOther behind
      → IsSourceOf ls
      (section_of (record { interface = None; source = None; address = address; port = port }) name
      behind) address None
  no_source ls None port name behind before after = refl
  no_source ls (Some a) port name behind before after =
      let own = connection_lines (Some a) ++ named_lines name in (
        None,
        none_first ((own ++ behind) ++ section_lines ls) a
            (begin_other_both (own ++ behind) (section_lines ls)
            (begin_other_both own behind (unlike (Some a) name) after) before),
        refl,
      )

  is_flow : (ls : List (List ℕ)) (leg : Flow) (name : List ℕ) (behind : List (List ℕ))
      → first_connection (section_lines ls) ≡ None → first_connection behind ≡ None
      → BeginOther (section_lines ls) → BeginOther behind → payload_type ≤ 127 → IsTold leg
      → IsFlowOf ls (section_of leg name behind) (told leg)
  is_flow ls leg name behind session none before after few is = (
    (payload_type, is_media leg few is.3),
    is_address ls leg.address name behind session none is.2,
    no_source ls leg.address leg.port name behind before after,
    refl,
  )

  -- ---- the sections of a text

  -- the lines of a text, with the empty one behind its last line end
  abbrev read_lines : Flow → Option Flow → List (List ℕ)
  read_lines a b = sdp_lines payload_type parameters a b ++ [] ∷ []

  abbrev sections_of : Flow → Option Flow → List Section
  sections_of a None = section_of a (codes "A") ([] ∷ []) ∷ []
  sections_of a (Some b) =
      section_of a (codes "A") [] ∷ section_of b (codes "B") ([] ∷ []) ∷ []

  sections_read : (a : Flow) (b : Option Flow) → video_sections (read_lines a b) ≡ sections_of a b
  sections_read a None = leg_section a (codes "A") ([] ∷ [])
  sections_read a (Some b) =
      ap video_sections
      (append_assoc (leg_lines payload_type parameters a (codes "A"))
      (leg_lines payload_type parameters b (codes "B")) ([] ∷ []))
      ∙ leg_section a (codes "A") (leg_lines payload_type parameters b (codes "B") ++ [] ∷ [])
      ∙ ap (λ (ss : List Section). section_of a (codes "A") [] ∷ ss)
      (leg_section b (codes "B") ([] ∷ []))

  lines_had : (a : Flow) (b : Option Flow) → payload_type ≤ 127 → IsTold a → IfSome b IsTold
      → AllZip (λ s port. HasLine s parameters payload_type port) (sections_of a b) (ports a b)
  lines_had a None few is second = (has_line a (codes "A") ([] ∷ []) few is.3, tt)
  lines_had a (Some b) few is second = (
    has_line a (codes "A") [] few is.3,
    (has_line b (codes "B") ([] ∷ []) few second.3, tt),
  )

  session_before : BeginOther session_lines
  session_before = (
    inl (unequal 118 97 refl),
    (inl (unequal 111 97 refl), (inl (unequal 115 97 refl), (inl (unequal 116 97 refl), tt))),
  )

  group_before : BeginOther (session_lines ++ codes "a=group:DUP A B" ∷ [])
  group_before =
      begin_other_both session_lines (codes "a=group:DUP A B" ∷ []) session_before
      (inr (unequal 103 115 refl), tt)

  empty_after : BeginOther ([] ∷ [])
  empty_after = (inl (unequal 0 97 refl), tt)

  flows_had : (a : Flow) (b : Option Flow) → payload_type ≤ 127 → IsTold a → IfSome b IsTold
      → SectionsFlows (read_lines a b) (sections_of a b) (told_legs a b)
  flows_had a None few is second =
      is_flow (read_lines a None) a (codes "A") ([] ∷ []) refl refl session_before empty_after few is
  flows_had a (Some b) few is second = (
    is_flow (read_lines a (Some b)) a (codes "A") [] refl refl group_before tt few is,
    is_flow (read_lines a (Some b)) b (codes "B") ([] ∷ []) refl refl group_before empty_after few
        second,
  )

-- ---- of any line of parameters that begins so

module _ (payload_type : ℕ) (line rest : List ℕ) (begins : line ≡ codes "a=fmtp:" ++ rest)
    (a : Flow) (b : Option Flow) (few : payload_type ≤ 127) (is : IsTold a)
    (second : IfSome b IsTold) where
  pub all_have_line : AllZip (λ s port. HasLine s line payload_type port)
      (video_sections (sdp_lines payload_type line a b ++ [] ∷ [])) (ports a b)
  all_have_line =
      subst
      (λ (p : List ℕ). AllZip (λ s port. HasLine s p payload_type port)
      (video_sections (sdp_lines payload_type p a b ++ [] ∷ [])) (ports a b))
      (sym begins)
      (subst
      (λ (ss : List Section). AllZip (λ s port. HasLine s (codes "a=fmtp:" ++ rest) payload_type port)
      ss (ports a b)) (sym (sections_read payload_type rest a b))
      (lines_had payload_type rest a b few is second))

  pub all_sent : AreFlows (sdp_lines payload_type line a b ++ [] ∷ []) (told_legs a b)
  all_sent =
      subst
      (λ (p : List ℕ). AreFlows (sdp_lines payload_type p a b ++ [] ∷ []) (told_legs a b))
      (sym begins)
      (subst
      (λ (ss : List Section). SectionsFlows
      (sdp_lines payload_type (codes "a=fmtp:" ++ rest) a b ++ [] ∷ []) ss (told_legs a b))
      (sym (sections_read payload_type rest a b))
      (flows_had payload_type rest a b few is second))
