-- What is written reads back.
use Rattle.std.proofs.Common.{◌≡◌, ℕ, ◌<◌, ◌≤◌, List, [], ◌∷◌, ◌++◌, length, sym, subst}
use Rattle.std.proofs.Common.{arith, decimal, Option, Some, None}
use Rattle.std.specs.Prelude.{IfSome}
use Rattle.std.specs.List.{AllZip}
use Rattle.flow.specs.declared.flows.Flow.{Flow}
use Rattle.sdp_writing.specs.Written.{IsTold}
use Rattle.sdp_format.specs.Back.{HasLine, ReadsBack}
use Rattle.sdp_format.specs.Bytes.{lines}
use Rattle.sdp_format.specs.Canonical.{canonical_line}
use Rattle.sdp_format.specs.Destinations.{AreFlows}
use Rattle.sdp_format.specs.Grammar.{IsDescribed}
use Rattle.sdp_format.specs.Sections.{video_sections}
use Rattle.sdp_format.specs.Views.{description}
use Rattle.sdp_format.specs.declared.sdp.Sdp.{Sdp}
use Rattle.sdp_format.proofs.BackAgain.{leg_of_sdp}
use Rattle.sdp_format.proofs.Law.{canonical_spelled}
use Rattle.sdp_format.proofs.SpelledItems.{spelled, said_items}
use Rattle.sdp_writing.specs.Lines.{text_of}
use Rattle.sdp_writing.specs.Written.{ports, sdp_lines, told_legs}
use Rattle.sdp_writing.proofs.OneLines.{parameters_in_line, sdp_in_line}
use Rattle.sdp_writing.proofs.Sections.{all_have_line, all_sent}
use Rattle.sdp_writing.proofs.Splits.{lines_of_text}

some_ports : (a : Flow) (b : Option Flow) → (0 < length (ports a b)) × (length (ports a b) ≤ 2)
some_ports a None = (omega arith, omega arith)
some_ports a (Some b) = (omega arith, omega arith)

module _ (s : Sdp) (a : Flow) (b : Option Flow) (is : IsTold a) (second : IfSome b IsTold) where
  abbrev written : List ℕ
  written = text_of (sdp_lines s.payload_type (canonical_line (description s).leg) a b)

  abbrev tail : List ℕ
  tail = decimal s.payload_type ++ spelled (said_items (description s).leg)

  read_lines : lines (text_of (sdp_lines s.payload_type (canonical_line (description s).leg) a b))
      ≡ sdp_lines s.payload_type (canonical_line (description s).leg) a b ++ [] ∷ []
  read_lines =
      lines_of_text (sdp_lines s.payload_type (canonical_line (description s).leg) a b)
      (sdp_in_line s.payload_type (canonical_line (description s).leg) s.small_type
      (parameters_in_line (description s).leg (leg_of_sdp s)) a b is second)

  pub described_again : s.ports.items ≡ ports a b
      → ReadsBack (canonical_line (description s).leg) (description s).leg
      → IsDescribed
      (video_sections (lines
      (text_of (sdp_lines s.payload_type (canonical_line (description s).leg) a b))))
      (description s)
  described_again same back =
      let some = some_ports a b in
      let zip : AllZip
      (λ section port. HasLine section (canonical_line (description s).leg) s.payload_type port)
      (video_sections (sdp_lines s.payload_type (canonical_line (description s).leg) a b ++ [] ∷ []))
      (ports a b) =
      all_have_line s.payload_type (canonical_line (description s).leg) tail
      (canonical_spelled (description s).leg) a b s.small_type is second in
      let here : AllZip
      (λ section port. HasLine section (canonical_line (description s).leg) s.payload_type port)
      (video_sections (lines
      (text_of (sdp_lines s.payload_type (canonical_line (description s).leg) a b))))
      (ports a b) =
      subst
      (λ (ls : List (List ℕ)). AllZip
      (λ section port. HasLine section (canonical_line (description s).leg) s.payload_type port)
      (video_sections ls) (ports a b)) (sym read_lines) zip in
      subst
      (λ (ps : List ℕ). IsDescribed
      (video_sections (lines
      (text_of (sdp_lines s.payload_type (canonical_line (description s).leg) a b))))
      (record { ports = ps; leg = (description s).leg })) (sym same)
      (back (text_of (sdp_lines s.payload_type (canonical_line (description s).leg) a b))
      (ports a b) here some.0 some.1)

  pub sent_again : AreFlows
      (lines (text_of (sdp_lines s.payload_type (canonical_line (description s).leg) a b)))
      (told_legs a b)
  sent_again =
      subst (λ (ls : List (List ℕ)). AreFlows ls (told_legs a b)) (sym read_lines)
      (all_sent s.payload_type (canonical_line (description s).leg) tail
      (canonical_spelled (description s).leg) a b s.small_type is second)
