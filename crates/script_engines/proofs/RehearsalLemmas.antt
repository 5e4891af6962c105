-- Texts that are no line of a rehearsal, and what a picture's octets are.
use Rattle.std.proofs.Common.{◌≡◌, ◌≤◌, ℕ, false, ◌==◌, ◌*◌, ◌/◌, List, ◌++◌, codes, get_or, length}
use Rattle.std.proofs.Common.{Some, Ok, refl, ap, sym, subst, ◌∙◌, arith}
use Rattle.std.proofs.lemmas.Bool.{eqb-false}
use Rattle.hex.specs.Hex.{decode_of}
use Rattle.hex.proofs.HexLemmas.{decode_of-ok}
use Rattle.st_format.specs.declared.format.Format.{Format}
use Rattle.st_format.specs.declared.path.Path.{Path}
use Rattle.st_format.specs.Pgroup.{bits_of, pixel_group}
use Rattle.st_format.specs.Position.{sample_count, group_count}
use Rattle.packet_plan.specs.declared.stamp.Stamp.{Stamp}
use Rattle.frame_assembly.proofs.PackedLemmas.{groups_agree, sizes}
use Rattle.frame_assembly.proofs.Segments.{sample_count_groups}
use Rattle.path_merge.specs.declared.schedule.event.Event.{Event}
use Rattle.path_merge.specs.declared.schedule.event.Event.TheVariants.{Send, Arrive, Slide, Merge}
use Rattle.st_format.specs.Text.{parted}
use Rattle.script_engines.specs.Forms.{AreTwo}
use Rattle.st_format.specs.Words.{IsNumber}
use Rattle.script_engines.specs.RehearsalForms.{AreArrival, AreReceiverAndNumber, AreTwoReceivers}
use Rattle.script_engines.specs.RehearsalForms.{AreStamp, IsCountLine, IsEventLine, IsNumberLine}
use Rattle.script_engines.specs.RehearsalForms.{IsStampLine}
use Rattle.run_outcome.specs.Timestamps.{IsNumberOf}
use Rattle.script_engines.proofs.FormLemmas.{differ, later, same_rest, second_same}

-- ---- what is no line `stamp`

pub stamp_last_none : (text number behind first last : List ℕ)
    → parted 32 text ≡ Some (number, behind) → parted 32 behind ≡ Some (first, last)
    → ((m n : ℕ) → AreTwo last m n → ⊥) → (s : Stamp) → AreStamp text s → ⊥
stamp_last_none text number behind first last e g none s all =
    let a = second_same text number behind all.payload_type all.behind e all.parts in
    let b = second_same behind first last all.first all.last g
    (later behind all.behind (Some (all.first, all.last)) a.1 all.parts_behind) in
    none s.timestamp s.ssrc (subst (λ (l : List ℕ). AreTwo l s.timestamp s.ssrc)
    (sym b.1) all.last_are)

pub stamp_none : (text rest : List ℕ) → text ≡ codes "stamp " ++ rest
    → ((s : Stamp) → AreStamp rest s → ⊥) → (s : Stamp) → IsStampLine text s → ⊥
stamp_none text rest e none s all =
    none s (subst (λ (l : List ℕ). AreStamp l s)
    (same_rest (codes "stamp ") all.rest rest (sym all.text_is ∙ e)) all.fields)

-- ---- what is no line of a number or a window

pub number_none : (word text rest : List ℕ) → text ≡ word ++ rest → (IsNumber rest → ⊥) → (n : ℕ)
    → IsNumberLine text word n → ⊥
number_none word text rest e none n all =
    none (subst IsNumber (same_rest word all.rest rest (sym all.text_is ∙ e)) all.number_is.is)

pub count_none : (text rest : List ℕ) → text ≡ codes "receivers " ++ rest
    → ((n : ℕ) → n ≤ 255 → IsNumberOf rest n → ⊥) → (n : ℕ) → IsCountLine text n → ⊥
count_none text rest e none n all =
    none n all.eight_bits (subst (λ (l : List ℕ). IsNumberOf l n)
    (same_rest (codes "receivers ") all.line_is.rest rest (sym all.line_is.text_is ∙ e))
    all.line_is.number_is)

-- ---- what is no event

-- texts of different second letters differ
differ_second : (text u v : List ℕ) → (get_or u 1 0 == get_or v 1 0) ≡ false → text ≡ u → text ≡ v
    → ⊥
differ_second text u v none e f =
    eqb-false (get_or u 1 0) (get_or v 1 0) none (ap (λ (l : List ℕ). get_or l 1 0) (sym e ∙ f))

pub arrive_none : (text rest : List ℕ) → text ≡ codes "arrive " ++ rest
    → ((to : ℕ) (by : Path) (number : ℕ) → AreArrival rest to by number → ⊥) → (event : Event)
    → IsEventLine text event → ⊥
arrive_none text rest e none Send is =
    differ text (codes "send") (codes "arrive " ++ rest) refl is e
arrive_none text rest e none (Arrive to by number) is =
    none to by number (subst (λ (l : List ℕ). AreArrival l to by number)
    (same_rest (codes "arrive ") is.0 rest (sym is.1 ∙ e)) is.2)
arrive_none text rest e none (Slide at next) is =
    differ text (codes "slide " ++ is.0) (codes "arrive " ++ rest) refl is.1 e
arrive_none text rest e none (Merge into from) is =
    differ text (codes "merge " ++ is.0) (codes "arrive " ++ rest) refl is.1 e

pub slide_none : (text rest : List ℕ) → text ≡ codes "slide " ++ rest
    → ((receiver n : ℕ) → AreReceiverAndNumber rest receiver n → ⊥) → (event : Event)
    → IsEventLine text event → ⊥
slide_none text rest e none Send is =
    differ_second text (codes "send") (codes "slide " ++ rest) refl is e
slide_none text rest e none (Arrive to by number) is =
    differ text (codes "arrive " ++ is.0) (codes "slide " ++ rest) refl is.1 e
slide_none text rest e none (Slide at next) is =
    none at next (subst (λ (l : List ℕ). AreReceiverAndNumber l at next)
    (same_rest (codes "slide ") is.0 rest (sym is.1 ∙ e)) is.2)
slide_none text rest e none (Merge into from) is =
    differ text (codes "merge " ++ is.0) (codes "slide " ++ rest) refl is.1 e

pub merge_none : (text rest : List ℕ) → text ≡ codes "merge " ++ rest
    → ((into from : ℕ) → AreTwoReceivers rest into from → ⊥) → (event : Event)
    → IsEventLine text event → ⊥
merge_none text rest e none Send is = differ text (codes "send") (codes "merge " ++ rest) refl is e
merge_none text rest e none (Arrive to by number) is =
    differ text (codes "arrive " ++ is.0) (codes "merge " ++ rest) refl is.1 e
merge_none text rest e none (Slide at next) is =
    differ text (codes "slide " ++ is.0) (codes "merge " ++ rest) refl is.1 e
merge_none text rest e none (Merge into from) is =
    none into from (subst (λ (l : List ℕ). AreTwoReceivers l into from)
    (same_rest (codes "merge ") is.0 rest (sym is.1 ∙ e)) is.2)

-- ---- the octets of a picture

-- A picture's samples have as many bits as some octets: those of its pgroups.
pub whole_groups : (f : Format) → (m : ℕ) × (8 * m ≡ bits_of f.depth * sample_count f)
whole_groups f = (
  (pixel_group f.sampling f.depth).octets * group_count f,
  groups_agree (bits_of f.depth) (pixel_group f.sampling f.depth).octets
      (pixel_group f.sampling f.depth).samples (group_count f) (sizes f.sampling f.depth)
      ∙ ap (λ (x : ℕ). bits_of f.depth * x) (sample_count_groups f),
)

pub ten_bits : (n count m : ℕ) → n ≡ 10 → 8 * m ≡ n * count → 8 * (count / 4 * 5) ≡ n * count
ten_bits n count m e h =
    let k : 8 * m ≡ 10 * count = subst (λ (x : ℕ). 8 * m ≡ x * count) e h in
    subst (λ (x : ℕ). 8 * (count / 4 * 5) ≡ x * count) (sym e) (omega arith)

pub twelve_bits : (n count m : ℕ) → n ≡ 12 → 8 * m ≡ n * count → 8 * (count / 2 * 3) ≡ n * count
twelve_bits n count m e h =
    let k : 8 * m ≡ 12 * count = subst (λ (x : ℕ). 8 * m ≡ x * count) e h in
    subst (λ (x : ℕ). 8 * (count / 2 * 3) ≡ x * count) (sym e) (omega arith)

-- digits of just as many octets as a picture has are twice as many
pub digits_long : (digits octets : List ℕ) (count bits : ℕ) → 8 * count ≡ bits
    → 8 * length octets ≡ bits → decode_of digits ≡ Ok octets
    → (length digits ≡ 2 * count) × (length octets ≡ count)
digits_long digits octets count bits a b is =
    let long = (decode_of-ok digits octets is).2 in
    (omega (arith, long, a, b), omega (arith, a, b))
