-- What a source gave is behind what it gave before.
use Rattle.std.proofs.Common.{◌≡◌, ℕ, List, [], ◌++◌, Option, None, Some, Result, Ok, Err, length}
use Rattle.std.specs.Prelude.{IfOk, IfErr}
use Rattle.st_format.specs.History.{GrewFrom, since}
use Rattle.st_format.proofs.Histories.{grew_by, grew_more}
use Rattle.pcap_file.specs.Fields.{GaveFault, field_at, recording_fault_origin}
use Rattle.st_format.specs.Given.{GaveNext, GaveValue}
use Rattle.pcap_file.specs.NgSteps.{GaveStep, Known, Stepped, step_seen}
use Rattle.pcap_file.specs.Openings.{laid_behind}
use Rattle.pcap_file.specs.Runs.{HasFailed, HasRead, Laid, layout_seen, most_blocks, opened_at}
use Rattle.pcap_file.specs.declared.fault.RecordingFault.{RecordingFault}
use Rattle.pcap_file.specs.declared.fault.RecordingFault.TheVariants.{Truncated}
use Rattle.pcap_file.specs.declared.recording.Layout.{Layout}
use Rattle.pcap_file.specs.declared.section.Step.{Step}
use Rattle.pcap_file.proofs.Gave.{gave_part}
use Rattle.st_format.proofs.Gave.{fault_two, gave_two}
use Rattle.pcap_file.proofs.Openings.{opened_fails, opened_gives}
use Rattle.st_format.proofs.Parsing.{gives_field}
use Rattle.pcap_file.proofs.Runs.{has_not_opened, has_opened}

abbrev Reading : Type 0 → Type 0
Reading X = List ℕ → Result (X × List ℕ) RecordingFault

-- one piece behind another
pub grew_on : (before now new : List ℕ) → GrewFrom before now → GrewFrom now new
    → GrewFrom before new
grew_on before now new grew more = grew_more before now new (since now new) grew more

-- by what a call answered
pub grew_if : {X V : Type 0} (p : Reading X) (view : V → X) (a b : List ℕ) (ended : Type 0)
    (r : Result V RecordingFault) → IfOk r (λ v. GaveValue p a b (view v))
    → IfErr r (λ f. GaveFault p a b ended f) → GrewFrom a b
grew_if p view a b ended (Ok v) gave wrong = grew_by a b gave.part gave.grown
grew_if p view a b ended (Err f) gave wrong = grew_by a b wrong.part wrong.grown

pub next_grew : {X : Type 0} (p : Reading (Option X)) (a b : List ℕ) (ended : Type 0)
    (o : Option X) → GaveNext p a b ended o → GrewFrom a b
next_grew p a b ended None gave = grew_by a b gave.part gave.grown
next_grew p a b ended (Some x) gave = grew_by a b gave.part gave.grown

step_grew : (p : Reading (Known × Stepped)) (a b : List ℕ) (ended : Type 0) (k : Known)
    (s : Stepped) → GaveStep p a b ended k s → GrewFrom a b
step_grew p a b ended k None gave = grew_by a b gave.part gave.grown
step_grew p a b ended k (Some s) gave = grew_by a b gave.part gave.grown

pub block_grew : (p : Reading (Known × Stepped)) (a b : List ℕ) (ended : Type 0) (k : Known)
    (buf : List ℕ) (r : Result Step RecordingFault)
    → IfOk r (λ s. GaveStep p a b ended k (step_seen s buf))
    → IfErr r (λ f. GaveFault p a b ended f) → GrewFrom a b
block_grew p a b ended k buf (Ok s) gave wrong = step_grew p a b ended k (step_seen s buf) gave
block_grew p a b ended k buf (Err f) gave wrong = grew_by a b wrong.part wrong.grown

-- ---- what stands before all packets, behind its first four octets

four_gave : (before a four : List ℕ) → length four ≡ 4 → a ≡ before ++ four
    → GaveValue (field_at 4) before a four
four_gave before a four size grown =
    gave_part (field_at 4) four before a four (λ was left p. gives_field Truncated 4 was left four size p)
    grown

-- what they are; or their fault
pub gave_behind : (four a b : List ℕ) (r : Result Layout RecordingFault) → length four ≡ 4
    → IfOk r (λ l. GaveValue (laid_behind four) a b (layout_seen l).laid)
    → IfOk r (λ l. (before : List ℕ) → a ≡ before ++ four
    → GaveValue opened_at before b (layout_seen l).laid)
gave_behind four a b (Ok l) size gave = λ before is.
    let laid : Laid = (layout_seen l).laid in
    gave_two (field_at 4) (laid_behind four) opened_at four laid laid before a b
    (λ was mid left p q. opened_gives four laid was mid left p q)
    (four_gave before a four size is) gave
gave_behind four a b (Err f) size gave = tt

pub wrong_behind : (four a b : List ℕ) (ended : Type 0) (r : Result Layout RecordingFault)
    → length four ≡ 4 → IfErr r (λ f. GaveFault (laid_behind four) a b ended f)
    → IfErr r (λ f. (before : List ℕ) → a ≡ before ++ four
    → GaveFault opened_at before b ended f)
wrong_behind four a b ended (Ok l) size wrong = tt
wrong_behind four a b ended (Err f) size wrong = λ before is.
    fault_two recording_fault_origin (field_at 4) (laid_behind four) opened_at four before a b ended f
    (λ was mid p q. opened_fails four f was mid p q) (four_gave before a four size is) wrong

pub opened_behind : (room : ℕ) (four a b : List ℕ) (r : Result Layout RecordingFault)
    → length four ≡ 4 → IfOk r (λ l. (layout_seen l).left ≡ most_blocks)
    → IfOk r (λ l. GaveValue (laid_behind four) a b (layout_seen l).laid)
    → IfOk r (λ l. (before : List ℕ) → a ≡ before ++ four
    → HasRead room before b (layout_seen l) [])
opened_behind room four a b (Ok l) size most gave = λ before is.
    has_opened room before b (layout_seen l) most (gave_behind four a b (Ok l) size gave before is)
opened_behind room four a b (Err f) size most gave = tt

pub not_opened_behind : (room : ℕ) (four a b : List ℕ) (ended : Type 0)
    (r : Result Layout RecordingFault) → length four ≡ 4
    → IfErr r (λ f. GaveFault (laid_behind four) a b ended f)
    → IfErr r (λ f. (before : List ℕ) → a ≡ before ++ four
    → HasFailed room before b ended f [])
not_opened_behind room four a b ended (Ok l) size wrong = tt
not_opened_behind room four a b ended (Err f) size wrong = λ before is.
    has_not_opened room before b ended f
    (wrong_behind four a b ended (Err f) size wrong before is)
