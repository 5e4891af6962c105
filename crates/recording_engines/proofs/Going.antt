-- A file that reads on.
use Rattle.std.proofs.Common.{◌≡◌, ℕ, List, Bool, true, false, Option, Some}
use Rattle.std.proofs.Common.{sym, ap, subst, ◌∙◌}
use Rattle.flow.specs.declared.flows.Flows.{Flows}
use Rattle.media_file.specs.Records.{Entry}
use Rattle.recording_reader.specs.FileReader.{FileReader, FindsFault, FindsRecord, IsNewFileReader}
use Rattle.recording_reader.specs.FileReader.{IsSameFile}
use Rattle.recording_reader.specs.declared.fault.ReadingFault.{ReadingFault}
use Rattle.recording_reader.specs.declared.way.Standing.{Standing as Stand}
use Rattle.recording_reader.specs.declared.way.Standing.TheVariants.{Reads, Ended}
use Rattle.st_format.specs.Device.{Told}
use Rattle.run_outcome.proofs.Blaming.{reading_blames}
use Rattle.recording_engines.specs.Files.{HasAhead, ahead_by}
use Rattle.recording_engines.specs.Steps.{Over, ReadsMore}

abbrev both : Option Flows → List ℕ → Option Flows × List ℕ
both flows gave = (flows, gave)

pub same_begun : {S : Type 0} (old new : FileReader S) → IsSameFile old new
    → both new.flows new.before.gave ≡ both old.flows old.before.gave
same_begun old new same =
    ap (λ (f : Option Flows). both f new.before.gave) same.flows
    ∙ ap (λ (t : Told). both old.flows t.gave) same.before

-- a reader that was just opened
pub new_begun : {S : Type 0} (flows : Option Flows) (told : Told) (r : FileReader S)
    → IsNewFileReader flows r → r.before ≡ told → both r.flows r.before.gave ≡ both flows told.gave
new_begun flows told r new is =
    ap (λ (f : Option Flows). both f r.before.gave) new.by_flows
    ∙ ap (λ (t : Told). both flows t.gave) is

pub found_ready : {S : Type 0} (b : Bool) (old new : FileReader S) → FindsRecord b old new
    → HasAhead new.standing new.at_hand
found_ready true old new one =
    subst (λ (s : Stand). HasAhead s new.at_hand) (sym one.reads)
    (subst (λ (h : Option Entry). HasAhead Reads h) (sym one.at_hand) tt)
found_ready false old new none =
    subst (λ (s : Stand). HasAhead s new.at_hand) (sym none.ended)
    (subst (λ (h : Option Entry). HasAhead Ended h) (sym none.at_hand) tt)

pub found_more : {S : Type 0} (b : Bool) (old new : FileReader S) → FindsRecord b old new
    → ReadsMore old.records (ahead_by new.standing new.at_hand) new.records
found_more true old new one =
    subst (λ (s : Stand). ReadsMore old.records (ahead_by s new.at_hand) new.records) (sym one.reads)
    (subst (λ (h : Option Entry). ReadsMore old.records (ahead_by Reads h) new.records)
    (sym one.at_hand) one.records)
found_more false old new none =
    subst (λ (s : Stand). ReadsMore old.records (ahead_by s new.at_hand) new.records)
    (sym none.ended) none.records

pub fault_over : {S : Type 0} (f : ReadingFault) (old new : FileReader S) → FindsFault f old new
    → ahead_by new.standing new.at_hand ≡ Over (Some f)
fault_over f old new found = ap (λ (s : Stand). ahead_by s new.at_hand) found.failed

pub ruleset reading_on = (same_begun, found_ready, found_more, fault_over, reading_blames)
