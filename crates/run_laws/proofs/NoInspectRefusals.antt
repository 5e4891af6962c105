-- Against what a run of `inspect` read that ended well no refusal speaks.
use Rattle.std.proofs.Common.{◌≡◌, ℕ, Bool, true, false, List, [], ◌∷◌, ◌++◌, Option, Some, inl}
use Rattle.std.proofs.Common.{inr, sym, ap, ◌∙◌, subst}
use Rattle.std.specs.List.{list_all}
use Rattle.std.proofs.lemmas.Bool.{and_parts}
use Rattle.pcap_file.specs.Runs.{fault_in, most_packet}
use Rattle.pcap_file.specs.declared.fault.RecordingFault.{RecordingFault}
use Rattle.pcap_file.specs.declared.fault.RecordingFault.TheVariants.{Truncated}
use Rattle.run_outcome.specs.Moments.{WasRead}
use Rattle.run_outcome.specs.declared.refusal.Refusal.{Refusal}
use Rattle.run_outcome.specs.declared.refusal.Refusal.TheVariants as why
use Rattle.inspect_engine.specs.Inspected.{IsFaultOf, is_told}
use Rattle.inspect_engine.specs.Told.{IsInspectRefusal, Tells}
use Rattle.inspect_engine.specs.declared.form.Form.{Form}
use Rattle.run_laws.specs.Received.{all_read, read_of}
use Rattle.run_laws.proofs.Receiving.{all_were_read, was_read}

not_both : {X : Type 0} → (let t : Bool = true in let f : Bool = false in f ≡ t) → X
not_both e = absurd cc

abbrev failed : RecordingFault → Option RecordingFault
failed f = Some f

-- where a reading is told as one that ended, it came to no fault but that it was cut short
not_fault : (told : List ℕ → Type 0) (octets : List ℕ) (r : Refusal) → told octets
    → is_told (fault_in most_packet octets) ≡ true → IsFaultOf most_packet told r → ⊥
not_fault told octets (why.Recording Truncated) there ends wrong = absurd wrong
not_fault told octets (why.Recording f) there ends wrong =
    let e : is_told (failed f) ≡ true = sym (ap is_told (wrong octets there)) ∙ ends in
    not_both e
not_fault told octets r there ends wrong = absurd wrong

module _ {S : Type 0} (gave : S → List ℕ) (ended : S → Type 0) where
  -- what holds of the octets of each file holds of those of one
  at_one : (test : List ℕ → Bool) (front : List (S × S)) (x : S × S) (behind : List (S × S))
      → list_all test (all_read gave (front ++ x ∷ behind)) ≡ true
      → test (read_of gave x) ≡ true
  at_one test [] x behind all =
      (and_parts (test (read_of gave x)) (list_all test (all_read gave behind)) all).0
  at_one test (s ∷ ss) x behind all =
      at_one test ss x behind
      (and_parts (test (read_of gave s)) (list_all test (all_read gave (ss ++ x ∷ behind))) all).1

pub inspect_not : {S : Type 0} (gave : S → List ℕ) (ended : S → Type 0) (form : Form)
    (files : List (S × S)) (shown shown' : List ℕ) (r : Refusal)
    → Tells form (WasRead gave ended) files false shown shown'
    → IsInspectRefusal form (WasRead gave ended) files shown shown' r → ⊥
inspect_not gave ended form files shown shown' r tells (inl cut) =
    let octets : List (List ℕ) = all_read gave files in
    let zipped = all_were_read gave ended files in
    not_both (tells.cuts octets zipped ∙ sym (cut.1.cuts octets zipped))
inspect_not {S} gave ended form files shown shown' r tells (inr (same, first)) =
    let octets : List (List ℕ) = all_read gave files in
    let test = λ (o : List ℕ). is_told (fault_in most_packet o) in
    let all = tells.ends octets (all_were_read gave ended files) in
    not_fault (WasRead gave ended first.at) (read_of gave first.at) r
    (was_read gave ended first.at)
    (at_one gave ended test first.front first.at first.behind
    (subst (λ (l : List (S × S)). list_all test (all_read gave l) ≡ true) first.parts all))
    first.refused
