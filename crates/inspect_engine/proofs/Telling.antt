-- What is told of recordings that were noted, and the refusals of recordings.
use Rattle.std.proofs.Common.{◌≡◌, ℕ, zero, suc, ◌+◌, ◌<◌, Bool, List, [], ◌∷◌, ◌++◌, length}
use Rattle.std.proofs.Common.{drop, get_or, set, take, ap, sym, ◌∙◌}
use Rattle.std.proofs.Common.{arith}
use Rattle.std.specs.List.{flat_map, zip}
use Rattle.recording_counts.specs.FlowCounts.{flow_counts}
use Rattle.recording_counts.specs.declared.flow_count.FlowCount.{FlowCount}
use Rattle.pcap_file.specs.Runs.{packets_in, most_packet}
use Rattle.run_outcome.specs.declared.refusal.Refusal.{Refusal}
use Rattle.inspect_engine.specs.Arrivals.{arrivals_of}
use Rattle.inspect_engine.specs.Inspected.{IsFaultOf, IsFirstFailed, NotesAll}
use Rattle.inspect_engine.specs.Inspected.{inspection_text}
use Rattle.recording_counts.specs.LeftOut.{left_out_of}
use Rattle.recording_counts.specs.declared.left_out.LeftOut.{LeftOut}
use Rattle.inspect_engine.specs.Told.{Tells}
use Rattle.inspect_engine.specs.declared.form.Form.{Form}
use Rattle.inspect_engine.specs.declared.inspection.Inspection.{Inspection}

-- what is printed of what was noted, from nothing on, is told of all packets
pub tells_noted : {S A : Type 0} (form : Form) (told : S → List ℕ → Type 0) (recordings : List S) (cut : Bool)
    (old new : Inspection A) (shown shown' : List ℕ) → old.flows ≡ flow_counts []
    → old.left_out ≡ left_out_of [] → NotesAll most_packet told recordings cut old new
    → shown' ≡ shown ++ inspection_text form new.flows new.left_out
    → Tells form told recordings cut shown shown'
tells_noted form told recordings cut old new shown shown' counted reasons notes printed = record {
  printed = λ octets read.
      let n = notes.noted octets read in
      printed
      ∙ ap (λ (f : List FlowCount). shown ++ inspection_text form f new.left_out) (n.flows [] counted)
      ∙ ap
      (λ (l : LeftOut).
      shown
      ++ inspection_text form
      (flow_counts (arrivals_of (flat_map (packets_in most_packet) octets))) l)
      (n.left_out [] reasons);
  ends = notes.ends;
  cuts = notes.cuts;
}

-- ---- refusals

-- the sources that were read, the one that was read last, and those behind it
pairs_at : {S : Type 0} (start now : List S) (k : ℕ) (d y : S) → drop k now ≡ drop k start
    → length now ≡ length start → k < length now → d ≡ get_or now k d
    → zip start (set now k y)
    ≡ zip (take k start) (take k now) ++ (d, y) ∷ zip (drop (suc k) start) (drop (suc k) now)
pairs_at start [] k d y e len lt is = absurd (omega (arith, lt))
pairs_at [] (n ∷ now) k d y e len lt is = absurd (omega (arith, len))
pairs_at {S} (s ∷ start) (n ∷ now) zero d y e len lt is =
    ap (λ (x : S). (x, y) ∷ zip start now) (first_is n s now start e ∙ sym is)
  where
    first_is : {X : Type 0} (x z : X) (xs zs : List X) → x ∷ xs ≡ z ∷ zs → z ≡ x
    first_is x z xs zs e = cc
pairs_at {S} (s ∷ start) (n ∷ now) (suc k) d y e len lt is =
    ap (λ (l : List (S × S)). (s, n) ∷ l)
    (pairs_at start now k d y e (omega (arith, len)) (omega (arith, lt)) is)

-- the fault of the one that was read last is the first
pub first_fault : {S A : Type 0} (room : ℕ) (told : S × S → List ℕ → Type 0)
    (start now : List S) (k : ℕ) (d y : S) (cut : Bool) (old mid : Inspection A) (r : Refusal)
    → NotesAll room told (zip (take k start) (take k now)) cut old mid
    → drop k now ≡ drop k start → length now ≡ length start → k < length now → d ≡ get_or now k d
    → IsFaultOf room (told (d, y)) r → IsFirstFailed room told (zip start (set now k y)) r
first_fault room told start now k d y cut old mid r notes e len lt is wrong = record {
  front = zip (take k start) (take k now);
  at = (d, y);
  behind = zip (drop (suc k) start) (drop (suc k) now);
  parts = pairs_at start now k d y e len lt is;
  whole = notes.ends;
  refused = wrong;
}
