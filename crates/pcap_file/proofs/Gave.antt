-- What a reading makes of the octets that a source gave: what it makes of those that a source was
-- to give, whatever is behind them. So each step from a reading to the next is one of both.
use Rattle.std.proofs.Common.{◌≡◌, ℕ, List, [], ◌++◌, Option, Some, Result, Ok}
use Rattle.std.proofs.Common.{Err}
use Rattle.std.proofs.Common.{append-nil, refl, sym, ◌∙◌}
use Rattle.std.specs.Prelude.{IfOk, IfErr}
use Rattle.std.specs.Io.KnownBytes.{Consumes, IsAtEnd}
use Rattle.pcap_file.specs.declared.fault.RecordingFault.{RecordingFault}
use Rattle.pcap_file.specs.declared.fault.RecordingFault.TheVariants.{Device}
use Rattle.pcap_file.specs.Fields.{Fails, GaveFault, recording_fault_origin}
use Rattle.st_format.specs.Given.{GaveValue, GaveWhole, Takes}
use Rattle.st_format.proofs.Gave.{gave_one, gave_two, fault_one, fault_of, fault_two}

abbrev Reading : Type 0 → Type 0
Reading X = List ℕ → Result (X × List ℕ) RecordingFault

-- ---- what was given

-- octets of which a reading makes a value
pub gave_part : {X : Type 0} (r : Reading X) (x : X) (a b given : List ℕ)
    → ((was left : Option (List ℕ)) → Consumes was left given → Takes r was left x)
    → b ≡ a ++ given → GaveValue r a b x
gave_part r x a b given step grown = record {
  part = given;
  grown = grown;
  says = λ behind. step (Some (given ++ behind)) (Some behind) refl;
}

-- and then the end
pub end_part : {X : Type 0} (r : Reading X) (x : X) (a b given : List ℕ) (ended : Type 0)
    → ((was left : Option (List ℕ)) → Consumes was left given → IsAtEnd left → Takes r was left x)
    → b ≡ a ++ given → ended → GaveWhole r a b ended x
end_part r x a b given ended step grown over = record {
  part = given;
  grown = grown;
  over = over;
  says = step (Some given) (Some []) (sym (append-nil given)) refl;
}

-- octets in which a reading finds that they end too early
pub cut_part : {X : Type 0} (r : Reading X) (f : RecordingFault) (a b given : List ℕ)
    (ended : Type 0)
    → ((was left : Option (List ℕ)) → Consumes was left given → IsAtEnd left → Fails r was f)
    → b ≡ a ++ given → ended → GaveFault r a b ended f
cut_part r f a b given ended step grown over = record {
  part = given;
  grown = grown;
  says = λ behind all. step (Some (given ++ behind)) (Some behind) refl (all over);
}

-- the device failed: nothing is said of the recording
pub fault_device : {X : Type 0} (r : Reading X) (a b part : List ℕ) (ended : Type 0)
    → b ≡ a ++ part → GaveFault r a b ended Device
fault_device r a b part ended grown =
    record { part = part; grown = grown; says = λ behind all. tt }

-- ---- from readings to a reading

-- of the end
pub whole_one : {X Z : Type 0} (p : Reading X) (r : Reading Z) (x : X) (z : Z) (a b : List ℕ)
    (ended : Type 0) → ((was left : Option (List ℕ)) → Takes p was left x → Takes r was left z)
    → GaveWhole p a b ended x → GaveWhole r a b ended z
whole_one p r x z a b ended step g = record {
  part = g.part;
  grown = g.grown;
  over = g.over;
  says = step (Some g.part) (Some []) g.says;
}

-- ---- from a fault to a fault

-- before any octet
pub fault_none : {Z : Type 0} (r : Reading Z) (a b : List ℕ) (ended : Type 0)
    (f : RecordingFault) → ((was : Option (List ℕ)) → Fails r was f) → b ≡ a
    → GaveFault r a b ended f
fault_none r a b ended f step same = record {
  part = [];
  grown = same ∙ sym (append-nil a);
  says = λ behind all. step (Some behind);
}

-- ---- where a call's result is returned as it is

-- behind a value that was read, what is made of it takes no octet
pub gave_made : {C X Z : Type 0} (p : Reading X) (r : Reading Z) (x : X) (w : C → Z)
    (a b : List ℕ) (q : Result C RecordingFault)
    → ((was left : Option (List ℕ)) → Takes p was left x → IfOk q (λ y. Takes r was left (w y)))
    → GaveValue p a b x → IfOk q (λ y. GaveValue r a b (w y))
gave_made p r x w a b (Ok y) step g = gave_one p r x (w y) a b step g
gave_made p r x w a b (Err f) step g = tt

pub fault_made : {C X Z : Type 0} (p : Reading X) (r : Reading Z) (x : X) (a b : List ℕ)
    (ended : Type 0) (q : Result C RecordingFault)
    → ((was left : Option (List ℕ)) → Takes p was left x → IfErr q (λ f. Fails r was f))
    → GaveValue p a b x → IfErr q (λ f. GaveFault r a b ended f)
fault_made p r x a b ended (Ok y) step g = tt
fault_made p r x a b ended (Err f) step g = fault_of recording_fault_origin p r x a b ended f step g

-- what is read behind it
pub gave_tail : {C X Y Z : Type 0} (p : Reading X) (s : Reading Y) (r : Reading Z) (x : X)
    (v : C → Y) (w : C → Z) (a b c : List ℕ) (q : Result C RecordingFault)
    → ((y : C) (was mid left : Option (List ℕ)) → Takes p was mid x → Takes s mid left (v y)
    → Takes r was left (w y)) → GaveValue p a b x → IfOk q (λ y. GaveValue s b c (v y))
    → IfOk q (λ y. GaveValue r a c (w y))
gave_tail p s r x v w a b c (Ok y) step g h = gave_two p s r x (v y) (w y) a b c (step y) g h
gave_tail p s r x v w a b c (Err f) step g h = tt

pub fault_tail : {C X Y Z : Type 0} (p : Reading X) (s : Reading Y) (r : Reading Z) (x : X)
    (a b c : List ℕ) (ended : Type 0) (q : Result C RecordingFault)
    → ((f : RecordingFault) (was mid : Option (List ℕ)) → Takes p was mid x → Fails s mid f
    → Fails r was f) → GaveValue p a b x → IfErr q (λ f. GaveFault s b c ended f)
    → IfErr q (λ f. GaveFault r a c ended f)
fault_tail p s r x a b c ended (Ok y) step g h = tt
fault_tail p s r x a b c ended (Err f) step g h =
    fault_two recording_fault_origin p s r x a b c ended f (step f) g h

-- the same octets, by another reading
pub gave_as : {C Y Z : Type 0} (s : Reading Y) (r : Reading Z) (v : C → Y) (w : C → Z)
    (a b : List ℕ) (q : Result C RecordingFault)
    → ((y : C) (was left : Option (List ℕ)) → Takes s was left (v y) → Takes r was left (w y))
    → IfOk q (λ y. GaveValue s a b (v y)) → IfOk q (λ y. GaveValue r a b (w y))
gave_as s r v w a b (Ok y) step h = gave_one s r (v y) (w y) a b (step y) h
gave_as s r v w a b (Err f) step h = tt

pub fault_as : {C Y Z : Type 0} (s : Reading Y) (r : Reading Z) (a b : List ℕ) (ended : Type 0)
    (q : Result C RecordingFault)
    → ((f : RecordingFault) (was : Option (List ℕ)) → Fails s was f → Fails r was f)
    → IfErr q (λ f. GaveFault s a b ended f) → IfErr q (λ f. GaveFault r a b ended f)
fault_as s r a b ended (Ok y) step h = tt
fault_as s r a b ended (Err f) step h = fault_one recording_fault_origin s r a b ended f (step f) h
