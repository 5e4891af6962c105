-- What a run was given, by how it ended.
use Rattle.std.proofs.Common.{Result, Ok, Err}
use Rattle.std.specs.Prelude.{MatchResult}
use Rattle.run_outcome.specs.Fault.{EndsDone, EndsRefused, IfRefused}
use Rattle.run_outcome.specs.declared.fault.Fault.{Fault}
use Rattle.run_outcome.specs.declared.fault.Fault.TheVariants.{Refused, Device, Memory}

pub read_whole : {V : Type 0} (r : Result V Fault) (P Q : Type 0) → EndsDone r
    → MatchResult r (λ _. P) (λ f. IfRefused f Q) → P
read_whole (Ok v) P Q done is = is
read_whole (Err f) P Q done is = absurd done

pub read_all : {V : Type 0} (r : Result V Fault) (P Q : Type 0) → EndsRefused r
    → MatchResult r (λ _. P) (λ f. IfRefused f Q) → Q
read_all (Ok v) P Q refused is = absurd refused
read_all (Err (Refused r)) P Q refused is = is
read_all (Err Device) P Q refused is = absurd refused
read_all (Err Memory) P Q refused is = absurd refused
