-- What any sink took, as if it told that it holds just this.
use Rattle.std.proofs.Common.{List, ℕ, Some}
use Rattle.st_format.specs.Device.{AppendsPrefix, GrowsPart}

pub held_part : (old new octets : List ℕ) → GrowsPart old new octets
    → AppendsPrefix (Some old) (Some new) octets
held_part old new octets p = record { count = p.count; short = p.short; taken = p.grown }

pub took_part : (old new octets : List ℕ) → AppendsPrefix (Some old) (Some new) octets
    → GrowsPart old new octets
took_part old new octets p = record { count = p.count; short = p.short; grown = p.taken }
