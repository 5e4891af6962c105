-- What is said has a port, and a colorimetry of its form.
use Rattle.std.proofs.Common.{◌≡◌, ◌<◌, ℕ, length, Option, Some, None, arith, refl, sym, subst, codes, List}
use Rattle.flow.specs.declared.flows.Flow.{Flow}
use Rattle.sdp_format.specs.Naming.{colorimetry}
use Rattle.sdp_writing.specs.Written.{ports}
use Rattle.sdp_writing.proofs.usual.usual_sdp.Goals as goal

some_port : (a : Flow) (b : Option Flow) → 0 < length (ports a b)
some_port a None = omega arith
some_port a (Some b) = omega arith

named_so : colorimetry (codes "BT709") ≡ Some (codes "BT709")
unfolding colorimetry
named_so = refl

pub invariant_of-result-clause-has_port : goal.invariant_of-result-clause-has_port
invariant_of-result-clause-has_port c =
    subst (λ (l : List ℕ). 0 < length l) (sym c.ports_of.ensures)
    (some_port c.args.a c.args.b)

pub invariant_of-result-clause-named : goal.invariant_of-result-clause-named
invariant_of-result-clause-named c =
    subst (λ (l : List ℕ). colorimetry l ≡ Some l) (sym c.bt709.ensures) named_so
