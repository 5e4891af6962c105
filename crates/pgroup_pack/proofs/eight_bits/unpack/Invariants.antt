use Rattle.std.proofs.Common.{take}
use Rattle.st_format.specs.Samples.{Spells}
use Rattle.pgroup_pack.proofs.eight_bits.unpack.Given as goal

abbrev pub invariant-loop-i : goal.invariant-loop-i
invariant-loop-i l = Spells 8 (take (l.i) l.octets) (take (l.i) l.samples)
