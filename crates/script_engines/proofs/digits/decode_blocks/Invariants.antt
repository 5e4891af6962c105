use Rattle.std.proofs.Common.{◌*◌}
use Rattle.script_engines.specs.Digits.{AreDecoded}
use Rattle.script_engines.proofs.digits.decode_blocks.Given as goal

abbrev pub invariant-loop-i : goal.invariant-loop-i
invariant-loop-i l = AreDecoded l.text (16 * l.i) l.octets
