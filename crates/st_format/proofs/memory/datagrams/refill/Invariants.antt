use Rattle.std.proofs.Common.{◌≡◌, take, vec_capacity}
use Rattle.st_format.proofs.memory.datagrams.refill.Given as goal

abbrev pub invariant-loop-octet : goal.invariant-loop-octet
invariant-loop-octet g l = record {
  octets : l.slot.items ≡ take l.octet-index l.octets;
  room : vec_capacity l.slot ≡ vec_capacity l.fn.slot;
}
