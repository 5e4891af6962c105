use Rattle.std.proofs.Common.{◌≡◌, ◌++◌, drop, take}
use Rattle.pcap_file.specs.Blocks.{before_zero}
use Rattle.pcap_file.proofs.blocks.before_zero.Given as goal

abbrev pub invariant-loop-place : goal.invariant-loop-place
invariant-loop-place l =
    before_zero l.text ≡ take l.place l.text ++ before_zero (drop l.place l.text)
