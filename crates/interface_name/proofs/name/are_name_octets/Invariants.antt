use Rattle.std.proofs.Common.{◌≡◌, true, take}
use Rattle.std.specs.List.{list_all}
use Rattle.interface_name.specs.Name.{is_name_octet}
use Rattle.interface_name.proofs.name.are_name_octets.Given as goal

abbrev pub invariant-loop-octet : goal.invariant-loop-octet
invariant-loop-octet l = list_all is_name_octet (take l.octet-index l.text) ≡ true
