use Rattle.std.proofs.Common.{◌≡◌, [], All, map, take, vec_len}
use Rattle.devices.specs.Passed.{file_gave, file_path}
use Rattle.devices.proofs.files.metered_files.Given as goal

abbrev pub invariant-loop-name : goal.invariant-loop-name
invariant-loop-name l =
    (vec_len l.files ≡ l.name-index) × (map file_path l.files.items ≡ map (λ n. n.now) (take l.name-index l.names))
    × All (λ f. file_gave f ≡ []) l.files.items
