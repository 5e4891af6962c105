use Rattle.std.proofs.Common.{◌≡◌, ℕ, ◌<◌, get_or}
use Rattle.st_format.specs.Picture.{Values, IsPicture}
use Rattle.path_merge.proofs.schedule.check.are_of_format.Given as goal

-- the pictures so far are of the format
abbrev pub invariant-loop-picture : goal.invariant-loop-picture
invariant-loop-picture g l = (k : ℕ) → k < l.picture-index → (d : Values)
    → ((get_or l.pictures k d).format ≡ l.format) × IsPicture (get_or l.pictures k d)
