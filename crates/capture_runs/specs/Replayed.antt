-- What a file that is read twice gave so far (own).
use Rattle.std.specs.Prelude.{◌≡◌, ℕ, List, true}
use Rattle.capture_runs.specs.Replaying.{replay_gave}
use Rattle.capture_runs.specs.declared.replayed.Replayed.{Replayed}
use Rattle.devices.specs.Passed.{file_failures, file_gave}
use Rattle.run_outcome.specs.Moments.{WasRead}

-- what a file gave so far: what is remembered, as far as it was given again, and what came behind
abbrev pub replayed_gave : Replayed → List ℕ
replayed_gave r = replay_gave (file_gave r.file) r.memory.items r.at

-- its last call told the end
abbrev pub replayed_ended : Replayed → Type 0
replayed_ended r = r.is_ended ≡ true

-- what was read of it, between two moments
abbrev pub ReplayedRead : Replayed × Replayed → List ℕ → Type 0
ReplayedRead = WasRead replayed_gave replayed_ended

-- how often it had failed
abbrev pub replayed_failures : Replayed → ℕ
replayed_failures r = file_failures r.file
