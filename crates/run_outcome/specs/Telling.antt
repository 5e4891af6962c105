-- Lines that tell how a run ended.
use Rattle.std.specs.Prelude.{◌≡◌, ℕ, ◌⊎◌, List, ◌++◌, codes}
use Rattle.std.specs.Fmt.{decimal}
use Rattle.st_format.specs.Device.{Failed}
use Rattle.run_outcome.specs.declared.status.Status.{Status}
use Rattle.run_outcome.specs.declared.status.Status.TheVariants.{Refused, Device}

-- A line was told: the sink took it whole, or it failed, and then the run ends by that
abbrev pub TellsLine : Status → List ℕ → Status → ℕ → ℕ → List ℕ → List ℕ → Type 0
TellsLine status line result old new took took' =
    ((result ≡ status) × (new ≡ old) × (took' ≡ took ++ line))
    ⊎ ((result ≡ Device) × Failed old new)

-- the line of a device's failure, which has no number
abbrev pub device_line : List ℕ
device_line = codes "st2110: device\n"

-- the line of want of memory, which has none either
abbrev pub memory_line : List ℕ
memory_line = codes "st2110: memory\n"

-- the line of a refusal with this text
abbrev pub IsRefusalLine : List ℕ → Status → List ℕ → Type 0
IsRefusalLine text status line =
    (status ≡ Refused) × (line ≡ codes "st2110: " ++ text ++ codes "\n")

-- a subject, a number and a name, parted by spaces
abbrev pub numbered_name : List ℕ → ℕ → List ℕ → List ℕ
numbered_name subject number name = subject ++ (decimal number ++ (codes " " ++ name))
