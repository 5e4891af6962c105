-- The text of counts.
use Rattle.std.specs.Prelude.{ℕ, List, ◌++◌, codes}
use Rattle.std.specs.Fmt.{decimal}
use Rattle.frame_assembly.specs.declared.counts.Counts.{Counts}

-- how many samples are of each kind, as lines of frames have it (own)
abbrev pub counts_text : Counts → List ℕ
counts_text counts =
    codes "present " ++ (decimal counts.present ++ (codes " missing " ++ (decimal counts.missing
    ++ (codes " contested " ++ decimal counts.contested))))
