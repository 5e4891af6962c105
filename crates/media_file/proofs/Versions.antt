-- A file whose one version is 01, read from a source.
use Rattle.std.proofs.Common.{◌≡◌, ℕ, List, Option, None, Some, refl, subst}
use Rattle.media_file.specs.declared.fault.FileFault.{FileFault}
use Rattle.media_file.specs.declared.fault.FileFault.TheVariants.{BadVersion}
use Rattle.media_file.specs.declared.front.Version.{Version}
use Rattle.media_file.specs.declared.front.Version.TheVariants.{One, Two}
use Rattle.media_file.specs.Fields.{Fails}
use Rattle.st_format.specs.Given.{Takes}
use Rattle.media_file.specs.Fronts.{kind_at}
use Rattle.media_file.specs.PictureFile.{one_at, one_by}
use Rattle.st_format.proofs.Parsing.{fails_first, fails_then, gives_then}
use Rattle.media_file.specs.Faults.{file_fault_origin}

pub one_cut : (name : List ℕ) (old : Option (List ℕ)) (f : FileFault) → Fails (kind_at name) old f
    → Fails (one_at name) old f
unfolding one_at
one_cut name old f p = fails_first file_fault_origin (kind_at name) one_by old f p

one_given : (known : Option (List ℕ)) → Takes (one_by One) known known One
one_given None = tt
one_given (Some o) = refl

two_fails : (known : Option (List ℕ)) → Fails (one_by Two) known BadVersion
two_fails None = tt
two_fails (Some o) = refl

pub one_gives : (name : List ℕ) (old new : Option (List ℕ)) (v : Version) → v ≡ One
    → Takes (kind_at name) old new v → Takes (one_at name) old new One
unfolding one_at
one_gives name old new v e p =
    gives_then (kind_at name) one_by old new new One One (subst (Takes (kind_at name) old new) e p)
    (one_given new)

pub one_fails : (name : List ℕ) (old new : Option (List ℕ)) (v : Version) → v ≡ Two
    → Takes (kind_at name) old new v → Fails (one_at name) old BadVersion
unfolding one_at
one_fails name old new v e p =
    fails_then file_fault_origin (kind_at name) one_by old new Two BadVersion
    (subst (Takes (kind_at name) old new) e p) (two_fails new)
