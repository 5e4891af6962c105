use Rattle.std.proofs.Common.{◌≡◌, ◌⊎◌, inl, inr}
use Rattle.std.proofs.lemmas.Bool.{false≢true}
use Rattle.frame_assembly.proofs.Spots.{no_bits}
use Rattle.frame_assembly.proofs.contested_samples.has_contested.Goals as goal
use Rattle.frame_assembly.proofs.contested_samples.has_contested.Goals.{then-mark-eq0-via-then-mark-eq0, then-mark-eq0-via-else-mark-eq0+then-mark-eq-PRESENT}

pub returns-then-mark-eq0 : goal.returns-then-mark-eq0
returns-then-mark-eq0 c =
    let clear : (c.args.mark ≡ 0) ⊎ (c.args.mark ≡ 32768) =
    elim c.then-mark-eq0.branch [
      | then-mark-eq0-via-then-mark-eq0 w ↦ inl w.if-mark-eq0.true
      | then-mark-eq0-via-else-mark-eq0+then-mark-eq-PRESENT w ↦ inr w.if-mark-eq-PRESENT.true
    ] in (
      λ h. absurd (false≢true h),
      λ some. absurd (no_bits c.args.size c.args.mark c.requires clear some),
    )
