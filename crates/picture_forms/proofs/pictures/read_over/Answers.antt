use Rattle.std.proofs.lemmas.Result.{err_from_is_err_and}
use Rattle.picture_forms.proofs.Walked.{refuses_part}
use Rattle.picture_forms.proofs.pictures.read_over.Goals as goal

pub returns-in_err-read_samples-clause-gave_part : goal.returns-in_err-read_samples-clause-gave_part
returns-in_err-read_samples-clause-gave_part g c =
    let p = err_from_is_err_and c.from_residual.result c.from_residual.ensures.1 in
    rw p.1
    (rw c.format-format.ensures.value
    at (refuses_part _ _ _ _ _ _ _ c.in_err-read_samples.ensures.fault))
