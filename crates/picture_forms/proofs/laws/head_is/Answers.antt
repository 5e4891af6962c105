use Rattle.picture_forms.proofs.HeadIs.{head_found, head_says}
use Rattle.picture_forms.proofs.laws.head_is.Goals as goal

pub returns : goal.returns
returns c octets rest f = (head_found octets rest f, head_says octets rest f)
