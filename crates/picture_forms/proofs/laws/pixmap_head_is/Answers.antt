use Rattle.std.proofs.Common.{ap, ◌∙◌}
use Rattle.picture_forms.specs.Pixmaps.{pixmap_head_walk}
use Rattle.picture_forms.proofs.PixmapAgain.{head_found, head_says}
use Rattle.picture_forms.proofs.laws.pixmap_head_is.Goals as goal

pub returns : goal.returns
returns c n d octets rest f = (
  head_found n d octets rest f,
  λ h. ap (pixmap_head_walk n d) h.whole ∙ head_says n d h.head rest f h.is,
)
