use Rattle.settled_forms.proofs.PackedSamples.{sixteen_at}
use Rattle.settled_forms.proofs.packed.octets_at.Goals as goal

pub returns : goal.returns
returns c = sixteen_at c.args.packed.now c.args.at c.requires
