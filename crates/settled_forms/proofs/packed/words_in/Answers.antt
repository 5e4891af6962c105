use Rattle.std.proofs.lemmas.Simd.{below_from_Fits}
use mir.Syntax.{w8}
use Rattle.settled_forms.proofs.PackedSamples.{words_of_octets}
use Rattle.settled_forms.proofs.packed.words_in.Goals as goal

pub returns : goal.returns
returns c =
    words_of_octets 8 c.args.octets c.fits-octets.0
    (below_from_Fits w8 c.args.octets c.fits-octets.1)
