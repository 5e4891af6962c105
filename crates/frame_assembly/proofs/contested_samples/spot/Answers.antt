use Rattle.frame_assembly.proofs.Spots.{place_is}
use Rattle.frame_assembly.proofs.contested_samples.spot.Goals as goal

pub returns-clause-place : goal.returns-clause-place
returns-clause-place c =
    place_is c.args.sampling c.args.sample c.column_of.result c.component_in_row-component.result
    c.column_of.ensures c.component_in_row-component.ensures.value
