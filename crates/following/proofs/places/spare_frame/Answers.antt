use Rattle.following.proofs.Kept.{spare_blank, spare_count, spare_rest}
use Rattle.following.proofs.places.spare_frame.Goals as goal

pub returns-clause-blank : goal.returns-clause-blank
returns-clause-blank g c =
    spare_blank c.args.format.now c.args.spare.now.items c.pop.new.self.items c.pop.result
    c.unwrap-frame.result c.clear.new.self c.requires.of_format c.pop.ensures.items
    c.unwrap-frame.ensures c.clear.ensures.blank

pub returns-clause-of_format : goal.returns-clause-of_format
returns-clause-of_format g c =
    spare_rest c.args.format.now c.args.spare.now.items c.pop.new.self.items c.pop.result
    c.unwrap-frame.result c.requires.of_format c.pop.ensures.items c.unwrap-frame.ensures

pub returns-clause-count : goal.returns-clause-count
returns-clause-count g c =
    spare_count c.args.spare.now.items c.pop.new.self.items c.pop.result c.unwrap-frame.result
    c.pop.ensures.items c.unwrap-frame.ensures
