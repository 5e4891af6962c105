use Rattle.sdp_format.specs.Naming.{items}
use Rattle.sdp_format.specs.Views.{items_in}
use Rattle.sdp_format.proofs.KnownItems.{leg_from}
use Rattle.sdp_format.proofs.read.leg_of.Goals as goal

pub returns : goal.returns
returns g c =
    leg_from c.args.payload_type (items c.args.text.now) (items_in c.in_ok-list.list)
    c.said_in.result c.in_ok-list.ensures c.said_in.ensures
