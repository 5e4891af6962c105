use Rattle.std.proofs.Common.{None}
use Rattle.following.specs.Follower.{opened}
use Rattle.following.specs.Following.{handed_out, stamps_of}
use Rattle.following.proofs.Handing.{turns_rise}
use Rattle.following.proofs.Rises.{handed_rise, rise_different}
use Rattle.following.proofs.laws.rising.Goals as goal

pub returns-clause-newer : goal.returns-clause-newer
returns-clause-newer c = handed_rise

pub returns-clause-early : goal.returns-clause-early
returns-clause-early c = turns_rise

pub returns-clause-once : goal.returns-clause-once
returns-clause-once c o size ahead base datagrams all =
    rise_different base None (stamps_of (handed_out (opened o size ahead) datagrams)) all
    (handed_rise o size ahead datagrams)
