use Rattle.std.proofs.Common.{◌<◌, ◌≤◌, length, vec_len, arith}
use Rattle.capture_engines.proofs.Coming.{skip_one}
use Rattle.capture_engines.proofs.comings.Comings.skip.Goals as goal

pub returns : goal.returns
returns g c =
    let within : c.self.inside.at ≤ vec_len c.self.inside.turns = c.self.invariant in
    let before : c.self.inside.at < length c.self.inside.turns.items =
    omega (arith, within, c.len.ensures, c.if-self-len.false) in
    rw (← c.self.view_is) (skip_one c.self.inside.turns.items c.self.inside.at before)
