use Rattle.std.proofs.Common.{◌<◌, ◌≤◌, length, vec_len, arith}
use Rattle.capture_engines.proofs.Coming.{come_none, come_one}
use Rattle.capture_engines.proofs.comings.Comings.come.Goals as goal

pub returns-then-self-len : goal.returns-then-self-len
returns-then-self-len g c =
    let at : length c.self.inside.turns.items ≤ c.self.inside.at =
    omega (arith, c.len.ensures, c.if-self-len.true) in
    rw (← c.self.view_is) (come_none c.self.inside.turns.items c.self.inside.at at)

pub returns : goal.returns
returns g c =
    let within : c.self.inside.at ≤ vec_len c.self.inside.turns = c.self.invariant in
    let before : c.self.inside.at < length c.self.inside.turns.items =
    omega (arith, within, c.len.ensures, c.if-self-len.false) in
    rw (← c.self.view_is) (come_one c.self.inside.turns.items c.self.inside.at before)
