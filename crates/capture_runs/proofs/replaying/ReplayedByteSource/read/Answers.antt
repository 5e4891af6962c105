use Rattle.std.proofs.Common.{◌∙◌, ◌-◌, ◌≤◌, ap, arith, drop, length, rules, take}
use Rattle.std.proofs.lemmas.List.{length-take}
use Rattle.capture_runs.proofs.Given.{first_more, part_is}
use Rattle.devices.specs.Passed.{file_gave}
use Rattle.capture_runs.proofs.replaying.ReplayedByteSource.read.Goals as goal

pub returns-then-self-len-clause-gave : goal.returns-then-self-len-clause-gave
returns-then-self-len-clause-gave c =
    let was = c.args.self.now in
    let octets = c.deref.result.now in
    let n = c.pour-n.result in
    let few : n ≤ length octets - was.at =
    omega (
      arith,
      c.pour-n.ensures.count,
      length-take (length octets - was.at) (drop was.at octets),
    ) in
    first_more was.memory.items (drop (length was.memory.items) (file_gave was.file))
    (take n c.pour-n.new.buf) was.at n (was.replay.alone (search rules))
    (c.pour-n.ensures.poured
    ∙ part_is octets was.at (length octets) n few
    ∙ ap (λ l. take n (drop was.at l)) c.deref.ensures.value)
