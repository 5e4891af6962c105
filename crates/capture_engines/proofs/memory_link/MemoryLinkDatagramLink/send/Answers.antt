use Rattle.std.proofs.Common.{[], ◌∷◌, ◌++◌, ap, ◌∙◌}
use Rattle.capture_engines.proofs.Coming.{came_stays}
use Rattle.capture_engines.proofs.memory_link.MemoryLinkDatagramLink.send.Goals as goal

-- the datagrams that came stay where they were
pub returns-in-Ok-clause-came : goal.returns-in-Ok-clause-came
returns-in-Ok-clause-came g c =
    let before = c.args.self.now in
    came_stays before.puts.taken c.put.new.self.taken (c.args.octets.now ∷ [])
    before.comings.came c.fails_now.new.self.comings.came before.there
    (ap (λ k. k.came) c.fails_now.ensures.comings)
    (c.in-Ok.ensures.took
    ∙ ap (λ p. p.taken ++ c.args.octets.now ∷ []) c.fails_now.ensures.puts)
