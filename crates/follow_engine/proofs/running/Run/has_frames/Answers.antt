use Rattle.std.proofs.Common.{◌∙◌, List, ap, eqb, length, ℕ}
use Rattle.follow_engine.proofs.Blamed.{no_octets_at, some_octets_at}
use Rattle.follow_engine.proofs.running.Run.has_frames.Goals as goal

pub returns-clause-some : goal.returns-clause-some
returns-clause-some g c =
    λ is_so.
    some_octets_at c.args.self.now.follower.opening.window c.is_empty.result
    (c.is_empty.ensures
    ∙ ap (λ (l : List ℕ). eqb (length l) 0) c.window.ensures.window) is_so

pub returns-clause-none : goal.returns-clause-none
returns-clause-none g c =
    λ is_not.
    no_octets_at c.args.self.now.follower.opening.window c.is_empty.result
    (c.is_empty.ensures
    ∙ ap (λ (l : List ℕ). eqb (length l) 0) c.window.ensures.window) is_not
