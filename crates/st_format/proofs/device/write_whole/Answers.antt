use Rattle.std.proofs.Common.{rules, ◌≡◌, ◌≤◌, ◌+◌, ◌++◌, List, ℕ, length, take, subst, ◌∙◌}
use Rattle.std.proofs.lemmas.List.{take_rest}
use Rattle.std.specs.Io.KnownBytes.{Appends}
use Rattle.st_format.proofs.Octets.{grows_more, stays_untold, writes_more}
use Rattle.st_format.proofs.device.write_whole.Goals as goal

pub loop-done-preserved : goal.loop-done-preserved
loop-done-preserved g c =
    let l = c.loop-done in
    let n = c.in_ok-done.field-0 in
    let xs = c.args.octets.now in
    let now = c.in_ok-done.ensures in
    let fits : l.done + n ≤ length xs = search rules in (
      fits,
      writes_more l.done n xs _ _ _ l.invariant.1
          (subst (λ (ys : List ℕ). Appends (g.K.ByteSink.held l.sink)
          (g.K.ByteSink.held c.write.new.self) (take n ys)) (take_rest xs l.done) now.taken),
      now.counted ∙ l.invariant.2,
      stays_untold _ _ _ l.invariant.3 now.untold,
      grows_more l.done n xs _ _ _ l.invariant.4
          (subst (λ (ys : List ℕ). g.K.ByteSink.took c.write.new.self
          ≡ g.K.ByteSink.took l.sink ++ take n ys) (take_rest xs l.done) now.took),
      now.names ∙ l.invariant.5,
    )
