use Rattle.std.proofs.Common.{inl, inr, sym, ◌∙◌}
use Rattle.st_format.specs.Fields.{fields_of}
use Rattle.media_file.proofs.Blocked.{block_parts, lowest_bad, lowest_good}
use Rattle.media_file.proofs.block.format_in.Goals.{then-n-via-then-n, then-n-via-else-n+then-d}
use Rattle.media_file.proofs.block.format_in.Goals as goal

pub returns-then-n-clause-exact : goal.returns-then-n-clause-exact
returns-then-n-clause-exact c =
    block_parts c.args.block.now _ c.in_ok-sampling.sampling c.in_ok-depth.depth _ _ _ _
    c.in_ok-sampling.ensures c.in_ok-depth.ensures c.from_be_bytes-width.ensures
    c.from_be_bytes-height.ensures c.from_be_bytes-n.ensures c.from_be_bytes-d.ensures
    (lowest_bad (fields_of c.in-Ok.format) _ _ _ c.in-Ok.ensures.exact
    (elim c.then-n.branch [
      | then-n-via-then-n w ↦ inl
          (λ e. w.if-n.true (c.n.ensures ∙ e))
      | then-n-via-else-n+then-d w ↦ inr
          (sym c.n.ensures ∙ w.if-n.false, λ e. w.if-d.true (w.d.ensures ∙ e))
    ]))

pub returns-clause-exact : goal.returns-clause-exact
returns-clause-exact c =
    block_parts c.args.block.now _ c.in_ok-sampling.sampling c.in_ok-depth.depth _ _ _ _
    c.in_ok-sampling.ensures c.in_ok-depth.ensures c.from_be_bytes-width.ensures
    c.from_be_bytes-height.ensures c.from_be_bytes-n.ensures c.from_be_bytes-d.ensures
    (lowest_good (fields_of c.in-Ok.format) _ _ _ c.in-Ok.ensures.exact
    (sym c.n.ensures ∙ c.if-n.false) (sym c.d.ensures ∙ c.if-d.false))
