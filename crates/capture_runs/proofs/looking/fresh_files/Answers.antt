use Rattle.std.proofs.Common.{◌∷◌, [], All, List, arith, subst, sym}
use Rattle.std.proofs.lemmas.List.Elements.{All-append, All-cons, All-nil}
use Rattle.capture_runs.specs.Looked.{ReadNone}
use Rattle.capture_runs.specs.declared.replayed.Replayed.{Replayed}
use Rattle.capture_runs.proofs.looking.fresh_files.Goals as goal

pub loop-preserved : goal.loop-preserved
loop-preserved c =
    record {
      fresh = subst (λ (l : List Replayed). All ReadNone l) (sym c.in_ok-push_file.ensures.pushed)
          (All-append ReadNone c.loop.fresh.items (c.in_ok-file.file ∷ []) c.loop.invariant.fresh
          (All-cons ReadNone c.in_ok-file.file [] c.in_ok-file.ensures.fresh (All-nil ReadNone)));
      each = omega (arith, c.in_ok-push_file.ensures.each, c.loop.invariant.each);
      left = omega arith;
    }
