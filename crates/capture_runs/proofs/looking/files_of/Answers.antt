use Rattle.std.proofs.Common.{◌∷◌, [], All, List, arith, subst, sym}
use Rattle.std.proofs.lemmas.List.Elements.{All-append, All-cons, All-nil}
use Rattle.capture_runs.specs.Looked.{ReadNone}
use Rattle.capture_runs.specs.declared.replayed.Replayed.{Replayed}
use Rattle.capture_runs.proofs.looking.files_of.Goals as goal

pub loop-name-preserved : goal.loop-name-preserved
loop-name-preserved c =
    record {
      fresh = subst (λ (l : List Replayed). All ReadNone l) (sym c.in_ok-push_file.ensures.pushed)
          (All-append ReadNone c.loop-name.files.items (c.file_of.result ∷ [])
          c.loop-name.invariant.fresh
          (All-cons ReadNone c.file_of.result [] c.file_of.ensures (All-nil ReadNone)));
      each = omega (arith, c.in_ok-push_file.ensures.each, c.loop-name.invariant.each);
    }
