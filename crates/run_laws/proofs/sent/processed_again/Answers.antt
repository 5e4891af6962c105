use Rattle.std.proofs.Common.{List, [], ◌∷◌, None, ap, refl, ℕ}
use Rattle.run_laws.specs.Received.{read_of}
use Rattle.run_laws.proofs.ProcessedAgain.{processed_again, taken_again}
use Rattle.run_laws.proofs.Receiving.{same_file}
use Rattle.run_laws.proofs.sent.processed_again.Goals as goal

pub returns-clause-taken : goal.returns-clause-taken
returns-clause-taken g c = taken_again

pub returns-clause-files : goal.returns-clause-files
returns-clause-files g c =
    λ text states others hold held job timestamp fill size stamp old new count old' new' count'
    first second same same_held.
    processed_again g.S.ByteSource.gave g.S.ByteSource.ended g.T.ByteSource.gave
    g.T.ByteSource.ended text states others hold held job timestamp fill size stamp old new count
    old' new' count' first second same same_held

pub returns-clause-received : goal.returns-clause-received
returns-clause-received g c =
    λ text state again job timestamp fill size stamp old new count old' new' count' window source
    said xs ys first second a b same.
    processed_again g.S.ByteSource.gave g.S.ByteSource.ended g.T.ByteSource.gave
    g.T.ByteSource.ended text (state ∷ []) (again ∷ []) None None job timestamp fill size stamp
    old new count old' new' count' first second
    (ap (λ (l : List ℕ). l ∷ [])
    (same_file window source said xs ys (read_of g.S.ByteSource.gave state)
    (read_of g.T.ByteSource.gave again) a b same)) refl
