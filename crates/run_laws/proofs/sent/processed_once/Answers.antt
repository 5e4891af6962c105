use Rattle.std.proofs.Common.{List, [], ◌∷◌, None, ap, refl, ℕ}
use Rattle.run_laws.specs.Received.{read_of}
use Rattle.run_laws.proofs.ProcessedOnce.{processed_once}
use Rattle.run_laws.proofs.Receiving.{same_file}
use Rattle.run_laws.proofs.sent.processed_once.Goals as goal

pub returns-clause-files : goal.returns-clause-files
returns-clause-files g c =
    λ text other states others hold held job timestamp fill size size' stamp stamp' old new count
    old' new' count' first second same same_held.
    processed_once g.S.ByteSource.gave g.S.ByteSource.ended g.T.ByteSource.gave
    g.T.ByteSource.ended text other states others hold held job timestamp fill size size' stamp
    stamp' old new count old' new' count' first second same same_held

pub returns-clause-received : goal.returns-clause-received
returns-clause-received g c =
    λ text other state again job timestamp fill size size' stamp stamp' old new count old' new'
    count' window source said xs ys first second a b same.
    processed_once g.S.ByteSource.gave g.S.ByteSource.ended g.T.ByteSource.gave
    g.T.ByteSource.ended text other (state ∷ []) (again ∷ []) None None job timestamp fill size
    size' stamp stamp' old new count old' new' count' first second
    (ap (λ (l : List ℕ). l ∷ [])
    (same_file window source said xs ys (read_of g.S.ByteSource.gave state)
    (read_of g.T.ByteSource.gave again) a b same)) refl
