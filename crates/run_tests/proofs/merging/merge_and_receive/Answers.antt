use Rattle.std.proofs.Common.{List, ℕ, [], ◌∷◌, ◌++◌, append-nil, sym, subst}
use Rattle.std.specs.List.{zip}
use Rattle.st_format.specs.Member.{SameDatagrams}
use Rattle.run_laws.specs.Received.{datagrams_read}
use Rattle.run_tests.proofs.merging.merge_and_receive.Goals as goal

pub returns : goal.returns
returns g c =
    λ text xs ys left right said same.
    let whole : List (List ℕ) =
    datagrams_read g.S.ByteSource.gave (zip c.args.captures.now c.receive.new.captures) in
    c.one_file.ensures _ _ text _ whole _ _
    (c.received_in_pieces.ensures _ _ text xs (ys ∷ []) _ _ _ left (right, tt)
    (c.merged_file.ensures (c.args.left.now, c.merge.new.left) (c.args.right.now, c.merge.new.right)
    _ _ c.in_ok-merge.ensures.merged))
    (c.received_file.ensures _ _ text _ _ _ _ _ _ _ c.in_ok-receive.ensures.saved
    c.in_ok-receive.ensures.taken said)
    (subst (λ (l : List (List ℕ)). SameDatagrams (xs ++ l) whole) (sym (append-nil ys)) same)
