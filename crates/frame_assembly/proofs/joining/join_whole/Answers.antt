use Rattle.std.proofs.Common.{◌≡◌, ◌≤◌, ◌∙◌, ℕ, length, replicate, take, sym}
use Rattle.std.proofs.lemmas.List.{take-replicate}
use Rattle.frame_assembly.specs.Packed.{whole_marks}
use Rattle.frame_assembly.proofs.PackedLemmas.{sizes}
use Rattle.frame_assembly.proofs.Runs.{marks_same}
use Rattle.frame_assembly.proofs.Segments.{other_marks_same, whole_packed}
use Rattle.frame_assembly.proofs.joining.join_whole.Goals as goal

-- the front of the words for a row
front : (k : ℕ) → k ≤ 8192 → take k (replicate {A = ℕ} 8192 32768) ≡ whole_marks k
front k few = take-replicate k 8192 32768 few

pub join_run-requires-clause-other : goal.join_run-requires-clause-other
join_run-requires-clause-other c =
    let many : ℕ = length c.args.marks.now in
    other_marks_same _ _ _ _ _ _ (sym (front many c.requires.few))
    (whole_packed _ _ _ many c.args.others.now
    (sizes c.args.format.now.sampling c.args.format.now.depth)
    (c.requires.alike ∙ c.requires.packed.long))

pub returns : goal.returns
returns c =
    marks_same _ _ _ _ _ _ _ _ _ _ (front (length c.args.marks.now) c.requires.few)
    c.join_run.ensures
