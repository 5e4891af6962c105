use Rattle.std.proofs.Common.{ℕ, List, refl, ap, ◌∙◌, arith}
use Rattle.frame_assembly.specs.Packed.{cells_in}
use Rattle.frame_assembly.proofs.PackedLemmas.{sizes}
use Rattle.frame_assembly.proofs.SameLemmas.{all_below, same_marks_from, same_octets_from}
use Rattle.frame_assembly.proofs.groups.same_groups.Goals as goal

pub returns-then-same_words : goal.returns-then-same_words
returns-then-same_words c = (
  λ h. ap (λ (ms : List ℕ). cells_in c.args.format.now ms c.args.octets.now)
      (c.if-same_words.ensures.0 refl)
      ∙ ap (cells_in c.args.format.now c.args.other_marks.now) (c.same_octets.ensures.0 h),
  λ e. c.same_octets.ensures.1
      (same_octets_from _ _ _ c.args.marks.now c.args.octets.now c.args.other_marks.now
      c.args.others.now (sizes c.args.format.now.sampling c.args.format.now.depth)
      c.requires.packed c.requires.other
      (all_below 256 c.args.octets.now (λ i. omega (arith, c.type_inv.octets i)))
      (all_below 256 c.args.others.now (λ i. omega (arith, c.type_inv.others i))) e),
)

pub returns-else-same_words : goal.returns-else-same_words
returns-else-same_words c = (
  λ h. let f = c.if-same_words.false in cc,
  λ e. c.same_words.ensures.1
      (same_marks_from _ _ _ c.args.marks.now c.args.octets.now c.args.other_marks.now
      c.args.others.now (sizes c.args.format.now.sampling c.args.format.now.depth)
      c.requires.packed.long c.requires.other.long
      c.requires.packed.words c.requires.other.words
      (all_below 65536 c.args.marks.now (λ i. omega (arith, c.type_inv.marks i)))
      (all_below 65536 c.args.other_marks.now
      (λ i. omega (arith, c.type_inv.other_marks i))) c.requires.alike e),
)
