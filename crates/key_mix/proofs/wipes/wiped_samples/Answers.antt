use Rattle.std.proofs.Common.{◌<◌, get_or, length, drop, ap, subst, ◌∙◌}
use Rattle.std.proofs.lemmas.List.{take_at}
use Rattle.key_mix.proofs.wipes.wiped_samples.Goals as goal

pub wipe_rows-requires-clause-of_a : goal.wipe_rows-requires-clause-of_a
wipe_rows-requires-clause-of_a g c = c.requires.of_a

pub wipe_rows-requires-clause-of_b : goal.wipe_rows-requires-clause-of_b
wipe_rows-requires-clause-of_b g c = c.requires.of_b

pub wipe_rows-requires-clause-of_row : goal.wipe_rows-requires-clause-of_row
wipe_rows-requires-clause-of_row g c =
    c.as_mut_slice.ensures.len ∙ c.in_ok-weights.ensures.len ∙ c.row_samples.ensures.value

pub wipe_rows-requires-clause-of_out : goal.wipe_rows-requires-clause-of_out
wipe_rows-requires-clause-of_out g c =
    c.as_mut_slice-2.ensures.len ∙ c.in_ok-samples.ensures.len ∙ c.sample_count.ensures.value

pub returns-clause-long : goal.returns-clause-long
returns-clause-long g c =
    let samples = c.in_ok-samples.samples in
    let new = c.wipe_rows.new.out in
    let long = c.wipe_rows.ensures.long ∙ c.as_mut_slice-2.ensures.len in
    ap length (take_at new (drop (length new) samples.items) samples.len long)
    ∙ long ∙ c.in_ok-samples.ensures.len ∙ c.sample_count.ensures.value

pub returns-clause-each : goal.returns-clause-each
returns-clause-each g c = λ k h.
    let samples = c.in_ok-samples.samples in
    let new = c.wipe_rows.new.out in
    let same =
    take_at new (drop (length new) samples.items) samples.len
    (c.wipe_rows.ensures.long ∙ c.as_mut_slice-2.ensures.len) in
    ap (λ ys. get_or ys k 0) same
    ∙ c.wipe_rows.ensures.each k (subst (λ n. k < n) (ap length same) h)
