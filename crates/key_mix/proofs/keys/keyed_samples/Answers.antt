use Rattle.std.proofs.Common.{◌<◌, get_or, length, drop, ap, subst, ◌∙◌}
use Rattle.std.proofs.lemmas.List.{take_at}
use Rattle.key_mix.proofs.keys.keyed_samples.Goals as goal

pub key_rows-requires-clause-of_a : goal.key_rows-requires-clause-of_a
key_rows-requires-clause-of_a g c = c.requires.of_a

pub key_rows-requires-clause-of_b : goal.key_rows-requires-clause-of_b
key_rows-requires-clause-of_b g c = c.requires.of_b

pub key_rows-requires-clause-of_by : goal.key_rows-requires-clause-of_by
key_rows-requires-clause-of_by g c = c.requires.of_by

pub key_rows-requires-clause-alike : goal.key_rows-requires-clause-alike
key_rows-requires-clause-alike g c = c.requires.alike

pub key_rows-requires-clause-of_row : goal.key_rows-requires-clause-of_row
key_rows-requires-clause-of_row g c =
    c.as_mut_slice.ensures.len ∙ c.in_ok-keys.ensures.len ∙ c.row_samples.ensures.value

pub key_rows-requires-clause-of_out : goal.key_rows-requires-clause-of_out
key_rows-requires-clause-of_out g c =
    c.as_mut_slice-2.ensures.len ∙ c.in_ok-samples.ensures.len ∙ c.sample_count.ensures.value

pub returns-clause-long : goal.returns-clause-long
returns-clause-long g c =
    let samples = c.in_ok-samples.samples in
    let new = c.key_rows.new.out in
    let long = c.key_rows.ensures.long ∙ c.as_mut_slice-2.ensures.len in
    ap length (take_at new (drop (length new) samples.items) samples.len long)
    ∙ long ∙ c.in_ok-samples.ensures.len ∙ c.sample_count.ensures.value

pub returns-clause-each : goal.returns-clause-each
returns-clause-each g c = λ k h.
    let samples = c.in_ok-samples.samples in
    let new = c.key_rows.new.out in
    let same =
    take_at new (drop (length new) samples.items) samples.len
    (c.key_rows.ensures.long ∙ c.as_mut_slice-2.ensures.len) in
    ap (λ ys. get_or ys k 0) same
    ∙ c.key_rows.ensures.each k (subst (λ n. k < n) (ap length same) h)
