use Rattle.std.proofs.Common.{ℕ, ◌*◌, length, drop, ap, ◌∙◌, arith}
use Rattle.std.proofs.Math.Nat.{mul-le-mul}
use Rattle.std.proofs.lemmas.List.{take_at}
use Rattle.std.proofs.lemmas.Result.{err_from_is_err_and}
use Rattle.frame_assembly.proofs.settling.settled_samples.Goals as goal

pub overflow_mul-count : goal.overflow_mul-count
overflow_mul-count g c =
    omega (arith, mul-le-mul c.pgroup.ensures.most.2 c.requires.few)

pub read_settled-requires-clause-packed : goal.read_settled-requires-clause-packed
read_settled-requires-clause-packed g c =
    c.requires.packed

pub read_settled-requires-clause-few : goal.read_settled-requires-clause-few
read_settled-requires-clause-few g c =
    c.requires.few

pub read_settled-requires-clause-groups : goal.read_settled-requires-clause-groups
read_settled-requires-clause-groups g c =
    c.requires.groups

pub read_settled-requires-clause-base : goal.read_settled-requires-clause-base
read_settled-requires-clause-base g c =
    c.requires.base

pub read_settled-requires-clause-samples : goal.read_settled-requires-clause-samples
read_settled-requires-clause-samples g c =
    c.as_mut_slice.ensures.len ∙ c.in_ok-samples.ensures.len
    ∙ ap (λ (k : ℕ). k * length c.args.marks.now) c.pgroup.ensures.samples

pub returns-in_err-samples-clause-settled : goal.returns-in_err-samples-clause-settled
returns-in_err-samples-clause-settled g c =
    let p = err_from_is_err_and c.from_residual.result c.from_residual.ensures.1 in rw p.1 tt

pub returns-in_err-samples-clause-held : goal.returns-in_err-samples-clause-held
returns-in_err-samples-clause-held g c =
    let p = err_from_is_err_and c.from_residual.result c.from_residual.ensures.1 in rw p.1 tt

pub returns-clause-settled : goal.returns-clause-settled
returns-clause-settled g c =
    take_at c.read_settled.new.samples
    (drop (length c.read_settled.new.samples) c.in_ok-samples.samples.items)
    c.in_ok-samples.samples.len (c.read_settled.auto.samples ∙ c.as_mut_slice.ensures.len)
    ∙ c.read_settled.ensures.settled

pub returns-clause-held : goal.returns-clause-held
returns-clause-held g c =
    c.read_settled.ensures.held
