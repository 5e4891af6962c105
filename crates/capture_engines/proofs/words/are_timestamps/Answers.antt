use Rattle.std.proofs.Common.{ℕ, List, [], ◌∷◌, ◌++◌, refl, sym}
use Rattle.std.specs.Str.Parse.{digits_value}
use Rattle.run_outcome.proofs.CommaLemmas.{field_none, last_none, none_yet, one_more}
use Rattle.capture_engines.proofs.words.are_timestamps.Goals as goal

pub loop-first-init : goal.loop-first-init
loop-first-init c = ([], none_yet c.args.text.now)

pub loop-first-preserved : goal.loop-first-preserved
loop-first-preserved c =
    let so_far = c.loop-first.invariant in
    let n : ℕ = digits_value 10 c.in-Some.first.now in (
      so_far.0 ++ n ∷ [],
      one_more c.args.text.now so_far.0 c.loop-first.rest.now c.in-Some.first.now
          c.in-Some.more.now n so_far.1 (sym c.in-Some.ensures.parts)
          (record { is = c.in-Some-read_number.ensures.value.0; value = refl }),
    )

pub returns-in_default-read_number-clause-none : goal.returns-in_default-read_number-clause-none
returns-in_default-read_number-clause-none c =
    let so_far = c.loop-first.invariant in
    λ no. field_none c.args.text.now so_far.0 c.loop-first.rest.now c.in-Some.first.now
    c.in-Some.more.now so_far.1 (sym c.in-Some.ensures.parts)
    (λ n is. c.in_default-read_number.ensures.value is.is)

pub returns-in_default-read_number-2-clause-none : goal.returns-in_default-read_number-2-clause-none
returns-in_default-read_number-2-clause-none c =
    let so_far = c.loop-first.invariant in
    λ no. last_none c.args.text.now so_far.0 c.loop-first.rest.now so_far.1
    (sym c.in_default.ensures.parts) (λ n is. c.in_default-read_number-2.ensures.value is.is)

pub returns-clause-is : goal.returns-clause-is
returns-clause-is c =
    let so_far = c.loop-first.invariant in
    let n : ℕ = digits_value 10 c.loop-first.rest.now in
    λ yes. (
      so_far.0 ++ n ∷ [],
      so_far.1.forth (n ∷ []) (
        sym c.in_default.ensures.parts,
        record { is = c.in-Some-read_number-2.ensures.value.0; value = refl },
      ),
    )
