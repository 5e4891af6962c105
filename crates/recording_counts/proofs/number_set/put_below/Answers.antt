use Rattle.std.proofs.Common.{◌≡◌, ◌∙◌, ◌+◌, ◌<◌, ap, arith, false, refl, subst, sym, ℕ}
use Rattle.std.specs.BTreeMap.{get}
use Rattle.std.specs.Ordering.{nat_cmp}
use Rattle.recording_counts.specs.Runs.{BeginsRun, reaches}
use Rattle.recording_counts.proofs.TreeLaws.{alone, apart_from, begins, led, put_apart, reached, there, unreached}
use Rattle.recording_counts.proofs.number_set.put_below.Goals as goal

pub returns-then-reaches-clause-put : goal.returns-then-reaches-clause-put
returns-then-reaches-clause-put g c = (
  there c.args.top c.args.below.now c.args.number c.requires.runs
      (reached c.args.top.first c.args.below.now c.args.number c.requires.runs.1
      c.last_from-before.result c.last_from-before.ensures
      (sym c.reaches.ensures ∙ c.if-reaches.true)),
  refl,
)

pub put_between-requires-clause-begins : goal.put_between-requires-clause-begins
put_between-requires-clause-begins g c =
    subst (λ (f : ℕ). BeginsRun f c.args.number c.args.below.now) (sym c.begin_of-first.ensures)
    (begins c.args.top.first c.args.below.now c.args.number c.requires.runs.1
    c.last_from-before.result c.last_from-before.ensures
    (sym c.reaches.ensures ∙ c.if-reaches.false))

pub returns-then-top-number-gt1-clause-put : goal.returns-then-top-number-gt1-clause-put
returns-then-top-number-gt1-clause-put g c =
    let none =
    unreached c.args.top.first c.args.below.now c.args.number c.requires.runs.1
    c.last_from-before.result c.last_from-before.ensures
    (sym c.reaches.ensures ∙ c.if-reaches.false) in
    let room : c.args.number + 1 < c.args.top.first =
    omega (arith, c.if-top-number-gt1.true, c.requires.below) in
    let put = c.in_ok-put_between.ensures.put c.args.top.first room c.requires.runs.1 in
    put_apart c.args.top c.args.below.now c.args.number c.requires.runs c.put_between.new.runs
    c.requires.below none put.0 put.1

pub returns-then-first-number-clause-put : goal.returns-then-first-number-clause-put
returns-then-first-number-clause-put g c =
    let no : reaches c.last_from-before.result c.args.number ≡ false =
    sym c.reaches.ensures ∙ c.if-reaches.false in
    let b : BeginsRun c.begin_of-first.result c.args.number c.args.below.now =
    subst (λ (f : ℕ). BeginsRun f c.args.number c.args.below.now) (sym c.begin_of-first.ensures)
    (begins c.args.top.first c.args.below.now c.args.number c.requires.runs.1
    c.last_from-before.result c.last_from-before.ensures no) in
    led c.args.top c.args.below.now c.args.number c.requires.runs c.remove.new.self
    c.begin_of-first.result (omega (arith, c.if-top-number-gt1.false, c.requires.below))
    (unreached c.args.top.first c.args.below.now c.args.number c.requires.runs.1
    c.last_from-before.result c.last_from-before.ensures no)
    b c.remove.ensures.ordered c.remove.ensures.updates.1
    (λ q other. c.remove.ensures.updates.2 q (apart_from c.begin_of-first.result q other))

pub returns-else-first-number-clause-put : goal.returns-else-first-number-clause-put
returns-else-first-number-clause-put g c =
    let no : reaches c.last_from-before.result c.args.number ≡ false =
    sym c.reaches.ensures ∙ c.if-reaches.false in
    let b : BeginsRun c.begin_of-first.result c.args.number c.args.below.now =
    subst (λ (f : ℕ). BeginsRun f c.args.number c.args.below.now) (sym c.begin_of-first.ensures)
    (begins c.args.top.first c.args.below.now c.args.number c.requires.runs.1
    c.last_from-before.result c.last_from-before.ensures no) in
    let same : c.begin_of-first.result ≡ c.args.number =
    omega (arith, c.if-first-number.false, b.bound) in
    led c.args.top c.args.below.now c.args.number c.requires.runs c.args.below.now
    c.begin_of-first.result (omega (arith, c.if-top-number-gt1.false, c.requires.below))
    (unreached c.args.top.first c.args.below.now c.args.number c.requires.runs.1
    c.last_from-before.result c.last_from-before.ensures no)
    b c.requires.runs.1.ordered
    (ap (get nat_cmp c.args.below.now) same
    ∙ alone c.args.top c.args.below.now c.args.number c.requires.runs
    (subst (λ (f : ℕ). BeginsRun f c.args.number c.args.below.now) same b))
    (λ q other. refl)
