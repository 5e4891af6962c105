use Rattle.std.proofs.Common.{◌∙◌, ◌<◌, ℕ, List, append-nil, length, refl, sym}
use Rattle.std.specs.List.{enumerate_from}
use Rattle.std.proofs.lemmas.Result.{err_from_is_err_and}
use Rattle.run_outcome.proofs.Printed.{texts_all, texts_cut, texts_more}
use Rattle.path_receiver.specs.Frames.{State}
use Rattle.script_engines.specs.Rehearsed.{receiver_lines}
use Rattle.script_engines.proofs.RehearsedLemmas.{numbered_before, numbered_end, numbered_item}
use Rattle.script_engines.proofs.rehearsing.print_receivers.Goals as goal

pub loop-number-init : goal.loop-number-init
loop-number-init g c = record { printed = sym (append-nil _); failures = refl }

pub loop-number-preserved : goal.loop-number-preserved
loop-number-preserved g c =
    let rs : List State = c.args.receivers.now in
    let i : ℕ = c.loop-number.number in
    let r : State = c.index-receivers-number.result in
    let lt : i < length rs = c.loop-number-test.true in
    record {
      printed =
          texts_more receiver_lines (enumerate_from 0 rs) i (i, r) (i, r) _ _ _
          (numbered_before rs i lt) (numbered_item rs i r lt c.index-receivers-number.is)
          c.loop-number.invariant.printed c.in_ok-print_receiver.ensures.printed;
      failures = c.in_ok-print_receiver.ensures.failures ∙ c.loop-number.invariant.failures;
    }

pub returns-in_err-print_receiver-clause-cut : goal.returns-in_err-print_receiver-clause-cut
returns-in_err-print_receiver-clause-cut g c =
    let p = err_from_is_err_and c.from_residual.result c.from_residual.ensures.1 in
    let rs : List State = c.args.receivers.now in
    let i : ℕ = c.loop-number.number in
    let r : State = c.index-receivers-number.result in
    let lt : i < length rs = c.loop-number-test.true in
    rw (p.1)
    (texts_cut receiver_lines (enumerate_from 0 rs) i (i, r) (i, r) _ _ _
    (numbered_before rs i lt) (numbered_item rs i r lt c.index-receivers-number.is)
    c.loop-number.invariant.printed c.in_err-print_receiver.ensures.cut)

pub returns-clause-printed : goal.returns-clause-printed
returns-clause-printed g c =
    let rs : List State = c.args.receivers.now in
    let i : ℕ = c.loop-number.number in
    texts_all receiver_lines (enumerate_from 0 rs) i _ _
    (numbered_end rs i c.loop-number-test.false) c.loop-number.invariant.printed
