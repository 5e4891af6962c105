use Rattle.std.proofs.Common.{◌≡◌, codes, rules}
use Rattle.script_engines.proofs.WindowLemmas.{window_none}
use Rattle.script_engines.proofs.line.read_window.Goals as goal

pub returns-clause-none : goal.returns-clause-none
returns-clause-none g c =
    let other : c.args.text.now ≡ codes "-" → ⊥ = search rules in
    window_none c.args.text.now c.read_timestamps.result other c.read_timestamps.ensures.none
