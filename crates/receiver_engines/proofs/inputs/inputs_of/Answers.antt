use Rattle.std.proofs.Common.{◌<◌, ap, length, rules, subst, sym, ◌∙◌}
use Rattle.std.specs.List.{AllByRecursion}
use Rattle.key_mix.specs.Sending.{HasBase, input_formats}
use Rattle.receiver_engines.proofs.Settling.{filled_bases, filled_formats, held_bases, held_formats}
use Rattle.receiver_engines.proofs.Settling.{settled_held, settled_unheld}
use Rattle.receiver_engines.proofs.inputs.inputs_of.Goals as goal

pub returns-in_default-clause-settled : goal.returns-in_default-clause-settled
returns-in_default-clause-settled g c =
    settled_unheld g.row.A.Denot c.args.fill c.args.held.now c.args.frames.now
    c.in_ok-inputs.inputs.items c.in_default.not-Some c.in_ok-inputs.ensures.filled

pub returns-in_default-clause-bases : goal.returns-in_default-clause-bases
returns-in_default-clause-bases g c =
    subst (λ l. AllByRecursion HasBase l) (sym c.in_ok-inputs.ensures.filled)
    (filled_bases g.row.A.Denot c.args.fill c.args.frames.now c.requires.fill)

pub returns-clause-settled : goal.returns-clause-settled
returns-clause-settled g c =
    let any : 0 < length c.args.frames.now = search rules in
    settled_held g.row.A.Denot c.args.fill c.args.held.now _ c.args.frames.now _
    c.in_ok-inputs.inputs.items c.with_held.result.items c.in-Some.is c.index-frames-0.is any
    c.in_ok-inputs.ensures.filled c.with_held.ensures

pub returns-clause-bases : goal.returns-clause-bases
returns-clause-bases g c =
    let any : 0 < length c.args.frames.now = search rules in
    held_bases g.row.A.Denot c.args.fill c.args.held.now _ c.args.frames.now _
    c.in_ok-inputs.inputs.items c.with_held.result.items c.in-Some.is c.index-frames-0.is any
    c.requires.fill c.requires.held c.in_ok-inputs.ensures.filled c.with_held.ensures

pub returns-in_default-clause-formats : goal.returns-in_default-clause-formats
returns-in_default-clause-formats g c =
    ap input_formats c.in_ok-inputs.ensures.filled
    ∙ filled_formats g.row.A.Denot c.args.fill c.args.frames.now

pub returns-clause-formats : goal.returns-clause-formats
returns-clause-formats g c =
    let any : 0 < length c.args.frames.now = search rules in
    held_formats g.row.A.Denot c.args.fill _ c.args.frames.now _ c.in_ok-inputs.inputs.items
    c.with_held.result.items c.index-frames-0.is any c.in_ok-inputs.ensures.filled
    c.with_held.ensures
