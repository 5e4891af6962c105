use Rattle.std.proofs.Common.{arith, ap, ◌∙◌}
use Rattle.std.proofs.lemmas.List.{take_all}
use Rattle.frame_assembly.specs.Settled.{settled_picture}
use Rattle.key_mix.specs.Sending.{HasBase, settled_inputs}
use Rattle.key_mix.proofs.Inputs.{map_more, of_item}
use Rattle.key_mix.proofs.preparing.settle_inputs.Goals as goal

pub loop-input-init : goal.loop-input-init
loop-input-init g c = c.new-pictures.ensures.items

pub bounds-inputs-input-index : goal.bounds-inputs-input-index
bounds-inputs-input-index g c = c.loop-input-test.true

pub settle-requires : goal.settle-requires
settle-requires g c =
    of_item HasBase c.args.inputs.now c.loop-input.input-index c.input-item.result c.requires
    c.loop-input-test.true c.input-item.is

pub loop-input-smaller : goal.loop-input-smaller
loop-input-smaller g c = omega (arith, c.loop-input-test.true)

pub loop-input-preserved : goal.loop-input-preserved
loop-input-preserved g c =
    map_more (λ i. settled_picture i.frame.now i.base) c.args.inputs.now c.loop-input.input-index
    c.input-item.result c.loop-input.pictures.items c.push.new.self.items
    c.in_ok-settle.field-0 c.loop-input-test.true c.input-item.is c.loop-input.invariant
    c.in_ok-settle.ensures.settled c.in_ok-push.ensures.items

pub returns : goal.returns
returns g c =
    c.loop-input.invariant
    ∙ ap settled_inputs
    (take_all c.loop-input.input-index c.args.inputs.now (omega (arith, c.loop-input-test.false)))
