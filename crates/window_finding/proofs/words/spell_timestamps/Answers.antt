use Rattle.std.proofs.Common.{◌-◌, drop, length, take}
use Rattle.window_finding.proofs.Spelling.{all_spelled, more_spelled, rest_is}
use Rattle.window_finding.proofs.words.spell_timestamps.Goals as goal

pub loop-timestamp-preserved : goal.loop-timestamp-preserved
loop-timestamp-preserved g c =
    let w = c.args.window.now in
    more_spelled w (take (length w - 1) (drop 1 w)) c.loop-timestamp.text.items
    c.push.new.self.items c.put_number-in-loop-timestamp.new.text.items
    c.loop-timestamp.timestamp-index (rest_is w) c.loop-timestamp.invariant
    c.in_ok-push.ensures.items c.in_ok-put_number-2.ensures c.loop-timestamp-test.true

pub returns : goal.returns
returns g c =
    let w = c.args.window.now in
    all_spelled w (take (length w - 1) (drop 1 w)) c.loop-timestamp.text.items
    c.loop-timestamp.timestamp-index c.requires (rest_is w) c.loop-timestamp.invariant
    c.loop-timestamp-test.false (λ k. (c.type_inv.window k).fits)
