use Rattle.std.proofs.Common.{◌<◌, ◌+◌, ℕ, List, append-nil, arith, eqb, length, refl, sym, take}
use Rattle.std.proofs.Common.{◌∙◌}
use Rattle.packet_plan.specs.Plan.{packet_at}
use Rattle.packet_plan.specs.Text.{datagram_text, datagram_texts}
use Rattle.packet_plan.proofs.Taken.{texts_more}
use Rattle.capture_engines.specs.declared.looping.TheConstants.{STAMP}
use Rattle.capture_engines.proofs.Passing.{more_counted, none_came, none_counted, put_more}
use Rattle.capture_engines.proofs.looping.pass.Goals as goal

pub loop-index-init : goal.loop-index-init
loop-index-init g c = record {
  room = c.requires.room;
  few = omega arith;
  put = sym (append-nil (g.L.DatagramSink.took c.args.link.now));
  came =
      none_came c.args.receiver.now (g.L.DatagramSource.came c.args.link.now) c.requires.holds;
  counted = none_counted (g.L.DatagramSource.delivered c.args.link.now);
  opening = refl;
  turns = omega arith;
  failures = refl;
}

pub loop-index-preserved : goal.loop-index-preserved
loop-index-preserved g c =
    let before = c.loop-index.invariant in
    let packets = c.args.plan.now.packets in
    let texts : List (List ℕ) = datagram_texts c.args.picture.now STAMP 0 packets in
    let i = c.loop-index.index in
    let d : List ℕ =
    datagram_text c.args.picture.now STAMP i (eqb (i + 1) (length packets))
    (packet_at c.args.plan.now i) in
    let lt : i < length packets =
    omega (arith, c.turns_of-sent.ensures, c.loop-index-test.true, c.len.ensures.value) in
    record {
      room = c.in_ok-delivered.ensures.room;
      few = omega (arith, before.few, c.in_ok-delivered.ensures.few);
      put =
          put_more (g.L.DatagramSink.took c.args.link.now)
          (g.L.DatagramSink.took c.loop-index.link) (g.L.DatagramSink.took c.pass_one.new.link)
          (take i texts) (take (i + 1) texts) d before.put c.in_ok-delivered.ensures.put
          (texts_more c.args.picture.now STAMP packets i d lt refl);
      came =
          c.in_ok-delivered.ensures.came c.loop-index.index c.loop-index.delivered
          (g.L.DatagramSource.came c.args.link.now) before.came;
      counted =
          more_counted c.loop-index.delivered c.in_ok-delivered.field-0
          (g.L.DatagramSource.delivered c.args.link.now)
          (g.L.DatagramSource.delivered c.loop-index.link)
          (g.L.DatagramSource.delivered c.pass_one.new.link) before.counted
          c.in_ok-delivered.ensures.counted;
      opening = c.in_ok-delivered.ensures.opening ∙ before.opening;
      turns = omega (arith, before.turns, c.in_ok-delivered.ensures.turns);
      failures = omega (arith, before.failures, c.in_ok-delivered.ensures.failures);
    }
