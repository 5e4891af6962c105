use Rattle.std.proofs.Common.{◌<◌, ◌≤◌, ◌+◌, ◌%◌, List, ℕ, length, min, take, drop, refl, sym, ap}
use Rattle.std.proofs.Common.{subst}
use Rattle.std.proofs.Common.{◌∙◌, arith}
use Rattle.std.proofs.lemmas.List.{length-take-le}
use Rattle.st_format.specs.Device.{TakesAll}
use Rattle.st_format.specs.Puts.{TakesEach}
use Rattle.st_format.proofs.Sinks.{took_more}
use Rattle.packet_plan.specs.Text.{datagram_texts}
use Rattle.packet_plan.proofs.Taken.{all_texts, length-texts, plan_sent, takes_kept, takes_more}
use Rattle.packet_plan.proofs.Taken.{packet_fits, packet_room, takes_none, texts_behind, texts_more}
use Rattle.packet_plan.proofs.sending.send_frame.Goals as goal

pub loop-index-preserved : goal.loop-index-preserved
loop-index-preserved g c =
    let l = c.loop-index in
    let w = c.write_packet-length in
    let packets = c.args.plan.now.packets in
    let p = g.R.Raster.values c.args.picture.now in
    let texts : List (List ℕ) = datagram_texts p c.args.stamp 0 packets in
    let lt : l.index < length packets =
    omega (arith, c.len-count.ensures.value, c.loop-index-test.true) in
    record {
      taken =
          takes_more (g.S.DatagramSink.taken c.args.sink.now) (g.S.DatagramSink.taken l.sink)
          (g.S.DatagramSink.taken c.put.new.self) (take l.index texts) (take (l.index + 1) texts)
          (take w.result w.new.buf)
          l.invariant.taken c.in-Ok.ensures.taken
          (texts_more p c.args.stamp packets l.index
          (take w.result w.new.buf) lt w.ensures.text);
      put =
          subst (λ (ds : List (List ℕ)).
          TakesEach g.S.DatagramSink.takes c.args.sink.now ds c.put.new.self)
          (sym (texts_more p c.args.stamp packets l.index
          (take w.result w.new.buf) lt w.ensures.text))
          (took_more g.S.DatagramSink.takes c.args.sink.now (take l.index texts) l.sink
          (take w.result w.new.buf) c.put.new.self l.invariant.put c.in-Ok.ensures.takes);
      failures = c.in-Ok.ensures.counted ∙ l.invariant.failures;
      known = λ some. record { is_picture = w.ensures.picture; is_stamp = w.ensures.stamp };
      long = w.ensures.length ∙ l.invariant.long;
    }

pub returns-in_default-clause-fault : goal.returns-in_default-clause-fault
returns-in_default-clause-fault g c =
    let l = c.loop-index in
    let w = c.write_packet-length in
    let packets = c.args.plan.now.packets in
    let p = g.R.Raster.values c.args.picture.now in
    let texts : List (List ℕ) = datagram_texts p c.args.stamp 0 packets in
    record {
      datagrams = texts;
      sent =
          plan_sent p c.args.stamp c.args.plan.now c.requires.format
          c.len-count.ensures.full
          (λ some. record { is_picture = w.ensures.picture; is_stamp = w.ensures.stamp });
      short =
          omega (
            arith,
            c.len-count.ensures.value,
            c.loop-index-test.true,
            length-texts p c.args.stamp 0 packets,
          );
      taken =
          takes_kept (g.S.DatagramSink.taken c.args.sink.now) (g.S.DatagramSink.taken l.sink)
          (g.S.DatagramSink.taken c.put.new.self)
          (take l.index texts) l.invariant.taken c.in_default.ensures.fault;
    }

pub returns-clause-fault : goal.returns-clause-fault
returns-clause-fault g c = tt

pub returns-clause-counted : goal.returns-clause-counted
returns-clause-counted g c = c.loop-index.invariant.failures

pub returns-clause-sent : goal.returns-clause-sent
returns-clause-sent g c =
    let l = c.loop-index in
    let packets = c.args.plan.now.packets in
    let p = g.R.Raster.values c.args.picture.now in
    let texts : List (List ℕ) = datagram_texts p c.args.stamp 0 packets in
    record {
      datagrams = texts;
      sent =
          plan_sent p c.args.stamp c.args.plan.now c.requires.format
          c.len-count.ensures.full
          (λ some. l.invariant.known
          (omega (arith, c.len-count.ensures.value, c.loop-index-test.false)));
      taken =
          subst (TakesAll (g.S.DatagramSink.taken c.args.sink.now) (g.S.DatagramSink.taken l.sink))
          (all_texts p c.args.stamp packets l.index
          (omega (
            arith,
            c.len-count.ensures.value,
            c.loop-index-test.false,
          ))) l.invariant.taken;
    }

pub returns-in_default-clause-puts : goal.returns-in_default-clause-puts
returns-in_default-clause-puts g c = tt

pub returns-in_default-clause-puts_part : goal.returns-in_default-clause-puts_part
returns-in_default-clause-puts_part g c =
    let l = c.loop-index in
    let w = c.write_packet-length in
    let packets = c.args.plan.now.packets in
    let p = g.R.Raster.values c.args.picture.now in
    let texts : List (List ℕ) = datagram_texts p c.args.stamp 0 packets in
    let lt : l.index < length packets =
    omega (arith, c.len-count.ensures.value, c.loop-index-test.true) in
    record {
      datagrams = texts;
      sent =
          plan_sent p c.args.stamp c.args.plan.now c.requires.format c.len-count.ensures.full
          (λ some. record { is_picture = w.ensures.picture; is_stamp = w.ensures.stamp });
      failed = record {
        last = l.sink;
        datagram = take w.result w.new.buf;
        more = drop (l.index + 1) texts;
        behind =
            texts_behind p c.args.stamp packets l.index (take w.result w.new.buf) lt
            w.ensures.text;
        taken = l.invariant.put;
        failed = c.in_default.ensures.fails;
      };
    }

pub returns-clause-puts : goal.returns-clause-puts
returns-clause-puts g c =
    let l = c.loop-index in
    let packets = c.args.plan.now.packets in
    let p = g.R.Raster.values c.args.picture.now in
    let texts : List (List ℕ) = datagram_texts p c.args.stamp 0 packets in
    let all : length packets ≤ l.index =
    omega (arith, c.len-count.ensures.value, c.loop-index-test.false) in
    record {
      datagrams = texts;
      sent =
          plan_sent p c.args.stamp c.args.plan.now c.requires.format c.len-count.ensures.full
          (λ some. l.invariant.known (omega arith));
      taken =
          subst (λ (ds : List (List ℕ)).
          TakesEach g.S.DatagramSink.takes c.args.sink.now ds l.sink)
          (all_texts p c.args.stamp packets l.index all) l.invariant.put;
    }

pub returns-clause-puts_part : goal.returns-clause-puts_part
returns-clause-puts_part g c = tt

pub loop-index-init : goal.loop-index-init
loop-index-init g c =
    record {
      taken = takes_none (g.S.DatagramSink.taken c.args.sink.now);
      put = refl;
      failures = refl;
      known = λ some. absurd (omega arith);
      long = refl;
    }

pub write_packet-length-requires-clause-index : goal.write_packet-length-requires-clause-index
write_packet-length-requires-clause-index g c =
    omega (arith, c.len-count.ensures.value, c.loop-index-test.true)

pub write_packet-length-requires-clause-format : goal.write_packet-length-requires-clause-format
write_packet-length-requires-clause-format g c = c.requires.format

pub write_packet-length-requires-clause-room : goal.write_packet-length-requires-clause-room
write_packet-length-requires-clause-room g c =
    let room =
    packet_room c.args.plan.now c.loop-index.index (length c.args.buf.now) c.requires.room
    (omega (arith, c.len-count.ensures.value, c.loop-index-test.true)) in
    omega (arith, room, c.loop-index.invariant.long)

pub slice_bounds-put-end : goal.slice_bounds-put-end
slice_bounds-put-end g c =
    let room =
    packet_room c.args.plan.now c.loop-index.index (length c.args.buf.now) c.requires.room
    (omega (arith, c.len-count.ensures.value, c.loop-index-test.true)) in
    let w = c.write_packet-length in
    omega (arith, room, w.ensures.value, w.ensures.length, c.loop-index.invariant.long)

pub slice_bounds-put-end-in-loop-index : goal.slice_bounds-put-end-in-loop-index
slice_bounds-put-end-in-loop-index g c =
    let room =
    packet_room c.args.plan.now c.loop-index.index (length c.args.buf.now) c.requires.room
    (omega (arith, c.len-count.ensures.value, c.loop-index-test.true)) in
    let w = c.write_packet-length in
    sym (length-take-le w.result w.new.buf
    (omega (arith, room, w.ensures.value, w.ensures.length, c.loop-index.invariant.long)))

pub put-requires : goal.put-requires
put-requires g c =
    let fits =
    packet_fits c.args.plan.now c.loop-index.index c.len-count.ensures.full
    (omega (arith, c.len-count.ensures.value, c.loop-index-test.true)) in
    let room =
    packet_room c.args.plan.now c.loop-index.index (length c.args.buf.now) c.requires.room
    (omega (arith, c.len-count.ensures.value, c.loop-index-test.true)) in
    let w = c.write_packet-length in
    omega (
      arith,
      fits,
      w.ensures.value,
      length-take-le w.result w.new.buf
          (omega (arith, room, w.ensures.value, w.ensures.length, c.loop-index.invariant.long)),
    )

pub returns-in_default-clause-length : goal.returns-in_default-clause-length
returns-in_default-clause-length g c =
    c.write_packet-length.ensures.length ∙ c.loop-index.invariant.long

pub returns-in_default-clause-sent : goal.returns-in_default-clause-sent
returns-in_default-clause-sent g c = tt

pub returns-in_default-clause-next : goal.returns-in_default-clause-next
returns-in_default-clause-next g c = tt

pub returns-in_default-clause-counted : goal.returns-in_default-clause-counted
returns-in_default-clause-counted g c =
    c.in_default.ensures.counted
    ∙ ap (λ (k : ℕ). min (k + 1) 18446744073709551615) c.loop-index.invariant.failures

pub returns-clause-length : goal.returns-clause-length
returns-clause-length g c = c.loop-index.invariant.long

pub returns-clause-next : goal.returns-clause-next
returns-clause-next g c =
    ap (λ (k : ℕ). (c.args.stamp.first + k) % 4294967296) c.len-count.ensures.value
