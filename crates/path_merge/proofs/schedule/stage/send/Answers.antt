use Rattle.std.proofs.Common.{arith, refl}
use Rattle.std.proofs.lemmas.List.{with_items_is}
use Rattle.path_merge.proofs.SendLemmas.{room_kept}
use Rattle.path_merge.proofs.schedule.stage.send.Goals as goal

pub returns-in_err-octets-clause-ready : goal.returns-in_err-octets-clause-ready
returns-in_err-octets-clause-ready g c = record {
  room =
      room_kept c.args.plan.now c.args.stage.now.buf c.as_mut_slice.result.now
      c.next_datagram.new.buf _ c.as_mut_slice.ensures.value c.next_datagram.ensures.room
      (with_items_is c.args.stage.now.buf c.next_datagram.new.buf
      (omega (arith, c.next_datagram.auto.buf, c.as_mut_slice.ensures.len)))
      c.requires.ready.room;
  index = c.next_datagram.ensures.index;
}

pub returns-in_err-push-clause-ready : goal.returns-in_err-push-clause-ready
returns-in_err-push-clause-ready g c = record {
  room =
      room_kept c.args.plan.now c.args.stage.now.buf c.as_mut_slice.result.now
      c.next_datagram.new.buf _ c.as_mut_slice.ensures.value c.next_datagram.ensures.room
      (with_items_is c.args.stage.now.buf c.next_datagram.new.buf
      (omega (arith, c.next_datagram.auto.buf, c.as_mut_slice.ensures.len)))
      c.requires.ready.room;
  index = c.next_datagram.ensures.index;
}

pub returns-clause-ready : goal.returns-clause-ready
returns-clause-ready g c = record {
  room =
      room_kept c.args.plan.now c.args.stage.now.buf c.as_mut_slice.result.now
      c.next_datagram.new.buf _ c.as_mut_slice.ensures.value c.next_datagram.ensures.room
      (with_items_is c.args.stage.now.buf c.next_datagram.new.buf
      (omega (arith, c.next_datagram.auto.buf, c.as_mut_slice.ensures.len)))
      c.requires.ready.room;
  index = c.next_datagram.ensures.index;
}

pub returns-clause-sent : goal.returns-clause-sent
returns-clause-sent g c = record {
  datagram = c.in_ok-octets.octets;
  is_next = c.in_ok-octets.ensures.sent;
  sent = c.in_ok-push.ensures.items;
  receivers = refl;
  handed = refl;
}
