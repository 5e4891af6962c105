use Rattle.std.proofs.Common.{ℕ, arith, ap, ◌∙◌}
use Rattle.st_format.specs.Picture.{Values, timestamp_of}
use Rattle.packet_plan.specs.declared.stamp.Stamp.{Stamp}
use Rattle.st_format.specs.declared.format.Format.{Format}
use Rattle.path_merge.specs.Steps.{after_packet, datagram_at}
use Rattle.path_merge.proofs.SendLemmas.{next_made}
use Rattle.std.proofs.Common.{◌<◌, ◌≤◌, sym, subst, refl, length}
use Rattle.std.proofs.Common.{◌*◌}
use Rattle.std.proofs.lemmas.Result.{err_from_is_err_and}
use Rattle.path_receiver.proofs.Failed.{none_ok, ok_not_err}
use Rattle.path_merge.proofs.Stopped.{not_unfit}
use Rattle.path_receiver.proofs.Lives.{in_pair, in_static}
use Rattle.path_merge.proofs.SendLemmas.{below_all, fits_below, index_after, to_come_past, upto}
use Rattle.path_merge.specs.declared.schedule.sending.Next.{Next}
use Rattle.path_merge.proofs.schedule.sending.next_datagram.Goals as goal

abbrev with_time : ℕ → ℕ → ℕ → ℕ → Stamp
with_time payload_type first timestamp ssrc =
    record { payload_type = payload_type; first = first; timestamp = timestamp; ssrc = ssrc }

pub returns-clause-sent : goal.returns-clause-sent
returns-clause-sent g c =
    let own : Stamp =
    record {
      payload_type = c.args.stamp.payload_type;
      first =
          c.args.next.now.first;
      timestamp = c.timestamp.result;
      ssrc = c.args.stamp.ssrc;
    } in
    next_made c.args.plan.now c.args.stamp own c.args.pictures.now c.args.next.now
    c.move_on.new.next c.index-pictures-next.result c.in_ok-octets.octets.items
    (omega (arith, c.if-next-pictures.false)) c.requires.index
    (ap (λ
    (t : ℕ). with_time c.args.stamp.payload_type c.args.next.now.first t c.args.stamp.ssrc)
    c.timestamp.ensures
    ∙ ap
    (λ (f : Format). with_time c.args.stamp.payload_type c.args.next.now.first
    (timestamp_of f c.args.stamp.timestamp c.args.next.now.picture) c.args.stamp.ssrc)
    c.format.ensures)
    (c.in_ok-octets.ensures.text
    ∙ ap
    (λ (p : Values). datagram_at c.args.plan.now p own c.args.next.now.index)
    c.index-pictures-next.is)
    (c.move_on.ensures ∙ ap (λ (n : ℕ). after_packet n c.args.next.now) c.len.ensures.value)

pub returns-then-next-pictures-clause-sent : goal.returns-then-next-pictures-clause-sent
returns-then-next-pictures-clause-sent g c = tt

pub returns-then-next-pictures-clause-none : goal.returns-then-next-pictures-clause-none
returns-then-next-pictures-clause-none g c _ =
    to_come_past c.args.plan.now c.args.stamp c.args.pictures.now c.args.next.now
    c.if-next-pictures.true

pub returns-then-next-pictures-clause-room : goal.returns-then-next-pictures-clause-room
returns-then-next-pictures-clause-room g c = refl

pub returns-then-next-pictures-clause-index : goal.returns-then-next-pictures-clause-index
returns-then-next-pictures-clause-index g c = c.requires.index

pub bounds-pictures-next : goal.bounds-pictures-next
bounds-pictures-next g c = c.if-next-pictures.false

pub datagram_of-requires-clause-payload_type : goal.datagram_of-requires-clause-payload_type
datagram_of-requires-clause-payload_type g c = c.requires.payload_type

pub datagram_of-requires-clause-format : goal.datagram_of-requires-clause-format
datagram_of-requires-clause-format g c =
    ap (λ (p : Values). p.format) c.index-pictures-next.is
    ∙ c.requires.formats c.args.next.now.picture c.index-pictures-next.result
    c.if-next-pictures.false

pub datagram_of-requires-clause-room : goal.datagram_of-requires-clause-room
datagram_of-requires-clause-room g c = c.requires.room

pub datagram_of-requires-clause-index : goal.datagram_of-requires-clause-index
datagram_of-requires-clause-index g c = c.requires.index

pub move_on-requires-clause-index : goal.move_on-requires-clause-index
move_on-requires-clause-index g c =
    subst (λ (n : ℕ). c.args.next.now.index < n) (sym c.len.ensures.value) c.requires.index

pub move_on-requires-clause-picture : goal.move_on-requires-clause-picture
move_on-requires-clause-picture g c =
    below_all c.args.next.now.picture (length c.args.pictures.now) 10000 c.if-next-pictures.false
    c.requires.few

pub move_on-requires-clause-count : goal.move_on-requires-clause-count
move_on-requires-clause-count g c =
    subst (λ (n : ℕ). n ≤ 8192 * 8192) (sym c.len.ensures.value) c.len.ensures.most

pub returns-clause-room : goal.returns-clause-room
returns-clause-room g c = c.in_ok-octets.ensures.room

pub returns-clause-index : goal.returns-clause-index
returns-clause-index g c =
    subst (λ (n : Next). n.index < length c.args.plan.now.packets)
    (sym (c.move_on.ensures ∙ ap (λ (n : ℕ). after_packet n c.args.next.now) c.len.ensures.value))
    (index_after (length c.args.plan.now.packets) c.args.next.now c.requires.index)

pub drop-alloc-requires : goal.drop-alloc-requires
drop-alloc-requires g c κs within = within

pub format-requires : goal.format-requires
format-requires g c κs within = within

pub overflow_cast-next : goal.overflow_cast-next
overflow_cast-next g c =
    fits_below c.args.next.now.picture (length c.args.pictures.now) c.if-next-pictures.false
    c.requires.few

pub timestamp-requires : goal.timestamp-requires
timestamp-requires g c = tt

pub offset_bounds-pictures-next : goal.offset_bounds-pictures-next
offset_bounds-pictures-next g c = upto _ _ c.if-next-pictures.false

pub branch-octets-requires : goal.branch-octets-requires
branch-octets-requires g c κs within = (in_pair _ _ within, in_static _)

pub from_residual-requires : goal.from_residual-requires
from_residual-requires g c κs within = (in_pair _ _ within, (in_static _, in_static _))

pub returns-in_err-octets-clause-sent : goal.returns-in_err-octets-clause-sent
returns-in_err-octets-clause-sent g c =
    let p = err_from_is_err_and c.from_residual.result c.from_residual.ensures.1 in
    none_ok c.from_residual.result p.0 _ p.1

pub returns-in_err-octets-clause-none : goal.returns-in_err-octets-clause-none
returns-in_err-octets-clause-none g c unfit =
    let p = err_from_is_err_and c.from_residual.result c.from_residual.ensures.1 in
    absurd (not_unfit c.from_residual.result c.datagram_of.result p.0 c.in_err-octets.field-0.0 p.1
    p.2 c.in_err-octets.was c.datagram_of.ensures.memory unfit)

pub returns-in_err-octets-clause-room : goal.returns-in_err-octets-clause-room
returns-in_err-octets-clause-room g c = c.in_err-octets.ensures.room

pub returns-in_err-octets-clause-index : goal.returns-in_err-octets-clause-index
returns-in_err-octets-clause-index g c = c.requires.index

pub len-requires : goal.len-requires
len-requires g c κs within = within

pub returns-clause-none : goal.returns-clause-none
returns-clause-none g c same = absurd (ok_not_err _ _ same)
