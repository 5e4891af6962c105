use Rattle.std.proofs.Common.{ℕ, ap, append-nil, arith, length, sym, take}
use Rattle.std.proofs.lemmas.List.{length-drop}
use Rattle.std.proofs.Math.Nat.{mul-add}
use Rattle.receiver_file.specs.Marked.{marked_text}
use Rattle.receiver_file.proofs.MarkedRows.{slice_rest}
use Rattle.receiver_file.proofs.Placed.{groups_more, groups_sized}
use Rattle.receiver_file.proofs.groups.put_more.Goals as goal

pub groups-init : goal.groups-init
unfolding marked_text
groups-init c = record {
  from = omega arith;
  count = omega arith;
  within = c.requires.room;
  put = sym (append-nil (take c.args.at c.args.room.now));
}

pub groups-preserved : goal.groups-preserved
groups-preserved c =
    let so_far = c.groups.invariant in
    let size : ℕ = c.args.size in
    let g : ℕ = c.groups.count in
    let more : ℕ = c.put_next-more.result.0 in
    record {
      from = omega (arith, so_far.from, mul-add size g more);
      count =
          omega (
            arith,
            c.put_next-more.ensures.count,
            so_far.count,
            ap length (slice_rest g c.args.marks.now),
            length-drop g c.args.marks.now,
          );
      within = omega (arith, c.put_next-more.ensures.within, c.put_next-more.ensures.length);
      put =
          groups_more size g more c.groups.from c.args.marks.now c.args.octets.now
          (take c.args.at c.args.room.now) (take c.groups.end c.groups.room)
          (take c.put_next-more.result.1 c.put_next-more.new.room) so_far.from so_far.put
          c.put_next-more.ensures.put;
    }

pub put_next-more-requires-clause-octets : goal.put_next-more-requires-clause-octets
put_next-more-requires-clause-octets c =
    groups_sized c.args.size c.groups.count c.groups.from c.args.marks.now c.args.octets.now
    c.groups.invariant.from c.groups.invariant.count c.requires.octets
