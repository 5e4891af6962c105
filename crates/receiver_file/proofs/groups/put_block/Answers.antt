use Rattle.std.proofs.Common.{◌∙◌, append-nil, arith, refl, sym, take}
use Rattle.receiver_file.specs.Marked.{marked_text}
use Rattle.receiver_file.proofs.Placed.{block_more}
use Rattle.receiver_file.proofs.groups.put_block.Goals as goal

pub loop-group-init : goal.loop-group-init
unfolding marked_text
loop-group-init c = record {
  from = omega arith;
  end = omega arith;
  room = refl;
  put = sym (append-nil (take c.args.at c.args.room.now));
}

pub loop-group-preserved : goal.loop-group-preserved
loop-group-preserved c =
    let so_far = c.loop-group.invariant in
    let put = c.put_wide_behind-end in
    record {
      from = omega (arith, so_far.from);
      end = omega (arith, put.ensures.value, so_far.end);
      room = put.ensures.length ∙ so_far.room;
      put =
          block_more c.args.size c.loop-group._group c.loop-group.from c.args.octets.now
          (take c.args.at c.args.room.now) (take c.loop-group.end c.loop-group.room)
          (take put.result put.new.room) (omega arith) so_far.from so_far.put put.ensures.put;
    }
