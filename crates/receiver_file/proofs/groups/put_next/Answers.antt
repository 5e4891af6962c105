use Rattle.std.proofs.Common.{List, ℕ, ◌<◌, ◌++◌, ◌∙◌, ap, arith, length, sym, take}
use Rattle.receiver_file.proofs.Placed.{group_left, group_one}
use Rattle.receiver_file.proofs.groups.put_next.Goals as goal

pub returns-clause-put : goal.returns-clause-put
returns-clause-put c =
    let some : 0 < length c.args.marks.now =
    group_left c.args.size 0 (length c.args.marks.now) 0 (length c.args.octets.now)
    c.requires.octets (omega arith) (omega arith) in
    c.put_wide_group.ensures.put
    ∙ ap (λ (t : List ℕ). take c.args.at c.args.room.now ++ t)
    (sym (group_one c.args.size c.args.marks.now c.args.octets.now some))
