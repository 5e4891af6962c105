use Rattle.std.proofs.Common.{length}
use Rattle.std.proofs.lemmas.Result.{err_from_is_err_and, on_err_weaker, on_ok_weaker}
use Rattle.media_file.specs.Fronts.{front_head}
use Rattle.st_format.proofs.Octets.{stays_untold}
use Rattle.media_file.proofs.Written.{part_first, part_then, prefix_first, prefix_then, took_both}
use Rattle.media_file.proofs.writing.write_front.Goals as goal

pub returns-in_err-write_whole-clause-fault : goal.returns-in_err-write_whole-clause-fault
returns-in_err-write_whole-clause-fault g c =
    let p = err_from_is_err_and c.from_residual.result c.from_residual.ensures.1 in
    rw (p.1)
    (prefix_first _ _ (front_head (length c.args.text.now)) c.args.text.now
    (rw c.front_of-front.ensures at c.in_err-write_whole.ensures.fault))

pub returns-clause-fault : goal.returns-clause-fault
returns-clause-fault g c =
    on_err_weaker c.write_whole-2.result
    (λ q. prefix_then _ _ _ (front_head (length c.args.text.now)) c.args.text.now
    (rw c.front_of-front.ensures at c.in_ok-write_whole.ensures.ok) q) c.write_whole-2.ensures.fault

pub returns-clause-untold : goal.returns-clause-untold
returns-clause-untold g c =
    stays_untold _ _ _ c.in_ok-write_whole.ensures.untold c.write_whole-2.ensures.untold

pub returns-in_err-write_whole-clause-part : goal.returns-in_err-write_whole-clause-part
returns-in_err-write_whole-clause-part g c =
    let p = err_from_is_err_and c.from_residual.result c.from_residual.ensures.1 in
    rw (p.1)
    (part_first _ _ (front_head (length c.args.text.now)) c.args.text.now
    (rw c.front_of-front.ensures at c.in_err-write_whole.ensures.part))

pub returns-clause-took : goal.returns-clause-took
returns-clause-took g c =
    on_ok_weaker c.write_whole-2.result
    (λ q. took_both _ _ _ (front_head (length c.args.text.now)) c.args.text.now
    (rw c.front_of-front.ensures at c.in_ok-write_whole.ensures.took) q)
    c.write_whole-2.ensures.took

pub returns-clause-part : goal.returns-clause-part
returns-clause-part g c =
    on_err_weaker c.write_whole-2.result
    (λ q. part_then _ _ _ (front_head (length c.args.text.now)) c.args.text.now
    (rw c.front_of-front.ensures at c.in_ok-write_whole.ensures.took) q)
    c.write_whole-2.ensures.part
