use Rattle.std.proofs.Common.{◌%◌, ◌^◌, ◌+◌, ◌++◌, List, [], ℕ}
use Rattle.std.proofs.lemmas.Result.{err_from_is_err_and, on_err_weaker, on_ok_weaker}
use Rattle.st_format.proofs.Octets.{stays_untold}
use Rattle.st_format.specs.declared.path.Path.TheVariants.{A, B}
use Rattle.media_file.specs.Records.{record_text}
use Rattle.media_file.specs.Writer.{entry}
use Rattle.media_file.proofs.Written.{both_whole, both_cut, part_first, prefix_first, took_cut}
use Rattle.media_file.proofs.Written.{took_whole}
use Rattle.media_file.proofs.writer.write_datagram.Goals as goal

pub returns-in_err-write_record-in-Both-clause-fault :
    goal.returns-in_err-write_record-in-Both-clause-fault
returns-in_err-write_record-in-Both-clause-fault g c =
    let p = err_from_is_err_and c.from_residual.result c.from_residual.ensures.1 in
    let b : List ℕ = record_text (entry B ((c.args.moment + 1) % 2 ^ 64) c.args.octets.now) in
    rw (p.1, c.in-Both.is)
    (prefix_first _ _ (record_text (entry A c.args.moment c.args.octets.now))
    (b ++ []) c.in_err-write_record-in-Both.ensures.fault)

pub returns-in_ok-write_record-in-Both-clause-ok : goal.returns-in_ok-write_record-in-Both-clause-ok
returns-in_ok-write_record-in-Both-clause-ok g c =
    rw c.in-Both.is
    (on_ok_weaker c.write_record-in-Both-2.result
    (λ q. both_whole _ _ _
    (record_text (entry A c.args.moment c.args.octets.now)) _
    c.in_ok-write_record-in-Both.ensures.ok q)
    c.write_record-in-Both-2.ensures.ok)

pub returns-in_ok-write_record-in-Both-clause-fault :
    goal.returns-in_ok-write_record-in-Both-clause-fault
returns-in_ok-write_record-in-Both-clause-fault g c =
    rw c.in-Both.is
    (on_err_weaker c.write_record-in-Both-2.result
    (λ q. both_cut _ _ _
    (record_text (entry A c.args.moment c.args.octets.now)) _
    c.in_ok-write_record-in-Both.ensures.ok q)
    c.write_record-in-Both-2.ensures.fault)

pub returns-in_ok-write_record-in-Both-clause-untold :
    goal.returns-in_ok-write_record-in-Both-clause-untold
returns-in_ok-write_record-in-Both-clause-untold g c =
    stays_untold _ _ _ c.in_ok-write_record-in-Both.ensures.untold
    c.write_record-in-Both-2.ensures.untold

pub returns-in_err-write_record-in-Both-clause-part :
    goal.returns-in_err-write_record-in-Both-clause-part
returns-in_err-write_record-in-Both-clause-part g c =
    let p = err_from_is_err_and c.from_residual.result c.from_residual.ensures.1 in
    let b : List ℕ = record_text (entry B ((c.args.moment + 1) % 2 ^ 64) c.args.octets.now) in
    rw (p.1, c.in-Both.is)
    (part_first _ _ (record_text (entry A c.args.moment c.args.octets.now))
    (b ++ []) c.in_err-write_record-in-Both.ensures.part)

pub returns-in_ok-write_record-in-Both-clause-took :
    goal.returns-in_ok-write_record-in-Both-clause-took
returns-in_ok-write_record-in-Both-clause-took g c =
    rw c.in-Both.is
    (on_ok_weaker c.write_record-in-Both-2.result
    (λ q. took_whole _ _ _
    (record_text (entry A c.args.moment c.args.octets.now)) _
    c.in_ok-write_record-in-Both.ensures.took q)
    c.write_record-in-Both-2.ensures.took)

pub returns-in_ok-write_record-in-Both-clause-part :
    goal.returns-in_ok-write_record-in-Both-clause-part
returns-in_ok-write_record-in-Both-clause-part g c =
    rw c.in-Both.is
    (on_err_weaker c.write_record-in-Both-2.result
    (λ q. took_cut _ _ _
    (record_text (entry A c.args.moment c.args.octets.now)) _
    c.in_ok-write_record-in-Both.ensures.took q)
    c.write_record-in-Both-2.ensures.part)
