use Rattle.std.proofs.Common.{arith}
use Rattle.st_format.specs.Pgroup.{bits_of}
use Rattle.media_file.proofs.Spelt.{piece_last, piece_most}
use Rattle.form_files.proofs.raw_writing.piece_samples.Goals as goal

pub returns-then-left-most-clause-few : goal.returns-then-left-most-clause-few
returns-then-left-most-clause-few c =
    (piece_last (bits_of c.args.format.now.depth) c.args.done _ c.most_samples-most.result
    c.args.count (omega arith) c.if-left-most.true c.most_samples-most.ensures.exact
    c.requires.done c.requires.count).few

pub returns-then-left-most-clause-whole : goal.returns-then-left-most-clause-whole
returns-then-left-most-clause-whole c =
    (piece_last (bits_of c.args.format.now.depth) c.args.done _ c.most_samples-most.result
    c.args.count (omega arith) c.if-left-most.true c.most_samples-most.ensures.exact
    c.requires.done c.requires.count).whole

pub returns-then-left-most-clause-next : goal.returns-then-left-most-clause-next
returns-then-left-most-clause-next c =
    (piece_last (bits_of c.args.format.now.depth) c.args.done _ c.most_samples-most.result
    c.args.count (omega arith) c.if-left-most.true c.most_samples-most.ensures.exact
    c.requires.done c.requires.count).next

pub returns-clause-whole : goal.returns-clause-whole
returns-clause-whole c =
    (piece_most (bits_of c.args.format.now.depth) c.args.done c.most_samples-most.result
    c.args.count c.most_samples-most.ensures.exact c.requires.done).whole

pub returns-clause-next : goal.returns-clause-next
returns-clause-next c =
    (piece_most (bits_of c.args.format.now.depth) c.args.done c.most_samples-most.result
    c.args.count c.most_samples-most.ensures.exact c.requires.done).next
