use Rattle.media_file.proofs.Splits.{run_read}
use Rattle.std.proofs.Common.{ap, sym, map}
use Rattle.media_file.specs.Reader.{due_of_entry}
use Rattle.media_file.proofs.laws.turns_of_run.Goals as goal

pub returns : goal.returns
returns c octets rest entries bytes run =
    ap (map due_of_entry) (sym (run_read octets rest entries bytes run))
