use Rattle.stream_laws.proofs.SameStream.{files_taken}
use Rattle.stream_laws.proofs.laws.all_of_files.Goals as goal

pub returns : goal.returns
returns c = files_taken
