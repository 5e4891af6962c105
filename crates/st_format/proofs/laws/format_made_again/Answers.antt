use Rattle.st_format.proofs.Made.{format_at-fields}
use Rattle.st_format.proofs.laws.format_made_again.Goals as goal

pub returns : goal.returns
returns c = format_at-fields
