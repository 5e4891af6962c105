use Rattle.st_format.proofs.Forms.{read_format-format_text, read_rate-rate_text}
use Rattle.st_format.proofs.laws.texts_read_again.Goals as goal

pub returns-clause-rate : goal.returns-clause-rate
returns-clause-rate c = read_rate-rate_text

pub returns-clause-format : goal.returns-clause-format
returns-clause-format c = read_format-format_text
