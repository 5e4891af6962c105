use Rattle.st_format.proofs.Forms.{bits_found, depth_found, path_found, sampling_found}
use Rattle.st_format.proofs.laws.words_read_again.Goals as goal

pub returns-clause-sampling : goal.returns-clause-sampling
returns-clause-sampling c = sampling_found _

pub returns-clause-depth : goal.returns-clause-depth
returns-clause-depth c = depth_found _

pub returns-clause-bits : goal.returns-clause-bits
returns-clause-bits c = bits_found _

pub returns-clause-path : goal.returns-clause-path
returns-clause-path c = path_found _
