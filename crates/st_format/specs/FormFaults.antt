-- The numbers and the names of the faults of texts (own).
use Rattle.std.specs.Prelude.{ℕ, List, codes}
use Rattle.st_format.specs.declared.words.WordFault.{WordFault}
use Rattle.st_format.specs.declared.words.WordFault.TheVariants.{UnknownSampling, UnknownDepth}
use Rattle.st_format.specs.declared.words.WordFault.TheVariants.{UnknownPath}
use Rattle.st_format.specs.declared.format_text.FormatTextFault.{FormatTextFault}
use Rattle.st_format.specs.declared.format_text.FormatTextFault.TheVariants.{NotFormat, NotRate}
use Rattle.st_format.specs.declared.format_text.FormatTextFault.TheVariants.{Refused}
use Rattle.st_format.specs.Faults.{format_fault_name, format_fault_number}

-- the numbers of words' faults
abbrev pub word_fault_number : WordFault → ℕ
word_fault_number UnknownSampling = 1
word_fault_number UnknownDepth = 2
word_fault_number UnknownPath = 3

-- a fault's name, as in the source
abbrev pub word_fault_name : WordFault → List ℕ
word_fault_name UnknownSampling = codes "UnknownSampling"
word_fault_name UnknownDepth = codes "UnknownDepth"
word_fault_name UnknownPath = codes "UnknownPath"

-- of texts of formats and rates: a format's refusal keeps its own
abbrev pub format_text_fault_number : FormatTextFault → ℕ
format_text_fault_number (Refused fault) = format_fault_number fault
format_text_fault_number NotFormat = 4
format_text_fault_number NotRate = 5

-- its name, as in the source
abbrev pub format_text_fault_name : FormatTextFault → List ℕ
format_text_fault_name (Refused fault) = format_fault_name fault
format_text_fault_name NotFormat = codes "NotFormat"
format_text_fault_name NotRate = codes "NotRate"
