-- The number and the name of the fault, as `number` and `name` answer them (own).
use Rattle.std.specs.Prelude.{ℕ, List, codes}
use Rattle.frame_report.specs.declared.fault.ReportFault.{ReportFault}
use Rattle.frame_report.specs.declared.fault.ReportFault.TheVariants.{Device}

-- of reports that weren't written whole
abbrev pub report_fault_number : ReportFault → ℕ
report_fault_number Device = 1

-- of reports that weren't written whole
abbrev pub report_fault_name : ReportFault → List ℕ
report_fault_name Device = codes "Device"
