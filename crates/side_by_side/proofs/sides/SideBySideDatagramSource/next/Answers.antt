use Rattle.std.proofs.Common.{◌∙◌, Some, ap, sym}
use Rattle.recording_reader.proofs.Telling.{takes_any}
use Rattle.side_by_side.specs.Sides.{last_fault_of}
use Rattle.st_format.specs.declared.device.SourceFault.{SourceFault}
use Rattle.side_by_side.proofs.sides.SideBySideDatagramSource.next.Goals as goal

pub returns-in-Ok-clause-turn : goal.returns-in-Ok-clause-turn
returns-in-Ok-clause-turn g c = takes_any c.in-Ok.turn c.take_next.new.buf

pub returns-in-Ok-clause-blameless : goal.returns-in-Ok-clause-blameless
returns-in-Ok-clause-blameless g c = ap last_fault_of c.in-Ok.ensures.told.fault

pub returns-in-Err-clause-last : goal.returns-in-Err-clause-last
returns-in-Err-clause-last g c =
    ap last_fault_of c.in-Err.ensures.fault.fault
    ∙ ap (λ (e : SourceFault). Some e) (sym c.told.ensures)

pub returns-in-Err-clause-fault : goal.returns-in-Err-clause-fault
returns-in-Err-clause-fault g c = record {
  reading = c.in-Err.fault;
  told = c.told.ensures;
  stays = c.in-Err.ensures.fault.fault;
  device = c.in-Err.ensures.device;
}
