use Rattle.capture_engines.proofs.Rescues.{none_part, some_part}
use Rattle.capture_engines.proofs.rescuing.put_part.Goals as goal

pub returns-in-Ok-clause-part : goal.returns-in-Ok-clause-part
returns-in-Ok-clause-part g c =
    some_part c.put_out.new.reception _ _ c.in-Ok.ensures.counted

pub returns-in-Err-clause-part : goal.returns-in-Err-clause-part
returns-in-Err-clause-part g c =
    none_part c.put_out.new.reception c.args.reception.now _ c.in-Err.ensures.none c.requires
    c.in-Err.ensures.part

pub returns-in-Ok-clause-shown : goal.returns-in-Ok-clause-shown
returns-in-Ok-clause-shown g c =
    some_part c.put_out.new.reception _ _ c.in-Ok.ensures.counted

pub returns-in-Err-clause-shown : goal.returns-in-Err-clause-shown
returns-in-Err-clause-shown g c =
    none_part c.put_out.new.reception c.args.reception.now _ c.in-Err.ensures.none c.requires
    c.in-Err.ensures.shown
