use Rattle.std.proofs.Common.{◌≡◌, arith, take, true}
use Rattle.std.proofs.lemmas.List.{length-take}
use Rattle.st_format.proofs.Gave.{grew_all}
use Rattle.recording_reader.specs.Kinds.{is_magic}
use Rattle.recording_reader.proofs.Beginnings.{recording_no_flows, stops_short}
use Rattle.recording_reader.proofs.opening.begin.Goals as goal

pub returns-then-branch-lt4-clause-fault : goal.returns-then-branch-lt4-clause-fault
returns-then-branch-lt4-clause-fault g c =
    let n = c.in_ok-read_whole.field-0 in
    let e = c.in_ok-read_whole.ensures in
    stops_short c.args.flows _ _ (take n c.read_whole.new.buf) _
    (omega (arith, length-take n c.read_whole.new.buf)) e.gave (e.ended (omega (arith, e.room)))

pub returns-in-None-clause-fault : goal.returns-in-None-clause-fault
returns-in-None-clause-fault g c =
    let n = c.in_ok-read_whole.field-0 in
    let e = c.in_ok-read_whole.ensures in
    let four = c.read_whole.new.buf in
    let magic : is_magic four ≡ true = first_of (cc, grind arith) in
    recording_no_flows _ _ four e.room magic (grew_all _ _ n four e.gave (omega (arith, e.room)))
    c.args.flows _ c.in-None.is
