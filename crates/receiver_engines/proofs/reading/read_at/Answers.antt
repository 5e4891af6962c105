use Rattle.std.proofs.Common.{get_or, subst, sym, arith}
use Rattle.std.proofs.lemmas.List.{get_or-set_other, get_or-set_same}
use Rattle.run_outcome.proofs.SetSums.{set_counted}
use Rattle.run_outcome.specs.Refusing.{OfRefusal}
use Rattle.receiver_engines.specs.Merging.{SaysReceiver}
use Rattle.receiver_engines.specs.States.{IsStateRefusal}
use Rattle.receiver_engines.proofs.FileRefusals.{same_at}
use Rattle.receiver_engines.proofs.Settling.{if_ok_map}
use Rattle.run_outcome.proofs.Refusals.{if_err_map}
use Rattle.st_format.specs.History.{IsRead}
use Rattle.receiver_engines.proofs.reading.read_at.Goals as goal

pub returns-clause-failures : goal.returns-clause-failures
returns-clause-failures g c =
    set_counted g.S.ByteSource.failures c.args.states.now c.args.place
    c.index-states-place.result c.read_receiver.new.source c.read_receiver.result c.requires
    c.read_receiver.ensures.failures

pub returns-clause-before : goal.returns-clause-before
returns-clause-before g c = λ k s lt.
    get_or-set_other c.args.states.now c.args.place k c.read_receiver.new.source s
    (λ e. omega (arith, lt, e))

pub returns-clause-says : goal.returns-clause-says
returns-clause-says g c =
    let gave = g.S.ByteSource.gave in
    let ended = g.S.ByteSource.ended in
    let states = c.args.states.now in
    let none = c.index-states-place.result in
    let now = c.read_receiver.new.source in
    if_ok_map c.read_receiver.result (λ r says. λ s.
    subst (λ x. SaysReceiver (IsRead (gave (get_or states c.args.place s)) (gave x) (ended x)) r)
    (sym (get_or-set_same states c.args.place now s c.requires))
    (subst (λ x. SaysReceiver (IsRead (gave x) (gave now) (ended now)) r)
    (same_at states c.args.place none s c.requires) says)) c.read_receiver.ensures.found

pub returns-clause-refused : goal.returns-clause-refused
returns-clause-refused g c =
    let gave = g.S.ByteSource.gave in
    let ended = g.S.ByteSource.ended in
    let states = c.args.states.now in
    let none = c.index-states-place.result in
    let now = c.read_receiver.new.source in
    if_err_map c.read_receiver.result (λ e is. λ s.
    subst (λ x. OfRefusal e
    (IsStateRefusal (IsRead (gave (get_or states c.args.place s)) (gave x) (ended x))))
    (sym (get_or-set_same states c.args.place now s c.requires))
    (subst (λ x. OfRefusal e (IsStateRefusal (IsRead (gave x) (gave now) (ended now))))
    (same_at states c.args.place none s c.requires) is)) c.read_receiver.ensures.refused
