use Rattle.std.proofs.Common.{ℕ, ◌∷◌, [], inl, subst, sym}
use Rattle.run_outcome.specs.Fault.{Blames, counts}
use Rattle.run_outcome.specs.Refusing.{OfRefusal}
use Rattle.run_outcome.specs.declared.fault.Fault.{Fault}
use Rattle.run_outcome.proofs.Refusals.{of_refusal_map}
use Rattle.st_format.specs.History.{IsRead}
use Rattle.capture_engines.specs.Received.{StopsFile, StopsFront}
use Rattle.capture_engines.proofs.Untaken.{front_before, front_stop, plain_alone}
use Rattle.capture_engines.proofs.way.unopened.Goals as goal

pub returns-in-Reading-clause-refusal : goal.returns-in-Reading-clause-refusal
returns-in-Reading-clause-refusal g c = λ before stops by.
    let told = g.S.ByteSource in
    let source = c.args.source.now in
    let read = IsRead before (told.gave source) (told.ended source) in
    subst (λ (f : Fault). OfRefusal f (StopsFile c.args.way read)) (sym c.of_reading.ensures)
    (of_refusal_map _ (front_stop c.args.way read)
    (front_before c.args.way read c.in-Reading.fault (rw c.in-Reading.is at stops)
    (rw c.in-Reading.is at by)))

pub returns-in-Reading-clause-front : goal.returns-in-Reading-clause-front
returns-in-Reading-clause-front g c = λ before stops by.
    let told = g.S.ByteSource in
    let source = c.args.source.now in
    let read = IsRead before (told.gave source) (told.ended source) in
    subst (λ (f : Fault). OfRefusal f (StopsFront c.args.way read)) (sym c.of_reading.ensures)
    (front_before c.args.way read c.in-Reading.fault (rw c.in-Reading.is at stops)
    (rw c.in-Reading.is at by))

pub returns-in_default-clause-refusal : goal.returns-in_default-clause-refusal
returns-in_default-clause-refusal g c = λ before stops by.
    let told = g.S.ByteSource in
    let read = c.no_capture in
    let known = rw c.in-NoFlows.is at stops in
    of_refusal_map read.result
    (λ r is. front_stop c.args.way (IsRead before (told.gave read.new.source)
    (told.ended read.new.source)) r (inl (
      is,
      λ octets _. plain_alone c.args.way octets known.1 c.in_default.not-Refused,
    )))
    (read.ensures.refusal before known.0 known.2)

pub returns-in_default-clause-front : goal.returns-in_default-clause-front
returns-in_default-clause-front g c = λ before stops by.
    let known = rw c.in-NoFlows.is at stops in
    of_refusal_map c.no_capture.result
    (λ r is. inl (
      is,
      λ octets _. plain_alone c.args.way octets known.1 c.in_default.not-Refused,
    ))
    (c.no_capture.ensures.refusal before known.0 known.2)

pub returns-in_default-clause-failures : goal.returns-in_default-clause-failures
returns-in_default-clause-failures g c = λ failed counted.
    let told = g.S.ByteSource in
    let read = c.no_capture in
    subst (λ (n : ℕ). Blames (counts n (told.failures read.new.source) ∷ []) read.result)
    (rw c.in-NoFlows.is at counted) read.ensures.failures
