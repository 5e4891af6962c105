use Rattle.std.proofs.Common.{inl, refl}
use Rattle.std.proofs.lemmas.Result.{err_from_is_err_and}
use Rattle.std.specs.List.{zip}
use Rattle.run_outcome.specs.Moments.{WasRead, pair}
use Rattle.run_outcome.proofs.Printed.{on_ok, whenever}
use Rattle.run_outcome.proofs.Refusals.{if_err_map, of_refusal_map}
use Rattle.capture_engines.proofs.Accounting.{accounts_front}
use Rattle.capture_engines.proofs.FirstRefused.{of_both}
use Rattle.capture_engines.proofs.Rescues.{if_err_both}
use Rattle.capture_engines.proofs.Said.{long_refused, said_part, said_receives}
use Rattle.capture_engines.proofs.Said.{said_refused, said_shown}
use Rattle.capture_engines.proofs.receiving.receive.Goals as goal

pub returns-in_err-check_words-clause-refusal : goal.returns-in_err-check_words-clause-refusal
returns-in_err-check_words-clause-refusal g c =
    let p = err_from_is_err_and c.from_residual.result c.from_residual.ensures.1 in
    rw (p.1, p.2) (of_refusal_map c.in_err-check_words.field-0.0 (λ r both. inl both)
    (of_both _ _ c.in_err-check_words.field-0.0 c.in_err-check_words.ensures.refusal
    c.in_err-check_words.ensures.first))

pub returns-in_err-said-clause-refusal : goal.returns-in_err-said-clause-refusal
returns-in_err-said-clause-refusal g c =
    let told = g.S.ByteSource in
    let p = err_from_is_err_and c.from_residual-in_err-said.result
    c.from_residual-in_err-said.ensures.1 in
    rw (p.1, p.2) (of_refusal_map c.in_err-said.field-0.0
    (long_refused c.args.wanted.window.now c.args.wanted.ssrc.now
    c.in_ok-check_words.ensures.window.0 (pair c.args.sdp.now c.read_said.new.sdp)
    (WasRead told.gave told.ended) (zip c.args.captures.now c.args.captures.now)
    (c.in_ok-check_words.ensures.window.1, c.in_ok-check_words.ensures.source))
    c.in_err-said.ensures.refusal)

pub returns-clause-taken : goal.returns-clause-taken
returns-clause-taken g c =
    let told = g.S.ByteSource in
    on_ok c.receive_files.result _ _
    (said_receives c.args.wanted.window.now c.args.wanted.ssrc.now
    (pair c.args.sdp.now c.read_said.new.sdp) _ (WasRead told.gave told.ended)
    (zip c.args.captures.now c.receive_files.new.files) c.args.wanted.tells_refusals _ _ _ _
    c.in_ok-said.ensures.said)
    (rw c.octets_of.ensures at c.receive_files.ensures.taken)

pub returns-clause-refusal : goal.returns-clause-refusal
returns-clause-refusal g c =
    let told = g.S.ByteSource in
    if_err_map c.receive_files.result
    (λ f. of_refusal_map f
    (said_refused c.args.wanted.window.now c.args.wanted.ssrc.now
    (pair c.args.sdp.now c.read_said.new.sdp) _ (WasRead told.gave told.ended)
    (zip c.args.captures.now c.receive_files.new.files) c.in_ok-said.ensures.said))
    (rw c.octets_of.ensures at c.receive_files.ensures.refusal)

pub returns-clause-failures : goal.returns-clause-failures
returns-clause-failures g c =
    accounts_front c.receive_files.result _ _ _ _ c.in_ok-said.ensures.failures
    c.receive_files.ensures.failures

pub returns-in_err-check_words-clause-part : goal.returns-in_err-check_words-clause-part
returns-in_err-check_words-clause-part g c =
    let p = err_from_is_err_and c.from_residual.result c.from_residual.ensures.1 in
    rw (p.1) (inl refl)

pub returns-in_err-said-clause-part : goal.returns-in_err-said-clause-part
returns-in_err-said-clause-part g c =
    let p = err_from_is_err_and c.from_residual-in_err-said.result
    c.from_residual-in_err-said.ensures.1 in
    rw (p.1) (inl refl)

pub returns-clause-part : goal.returns-clause-part
returns-clause-part g c =
    let told = g.S.ByteSource in
    said_part c.receive_files.result c.receive_files.new.reception c.args.wanted.window.now
    c.args.wanted.ssrc.now (pair c.args.sdp.now c.read_said.new.sdp) _ told.gave told.ended
    (zip c.args.captures.now c.receive_files.new.files) _ _ _ c.in_ok-said.ensures.said
    (rw c.octets_of.ensures at c.receive_files.ensures.part) c.receive_files.ensures.rescued

pub returns-clause-memory : goal.returns-clause-memory
returns-clause-memory g c =
    if_err_both c.receive_files.result
    (λ f is says memory. ((is memory refl).0, (is memory refl).1, says memory))
    c.receive_files.ensures.memory c.receive_files.ensures.wanted

pub returns-in_err-check_words-clause-memory : goal.returns-in_err-check_words-clause-memory
returns-in_err-check_words-clause-memory g c =
    let p = err_from_is_err_and c.from_residual.result c.from_residual.ensures.1 in
    rw (p.1, p.2) (λ memory. (refl, refl, c.in_err-check_words.ensures.memory memory))

pub returns-in_err-said-clause-memory : goal.returns-in_err-said-clause-memory
returns-in_err-said-clause-memory g c =
    let p = err_from_is_err_and c.from_residual-in_err-said.result
    c.from_residual-in_err-said.ensures.1 in
    let asked = c.in_ok-check_words.ensures in
    rw (p.1) (λ memory. (refl, refl, (asked.window.0, (asked.window.1, asked.source))))

pub returns-in_err-check_words-clause-printed : goal.returns-in_err-check_words-clause-printed
returns-in_err-check_words-clause-printed g c = whenever c.from_residual.result _ (inl refl)

pub returns-in_err-said-clause-printed : goal.returns-in_err-said-clause-printed
returns-in_err-said-clause-printed g c =
    whenever c.from_residual-in_err-said.result _ (inl refl)

pub returns-clause-printed : goal.returns-clause-printed
returns-clause-printed g c =
    let told = g.S.ByteSource in
    said_shown c.receive_files.result c.receive_files.new.reception c.args.wanted.window.now
    c.args.wanted.ssrc.now (pair c.args.sdp.now c.read_said.new.sdp) _ told.gave told.ended
    (zip c.args.captures.now c.receive_files.new.files) g.O.ByteSink.took g.O.ByteSink.failures
    c.args.wanted.tells_refusals _ _ _ c.in_ok-said.ensures.said
    (rw c.octets_of.ensures at c.receive_files.ensures.printed) c.receive_files.ensures.rescued
