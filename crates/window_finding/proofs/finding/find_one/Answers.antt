use Rattle.std.proofs.Common.{◌≡◌, [], ◌∷◌, None, rules}
use Rattle.run_outcome.proofs.SetSums.{counted_by}
use Rattle.capture_engines.proofs.FirstRefused.{front_turn, opens_lent, turn_lent}
use Rattle.window_finding.proofs.Found.{err_any, file_found_if, full_begun, full_found, is_full}
use Rattle.window_finding.proofs.Found.{not_full, ok_any, whole_if}
use Rattle.window_finding.proofs.finding.find_one.Goals as goal

pub returns-then-has_all-clause-found : goal.returns-then-has_all-clause-found
returns-then-has_all-clause-found g c =
    full_found c.args.sought c.args.way _ c.args.begun.now
    (is_full c.has_all.result c.has_all.ensures c.if-has_all.true)

pub returns-then-has_all-clause-begun : goal.returns-then-has_all-clause-begun
returns-then-has_all-clause-begun g c =
    full_begun c.args.begun.now (is_full c.has_all.result c.has_all.ensures c.if-has_all.true)

pub returns-then-has_all-clause-opens : goal.returns-then-has_all-clause-opens
returns-then-has_all-clause-opens g c = λ none.
    absurd (full_begun c.args.begun.now
    (is_full c.has_all.result c.has_all.ensures c.if-has_all.true) none)

pub returns-then-has_all-clause-whole : goal.returns-then-has_all-clause-whole
returns-then-has_all-clause-whole g c = λ lacks.
    absurd (lacks (is_full c.has_all.result c.has_all.ensures c.if-has_all.true))

pub returns-clause-failures : goal.returns-clause-failures
returns-clause-failures g c =
    counted_by c.find_opened-found.result _ _ _ _ c.in-Ok.ensures.counted (search rules)
    c.find_opened-found.ensures.failures

pub returns-clause-found : goal.returns-clause-found
returns-clause-found g c =
    let told = g.S.ByteSource in
    file_found_if c.args.sought c.find_opened-found.new.reader (λ s. s.now) told.gave told.ended
    c.args.file.now _ c.args.way _ c.args.begun.now c.find_opened-found.new.begun
    c.find_opened-found.result (search rules) (search rules) (search rules) (search rules)
    c.find_opened-found.ensures.done c.history.ensures.known c.find_opened-found.ensures.found

pub returns-clause-opens : goal.returns-clause-opens
returns-clause-opens g c =
    let told = g.S.ByteSource in
    opens_lent (0 ∷ []) _ c.args.way (c.args.begun.now ≡ None) c.find_opened-found.new.reader
    (λ s. s.now) told.gave told.ended c.args.file.now _ (search rules) (search rules)
    (search rules) c.history.ensures.by_flows (search rules) c.history.ensures.known
    c.history.ensures.parts c.find_opened-found.result c.find_opened-found.ensures.opens

pub returns-clause-whole : goal.returns-clause-whole
returns-clause-whole g c =
    let told = g.S.ByteSource in
    whole_if c.find_opened-found.new.reader (λ s. s.now) told.gave told.ended c.args.file.now _
    c.args.way c.find_opened-found.new.begun c.find_opened-found.result (search rules)
    (search rules) (search rules) c.history.ensures.by_flows c.find_opened-found.ensures.done
    c.find_opened-found.ensures.within c.history.ensures.known

pub returns-clause-refusal : goal.returns-clause-refusal
returns-clause-refusal g c =
    let told = g.S.ByteSource in
    turn_lent (0 ∷ []) _ c.args.way (c.args.begun.now ≡ None) c.find_opened-found.new.reader
    (λ s. s.now) told.gave told.ended c.args.file.now _ (search rules) (search rules)
    (search rules) c.history.ensures.by_flows (search rules) c.history.ensures.known
    c.history.ensures.parts c.find_opened-found.result c.find_opened-found.ensures.refusal

pub returns-in-Err-clause-refusal : goal.returns-in-Err-clause-refusal
returns-in-Err-clause-refusal g c =
    let told = g.S.ByteSource in
    front_turn (0 ∷ []) c.args.way (c.args.begun.now ≡ None) told.gave told.ended c.args.file.now _
    c.unopened.new.source c.unopened.result (search rules)
    (c.unopened.ensures.front (told.gave c.args.file.now) (search rules) (search rules))

pub returns-clause-full : goal.returns-clause-full
returns-clause-full g c =
    ok_any c.find_opened-found.result _
    (λ full. absurd (not_full c.has_all.result c.has_all.ensures c.if-has_all.false full))

pub returns-clause-lacks : goal.returns-clause-lacks
returns-clause-lacks g c =
    err_any c.find_opened-found.result _
    (not_full c.has_all.result c.has_all.ensures c.if-has_all.false)

pub returns-in-Err-clause-lacks : goal.returns-in-Err-clause-lacks
returns-in-Err-clause-lacks g c =
    not_full c.has_all.result c.has_all.ensures c.if-has_all.false
