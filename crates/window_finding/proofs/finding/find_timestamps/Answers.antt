use Rattle.std.proofs.Common.{◌≡◌, [], ◌∷◌, None, inl, rules}
use Rattle.std.proofs.lemmas.Result.{err_from_is_err_and}
use Rattle.std.specs.List.{zip}
use Rattle.std.specs.Option.{option_copied}
use Rattle.capture_engines.specs.Files.{first_way}
use Rattle.capture_engines.specs.Received.{FileOpens}
use Rattle.run_outcome.specs.Moments.{WasRead}
use Rattle.run_outcome.proofs.Refusals.{of_refusal_map}
use Rattle.window_finding.proofs.InOrder.{first_there, given_refused, none_given, read_back}
use Rattle.window_finding.proofs.InOrder.{window_found}
use Rattle.window_finding.proofs.finding.find_timestamps.Goals as goal

pub returns-in-Some-clause-found : goal.returns-in-Some-clause-found
returns-in-Some-clause-found g c =
    let told = g.S.ByteSource in
    let files = zip c.args.files.now c.find_all.new.files in
    let all = c.in_ok-find_all.ensures in
    window_found c.args.sought (option_copied c.args.sdp) c.args.ways.now
    (WasRead told.gave told.ended) files c.in_ok-begun.begun c.find_all.new.begun
    c.in_ok-begun.ensures.begun c.in-Some.finder c.in-Some.is all.found
    (read_back told.gave told.ended files)
    (λ none. first_there c.args.sought c.args.ways.now (WasRead told.gave told.ended) files
    c.in_ok-begun.begun c.find_all.new.begun c.in-Some.finder
    (λ s. FileOpens (0 ∷ []) (first_way c.args.ways.now) (WasRead told.gave told.ended s))
    c.in-Some.is all.found (all.opened none) none)
    all.whole

pub returns-in_err-begun-clause-refusal : goal.returns-in_err-begun-clause-refusal
returns-in_err-begun-clause-refusal g c =
    let p = err_from_is_err_and c.from_residual.result c.from_residual.ensures.1 in
    rw (p.1, p.2)
    (of_refusal_map c.in_err-begun.field-0.0 (λ r is. inl is) c.in_err-begun.ensures.refusal)

pub returns-in_err-find_all-clause-refusal : goal.returns-in_err-find_all-clause-refusal
returns-in_err-find_all-clause-refusal g c =
    let told = g.S.ByteSource in
    let p = err_from_is_err_and c.from_residual-in_err-find_all.result
    c.from_residual-in_err-find_all.ensures.1 in
    rw (p.1, p.2)
    (of_refusal_map c.in_err-find_all.field-0.0
    (λ r is. given_refused c.args.sought (option_copied c.args.sdp) c.args.ways.now
    (WasRead told.gave told.ended) (zip c.args.files.now c.find_all.new.files)
    c.in_ok-begun.begun c.in_ok-begun.begun c.in_ok-begun.ensures.begun r is)
    c.in_err-find_all.ensures.refusal)

pub returns-clause-refusal : goal.returns-clause-refusal
returns-clause-refusal g c =
    let told = g.S.ByteSource in
    let none : c.find_all.new.begun ≡ None = search rules in
    let left = c.in_ok-find_all.ensures.none none in
    none_given c.args.sought (option_copied c.args.sdp) c.args.ways.now
    (WasRead told.gave told.ended) c.args.files.now c.find_all.new.files c.in_ok-begun.begun
    c.in_ok-begun.ensures.begun left.0 left.1
