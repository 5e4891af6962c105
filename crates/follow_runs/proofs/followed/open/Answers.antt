use Rattle.std.proofs.Common.{inl, inr}
use Rattle.std.proofs.lemmas.Result.{err_from_is_err_and}
use Rattle.std.specs.Option.{option_copied}
use Rattle.capture_engines.proofs.FirstRefused.{of_both}
use Rattle.run_outcome.proofs.Refusals.{of_refusal_map}
use Rattle.follow_runs.proofs.Follows.{says_fill}
use Rattle.capture_runs.proofs.Told.{sdp_kept}
use Rattle.follow_runs.proofs.followed.open.Goals as goal

pub returns-in_err-check_words-clause-refusal : goal.returns-in_err-check_words-clause-refusal
returns-in_err-check_words-clause-refusal c =
    let p = err_from_is_err_and c.from_residual.result c.from_residual.ensures.1 in
    rw (p.1, p.2)
    (of_refusal_map c.in_err-check_words.field-0.0 (λ r is. inl is)
    (of_both _ _ c.in_err-check_words.field-0.0 c.in_err-check_words.ensures.refusal
    c.in_err-check_words.ensures.first))

pub returns-in_err-values-clause-refusal : goal.returns-in_err-values-clause-refusal
returns-in_err-values-clause-refusal c =
    let p = err_from_is_err_and c.from_residual-in_err-values.result
    c.from_residual-in_err-values.ensures.1 in
    rw (p.1, p.2)
    (of_refusal_map c.in_err-values.field-0.0
    (λ r is. inr (c.in_ok-check_words.ensures.words, inl is)) c.in_err-values.ensures.refusal)

pub returns-in_err-find-clause-refusal : goal.returns-in_err-find-clause-refusal
returns-in_err-find-clause-refusal c =
    let p = err_from_is_err_and c.from_residual-in_err-find.result
    c.from_residual-in_err-find.ensures.1 in
    let fill =
    says_fill (option_copied c.args.fill) c.in_ok-values.values c.in_ok-values.ensures.given in
    rw (p.1, p.2)
    (of_refusal_map c.in_err-find.field-0.0
    (λ r is. inr (c.in_ok-check_words.ensures.words, inr (fill, inl is)))
    c.in_err-find.ensures.refusal)

pub returns-in_err-read_sdp-clause-refusal : goal.returns-in_err-read_sdp-clause-refusal
returns-in_err-read_sdp-clause-refusal c =
    let p = err_from_is_err_and c.from_residual-in_err-read_sdp.result
    c.from_residual-in_err-read_sdp.ensures.1 in
    let fill =
    says_fill (option_copied c.args.fill) c.in_ok-values.values c.in_ok-values.ensures.given in
    rw (p.1, p.2)
    (of_refusal_map c.in_err-read_sdp.field-0.0
    (λ r is. inr (
      c.in_ok-check_words.ensures.words,
      inr (fill, inr (c.in_ok-find.ensures.apart, inl is)),
    )) c.in_err-read_sdp.ensures.refusal)

pub returns-in_err-find_ways-clause-refusal : goal.returns-in_err-find_ways-clause-refusal
returns-in_err-find_ways-clause-refusal c =
    let p = err_from_is_err_and c.from_residual-in_err-find_ways.result
    c.from_residual-in_err-find_ways.ensures.1 in
    let fill =
    says_fill (option_copied c.args.fill) c.in_ok-values.values c.in_ok-values.ensures.given in
    let read =
    sdp_kept c.read_sdp.new.self c.find_ways.new.self c.find_ways.ensures.sdp
    c.find_ways.ensures.said (c.in_ok-read_sdp.ensures.read c.requires.none) in
    rw (p.1, p.2)
    (of_refusal_map c.in_err-find_ways.field-0.0
    (λ r is. inr (
      c.in_ok-check_words.ensures.words,
      inr (fill, inr (c.in_ok-find.ensures.apart, inr (read, is))),
    )) c.in_err-find_ways.ensures.refusal)
