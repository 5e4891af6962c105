use Rattle.std.proofs.Common.{inl, inr}
use Rattle.std.proofs.lemmas.Result.{err_from_is_err_and}
use Rattle.capture_engines.proofs.FirstRefused.{of_both}
use Rattle.run_outcome.proofs.Refusals.{if_err_map, of_refusal_map}
use Rattle.capture_runs.proofs.Told.{sdp_kept, ways_kept}
use Rattle.capture_runs.proofs.opening.Files.open.Goals as goal

pub returns-in_err-sought-clause-refusal : goal.returns-in_err-sought-clause-refusal
returns-in_err-sought-clause-refusal c =
    let p = err_from_is_err_and c.from_residual.result c.from_residual.ensures.1 in
    rw (p.1, p.2)
    (of_refusal_map c.in_err-sought.field-0.0 (λ r is. inl is)
    (of_both _ _ c.in_err-sought.field-0.0 c.in_err-sought.ensures.refusal
    c.in_err-sought.ensures.first))

pub returns-in_err-find_output-clause-refusal : goal.returns-in_err-find_output-clause-refusal
returns-in_err-find_output-clause-refusal c =
    let p = err_from_is_err_and c.from_residual-in_err-find_output.result
    c.from_residual-in_err-find_output.ensures.1 in
    rw (p.1, p.2)
    (of_refusal_map c.in_err-find_output.field-0.0
    (λ r is. inr (c.in_ok-sought.ensures.words, inl is)) c.in_err-find_output.ensures.refusal)

pub returns-in_err-read_sdp-clause-refusal : goal.returns-in_err-read_sdp-clause-refusal
returns-in_err-read_sdp-clause-refusal c =
    let p = err_from_is_err_and c.from_residual-in_err-read_sdp.result
    c.from_residual-in_err-read_sdp.ensures.1 in
    rw (p.1, p.2)
    (of_refusal_map c.in_err-read_sdp.field-0.0
    (λ r is. inr (c.in_ok-sought.ensures.words, inr (c.in_ok-find_output.ensures.apart, inl is)))
    c.in_err-read_sdp.ensures.refusal)

pub returns-in_err-find_ways-clause-refusal : goal.returns-in_err-find_ways-clause-refusal
returns-in_err-find_ways-clause-refusal c =
    let p = err_from_is_err_and c.from_residual-in_err-find_ways.result
    c.from_residual-in_err-find_ways.ensures.1 in
    let read =
    sdp_kept c.read_sdp.new.self c.find_ways.new.self c.find_ways.ensures.sdp
    c.find_ways.ensures.said (c.in_ok-read_sdp.ensures.read c.requires.unsaid) in
    rw (p.1, p.2)
    (of_refusal_map c.in_err-find_ways.field-0.0
    (λ r is. inr (
      c.in_ok-sought.ensures.words,
      inr (c.in_ok-find_output.ensures.apart, inr (read, inl is)),
    )) c.in_err-find_ways.ensures.refusal)

pub returns-in-None-clause-refusal : goal.returns-in-None-clause-refusal
returns-in-None-clause-refusal c =
    if_err_map c.open_recordings.result (λ f. of_refusal_map f (λ r is. absurd is))
    c.open_recordings.ensures.unrefused

pub returns-in-Some-clause-refusal : goal.returns-in-Some-clause-refusal
returns-in-Some-clause-refusal c =
    let known =
    sdp_kept c.read_sdp.new.self c.find_ways.new.self c.find_ways.ensures.sdp
    c.find_ways.ensures.said (c.in_ok-read_sdp.ensures.read c.requires.unsaid) in
    let read =
    sdp_kept c.find_ways.new.self c.open_found.new.self c.open_found.ensures.sdp
    c.open_found.ensures.said known in
    if_err_map c.open_found.result
    (λ f. of_refusal_map f (λ r is. inr (
      c.in_ok-sought.ensures.words,
      inr (
        c.in_ok-find_output.ensures.apart,
        inr (
          read,
          inr (
            ways_kept _ _ _ c.find_ways.new.self c.open_found.new.self c.open_found.ensures.said
                c.open_found.ensures.ways c.in_ok-find_ways.ensures.ways,
            is,
          ),
        ),
      ),
    ))) c.open_found.ensures.refusal
