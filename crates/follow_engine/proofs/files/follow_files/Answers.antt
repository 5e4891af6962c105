use Rattle.std.proofs.Common.{◌∙◌, inl, inr, refl}
use Rattle.std.proofs.lemmas.Result.{err_from_is_err_and}
use Rattle.std.specs.Option.{option_copied}
use Rattle.std.specs.List.{zip}
use Rattle.std.specs.Prelude.{take}
use Rattle.capture_engines.proofs.FirstRefused.{of_both}
use Rattle.run_outcome.proofs.Refusals.{none_refused, of_refusal_map}
use Rattle.side_by_side.specs.Sides.{failures_each}
use Rattle.follow_engine.specs.Order.{GoesToFault, GoesToMost}
use Rattle.follow_engine.specs.Refused.{AreTooMany, IsInTurnFault}
use Rattle.follow_engine.specs.Sides.{SideRead}
use Rattle.follow_engine.proofs.Beginnings.{opened_begun}
use Rattle.follow_engine.proofs.Blamed.{blames_end, blames_files, blames_from, blames_none}
use Rattle.follow_engine.proofs.Cut.{if_refused, refused_map, unrefused_if}
use Rattle.follow_engine.proofs.Fronts.{ask_for, first_describes, given_describes, opened_fronts}
use Rattle.follow_engine.proofs.Fronts.{sound_fronts}
use Rattle.follow_engine.proofs.Outcome.{follows_whole}
use Rattle.follow_engine.proofs.Short.{ends_part, follows_part, follows_short, goes_so_far}
use Rattle.follow_engine.proofs.Stopped.{first_by, stops_files}
use Rattle.follow_engine.proofs.files.follow_files.Goals as goal

pub returns-in_err-ssrc-clause-refusal : goal.returns-in_err-ssrc-clause-refusal
returns-in_err-ssrc-clause-refusal g c =
    let p = err_from_is_err_and c.from_residual.result c.from_residual.ensures.1 in
    rw (p.1, p.2)
    (of_refusal_map c.in_err-ssrc.field-0.0 (λ r is. inl is)
    (of_both _ _ c.in_err-ssrc.field-0.0 c.in_err-ssrc.ensures.refusal
    c.in_err-ssrc.ensures.first))

pub returns-in_err-given-clause-refusal : goal.returns-in_err-given-clause-refusal
returns-in_err-given-clause-refusal g c =
    let p = err_from_is_err_and c.from_residual-in_err-given.result
    c.from_residual-in_err-given.ensures.1 in
    let words = ask_for c.args.asked.frames c.args.asked.ssrc.now c.in_ok-ssrc.ssrc
    c.in_ok-ssrc.ensures.frames c.in_ok-ssrc.ensures.source in
    rw (p.1, p.2)
    (of_refusal_map c.in_err-given.field-0.0 (λ r is. inr (words, inl is))
    c.in_err-given.ensures.refusal)

pub returns-in_err-count-clause-refusal : goal.returns-in_err-count-clause-refusal
returns-in_err-count-clause-refusal g c =
    let p = err_from_is_err_and c.from_residual-in_err-count.result
    c.from_residual-in_err-count.ensures.1 in
    let words = ask_for c.args.asked.frames c.args.asked.ssrc.now c.in_ok-ssrc.ssrc
    c.in_ok-ssrc.ensures.frames c.in_ok-ssrc.ensures.source in
    let given =
    given_describes c.args.asked c.in_ok-ssrc.ssrc (option_copied c.args.sdp) c.in_ok-given.given
    c.in_ok-given.ensures.begun in
    rw (p.1, p.2)
    (of_refusal_map c.in_err-count.field-0.0 (λ r is. inr (words, inr (given, inl is)))
    c.in_err-count.ensures.refusal)

pub returns-in_err-count-clause-failures : goal.returns-in_err-count-clause-failures
returns-in_err-count-clause-failures g c =
    let failed = failures_each g.S.ByteSource.failures in
    let p = err_from_is_err_and c.from_residual-in_err-count.result
    c.from_residual-in_err-count.ensures.1 in
    rw (p.1, p.2)
    (blames_files c.in_err-count.field-0.0 (failed c.args.sides.now.items)
    (failed c.open_files.new.sides.items) (g.P.PictureSink.failures c.args.pictures.now)
    (g.O.ByteSink.failures c.args.output.now) c.in_err-count.ensures.failures)

pub returns-in_err-run-clause-refusal : goal.returns-in_err-run-clause-refusal
returns-in_err-run-clause-refusal g c =
    let p = err_from_is_err_and c.from_residual-in_err-run.result
    c.from_residual-in_err-run.ensures.1 in
    let words = ask_for c.args.asked.frames c.args.asked.ssrc.now c.in_ok-ssrc.ssrc
    c.in_ok-ssrc.ensures.frames c.in_ok-ssrc.ensures.source in
    let given =
    given_describes c.args.asked c.in_ok-ssrc.ssrc (option_copied c.args.sdp) c.in_ok-given.given
    c.in_ok-given.ensures.begun in
    let fronts =
    opened_fronts g.S.ByteSource.gave g.S.ByteSource.ended c.args.ways.now c.args.sides.now.items
    c.open_files.new.sides.items c.in_ok-count.ensures.opened in
    rw (p.1, p.2)
    (of_refusal_map c.in_err-run.field-0.0
    (λ r is. inr (
      words,
      inr (
        given,
        inr (
          fronts,
          inl (first_by g.S.ByteSource.gave
              g.S.ByteSource.ended c.args.ways.now
              (option_copied c.args.sdp) (take c.in_ok-count.count c.open_files.new.text)
              c.args.sides.now.items c.open_files.new.sides.items r c.in_ok-count.ensures.opened
              c.in_ok-count.ensures.first is),
        ),
      ),
    )) c.in_err-run.ensures.refusal)

pub returns-in_err-run-clause-failures : goal.returns-in_err-run-clause-failures
returns-in_err-run-clause-failures g c =
    let failed = failures_each g.S.ByteSource.failures in
    let p = err_from_is_err_and c.from_residual-in_err-run.result
    c.from_residual-in_err-run.ensures.1 in
    rw (p.1, p.2)
    (blames_none c.in_err-run.field-0.0 (failed c.args.sides.now.items)
    (failed c.open_files.new.sides.items) (g.P.PictureSink.failures c.args.pictures.now)
    (g.O.ByteSink.failures c.args.output.now) c.in_ok-count.ensures.failures
    c.in_err-run.ensures.failures)

pub follow_opened-requires-clause-begun : goal.follow_opened-requires-clause-begun
follow_opened-requires-clause-begun g c =
    opened_begun g.S.ByteSource.gave g.S.ByteSource.ended c.args.ways.now c.args.sides.now.items
    c.open_files.new.sides.items c.in_ok-count.ensures.opened

pub returns-in_err-follow_opened-clause-refusal : goal.returns-in_err-follow_opened-clause-refusal
returns-in_err-follow_opened-clause-refusal g c =
    let p = err_from_is_err_and c.from_residual-in_err-follow_opened.result
    c.from_residual-in_err-follow_opened.ensures.1 in
    let words = ask_for c.args.asked.frames c.args.asked.ssrc.now c.in_ok-ssrc.ssrc
    c.in_ok-ssrc.ensures.frames c.in_ok-ssrc.ensures.source in
    let given =
    given_describes c.args.asked c.in_ok-ssrc.ssrc (option_copied c.args.sdp) c.in_ok-given.given
    c.in_ok-given.ensures.begun in
    let gave = g.S.ByteSource.gave in
    let ended = g.S.ByteSource.ended in
    let olds = c.args.sides.now.items in
    let mids = c.open_files.new.sides.items in
    let news = c.follow_opened.new.sides.items in
    let read = c.follow_opened.ensures in
    let fronts =
    sound_fronts gave ended c.args.ways.now olds mids news c.in_ok-count.ensures.opened read.begun
    read.known read.by_flows in
    let first =
    first_describes gave ended c.args.ways.now c.args.asked c.in_ok-ssrc.ssrc
    (option_copied c.args.sdp) (take c.in_ok-count.count c.open_files.new.text) olds mids news
    c.in_ok-run.run' c.in_ok-count.ensures.opened c.in_ok-count.ensures.first read.begun read.known
    c.in_ok-run.ensures.begun in
    rw (p.1, p.2)
    (of_refusal_map c.in_err-follow_opened.field-0.0
    (λ r is. inr (
      words,
      inr (
        given,
        inr (
          fronts,
          inr (
            first,
            stops_files gave ended c.args.ways.now olds mids news c.in_ok-run.run'.steering r
                (IsInTurnFault c.args.asked.ssrc.now (option_copied c.args.sdp) c.args.ways.now
                (SideRead gave ended) (zip olds news) r)
                (AreTooMany c.args.asked.ssrc.now (option_copied c.args.sdp) c.args.ways.now
                (SideRead gave ended) (zip olds news))
                c.in_ok-count.ensures.opened read.begun read.known
                (λ f entries told goes. (
                  f,
                  told,
                  goes_so_far gave ended c.args.asked c.in_ok-ssrc.ssrc
                      (option_copied c.args.sdp) c.args.ways.now
                      (take c.in_ok-count.count c.open_files.new.text) olds mids news
                      c.in_ok-run.run' c.in_ok-ssrc.ensures.source
                      c.in_ok-run.ensures.begun c.in_ok-count.ensures.opened
                      c.in_ok-count.ensures.first read.begun read.known (GoesToFault f) entries
                      goes,
                ))
                (λ entries goes. goes_so_far gave ended c.args.asked c.in_ok-ssrc.ssrc
                (option_copied c.args.sdp) c.args.ways.now
                (take c.in_ok-count.count c.open_files.new.text) olds mids news c.in_ok-run.run'
                c.in_ok-ssrc.ensures.source c.in_ok-run.ensures.begun
                c.in_ok-count.ensures.opened c.in_ok-count.ensures.first read.begun read.known
                GoesToMost entries goes) is,
          ),
        ),
      ),
    ))
    c.in_err-follow_opened.ensures.stopped)

pub returns-in_err-follow_opened-clause-failures : goal.returns-in_err-follow_opened-clause-failures
returns-in_err-follow_opened-clause-failures g c =
    let failed = failures_each g.S.ByteSource.failures in
    let shown = g.P.PictureSink.failures in
    let told = g.O.ByteSink.failures in
    let p = err_from_is_err_and c.from_residual-in_err-follow_opened.result
    c.from_residual-in_err-follow_opened.ensures.1 in
    rw (p.1, p.2)
    (blames_from c.in_err-follow_opened.field-0.0 (failed c.args.sides.now.items)
    (failed c.open_files.new.sides.items) (failed c.follow_opened.new.sides.items)
    (shown c.args.pictures.now) (shown c.follow_opened.new.pictures) (told c.args.output.now)
    (told c.follow_opened.new.output) c.in_ok-count.ensures.failures
    c.in_err-follow_opened.ensures.failures)

pub returns-in_err-totals-clause-refusal : goal.returns-in_err-totals-clause-refusal
returns-in_err-totals-clause-refusal g c =
    let p = err_from_is_err_and c.from_residual-in_err-totals.result
    c.from_residual-in_err-totals.ensures.1 in
    rw (p.1, p.2) (none_refused _ c.in_err-totals.field-0.0 c.in_err-totals.ensures.unrefused)

pub returns-in_err-totals-clause-failures : goal.returns-in_err-totals-clause-failures
returns-in_err-totals-clause-failures g c =
    let failed = failures_each g.S.ByteSource.failures in
    let shown = g.P.PictureSink.failures in
    let told = g.O.ByteSink.failures in
    let so = c.in_ok-follow_opened.ensures.failures in
    let p = err_from_is_err_and c.from_residual-in_err-totals.result
    c.from_residual-in_err-totals.ensures.1 in
    rw (p.1, p.2)
    (blames_end c.in_err-totals.field-0.0 (failed c.args.sides.now.items)
    (failed c.follow_opened.new.sides.items) (shown c.args.pictures.now)
    (shown c.follow_opened.new.pictures) (shown c.end_stream.new.pictures)
    (told c.args.output.now) (told c.follow_opened.new.output)
    (told c.end_stream.new.output) (so.0 ∙ c.in_ok-count.ensures.failures) so.1.0 so.1.1
    c.in_err-totals.ensures.failures)

pub returns-clause-followed : goal.returns-clause-followed
returns-clause-followed g c =
    let took = g.O.ByteSink.took in
    let begun = c.in_ok-follow_opened.ensures in
    follows_whole g.S.ByteSource.gave g.S.ByteSource.ended g.P.PictureSink.takes c.args.asked
    c.in_ok-ssrc.ssrc (option_copied c.args.sdp) c.args.ways.now
    (take c.in_ok-count.count c.open_files.new.text) c.args.sides.now.items
    c.open_files.new.sides.items c.follow_opened.new.sides.items c.in_ok-run.run'
    c.follow_opened.new.run c.args.pictures.now
    c.follow_opened.new.pictures c.end_stream.new.pictures (took c.args.output.now)
    (took c.follow_opened.new.output) (took c.end_stream.new.output) c.in_ok-totals.totals
    c.in_ok-ssrc.ensures.source c.in_ok-run.ensures.begun c.in_ok-count.ensures.opened
    c.in_ok-count.ensures.first begun.begun begun.known c.in_ok-ssrc.ensures.frames begun.by_flows
    begun.followed c.in_ok-totals.ensures.ended

pub returns-in_err-ssrc-clause-before : goal.returns-in_err-ssrc-clause-before
returns-in_err-ssrc-clause-before g c =
    let p = err_from_is_err_and c.from_residual.result c.from_residual.ensures.1 in
    rw (p.1, p.2) (if_refused _ c.in_err-ssrc.field-0.0 (inl (refl, refl)))

pub returns-in_err-ssrc-clause-part : goal.returns-in_err-ssrc-clause-part
returns-in_err-ssrc-clause-part g c =
    let p = err_from_is_err_and c.from_residual.result c.from_residual.ensures.1 in
    rw (p.1) (inl (refl, refl))

pub returns-in_err-given-clause-before : goal.returns-in_err-given-clause-before
returns-in_err-given-clause-before g c =
    let p = err_from_is_err_and c.from_residual-in_err-given.result
    c.from_residual-in_err-given.ensures.1 in
    rw (p.1, p.2) (if_refused _ c.in_err-given.field-0.0 (inl (refl, refl)))

pub returns-in_err-given-clause-part : goal.returns-in_err-given-clause-part
returns-in_err-given-clause-part g c =
    let p = err_from_is_err_and c.from_residual-in_err-given.result
    c.from_residual-in_err-given.ensures.1 in
    rw (p.1) (inl (refl, refl))

pub returns-in_err-said-clause-before : goal.returns-in_err-said-clause-before
returns-in_err-said-clause-before g c =
    let p = err_from_is_err_and c.from_residual-in_err-said.result
    c.from_residual-in_err-said.ensures.1 in
    rw (p.1, p.2) tt

pub returns-in_err-said-clause-part : goal.returns-in_err-said-clause-part
returns-in_err-said-clause-part g c =
    let p = err_from_is_err_and c.from_residual-in_err-said.result
    c.from_residual-in_err-said.ensures.1 in
    rw (p.1) (inl (refl, refl))

pub returns-in_err-others-clause-before : goal.returns-in_err-others-clause-before
returns-in_err-others-clause-before g c =
    let p = err_from_is_err_and c.from_residual-in_err-others.result
    c.from_residual-in_err-others.ensures.1 in
    rw (p.1, p.2) tt

pub returns-in_err-others-clause-part : goal.returns-in_err-others-clause-part
returns-in_err-others-clause-part g c =
    let p = err_from_is_err_and c.from_residual-in_err-others.result
    c.from_residual-in_err-others.ensures.1 in
    rw (p.1) (inl (refl, refl))

pub returns-in_err-count-clause-before : goal.returns-in_err-count-clause-before
returns-in_err-count-clause-before g c =
    let p = err_from_is_err_and c.from_residual-in_err-count.result
    c.from_residual-in_err-count.ensures.1 in
    rw (p.1, p.2) (if_refused _ c.in_err-count.field-0.0 (inl (refl, refl)))

pub returns-in_err-count-clause-part : goal.returns-in_err-count-clause-part
returns-in_err-count-clause-part g c =
    let p = err_from_is_err_and c.from_residual-in_err-count.result
    c.from_residual-in_err-count.ensures.1 in
    rw (p.1) (inl (refl, refl))

pub returns-in_err-run-clause-before : goal.returns-in_err-run-clause-before
returns-in_err-run-clause-before g c =
    let p = err_from_is_err_and c.from_residual-in_err-run.result
    c.from_residual-in_err-run.ensures.1 in
    rw (p.1, p.2) (if_refused _ c.in_err-run.field-0.0 (inl (refl, refl)))

pub returns-in_err-run-clause-part : goal.returns-in_err-run-clause-part
returns-in_err-run-clause-part g c =
    let p = err_from_is_err_and c.from_residual-in_err-run.result
    c.from_residual-in_err-run.ensures.1 in
    rw (p.1) (inl (refl, refl))

pub returns-in_err-follow_opened-clause-before : goal.returns-in_err-follow_opened-clause-before
returns-in_err-follow_opened-clause-before g c =
    let took = g.O.ByteSink.took in
    let takes = g.P.PictureSink.takes in
    let begun = c.in_err-follow_opened.ensures in
    let p = err_from_is_err_and c.from_residual-in_err-follow_opened.result
    c.from_residual-in_err-follow_opened.ensures.1 in
    rw (p.1, p.2)
    (refused_map _ _ c.in_err-follow_opened.field-0.0
    (λ up. inr (follows_short g.S.ByteSource.gave g.S.ByteSource.ended c.args.asked
    c.in_ok-ssrc.ssrc (option_copied c.args.sdp) c.args.ways.now
    (take c.in_ok-count.count c.open_files.new.text) c.args.sides.now.items
    c.open_files.new.sides.items c.follow_opened.new.sides.items c.in_ok-run.run'
    c.in_ok-ssrc.ensures.source c.in_ok-run.ensures.begun c.in_ok-count.ensures.opened
    c.in_ok-count.ensures.first c.follow_opened.ensures.begun c.follow_opened.ensures.known takes
    c.args.pictures.now c.follow_opened.new.pictures (took c.args.output.now)
    (took c.follow_opened.new.output) up)) begun.before)

pub returns-in_err-follow_opened-clause-part : goal.returns-in_err-follow_opened-clause-part
returns-in_err-follow_opened-clause-part g c =
    let p = err_from_is_err_and c.from_residual-in_err-follow_opened.result
    c.from_residual-in_err-follow_opened.ensures.1 in
    let took = g.O.ByteSink.took in
    rw (p.1)
    (inr (follows_part g.S.ByteSource.gave g.S.ByteSource.ended c.args.asked
    c.in_ok-ssrc.ssrc (option_copied c.args.sdp) c.args.ways.now
    (take c.in_ok-count.count c.open_files.new.text) c.args.sides.now.items
    c.open_files.new.sides.items c.follow_opened.new.sides.items c.in_ok-run.run'
    c.in_ok-ssrc.ensures.source c.in_ok-run.ensures.begun c.in_ok-count.ensures.opened
    c.in_ok-count.ensures.first c.follow_opened.ensures.begun c.follow_opened.ensures.known
    g.P.PictureSink.takes g.P.PictureSink.fails c.args.pictures.now c.follow_opened.new.pictures
    (took c.args.output.now) (took c.follow_opened.new.output)
    c.in_err-follow_opened.ensures.part))

pub returns-in_err-totals-clause-before : goal.returns-in_err-totals-clause-before
returns-in_err-totals-clause-before g c =
    let p = err_from_is_err_and c.from_residual-in_err-totals.result
    c.from_residual-in_err-totals.ensures.1 in
    rw (p.1, p.2) (unrefused_if _ c.in_err-totals.field-0.0 c.in_err-totals.ensures.unrefused)

pub returns-in_err-totals-clause-part : goal.returns-in_err-totals-clause-part
returns-in_err-totals-clause-part g c =
    let p = err_from_is_err_and c.from_residual-in_err-totals.result
    c.from_residual-in_err-totals.ensures.1 in
    let took = g.O.ByteSink.took in
    let begun = c.in_ok-follow_opened.ensures in
    rw (p.1)
    (inr (ends_part g.S.ByteSource.gave g.S.ByteSource.ended c.args.asked
    c.in_ok-ssrc.ssrc (option_copied c.args.sdp) c.args.ways.now
    (take c.in_ok-count.count c.open_files.new.text) c.args.sides.now.items
    c.open_files.new.sides.items c.follow_opened.new.sides.items c.in_ok-run.run'
    c.in_ok-ssrc.ensures.source c.in_ok-run.ensures.begun c.in_ok-count.ensures.opened
    c.in_ok-count.ensures.first begun.begun begun.known g.P.PictureSink.takes
    g.P.PictureSink.fails c.follow_opened.new.run c.args.pictures.now
    c.follow_opened.new.pictures c.end_stream.new.pictures (took c.args.output.now)
    (took c.follow_opened.new.output) (took c.end_stream.new.output) begun.followed
    c.in_err-totals.ensures.part))
