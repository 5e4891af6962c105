use Rattle.std.proofs.Common.{◌++◌, ap, refl, List, ℕ}
use Rattle.std.proofs.lemmas.Result.{err_from_is_err_and, on_err_weaker, on_ok_weaker}
use Rattle.frame_report.specs.Contested.{contested_lines}
use Rattle.frame_report.specs.Missing.{missing_lines}
use Rattle.frame_report.specs.Report.{counts_line, frame_text}
use Rattle.frame_report.proofs.FrameTexts.{counts_are}
use Rattle.frame_report.proofs.Gathering.{put_cut, put_last, put_last_cut, put_more, put_none}
use Rattle.frame_report.proofs.report.put_frame.Goals as goal

pub returns-in_err-put_counts-clause-fault : goal.returns-in_err-put_counts-clause-fault
returns-in_err-put_counts-clause-fault g c =
    let p = err_from_is_err_and c.from_residual.result c.from_residual.ensures.1 in
    let r = c.args.frame.now in
    let rest : List ℕ = missing_lines r ++ contested_lines r in
    let whole : List ℕ = frame_text c.args.timestamp r in
    rw (p.1)
    (put_cut _ _ _ _ _ _ (counts_line c.args.timestamp c.counts-counts.result) rest whole
    (put_none _ _ whole whole refl)
    (ap (λ (t : List ℕ). t ++ rest)
    (counts_are c.args.timestamp c.counts-counts.result r c.counts-counts.ensures.present
    c.counts-counts.ensures.missing c.counts-counts.ensures.contested))
    c.in_err-put_counts.ensures.fault)

pub returns-in_err-put_missing-clause-fault : goal.returns-in_err-put_missing-clause-fault
returns-in_err-put_missing-clause-fault g c =
    let p =
    err_from_is_err_and c.from_residual-in_err-put_missing.result
    c.from_residual-in_err-put_missing.ensures.1 in
    let r = c.args.frame.now in
    let rest : List ℕ = missing_lines r ++ contested_lines r in
    let whole : List ℕ = frame_text c.args.timestamp r in
    rw (p.1)
    (put_cut _ _ _ _ _ rest (missing_lines r) (contested_lines r) whole
    (put_more _ _ _ _ _ _ whole (counts_line c.args.timestamp c.counts-counts.result) rest whole
    (put_none _ _ whole whole refl)
    (ap (λ (t : List ℕ). t ++ rest)
    (counts_are c.args.timestamp c.counts-counts.result r c.counts-counts.ensures.present
    c.counts-counts.ensures.missing c.counts-counts.ensures.contested))
    c.in_ok-put_counts.ensures.ok)
    refl c.in_err-put_missing.ensures.fault)

pub returns-clause-ok : goal.returns-clause-ok
returns-clause-ok g c =
    let r = c.args.frame.now in
    let rest : List ℕ = missing_lines r ++ contested_lines r in
    let whole : List ℕ = frame_text c.args.timestamp r in
    on_ok_weaker c.put_contested.result
    (λ q. put_last _ _ _ _ _ _ (contested_lines r) (contested_lines r) whole
    (put_more _ _ _ _ _ _ rest (missing_lines r) (contested_lines r) whole
    (put_more _ _ _ _ _ _ whole (counts_line c.args.timestamp c.counts-counts.result) rest whole
    (put_none _ _ whole whole refl)
    (ap (λ (t : List ℕ). t ++ rest)
    (counts_are c.args.timestamp c.counts-counts.result r c.counts-counts.ensures.present
    c.counts-counts.ensures.missing c.counts-counts.ensures.contested))
    c.in_ok-put_counts.ensures.ok)
    refl c.in_ok-put_missing.ensures.ok)
    refl q) c.put_contested.ensures.ok

pub returns-clause-fault : goal.returns-clause-fault
returns-clause-fault g c =
    let r = c.args.frame.now in
    let rest : List ℕ = missing_lines r ++ contested_lines r in
    let whole : List ℕ = frame_text c.args.timestamp r in
    on_err_weaker c.put_contested.result
    (λ q. put_last_cut _ _ _ _ _ (contested_lines r) (contested_lines r) whole
    (put_more _ _ _ _ _ _ rest (missing_lines r) (contested_lines r) whole
    (put_more _ _ _ _ _ _ whole (counts_line c.args.timestamp c.counts-counts.result) rest whole
    (put_none _ _ whole whole refl)
    (ap (λ (t : List ℕ). t ++ rest)
    (counts_are c.args.timestamp c.counts-counts.result r c.counts-counts.ensures.present
    c.counts-counts.ensures.missing c.counts-counts.ensures.contested))
    c.in_ok-put_counts.ensures.ok)
    refl c.in_ok-put_missing.ensures.ok)
    refl q) c.put_contested.ensures.fault
