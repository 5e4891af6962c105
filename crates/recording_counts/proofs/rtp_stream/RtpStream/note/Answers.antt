use Rattle.std.proofs.Common.{◌∙◌, sym}
use Rattle.std.proofs.lemmas.Bool.{eqb-false, eqb-true}
use Rattle.recording_counts.proofs.Kept.{step_first, step_more}
use Rattle.recording_counts.proofs.rtp_stream.RtpStream.note.Goals as goal

pub returns-then-is_empty : goal.returns-then-is_empty
returns-then-is_empty c =
    λ key ts e. c.new-only.ensures
    ∙ step_first key ts c.args.timestamp c.args.self.now e
    (eqb-true c.args.self.now.datagrams 0 (sym c.is_empty.ensures ∙ c.if-is_empty.true))

pub returns-else-is_empty : goal.returns-else-is_empty
returns-else-is_empty c =
    λ key ts e. step_more key ts c.args.timestamp c.args.self.now _ _ _ e
    (eqb-false c.args.self.now.datagrams 0 (sym c.is_empty.ensures ∙ c.if-is_empty.false))
    c.saturating_add-datagrams.ensures c.earlier-first.ensures c.later-last.ensures
