use Rattle.std.proofs.Common.{◌∙◌, sym}
use Rattle.rtp_header.specs.Views.{seen_rtp}
use Rattle.recording_counts.proofs.Said.{said_none, said_rtcp, said_rtp}
use Rattle.recording_counts.proofs.rtp_count.RtpCount.note.Goals as goal

pub returns-then-is_rtcp : goal.returns-then-is_rtcp
returns-then-is_rtcp c =
    λ all e. said_rtcp all c.args.payload.now _ _ e (sym c.is_rtcp.ensures ∙ c.if-is_rtcp.true)
    c.saturating_add-rtcp.ensures

pub returns-in-Ok : goal.returns-in-Ok
returns-in-Ok c =
    λ all e. said_rtp all c.args.payload.now _ (seen_rtp c.in-Ok.rtp) _ _ e
    (sym c.is_rtcp.ensures ∙ c.if-is_rtcp.false) c.in-Ok.ensures.exact
    c.saturating_add-datagrams.ensures c.note.ensures

pub returns-in-Err : goal.returns-in-Err
returns-in-Err c =
    λ all e. said_none all c.args.payload.now _ _ e (sym c.is_rtcp.ensures ∙ c.if-is_rtcp.false)
    c.in-Err.ensures.exact
