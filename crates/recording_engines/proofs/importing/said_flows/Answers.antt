use Rattle.std.proofs.Common.{List, ap, ◌∙◌}
use Rattle.std.specs.Prelude.{slice_get}
use Rattle.flow.specs.declared.flows.Flow.{Flow}
use Rattle.sdp_format.specs.Bytes.{lines}
use Rattle.sdp_format.specs.Destinations.{flows_seen}
use Rattle.sdp_format.specs.Sections.{video_sections}
use Rattle.recording_engines.proofs.SaidFlows.{are_of}
use Rattle.recording_engines.proofs.importing.said_flows.Goals as goal

pub returns-clause-said : goal.returns-clause-said
returns-clause-said c =
    let fs = c.in_ok-flows.flows.items in
    let said = (c.read_flows.ensures.flows fs).1 (ap flows_seen c.in_ok-flows.was) in (
      fs,
      said,
      are_of (lines c.args.said.now) (video_sections (lines c.args.said.now)) fs
          c.flow_at.result c.flow_at-2.result said
          (c.flow_at.ensures ∙ ap (λ (l : List Flow). slice_get l 0) c.as_slice.ensures.value)
          (c.flow_at-2.ensures ∙ ap (λ (l : List Flow). slice_get l 1) c.as_slice-2.ensures.value),
    )
