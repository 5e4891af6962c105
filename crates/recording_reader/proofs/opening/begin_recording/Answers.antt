use Rattle.std.proofs.Common.{◌≡◌, ◌∙◌, Some, [], length, subst, ℕ}
use Rattle.std.proofs.lemmas.Result.{err_from_is_err_and}
use Rattle.pcap_file.specs.Runs.{HasRead, layout_seen, most_packet}
use Rattle.recording_reader.proofs.Beginnings.{recording_begins, recording_no_memory}
use Rattle.recording_reader.proofs.Beginnings.{recording_stops}
use Rattle.recording_reader.proofs.opening.begin_recording.Goals as goal

pub returns-in_err-room-clause-fault : goal.returns-in_err-room-clause-fault
returns-in_err-room-clause-fault g c =
    let p = err_from_is_err_and c.from_residual.result c.from_residual.ensures.1 in
    rw (p.1, p.2)
    (λ before is. recording_no_memory before _ c.args.four.now c.requires.four c.requires.magic is
    c.args.flows _)

pub returns-in_err-layout-clause-fault : goal.returns-in_err-layout-clause-fault
returns-in_err-layout-clause-fault g c =
    let f = c.in_err-layout.field-0.0 in
    let e = c.in_err-layout.ensures in
    let p =
    err_from_is_err_and c.from_residual-in_err-layout.result
    c.from_residual-in_err-layout.ensures.1 in
    rw (p.1, p.2)
    (λ before is. recording_stops before _ c.args.four.now c.requires.four c.requires.magic is
    (Some c.args.flows) _ _ f e.grown (e.wrong before is))

pub returns-clause-begins : goal.returns-clause-begins
returns-clause-begins g c =
    let told = g.S.ByteSource in
    let e = c.in_ok-layout.ensures in
    let same : length c.deref_mut.result.now ≡ most_packet =
    c.deref_mut.ensures.len ∙ c.in_ok-room.ensures.octets in
    λ before is. recording_begins before _ c.args.four.now c.requires.four c.requires.magic is
    (record {
      flows = c.args.flows;
      layout = c.in_ok-layout.layout;
      left_out = c.new-2.result;
    }) _ _ e.grown
    (subst (λ (n : ℕ). HasRead n before (told.gave c.open_behind.new.source)
    (layout_seen c.in_ok-layout.layout) []) same (e.read before is)) (e.opened before is)
    c.new-2.ensures
