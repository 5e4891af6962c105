use Rattle.std.proofs.Common.{◌≡◌, ℕ, ◌+◌, ◌-◌, ◌*◌, ◌≤◌, ◌++◌, List, length, take, drop, ap, ◌∙◌}
use Rattle.std.proofs.Common.{subst, arith}
use Rattle.std.proofs.lemmas.List.{length-drop, length-take-le}
use Rattle.std.proofs.lemmas.Slice.{drop-put_mid, take-put_mid}
use Rattle.st_format.specs.Picture.{IsPicture, Values}
use Rattle.st_format.specs.Position.{row_groups}
use Rattle.packet_plan.specs.Text.{run_octets}
use Rattle.key_mix.proofs.MadePictures.{run_part, run_size}
use Rattle.key_mix.proofs.making.MadePictureRaster.write_run.Goals as goal

pub slice_bounds-write_groups-end : goal.slice_bounds-write_groups-end
slice_bounds-write_groups-end g c =
    omega (
      arith,
      c.requires.room,
      run_size c.args.self.now c.args.run _ c.pgroup.result.octets
          (ap (λ (p : Values). p.format) c.self.view_is) c.pgroup.ensures.octets,
    )

pub returns-clause-value : goal.returns-clause-value
returns-clause-value g c =
    ap (λ (k : ℕ). c.args.at + k)
    (run_size c.args.self.now c.args.run _ c.pgroup.result.octets
    (ap (λ (p : Values). p.format) c.self.view_is) c.pgroup.ensures.octets)

pub returns-clause-written : goal.returns-clause-written
returns-clause-written g c =
    let p : Values = c.args.self.now in
    let at : ℕ = c.args.at in
    let n : ℕ = c.pgroup.result.octets * c.args.run.groups in
    let buf : List ℕ = c.args.buf.now in
    let part : List ℕ = c.write_groups.new.octets in
    let size : n ≡ length (run_octets p c.args.run) =
    run_size p c.args.run _ c.pgroup.result.octets
    (ap (λ (p : Values). p.format) c.self.view_is) c.pgroup.ensures.octets in
    let room : at + n ≤ length buf = omega (arith, c.requires.room, size) in
    let is : part ≡ run_octets p c.args.run =
    c.write_groups.ensures
    ∙ run_part p c.args.run c.row_groups.result
    (subst IsPicture c.self.view_is c.self.invariant.whole) c.requires.head
    (c.row_groups.ensures.value ∙ ap (λ (q : Values). row_groups q.format) c.self.view_is) in
    take-put_mid at (at + n - at) buf part (at + n) (omega (arith, ap length is, size))
    (omega (arith, room))
    ∙ ap (λ (os : List ℕ). take at buf ++ os) is

pub returns-clause-behind : goal.returns-clause-behind
returns-clause-behind g c =
    let p : Values = c.args.self.now in
    let at : ℕ = c.args.at in
    let n : ℕ = c.pgroup.result.octets * c.args.run.groups in
    let buf : List ℕ = c.args.buf.now in
    let part : List ℕ = c.write_groups.new.octets in
    let size : n ≡ length (run_octets p c.args.run) =
    run_size p c.args.run _ c.pgroup.result.octets
    (ap (λ (p : Values). p.format) c.self.view_is) c.pgroup.ensures.octets in
    let room : at + n ≤ length buf = omega (arith, c.requires.room, size) in
    let long : length part ≡ at + n - at =
    c.write_groups.auto.octets
    ∙ length-take-le (at + n - at) (drop at buf) (omega (arith, room, length-drop at buf)) in
    drop-put_mid at (at + n - at) buf part (at + n) (omega arith) (omega (arith, room)) long
