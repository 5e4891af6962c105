use Rattle.std.proofs.Common.{arith}
use Rattle.media_file.specs.Faults.{CountsFault}
use Rattle.st_format.specs.Given.{Takes}
use Rattle.receiver_file.specs.Saved.{kept_frames}
use Rattle.receiver_file.specs.StateReading.{all_held_at}
use Rattle.std.proofs.Common.{◌≡◌, ℕ, ◌+◌, ◌∙◌, List, [], ◌∷◌, ◌++◌, length, length-append, ap}
use Rattle.std.proofs.Common.{refl, sym, subst}
use Rattle.std.proofs.lemmas.Result.{err_from_is_err_and}
use Rattle.st_format.specs.Fields.{fields_of}
use Rattle.st_format.specs.Raster.{Raster}
use Rattle.path_receiver.specs.Opening.{AreDifferent}
use Rattle.receiver_file.proofs.FrameReads.{frames_push, frames_start, groups_stop, stamp_stop}
use Rattle.receiver_file.proofs.Stamped.{all_next, all_none, different_next}
use Rattle.media_file.proofs.Gave.{fault_memory}
use Rattle.receiver_file.proofs.Giving.{fault_three, fault_two, gave_none, gave_three}
use Rattle.receiver_file.proofs.Giving.{three_grew}
use Rattle.media_file.specs.Groups.{groups_at}
use Rattle.media_file.specs.StateFile.{raster_groups}
use Rattle.receiver_file.specs.Giving.{GaveOf}
use Rattle.receiver_file.specs.Known.{shape_in}
use Rattle.receiver_file.specs.Saved.{cell_groups}
use Rattle.receiver_file.specs.StateReading.{timestamp_at}
use Rattle.receiver_file.proofs.frames.read_frames.Goals as goal

pub loop-init : goal.loop-init
loop-init g c =
    record {
      stamps = ap (λ (w : List ℕ). length w) c.new-window.ensures;
      one_each =
          ap (λ (rs : List Raster). length rs) c.new-frames.ensures.items
          ∙ sym (ap (λ (w : List ℕ). length w) c.new-window.ensures);
      of_format = all_none _ c.new-frames.result.items c.new-frames.ensures.items;
      different = subst (λ (w : List ℕ). AreDifferent w) (sym c.new-window.ensures) tt;
      goes =
          frames_start _ c.new-window.result.items c.new-frames.result.items _ c.new-window.ensures;
      gave =
          gave_none (all_held_at (fields_of c.args.format) 0 [])
          (kept_frames (fields_of c.args.format) c.new-window.result.items
          c.new-frames.result.items) _
          (λ known. frames_start (fields_of c.args.format) c.new-window.result.items
          c.new-frames.result.items known c.new-window.ensures);
      failures = refl;
    }

pub returns-in_err-timestamp-clause-fault : goal.returns-in_err-timestamp-clause-fault
returns-in_err-timestamp-clause-fault g c =
    let p = err_from_is_err_and c.from_residual.result c.from_residual.ensures.1 in
    rw (p.1, p.2)
    (stamp_stop (fields_of c.args.format) c.loop.counter c.args.count c.loop.window.items
    c.as_slice.result.now c.loop.frames.items _ _ c.in_err-timestamp.field-0.0
    c.as_slice.ensures.value c.loop-test.true
    c.loop.invariant.one_each c.loop.invariant.goes c.in_err-timestamp.ensures.fault)

pub returns-in_err-frame-clause-fault : goal.returns-in_err-frame-clause-fault
returns-in_err-frame-clause-fault g c =
    let p =
    err_from_is_err_and c.from_residual-in_err-frame.result
    c.from_residual-in_err-frame.ensures.1 in
    rw (p.1, p.2)
    (groups_stop (fields_of c.args.format) c.loop.counter c.args.count c.loop.window.items
    c.as_slice.result.now c.loop.frames.items c.in_ok-timestamp.timestamp _ _ _
    c.in_err-frame.field-0.0 c.as_slice.ensures.value c.loop-test.true
    c.loop.invariant.one_each c.loop.invariant.goes c.in_ok-timestamp.ensures.read
    c.in_err-frame.ensures.fault)

pub loop-preserved : goal.loop-preserved
loop-preserved g c =
    let w : List ℕ = c.loop.window.items in
    let rs : List Raster = c.loop.frames.items in
    let t : ℕ = c.in_ok-timestamp.timestamp in
    let r : Raster = c.in_ok-frame.frame in
    let ws : c.push.new.self.items ≡ w ++ t ∷ [] = c.push.ensures.items in
    let xs : c.push-in-loop.new.self.items ≡ rs ++ r ∷ [] = c.in_ok-push.ensures.items in
    let long : length c.push.new.self.items ≡ length w + 1 =
    ap (λ (x : List ℕ). length x) ws ∙ length-append w (t ∷ []) in
    record {
      stamps = long ∙ ap (λ (n : ℕ). n + 1) c.loop.invariant.stamps;
      one_each =
          ap (λ (x : List Raster). length x) xs ∙ length-append rs (r ∷ [])
          ∙ ap (λ (n : ℕ). n + 1) c.loop.invariant.one_each ∙ sym long;
      of_format =
          all_next _ rs c.push-in-loop.new.self.items r xs c.loop.invariant.of_format
          c.in_ok-frame.ensures.format;
      different =
          different_next w c.push.new.self.items c.as_slice.result.now t ws
          c.as_slice.ensures.value c.loop.invariant.different c.in_ok-timestamp.ensures.new;
      goes =
          frames_push (fields_of c.args.format) c.loop.counter w c.push.new.self.items
          c.as_slice.result.now rs c.push-in-loop.new.self.items t r _ _ _ _ ws xs
          c.as_slice.ensures.value c.loop.invariant.one_each c.loop.invariant.goes
          c.in_ok-timestamp.ensures.read c.in_ok-frame.ensures.read;
      gave =
          let fs = fields_of c.args.format in
          gave_three (all_held_at fs c.loop.counter []) (timestamp_at c.as_slice.result.now)
          (groups_at (shape_in c.args.format) (raster_groups fs))
          (all_held_at fs (c.loop.counter + 1) []) (kept_frames fs w rs) t (cell_groups fs r.cells)
          (kept_frames fs c.push.new.self.items c.push-in-loop.new.self.items) _ _ _ _
          (λ was mid next left. frames_push fs c.loop.counter w c.push.new.self.items
          c.as_slice.result.now rs c.push-in-loop.new.self.items t r was mid next left ws xs
          c.as_slice.ensures.value c.loop.invariant.one_each)
          c.loop.invariant.gave c.in_ok-timestamp.ensures.gave c.in_ok-frame.ensures.gave;
      failures =
          c.in_ok-frame.ensures.counted ∙ c.in_ok-timestamp.ensures.counted
          ∙ c.loop.invariant.failures;
    }

pub returns-in_err-timestamp-clause-counted : goal.returns-in_err-timestamp-clause-counted
returns-in_err-timestamp-clause-counted g c =
    let p = err_from_is_err_and c.from_residual.result c.from_residual.ensures.1 in
    rw (p.1, p.2) (subst
    (λ (n : ℕ). CountsFault c.in_err-timestamp.field-0.0 n
    (g.S.ByteSource.failures c.read_timestamp.new.source))
    (c.loop.invariant.failures) c.in_err-timestamp.ensures.counted)

pub returns-in_err-frame-clause-counted : goal.returns-in_err-frame-clause-counted
returns-in_err-frame-clause-counted g c =
    let p =
    err_from_is_err_and c.from_residual-in_err-frame.result
    c.from_residual-in_err-frame.ensures.1 in
    rw (p.1, p.2) (subst
    (λ (n : ℕ). CountsFault c.in_err-frame.field-0.0 n
    (g.S.ByteSource.failures c.read_frame.new.source))
    (c.in_ok-timestamp.ensures.counted ∙ c.loop.invariant.failures) c.in_err-frame.ensures.counted)

pub returns-clause-count : goal.returns-clause-count
returns-clause-count g c =
    let done : c.loop.counter ≡ c.args.count =
    omega (arith, c.loop-test.false, c.loop.auto.counter-end) in
    c.loop.invariant.stamps ∙ done

pub returns-clause-different : goal.returns-clause-different
returns-clause-different g c = c.loop.invariant.different

pub returns-clause-one_each : goal.returns-clause-one_each
returns-clause-one_each g c =
    let done : c.loop.counter ≡ c.args.count =
    omega (arith, c.loop-test.false, c.loop.auto.counter-end) in
    c.loop.invariant.one_each ∙ c.loop.invariant.stamps ∙ done

pub returns-clause-of_format : goal.returns-clause-of_format
returns-clause-of_format g c = c.loop.invariant.of_format

pub returns-clause-read : goal.returns-clause-read
returns-clause-read g c =
    let done : c.loop.counter ≡ c.args.count =
    omega (arith, c.loop-test.false, c.loop.auto.counter-end) in
    subst
    (λ (n : ℕ). Takes (all_held_at (fields_of c.args.format) n [])
    (g.S.ByteSource.to_give c.args.source.now) (g.S.ByteSource.to_give c.loop.source)
    (kept_frames (fields_of c.args.format) c.loop.window.items c.loop.frames.items))
    done c.loop.invariant.goes

pub returns-clause-counted : goal.returns-clause-counted
returns-clause-counted g c = c.loop.invariant.failures

pub returns-in_err-timestamp-clause-gave_wrong : goal.returns-in_err-timestamp-clause-gave_wrong
returns-in_err-timestamp-clause-gave_wrong g c =
    let p =
    err_from_is_err_and c.from_residual.result c.from_residual.ensures.1 in
    let fs = fields_of c.args.format in
    let i : ℕ = c.loop.counter in
    let w : List ℕ = c.loop.window.items in
    let b : List ℕ = c.as_slice.result.now in
    let rs : List Raster = c.loop.frames.items in
    let f = c.in_err-timestamp.field-0.0 in
    rw (p.1, p.2)
    (fault_two (all_held_at fs i []) (timestamp_at b) (all_held_at fs c.args.count [])
    (kept_frames fs w rs) _ _ _ _ f
    (λ was mid. stamp_stop fs i c.args.count w b rs was mid f c.as_slice.ensures.value
    c.loop-test.true c.loop.invariant.one_each)
    c.loop.invariant.gave c.in_err-timestamp.ensures.gave_wrong)

pub returns-in_err-frame-clause-gave_wrong : goal.returns-in_err-frame-clause-gave_wrong
returns-in_err-frame-clause-gave_wrong g c =
    let p =
    err_from_is_err_and c.from_residual-in_err-frame.result c.from_residual-in_err-frame.ensures.1
    in
    let fs = fields_of c.args.format in
    let i : ℕ = c.loop.counter in
    let w : List ℕ = c.loop.window.items in
    let b : List ℕ = c.as_slice.result.now in
    let rs : List Raster = c.loop.frames.items in
    let t : ℕ = c.in_ok-timestamp.timestamp in
    let f = c.in_err-frame.field-0.0 in
    rw (p.1, p.2)
    (fault_three (all_held_at fs i []) (timestamp_at b)
    (groups_at (shape_in c.args.format) (raster_groups fs)) (all_held_at fs c.args.count [])
    (kept_frames fs w rs) t _ _ _ _ _ f
    (λ was mid next. groups_stop fs i c.args.count w b rs t was mid next f
    c.as_slice.ensures.value c.loop-test.true c.loop.invariant.one_each)
    c.loop.invariant.gave c.in_ok-timestamp.ensures.gave c.in_err-frame.ensures.gave_wrong)

pub returns-clause-gave : goal.returns-clause-gave
returns-clause-gave g c =
    let done : c.loop.counter ≡ c.args.count =
    omega (arith, c.loop-test.false, c.loop.auto.counter-end) in
    subst
    (λ (n : ℕ). GaveOf (all_held_at (fields_of c.args.format) n [])
    (g.S.ByteSource.gave c.args.source.now) (g.S.ByteSource.gave c.loop.source)
    (kept_frames (fields_of c.args.format) c.loop.window.items c.loop.frames.items))
    done c.loop.invariant.gave

pub returns-in_err-push-clause-gave_wrong : goal.returns-in_err-push-clause-gave_wrong
returns-in_err-push-clause-gave_wrong g c =
    let p =
    err_from_is_err_and c.from_residual-in_err-push.result
    c.from_residual-in_err-push.ensures.1 in
    let fs = fields_of c.args.format in
    rw (p.1, p.2)
    (fault_memory (all_held_at fs c.args.count []) _ _ _
    (three_grew (all_held_at fs c.loop.counter []) (timestamp_at c.as_slice.result.now)
    (groups_at (shape_in c.args.format) (raster_groups fs))
    (kept_frames fs c.loop.window.items c.loop.frames.items) c.in_ok-timestamp.timestamp
    (cell_groups fs c.in_ok-frame.frame.cells) _ _ _ _
    c.loop.invariant.gave c.in_ok-timestamp.ensures.gave c.in_ok-frame.ensures.gave))
