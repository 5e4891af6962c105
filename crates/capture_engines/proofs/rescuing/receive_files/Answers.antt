use Rattle.std.proofs.Common.{inl, inr, refl, subst, sym}
use Rattle.std.proofs.lemmas.Result.{err_from_is_err_and}
use Rattle.std.specs.List.{zip}
use Rattle.std.specs.Option.{option_copied}
use Rattle.run_outcome.specs.Moments.{WasRead}
use Rattle.run_outcome.proofs.Refusals.{if_err_map, device_alone, of_refusal_map}
use Rattle.capture_engines.specs.Counted.{CountsReceived}
use Rattle.capture_engines.proofs.InOrder.{receives}
use Rattle.capture_engines.proofs.FirstRefused.{files_said}
use Rattle.capture_engines.proofs.Rescues.{counted_if, counts, failed_part, none_part, on_ok_both}
use Rattle.capture_engines.proofs.Rescues.{maybe_part, of_files, of_part, on_ok_each, part_refused}
use Rattle.capture_engines.proofs.Rescues.{maybe_so, rescued_if, rescues, shows_so, sound_not}
use Rattle.capture_engines.proofs.Rescues.{whole_part}
use Rattle.run_outcome.proofs.Printed.{on_err, whenever}
use Rattle.capture_engines.specs.Rescued.{IsReceiverOfAny}
use Rattle.capture_engines.proofs.rescuing.receive_files.Goals as goal

pub returns-in-Whole-clause-saved : goal.returns-in-Whole-clause-saved
returns-in-Whole-clause-saved g c =
    let intake = c.in-Whole.intake in
    on_ok_each c.put_out.result _ _ _ _
    (λ writable printed taken. record {
      receiver = intake.receiver;
      delivered = intake.delivered;
      tally = intake.tally;
      writable = writable;
      printed = printed;
      taken = taken;
    })
    c.put_out.ensures.writable c.put_out.ensures.printed c.put_out.ensures.whole

pub returns-in-Whole-clause-taken : goal.returns-in-Whole-clause-taken
returns-in-Whole-clause-taken g c =
    let told = g.S.ByteSource in
    on_ok_both c.put_out.result _ _ _
    (receives c.in_ok-opening.opening c.args.wanted.window.now c.args.wanted.ssrc.now
    (option_copied c.args.sdp) c.args.ways.now (WasRead told.gave told.ended)
    (zip c.args.files.now c.rescue_files.new.files) c.in_ok-begun.begun
    c.in-Whole.intake c.args.wanted.tells_refusals _ _ _ _ c.in_ok-opening.ensures.window
    c.in_ok-opening.ensures.source c.in_ok-begun.ensures.begun
    (rw c.in-Whole.is at c.in_ok-intake.ensures.taken))
    c.put_out.ensures.printed c.put_out.ensures.whole

pub returns-in-Whole-clause-counted : goal.returns-in-Whole-clause-counted
returns-in-Whole-clause-counted g c =
    let told = g.S.ByteSource in
    let window = c.args.wanted.window.now in
    let source = c.args.wanted.ssrc.now in
    let sdp = option_copied c.args.sdp in
    let read = WasRead told.gave told.ended in
    let captures = zip c.args.files.now c.rescue_files.new.files in
    counted_if c.put_out.result c.put_out.new.reception _
    (CountsReceived window source sdp c.args.ways.now read captures)
    (counts c.in_ok-opening.opening window source sdp c.args.ways.now read captures
    c.in_ok-begun.begun c.in-Whole.intake _ c.in_ok-opening.ensures.window
    c.in_ok-opening.ensures.source c.in_ok-begun.ensures.begun
    (rw c.in-Whole.is at c.in_ok-intake.ensures.taken) refl)
    c.put_out.ensures.counted

pub returns-in-Part-clause-rescued : goal.returns-in-Part-clause-rescued
returns-in-Part-clause-rescued g c =
    let told = g.S.ByteSource in
    let taken = rw c.in-Part.is at c.in_ok-intake.ensures.taken in
    rescued_if c.put_part.result c.put_part.new.reception c.in-Part.fault _ _ _ _
    (λ printed whole r is. (
      c.if-is_sound.true,
      rescues c.in_ok-opening.opening c.args.wanted.window.now c.args.wanted.ssrc.now
          (option_copied c.args.sdp) c.args.ways.now told.gave told.ended c.in-Part.fault
          (zip c.args.files.now c.rescue_files.new.files) c.in_ok-begun.begun
          c.in-Part.intake c.args.wanted.tells_refusals _ _ _ _ r c.in_ok-opening.ensures.window
          c.in_ok-opening.ensures.source c.in_ok-begun.ensures.begun taken.0 printed whole is,
    ))
    c.put_part.ensures.printed c.put_part.ensures.whole c.put_part.ensures.counted
    c.put_part.ensures.same

pub returns-in-Part-clause-refusal : goal.returns-in-Part-clause-refusal
returns-in-Part-clause-refusal g c =
    let told = g.S.ByteSource in
    let taken = rw c.in-Part.is at c.in_ok-intake.ensures.taken in
    part_refused c.put_part.result c.in-Part.fault _
    (of_refusal_map c.in-Part.fault
    (files_said c.args.wanted.window.now c.args.wanted.ssrc.now c.in_ok-opening.opening
    (option_copied c.args.sdp) c.args.ways.now (WasRead told.gave told.ended)
    (zip c.args.files.now c.rescue_files.new.files) c.in_ok-begun.begun
    (c.in_ok-opening.ensures.window, (_, c.in_ok-opening.ensures.source))
    c.in_ok-begun.ensures.begun c.in_ok-begun.ensures.none c.in_ok-begun.ensures.opens)
    taken.1)
    c.put_part.ensures.refused

pub returns-in-Part-clause-failures : goal.returns-in-Part-clause-failures
returns-in-Part-clause-failures g c =
    c.put_part.ensures.failures _ (rw c.in-Part.is at c.in_ok-intake.ensures.failures)

pub returns-clause-refusal : goal.returns-clause-refusal
returns-clause-refusal g c =
    let told = g.S.ByteSource in
    let taken = rw c.in-Part.is at c.in_ok-intake.ensures.taken in
    of_refusal_map c.in-Part.fault
    (files_said c.args.wanted.window.now c.args.wanted.ssrc.now c.in_ok-opening.opening
    (option_copied c.args.sdp) c.args.ways.now (WasRead told.gave told.ended)
    (zip c.args.files.now c.rescue_files.new.files) c.in_ok-begun.begun
    (c.in_ok-opening.ensures.window, (_, c.in_ok-opening.ensures.source))
    c.in_ok-begun.ensures.begun c.in_ok-begun.ensures.none c.in_ok-begun.ensures.opens)
    taken.1

pub returns-in_err-intake-clause-refusal : goal.returns-in_err-intake-clause-refusal
returns-in_err-intake-clause-refusal g c =
    let told = g.S.ByteSource in
    let p = err_from_is_err_and c.from_residual-in_err-intake.result
    c.from_residual-in_err-intake.ensures.1 in
    rw (p.1, p.2) (of_refusal_map c.in_err-intake.field-0.0
    (files_said c.args.wanted.window.now c.args.wanted.ssrc.now c.in_ok-opening.opening
    (option_copied c.args.sdp) c.args.ways.now (WasRead told.gave told.ended)
    (zip c.args.files.now c.rescue_files.new.files) c.in_ok-begun.begun
    (c.in_ok-opening.ensures.window, (_, c.in_ok-opening.ensures.source))
    c.in_ok-begun.ensures.begun c.in_ok-begun.ensures.none c.in_ok-begun.ensures.opens)
    c.in_err-intake.ensures.refusal)

pub returns-in_err-begun-clause-refusal : goal.returns-in_err-begun-clause-refusal
returns-in_err-begun-clause-refusal g c =
    let p = err_from_is_err_and c.from_residual-in_err-begun.result
    c.from_residual-in_err-begun.ensures.1 in
    rw (p.1, p.2) (of_refusal_map c.in_err-begun.field-0.0
    (λ r is. inr (
      c.in_ok-opening.opening.window.items,
      (c.in_ok-opening.ensures.window, (_, c.in_ok-opening.ensures.source)),
      inl is,
    ))
    c.in_err-begun.ensures.refusal)

pub returns-in_err-opening-clause-part : goal.returns-in_err-opening-clause-part
returns-in_err-opening-clause-part g c =
    let p = err_from_is_err_and c.from_residual.result c.from_residual.ensures.1 in
    rw (p.1) (none_part c.args.reception.now c.args.reception.now _ refl c.requires (inl refl))

pub returns-in_err-begun-clause-part : goal.returns-in_err-begun-clause-part
returns-in_err-begun-clause-part g c =
    let p = err_from_is_err_and c.from_residual-in_err-begun.result
    c.from_residual-in_err-begun.ensures.1 in
    rw (p.1) (none_part c.args.reception.now c.args.reception.now _ refl c.requires (inl refl))

pub returns-in_err-intake-clause-part : goal.returns-in_err-intake-clause-part
returns-in_err-intake-clause-part g c =
    let p = err_from_is_err_and c.from_residual-in_err-intake.result
    c.from_residual-in_err-intake.ensures.1 in
    rw (p.1) (none_part c.args.reception.now c.args.reception.now _ refl c.requires (inl refl))

pub returns-in-Whole-clause-part : goal.returns-in-Whole-clause-part
returns-in-Whole-clause-part g c =
    let told = g.S.ByteSource in
    let window = c.args.wanted.window.now in
    let source = c.args.wanted.ssrc.now in
    let sdp = option_copied c.args.sdp in
    let files = zip c.args.files.now c.rescue_files.new.files in
    failed_part c.put_out.result c.put_out.new.reception c.args.reception.now _
    c.put_out.ensures.none c.requires
    (whole_part c.put_out.result
    (IsReceiverOfAny c.args.is_sound window source sdp c.args.ways.now told.gave told.ended files)
    c.in-Whole.intake.receiver _ _
    (inl (of_files c.in_ok-opening.opening window source sdp c.args.ways.now
    (WasRead told.gave told.ended) files c.in_ok-begun.begun c.in-Whole.intake
    c.in_ok-opening.ensures.window c.in_ok-opening.ensures.source c.in_ok-begun.ensures.begun
    (rw c.in-Whole.is at c.in_ok-intake.ensures.taken)))
    c.put_out.ensures.part)

pub returns-in-Part-clause-part : goal.returns-in-Part-clause-part
returns-in-Part-clause-part g c =
    let told = g.S.ByteSource in
    let window = c.args.wanted.window.now in
    let source = c.args.wanted.ssrc.now in
    let sdp = option_copied c.args.sdp in
    let files = zip c.args.files.now c.rescue_files.new.files in
    let taken = rw c.in-Part.is at c.in_ok-intake.ensures.taken in
    whenever c.put_part.result _
    (maybe_part c.put_part.new.reception
    (IsReceiverOfAny c.args.is_sound window source sdp c.args.ways.now told.gave told.ended files)
    c.in-Part.intake.receiver _ _
    (inr (
      c.if-is_sound.true,
      of_part c.in_ok-opening.opening window source sdp c.args.ways.now told.gave told.ended
          c.in-Part.fault files c.in_ok-begun.begun c.in-Part.intake
          c.in_ok-opening.ensures.window c.in_ok-opening.ensures.source
          c.in_ok-begun.ensures.begun taken.0,
    ))
    c.put_part.ensures.part)

pub returns-clause-part : goal.returns-clause-part
returns-clause-part g c =
    none_part c.args.reception.now c.args.reception.now _ refl c.requires (inl refl)

pub returns-in-Whole-clause-memory : goal.returns-in-Whole-clause-memory
returns-in-Whole-clause-memory g c =
    device_alone c.put_out.result _ c.put_out.ensures.device

pub returns-in-Part-clause-memory : goal.returns-in-Part-clause-memory
returns-in-Part-clause-memory g c =
    if_err_map c.put_part.result
    (λ f is memory unsound. absurd (sound_not c.args.is_sound c.if-is_sound.true unsound))
    c.put_part.ensures.refused

pub returns-clause-memory : goal.returns-clause-memory
returns-clause-memory g c = λ memory unsound. (refl, refl)

pub returns-in_err-opening-clause-wanted : goal.returns-in_err-opening-clause-wanted
returns-in_err-opening-clause-wanted g c =
    let p = err_from_is_err_and c.from_residual.result c.from_residual.ensures.1 in
    rw (p.1, p.2) c.in_err-opening.ensures.memory

pub returns-in_err-begun-clause-wanted : goal.returns-in_err-begun-clause-wanted
returns-in_err-begun-clause-wanted g c =
    let p = err_from_is_err_and c.from_residual-in_err-begun.result
    c.from_residual-in_err-begun.ensures.1 in
    rw (p.1) (λ memory. (
      c.in_ok-opening.opening.window.items,
      (c.in_ok-opening.ensures.window, (_, c.in_ok-opening.ensures.source)),
    ))

pub returns-in_err-intake-clause-wanted : goal.returns-in_err-intake-clause-wanted
returns-in_err-intake-clause-wanted g c =
    let p = err_from_is_err_and c.from_residual-in_err-intake.result
    c.from_residual-in_err-intake.ensures.1 in
    rw (p.1) (λ memory. (
      c.in_ok-opening.opening.window.items,
      (c.in_ok-opening.ensures.window, (_, c.in_ok-opening.ensures.source)),
    ))

pub returns-in-Whole-clause-wanted : goal.returns-in-Whole-clause-wanted
returns-in-Whole-clause-wanted g c =
    if_err_map c.put_out.result (λ f is memory. (
      c.in_ok-opening.opening.window.items,
      (c.in_ok-opening.ensures.window, (_, c.in_ok-opening.ensures.source)),
    ))
    c.put_out.ensures.device

pub returns-in-Part-clause-wanted : goal.returns-in-Part-clause-wanted
returns-in-Part-clause-wanted g c =
    if_err_map c.put_part.result (λ f is memory. (
      c.in_ok-opening.opening.window.items,
      (c.in_ok-opening.ensures.window, (_, c.in_ok-opening.ensures.source)),
    ))
    c.put_part.ensures.refused

pub returns-clause-wanted : goal.returns-clause-wanted
returns-clause-wanted g c = λ memory. (
  c.in_ok-opening.opening.window.items,
  (c.in_ok-opening.ensures.window, (_, c.in_ok-opening.ensures.source)),
)

pub returns-in_err-opening-clause-printed : goal.returns-in_err-opening-clause-printed
returns-in_err-opening-clause-printed g c =
    whenever c.from_residual.result _
    (none_part c.args.reception.now c.args.reception.now _ refl c.requires (inl refl))

pub returns-in_err-begun-clause-printed : goal.returns-in_err-begun-clause-printed
returns-in_err-begun-clause-printed g c =
    whenever c.from_residual-in_err-begun.result _
    (none_part c.args.reception.now c.args.reception.now _ refl c.requires (inl refl))

pub returns-in_err-intake-clause-printed : goal.returns-in_err-intake-clause-printed
returns-in_err-intake-clause-printed g c =
    whenever c.from_residual-in_err-intake.result _
    (none_part c.args.reception.now c.args.reception.now _ refl c.requires (inl refl))

pub returns-in-Whole-clause-printed : goal.returns-in-Whole-clause-printed
returns-in-Whole-clause-printed g c =
    let told = g.S.ByteSource in
    let window = c.args.wanted.window.now in
    let source = c.args.wanted.ssrc.now in
    let sdp = option_copied c.args.sdp in
    let files = zip c.args.files.now c.rescue_files.new.files in
    failed_part c.put_out.result c.put_out.new.reception c.args.reception.now _
    c.put_out.ensures.none c.requires
    (on_err c.put_out.result _ _
    (shows_so g.O.ByteSink.took g.O.ByteSink.failures c.args.wanted.tells_refusals _
    (IsReceiverOfAny c.args.is_sound window source sdp c.args.ways.now told.gave told.ended files)
    _ _ (λ s same. subst (IsReceiverOfAny c.args.is_sound window source sdp c.args.ways.now
    told.gave told.ended files) (sym same)
    (inl (of_files c.in_ok-opening.opening window source sdp c.args.ways.now
    (WasRead told.gave told.ended) files c.in_ok-begun.begun c.in-Whole.intake
    c.in_ok-opening.ensures.window c.in_ok-opening.ensures.source c.in_ok-begun.ensures.begun
    (rw c.in-Whole.is at c.in_ok-intake.ensures.taken)))))
    c.put_out.ensures.shown)

pub returns-in-Part-clause-printed : goal.returns-in-Part-clause-printed
returns-in-Part-clause-printed g c =
    let told = g.S.ByteSource in
    let window = c.args.wanted.window.now in
    let source = c.args.wanted.ssrc.now in
    let sdp = option_copied c.args.sdp in
    let files = zip c.args.files.now c.rescue_files.new.files in
    let taken = rw c.in-Part.is at c.in_ok-intake.ensures.taken in
    whenever c.put_part.result _
    (maybe_so c.put_part.new.reception _ _
    (shows_so g.O.ByteSink.took g.O.ByteSink.failures c.args.wanted.tells_refusals _
    (IsReceiverOfAny c.args.is_sound window source sdp c.args.ways.now told.gave told.ended files)
    _ _ (λ s same. subst (IsReceiverOfAny c.args.is_sound window source sdp c.args.ways.now
    told.gave told.ended files) (sym same)
    (inr (
      c.if-is_sound.true,
      of_part c.in_ok-opening.opening window source sdp c.args.ways.now told.gave told.ended
          c.in-Part.fault files c.in_ok-begun.begun c.in-Part.intake
          c.in_ok-opening.ensures.window c.in_ok-opening.ensures.source
          c.in_ok-begun.ensures.begun taken.0,
    ))))
    c.put_part.ensures.shown)

pub returns-clause-printed : goal.returns-clause-printed
returns-clause-printed g c =
    none_part c.args.reception.now c.args.reception.now _ refl c.requires (inl refl)
