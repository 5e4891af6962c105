use Rattle.std.proofs.Common.{◌∙◌, Result, refl, subst, sym}
use Rattle.std.proofs.lemmas.Result.{on_ok_weaker}
use Rattle.path_receiver.specs.Tallied.{TalliesMore}
use Rattle.path_receiver.specs.declared.answer.Refusal.{Refusal}
use Rattle.path_receiver.specs.declared.answer.Taken.{Taken}
use Rattle.media_file.specs.Writer.{entry}
use Rattle.stream_inspection.specs.declared.inspection.Inspection.{Inspection}
use Rattle.stream_inspection.proofs.Noting.{notes_one}
use Rattle.stream_inspection.proofs.inspection.Inspection.note.Goals as goal

pub returns-in-Some : goal.returns-in-Some
returns-in-Some g c =
    let old : Inspection g.row.A.Denot = c.args.self.now in
    let mid : Inspection g.row.A.Denot = record old { tally = c.note.new.self } in
    on_ok_weaker c.note_packet.result
    (λ noted. notes_one c.args.target.now
    (entry c.args.path c.args.moment c.args.octets.now) c.in-Some.packet old mid
    c.note_packet.new.self (sym c.is_rtcp.ensures ∙ c.if-is_rtcp.false)
    (sym c.look_at-answer.ensures.packet ∙ c.in-Some.is) refl refl refl
    (subst (λ (r : Result Taken Refusal). TalliesMore old.tally c.note.new.self r)
    c.look_at-answer.ensures.answer c.note.ensures.counted)
    refl noted)
    c.note_packet.ensures
