use Rattle.std.proofs.Common.{[], ◌∙◌, ◌∷◌, ap, arith, length, length-append, refl, subst, sym, ℕ}
use Rattle.std.proofs.lemmas.Result.{err_from_is_err_and}
use Rattle.run_outcome.proofs.Refusals.{of_refusal_map}
use Rattle.stream_sending.proofs.FramesRead.{gave_end, refused_behind}
use Rattle.stream_sending.proofs.Sendings.{all_so_far, more_so_far, none_so_far}
use Rattle.st_format.specs.Device.{Failed}
use Rattle.run_outcome.proofs.Printed.{whenever}
use Rattle.stream_sending.proofs.SentParts.{here_ended, many_ended, next_ended}
use Rattle.stream_sending.proofs.frames.send_each.Goals as goal

pub loop-place-init : goal.loop-place-init
loop-place-init g c = record {
  room = c.requires.room;
  stands = c.requires.stands;
  reads = c.requires.reads;
  plan = refl;
  stream = refl;
  format = c.requires.format;
  alike = c.requires.alike;
  source = refl;
  written = refl;
  read_names = refl;
  names = refl;
  sent = none_so_far g.K.ByteSink.took c.args.reader.now.format c.args.picture
      (g.S.ByteSource.gave c.args.reader.now.source) c.args.sender.now;
}

pub loop-place-preserved : goal.loop-place-preserved
loop-place-preserved g c =
    let l = c.loop-place in
    let told = g.S.ByteSource in
    let next = c.in_ok-next.ensures in
    record {
      room = c.in_ok-send.ensures.room;
      stands = c.in_ok-send.ensures.stands;
      reads = rw c.in-Some.is at next.reads;
      plan = c.in_ok-send.ensures.plan ∙ l.invariant.plan;
      stream = next.format ∙ l.invariant.stream;
      format = (rw c.in-Some.is at next.gave).0 ∙ l.invariant.stream;
      alike = (rw c.in-Some.is at next.gave).0 ∙ l.invariant.stream
          ∙ sym l.invariant.format ∙ l.invariant.alike;
      source = next.failures ∙ l.invariant.source;
      written = c.in_ok-send.ensures.failures ∙ l.invariant.written;
      read_names = next.names ∙ l.invariant.read_names;
      names = c.in_ok-send.ensures.names ∙ l.invariant.names;
      sent = more_so_far g.K.ByteSink.took c.args.reader.now.format l.place c.args.picture
          l.picture c.in-Some.next (told.gave c.args.reader.now.source)
          (told.gave l.reader.source) (told.gave c.next_picture.new.reader.source)
          c.args.sender.now l.sender c.send.new.self l.invariant.sent c.in_ok-send.ensures.sent
          (rw l.invariant.stream at (rw c.in-Some.is at next.gave));
    }

pub returns-in-None-clause-sent : goal.returns-in-None-clause-sent
returns-in-None-clause-sent g c =
    let l = c.loop-place in
    let told = g.S.ByteSource in
    let so_far = l.invariant.sent in
    let gave = rw c.in-None.is at c.in_ok-next.ensures.gave in
    record {
      rest = so_far.rest;
      few = omega (
        arith,
        c.loop-place-test.true,
        so_far.count,
        ap length so_far.read,
        length-append so_far.sent (l.picture ∷ []),
      );
      gave = gave_end c.args.reader.now.format so_far.rest (told.gave c.args.reader.now.source)
          (told.gave l.reader.source) (told.gave c.next_picture.new.reader.source) so_far.gave
          gave.0;
      over = gave.1;
      sent = all_so_far g.K.ByteSink.took c.args.reader.now.format l.place c.args.picture
          l.picture (told.gave c.args.reader.now.source) (told.gave l.reader.source)
          c.args.sender.now l.sender c.send.new.self so_far c.in_ok-send.ensures.sent;
    }

pub returns-in_err-send-clause-refusal : goal.returns-in_err-send-clause-refusal
returns-in_err-send-clause-refusal g c =
    let l = c.loop-place in
    let p = err_from_is_err_and c.from_residual.result c.from_residual.ensures.1 in
    rw (p.1, p.2) (of_refusal_map c.in_err-send.field-0.0
    (λ r is. absurd (is.1 (l.invariant.alike ∙ ap (λ x. x.format) (sym l.invariant.plan))))
    c.in_err-send.ensures.refusal)

pub returns-in_err-next-clause-refusal : goal.returns-in_err-next-clause-refusal
returns-in_err-next-clause-refusal g c =
    let l = c.loop-place in
    let told = g.S.ByteSource in
    let p = err_from_is_err_and c.from_residual-in_err-next.result
    c.from_residual-in_err-next.ensures.1 in
    rw (p.1, p.2) (of_refusal_map c.in_err-next.field-0.0
    (refused_behind 4294967295 c.args.reader.now.format l.invariant.sent.rest
    (told.gave c.args.reader.now.source) (told.gave l.reader.source) _ _ l.invariant.sent.gave
    (omega (
      arith,
      c.loop-place-test.true,
      l.invariant.sent.count,
      ap length l.invariant.sent.read,
      length-append l.invariant.sent.sent (l.picture ∷ []),
    )))
    (rw l.invariant.stream at c.in_err-next.ensures.refusal))

pub returns-clause-refusal : goal.returns-clause-refusal
returns-clause-refusal g c =
    let l = c.loop-place in
    let so_far = l.invariant.sent in
    record {
      pictures = so_far.rest;
      gave = so_far.gave;
      many = omega (
        arith,
        so_far.count,
        ap length so_far.read,
        length-append so_far.sent (l.picture ∷ []),
      );
    }

pub returns-in_err-send-clause-part : goal.returns-in_err-send-clause-part
returns-in_err-send-clause-part g c =
    let l = c.loop-place in
    let told = g.S.ByteSource in
    let failed = g.K.ByteSink.failures in
    whenever c.from_residual.result _
    (here_ended g.K.ByteSink.took failed _ c.args.reader.now.format l.place c.args.picture l.picture
    (told.gave c.args.reader.now.source) (told.gave l.reader.source) c.args.sender.now l.sender
    c.send.new.self c.in_err-send.field-0.0
    (λ fails. subst (λ (n : ℕ). Failed n (failed c.send.new.self.writer.sink)) l.invariant.written
    fails) c.loop-place-test.true
    (l.invariant.alike ∙ ap (λ x. x.format) (sym l.invariant.plan))
    c.in_err-send.ensures.refusal l.invariant.sent c.in_err-send.ensures.part)

pub returns-in_err-next-clause-part : goal.returns-in_err-next-clause-part
returns-in_err-next-clause-part g c =
    let l = c.loop-place in
    let told = g.S.ByteSource in
    whenever c.from_residual-in_err-next.result _
    (next_ended g.K.ByteSink.took _ c.args.reader.now.format l.place c.args.picture l.picture
    (told.gave c.args.reader.now.source) (told.gave l.reader.source)
    (told.gave c.next_picture.new.reader.source) c.args.sender.now l.sender c.send.new.self
    c.loop-place-test.true l.invariant.sent c.in_ok-send.ensures.sent
    (rw l.invariant.stream at c.in_err-next.ensures.gave_part))

pub returns-clause-part : goal.returns-clause-part
returns-clause-part g c =
    let l = c.loop-place in
    let told = g.S.ByteSource in
    many_ended g.K.ByteSink.took _ c.args.reader.now.format l.place c.args.picture l.picture
    (told.gave c.args.reader.now.source) (told.gave l.reader.source) c.args.sender.now l.sender
    (omega arith) l.invariant.sent
