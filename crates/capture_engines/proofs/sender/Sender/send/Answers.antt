use Rattle.std.proofs.Common.{ap, refl, rules, subst, ◌∙◌}
use Rattle.st_format.specs.declared.format.Format.{Format}
use Rattle.media_file.proofs.Putting.{each_faultless, each_lent, each_stands, fails_lent}
use Rattle.packet_plan.specs.Sender.{stamp_of}
use Rattle.packet_plan.specs.Sent.{IsSentPicture}
use Rattle.packet_plan.specs.declared.stamp.Stamp.{Stamp}
use Rattle.capture_engines.specs.Sending.{run_sender}
use Rattle.capture_engines.specs.Writing.{WritesPicture}
use Rattle.capture_engines.proofs.SentParts.{fails_written}
use Rattle.capture_engines.proofs.Sendings.{fails_picture, writes_picture}
use Rattle.capture_engines.proofs.sender.Sender.send.Goals as goal

pub returns-in_default-clause-failures : goal.returns-in_default-clause-failures
returns-in_default-clause-failures g c =
    fails_picture g.K.ByteSink.held g.K.ByteSink.took g.K.ByteSink.failures
    g.K.ByteSink.names (g.R.Raster.values c.args.picture.now)
    c.stamp-stamp.result c.args.self.now.plan _ c.args.self.now.writer c.send_frame.new.sink
    c.requires.stands c.in_default.ensures.puts_part

pub returns-in_default-clause-names : goal.returns-in_default-clause-names
returns-in_default-clause-names g c =
    let part = c.in_default.ensures.puts_part in
    fails_lent g.K.ByteSink.held g.K.ByteSink.took g.K.ByteSink.failures
    g.K.ByteSink.names c.args.self.now.writer
    part.datagrams _ c.send_frame.new.sink part.failed

pub returns-clause-sent : goal.returns-clause-sent
returns-clause-sent g c = record {
  format = search rules;
  written =
      subst (λ (s : Stamp). WritesPicture g.K.ByteSink.took (g.R.Raster.values c.args.picture.now) s
      c.args.self.now.plan c.args.self.now.writer c.send_frame.new.sink)
      (c.stamp-stamp.ensures.value
      ∙ ap (λ (f : Format). stamp_of (run_sender f c.args.self.now.wanted) c.args.place
      c.args.self.now.next) c.format-format.ensures)
      (writes_picture g.K.ByteSink.held g.K.ByteSink.took g.K.ByteSink.failures
      g.K.ByteSink.names
      (g.R.Raster.values c.args.picture.now) c.stamp-stamp.result c.args.self.now.plan
      c.args.self.now.writer c.send_frame.new.sink c.in-Ok.ensures.puts);
  next = search rules;
  count = search rules;
  plan = refl;
  wanted = refl;
}

pub returns-clause-stands : goal.returns-clause-stands
returns-clause-stands g c =
    let puts = c.in-Ok.ensures.puts in
    each_stands g.K.ByteSink.held g.K.ByteSink.took g.K.ByteSink.failures
    g.K.ByteSink.names
    c.args.self.now.writer puts.datagrams c.send_frame.new.sink puts.taken ∙ c.requires.stands

pub returns-clause-failures : goal.returns-clause-failures
returns-clause-failures g c =
    let puts = c.in-Ok.ensures.puts in
    each_faultless g.K.ByteSink.held g.K.ByteSink.took g.K.ByteSink.failures
    g.K.ByteSink.names
    c.args.self.now.writer puts.datagrams c.send_frame.new.sink puts.taken

pub returns-clause-names : goal.returns-clause-names
returns-clause-names g c =
    let puts = c.in-Ok.ensures.puts in
    each_lent g.K.ByteSink.held g.K.ByteSink.took g.K.ByteSink.failures
    g.K.ByteSink.names
    c.args.self.now.writer puts.datagrams c.send_frame.new.sink puts.taken

pub returns-in_default-clause-part : goal.returns-in_default-clause-part
returns-in_default-clause-part g c =
    let sink = g.K.ByteSink in
    let old = c.args.self.now in
    let p = g.R.Raster.values c.args.picture.now in
    let puts = c.in_default.ensures.puts_part in
    record {
      datagrams = puts.datagrams;
      format = search rules;
      sent =
          subst (λ (s : Stamp). IsSentPicture puts.datagrams p s old.plan.max_octets
          old.plan.packets)
          (c.stamp-stamp.ensures.value
          ∙ ap (λ (f : Format). stamp_of (run_sender f old.wanted) c.args.place old.next)
          c.format-format.ensures) puts.sent;
      part =
          fails_written sink.held sink.took sink.failures sink.names old.writer puts.datagrams _
          c.send_frame.new.sink c.requires.stands puts.failed;
      failed =
          fails_picture sink.held sink.took sink.failures sink.names p c.stamp-stamp.result old.plan
          _ old.writer c.send_frame.new.sink c.requires.stands puts;
      plan = refl;
    }
