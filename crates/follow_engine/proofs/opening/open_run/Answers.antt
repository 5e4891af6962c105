use Rattle.std.proofs.Common.{[], refl}
use Rattle.sdp_format.specs.Views.{description}
use Rattle.follow_engine.proofs.opening.open_run.Goals as goal

pub returns-in-Ok-clause-opened : goal.returns-in-Ok-clause-opened
returns-in-Ok-clause-opened g c = record {
  opening = record {
    format = c.in_ok-sdp.sdp.format;
    payload_type = c.in_ok-sdp.sdp.payload_type;
    ssrc = c.args.ssrc;
    window = [];
  };
  no_window = refl;
  source = refl;
  announced = record {
    description = description c.in_ok-sdp.sdp;
    described = c.in_ok-sdp.ensures.said;
    format = refl;
    payload_type = refl;
  };
  is = c.in-Ok.ensures.running;
}
