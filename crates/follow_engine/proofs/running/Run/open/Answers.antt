use Rattle.std.proofs.Common.{◌∙◌, ap, sym}
use Rattle.st_format.specs.Raster.{Raster}
use Rattle.following.specs.Follower.{Following}
use Rattle.following.specs.declared.restarts.Restarts.{Restarts}
use Rattle.follow_engine.specs.Running.{steering_of}
use Rattle.follow_engine.proofs.Noting.{running_begun}
use Rattle.follow_engine.proofs.running.Run.open.Goals as goal

pub returns-clause-run : goal.returns-clause-run
returns-clause-run g c =
    let is = c.in_ok-follower.ensures.opened in
    record {
      follower = c.in_ok-follower.ensures.follower;
      format = ap (λ (r : Raster). r.format) c.in_ok-frame.ensures.blank
          ∙ sym (ap (λ (f : Following). f.opening.format) is);
      bound = ap (λ (r : Restarts). r.bound) c.new-restarts.ensures
          ∙ sym (ap (λ (f : Following). f.most_ahead) is);
      steering = sym (ap (λ (f : Following). steering_of f.opening) is);
    }

pub returns-clause-running : goal.returns-clause-running
returns-clause-running g c =
    running_begun c.in_ok-follower.follower _ c.new-need.result c.new-restarts.result.since
    c.in_ok-follower.ensures.opened c.new-need.ensures
    (ap (λ (r : Restarts). r.since) c.new-restarts.ensures)
