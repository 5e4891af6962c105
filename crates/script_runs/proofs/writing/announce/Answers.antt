-- What is printed is a text that says the stream.
use Rattle.std.proofs.Common.{ℕ, List, ◌++◌, subst, ap, ◌∙◌}
use Rattle.devices.specs.Passed.{output_took}
use Rattle.sdp_format.specs.Sections.{Description}
use Rattle.sdp_writing.specs.Written.{IsTextOf, told_legs}
use Rattle.script_runs.proofs.writing.announce.Goals as goal

pub returns-clause-announced : goal.returns-clause-announced
returns-clause-announced c =
    record {
      format = c.in-Ok.format;
      is_format = c.in-Ok.is;
      text = c.in_ok-text.text.items;
      says =
          subst
          (λ (d : Description). IsTextOf c.in_ok-text.text.items d
          (told_legs c.args.stream.now.a c.args.stream.now.b))
          c.usual_sdp-sdp.ensures c.in_ok-text.ensures.says;
      printed =
          c.in_ok-write_whole.ensures.took
          ∙ ap (λ (t : List ℕ). output_took c.args.output.now ++ t) c.deref.ensures.value;
    }
