use Rattle.std.proofs.Common.{rules, List, ℕ, Some, sym, subst, ◌≡◌}
use Rattle.st_format.specs.Text.{parted}
use Rattle.run_outcome.specs.Timestamps.{IsNumberOf}
use Rattle.script_engines.proofs.FormLemmas.{depth_none, height_none, if_none, sampling_none}
use Rattle.script_engines.proofs.line.read_format_fields.Goals as goal

pub returns-in_err-height-clause-none : goal.returns-in_err-height-clause-none
returns-in_err-height-clause-none c =
    if_none c.from_residual-in_err-height.result c.from_residual-in_err-height.ensures
    (height_none c.args.text.now c.in_ok-sampling.sampling.now c.in_ok-sampling.rest.now
    c.in_ok-depth.depth.now c.in_ok-depth.rest.now c.in_ok-width.width.now
    c.in_ok-width.rest.now
    (sym c.in_ok-sampling.ensures.parts) (sym c.in_ok-depth.ensures.parts)
    (sym c.in_ok-width.ensures.parts) c.in_err-height.ensures.none)

pub returns-in_err-of_word-clause-none : goal.returns-in_err-of_word-clause-none
returns-in_err-of_word-clause-none c =
    if_none c.from_residual-in_err-of_word.result c.from_residual-in_err-of_word.ensures
    (sampling_none c.args.text.now c.in_ok-sampling.sampling.now c.in_ok-sampling.rest.now
    (sym c.in_ok-sampling.ensures.parts) c.in_err-of_word.ensures.none)

pub returns-in_err-read_depth-clause-none : goal.returns-in_err-read_depth-clause-none
returns-in_err-read_depth-clause-none c =
    if_none c.from_residual-in_err-read_depth.result c.from_residual-in_err-read_depth.ensures
    (depth_none c.args.text.now c.in_ok-sampling.sampling.now c.in_ok-sampling.rest.now
    c.in_ok-depth.depth.now c.in_ok-depth.rest.now
    (sym c.in_ok-sampling.ensures.parts) (sym c.in_ok-depth.ensures.parts)
    c.in_err-read_depth.ensures.none)

pub returns-clause-is : goal.returns-clause-is
returns-clause-is c =
    let width : IsNumberOf c.in_ok-width.width.now c.in_ok-read_number.field-0 = search rules in
    record {
      depth = c.in_ok-depth.depth.now;
      width = c.in_ok-width.width.now;
      behind = c.in_ok-sampling.rest.now;
      more = c.in_ok-depth.rest.now;
      last = c.in_ok-width.rest.now;
      parts = subst (λ (word : List ℕ). parted 32 c.args.text.now ≡ Some
          (word, c.in_ok-sampling.rest.now)) c.in_ok-of_word.ensures.is
          (sym c.in_ok-sampling.ensures.parts);
      parts_behind = sym c.in_ok-depth.ensures.parts;
      parts_more = sym c.in_ok-width.ensures.parts;
      depth_is = c.in_ok-read_depth.ensures.is;
      width_is = width;
      last_are = c.in_ok-height.ensures.is;
    }
