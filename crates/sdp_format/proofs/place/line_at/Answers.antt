use Rattle.std.proofs.Common.{◌≡◌, length, take, drop, ◌-◌, arith}
use Rattle.std.proofs.lemmas.List.{length-take, length-drop, take_all}
use Rattle.sdp_format.proofs.Places.{feeds-add}
use Rattle.sdp_format.proofs.place.line_at.Goals as goal

pub returns : goal.returns
returns c =
    let text = c.args.text.now in
    let start = c.after_last-start.result in
    let size = c.line_length.result in
    let left = length-drop start text in
    let rest : take (length text - start) (drop start text) ≡ drop start text =
    take_all (length text - start) (drop start text) (omega arith) in
    let whole = rw rest at c.line_length.ensures.one_line in
    record {
      ordered = omega arith;
      within = omega (
        arith,
        c.line_length.ensures.within,
        length-take c.args.index text,
        length-take (length text - start) (drop start text),
      );
      line = omega (arith, c.line_feeds-line.ensures.value);
      same_line = omega (arith, c.line_feeds-line.ensures.value, feeds-add start size text);
    }
