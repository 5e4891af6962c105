use Rattle.std.proofs.Common.{◌≡◌, ◌*◌, ◌-◌, List, ℕ, drop, length, arith, refl, sym, take_all}
use Rattle.std.proofs.Common.{◌∙◌, ap, length-drop, take}
use Rattle.script_engines.proofs.RestLemmas.{both_decoded, made_of, rest_refused, sized_decoded}
use Rattle.script_engines.proofs.digits.decodes.Goals as goal

-- the octets of a text from an index on are all that are behind it
rest_is : (text : List ℕ) (n : ℕ) → take (length text - n) (drop n text) ≡ drop n text
rest_is text n = take_all (length text - n) (drop n text) (omega (arith, length-drop n text))

pub returns-clause-is : goal.returns-clause-is
returns-clause-is c = λ yes.
    let text = c.args.text.now in
    let n = c.decode_blocks-done.result in
    let octets = c.decode_blocks-done.new.octets in
    let m = length octets - n in
    let made = c.decode_to_slice.new.out in
    let part = rest_is text (2 * n) in
    let d = made_of _ c.decode_to_slice.result made c.decode_to_slice.ensures.value
    (sym c.is_ok.ensures.value ∙ yes) in
    let room : length (take m (drop n octets)) ≡ m =
    ap length (rest_is octets n) ∙ length-drop n octets in
    let s = sized_decoded _ made _ d in
    both_decoded text octets _ made n m
    (omega (arith, c.decode_blocks-done.ensures.within, c.decode_blocks-done.ensures.room)) refl
    (omega (
      arith,
      s.0,
      room,
      ap length part,
      length-drop (2 * n) text,
      c.decode_blocks-done.ensures.twice,
      c.decode_blocks-done.ensures.within,
      c.decode_blocks-done.ensures.room,
    )) part (s.2 ∙ room)
    c.decode_blocks-done.ensures.is s.1

pub returns-clause-none : goal.returns-clause-none
returns-clause-none c = λ no said same is.
    let text = c.args.text.now in
    let n = c.decode_blocks-done.result in
    let octets = c.decode_blocks-done.new.octets in
    let room : length (take (length octets - n) (drop n octets)) ≡ length octets - n =
    ap length (rest_is octets n) ∙ length-drop n octets in
    rest_refused text said _ c.decode_to_slice.new.out n _ c.decode_to_slice.result
    c.decode_to_slice.ensures.value (sym c.is_ok.ensures.value ∙ no) (rest_is text (2 * n))
    (omega (
      arith,
      room,
      same,
      c.decode_blocks-done.ensures.within,
      c.decode_blocks-done.ensures.room,
    ))
    is
