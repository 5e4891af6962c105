-- Groups behind one another in a room.
use Rattle.std.proofs.Common.{◌≡◌, ℕ, suc, ◌+◌, ◌-◌, ◌*◌, ◌<◌, ◌≤◌}
use Rattle.std.proofs.Common.{List, [], ◌∷◌, ◌++◌, length, get_or, replicate, take, drop}
use Rattle.std.proofs.Common.{append_assoc, append-nil, sym, ap, ◌∙◌, arith, inl, inr}
use lib.Lanes.{chunk, put_chunk}
use Rattle.std.proofs.lemmas.List.{get_or-replicate, length-drop, length-take-le, take-take}
use Rattle.std.proofs.lemmas.Simd.{take_more_put_chunk}
use Rattle.std.proofs.Math.Nat.{mul-add, mul-le-mul_left}
use Rattle.std.proofs.lemmas.Bool.{cases_lt}
use Rattle.std.proofs.Math.Seq.{take-append-add}
use Rattle.frame_assembly.specs.Marks.{state_of_mark}
use Rattle.receiver_file.specs.Known.{known_text}
use Rattle.receiver_file.specs.Marked.{marked_text}
use Rattle.receiver_file.proofs.MarkedRows.{marked_more, marked_next, slice_rest}

-- the first of sixteen octets that were put at once
pub wide_put : (at size : ℕ) (room octets : List ℕ) → at + 16 ≤ length room → 16 ≤ length octets
    → size ≤ 16
    → take (at + size) (put_chunk at room (chunk 0 16 octets))
    ≡ take at room ++ take size octets
wide_put at size room octets within long few =
    let ys : List ℕ = take 16 octets in
    let wide : length ys ≡ 16 = length-take-le 16 octets long in
    let long_first : length (take at room) ≡ at = length-take-le at room (omega (arith, within)) in
    sym (take-take (at + size) (at + 16) (put_chunk at room ys) (omega (arith, few)))
    ∙ ap (take (at + size))
    (take_more_put_chunk at room ys (at + 16) (omega (arith, wide)) within)
    ∙ ap (λ (k : ℕ). take (k + size) (take at room ++ ys)) (sym long_first)
    ∙ take-append-add (take at room) ys size
    ∙ ap (λ (t : List ℕ). take at room ++ t) (take-take size 16 octets few)

-- more groups behind those that were put
pub groups_more : (size g more from : ℕ) (marks octets start before after : List ℕ)
    → from ≡ size * g → before ≡ start ++ marked_text size (take g marks) octets
    → after
    ≡ before ++ marked_text size (take more (take (length marks - g) (drop g marks)))
    (take (length octets - from) (drop from octets))
    → after ≡ start ++ marked_text size (take (g + more) marks) octets
groups_more size g more from marks octets start before after at so_far put =
    let text : List ℕ → List ℕ = λ (o : List ℕ). marked_text size (take more (drop g marks)) o in
    put
    ∙ ap
    (λ (ms : List ℕ). before ++ marked_text size (take more ms)
    (take (length octets - from) (drop from octets)))
    (slice_rest g marks)
    ∙ ap (λ (o : List ℕ). before ++ text o) (slice_rest from octets)
    ∙ ap (λ (k : ℕ). before ++ text (drop k octets)) at
    ∙ ap (λ (t : List ℕ). t ++ text (drop (size * g) octets)) so_far
    ∙ append_assoc start (marked_text size (take g marks) octets) (text (drop (size * g) octets))
    ∙ ap (λ (t : List ℕ). start ++ t) (sym (marked_more size g more marks octets))

-- one whole group more of a block of them
pub block_more : (size g from : ℕ) (octets start before after : List ℕ) → g < 8
    → from ≡ size * g
    → before ≡ start ++ marked_text size (take g (replicate 8 32768)) octets
    → after ≡ before ++ (1 ∷ take size (take (length octets - from) (drop from octets)))
    → after ≡ start ++ marked_text size (take (g + 1) (replicate 8 32768)) octets
block_more size g from octets start before after lt at so_far put =
    let marks : List ℕ = replicate 8 32768 in
    let text : List ℕ → List ℕ = λ (o : List ℕ). 1 ∷ take size o in
    put ∙ ap (λ (o : List ℕ). before ++ text o) (slice_rest from octets)
    ∙ ap (λ (k : ℕ). before ++ text (drop k octets)) at
    ∙ ap (λ (t : List ℕ). t ++ text (drop (size * g) octets)) so_far
    ∙ append_assoc start (marked_text size (take g marks) octets) (text (drop (size * g) octets))
    ∙ ap
    (λ (m : ℕ). start ++ (marked_text size (take g marks) octets
    ++ known_text (state_of_mark m) (take size (drop (size * g) octets))))
    (sym (get_or-replicate 8 g 32768 0 lt))
    ∙ ap (λ (t : List ℕ). start ++ t) (sym (marked_next size g marks octets lt))

-- a first group alone
pub group_one : (size : ℕ) (marks octets : List ℕ) → 0 < length marks
    → marked_text size (take 1 marks) octets
    ≡ known_text (state_of_mark (get_or marks 0 0)) (take size octets)
unfolding marked_text
group_one size [] octets some = absurd (omega (arith, some))
group_one size (m ∷ marks) octets some =
    append-nil (known_text (state_of_mark m) (take size octets))

-- a group of which there are octets
pub group_left : (size g n from total : ℕ) → total ≡ size * n → from ≡ size * g
    → from + 16 ≤ total → g < n
group_left size g n from total all at left = elim (cases_lt g n) [
  | inl lt ↦ lt
  | inr le ↦ absurd (omega (arith, mul-le-mul_left {m = n} {n = g} size le))
]

-- the octets behind the first groups
pub groups_sized : (size g from : ℕ) (marks octets : List ℕ) → from ≡ size * g
    → g ≤ length marks → length octets ≡ size * length marks
    → length (take (length octets - from) (drop from octets))
    ≡ size * length (take (length marks - g) (drop g marks))
groups_sized size g from marks octets at le sized =
    let d : ℕ = length marks - g in
    let all : d + g ≡ length marks = omega (arith, le) in
    let less : length octets - from ≡ size * d =
    omega (arith, at, sized, mul-add size d g, ap (λ (k : ℕ). size * k) all) in
    ap length (slice_rest from octets) ∙ length-drop from octets ∙ less
    ∙ ap (λ (n : ℕ). size * n) (sym (ap length (slice_rest g marks) ∙ length-drop g marks))

-- the octets behind the first group
pub rest_sized : (size : ℕ) (marks octets : List ℕ) → 0 < length marks
    → length octets ≡ size * length marks
    → length (take (length octets - size) (drop size octets))
    ≡ size * length (take (length marks - 1) (drop 1 marks))
rest_sized size [] octets some sized = absurd (omega (arith, some))
rest_sized size (m ∷ marks) octets some sized =
    let more : size * suc (length marks) ≡ size + size * length marks = omega arith in
    let less : length octets - size ≡ size * length marks = omega (arith, sized, more) in
    ap length (slice_rest size octets) ∙ length-drop size octets ∙ less
    ∙ ap (λ (t : List ℕ). size * length t) (sym (slice_rest 1 (m ∷ marks)))

-- the first group, and more behind it
pub groups_first : (size count k : ℕ) (marks octets start first all : List ℕ) → 0 < length marks
    → k ≡ size
    → first ≡ start ++ known_text (state_of_mark (get_or marks 0 0)) (take k octets)
    → all
    ≡ first ++ marked_text size (take count (take (length marks - 1) (drop 1 marks)))
    (take (length octets - size) (drop size octets))
    → all ≡ start ++ marked_text size (take (count + 1) marks) octets
unfolding marked_text
groups_first size count k [] octets start first all some same put more =
    absurd (omega (arith, some))
groups_first size count k (m ∷ marks) octets start first all some same put more =
    let one : suc count ≡ count + 1 = omega arith in
    let head : List ℕ = known_text (state_of_mark m) (take size octets) in
    let rest : List ℕ = marked_text size (take count marks) (drop size octets) in
    more
    ∙ ap (λ (ms : List ℕ). first ++ marked_text size (take count ms)
    (take (length octets - size) (drop size octets))) (slice_rest 1 (m ∷ marks))
    ∙ ap (λ (o : List ℕ). first ++ marked_text size (take count marks) o) (slice_rest size octets)
    ∙ ap (λ (t : List ℕ). t ++ rest) put
    ∙ ap (λ (n : ℕ). (start ++ known_text (state_of_mark m) (take n octets)) ++ rest) same
    ∙ append_assoc start head rest
    ∙ ap (λ (n : ℕ). start ++ marked_text size (take n (m ∷ marks)) octets) one
