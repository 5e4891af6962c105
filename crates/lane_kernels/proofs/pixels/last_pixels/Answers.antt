use Rattle.std.proofs.Common.{◌≡◌, ℕ, zero, List, length, drop, get_or, replicate, ◌+◌, ◌-◌, ◌^◌, ◌<◌, ◌++◌, inl, inr, ap, arith, ◌∙◌}
use Rattle.std.proofs.lemmas.Bool.{cases_lt}
use Rattle.std.proofs.lemmas.List.{get_or-append_right, get_or-drop, get_or-replicate}
use Rattle.std.proofs.lemmas.List.{get_or_append_left, length-append, length-drop, length-replicate}
use Rattle.std.proofs.lemmas.Nat.{pow_pos}
use Rattle.lane_kernels.proofs.pixels.last_pixels.Goals as goal

-- noughts behind values that are below m
below_before_noughts : (n m : ℕ) (xs vs : List ℕ) → 0 < m → xs ≡ vs → length vs < n
    → ((k : ℕ) → k < length vs → get_or vs k 0 < m)
    → (k : ℕ) → k < length (xs ++ drop (length vs) (replicate n 0))
    → get_or (xs ++ drop (length vs) (replicate n 0)) k 0 < m
below_before_noughts n m xs vs some same few each k h = elim (cases_lt k (length vs)) [
  | inl l ↦
      omega (
        arith,
        get_or_append_left xs (drop (length vs) (replicate n 0)) 0 k
            (omega (arith, ap length same)),
        ap (λ ys. get_or ys k 0) same,
        each k l,
      )
  | inr g ↦
      let zs : List ℕ = replicate n 0 in
      let from : ℕ = k - length vs in
      let ends : length vs + from < n =
      omega (
        arith,
        h,
        length-append xs (drop (length vs) zs),
        ap length same,
        length-drop (length vs) zs,
        length-replicate n zero,
      ) in
      let is =
      get_or-append_right xs (drop (length vs) zs) (length vs) k 0 (ap length same) g
      ∙ get_or-drop (length vs) zs from 0
      ∙ get_or-replicate n (length vs + from) 0 0 ends in
      omega (arith, is, some)
]

pub eight_pixels-requires-clause-fit : goal.eight_pixels-requires-clause-fit
eight_pixels-requires-clause-fit c =
    below_before_noughts 24 (2 ^ c.args.bits) c.copy_from_slice.new.self c.args.rgb.now
    (pow_pos c.args.bits) c.copy_from_slice.ensures.after (omega arith) c.requires.fit
