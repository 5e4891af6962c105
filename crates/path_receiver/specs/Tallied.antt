-- What a tally counts (own).
use Rattle.std.specs.Prelude.{◌≡◌, ℕ, ◌+◌, ◌-◌, ◌==◌, Bool, true, false, List, []}
use Rattle.std.specs.Prelude.{◌∷◌, ◌++◌, length, Result, Ok, Err, slice_index, slice_set}
use Rattle.std.specs.List.{count_by}
use Rattle.st_format.specs.Device.{capped}
use Rattle.path_receiver.specs.Answers.{refusal_number}
use Rattle.path_receiver.specs.declared.answer.Refusal.{Refusal}
use Rattle.path_receiver.specs.declared.answer.Taken.{Taken}
use Rattle.path_receiver.specs.declared.answer.Taken.TheVariants.{Kept, Outside}
use Rattle.path_receiver.specs.declared.tally.Tally.{Tally}

-- one more, but at most 2^64 - 1
abbrev pub count_after : ℕ → ℕ
count_after count = capped (count + 1)

-- where a refusal's count stands
abbrev pub slot_of : Refusal → ℕ
slot_of e = refusal_number e - 1

-- Of an answer one count is one more, and every other stays: that of its refusal, that of the
-- datagrams outside the window, or that of those that were kept.
abbrev pub tally_after : Result Taken Refusal → Tally → Tally
tally_after (Ok (Kept number)) t =
    record { refused = t.refused; outside = t.outside; kept = count_after t.kept }
tally_after (Ok Outside) t =
    record { refused = t.refused; outside = count_after t.outside; kept = t.kept }
tally_after (Err e) t =
    record {
      refused = slice_set t.refused (slot_of e) (count_after (slice_index t.refused (slot_of e)));
      outside = t.outside;
      kept = t.kept;
    }

-- ---- all answers

-- a datagram was refused for this reason
abbrev pub is_refusal : Refusal → Result Taken Refusal → Bool
is_refusal e (Ok taken) = false
is_refusal e (Err f) = refusal_number f == refusal_number e

-- an answer says that a datagram was outside the window
abbrev pub is_outside : Result Taken Refusal → Bool
is_outside (Ok (Kept number)) = false
is_outside (Ok Outside) = true
is_outside (Err e) = false

-- an answer says that a datagram was kept
abbrev pub is_kept : Result Taken Refusal → Bool
is_kept (Ok (Kept number)) = true
is_kept (Ok Outside) = false
is_kept (Err e) = false

-- A tally counts these answers: of each refusal how many of them are that refusal, how many were
-- outside the window, and how many were kept; each count stays at 2^64 - 1 once it is there.
pub record Tallies (t : Tally) (answers : List (Result Taken Refusal)) : Type 0 where
  pub places : length t.refused ≡ 14
  pub refused : (e : Refusal)
      → slice_index t.refused (slot_of e) ≡ capped (count_by (is_refusal e) answers)
  pub outside : t.outside ≡ capped (count_by is_outside answers)
  pub kept : t.kept ≡ capped (count_by is_kept answers)

-- it counts one answer more than it counted
abbrev pub TalliesMore : Tally → Tally → Result Taken Refusal → Type 0
TalliesMore old new answer = (answers : List (Result Taken Refusal)) → Tallies old answers
    → Tallies new (answers ++ answer ∷ [])
