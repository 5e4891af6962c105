-- When a stream is to be followed anew (own).
use Rattle.std.specs.Prelude.{◌≡◌, ℕ, Bool, true, false, ◌&&◌, if◌then◌else◌, IsTrue, List, [], ◌∷◌}
use Rattle.std.specs.Prelude.{◌++◌, Option, None, Some, Result, Ok, Err}
use Rattle.std.specs.List.{AllByRecursion}
use Rattle.path_receiver.specs.declared.answer.Refusal.{Refusal}
use Rattle.following.specs.declared.answer.Followed.{Followed}
use Rattle.following.specs.declared.answer.Followed.TheVariants.{Kept, Due, Late, Far}
use Rattle.following.specs.Standing.{is_beyond}
use Rattle.following.specs.Turned.{is_lost}

-- an answer to a datagram of this timestamp
pub record Reply : Type 0 where
  pub timestamp : ℕ
  pub answer : Result Followed Refusal

-- the timestamp of the first lost datagram behind one more: that from before, or else this one
abbrev pub first_lost : Option ℕ → ℕ → Option ℕ
first_lost None timestamp = Some timestamp
first_lost (Some before) timestamp = Some before

-- the timestamp of the first datagram that was late or too far ahead since the last that was kept,
-- behind an answer; what is refused changes nothing
abbrev pub lost_since : Option ℕ → ℕ → Result Followed Refusal → Option ℕ
lost_since since timestamp (Ok (Kept number)) = None
lost_since since timestamp (Ok Due) = since
lost_since since timestamp (Ok Late) = first_lost since timestamp
lost_since since timestamp (Ok Far) = first_lost since timestamp
lost_since since timestamp (Err e) = since

-- The stream is to be followed anew at this answer: the datagram was late or too far ahead, and its
-- timestamp is newer than that of the first such one since the last that was kept, by more ticks
-- than these.
abbrev pub is_restart : ℕ → Option ℕ → ℕ → Result Followed Refusal → Bool
is_restart bound since timestamp answer =
    is_lost answer && is_beyond (lost_since since timestamp answer) bound timestamp

-- what is noted behind it: nothing, where the stream is followed anew
abbrev pub since_behind : ℕ → Option ℕ → ℕ → Result Followed Refusal → Option ℕ
since_behind bound since timestamp answer =
    if is_restart bound since timestamp answer then None else lost_since since timestamp answer

-- ---- what that says of the answers so far

-- behind answers, where the stream was not followed anew
abbrev pub lost_behind : Option ℕ → List Reply → Option ℕ
lost_behind since [] = since
lost_behind since (x ∷ xs) = lost_behind (lost_since since x.timestamp x.answer) xs

-- the answer says that the datagram was kept
abbrev pub is_kept : Result Followed Refusal → Bool
is_kept (Ok (Kept number)) = true
is_kept (Ok Due) = false
is_kept (Ok Late) = false
is_kept (Ok Far) = false
is_kept (Err e) = false

-- none of these was kept
abbrev pub NoneKept : List Reply → Type 0
NoneKept told = AllByRecursion (λ x. is_kept x.answer ≡ false) told

-- Of these answers one was to a datagram of this timestamp that was late or too far ahead, and none
-- was kept since.
pub record AreLostSince (told : List Reply) (since : ℕ) : Type 0 where
  pub before : List Reply
  pub answer : Result Followed Refusal
  pub after : List Reply
  pub parts : told ≡ before ++ record { timestamp = since; answer = answer } ∷ after
  pub lost : IsTrue (is_lost answer)
  pub none_kept : NoneKept after
