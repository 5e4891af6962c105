-- A datagram taken in its turn.
use Rattle.std.proofs.Common.{◌≡◌, ℕ, Bool, true, false, List, Result, Ok}
use Rattle.std.proofs.Common.{Err, refl, sym, ap, ◌∙◌, subst, arith, length, drop, ◌<◌, ◌≤◌}
use Rattle.std.proofs.Common.{length-drop}
use Rattle.following.specs.Taking.{IsDueFor}
use Rattle.path_receiver.specs.declared.answer.Refusal.{Refusal}
use Rattle.path_receiver.specs.Grammar.{Datagram}
use Rattle.st_format.specs.Reading.{◌>>=◌}
use Rattle.following.specs.declared.answer.Followed.{Followed}
use Rattle.following.specs.declared.answer.Followed.TheVariants.{Kept, Due, Late, Far}
use Rattle.following.specs.declared.standing.Standing.{Standing}
use Rattle.following.specs.declared.standing.Standing.TheVariants.{Beyond, Inside, New, Waits}
use Rattle.following.specs.declared.standing.Standing.TheVariants.{Nowhere}
use Rattle.following.specs.Follower.{Following, answer_to, followed_at, reading_of, standing_of}
use Rattle.following.specs.Follower.{IsFollower, without_oldest}
use Rattle.following.specs.Following.{is_due, is_due_answer}
use Rattle.following.specs.Following.{is_due_by, is_waiting, waits_for}

waiting_answer : (number : ℕ) (x : Standing) → is_waiting x ≡ is_due_by (followed_at number x)
waiting_answer number (Inside p) = refl
waiting_answer number (New p) = refl
waiting_answer number Waits = refl
waiting_answer number Nowhere = refl
waiting_answer number Beyond = refl

due_read : (s : Following) (r : Result Datagram Refusal)
    → waits_for s r
    ≡ is_due_answer (r >>= λ d. Ok (followed_at d.number (standing_of s d.timestamp)))
due_read s (Ok d) = waiting_answer d.number (standing_of s d.timestamp)
due_read s (Err e) = refl

-- The answer says whether the oldest frame is due.
pub is_due-answer : (s : Following) (octets : List ℕ)
    → is_due s octets ≡ is_due_answer (answer_to s octets)
is_due-answer s octets = due_read s (reading_of s.opening octets)

due_from : (r : Result Followed Refusal) → is_due_answer r ≡ true → r ≡ Ok Due
due_from (Ok (Kept n)) h = absurd cc
due_from (Ok Due) h = refl
due_from (Ok Late) h = absurd cc
due_from (Ok Far) h = absurd cc
due_from (Err e) h = absurd cc

-- it is due, where the answer says so
pub due_is : (s : Following) (octets : List ℕ) (r : Result Followed Refusal) (b : Bool)
    → r ≡ answer_to s octets → b ≡ is_due_answer r → b ≡ true
    → (r ≡ Ok Due) × (is_due s octets ≡ true)
due_is s octets r b answer is h = (
  due_from r (sym is ∙ h),
  is_due-answer s octets ∙ ap is_due_answer (sym answer) ∙ sym is ∙ h,
)

-- ---- never twice

short : (s : Following) → IsFollower s → length (drop 1 s.opening.window) < s.size
short s is =
    omega (arith, length-drop 1 s.opening.window, is.room, is.size.some)

-- Where the oldest went there is room.
pub never_due : (s t : Following) (octets : List ℕ) → IsFollower s → t ≡ without_oldest s
    → IsDueFor octets t → ⊥
never_due s t octets is same due =
    let full : t.size ≤ length t.opening.window = due.full in
    let here : s.size ≤ length (drop 1 s.opening.window) =
    subst (λ (u : Following). u.size ≤ length u.opening.window) same full in
    absurd (omega (arith, here, short s is))

-- it isn't, where the answer doesn't say so
pub not_due : (s : Following) (octets : List ℕ) (r : Result Followed Refusal) (b : Bool)
    → r ≡ answer_to s octets → b ≡ is_due_answer r → b ≡ false → is_due s octets ≡ false
not_due s octets r b answer is h =
    is_due-answer s octets ∙ ap is_due_answer (sym answer) ∙ sym is ∙ h
