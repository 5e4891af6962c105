-- Which streams are prompt.
use Rattle.std.proofs.Common.{ℕ, ◌<◌, ◌⊎◌, inl, inr, false, List, length}
use Rattle.std.proofs.Common.{ap, ◌∙◌, arith}
use Rattle.std.proofs.lemmas.Bool.{false≢true}
use Rattle.st_format.specs.Member.{IsMember}
use Rattle.path_receiver.specs.Opening.{Opening}
use Rattle.following.specs.Prompt.{FirstsInTime, FirstsRise, IsPrompt}
use Rattle.following.specs.Times.{IsOrderly, Timed, newer_than, times_of}
use Rattle.following.proofs.Streams.{times_at}

-- Times that rise as they first come do so before a newer one's frame is complete.
pub rising_firsts : (o : Opening) (xs : List Timed) → FirstsRise (times_of o xs)
    → FirstsInTime o xs
rising_firsts o xs rise before after x d v e read m lt full =
    at
    (rise (times_of o before) (times_of o after) x.time
    (ap (times_of o) e ∙ times_at o before after x d read))
  where
    at : IsMember x.time (times_of o before)
        ⊎ ((u : ℕ) → IsMember u (times_of o before) → u < x.time)
        → IsMember x.time (times_of o before)
    at (inl k) = k
    at (inr all) = let gt : v < x.time = all v m in absurd (omega (arith, lt, gt))

-- An orderly stream is prompt, where no frame goes early.
pub orderly_prompt : (o : Opening) (size ahead : ℕ) (xs : List Timed)
    → IsOrderly size ahead (times_of o xs) → IsPrompt false o size ahead xs
orderly_prompt o size ahead xs orderly = record {
  repeats = λ before after x d e read many.
      let few : length (newer_than x.time (times_of o before)) < size =
      orderly.in_time (times_of o before) (times_of o after) x.time
      (ap (times_of o) e ∙ times_at o before after x d read) in
      absurd (omega (arith, few, many));
  within = orderly.within;
  firsts = λ is. absurd (false≢true is);
}
