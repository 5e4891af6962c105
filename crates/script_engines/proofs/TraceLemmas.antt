-- Lines that are followed, one after the other.
use Rattle.std.proofs.Common.{◌≡◌, ◌⊎◌, inl, inr, ℕ, List, [], ◌∷◌, ◌++◌, length, take, map, Option}
use Rattle.std.proofs.Common.{◌+◌, refl, sym, subst, ap, ◌∙◌, append-nil, append_assoc}
use Rattle.std.proofs.Common.{None, Some, get_or, ◌<◌, Result, Ok, Err, OnErr, OnOk}
use Rattle.std.specs.List.{flat_map}
use Rattle.std.proofs.lemmas.Grind.{flat_map-append}
use Rattle.std.proofs.lemmas.List.{map-id}
use Rattle.std.proofs.Math.Seq.{take-append-add}
use Rattle.st_format.specs.Device.{GrowsPart}
use Rattle.path_receiver.specs.Frames.{State}
use Rattle.path_receiver.specs.Numbers.{Numbers, missing_runs_of}
use Rattle.run_outcome.specs.Frames.{frame_lines}
use Rattle.run_outcome.specs.declared.line.Line.{Line}
use Rattle.run_outcome.proofs.Printed.{part_first, texts_before, texts_cut, took_both}
use Rattle.script_engines.specs.Traced.{Answers, AnswersSome, FollowsLine, FollowsLines, IsAnswered}
use Rattle.script_engines.specs.Traced.{IsPartAnswered, OpensBy, PlaysLines, PrintsPart}
use Rattle.script_engines.specs.Script.{numbered_lines}
use Rattle.script_engines.specs.Traced.{Traces, TracesSome, absent_line, absent_lines}
use Rattle.script_engines.specs.Traced.{answer_text}

-- one line more was followed
follows_more : (done : List (ℕ × List ℕ)) (line : ℕ × List ℕ) (old mid new : State)
    (before between after : Option Numbers) (text : List ℕ) (answer : Option Line)
    → FollowsLines done old mid before between text
    → FollowsLine line.1 mid new between after answer
    → FollowsLines (done ++ line ∷ []) old new before after (text ++ answer_text answer)
follows_more [] line old mid new before between after text answer none one = (
  new,
  after,
  answer,
  [],
  subst (λ (s : State). FollowsLine line.1 s new before after answer) none.0
      (subst (λ (n : Option Numbers). FollowsLine line.1 mid new n after answer) none.1 one),
  (refl, refl, refl),
  ap (λ (t : List ℕ). t ++ answer_text answer) none.2 ∙ sym (append-nil (answer_text answer)),
)
follows_more (first ∷ done) line old mid new before between after text answer some one = (
  some.0,
  some.1,
  some.2,
  some.3 ++ answer_text answer,
  some.4,
  follows_more done line some.0 mid new some.1 between after some.3 answer some.5 one,
  ap (λ (t : List ℕ). t ++ answer_text answer) some.6
      ∙ append_assoc (answer_text some.2) some.3 (answer_text answer),
)

-- Of some lines those before the ones that are left were followed, and answered so.
pub record FollowedTo (lines left : List (ℕ × List ℕ)) (old mid : State)
    (before between : Option Numbers) (took took' : List ℕ) : Type 0 where
  pub done : List (ℕ × List ℕ)
  pub parts : lines ≡ done ++ left
  pub answers : Answers done old mid before between took took'

pub none_yet : (lines : List (ℕ × List ℕ)) (old : State) (before : Option Numbers)
    (took : List ℕ) → FollowedTo lines lines old old before before took took
none_yet lines old before took = record {
  done = [];
  parts = refl;
  answers = record {
    text = [];
    followed = (refl, refl, refl);
    printed = sym (append-nil took);
  };
}

pub one_more : (lines left behind : List (ℕ × List ℕ)) (line : ℕ × List ℕ) (old mid new : State)
    (before between after : Option Numbers) (took took' took'' : List ℕ)
    → left ≡ line ∷ behind → FollowedTo lines left old mid before between took took'
    → IsAnswered line.1 mid new between after took' took''
    → FollowedTo lines behind old new before after took took''
one_more lines left behind line old mid new before between after took took' took'' is so_far one =
    record {
      done = so_far.done ++ line ∷ [];
      parts = so_far.parts ∙ ap (λ (l : List (ℕ × List ℕ)). so_far.done ++ l) is
          ∙ sym (append_assoc so_far.done (line ∷ []) behind);
      answers = record {
        text = so_far.answers.text ++ answer_text one.0;
        followed =
            follows_more so_far.done line old mid new before between after so_far.answers.text
            one.0 so_far.answers.followed one.1;
        printed =
            took_both took took' took'' so_far.answers.text (answer_text one.0)
            so_far.answers.printed one.2;
      };
    }

-- the next line isn't answered, or not wholly
pub some_answered : (lines left behind : List (ℕ × List ℕ)) (line : ℕ × List ℕ) (old mid : State)
    (before between : Option Numbers) (took took' new : List ℕ)
    → left ≡ line ∷ behind → FollowedTo lines left old mid before between took took'
    → (new ≡ took') ⊎ IsPartAnswered line.1 mid between took' new
    → AnswersSome lines old before took new
some_answered lines left behind line old mid before between took took' new is so_far part = record {
  done = so_far.done;
  left = line ∷ behind;
  parts = so_far.parts ∙ ap (λ (l : List (ℕ × List ℕ)). so_far.done ++ l) is;
  last = mid;
  numbers = between;
  mid = took';
  answers = so_far.answers;
  part = part;
}

pub none_answered : (lines : List (ℕ × List ℕ)) (old : State) (before : Option Numbers)
    (took : List ℕ) → AnswersSome lines old before took took
none_answered lines old before took = record {
  done = [];
  left = lines;
  parts = refl;
  last = old;
  numbers = before;
  mid = took;
  answers = record {
    text = [];
    followed = (refl, refl, refl);
    printed = sym (append-nil took);
  };
  part = inl refl;
}

-- all lines were answered, and what is printed behind them isn't, or not wholly
pub ending_cut : (lines : List (ℕ × List ℕ)) (old last : State) (before numbers : Option Numbers)
    (took mid new : List ℕ) → Answers lines old last before numbers took mid
    → (new ≡ mid) ⊎ PrintsPart (frame_lines last ++ absent_lines numbers) mid new
    → AnswersSome lines old before took new
ending_cut lines old last before numbers took mid new answers part = record {
  done = lines;
  left = [];
  parts = sym (append-nil lines);
  last = last;
  numbers = numbers;
  mid = mid;
  answers = answers;
  part = part;
}

pub frames_cut : (old new xs ys : List ℕ) → GrowsPart old new xs → PrintsPart (xs ++ ys) old new
frames_cut old new xs ys p =
    let q = part_first old new xs ys p in
    (q.count, q.grown)

pub absent_cut : (old mid new xs ys : List ℕ) → mid ≡ old ++ xs → PrintsPart ys mid new
    → PrintsPart (xs ++ ys) old new
absent_cut old mid new xs ys p q = (
  length xs + q.0,
  took_both old mid new xs (take q.0 ys) p q.1
      ∙ ap (λ (l : List ℕ). old ++ l) (sym (take-append-add xs ys q.0)),
)

pub part_of : (old new text : List ℕ) → GrowsPart old new text → PrintsPart text old new
part_of old new text p = (p.count, p.grown)

-- behind the answers the frames and the numbers that did not come were printed
pub played_lines : {V E : Type 0} (r : Result V E) (lines : List (ℕ × List ℕ)) (old last : State)
    (before numbers : Option Numbers) (took took' took'' took''' : List ℕ)
    → Answers lines old last before numbers took took' → took'' ≡ took' ++ frame_lines last
    → OnOk r (took''' ≡ took'' ++ absent_lines numbers)
    → OnOk r (PlaysLines lines old before took took''')
played_lines (Err e) lines old last before numbers took took' took'' took''' said frames absent = tt
played_lines (Ok v) lines old last before numbers took took' took'' took''' said frames absent =
    let behind = took_both took' took'' took''' (frame_lines last) (absent_lines numbers) frames
    absent in
    record {
      last = last;
      numbers = numbers;
      text = said.text;
      followed = said.followed;
      printed =
          took_both took took' took''' said.text (frame_lines last ++ absent_lines numbers)
          said.printed behind;
    }

pub played_part : {V E : Type 0} (r : Result V E) (lines : List (ℕ × List ℕ)) (old last : State)
    (before numbers : Option Numbers) (took took' took'' took''' : List ℕ)
    → Answers lines old last before numbers took took' → took'' ≡ took' ++ frame_lines last
    → OnErr r (PrintsPart (absent_lines numbers) took'' took''')
    → OnErr r (AnswersSome lines old before took took''')
played_part (Ok v) lines old last before numbers took took' took'' took''' said frames part = tt
played_part (Err e) lines old last before numbers took took' took'' took''' said frames part =
    ending_cut lines old last before numbers took took' took''' said
    (inr (absent_cut took' took'' took''' (frame_lines last) (absent_lines numbers) frames part))

-- ---- a whole script

pub traces : {V E : Type 0} (r : Result V E) (script : List ℕ) (lines rest : List (ℕ × List ℕ))
    (opened : State) (numbers : Option Numbers) (old new : List ℕ)
    → lines ≡ numbered_lines 0 script → OpensBy lines rest opened → numbers ≡ None
    → OnOk r (PlaysLines rest opened numbers old new) → OnOk r (Traces script old new)
traces (Err e) script lines rest opened numbers old new is opens none plays = tt
traces (Ok v) script lines rest opened numbers old new is opens none plays = record {
  opened = opened;
  rest = rest;
  opens = subst (λ (l : List (ℕ × List ℕ)). OpensBy l rest opened) is opens;
  plays = subst (λ (n : Option Numbers). PlaysLines rest opened n old new) none plays;
}

pub traces_some : {V E : Type 0} (r : Result V E) (script : List ℕ)
    (lines rest : List (ℕ × List ℕ)) (opened : State) (numbers : Option Numbers)
    (old new : List ℕ) → lines ≡ numbered_lines 0 script → OpensBy lines rest opened
    → numbers ≡ None → OnErr r (AnswersSome rest opened numbers old new)
    → OnErr r ((new ≡ old) ⊎ TracesSome script old new)
traces_some (Ok v) script lines rest opened numbers old new is opens none some = tt
traces_some (Err e) script lines rest opened numbers old new is opens none some = inr (record {
  opened = opened;
  rest = rest;
  opens = subst (λ (l : List (ℕ × List ℕ)). OpensBy l rest opened) is opens;
  some = subst (λ (n : Option Numbers). AnswersSome rest opened n old new) none some;
})

-- ---- the numbers that did not come

pub absent_more : (xs : List (ℕ × ℕ)) (x : ℕ × ℕ) (took took' new : List ℕ)
    → took' ≡ took ++ flat_map absent_line xs → new ≡ took' ++ absent_line x
    → new ≡ took ++ flat_map absent_line (xs ++ x ∷ [])
absent_more xs x took took' new p q =
    took_both took took' new (flat_map absent_line xs) (absent_line x) p q
    ∙ ap (λ (t : List ℕ). took ++ t)
    (sym (flat_map-append absent_line xs (x ∷ [])
    ∙ ap (λ (t : List ℕ). flat_map absent_line xs ++ t) (append-nil (absent_line x))))

pub absent_all : (numbers : Option Numbers) (m : Numbers) (all xs : List (ℕ × ℕ))
    (took new : List ℕ) → numbers ≡ Some m → all ≡ missing_runs_of m
    → map (λ (x : ℕ × ℕ). x) xs ≡ all → new ≡ took ++ flat_map absent_line xs
    → new ≡ took ++ absent_lines numbers
absent_all numbers m all xs took new some runs whole p =
    p ∙ ap (λ (l : List (ℕ × ℕ)). took ++ flat_map absent_line l)
    (sym (map-id xs) ∙ whole ∙ runs)
    ∙ ap (λ (n : Option Numbers). took ++ absent_lines n) (sym some)

pub absent_part : (numbers : Option Numbers) (m : Numbers) (all xs : List (ℕ × ℕ)) (x : ℕ × ℕ)
    (took took' new : List ℕ) → numbers ≡ Some m → all ≡ missing_runs_of m
    → map (λ (x : ℕ × ℕ). x) xs ≡ take (length xs) all
    → (length xs < length all) × (x ≡ get_or all (length xs) x)
    → took' ≡ took ++ flat_map absent_line xs → GrowsPart took' new (absent_line x)
    → PrintsPart (absent_lines numbers) took new
absent_part numbers m all xs x took took' new some runs so_far turn p q =
    let before : took' ≡ took ++ texts_before absent_line all (length xs) =
    p ∙ ap (λ (l : List (ℕ × ℕ)). took ++ flat_map absent_line l) (sym (map-id xs) ∙ so_far) in
    let cut : GrowsPart took new (flat_map absent_line all) =
    texts_cut absent_line all (length xs) x x took took' new turn.0 turn.1 before q in
    subst (λ (n : Option Numbers). PrintsPart (absent_lines n) took new) (sym some)
    (part_of took new (flat_map absent_line (missing_runs_of m))
    (subst (λ (l : List (ℕ × ℕ)). GrowsPart took new (flat_map absent_line l)) runs cut))
