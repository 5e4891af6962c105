use Rattle.std.proofs.Common.{List, Option, subst, sym, ℕ}
use Rattle.std.specs.Option.{option_copied}
use Rattle.std.specs.Prelude.{IfErr, IfOk, MatchOption}
use Rattle.run_outcome.specs.Refusing.{OfRefusal}
use Rattle.follow_engine.specs.Refused.{IsFirstRefusal}
use Rattle.follow_engine.specs.Sides.{HasBegunRun, text_by}
use Rattle.follow_engine.proofs.Beginnings.{begun_given, none_given}
use Rattle.follow_engine.proofs.files.begin_or.Goals as goal

pub returns-in-Some-clause-begun : goal.returns-in-Some-clause-begun
returns-in-Some-clause-begun g c =
    begun_given c.args.asked c.args.ssrc (option_copied c.args._sdp) c.args.said.now
    c.in-Some.run' (rw c.in-Some.is at c.requires.given)

pub returns-in-None-clause-begun : goal.returns-in-None-clause-begun
returns-in-None-clause-begun g c =
    let asked = c.args.asked in
    let ssrc = c.args.ssrc in
    subst (λ (x : Option (List ℕ)). IfOk c.begin_first.result
    (λ r. HasBegunRun asked ssrc (text_by x c.args.said.now) r))
    (sym (none_given asked ssrc (option_copied c.args._sdp) c.args.given c.in-None.is
    c.requires.given)) c.begin_first.ensures.begun

pub returns-in-None-clause-refusal : goal.returns-in-None-clause-refusal
returns-in-None-clause-refusal g c =
    subst (λ (x : Option (List ℕ)). IfErr c.begin_first.result (λ f. OfRefusal f
    (λ r. MatchOption x (IsFirstRefusal c.args.said.now r) (λ _. ⊥))))
    (sym (none_given c.args.asked c.args.ssrc (option_copied c.args._sdp) c.args.given c.in-None.is
    c.requires.given)) c.begin_first.ensures.refusal
