use Rattle.std.proofs.Common.{sym, ap, ◌∙◌}
use Rattle.following.specs.Follower.{Following, answer_to, state_after, without_oldest}
use Rattle.following.specs.Following.{frames_in}
use Rattle.following.proofs.Turning.{answer-due, answer-on, before-due, before-on, taken-due}
use Rattle.following.proofs.Turning.{taken-on}
use Rattle.following.proofs.Turns.{due_is, not_due}
use Rattle.std.proofs.Common.{take}
use Rattle.following.proofs.turn.take_turn.Goals as goal

pub returns-then-is_due-clause-answer : goal.returns-then-is_due-clause-answer
returns-then-is_due-clause-answer g c =
    let s : Following = c.args.follower.now in
    let octets = c.args.octets.now in
    let due =
    due_is s octets c.join-answer.result c.is_due.result c.join-answer.ensures.answer
    c.is_due.ensures c.if-is_due.true in
    c.take_waiting.ensures.answer
    ∙ ap (λ (t : Following). answer_to (without_oldest t) octets) (c.join-answer.ensures.left due.0)
    ∙ sym (answer-due s octets due.1)

pub returns-then-is_due-clause-state : goal.returns-then-is_due-clause-state
returns-then-is_due-clause-state g c =
    let s : Following = c.args.follower.now in
    let octets = c.args.octets.now in
    let due =
    due_is s octets c.join-answer.result c.is_due.result c.join-answer.ensures.answer
    c.is_due.ensures c.if-is_due.true in
    c.take_waiting.ensures.state
    ∙ ap (λ (t : Following). state_after (without_oldest t) octets) (c.join-answer.ensures.left due.0)
    ∙ sym (taken-due s octets due.1)

pub returns-then-is_due-clause-handed : goal.returns-then-is_due-clause-handed
returns-then-is_due-clause-handed g c =
    let s : Following = c.args.follower.now in
    let octets = c.args.octets.now in
    let due =
    due_is s octets c.join-answer.result c.is_due.result c.join-answer.ensures.answer
    c.is_due.ensures c.if-is_due.true in
    c.take_waiting.ensures.handed
    ∙ ap (λ (t : Following). take 1 (frames_in t)) (c.join-answer.ensures.left due.0)
    ∙ sym (before-due s octets due.1)

pub returns-clause-answer : goal.returns-clause-answer
returns-clause-answer g c =
    let s : Following = c.args.follower.now in
    let octets = c.args.octets.now in
    let none =
    not_due s octets c.join-answer.result c.is_due.result c.join-answer.ensures.answer
    c.is_due.ensures c.if-is_due.false in
    c.join-answer.ensures.answer ∙ sym (answer-on s octets none)

pub returns-clause-state : goal.returns-clause-state
returns-clause-state g c =
    let s : Following = c.args.follower.now in
    let octets = c.args.octets.now in
    let none =
    not_due s octets c.join-answer.result c.is_due.result c.join-answer.ensures.answer
    c.is_due.ensures c.if-is_due.false in
    c.join-answer.ensures.state ∙ sym (taken-on s octets none)

pub returns-clause-handed : goal.returns-clause-handed
returns-clause-handed g c =
    let s : Following = c.args.follower.now in
    let octets = c.args.octets.now in
    let none =
    not_due s octets c.join-answer.result c.is_due.result c.join-answer.ensures.answer
    c.is_due.ensures c.if-is_due.false in
    sym (before-on s octets none)
