use Rattle.std.proofs.Common.{arith, refl, ◌∙◌}
use Rattle.path_receiver.proofs.Answered.{kept_iff, outside_iff, refused_iff}
use Rattle.path_receiver.proofs.RefusedLemmas.{refusal_iff}
use Rattle.path_receiver.specs.Offers.{offers}
use Rattle.path_receiver.proofs.Offered.{offers-exact}
use Rattle.path_receiver.proofs.Joined.{cells_more, holds_more}
use Rattle.path_receiver.proofs.receiver.Receiver.take.Goals as goal

pub returns-clause-kept : goal.returns-clause-kept
returns-clause-kept g c =
    kept_iff c.args.self.now.opening c.args.octets.now c.join-taken.result
    (λ k. omega (arith, c.type_inv.octets k)) c.join-taken.ensures.answer

pub returns-clause-outside : goal.returns-clause-outside
returns-clause-outside g c =
    outside_iff c.args.self.now.opening c.args.octets.now c.join-taken.result
    (λ k. omega (arith, c.type_inv.octets k)) c.join-taken.ensures.answer

pub returns-clause-others : goal.returns-clause-others
returns-clause-others g c =
    refused_iff c.args.self.now.opening c.args.octets.now c.join-taken.result
    (λ k. omega (arith, c.type_inv.octets k)) c.join-taken.ensures.answer

pub returns-clause-refusal : goal.returns-clause-refusal
returns-clause-refusal g c =
    refusal_iff c.args.self.now.opening c.args.octets.now c.join-taken.result
    (λ k. omega (arith, c.type_inv.octets k)) c.join-taken.ensures.answer

pub returns-clause-offered : goal.returns-clause-offered
returns-clause-offered g c =
    let o = c.args.self.now.opening in
    (offers-exact o c.args.octets.now (offers o c.args.octets.now)
    (λ k. omega (arith, c.type_inv.octets k))).0 refl

pub returns-clause-cells : goal.returns-clause-cells
returns-clause-cells g c =
    cells_more c.args.self.now c.keep_refusal.new.self c.args.octets.now c.join-taken.ensures.old
    (c.keep_refusal.ensures.opening ∙ c.join-taken.ensures.opening)
    (c.keep_refusal.ensures.frames ∙ c.join-taken.ensures.frames)

pub returns-clause-holds : goal.returns-clause-holds
returns-clause-holds g c =
    holds_more c.args.self.now c.keep_refusal.new.self c.args.octets.now
    (c.keep_refusal.ensures.opening ∙ c.join-taken.ensures.opening)
    (c.keep_refusal.ensures.frames ∙ c.join-taken.ensures.frames)
