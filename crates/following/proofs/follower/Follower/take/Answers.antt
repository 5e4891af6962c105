use Rattle.std.proofs.Common.{arith}
use Rattle.following.proofs.Kept.{format_left}
use Rattle.following.proofs.Taken.{due_iff, far_iff, kept_iff, late_iff, refused_iff}
use Rattle.following.proofs.follower.Follower.take.Goals as goal

pub returns-clause-kept : goal.returns-clause-kept
returns-clause-kept g c =
    kept_iff c.args.self.now c.args.octets.now c.join.result c.join.ensures.old
    (λ k. omega (arith, c.type_inv.octets k)) c.join.ensures.answer

pub returns-clause-due : goal.returns-clause-due
returns-clause-due g c =
    due_iff c.args.self.now c.args.octets.now c.join.result c.join.ensures.old
    (λ k. omega (arith, c.type_inv.octets k)) c.join.ensures.answer

pub returns-clause-far : goal.returns-clause-far
returns-clause-far g c =
    far_iff c.args.self.now c.args.octets.now c.join.result c.join.ensures.old
    (λ k. omega (arith, c.type_inv.octets k)) c.join.ensures.answer

pub returns-clause-late : goal.returns-clause-late
returns-clause-late g c =
    late_iff c.args.self.now c.args.octets.now c.join.result c.join.ensures.old
    (λ k. omega (arith, c.type_inv.octets k)) c.join.ensures.answer

pub returns-clause-refusal : goal.returns-clause-refusal
returns-clause-refusal g c =
    refused_iff c.args.self.now c.args.octets.now c.join.result
    (λ k. omega (arith, c.type_inv.octets k)) c.join.ensures.answer

pub returns-clause-format : goal.returns-clause-format
returns-clause-format g c =
    format_left c.args.self.now c.join.new.self c.args.octets.now c.join.ensures.state
