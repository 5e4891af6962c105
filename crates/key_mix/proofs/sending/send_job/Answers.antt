use Rattle.std.proofs.Common.{◌+◌, ◌%◌, ◌^◌, ◌<◌, length, ap, arith, sym, ◌∙◌}
use Rattle.std.proofs.lemmas.Result.{err_from_is_err_and}
use Rattle.key_mix.proofs.Prepared.{of_job}
use Rattle.key_mix.proofs.Sent.{length-sent}
use Rattle.key_mix.proofs.sending.send_job.Goals as goal

pub returns-clause-sent : goal.returns-clause-sent
returns-clause-sent g c =
    let p = c.in_ok-prepared.prepared in
    let s = c.in_ok-send.ensures.sent in
    let long = length-sent p.picture c.args.stamp 0 p.plan.packets s.datagrams s.sent.sent in (
      s.datagrams,
      of_job p _ _ _ c.args.stamp c.in_ok-prepared.ensures.prepared s.datagrams s.sent,
      s.taken,
      c.in_ok-send.ensures.next
          ∙ ap (λ n. (c.args.stamp.first + n) % 2 ^ 32) (sym long),
    )

pub returns-clause-puts : goal.returns-clause-puts
returns-clause-puts g c =
    let p = c.in_ok-prepared.prepared in
    let s = c.in_ok-send.ensures.puts in
    let long = length-sent p.picture c.args.stamp 0 p.plan.packets s.datagrams s.sent.sent in
    let some : 0 < length s.datagrams =
    omega (arith, long, c.in_ok-prepared.ensures.prepared.some) in (
      s.datagrams,
      of_job p _ _ _ c.args.stamp c.in_ok-prepared.ensures.prepared s.datagrams s.sent,
      some,
      s.taken,
      c.in_ok-send.ensures.next
          ∙ ap (λ n. (c.args.stamp.first + n) % 2 ^ 32) (sym long),
    )

pub returns-in_err-send-clause-sent : goal.returns-in_err-send-clause-sent
returns-in_err-send-clause-sent g c =
    let p =
    err_from_is_err_and c.from_residual-in_err-send.result
    c.from_residual-in_err-send.ensures.1 in
    let s = c.in_err-send.ensures.fault in
    rw (p.1, p.2) (
      s.datagrams,
      of_job c.in_ok-prepared.prepared _ _ _ c.args.stamp c.in_ok-prepared.ensures.prepared
          s.datagrams s.sent,
      s.short,
      s.taken,
    )

pub returns-in_err-send-clause-puts : goal.returns-in_err-send-clause-puts
returns-in_err-send-clause-puts g c =
    let p =
    err_from_is_err_and c.from_residual-in_err-send.result
    c.from_residual-in_err-send.ensures.1 in
    let s = c.in_err-send.ensures.puts_part in
    rw (p.1, p.2) (
      s.datagrams,
      of_job c.in_ok-prepared.prepared _ _ _ c.args.stamp c.in_ok-prepared.ensures.prepared
          s.datagrams s.sent,
      s.failed,
    )
