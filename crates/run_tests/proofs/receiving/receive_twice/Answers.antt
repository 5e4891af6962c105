use Rattle.run_tests.proofs.receiving.receive_twice.Goals as goal

pub returns : goal.returns
returns g c =
    λ text said other_said same.
    c.one_file.ensures _ _ text _ _ _ _
    (c.received_file.ensures _ _ text _ _ _ _ _ _ _ c.in_ok-receive.ensures.saved
    c.in_ok-receive.ensures.taken said)
    (c.received_file.ensures _ _ text _ _ _ _ _ _ _ c.in_ok-receive-2.ensures.saved
    c.in_ok-receive-2.ensures.taken other_said)
    same
