use Rattle.follow_engine.proofs.files.begin_by.Goals as goal

pub returns-clause-begun : goal.returns-clause-begun
returns-clause-begun g c = record {
  run = c.in_ok-run.ensures.run;
  eager = c.in_ok-run.ensures.eager;
  opens = c.in_ok-run.ensures.opened;
}
