use Rattle.capture_runs.proofs.Looks.{have_more}
use Rattle.capture_runs.proofs.looking.Looked.add.Goals as goal

pub returns-clause-looked : goal.returns-clause-looked
returns-clause-looked c =
    have_more c.args.self.now.have_capture c.look-have_capture.result c.args.self.now.files.items
    c.push_file.new.files.items c.look-have_capture.new.file c.requires.looked
    c.look-have_capture.ensures.kept c.look-have_capture.ensures.looked
    c.in_ok-push_file.ensures.pushed
