use Rattle.frame_sinks.proofs.Filed.{takes_file}
use Rattle.frame_sinks.proofs.files_sink.FilesSinkPictureSink.show.Goals as goal

pub returns-clause-taken : goal.returns-clause-taken
returns-clause-taken g c =
    let same = c.in_ok-picture.ensures in
    let kept = c.keep.ensures in
    takes_file g.F.PictureFiles.files c.args.self.now _ c.settle.new.self
    c.in_ok-picture.picture _ same.filling same.fill same.held same.picture
    c.in_ok-put.ensures.filed kept.filling kept.fill kept.held
