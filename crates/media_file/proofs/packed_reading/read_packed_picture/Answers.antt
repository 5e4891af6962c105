use Rattle.media_file.proofs.Seen.{found_picture, only_picture}
use Rattle.media_file.proofs.PictureFaults.{picture_wrong}
use Rattle.media_file.proofs.GavePictures.{gave_ended, gave_found, gave_grew, gave_once}
use Rattle.media_file.proofs.GavePictures.{gave_refused}
use Rattle.media_file.proofs.packed_reading.read_packed_picture.Goals as goal

pub returns-clause-found : goal.returns-clause-found
returns-clause-found g c =
    found_picture _ _ c.read_all.result c.read_all.ensures.read
    c.read_all.ensures.octets c.read_all.ensures.whole

pub returns-clause-only : goal.returns-clause-only
returns-clause-only g c p octets told is =
    only_picture _ _ c.read_all.result c.read_all.ensures.read
    c.read_all.ensures.fault p octets told is

pub returns-clause-wrong : goal.returns-clause-wrong
returns-clause-wrong g c = picture_wrong _ c.read_all.result c.read_all.ensures.fault

pub returns-clause-gave : goal.returns-clause-gave
returns-clause-gave g c =
    gave_found _ _ _ c.read_all.result c.read_all.ensures.gave
    c.read_all.ensures.bytes c.read_all.ensures.whole

pub returns-clause-ended : goal.returns-clause-ended
returns-clause-ended g c = gave_ended _ _ _ c.read_all.result c.read_all.ensures.gave

pub returns-clause-gave_wrong : goal.returns-clause-gave_wrong
returns-clause-gave_wrong g c =
    gave_refused _ _ _ c.read_all.result c.read_all.ensures.gave_wrong

pub returns-clause-gave_only : goal.returns-clause-gave_only
returns-clause-gave_only g c p octets read is =
    gave_once _ _ _ c.read_all.result c.read_all.ensures.gave
    c.read_all.ensures.gave_wrong p octets read is

pub returns-clause-grown : goal.returns-clause-grown
returns-clause-grown g c =
    gave_grew _ _ (g.S.ByteSource.ended c.read_all.new.source) c.read_all.result
    c.read_all.ensures.gave c.read_all.ensures.gave_wrong
