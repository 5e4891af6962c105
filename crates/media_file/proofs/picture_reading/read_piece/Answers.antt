use Rattle.media_file.proofs.Spelt.{field_given}
use Rattle.media_file.proofs.GavePictures.{piece_gave}
use Rattle.media_file.proofs.picture_reading.read_piece.Goals as goal

pub returns-clause-read : goal.returns-clause-read
returns-clause-read g c = record {
  octets = c.read_field.new.buf;
  given = field_given _ _ _ c.read_field.new.buf c.in_ok-read_field.ensures.read;
  spelled = c.unpack.ensures.spelled;
}

pub returns-clause-gave : goal.returns-clause-gave
returns-clause-gave g c =
    piece_gave _ _ _ _ c.read_field.new.buf _ c.in_ok-read_field.ensures.gave
    c.in_ok-read_field.ensures.bytes c.unpack.ensures.spelled
