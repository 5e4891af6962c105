-- A picture's file in each form: its octets as a function of the picture.
use Rattle.std.specs.Prelude.{ℕ, List, [], ◌∷◌}
use Rattle.st_format.specs.Pgroup.{bits_of}
use Rattle.st_format.specs.Picture.{Values}
use Rattle.st_format.specs.Samples.{octets_in}
use Rattle.media_file.specs.PictureFile.{picture_text}
use Rattle.picture_forms.specs.Layouts.{pixmap_text, y4m_text}
use Rattle.form_files.specs.declared.form.Form.{Form}
use Rattle.form_files.specs.declared.form.Form.TheVariants.{Picture, Y4m, Pixmap, Raw}

-- all pgroups in raster order, packed (RFC 4175, 4.3): what stands behind the head of a picture's
-- own file
abbrev pub packed_text : Values → List ℕ
packed_text v = octets_in (bits_of v.format.depth) v.samples

-- the octets of a picture's file
abbrev pub form_file : Form → Values → List ℕ
form_file Picture v = picture_text v
form_file Y4m v = y4m_text v.format (v ∷ [])
form_file Pixmap v = pixmap_text v
form_file Raw v = packed_text v
