-- Planes that are written by pgroups, one after the other (own).
use Rattle.std.specs.Prelude.{ℕ, ◌*◌, ◌/◌, List}
use Rattle.picture_forms.specs.Layouts.{column_step, plane_first, plane_step, y4m_spelling}
use Rattle.picture_forms.specs.Planes.{every_text, sample_size}
use Rattle.st_format.specs.declared.format.Format.{Format}
use Rattle.st_format.specs.Pgroup.{pixel_group}
use Rattle.st_format.specs.Picture.{Values}
use Rattle.st_format.specs.Position.{row_groups}

-- how many samples of a component a pgroup has
abbrev pub group_share : Format → ℕ → ℕ
group_share f c = (pixel_group f.sampling f.depth).pixels / column_step f.sampling c

-- how many octets so many samples take in a plane
abbrev pub octets_for : Format → ℕ → ℕ
octets_for f n = sample_size (y4m_spelling f.depth) * n

-- the octets of the first samples of a component of these
abbrev pub part_text : Format → ℕ → List ℕ → ℕ → List ℕ
part_text f c samples n =
    every_text (y4m_spelling f.depth) samples (plane_first f.sampling c)
    (plane_step f.sampling c) 0 n

-- the octets that so many pgroups of a picture have of a component, behind those of the first
abbrev pub groups_text : Values → ℕ → ℕ → ℕ → List ℕ
groups_text v c first count =
    every_text (y4m_spelling v.format.depth) v.samples (plane_first v.format.sampling c)
    (plane_step v.format.sampling c) (group_share v.format c * first)
    (group_share v.format c * count)

-- how many octets the samples take that a row has of a component
abbrev pub row_size : Format → ℕ → ℕ
row_size f c = octets_for f (group_share f c * row_groups f)

-- the octets that so many rows of a picture have of a component, behind those of the first
abbrev pub rows_text : Values → ℕ → ℕ → ℕ → List ℕ
rows_text v c first count =
    groups_text v c (row_groups v.format * first) (row_groups v.format * count)
