-- A picture's file that is cut is cut in one place.
use Rattle.std.proofs.Common.{◌≡◌, ℕ, ◌+◌, ◌<◌, List, length, refl, ap, ◌∙◌, arith}
use Rattle.std.proofs.lemmas.List.{length-append}
use Rattle.media_file.specs.declared.front.Version.TheVariants.{One}
use Rattle.media_file.specs.Fronts.{kind_text, picture_name}
use Rattle.media_file.specs.PictureFaults.{HasCutBlock, HasCutGroups, IsCutPicture, picture_place}
use Rattle.media_file.specs.PictureFaults.IsCutPicture.{Kind, Block, Groups}
use Rattle.media_file.specs.PictureFile.{picture_head}

block_size : (octets : List ℕ) (h : HasCutBlock octets) → length octets ≡ 8 + length h.behind
block_size octets h =
    ap length h.whole ∙ length-append (kind_text picture_name One) h.behind

groups_size : (octets : List ℕ) (h : HasCutGroups octets) → length octets ≡ 22 + length h.behind
groups_size octets h =
    ap length h.head.whole ∙ length-append (picture_head h.format) h.behind

kind_or_block : (octets : List ℕ) → length octets < 8 → HasCutBlock octets → ⊥
kind_or_block octets lt h = omega (arith, block_size octets h)

kind_or_groups : (octets : List ℕ) → length octets < 8 → HasCutGroups octets → ⊥
kind_or_groups octets lt h = omega (arith, groups_size octets h)

block_or_groups : (octets : List ℕ) → HasCutBlock octets → HasCutGroups octets → ⊥
block_or_groups octets g h =
    let short : length g.behind < 14 = g.short in
    omega (arith, block_size octets g, groups_size octets h)

pub picture_once : (octets : List ℕ) (a b : IsCutPicture octets) → picture_place a ≡ picture_place b
picture_once octets (Kind x) (Kind y) = refl
picture_once octets (Kind x) (Block y) = absurd (kind_or_block octets x y)
picture_once octets (Kind x) (Groups y) = absurd (kind_or_groups octets x y)
picture_once octets (Block x) (Kind y) = absurd (kind_or_block octets y x)
picture_once octets (Block x) (Block y) = refl
picture_once octets (Block x) (Groups y) = absurd (block_or_groups octets x y)
picture_once octets (Groups x) (Kind y) = absurd (kind_or_groups octets y x)
picture_once octets (Groups x) (Block y) = absurd (block_or_groups octets y x)
picture_once octets (Groups x) (Groups y) = refl
