-- YUV4MPEG2 streams and portable pixmaps: their octets as functions of whole pictures.
use Rattle.std.specs.Prelude.{ℕ, zero, suc, ◌-◌, ◌*◌, ◌/◌, ◌%◌, ◌^◌, List, [], ◌++◌, codes, map, ⊤}
use Rattle.std.specs.Fmt.{decimal}
use Rattle.std.specs.List.{flat_map, range_with_len}
use Rattle.st_format.specs.declared.sampling.Sampling.{Sampling}
use Rattle.st_format.specs.declared.sampling.Sampling.TheVariants.{Ycc422, Ycc444, Rgb}
use Rattle.st_format.specs.declared.sampling.Depth.{Depth}
use Rattle.st_format.specs.declared.sampling.Depth.TheVariants.{D8, D10, D12, D16}
use Rattle.st_format.specs.declared.format.Format.{Format}
use Rattle.st_format.specs.Pgroup.{bits_of}
use Rattle.st_format.specs.Picture.{Values, value_at}
use Rattle.st_format.specs.Position.{Position, places}
use Rattle.picture_forms.specs.declared.planes.Spelling.{Spelling}
use Rattle.picture_forms.specs.declared.planes.Spelling.TheVariants.{One, Little, Big}
use Rattle.picture_forms.specs.Planes.{sample_text}

-- PLANES

-- How many columns stand from one sample of a component to the next in a row: in 4:2:2 Cb and Cr
-- have the even columns alone.
abbrev pub column_step : Sampling → ℕ → ℕ
column_step Ycc422 zero = 1
column_step Ycc422 (suc c) = 2
column_step Ycc444 c = 1
column_step Rgb c = 1

-- how many samples of a component a row has, and a picture
abbrev pub plane_width : Format → ℕ → ℕ
plane_width f c = f.width / column_step f.sampling c

-- how many samples of a component a picture has, in all its rows
abbrev pub plane_count : Format → ℕ → ℕ
plane_count f c = f.height * plane_width f c

-- A plane has the positions of one component: rows from the top, and columns from the left.
unfoldable pub plane_place : Format → ℕ → ℕ → Position
plane_place f c k = record {
  row = k / plane_width f c;
  column = k % plane_width f c * column_step f.sampling c;
  component = c;
}

-- the positions of a plane, in the order in which its samples stand there
abbrev pub plane_places : Format → ℕ → List Position
plane_places f c = map (plane_place f c) (range_with_len 0 (plane_count f c))

-- Where its samples stand in the picture's: the first of them, and how many there are from one to
-- the next
abbrev pub plane_first : Sampling → ℕ → ℕ
plane_first Ycc422 zero = 1
plane_first Ycc422 (suc zero) = 0
plane_first Ycc422 (suc (suc c)) = 2
plane_first Ycc444 zero = 1
plane_first Ycc444 (suc zero) = 0
plane_first Ycc444 (suc (suc c)) = 2
plane_first Rgb c = c

-- how far it is from one sample of a component to the next: of Cb, Y, Cr, Y each second is a Y,
-- and each fourth a Cb or a Cr; in other samplings each pixel has three samples
abbrev pub plane_step : Sampling → ℕ → ℕ
plane_step Ycc422 zero = 2
plane_step Ycc422 (suc c) = 4
plane_step Ycc444 c = 3
plane_step Rgb c = 3

-- the octets of a picture's values at these positions
abbrev pub texts_at : Spelling → Values → List Position → List ℕ
texts_at s v ps = flat_map (λ p. sample_text s (value_at v p)) ps

-- YUV4MPEG2

-- a sample is one octet at 8 bits, and else two, the low one first
abbrev pub y4m_spelling : Depth → Spelling
y4m_spelling D8 = One
y4m_spelling D10 = Little
y4m_spelling D12 = Little
y4m_spelling D16 = Little

-- the octets of one plane of a frame: 0 is Y, 1 is Cb, 2 is Cr
abbrev pub plane_text : Values → ℕ → List ℕ
plane_text v c = texts_at (y4m_spelling v.format.depth) v (plane_places v.format c)

-- a frame: its line and the planes of Y, Cb and Cr
abbrev pub frame_line : List ℕ
frame_line = codes "FRAME\n"

-- what stands behind the line of a frame: all of Y, then all of Cb, then all of Cr
abbrev pub planes_text : Values → List ℕ
planes_text v = plane_text v 0 ++ (plane_text v 1 ++ plane_text v 2)

-- a whole frame, without parameters in its line
abbrev pub frame_text : Values → List ℕ
frame_text v = frame_line ++ planes_text v

-- pictures of which there are streams
abbrev pub IsYcc : Sampling → Type 0
IsYcc Ycc422 = ⊤
IsYcc Ycc444 = ⊤
IsYcc Rgb = ⊥

-- the word for sampling and depth (RGB has none)
abbrev pub sampling_word : Sampling → List ℕ
sampling_word Ycc422 = codes " C422"
sampling_word Ycc444 = codes " C444"
sampling_word Rgb = []

-- what follows the sampling in the line of a stream: the bits, where they are more than 8, and LF
abbrev pub depth_word : Depth → List ℕ
depth_word D8 = codes "\n"
depth_word D10 = codes "p10\n"
depth_word D12 = codes "p12\n"
depth_word D16 = codes "p16\n"

-- a word, and a number in decimal digits
abbrev pub numbered_word : List ℕ → ℕ → List ℕ
numbered_word word number = word ++ decimal number

-- the line of a stream: progressive, of square pixels
unfoldable pub y4m_head : Format → List ℕ
y4m_head f =
    numbered_word (codes "YUV4MPEG2 W") f.width ++ (numbered_word (codes " H") f.height
    ++ (numbered_word (codes " F") f.n ++ (numbered_word (codes ":") f.d
    ++ (codes " Ip A1:1" ++ (sampling_word f.sampling ++ depth_word f.depth)))))

-- a stream of pictures of one format
abbrev pub y4m_text : Format → List Values → List ℕ
y4m_text f pictures = y4m_head f ++ flat_map frame_text pictures

-- PORTABLE PIXMAPS

-- pictures of which there are pixmaps
abbrev pub IsRgb : Sampling → Type 0
IsRgb Ycc422 = ⊥
IsRgb Ycc444 = ⊥
IsRgb Rgb = ⊤

-- a sample is one octet at 8 bits, and else two, the high one first
abbrev pub pixmap_spelling : Depth → Spelling
pixmap_spelling D8 = One
pixmap_spelling D10 = Big
pixmap_spelling D12 = Big
pixmap_spelling D16 = Big

-- the head of a portable pixmap: width, height and the greatest value
unfoldable pub pixmap_head : Format → List ℕ
pixmap_head f =
    numbered_word (codes "P6\n") f.width ++ (numbered_word (codes " ") f.height
    ++ (numbered_word (codes "\n") (2 ^ bits_of f.depth - 1) ++ codes "\n"))

-- all positions in raster order, which of RGB is R, G, B of each pixel
abbrev pub pixels_text : Values → List ℕ
pixels_text v = texts_at (pixmap_spelling v.format.depth) v (places v.format)

-- a whole pixmap of one picture: its head, and the samples of its pixels
abbrev pub pixmap_text : Values → List ℕ
pixmap_text v = pixmap_head v.format ++ pixels_text v
