-- The grammar computes.
use Rattle.std.proofs.Common.{◌≡◌, refl, Ok, Err, ℕ, List, [], ◌∷◌, codes}
use Rattle.sdp_format.specs.declared.sdp.Range.TheVariants.{Narrow}
use Rattle.sdp_format.specs.declared.fault.SdpFault.TheVariants.{NoVideo, BadMediaLine}
use Rattle.st_format.specs.declared.sampling.Sampling.TheVariants.{Ycc422}
use Rattle.st_format.specs.declared.sampling.Depth.TheVariants.{D10}
use Rattle.sdp_format.specs.Sections.{Leg}
use Rattle.sdp_format.specs.Reading.{text_walk, sections_walk, section_walk, listing_walk, leg_of}
use Rattle.sdp_format.specs.Reading.{said_in, format_of, media_of, is_raw90000}
use Rattle.st_format.specs.Words.{sampling_named}
use Rattle.sdp_format.specs.Reading.{same_leg}
use Rattle.sdp_format.specs.Naming.{is_bad, rate, range_named, colorimetry}
use Rattle.sdp_format.specs.Bytes.{trimmed, attribute}
use Rattle.st_format.specs.Words.{number}
use Rattle.sdp_format.specs.Canonical.{canonical_line}
use Rattle.std.specs.Fmt.{digits}
use Rattle.st_format.specs.Rate.{greatest_up_to}
use Rattle.st_format.specs.Forms.{depth_named}

empty : text_walk [] ≡ Err NoVideo
unfolding text_walk sections_walk
empty = refl

no_port : text_walk (codes "m=video x RTP/AVP 112") ≡ Err BadMediaLine
unfolding text_walk sections_walk section_walk listing_walk media_of number trimmed
no_port = refl

abbrev text : List ℕ
text =
    codes
    "v=0\r\nm=audio 1 RTP/AVP 0\nm=video 5004 RTP/AVP 112 \na=rtpmap:0112 RAW/90000\na=fmtp:112 sampling=YCbCr-4:2:2; width=01920; height=1080;exactframerate=60000/1001; depth=10; ;TCS=SDR; colorimetry=BT709; PM=2110GPM; SSN=ST2110-20:2017; "

abbrev said : Leg
said =
    record {
      payload_type = 112;
      format =
          record {
            sampling = Ycc422;
            depth = D10;
            width = 1920;
            height = 1080;
            n = 60000;
            d = 1001;
          };
      range = Narrow;
      colorimetry = codes "BT709";
    }

one_leg : text_walk text ≡ Ok (record { ports = 5004 ∷ []; leg = said })
unfolding text_walk sections_walk section_walk listing_walk leg_of said_in format_of media_of
    is_raw90000 sampling_named depth_named is_bad rate range_named colorimetry number trimmed
    attribute greatest_up_to
one_leg = refl

abbrev camera : List ℕ
camera =
    codes
    "v=0\no=- 1 1 IN IP4 192.0.2.1\ns=Camera 1\nt=0 0\na=group:DUP primary secondary\nm=video 5004 RTP/AVP 112\nc=IN IP4 239.0.0.1/32\na=rtpmap:112 raw/90000\na=fmtp:112 sampling=YCbCr-4:2:2; width=1920; height=1080; exactframerate=60000/1001; depth=10; TCS=SDR; colorimetry=BT709; PM=2110GPM; SSN=ST2110-20:2017; TP=2110TPN; \na=mid:primary\nm=video 5006 RTP/AVP 112\nc=IN IP4 239.0.0.2/32\na=rtpmap:112 raw/90000\na=fmtp:112 sampling=YCbCr-4:2:2; width=1920; height=1080; exactframerate=60000/1001; depth=10; TCS=SDR; colorimetry=BT709; PM=2110GPM; SSN=ST2110-20:2017; TP=2110TPN; \na=mid:secondary\n"

camera_says : text_walk camera ≡ Ok (record { ports = 5004 ∷ 5006 ∷ []; leg = said })
unfolding text_walk sections_walk section_walk listing_walk leg_of said_in format_of media_of
    is_raw90000 sampling_named depth_named is_bad rate range_named colorimetry number trimmed
    attribute same_leg greatest_up_to
camera_says = refl

camera_line : canonical_line said
    ≡ codes
    "a=fmtp:112 sampling=YCbCr-4:2:2; width=1920; height=1080; exactframerate=60000/1001; depth=10; colorimetry=BT709; PM=2110GPM; SSN=ST2110-20:2017"
unfolding canonical_line digits
camera_line = refl
