-- Octets with as many bits as the samples of a raster spell a picture.
use Rattle.std.proofs.Common.{ℕ, ◌/◌, List, length, ap, ◌∙◌}
use Rattle.std.proofs.Math.Nat.{mul-div_right}
use Rattle.st_format.specs.declared.format.Format.{Format}
use Rattle.st_format.specs.Pgroup.{bits_of}
use Rattle.st_format.specs.Picture.{IsPicture}
use Rattle.st_format.specs.Position.{sample_count}
use Rattle.st_format.specs.Samples.{Spells, values_in}
use Rattle.st_format.proofs.WholeOctets.{Spells-values_in, values_in-fit}
use Rattle.pgroup_pack.specs.Packing.{Agree, unpacked_picture}
use Rattle.pgroup_pack.proofs.Values.{bits_of_pos, length-values_in}

-- they spell its values
pub raster_spelled : (f : Format) (octets : List ℕ)
    → Agree f (length octets) (sample_count f)
    → Spells (bits_of f.depth) octets (values_in (bits_of f.depth) octets)
raster_spelled f octets agree =
    Spells-values_in (bits_of f.depth) octets (sample_count f) (bits_of_pos f.depth) agree

pub raster_whole : (f : Format) (octets : List ℕ)
    → Agree f (length octets) (sample_count f) → IsPicture (unpacked_picture f octets)
raster_whole f octets agree =
    let b : ℕ = bits_of f.depth in
    record {
      whole = length-values_in b octets ∙ ap (λ (k : ℕ). k / b) agree
          ∙ mul-div_right (sample_count f) (bits_of_pos f.depth);
      fit = values_in-fit b octets;
    }
