-- The first groups of a run, which are joined before the others.
use Rattle.std.proofs.Common.{◌≡◌, ℕ, ◌-◌, ◌*◌, ◌≤◌, List, length, take, drop, refl}
use Rattle.std.proofs.Common.{sym, ap, ◌∙◌, arith}
use borrow.Rule.Slice.PartMut.{put_mid}
use Rattle.frame_assembly.specs.Packed.{IsPacked, Joins}
use Rattle.frame_assembly.proofs.Runs.{AreAlike, IsPart, JoinedTo, none_joined_to, part_joined}
use Rattle.frame_assembly.proofs.Runs.{part_packed}
use Rattle.frame_assembly.proofs.PackedLemmas.{AreSizes}

-- from the first group on
pub part_first : (size z count : ℕ) → z ≡ size → IsPart size 0 count 0 count 0 (z * count)
part_first size z count same = record {
  marks_at_is = refl;
  marks_count_is = refl;
  octets_at_is = omega arith;
  octets_count_is = ap (λ (x : ℕ). x * count) same;
}

pub first_packed : (n size z samples count : ℕ) (marks octets : List ℕ) → z ≡ size
    → AreSizes n size samples → count ≤ length marks → IsPacked n size samples marks octets
    → IsPacked n size samples (take count marks) (take (z * count) octets)
first_packed n size z samples count marks octets same is le packed =
    part_packed n size samples 0 count 0 count 0 (z * count) marks octets
    (part_first size z count same) is (omega arith) packed

-- the first groups are joined, and the others are as they were
pub first_joined : (n size z samples count : ℕ)
    (marks octets other_marks others part_marks part_octets : List ℕ) → z ≡ size
    → AreAlike n size samples marks octets other_marks others → count ≤ length marks
    → Joins n size samples (take count marks) (take (z * count) octets) (take count other_marks)
    (take (z * count) others) part_marks part_octets
    → JoinedTo n size samples count marks octets other_marks others
    (put_mid 0 count marks part_marks) (put_mid 0 (z * count) octets part_octets)
first_joined n size z samples count marks octets other_marks others part_marks part_octets same are
    le step =
    part_joined n size samples 0 count count 0 count 0 (z * count) 0 count 0 (z * count) marks
    octets other_marks others marks octets part_marks part_octets (part_first size z count same)
    (part_first size z count same) are (omega arith) (omega arith)
    (none_joined_to n size samples marks octets other_marks others are.sizes) step

-- the marks of the others are the same where all marks were
pub rest_same : (m : ℕ) (marks other_marks now_marks : List ℕ) → marks ≡ other_marks
    → length now_marks ≡ length marks → drop m now_marks ≡ drop m marks
    → take (length other_marks - m) (drop m other_marks)
    ≡ take (length now_marks - m) (drop m now_marks)
rest_same m marks other_marks now_marks same long left =
    ap (λ (xs : List ℕ). take (length xs - m) (drop m xs)) (sym same)
    ∙ ap (λ (k : ℕ). take (k - m) (drop m marks)) (sym long)
    ∙ ap (λ (xs : List ℕ). take (length now_marks - m) xs) (sym left)
