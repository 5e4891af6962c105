-- Groups that are taken from a source into cells, some behind others.
use Rattle.std.proofs.Common.{◌≡◌, ℕ, zero, suc, ◌+◌, ◌-◌, ◌*◌, ◌<◌, ◌≤◌, List, [], ◌∷◌, ◌++◌}
use Rattle.std.proofs.Common.{length, take, drop, replicate, drop-drop, Option, None, Some, Result}
use Rattle.std.proofs.Common.{Ok, append_assoc, get_or, refl, sym, ap, ◌∙◌, subst, arith}
use Rattle.std.specs.Io.KnownBytes.{Consumes}
use Rattle.std.proofs.lemmas.List.{drop_at, drop-replicate, drop-take, length-take-le}
use Rattle.std.proofs.lemmas.List.{take-replicate, take-take}
use Rattle.std.proofs.Math.Nat.{mul-le-mul_left}
use Rattle.std.proofs.Math.Seq.{take-length}
use Rattle.st_format.specs.Device.{AreOctets}
use Rattle.st_format.specs.declared.cell.Cell.{Cell}
use Rattle.st_format.specs.declared.cell.Cell.TheVariants.{Missing}
use Rattle.st_format.specs.declared.format.Format.{Format}
use Rattle.st_format.specs.Position.{group_count, sample_count}
use Rattle.st_format.specs.Raster.{IsWhole, Raster}
use Rattle.frame_assembly.specs.Rows.{replaced_cells}
use Rattle.frame_assembly.proofs.Segments.{sample_count_groups}
use Rattle.st_format.specs.Reading.{◌>>=◌}
use Rattle.media_file.specs.declared.fault.FileFault.{FileFault}
use Rattle.media_file.specs.Fields.{Fails, GaveFault}
use Rattle.st_format.specs.Given.{Takes}
use Rattle.media_file.specs.Groups.{Shape, group_at, groups_at}
use Rattle.media_file.specs.StateFile.{cut_cells}
use Rattle.receiver_file.specs.Giving.{GaveOf}
use Rattle.receiver_file.specs.Known.{shape_in}
use Rattle.receiver_file.specs.Taking.{AreBlank, AreGroups, Gained, IsGivenGroup}
use Rattle.receiver_file.proofs.CutCells.{cut_add, cut_alike, cut_one}
use Rattle.receiver_file.proofs.Giving.{fault_two, gave_none, gave_one, gave_two}
use Rattle.receiver_file.proofs.GroupRuns.{groups_more, groups_none, groups_one, groups_one_fault}
use Rattle.receiver_file.proofs.GroupRuns.{groups_stop}
use Rattle.receiver_file.proofs.Knowing.{replaced_at, replaced_before}

abbrev Many : Type 0
Many = Result (List (List Cell) × List ℕ) FileFault

abbrev ok_many : List ℕ → List (List Cell) → Many
ok_many rest gs = Ok (gs, rest)

-- ---- groups in octets

pub groups_zero : (s : Shape) (cells : List Cell) → AreGroups s 0 [] cells
unfolding groups_at cut_cells
groups_zero s cells = record { says = λ behind. refl }

-- cells that are alike as far as the groups go
pub groups_alike : (s : Shape) (n : ℕ) (octets : List ℕ) (xs ys : List Cell)
    → take (s.samples * n) xs ≡ take (s.samples * n) ys → AreGroups s n octets xs
    → AreGroups s n octets ys
groups_alike s n octets xs ys e p = record {
  says = λ behind. p.says behind ∙ ap (ok_many behind) (cut_alike s.samples n xs ys e);
}

pub groups_both : (s : Shape) (a b : ℕ) (x y : List ℕ) (cells : List Cell) → AreGroups s a x cells
    → AreGroups s b y (drop (s.samples * a) cells) → AreGroups s (a + b) (x ++ y) cells
groups_both s a b x y cells p q = record {
  says = λ behind.
      ap (groups_at s (a + b)) (append_assoc x y behind)
      ∙ groups_more s a b (Some (x ++ (y ++ behind))) (Some (y ++ behind)) (Some behind)
      (cut_cells s.samples a cells) (cut_cells s.samples b (drop (s.samples * a) cells))
      (p.says (y ++ behind)) (q.says behind)
      ∙ ap (ok_many behind) (sym (cut_add s.samples a b cells));
}

pub groups_single : (s : Shape) (octets : List ℕ) (cells : List Cell) → length cells ≡ s.samples
    → ((behind : List ℕ) → group_at s (octets ++ behind) ≡ Ok (cells, behind))
    → AreGroups s 1 octets cells
groups_single s octets cells long h = record {
  says = λ behind.
      groups_one s (Some (octets ++ behind)) (Some behind) cells (h behind)
      ∙ ap (ok_many behind)
      (sym (cut_one s.samples cells
      ∙ ap (λ (t : List Cell). t ∷ [])
      (ap (λ (n : ℕ). take n cells) (sym long) ∙ take-length cells)));
}

-- missing groups
pub groups_missing : (s : Shape) (n d : ℕ) → n ≤ d
    → AreGroups s n (replicate n 0) (replicate (s.samples * d) Missing)
unfolding groups_at group_at cut_cells
groups_missing s zero d le = record { says = λ behind. refl }
groups_missing s (suc n) zero le = absurd (omega (arith, le))
groups_missing s (suc n) (suc d) le =
    let m : ℕ = s.samples * suc d in
    let some : s.samples ≤ m = omega arith in
    let first : take s.samples (replicate m Missing) ≡ replicate s.samples Missing =
    take-replicate s.samples m Missing some in
    let rest : drop s.samples (replicate m Missing) ≡ replicate (s.samples * d) Missing =
    drop-replicate s.samples m Missing
    ∙ (let e : m - s.samples ≡ s.samples * d = omega arith in
    ap (λ (k : ℕ). replicate k Missing) e) in
    let p = groups_missing s n d (omega (arith, le)) in
    record {
      says = λ behind.
          ap (λ (r : Many). r >>= λ y. ok_many y.1 (replicate s.samples Missing ∷ y.0))
          (p.says behind)
          ∙ ap (λ (t : List Cell). ok_many behind
          (t ∷ cut_cells s.samples n (replicate (s.samples * d) Missing))) (sym first)
          ∙ ap (λ (t : List Cell). ok_many behind
          (take s.samples (replicate m Missing) ∷ cut_cells s.samples n t)) (sym rest);
    }

-- ---- where groups stand

-- what is alike as far as some place is alike as far as an earlier one
take_less : (m n : ℕ) (xs ys : List Cell) → m ≤ n → take n xs ≡ take n ys
    → take m xs ≡ take m ys
take_less m n xs ys le e = sym (take-take m n xs le) ∙ ap (take m) e ∙ take-take m n ys le

-- what is alike as far as some groups go is alike in the last of them
alike_part : (k f a : ℕ) (xs ys : List Cell) → take (k * (f + a)) xs ≡ take (k * (f + a)) ys
    → take (k * a) (drop (k * f) xs) ≡ take (k * a) (drop (k * f) ys)
alike_part k f a xs ys e =
    let z : k * f + k * a ≡ k * (f + a) = omega arith in
    sym (drop-take (k * f) (k * a) xs)
    ∙ ap (λ (m : ℕ). drop (k * f) (take m xs)) z ∙ ap (drop (k * f)) e
    ∙ ap (λ (m : ℕ). drop (k * f) (take m ys)) (sym z)
    ∙ drop-take (k * f) (k * a) ys

-- the cells behind groups, and behind those behind them
drop_part : (k f a : ℕ) (cells : List Cell)
    → drop (k * a) (drop (k * f) cells) ≡ drop (k * (f + a)) cells
drop_part k f a cells =
    let z : k * f + k * a ≡ k * (f + a) = omega arith in
    drop-drop (k * a) (k * f) cells ∙ ap (λ (m : ℕ). drop m cells) z

-- ---- cells that a source gave the groups of

-- the cells of groups
abbrev cells_from : Shape → ℕ → ℕ → List Cell → List (List Cell)
cells_from s first n cells = cut_cells s.samples n (drop (s.samples * first) cells)

none_taken : (s : Shape) (cells : List Cell) (known : Option (List ℕ))
    → Takes (groups_at s 0) known known (cut_cells s.samples 0 cells)
unfolding cut_cells
none_taken s cells known = groups_none s known

pub gained_none : (s : Shape) (first : ℕ) (gave : List ℕ) (known : Option (List ℕ))
    (cells : List Cell) → Gained s first 0 gave gave known known cells cells
gained_none s first gave known cells = record {
  read = none_taken s (drop (s.samples * first) cells) known;
  gave =
      gave_none (groups_at s 0) (cells_from s first 0 cells) gave
      (none_taken s (drop (s.samples * first) cells));
  before = refl;
  behind = refl;
}

-- what octets say, a source says that was to give them first
takes_octets : (s : Shape) (n : ℕ) (x : List ℕ) (gs : List (List Cell))
    (was left : Option (List ℕ)) → Consumes was left x
    → ((behind : List ℕ) → groups_at s n (x ++ behind) ≡ Ok (gs, behind))
    → Takes (groups_at s n) was left gs
takes_octets s n x gs None left e says = tt
takes_octets s n x gs (Some o) None e says = absurd e
takes_octets s n x gs (Some o) (Some rest) e says = ap (groups_at s n) e ∙ says rest

-- octets that a source gave, and the cells that they say
gained_octets : (s : Shape) (first n : ℕ) (x a b : List ℕ) (was left : Option (List ℕ))
    (old new : List Cell) → b ≡ a ++ x → Consumes was left x → AreOctets x
    → AreGroups s n x (drop (s.samples * first) new)
    → take (s.samples * first) new ≡ take (s.samples * first) old
    → drop (s.samples * (first + n)) new ≡ drop (s.samples * (first + n)) old
    → Gained s first n a b was left old new
gained_octets s first n x a b was left old new grown told bytes groups before behind = record {
  read = takes_octets s n x (cells_from s first n new) was left told groups.says;
  gave = record { part = x; bytes = bytes; grown = grown; says = groups.says };
  before = before;
  behind = behind;
}

-- of missing groups, where nothing is known
octets_zero : (n i : ℕ) → get_or (replicate n 0) i 0 < 256
octets_zero zero i = omega arith
octets_zero (suc n) zero = omega arith
octets_zero (suc n) (suc i) = octets_zero n i

pub gained_missing : (s : Shape) (first groups n : ℕ) (a b : List ℕ) (was left : Option (List ℕ))
    (cells : List Cell) → first + n ≤ groups → AreBlank s first groups cells
    → b ≡ a ++ replicate n 0 → Consumes was left (replicate n 0)
    → Gained s first n a b was left cells cells
gained_missing s first groups n a b was left cells le blank grown told =
    let d : ℕ = groups - first in
    gained_octets s first n (replicate n 0) a b was left cells cells grown told (octets_zero n)
    (subst (AreGroups s n (replicate n 0)) (sym (blank d (omega (arith, le))))
    (groups_missing s n d (omega (arith, le)))) refl refl

-- of groups whose cells take the place of others
replaced_behind : (k f n : ℕ) (cells old : List Cell) → length cells ≡ k * n → k * f ≤ length old
    → drop (k * (f + n)) (replaced_cells (k * f) cells old) ≡ drop (k * (f + n)) old
replaced_behind k f n cells old long le =
    sym (drop_part k f n (replaced_cells (k * f) cells old))
    ∙ ap (drop (k * n))
    (drop_at (take (k * f) old) (cells ++ drop (length cells) (drop (k * f) old)) (k * f)
    (length-take-le (k * f) old le))
    ∙ drop_at cells (drop (length cells) (drop (k * f) old)) (k * n) long
    ∙ ap (λ (m : ℕ). drop m (drop (k * f) old)) long ∙ drop_part k f n old

pub gained_replaced : (s : Shape) (first n : ℕ) (x a b : List ℕ) (was left : Option (List ℕ))
    (cells old new : List Cell) → b ≡ a ++ x → Consumes was left x → AreOctets x
    → AreGroups s n x cells → length cells ≡ s.samples * n → s.samples * first ≤ length old
    → new ≡ replaced_cells (s.samples * first) cells old
    → Gained s first n a b was left old new
gained_replaced s first n x a b was left cells old new grown told bytes p long le e =
    let k : ℕ = s.samples in
    let all : List Cell = replaced_cells (k * first) cells old in
    let at : take (k * n) (drop (k * first) all) ≡ cells =
    replaced_at (k * first) (k * n) cells old le long in
    let whole : take (k * n) cells ≡ cells =
    ap (λ (m : ℕ). take m cells) (sym long) ∙ take-length cells in
    subst (Gained s first n a b was left old) (sym e)
    (gained_octets s first n x a b was left old all grown told bytes
    (groups_alike s n x cells (drop (k * first) all) (whole ∙ sym at) p)
    (replaced_before (k * first) cells old le)
    (replaced_behind k first n cells old long le))

-- of one group that was read
pub gained_one : (s : Shape) (number : ℕ) (cells : List Cell) (a b : List ℕ)
    (was left : Option (List ℕ)) (old new : List Cell) → Takes (group_at s) was left cells
    → GaveOf (group_at s) a b cells → IsGivenGroup s number cells old new
    → Gained s number 1 a b was left old new
gained_one s number cells a b was left old new read gave given =
    let same : cells ∷ [] ≡ cells_from s number 1 new =
    ap (λ (t : List Cell). let gs : List (List Cell) = t ∷ [] in gs) (sym given.is)
    ∙ sym (cut_one s.samples (drop (s.samples * number) new)) in
    record {
      read = subst (Takes (groups_at s 1) was left) same (groups_one s was left cells read);
      gave =
          subst (GaveOf (groups_at s 1) a b) same
          (gave_one (group_at s) (groups_at s 1) cells (cells ∷ []) a b
          (λ u v. groups_one s u v cells) gave);
      before = given.before;
      behind = given.behind;
    }

-- groups, and those behind them
pub gained_more : (s : Shape) (first n m : ℕ) (a b c : List ℕ) (was mid left : Option (List ℕ))
    (old between new : List Cell) → Gained s first n a b was mid old between
    → Gained s (first + n) m b c mid left between new
    → Gained s first (n + m) a c was left old new
gained_more s first n m a b c was mid left old between new p q =
    let k : ℕ = s.samples in
    let le : k * first ≤ k * (first + n) =
    (let z : k * (first + n) ≡ k * first + k * n = omega arith in omega (arith, z)) in
    let same : (first + n) + m ≡ first + (n + m) = omega arith in
    let xs : List (List Cell) = cells_from s first n between in
    let ys : List (List Cell) = cells_from s (first + n) m new in
    let join : xs ++ ys ≡ cells_from s first (n + m) new =
    sym (cut_add k n m (drop (k * first) new)
    ∙ ap (λ (t : List (List Cell)). t ++ cut_cells k m (drop (k * n) (drop (k * first) new)))
    (cut_alike k n (drop (k * first) new) (drop (k * first) between)
    (alike_part k first n new between q.before))
    ∙ ap (λ (t : List Cell). xs ++ cut_cells k m t) (drop_part k first n new)) in
    record {
      read =
          subst (Takes (groups_at s (n + m)) was left) join
          (groups_more s n m was mid left xs ys p.read q.read);
      gave =
          subst (GaveOf (groups_at s (n + m)) a c) join
          (gave_two (groups_at s n) (groups_at s m) (groups_at s (n + m)) xs ys (xs ++ ys) a b c
          (λ u v w. groups_more s n m u v w xs ys) p.gave q.gave);
      before = take_less (k * first) (k * (first + n)) new between le q.before ∙ p.before;
      behind =
          ap (λ (j : ℕ). drop (k * j) new) (sym same) ∙ q.behind
          ∙ sym (drop_part k (first + n) m between) ∙ ap (drop (k * m)) p.behind
          ∙ drop_part k (first + n) m old ∙ ap (λ (j : ℕ). drop (k * j) old) same;
    }

-- nothing is known behind groups that were gained
pub gained_blank : (s : Shape) (first groups n : ℕ) (a b : List ℕ) (was left : Option (List ℕ))
    (old new : List Cell) → Gained s first n a b was left old new → AreBlank s first groups old
    → AreBlank s (first + n) groups new
gained_blank s first groups n a b was left old new p blank d e =
    let k : ℕ = s.samples in
    let z : k * (n + d) - k * n ≡ k * d =
    (let y : k * (n + d) ≡ k * n + k * d = omega arith in omega (arith, y)) in
    p.behind ∙ sym (drop_part k first n old)
    ∙ ap (drop (k * n)) (blank (n + d) (omega (arith, e)))
    ∙ drop-replicate (k * n) (k * (n + d)) Missing ∙ ap (λ (m : ℕ). replicate m Missing) z

-- ---- faults

-- a fault of the group behind those that were gained
next_fails : (s : Shape) (done n : ℕ) (was mid : Option (List ℕ)) (gs : List (List Cell))
    (f : FileFault) → done < n → Takes (groups_at s done) was mid gs → Fails (group_at s) mid f
    → Fails (groups_at s n) was f
next_fails s done n was mid gs f lt p q =
    groups_stop s done 1 (n - (done + 1)) n was mid gs f (omega (arith, lt)) p
    (groups_one_fault s mid f q)

pub gained_fails : (s : Shape) (done n : ℕ) (a b : List ℕ) (was mid : Option (List ℕ))
    (old new : List Cell) (f : FileFault) → done < n → Gained s 0 done a b was mid old new
    → Fails (group_at s) mid f → Fails (groups_at s n) was f
gained_fails s done n a b was mid old new f lt p q =
    next_fails s done n was mid (cells_from s 0 done new) f lt p.read q

pub gained_wrong : (s : Shape) (done n : ℕ) (a b d : List ℕ) (was mid : Option (List ℕ))
    (old new : List Cell) (ended : Type 0) (f : FileFault) → done < n
    → Gained s 0 done a b was mid old new → GaveFault (group_at s) b d ended f
    → GaveFault (groups_at s n) a d ended f
gained_wrong s done n a b d was mid old new ended f lt p q =
    fault_two (groups_at s done) (group_at s) (groups_at s n) (cells_from s 0 done new) a b d ended
    f (λ u v. next_fails s done n u v (cells_from s 0 done new) f lt) p.gave q

-- ---- a group of which nothing was known

pub given_replaced : (s : Shape) (number : ℕ) (cells old new : List Cell)
    → length cells ≡ s.samples → s.samples * number ≤ length old
    → new ≡ replaced_cells (s.samples * number) cells old → IsGivenGroup s number cells old new
given_replaced s number cells old new long le e =
    let k : ℕ = s.samples in
    let one : length cells ≡ k * 1 = omega (arith, long) in
    subst (IsGivenGroup s number cells old) (sym e) (record {
      is = replaced_at (k * number) k cells old le long;
      before = replaced_before (k * number) cells old le;
      behind = replaced_behind k number 1 cells old one le;
    })

pub given_missing : (s : Shape) (number groups : ℕ) (cells : List Cell) → number < groups
    → AreBlank s number groups cells
    → IsGivenGroup s number (replicate s.samples Missing) cells cells
given_missing s number groups cells lt blank =
    let d : ℕ = groups - number in
    let some : s.samples ≤ s.samples * d =
    (let z : s.samples * (1 + (d - 1)) ≡ s.samples + s.samples * (d - 1) = omega arith in
    let y : 1 + (d - 1) ≡ d = omega (arith, lt) in
    let x : s.samples * d ≡ s.samples + s.samples * (d - 1) =
    ap (λ (m : ℕ). s.samples * m) (sym y) ∙ z in omega (arith, x)) in
    record {
      is =
          ap (take s.samples) (blank d (omega (arith, lt)))
          ∙ take-replicate s.samples (s.samples * d) Missing some;
      before = refl;
      behind = refl;
    }

-- ---- a frame's cells

pub start_inside : (r : Raster) (f : Format) (first : ℕ) → IsWhole r → r.format ≡ f
    → first ≤ group_count f → (shape_in f).samples * first ≤ length r.cells
start_inside r f first whole e le =
    let k : ℕ = (shape_in f).samples in
    let total : length r.cells ≡ k * group_count f =
    whole ∙ ap sample_count e ∙ sym (sample_count_groups f) in
    omega (arith, total, mul-le-mul_left k le)
