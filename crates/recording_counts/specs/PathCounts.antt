-- What is counted of packets with numbers.
use Rattle.std.specs.Prelude.{ℕ, ◌+◌, Bool, true, false, not, nat_lt, if◌then◌else◌, List, []}
use Rattle.std.specs.Prelude.{◌∷◌, ◌++◌}
use Rattle.std.specs.Prelude.{Option, length}
use Rattle.std.specs.FinSet.{contains, from_list, len}
use Rattle.std.specs.Option.{option_map_or}
use Rattle.std.specs.Ordering.{nat_cmp}
use Rattle.st_format.specs.Device.{capped}
use Rattle.recording_counts.specs.declared.path_count.Came.{Came}
use Rattle.recording_counts.specs.declared.path_count.Came.TheVariants.{Late, New, Repeated}
use Rattle.recording_counts.specs.declared.path_count.PathCount.{PathCount}
use Rattle.recording_counts.specs.Numbering.{highest_of, lowest_of}

-- how a number comes that is new or not, behind others of which this is the highest
abbrev pub came_after : Bool → Option ℕ → ℕ → Came
came_after false highest n = Repeated
came_after true highest n = if option_map_or (λ h. nat_lt n h) highest false then Late else New

-- how a number comes behind others
abbrev pub came : List ℕ → ℕ → Came
came before n =
    came_after (not (contains (from_list {R = nat_cmp} before) n)) (highest_of before) n

-- a number came for the first time, but behind a higher one
abbrev pub is_late : Came → Bool
is_late New = false
is_late Late = true
is_late Repeated = false

-- a number had come before
abbrev pub is_repeated : Came → Bool
is_repeated New = false
is_repeated Late = false
is_repeated Repeated = true

-- how many of these come late, behind others
abbrev pub late_after : List ℕ → List ℕ → ℕ
late_after before [] = 0
late_after before (n ∷ ns) =
    (if is_late (came before n) then 1 else 0) + late_after (before ++ n ∷ []) ns

-- what is counted of the numbers of packets on one path, in the order of their coming
abbrev pub count_of : {A : Type 0} → List ℕ → PathCount A
count_of ns =
    record {
      datagrams = capped (length ns);
      different = capped (len (from_list {R = nat_cmp} ns));
      late = capped (late_after [] ns);
      lowest = lowest_of ns;
      highest = highest_of ns;
      numbers = from_list ns;
    }

-- a count with one more where it is so, up to 2^64 - 1
abbrev pub one_more : ℕ → Bool → ℕ
one_more count more = if more then capped (count + 1) else count
