-- The mark word of a pgroup, and the state that it says (own).
use Rattle.std.specs.Prelude.{ℕ, ◌-◌, ◌<◌, ◌==◌, nat_lt, if◌then◌else◌, Bool, true, false, ⊤}
use Rattle.std.specs.Int.Bits.{bit_or}
use Rattle.frame_assembly.specs.declared.state.GroupState.{GroupState}
use Rattle.frame_assembly.specs.declared.state.GroupState.TheVariants.{Gone, Whole, Mixed}

-- what a mark word says of its group: bit 15, of value 32768, that it has no missing sample, and
-- the bits below which of its samples are contested
abbrev pub state_of_mark : ℕ → GroupState
state_of_mark mark =
    if nat_lt mark 32768 then Gone else (if mark == 32768 then Whole else Mixed (mark - 32768))

-- the mark word that says a state
abbrev pub mark_of_state : GroupState → ℕ
mark_of_state Gone = 0
mark_of_state Whole = 32768
mark_of_state (Mixed mask) = bit_or 32768 mask

-- a state that a mark word says: a mask names some of fifteen samples
abbrev pub IsSayable : GroupState → Type 0
IsSayable Gone = ⊤
IsSayable Whole = ⊤
IsSayable (Mixed mask) = (0 < mask) × (mask < 32768)

-- whether a group of this state has no missing sample
abbrev pub is_group_present : GroupState → Bool
is_group_present Gone = false
is_group_present Whole = true
is_group_present (Mixed mask) = true

-- a bit for each contested sample of a group of this state
abbrev pub contested_mask : GroupState → ℕ
contested_mask Gone = 0
contested_mask Whole = 0
contested_mask (Mixed mask) = mask
