-- What the reader's values stand for.
use Rattle.std.specs.Prelude.{ℕ, Bool, if◌then◌else◌, List, map, Option, Some, None}
use Rattle.std.specs.Borrow.{Bor}
use Rattle.std.specs.declared.cmp.Ordering.{Ordering}
use Rattle.std.specs.Ordering.{nat_cmp}
use Rattle.std.specs.Cmp.Lexicographic.{slice_cmp}
use Rattle.std.specs.BTreeSet.{BTreeSet, contains}
use Rattle.indexmap.specs.IndexMap.{IndexMap}
use Rattle.arrayvec.specs.ArrayVec.{ArrayVec}
use Rattle.st_format.specs.Fields.{fields_of}
use Rattle.sdp_format.specs.Naming.{Item, is_known, has_name}
use Rattle.sdp_format.specs.Sections.{Description}
use Rattle.sdp_format.specs.declared.items.Parameter.{Parameter}
use Rattle.sdp_format.specs.declared.sdp.Sdp.{Sdp}

-- an item as the reader holds it: name and value are parts of the text
abbrev pub item_of : Parameter → Item
item_of i = (i.name.now, i.value.now)

-- a text as the reader holds it, the order of such texts, and a name and its value
abbrev pub Slice : Type 0
Slice = Bor (List ℕ)

-- the order of texts: by the first byte that differs, and a text before those that it begins
abbrev pub slice_order : Slice → Slice → Ordering
slice_order x y = slice_cmp nat_cmp x.now y.now

-- a name and its value in the map of known names, as an item
abbrev pub pair_of : Slice × Slice → Item
pair_of e = (e.0.now, e.1.now)

-- the items that a map holds, in their order
abbrev pub items_in : {S : Type 0} → IndexMap Slice Slice S → List Item
items_in m = map pair_of m.entries

-- whether a name stands in the map of known names or in the set of the others
abbrev pub is_met : {S : Type 0} → IndexMap Slice Slice S → BTreeSet Slice → Slice → Bool
is_met known others name =
    if is_known name.now then has_name (items_in known) name.now
    else contains slice_order others name

-- what was read of an SDP text, as the grammar says it
abbrev pub description : Sdp → Description
description s = record {
  ports = s.ports.items;
  leg = record {
    payload_type = s.payload_type;
    format = fields_of s.format;
    range = s.range;
    colorimetry = s.colorimetry.items;
  };
}

-- a colorimetry as the reader keeps it, in an array of its own, as its bytes
abbrev pub colours : Option (ArrayVec ℕ) → Option (List ℕ)
colours None = None
colours (Some v) = Some v.items
