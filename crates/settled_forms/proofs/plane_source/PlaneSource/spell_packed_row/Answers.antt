use Rattle.std.proofs.Common.{◌≡◌, ◌*◌, ◌/◌, ℕ, List, length, arith}
use Rattle.st_format.specs.declared.format.Format.{Format}
use Rattle.st_format.specs.Position.{row_groups}
use Rattle.settled_forms.specs.Pieces.{group_share}
use Rattle.settled_forms.proofs.Rows.{room_of_ten, row_of_ten, row_settled, size_of_ten}
use Rattle.settled_forms.proofs.plane_source.PlaneSource.spell_packed_row.Goals as goal

pub spell_packed-requires-clause-room : goal.spell_packed-requires-clause-room
spell_packed-requires-clause-room g c =
    let f : Format = c.args.self.now.frame.now.format in
    omega (
      arith,
      size_of_ten f c.args.component (length c.args.octets.now) c.requires.depth
          c.requires.octets,
    )

pub spell_packed-requires-clause-inside : goal.spell_packed-requires-clause-inside
spell_packed-requires-clause-inside g c =
    let f : Format = c.args.self.now.frame.now.format in
    room_of_ten f c.args.component (length c.args.octets.now / 2) c.packed_row.result.now
    c.requires.sampling c.requires.depth c.packed_row.ensures.long
    (omega (
      arith,
      size_of_ten f c.args.component (length c.args.octets.now) c.requires.depth
          c.requires.octets,
    ))

pub returns : goal.returns
returns g c =
    let f : Format = c.args.self.now.frame.now.format in
    let packed : List ℕ = c.packed_row.result.now in
    let count : length c.args.octets.now / 2 ≡ group_share f c.args.component * row_groups f =
    omega (
      arith,
      size_of_ten f c.args.component (length c.args.octets.now) c.requires.depth
          c.requires.octets,
    ) in
    row_of_ten c.args.self.now.frame.now c.args.self.now.base c.args.component c.args.row
    (length c.args.octets.now / 2) packed c.spell_packed.new.octets c.spell_packed.ensures
    c.requires.sampling c.requires.depth c.requires.component count
    (row_settled c.args.self.now.frame.now c.args.self.now.base c.args.row packed c.requires.base
    c.facts.ensures.whole c.requires.row c.packed_row.ensures.spelled c.requires.values)
