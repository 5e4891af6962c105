use Rattle.std.proofs.Common.{◌≡◌, ◌+◌, ◌*◌, ◌≤◌, ◌++◌, ◌∙◌, ℕ, List, length, take, Option}
use Rattle.std.proofs.Common.{ap, arith, refl, sym, subst}
use Rattle.std.proofs.lemmas.List.{length-take-le, take-take}
use Rattle.std.specs.Io.KnownBytes.{Consumes}
use Rattle.st_format.specs.declared.cell.Cell.{Cell}
use Rattle.st_format.specs.declared.format.Format.{Format}
use Rattle.st_format.proofs.Octets.{AreOctets-take}
use Rattle.frame_assembly.specs.Rows.{replaced_cells}
use Rattle.media_file.proofs.Once.{shape_is}
use Rattle.receiver_file.specs.Known.{shape_in}
use Rattle.receiver_file.specs.Taking.{AreGroups, Gained}
use Rattle.receiver_file.proofs.TakenGroups.{gained_none, gained_replaced, start_inside}
use Rattle.receiver_file.proofs.WholeRuns.{valued_cells, valued_long}
use Rattle.receiver_file.proofs.taking.take_whole.Goals as goal

pub returns-then-count-eq0-clause-gained : goal.returns-then-count-eq0-clause-gained
returns-then-count-eq0-clause-gained g c =
    gained_none (shape_in c.args.format.now) c.args.first _ _ c.args.frame.now.cells

pub returns-then-not-pass-clause-gained : goal.returns-then-not-pass-clause-gained
returns-then-not-pass-clause-gained g c =
    let s = shape_in c.args.format.now in
    let cells : List Cell = c.args.frame.now.cells in
    let a : List ℕ = g.S.ByteSource.gave c.args.source.now in
    let o : Option (List ℕ) = g.S.ByteSource.to_give c.args.source.now in
    subst (λ (b : List ℕ). Gained s c.args.first 0 a b o
    (g.S.ByteSource.to_give c.pass.new.self) cells cells)
    (sym (c.if-not-pass.ensures.none refl))
    (subst (λ (left : Option (List ℕ)). Gained s c.args.first 0 a a o left cells cells)
    (sym (c.if-not-pass.ensures.kept refl))
    (gained_none s c.args.first a o cells))

pub returns-clause-gained : goal.returns-clause-gained
returns-clause-gained g c =
    let f : Format = c.args.format.now in
    let s = shape_in f in
    let first : ℕ = c.args.first in
    let octets : List ℕ = c.lent-octets.result.now in
    let hand : List ℕ = g.S.ByteSource.at_hand c.args.source.now in
    let old : List Cell = c.args.frame.now.cells in
    let new : List Cell = c.set_groups.new.self.cells in
    let size : ℕ = c.pgroup-size.result.octets in
    let n : ℕ = c.pack_run-count.result in
    let same : s.octets ≡ size = sym c.pgroup-size.ensures.octets in
    let p : List ℕ = take (size * n) c.pack_run-count.new.packed in
    let x : List ℕ = take ((1 + size) * n) octets in
    let wide : (1 + size) * n ≡ n + size * n = omega arith in
    let within : (1 + size) * n ≤ length octets =
    subst (λ (k : ℕ). (1 + k) * n ≤ length octets) same c.pack_run-count.ensures.within in
    let fits : size * n ≤ length c.pack_run-count.new.packed =
    omega (
      arith,
      within,
      wide,
      c.pack_run-count.ensures.room,
      c.requires.room,
      c.lent-octets.ensures.few,
    ) in
    let long : length p ≡ s.octets * n =
    length-take-le (size * n) c.pack_run-count.new.packed fits
    ∙ ap (λ (k : ℕ). k * n) (sym same) in
    let groups : AreGroups s n x (valued_cells s p) =
    subst (λ (k : ℕ). AreGroups s n (take ((1 + k) * n) octets)
    (valued_cells s (take (k * n) c.pack_run-count.new.packed))) same
    c.pack_run-count.ensures.groups in
    let cells : new ≡ replaced_cells (s.samples * first) (valued_cells s p) old =
    subst (λ (h : Format). new
    ≡ replaced_cells ((shape_in h).samples * first) (valued_cells (shape_in h) p) old)
    c.requires.format c.set_groups.ensures.cells in
    let passed : take ((1 + size) * n) hand ≡ x =
    sym (ap (take ((1 + size) * n)) c.lent-octets.ensures.held
    ∙ take-take ((1 + size) * n) (length octets) hand within) in
    gained_replaced s first n x _ _ _ _ (valued_cells s p) old new
    (c.if-not-pass.ensures.gave refl
    ∙ ap (λ (t : List ℕ). g.S.ByteSource.gave c.args.source.now ++ t) passed)
    (subst (Consumes (g.S.ByteSource.to_give c.args.source.now)
    (g.S.ByteSource.to_give c.pass.new.self)) passed (c.if-not-pass.ensures.given refl))
    (AreOctets-take ((1 + size) * n) octets c.lent-octets.ensures.octets) groups
    (valued_long s n p (shape_is f.sampling f.depth) long)
    (start_inside c.args.frame.now f first c.facts.ensures.whole c.requires.format
    (omega (arith, c.requires.first, c.requires.groups))) cells

pub returns-then-octets-size-clause-gained : goal.returns-then-octets-size-clause-gained
returns-then-octets-size-clause-gained g c =
    gained_none (shape_in c.args.format.now) c.args.first _ _ c.args.frame.now.cells
