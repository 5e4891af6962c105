use Rattle.std.proofs.Common.{◌≡◌, ℕ, ◌<◌, Bool, true, false, eqb, List, [], ◌∷◌, length}
use Rattle.std.proofs.Common.{None, Some, refl, sym, ap, ◌∙◌, arith, vec_len}
use Rattle.std.specs.Prelude.{slice_get}
use Rattle.std.proofs.lemmas.Bool.{eqb-false, eqb-true}
use Rattle.st_format.specs.Raster.{Raster}
use Rattle.path_receiver.proofs.Windows.{get_some}
use Rattle.following.specs.Follower.{Following}
use Rattle.following.specs.Turned.{first_complete, is_complete}
use Rattle.following.proofs.Turning.{complete_none, complete_some}
use Rattle.following.proofs.follower.Follower.is_first_complete.Goals as goal

none_in : (n : ℕ) (rs : List Raster) → n ≡ length rs → eqb n 0 ≡ true → slice_get rs 0 ≡ None
none_in n [] same e = refl
none_in n (r ∷ rs) same e = let none : n ≡ 0 = eqb-true n 0 e in absurd (omega (arith, none, same))

less : (n m : ℕ) → n ≡ m → (n ≡ 0 → ⊥) → 0 < m
less n m same ne = omega (arith, same, ne)

some_in : (n : ℕ) (rs : List Raster) → n ≡ length rs → eqb n 0 ≡ false → 0 < length rs
some_in n rs same e = less n (length rs) same (eqb-false n 0 e)

true_not : true ≡ false → ⊥
true_not e = cc

not_complete : (b : Bool) → (b ≡ true → ⊥) → b ≡ false
not_complete true h = absurd (h refl)
not_complete false h = refl

pub returns-then-is_empty-clause-complete : goal.returns-then-is_empty-clause-complete
returns-then-is_empty-clause-complete g c =
    let i = c.self.inside in
    sym (complete_none i.frames.items
    (none_in (vec_len i.frames) i.frames.items (omega (arith, i.frames.ok.0))
    (sym c.is_empty.ensures ∙ c.if-is_empty.true)))
    ∙ ap (λ (s : Following). first_complete s.frames) c.self.view_is

pub returns-in-None-clause-complete : goal.returns-in-None-clause-complete
returns-in-None-clause-complete g c =
    let rs : List Raster = c.self.inside.frames.items in
    let lt : 0 < length rs = some_in (vec_len c.self.inside.frames) rs
    (omega (arith, c.self.inside.frames.ok.0)) (sym c.is_empty.ensures ∙ c.if-is_empty.false) in
    let some : slice_get rs 0 ≡ Some c.index.result.now =
    get_some 0 rs c.index.result.now lt ∙ ap (λ (r : Raster). Some r) (sym c.index.ensures) in
    sym (complete_some rs c.index.result.now some ∙ c.in-None.ensures.0 refl)
    ∙ ap (λ (s : Following). first_complete s.frames) c.self.view_is

pub returns-in-Some-clause-complete : goal.returns-in-Some-clause-complete
returns-in-Some-clause-complete g c =
    let rs : List Raster = c.self.inside.frames.items in
    let lt : 0 < length rs = some_in (vec_len c.self.inside.frames) rs
    (omega (arith, c.self.inside.frames.ok.0)) (sym c.is_empty.ensures ∙ c.if-is_empty.false) in
    let some : slice_get rs 0 ≡ Some c.index.result.now =
    get_some 0 rs c.index.result.now lt ∙ ap (λ (r : Raster). Some r) (sym c.index.ensures) in
    sym (complete_some rs c.index.result.now some
    ∙ not_complete (is_complete c.index.result.now) (λ e. true_not (c.in-Some.ensures.1 e)))
    ∙ ap (λ (s : Following). first_complete s.frames) c.self.view_is
