-- Which values datagrams carry to a sample, and what a sample has where none carries any.
use Rattle.std.proofs.Common.{◌≡◌, ◌∙◌, ℕ, List, refl, ap, eq-eqb, subst, true}
use Rattle.std.specs.List.{flat_map, filter}
use Rattle.st_format.specs.declared.cell.Cell.{Cell}
use Rattle.st_format.specs.declared.cell.Cell.TheVariants.{Missing, Value, Contested}
use Rattle.st_format.specs.Cell.{IsCellOf}
use Rattle.st_format.specs.Member.{IsMember}
use Rattle.st_format.specs.Offer.{Offer, is_for, values_for}
use Rattle.st_format.specs.Position.{Position, same_place}
use Rattle.st_format.proofs.Cells.{is_for-true}
use Rattle.st_format.proofs.Members.{member-map, member_of_map, member-filter, member_of_filter}
use Rattle.st_format.proofs.Members.{member-flat_map, member_of_flat_map}
use Rattle.path_receiver.specs.Offers.{offers, Carries}
use Rattle.path_receiver.specs.Opening.{Opening}

same_place_here : (p : Position) → same_place p p ≡ true
same_place_here p =
    rw (
      eq-eqb p.row p.row refl,
      eq-eqb p.column p.column refl,
      eq-eqb p.component p.component refl,
    ) refl

for_here : (ts : ℕ) (at : Position) (v : ℕ)
    → is_for ts at (record { timestamp = ts; position = at; value = v }) ≡ true
for_here ts at v = rw (eq-eqb ts ts refl, same_place_here at) refl

pub offered_here : (o : Opening) (xs : List (List ℕ)) (ts : ℕ) (at : Position) (octets : List ℕ)
    (c : Carries octets o ts at) → IsMember octets xs
    → IsMember c.value (values_for (flat_map (offers o) xs) ts at)
offered_here o xs ts at octets c m =
    let x : Offer = record { timestamp = ts; position = at; value = c.value } in
    let os : List Offer = flat_map (offers o) xs in
    member_of_map (λ (y : Offer). y.value) x (filter (is_for ts at) os)
    (member_of_filter (is_for ts at) x os (for_here ts at c.value)
    (member_of_flat_map (offers o) octets x xs m c.offered))

abbrev offer : ℕ → Position → ℕ → Offer
offer t p v = record { timestamp = t; position = p; value = v }

pub carried_by : (o : Opening) (xs : List (List ℕ)) (ts : ℕ) (at : Position) (v : ℕ)
    → IsMember v (values_for (flat_map (offers o) xs) ts at)
    → (octets : List ℕ) × IsMember octets xs × Carries octets o ts at
carried_by o xs ts at v m =
    let os : List Offer = flat_map (offers o) xs in
    let x = member-map (λ (y : Offer). y.value) v (filter (is_for ts at) os) m in
    let f = member-filter (is_for ts at) x.0 os x.1 in
    let d = member-flat_map (offers o) x.0 xs f.0 in
    let is = is_for-true ts at x.0 f.1 in (
      d.0,
      d.1,
      record {
        value = x.0.value;
        offered =
            subst (λ (y : Offer). IsMember y (offers o d.0)) (rebuilt x.0 is.0 is.1) d.2;
      },
    )
  where
    rebuilt : (x : Offer) → x.timestamp ≡ ts → x.position ≡ at
        → x ≡ record { timestamp = ts; position = at; value = x.value }
    rebuilt x e f =
        ap (λ (t : ℕ). offer t x.position x.value) e ∙ ap (λ (p : Position). offer ts p x.value) f

pub none_carried : (vs : List ℕ) (c : Cell) → IsCellOf vs c → ((v : ℕ) → IsMember v vs → ⊥)
    → c ≡ Missing
none_carried vs Missing is none = refl
none_carried vs (Value v) is none = absurd (none v is.0)
none_carried vs Contested is none = absurd (none is.0 is.2)
