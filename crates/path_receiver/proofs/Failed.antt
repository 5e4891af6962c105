-- What a `?` returns where it fails.
use Rattle.std.proofs.Common.{◌≡◌, Result, Ok, Err, ap, sym, subst}
use Rattle.std.specs.Prelude.{IfOk, OnErr}

pub none_ok : {T E : Type 0} (r : Result T E) (e : E) (P : T → Type 0) → r ≡ Err e → IfOk r P
none_ok r e P is = subst (λ q. IfOk q P) (sym is) tt

pub err_known : {T E : Type 0} (r : Result T E) (e f : E) → r ≡ Err e → e ≡ f
    → OnErr r (r ≡ Err f)
err_known r e f is same = subst (λ q. OnErr q (q ≡ Err f)) (sym is) (ap (λ x. Err x) same)

pub ok_not_err : {T E : Type 0} (x : T) (e : E) → Ok x ≡ Err e → ⊥
ok_not_err x e same = absurd cc
