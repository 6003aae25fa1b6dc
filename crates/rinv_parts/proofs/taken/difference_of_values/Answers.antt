use Rattle.std.proofs.Common.{inl, inr}
use Rattle.std.specs.Prelude.{◌⊎◌}
use Rattle.std.proofs.lemmas.Result.{err_from_is_err_and}
use Rattle.rinv_algebra.specs.Residue.{residue_ops}
use Rattle.rinv_algebra.specs.Value.{substitute}
use Rattle.rinv_poly.proofs.Meets.{meet-weaker}
use Rattle.rinv_parts.specs.Substitutions.{TakenMeets}
use Rattle.rinv_parts.proofs.Stored.{stored-self}
use Rattle.rinv_parts.proofs.taken.difference_of_values.Goals as goal

pub difference-requires-clause-a : goal.difference-requires-clause-a
difference-requires-clause-a c = (c.in_ok-left.ensures c.args.first.now (stored-self c.args.ring.now.coeffs c.args.ring.now.vars c.args.first.now c.requires.first.normal)).stored.normal

pub difference-requires-clause-b : goal.difference-requires-clause-b
difference-requires-clause-b c = (c.in_ok-right.ensures c.args.second.now (stored-self c.args.ring.now.coeffs c.args.ring.now.vars c.args.second.now c.requires.second.normal)).stored.normal

pub returns-in_err-left : goal.returns-in_err-left
returns-in_err-left c x y h k =
    let p = c.args.ring.now.coeffs in
    let v = c.args.ring.now.vars in
    let f = c.args.f.now in
    let q = err_from_is_err_and c.from_residual.result c.from_residual.ensures.1 in
    rw (q.1, q.2) (meet-weaker (TakenMeets p v x f) (λ m n. TakenMeets p v x f m n ⊎ TakenMeets p v y f m n) (λ m n meet. inl meet) c.in_err-left.field-0.0 (c.in_err-left.ensures x h))

pub returns-in_err-right : goal.returns-in_err-right
returns-in_err-right c x y h k =
    let p = c.args.ring.now.coeffs in
    let v = c.args.ring.now.vars in
    let f = c.args.f.now in
    let q = err_from_is_err_and c.from_residual-in_err-right.result c.from_residual-in_err-right.ensures.1 in
    rw (q.1, q.2) (meet-weaker (TakenMeets p v y f) (λ m n. TakenMeets p v x f m n ⊎ TakenMeets p v y f m n) (λ m n meet. inr meet) c.in_err-right.field-0.0 (c.in_err-right.ensures y k))

pub returns : goal.returns
returns c x y h k =
    let o = residue_ops c.args.ring.now.coeffs in
    let f = c.args.f.now in
    let left = c.in_ok-left.ensures x h in
    let right = c.in_ok-right.ensures y k in
    record { stored = c.in_ok-part.ensures (substitute o x f) (substitute o y f) left.stored right.stored; first_fits = left.fits; second_fits = right.fits }
