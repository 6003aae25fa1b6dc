use Rattle.std.proofs.Common.{◌≡◌, ◌<◌, ◌≤◌, ℕ, get_or, length, map, sym, subst, nat_lt, IsTrue}
use Rattle.std.proofs.lemmas.List.{take_all}
use Rattle.rinv_algebra.specs.Residue.{residue_ops}
use Rattle.rinv_algebra.specs.Polynomial.{Term, constant, poly_ops}
use Rattle.rinv_algebra.proofs.PolynomialLaws.{poly_laws}
use Rattle.rinv_algebra.proofs.ResidueLaws.{residue_laws}
use Rattle.rinv_poly.specs.Faults.{AreWorkedOut}
use Rattle.rinv_poly.proofs.Forms.{ordered-from_normal}
use Rattle.rinv_defs.specs.System.{Poly}
use Rattle.rinv_rewrite.specs.Symbols.{is_symbolic}
use Rattle.rinv_rewrite.proofs.WorkedTerms.{worked-next}
use Rattle.rinv_rewrite.proofs.symbols.terms_in_z.Goals as goal

-- a term put in Z
abbrev put : ℕ → Term ℕ → Term Poly
put p t = (t.0, constant (residue_ops p) t.1)

pub places-init : goal.places-init
places-init c = rw c.in_ok-out.ensures.items tt

pub constant-requires : goal.constant-requires
constant-requires c =
    let p = c.args.ring.now.coeffs.coeffs in
    let x = c.index-terms-k.result in
    let is : x ≡ get_or c.args.f.now c.places.k x = subst (λ (ts : Poly). x ≡ get_or ts c.places.k x) c.terms-terms.ensures.value c.index-terms-k.is in
    let few : c.places.k < length c.args.f.now = subst (λ (ts : Poly). c.places.k < length ts) c.terms-terms.ensures.value c.places-test.true in
    rw c.coeffs.ensures (subst (λ (t : Term ℕ). IsTrue (nat_lt t.1 p)) (sym is) ((ordered-from_normal (residue_ops p) (λ n. nat_lt n p) c.args.ring.now.vars c.args.f.now c.requires).terms c.places.k x few).coefficient)

pub places-preserved : goal.places-preserved
places-preserved c =
    let p = c.args.ring.now.coeffs.coeffs in
    let x = c.index-terms-k.result in
    let is : x ≡ get_or c.args.f.now c.places.k x = subst (λ (ts : Poly). x ≡ get_or ts c.places.k x) c.terms-terms.ensures.value c.index-terms-k.is in
    let few : c.places.k < length c.args.f.now = subst (λ (ts : Poly). c.places.k < length ts) c.terms-terms.ensures.value c.places-test.true in
    let made = rw c.coeffs.ensures at c.in_ok-coefficient.ensures in
    rw c.in_ok-push.ensures.items (worked-next (poly_ops (residue_ops p)) (poly_laws (residue_ops p) (residue_laws p)) (is_symbolic p c.args.ring.now.coeffs.vars) (put p) c.args.f.now c.places.k x c.places.out.items c.in_ok-mono.mono c.in_ok-coefficient.coefficient
    few is c.in_ok-mono.ensures made.element made.value c.places.invariant)

pub returns : goal.returns
returns c =
    let p = c.args.ring.now.coeffs.coeffs in
    let whole : length c.args.f.now ≤ c.places.k = subst (λ (ts : Poly). length ts ≤ c.places.k) c.terms-terms.ensures.value c.places-test.false in
    subst (λ (xs : Poly). AreWorkedOut (poly_ops (residue_ops p)) (is_symbolic p c.args.ring.now.coeffs.vars) (map (put p) xs) c.places.out.items) (take_all c.places.k c.args.f.now whole) c.places.invariant
