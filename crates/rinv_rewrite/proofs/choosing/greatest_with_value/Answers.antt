use Rattle.std.proofs.Common.{◌≡◌, ◌<◌, ◌≤◌, ℕ, true, List, [], get_or, length, sym, ap, ◌∙◌, subst, arith}
use Rattle.std.proofs.lemmas.List.{get_or_default}
use Rattle.std.proofs.lemmas.Result.{err_from_is_err_and}
use Rattle.rinv_algebra.specs.Residue.{residue_ops}
use Rattle.rinv_algebra.specs.Polynomial.{Term, poly_ops, has_monomial}
use Rattle.rinv_algebra.proofs.PolynomialLaws.{poly_laws}
use Rattle.rinv_algebra.proofs.ResidueLaws.{residue_laws}
use Rattle.rinv_poly.proofs.Forms.{ordered-from_normal}
use Rattle.rinv_poly.proofs.Meets.{meet-weaker}
use Rattle.rinv_poly.proofs.NormalFacts.{has-term}
use Rattle.rinv_defs.specs.System.{Poly}
use Rattle.rinv_soundness.specs.Rewriting.{SymbolPoly}
use Rattle.rinv_rewrite.specs.Needed.{ValueMeetsAt, RestMeets}
use Rattle.rinv_rewrite.specs.Symbols.{IsSymbolPart, is_symbolic}
use Rattle.rinv_rewrite.specs.Taken.{IsGreatestWithValue}
use Rattle.rinv_rewrite.proofs.DownMonomials.{greatest-at, in-rest, none-left, not_below, passed-more}
use Rattle.rinv_rewrite.proofs.choosing.greatest_with_value.Goals as goal

-- a place read with any default
placed : (ms : List (List ℕ)) (k : ℕ) (m : List ℕ) → k < length ms → m ≡ get_or ms k m → (d : List ℕ) → get_or ms k d ≡ m
placed ms k m inside is d = get_or_default ms k d m inside ∙ sym is

-- a monomial of the terms of a stored rest
record IsOne (p k n : ℕ) (rest : SymbolPoly) (m : List ℕ) : Type 0 where
  long : length m ≡ n
  has : has_monomial (poly_ops (residue_ops p)) rest m ≡ true

one : (p k n : ℕ) (rest : SymbolPoly) → IsSymbolPart p k n rest → (m : List ℕ) → (i : ℕ) × (i < length rest) × ((d : Term Poly) → (get_or rest i d).0 ≡ m) → IsOne p k n rest m
one p k n rest normal m (i, b, at) =
    let d : Term Poly = (m, []) in
    let o = poly_ops (residue_ops p) in
    let form = ordered-from_normal o (is_symbolic p k) n rest normal in
    record {
      long = ap length (sym (at d)) ∙ (form.terms i d b).vars;
      has = subst (λ (e : List ℕ). has_monomial o rest e ≡ true) (at d) (has-term o (poly_laws (residue_ops p) (residue_laws p)) (is_symbolic p k) n rest form (get_or rest i d) (i, b, get_or_default rest i (get_or rest i d) d b));
    }

pub places-init : goal.places-init
places-init c = λ i d low. absurd (omega (arith, low))

pub has_value_at-requires-clause-vars : goal.has_value_at-requires-clause-vars
has_value_at-requires-clause-vars c =
    let p = c.args.ring.now.coeffs.coeffs in
    let m = c.index-mono.result.now in
    let ms = c.in_ok-monomials.monomials.items in
    let inside : c.places.k < length ms = omega (arith, c.places-test.true, c.len-k-end.ensures) in
    (one p c.args.ring.now.coeffs.vars c.args.ring.now.vars c.args.rest.now c.requires.rest m (in-rest p c.args.fractions.now c.args.rest.now ms c.in_ok-monomials.ensures c.places.k m inside (placed ms c.places.k m inside c.index-mono.ensures))).long

pub has_value_at-requires-clause-has : goal.has_value_at-requires-clause-has
has_value_at-requires-clause-has c =
    let p = c.args.ring.now.coeffs.coeffs in
    let m = c.index-mono.result.now in
    let ms = c.in_ok-monomials.monomials.items in
    let inside : c.places.k < length ms = omega (arith, c.places-test.true, c.len-k-end.ensures) in
    (one p c.args.ring.now.coeffs.vars c.args.ring.now.vars c.args.rest.now c.requires.rest m (in-rest p c.args.fractions.now c.args.rest.now ms c.in_ok-monomials.ensures c.places.k m inside (placed ms c.places.k m inside c.index-mono.ensures))).has

pub returns-in_err-has_value-clause-degree : goal.returns-in_err-has_value-clause-degree
returns-in_err-has_value-clause-degree c =
    let p = c.args.ring.now.coeffs.coeffs in
    let m = c.index-mono.result.now in
    let ms = c.in_ok-monomials.monomials.items in
    let inside : c.places.k < length ms = omega (arith, c.places-test.true, c.len-k-end.ensures) in
    let q = err_from_is_err_and c.from_residual-in_err-has_value.result c.from_residual-in_err-has_value.ensures.1 in
    rw (q.1, q.2) (meet-weaker (ValueMeetsAt p c.args.fractions.now c.args.rest.now m) (RestMeets p c.args.fractions.now c.args.rest.now)
    (λ x y h. record { monomial = m; down_to = not_below p c.args.fractions.now c.args.rest.now ms c.in_ok-monomials.ensures c.places.k m inside (placed ms c.places.k m inside c.index-mono.ensures) c.places.invariant; meets = h })
    c.in_err-has_value.field-0.0 c.in_err-has_value.ensures.degree)

pub places-preserved : goal.places-preserved
places-preserved c =
    let m = c.index-mono.result.now in
    let ms = c.in_ok-monomials.monomials.items in
    let inside : c.places.k < length ms = omega (arith, c.places-test.true, c.len-k-end.ensures) in
    passed-more c.args.ring.now.coeffs.coeffs c.args.fractions.now c.args.rest.now ms c.places.k m (placed ms c.places.k m inside c.index-mono.ensures) c.places.invariant (c.in_ok-has_value.ensures.no c.if-has_value.false)

pub returns-then-has_value-clause-vars : goal.returns-then-has_value-clause-vars
returns-then-has_value-clause-vars c =
    let p = c.args.ring.now.coeffs.coeffs in
    let m = c.index-mono.result.now in
    let ms = c.in_ok-monomials.monomials.items in
    let inside : c.places.k < length ms = omega (arith, c.places-test.true, c.len-k-end.ensures) in
    ap length c.in_ok-copy.ensures ∙ (one p c.args.ring.now.coeffs.vars c.args.ring.now.vars c.args.rest.now c.requires.rest m (in-rest p c.args.fractions.now c.args.rest.now ms c.in_ok-monomials.ensures c.places.k m inside (placed ms c.places.k m inside c.index-mono.ensures))).long

pub returns-then-has_value-clause-exact : goal.returns-then-has_value-clause-exact
returns-then-has_value-clause-exact c =
    let p = c.args.ring.now.coeffs.coeffs in
    let m = c.index-mono.result.now in
    let ms = c.in_ok-monomials.monomials.items in
    let inside : c.places.k < length ms = omega (arith, c.places-test.true, c.len-k-end.ensures) in
    subst (IsGreatestWithValue p c.args.fractions.now c.args.rest.now) (sym c.in_ok-copy.ensures)
    (greatest-at p c.args.fractions.now c.args.rest.now ms c.in_ok-monomials.ensures c.places.k m inside (placed ms c.places.k m inside c.index-mono.ensures) c.places.invariant (c.in_ok-has_value.ensures.yes c.if-has_value.true))

pub returns-clause-exact : goal.returns-clause-exact
returns-clause-exact c =
    let ms = c.in_ok-monomials.monomials.items in
    none-left c.args.ring.now.coeffs.coeffs c.args.fractions.now c.args.rest.now ms c.in_ok-monomials.ensures c.places.k (omega (arith, c.places-test.false, c.len-k-end.ensures)) c.places.invariant
