use Rattle.std.proofs.Common.{ℕ, ◌∙◌, sym, subst, nat_lt, All, arith}
use Rattle.rinv_algebra.specs.Residue.{residue_ops}
use Rattle.rinv_algebra.specs.Normal.{IsNormal}
use Rattle.rinv_poly.specs.Terms.{IsTerm}
use Rattle.rinv_poly.proofs.Forms.{ordered-from_normal, plain}
use Rattle.rinv_laws.proofs.LawsModulo.{values-none, values-more, values-all}
use Rattle.rinv_laws.proofs.quickly.values_at.Goals as goal

pub tables_modulo-requires-clause-many : goal.tables_modulo-requires-clause-many
tables_modulo-requires-clause-many c = rw c.deref.ensures.value (c.in_ok-greatest.ensures ∙ sym c.requires.point.many)

pub tables_modulo-requires-clause-divisors : goal.tables_modulo-requires-clause-divisors
tables_modulo-requires-clause-divisors c = rw c.deref-2.ensures.value c.requires.divisors

pub polynomials-init : goal.polynomials-init
polynomials-init c = rw c.new-values.ensures.items (values-none c.args.ring.now.coeffs c.args.ring.now.vars c.args.basis.now.polys.items c.args.point.now c.args.fs.now)

pub value_modulo-requires-clause-terms : goal.value_modulo-requires-clause-terms
value_modulo-requires-clause-terms c =
    let p = c.args.ring.now.coeffs in
    let f = c.index-fs-k.result in
    let normal : IsNormal (residue_ops p) (λ c. nat_lt c p) c.args.vars f = subst (IsNormal (residue_ops p) (λ c. nat_lt c p) c.args.vars) (sym c.index-fs-k.is) (c.requires.polynomials c.polynomials.k f c.polynomials-test.true) in
    rw c.terms.ensures.value (subst (λ (n : ℕ). All (IsTerm (λ c. nat_lt c p) n) f) (sym c.requires.point.many) (plain (residue_ops p) (λ c. nat_lt c p) c.args.vars f (ordered-from_normal (residue_ops p) (λ c. nat_lt c p) c.args.vars f normal)))

pub value_modulo-requires-clause-tables : goal.value_modulo-requires-clause-tables
value_modulo-requires-clause-tables c = rw (c.deref-in-polynomials.ensures.value, c.deref-in-polynomials-2.ensures.value) (rw c.deref-2.ensures.value at c.in_ok-tables.ensures)

pub value_modulo-requires-clause-divisors : goal.value_modulo-requires-clause-divisors
value_modulo-requires-clause-divisors c = rw c.deref-in-polynomials-2.ensures.value c.requires.divisors

pub polynomials-preserved : goal.polynomials-preserved
polynomials-preserved c =
    rw c.in_ok-push.ensures.items (values-more c.args.ring.now.coeffs c.args.ring.now.vars c.args.basis.now.polys.items c.args.point.now c.args.fs.now c.polynomials.k c.polynomials.values.items c.index-fs-k.result c.in_ok-value.value
    c.polynomials-test.true c.index-fs-k.is c.polynomials.invariant (rw (c.deref-in-polynomials-2.ensures.value, c.terms.ensures.value) at c.in_ok-value.ensures))

pub returns : goal.returns
returns c =
    values-all c.args.ring.now.coeffs c.args.ring.now.vars c.args.basis.now.polys.items c.args.point.now c.args.fs.now c.polynomials.k c.polynomials.values.items
    (omega (arith, c.polynomials-test.false, c.polynomials.auto.k-end)) c.polynomials.invariant
