-- What the tests of relations ask of their parts.
use Rattle.std.specs.Prelude.{◌≡◌, ℕ, List, [], ◌∷◌, Bool, ◌&&◌, nat_lt}
use Rattle.std.specs.List.{list_all}
use Rattle.std.specs.Ordering.{is_lt}
use Rattle.rinv_algebra.specs.Order.{grevlex}
use Rattle.rinv_algebra.specs.Ring.{IsSame}
use Rattle.rinv_algebra.specs.Residue.{residue_ops}
use Rattle.rinv_algebra.specs.Polynomial.{poly_ops, term_product}
use Rattle.rinv_algebra.specs.Fits.{product_fits}
use Rattle.rinv_defs.specs.System.{System, Poly, group_count, space_count}
use Rattle.rinv_defs.specs.Certificate.{Certificate, RelationItem}
use Rattle.rinv_defs.specs.RelationConditions.{z_power, behind_z, is_tied_to}
use Rattle.rinv_defs.specs.Names.{is_between}
use Rattle.rinv_cert.specs.declared.certificate.Tied.{Tied}
use Rattle.rinv_cert.specs.declared.certificate.Tied.TheVariants.{Constant, Generator}
use Rattle.rinv_form.specs.Forms.{is_stored}
use Rattle.rinv_form.specs.ItemForms.{are_exponents}
use Rattle.rinv_basis_check.specs.declared.rings.RelationRings.{RelationRings}

-- a residue modulo p, or the number of one of so many fractions
abbrev pub is_tied_among : ℕ → ℕ → Tied → Bool
is_tied_among p count (Constant v) = nat_lt v p
is_tied_among p count (Generator k) = is_between 1 count k

-- the rings of a system's relations
pub record AreRingsOf (s : System) (r : RelationRings) : Type 0 where
  pub field : r.graph.coeffs ≡ s.p
  pub group : r.group ≡ group_count s
  pub space : r.space.vars ≡ space_count s

-- whether Z to these exponents times a polynomial in the space's variables fits
abbrev pub power_fits : System → List ℕ → Poly → Bool
power_fits s a f = product_fits (residue_ops s.p) (z_power s a ∷ []) (behind_z s f)

-- the second polynomial is this product
abbrev pub IsPowerMultiple : System → List ℕ → Poly → Poly → Type 0
IsPowerMultiple s a f g = IsSame (poly_ops (residue_ops s.p)) g (term_product (residue_ops s.p) (z_power s a) (behind_z s f))

-- the products of a relation fit
abbrev pub relation_fits : System → RelationItem → Bool
relation_fits s r =
    product_fits (residue_ops s.p) (z_power s r.a ∷ []) (behind_z s r.d)
    && list_all (λ t. product_fits (residue_ops s.p) (z_power s t.alpha ∷ []) (behind_z s t.c)) r.tail

-- exponents within the limit, and polynomials in the space's variables
abbrev pub is_relation_in : RelationRings → List ℕ × Poly × List (List ℕ × Poly × Tied) × List Poly → Bool
is_relation_in r x =
    are_exponents r.space.vars x.0 && is_stored r.space.coeffs r.space.vars x.1
    && list_all (λ t. are_exponents r.space.vars t.0 && is_stored r.space.coeffs r.space.vars t.1) x.2

-- each term of the tail is below the lead, and its coefficient is what it is tied to
abbrev pub tails_are : Certificate → RelationItem → Bool
tails_are c r = list_all (λ t. is_lt (grevlex t.alpha r.a) && is_tied_to c r.d t.c t.tied) r.tail
