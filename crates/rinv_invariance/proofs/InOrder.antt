-- Two reduced bases of one extended ideal whose leads ascend are the same, place by place.
--   basis_in_order       the fact
use Rattle.std.proofs.Common.{◌≡◌, ℕ, suc, ◌<◌, List, [], ◌∷◌, length, map, get_or, sym, ◌∙◌, ap, ap₂, subst, arith}
use Rattle.std.specs.List.{AllZip}
use Rattle.std.proofs.lemmas.List.{length-map, get_or-map}
use mathlib.Core.HLevel.{Σ_set}
use Rattle.rinv_algebra.specs.Order.{grevlex}
use Rattle.rinv_algebra.specs.Polynomial.{poly_ops}
use Rattle.rinv_algebra.proofs.Grevlex.{grevlex_laws, grevlex_ties}
use Rattle.rinv_algebra.proofs.PolynomialLaws.{poly_laws}
use Rattle.rinv_theory.proofs.Classes.{Class, class_exact}
use Rattle.rinv_theory.proofs.Monoid.{Monomial, monomial, monomials, monomial_exact}
use Rattle.rinv_theory.proofs.Leads.{MonomialOrder}
use Rattle.rinv_theory.proofs.Fields.{fraction_laws}
use Rattle.rinv_theory.proofs.Variables.{IsFront}
use Rattle.rinv_groebner.specs.Orders.{OrdersMonomials}
use Rattle.rinv_groebner.proofs.Ascending.{Has, has_at, place_of, Bounds, Ascends, ascending-equal}
use Rattle.rinv_groebner.proofs.Compared.{all_monomials, less_below}
use Rattle.rinv_soundness.proofs.ExtendedIdeals.{ops, laws, field}
use Rattle.rinv_defs.specs.System.{System, space_count}
use Rattle.rinv_defs.specs.Generators.{rational_ops}
use Rattle.rinv_defs.specs.Extended.{Relation, IsReducedBasis}
use Rattle.rinv_invariance.specs.Twins.{AreAscending, IsTwin}
use Rattle.rinv_invariance.proofs.RelationClasses.{over_terms, tail_class}
use Rattle.rinv_invariance.proofs.SameBases.{none, lead-front, matched, equal_tails}

module _ (s : System) where
  abbrev Key : Type 0
  Key = Monomial × Class (poly_ops (rational_ops s.p))

  abbrev key : Relation → Key
  key r = (monomial r.lead, tail_class s r)

  in_order : OrdersMonomials grevlex (space_count s)
  in_order = record { laws = grevlex_laws; ties = λ a b i j e. grevlex_ties a b (i ∙ sym j) e }

  abbrev order : MonomialOrder monomials
  order = all_monomials grevlex (space_count s) in_order

  abbrev IsLess : Key → Key → Type 0
  IsLess x y = order.below x.0 y.0

  bounds : (x : Key) (ys : List Relation) → ((k : ℕ) → k < length ys → IsLess x (key (get_or ys k none))) → Bounds IsLess x (map key ys)
  bounds x [] h = Bounds.no_more
  bounds x (y ∷ ys) h = Bounds.and (h 0 (omega arith)) (bounds x ys (λ k low. h (suc k) (omega (arith, low))))

  ascends : (xs : List Relation) → ((k : ℕ) → k < length xs → IsFront (space_count s) (monomial (get_or xs k none).lead)) → AreAscending xs → Ascends IsLess (map key xs)
  ascends [] f h = Ascends.empty
  ascends (x ∷ xs) f h = Ascends.begin
      (bounds (key x) xs (λ k low. less_below grevlex (space_count s) in_order x.lead (get_or xs k none).lead (f 0 (omega arith)) (f (suc k) (omega (arith, low))) (h 0 (suc k) none (omega arith) (omega (arith, low)))))
      (ascends xs (λ k low. f (suc k) (omega (arith, low))) (λ i j d p q. h (suc i) (suc j) d (omega (arith, p)) (omega (arith, q))))

  key_set : IsSet Key
  key_set = Σ_set monomials.is_set (λ m. (over_terms s).ring.is_set)

  zipped : (rs qs : List Relation) → map key rs ≡ map key qs → AllZip (IsTwin s) rs qs
  zipped [] [] e = tt
  zipped [] (q ∷ qs) e = absurd (let n : 0 ≡ suc (length (map key qs)) = ap length e in omega (arith, n))
  zipped (r ∷ rs) [] e = absurd (let n : suc (length (map key rs)) ≡ 0 = ap length e in omega (arith, n))
  zipped (r ∷ rs) (q ∷ qs) e = (twin (ap (first (key r)) e), zipped rs qs (ap rest e))
    where
      first : Key → List Key → Key
      first d [] = d
      first d (x ∷ xs) = x

      rest : List Key → List Key
      rest [] = []
      rest (x ∷ xs) = xs

      twin : key r ≡ key q → IsTwin s r q
      twin e = (monomial_exact r.lead q.lead (ap (λ x. x.0) e), class_exact (poly_ops (rational_ops s.p)) (poly_laws (rational_ops s.p) (fraction_laws (ops s) (laws s) (field s))) r.tail q.tail (ap (λ x. x.1) e))

  within : (rs qs : List Relation) → IsReducedBasis s rs → IsReducedBasis s qs → (z : Key) → Has z (map key rs) → ∥ Has z (map key qs) ∥₁
  within rs qs basis other z h =
      let (k, low, e) = place_of (key none) (map key rs) h in
      let inside : k < length rs = omega (arith, low, length-map rs key) in
      let (j, far, same) = matched s rs qs basis other k inside in
      let there : j < length (map key qs) = omega (arith, far, length-map qs key) in
      ∣ subst (λ x. Has x (map key qs)) (get_or-map key qs j none (key none) far ∙ ap₂ (λ m t. (m, t)) same (sym (equal_tails s rs qs basis other k j inside far same)) ∙ sym (get_or-map key rs k none (key none) inside) ∙ e) (has_at (key none) (map key qs) j there) ∣₁

  -- two such bases are the same, place by place
  pub basis_in_order : (rs qs : List Relation) → IsReducedBasis s rs → IsReducedBasis s qs → AreAscending rs → AreAscending qs → AllZip (IsTwin s) rs qs
  basis_in_order rs qs basis other up up' = zipped rs qs (ascending-equal IsLess (λ a b c p q. order.trans a.0 b.0 c.0 p q) (λ a p. order.irreflexive a.0 p) key_set (map key rs) (map key qs)
      (ascends rs (lead-front s rs basis) up) (ascends qs (lead-front s qs other) up') (within rs qs basis other) (within qs rs other basis))
