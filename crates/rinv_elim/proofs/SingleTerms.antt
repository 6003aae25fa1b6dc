-- Monomials as polynomials with one term, and the test whether two are the same.
--   single-normal, single-nonzero, single-lead    a monomial with the coefficient 1
--   singles-normal, singles-nonzero, singles-leads    lists of such
--   same-divides         two monomials that divide one another are the same
use Rattle.std.proofs.Common.{◌≡◌, ℕ, ◌≤◌, false, ◌&&◌, List, [], ◌∷◌, length, map, nat_lt, refl, sym, ◌∙◌, ap, ap₂, inl, inr, arith, All, IsTrue}
use Rattle.std.proofs.lemmas.Bool.{cases_Bool}
use Rattle.std.proofs.lemmas.Bool.Decides.{nat_tests}
use Rattle.std.proofs.lemmas.List.Elements.{All-nil, All-cons, All-head, All-tail}
use Rattle.rinv_algebra.specs.Residue.{residue_ops, is_listed}
use Rattle.rinv_algebra.specs.Monomial.{same_monomial, divides, total_degree, max_degree}
use Rattle.rinv_algebra.specs.Order.{grevlex}
use Rattle.rinv_algebra.specs.Polynomial.{is_zero}
use Rattle.rinv_algebra.specs.Normal.{IsNormal}
use Rattle.rinv_algebra.specs.Leading.{leading_monomial}
use Rattle.rinv_algebra.proofs.Grevlex.{grevlex_laws}
use Rattle.rinv_algebra.proofs.MonomialLaws.{same_monomial-of_length}
use Rattle.rinv_algebra.proofs.ResidueField.{residue_field_laws}
use Rattle.rinv_algebra.proofs.ResidueLaws.{residue_laws}
use Rattle.rinv_groebner.proofs.Ascending.{Has, split}
use Rattle.rinv_groebner.proofs.LeadingMonomials.{leading_monomial-leads, present}
use Rattle.rinv_defs.specs.System.{Poly}
use Rattle.rinv_poly.proofs.Forms.{IsNormalTerm, IsOrdered, normal-from_ordered}
use Rattle.rinv_poly.proofs.NormalFacts.{zero-normal}
use Rattle.rinv_div.proofs.Leads.{lead-vars}

module _ (p v : ℕ) (listed : IsTrue (is_listed p)) where
  above_one : IsTrue (nat_lt 1 p)
  above_one = grind (arith, nat_tests, listed)

  one_differs : (residue_ops p).same 1 0 ≡ false
  one_differs = elim (cases_Bool ((residue_ops p).same 1 0)) [ inl e ↦ absurd ((residue_field_laws p).one_differs e) | inr e ↦ e ]

  module _ (m : List ℕ) (many : length m ≡ v) (low : total_degree m ≤ max_degree) where
    abbrev single : Poly
    single = (m, 1) ∷ []

    single-ordered : IsOrdered (residue_ops p) (λ c. nat_lt c p) v ((m, 1) ∷ [])
    single-ordered = record {
      terms = All-cons (IsNormalTerm (residue_ops p) (λ c. nat_lt c p) v) (m, 1) [] (record { coefficient = above_one; nonzero = one_differs; vars = many; low = low }) (All-nil (IsNormalTerm (residue_ops p) (λ c. nat_lt c p) v));
      descending = λ i j d below inside. absurd (omega (arith, below, inside));
    }

    pub single-normal : IsNormal (residue_ops p) (λ c. nat_lt c p) v ((m, 1) ∷ [])
    single-normal = normal-from_ordered (residue_ops p) (λ c. nat_lt c p) v ((m, 1) ∷ []) single-ordered

    pub single-nonzero : is_zero (residue_ops p) ((m, 1) ∷ []) ≡ false
    single-nonzero = elim (cases_Bool (is_zero (residue_ops p) ((m, 1) ∷ []))) [
      | inl e ↦ absurd (let none : (m, 1) ∷ [] ≡ [] = zero-normal (residue_ops p) (residue_laws p) (λ c. nat_lt c p) v ((m, 1) ∷ []) single-normal e in cc)
      | inr e ↦ e
    ]

    -- its leading monomial
    pub single-lead : leading_monomial (residue_ops p) grevlex ((m, 1) ∷ []) ≡ m
    single-lead = go (present (residue_ops p) (residue_laws p) single lead (leading_monomial-leads (residue_ops p) (residue_laws p) grevlex grevlex_laws single single-nonzero).has)
      where
        lead : List ℕ
        lead = leading_monomial (residue_ops p) grevlex ((m, 1) ∷ [])

        only : {a : List ℕ} → Has a (m ∷ []) → a ≡ m
        only h = elim (split h) [ inl e ↦ e | inr k ↦ elim k [ ] ]

        go : (a : List ℕ) × Has a (m ∷ []) × IsTrue (same_monomial a lead) → lead ≡ m
        go (a, has, same) =
            let long : length lead ≡ v = lead-vars (residue_ops p) (residue_laws p) (λ c. nat_lt c p) v grevlex grevlex_laws single single-ordered single-nonzero in
            sym (same_monomial-of_length a lead (ap (λ (b : List ℕ). length b) (only has) ∙ many ∙ sym long) same) ∙ only has

  pub singles-normal : (ms : List (List ℕ)) → All (λ m. length m ≡ v) ms → All (λ m. total_degree m ≤ max_degree) ms → All (IsNormal (residue_ops p) (λ c. nat_lt c p) v) (map (λ m. (m, 1) ∷ []) ms)
  singles-normal [] long low = All-nil (IsNormal (residue_ops p) (λ c. nat_lt c p) v)
  singles-normal (m ∷ ms) long low =
      All-cons (IsNormal (residue_ops p) (λ c. nat_lt c p) v) ((m, 1) ∷ []) (map (λ m. (m, 1) ∷ []) ms) (single-normal m (All-head (λ (m : List ℕ). length m ≡ v) m ms long) (All-head (λ (m : List ℕ). total_degree m ≤ max_degree) m ms low))
      (singles-normal ms (All-tail (λ (m : List ℕ). length m ≡ v) m ms long) (All-tail (λ (m : List ℕ). total_degree m ≤ max_degree) m ms low))

  pub singles-nonzero : (ms : List (List ℕ)) → All (λ m. length m ≡ v) ms → All (λ m. total_degree m ≤ max_degree) ms → All (λ h. is_zero (residue_ops p) h ≡ false) (map (λ m. (m, 1) ∷ []) ms)
  singles-nonzero [] long low = All-nil (λ h. is_zero (residue_ops p) h ≡ false)
  singles-nonzero (m ∷ ms) long low =
      All-cons (λ h. is_zero (residue_ops p) h ≡ false) ((m, 1) ∷ []) (map (λ m. (m, 1) ∷ []) ms) (single-nonzero m (All-head (λ (m : List ℕ). length m ≡ v) m ms long) (All-head (λ (m : List ℕ). total_degree m ≤ max_degree) m ms low))
      (singles-nonzero ms (All-tail (λ (m : List ℕ). length m ≡ v) m ms long) (All-tail (λ (m : List ℕ). total_degree m ≤ max_degree) m ms low))

  -- those of a list of monomials
  pub singles-leads : (ms : List (List ℕ)) → All (λ m. length m ≡ v) ms → All (λ m. total_degree m ≤ max_degree) ms → map (leading_monomial (residue_ops p) grevlex) (map (λ m. (m, 1) ∷ []) ms) ≡ ms
  singles-leads [] long low = refl
  singles-leads (m ∷ ms) long low =
      ap₂ ◌∷◌ (single-lead m (All-head (λ (m : List ℕ). length m ≡ v) m ms long) (All-head (λ (m : List ℕ). total_degree m ≤ max_degree) m ms low))
      (singles-leads ms (All-tail (λ (m : List ℕ). length m ≡ v) m ms long) (All-tail (λ (m : List ℕ). total_degree m ≤ max_degree) m ms low))

-- two monomials that divide one another
pub same-divides : (a b : List ℕ) → (divides a b && divides b a) ≡ same_monomial a b
unfolding divides same_monomial
same-divides [] [] = refl
same-divides [] (y ∷ b) = let rest = same-divides [] b in grind (arith, nat_tests, rest)
same-divides (x ∷ a) [] = let rest = same-divides a [] in grind (arith, nat_tests, rest)
same-divides (x ∷ a) (y ∷ b) = let rest = same-divides a b in grind (arith, nat_tests, rest)
