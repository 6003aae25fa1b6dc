-- A reduced Gröbner basis, written in v variables, from a Gröbner basis without zero.
--   written-basis        there is one
use Rattle.std.proofs.Common.{◌≡◌, ℕ, ◌<◌, List, [], ◌∷◌, length, map, get_or, refl, sym, ◌∙◌, subst, IsTrue}
use Rattle.std.specs.Prelude.{remove}
use Rattle.std.specs.List.{list_all}
use Rattle.std.specs.declared.cmp.Ordering.{Ordering}
use Rattle.std.proofs.lemmas.List.{length-map, get_or-map}
use Rattle.rinv_algebra.specs.Ring.{RingOps, RingLaws, FieldLaws}
use Rattle.rinv_algebra.specs.Polynomial.{Polynomial, scale}
use Rattle.rinv_algebra.specs.Normal.{is_in_variables}
use Rattle.rinv_algebra.proofs.PolynomialLaws.{poly_laws}
use Rattle.rinv_algebra.proofs.Same.{and_true}
use Rattle.rinv_theory.proofs.Classes.{class}
use Rattle.rinv_theory.proofs.Monoid.{monomials}
use Rattle.rinv_theory.proofs.Polynomials.{polynomials}
use Rattle.rinv_theory.proofs.Of.{Of, of-times}
use Rattle.rinv_theory.proofs.Variables.{IsFront}
use Rattle.rinv_groebner.specs.Orders.{OrdersMonomials, AreInVariables}
use Rattle.rinv_groebner.specs.Basis.{AreNonzero, IsGroebnerBasis}
use Rattle.rinv_groebner.specs.Reduced.{kept, IsMadeAt, AreMade, IsReducedGroebnerBasis}
use Rattle.rinv_groebner.proofs.Ascending.{Has, has_at, place_of}
use Rattle.rinv_groebner.proofs.Compared.{InFirst, first-same}
use Rattle.rinv_groebner.proofs.Generates.{steps-first}
use Rattle.rinv_groebner.proofs.IdealBases.{nonzero_has}
use Rattle.rinv_groebner.proofs.Kept.{kept-in}
use Rattle.rinv_groebner.proofs.ListElements.{AllFirst}
use Rattle.rinv_groebner.proofs.MadeLists.{made_list, made_reduced}
use Rattle.rinv_groebner.proofs.NormalForms.{class-scale}
use Rattle.rinv_groebner.proofs.Removed.{first_from, has-remove}
use Rattle.rinv_cut.proofs.Trimmed.{trimmed, trimmed-in, trimmed-same}

module _ {E : Type 0} (o : RingOps E) (l : RingLaws o) (field : FieldLaws o) (cmp : List ℕ → List ℕ → Ordering) (v : ℕ) (order : OrdersMonomials cmp v) (fs hs : List (Polynomial E))
    (first : AllFirst o l v hs) (nonzero : AreNonzero o hs) (basis : IsGroebnerBasis o cmp v fs hs) where
  abbrev ks : List (Polynomial E)
  ks = kept o cmp hs

  kept_first : (h : Polynomial E) → Has h ks → InFirst o l v h
  kept_first h m = let (p, inside, e) = place_of [] hs (kept-in o cmp hs [] hs m) in subst (InFirst o l v) e (first p)

  -- what is made is a sum of terms in v variables
  made_first : (j : ℕ) → j < length ks → (g : Polynomial E) → IsMadeAt o cmp ks j g → InFirst o l v g
  made_first j inside g m = first-same o l v (scale o m.monic.factor m.rest) g ((poly_laws o l).same_sym g (scale o m.monic.factor m.rest) m.monic.scaled)
      (subst (Of (polynomials o l) (IsFront v)) (sym (class-scale o l cmp m.monic.factor m.rest)) (of-times (polynomials o l) (class o m.monic.factor) monomials.one (λ n q. subst (IsFront v) (sym (monomials.one_mul n)) q) rest_first))
    where
      rest_first : InFirst o l v m.rest
      rest_first = steps-first o l cmp v order (remove ks j) (first_from o l v (remove ks j) (λ h i. kept_first h (has-remove ks j i))) (get_or ks j []) m.steps m.rest m.division.by_steps (kept_first (get_or ks j []) (has_at [] ks j inside))

  -- so it may be written in these
  module _ (bs : List (Polynomial E)) (made : AreMade o cmp hs bs) where
    abbrev written : List (Polynomial E)
    written = map (trimmed o l v) bs

    made_written : AreMade o cmp hs written
    made_written = record { number = count ∙ made.number; made = λ j inside. at j (subst (λ (n : ℕ). j < n) count inside) }
      where
        count : length written ≡ length bs
        count = length-map bs (trimmed o l v)

        at : (j : ℕ) → j < length bs → IsMadeAt o cmp ks j (get_or written j [])
        at j inside =
            let m = made.made j inside in
            subst (IsMadeAt o cmp ks j) (sym (get_or-map (trimmed o l v) bs j [] [] inside)) (record {
              steps = m.steps;
              rest = m.rest;
              division = m.division;
              monic = record {
                factor = m.monic.factor;
                inverse = m.monic.inverse;
                scaled = (poly_laws o l).same_trans (trimmed o l v (get_or bs j [])) (get_or bs j []) (scale o m.monic.factor m.rest)
                    (trimmed-same o l v (get_or bs j []) (made_first j (subst (λ (n : ℕ). j < n) made.number inside) (get_or bs j []) m)) m.monic.scaled;
              };
            })

    written_in : AreInVariables v written
    written_in = all bs
      where
        all : (xs : List (Polynomial E)) → IsTrue (list_all (is_in_variables v) (map (trimmed o l v) xs))
        all [] = refl
        all (x ∷ xs) = and_true (is_in_variables v (trimmed o l v x)) (list_all (is_in_variables v) (map (trimmed o l v) xs)) (trimmed-in o l v x) (all xs)

  pub written-basis : (bs : List (Polynomial E)) × IsReducedGroebnerBasis o cmp v fs bs × AreInVariables v bs
  written-basis =
      let (bs, made) = made_list o l field cmp v order fs hs first (nonzero_has o hs nonzero) basis in
      (map (trimmed o l v) bs, made_reduced o l field cmp v order fs hs first (nonzero_has o hs nonzero) basis (map (trimmed o l v) bs) (made_written bs made), written_in bs made)
