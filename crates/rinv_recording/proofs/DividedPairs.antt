-- The division of a pair's S-polynomial, as it is stored.
--   s-meets              the degrees that the S-polynomial of residues meets: in one of its multiples
--   quotients-are, steps-meet    the division of what is the same as the S-polynomial
use Rattle.std.proofs.Common.{◌≡◌, ℕ, List, [], ◌∷◌, get_or, nat_lt, inl, inr, subst₂}
use Rattle.std.specs.declared.cmp.Ordering.{Ordering}
use Rattle.rinv_algebra.specs.Ring.{IsSame}
use Rattle.rinv_algebra.specs.Residue.{residue_ops}
use Rattle.rinv_algebra.specs.Polynomial.{Term, poly_ops}
use Rattle.rinv_algebra.specs.Leading.{multiplier}
use Rattle.rinv_algebra.proofs.ResidueLaws.{residue_laws}
use Rattle.rinv_groebner.specs.Division.{Step}
use Rattle.rinv_defs.specs.System.{Poly}
use Rattle.rinv_ring.specs.Fault.{DegreesMeet}
use Rattle.rinv_ring.specs.declared.fault.RingFault.{RingFault}
use Rattle.rinv_poly.specs.Faults.{MonomialsMeet}
use Rattle.rinv_poly.specs.Combined.{TermMeets}
use Rattle.rinv_poly.proofs.Meets.{meet-weaker}
use Rattle.rinv_sub.specs.Refusal.{never}
use Rattle.rinv_sub.proofs.Refused.{has-same}
use Rattle.rinv_div.specs.Stops.{Divides, StepsMeet}
use Rattle.rinv_buch.specs.Causes.{SPolynomialMeets}
use Rattle.rinv_buch.specs.Runs.{s_at}
use Rattle.rinv_buch.proofs.PairDivision.{steps-same}
use Rattle.rinv_cofactors.specs.Combining.{AreQuotients}
use Rattle.rinv_parts.specs.Points.{ArePolynomials}
use Rattle.rinv_recording.specs.Recorded.{MultiplesMeet, QuotientsMeet}

module _ (p v : ℕ) (cmp : List ℕ → List ℕ → Ordering) where
  -- a term, as it is stored, times a polynomial
  term-meets : (t : Term ℕ) (f : Poly) (x y : ℕ) → TermMeets (residue_ops p) (λ c. nat_lt c p) never v t f x y → MonomialsMeet (residue_ops p) (t ∷ []) f x y
  term-meets t f x y (a, is_a, inl h) = record { left = has-same (residue_ops p) (residue_laws p) a (t ∷ []) x is_a.value h.left; right = h.right; over = h.over }
  term-meets t f x y (a, is_a, inr (inl (m, c, i, h))) = absurd h.meets
  term-meets t f x y (a, is_a, inr (inr (terms, w, h))) = absurd h.meets

  s-meets-at : (list : List Poly) (i j x y : ℕ) → SPolynomialMeets (residue_ops p) (λ c. nat_lt c p) never v cmp (get_or list i []) (get_or list j []) x y → MultiplesMeet p cmp list i j x y
  s-meets-at list i j x y (inl h) = inl (term-meets (multiplier (residue_ops p) cmp (get_or list i []) (get_or list j [])) (get_or list i []) x y h)
  s-meets-at list i j x y (inr (inl h)) = inr (term-meets (multiplier (residue_ops p) cmp (get_or list j []) (get_or list i [])) (get_or list j []) x y h)
  s-meets-at list i j x y (inr (inr (a, b, is_a, is_b, inl h))) = absurd h.meets
  s-meets-at list i j x y (inr (inr (a, b, is_a, is_b, inr (m, c, i', h)))) = absurd h.meets

  pub s-meets : (list : List Poly) (i j : ℕ) (f g : Poly) → f ≡ get_or list i [] → g ≡ get_or list j [] → (fault : RingFault) → DegreesMeet (SPolynomialMeets (residue_ops p) (λ c. nat_lt c p) never v cmp f g) fault → DegreesMeet (MultiplesMeet p cmp list i j) fault
  s-meets list i j f g is_f is_g fault meets =
      meet-weaker (SPolynomialMeets (residue_ops p) (λ c. nat_lt c p) never v cmp f g) (MultiplesMeet p cmp list i j)
      (λ x y h. s-meets-at list i j x y (subst₂ (λ (a b : Poly). SPolynomialMeets (residue_ops p) (λ c. nat_lt c p) never v cmp a b x y) is_f is_g h)) fault meets

  module _ (list : List Poly) (i j : ℕ) (s : Poly) (is_s : IsSame (poly_ops (residue_ops p)) s (s_at (residue_ops p) cmp list i j)) where
    pub quotients-are : (qs : List Poly) (rest : Poly) → (steps : List (Step ℕ)) × Divides (residue_ops p) cmp list s qs rest steps → ArePolynomials p v qs → AreQuotients (residue_ops p) (λ c. nat_lt c p) v cmp list i j qs
    quotients-are qs rest (steps, d) stored = record {
      steps = steps;
      rest = rest;
      divides = record {
        is_division = record { by_steps = steps-same (residue_ops p) cmp (residue_laws p) list s (s_at (residue_ops p) cmp list i j) is_s steps rest d.is_division.by_steps; irreducible = d.is_division.irreducible };
        quotients = d.quotients;
      };
      stored = stored;
    }

    pub steps-meet : (fault : RingFault) → DegreesMeet (StepsMeet (residue_ops p) cmp list s (λ c. nat_lt c p) never) fault → DegreesMeet (QuotientsMeet p cmp list i j) fault
    steps-meet fault meets = meet-weaker (StepsMeet (residue_ops p) cmp list s (λ c. nat_lt c p) never) (QuotientsMeet p cmp list i j) (λ x y m. inr (record {
      steps = m.steps;
      working = m.working;
      by_steps = steps-same (residue_ops p) cmp (residue_laws p) list s (s_at (residue_ops p) cmp list i j) is_s m.steps m.working m.by_steps;
      meets = m.meets;
    })) fault meets
