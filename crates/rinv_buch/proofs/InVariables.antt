-- Polynomials in normal form are written in the variables, and an order that fits tells the monomials in them apart.
use Rattle.std.proofs.Common.{◌≡◌, ℕ, Bool, List, [], ◌∷◌, length, All, refl, sym, ◌∙◌, arith, subst, IsTrue, nat_le}
use Rattle.std.proofs.lemmas.Bool.Decides.{nat_tests}
use Rattle.std.proofs.lemmas.List.Elements.{All-head, All-tail}
use Rattle.std.specs.declared.cmp.Ordering.{Ordering}
use Rattle.std.specs.declared.cmp.Ordering.TheVariants.{Equal}
use Rattle.rinv_algebra.specs.Ring.{RingOps}
use Rattle.rinv_algebra.specs.MonomialOrder.{MonoOrderLaws}
use Rattle.rinv_algebra.specs.Polynomial.{Polynomial}
use Rattle.rinv_algebra.specs.Normal.{IsNormal, is_in_variables}
use Rattle.rinv_algebra.proofs.Same.{and_true}
use Rattle.rinv_groebner.specs.Orders.{OrdersMonomials, AreInVariables}
use Rattle.rinv_poly.proofs.Forms.{IsNormalTerm, ordered-from_normal}

pub orders-monomials : (v : ℕ) (cmp : List ℕ → List ℕ → Ordering) (fits : ℕ → Type 0) → MonoOrderLaws cmp → ((a b : List ℕ) → length a ≡ length b → fits (length a) → cmp a b ≡ Equal → a ≡ b) → fits v → OrdersMonomials cmp v
orders-monomials v cmp fits laws ties suits = record { laws = laws; ties = λ a b la lb e. ties a b (la ∙ sym lb) (subst fits (sym la) suits) e }

module _ {E : Type 0} (o : RingOps E) (is_element : E → Bool) (v : ℕ) where
  terms-in : (f : Polynomial E) → All (IsNormalTerm o is_element v) f → IsTrue (is_in_variables v f)
  terms-in [] all = refl
  terms-in (t ∷ f) all =
      let e : length t.0 ≡ v = (All-head (IsNormalTerm o is_element v) t f all).vars in
      and_true (nat_le (length t.0) v) (is_in_variables v f) (grind (arith, nat_tests, e)) (terms-in f (All-tail (IsNormalTerm o is_element v) t f all))

  pub all-in_variables : (fs : List (Polynomial E)) → All (IsNormal o is_element v) fs → AreInVariables v fs
  all-in_variables [] all = refl
  all-in_variables (f ∷ fs) all =
      and_true (is_in_variables v f) _ (terms-in f (ordered-from_normal o is_element v f (All-head (IsNormal o is_element v) f fs all)).terms) (all-in_variables fs (All-tail (IsNormal o is_element v) f fs all))
