-- The draft that the rest of a line makes, by its word.
use Rattle.std.proofs.Common.{◌≡◌, ◌⊎◌, inl, inr, ℕ, suc, ◌==◌, true, false, arith, List, [], ◌∷◌, length, map, nat_lt, IsTrue, Option, Some, None, unwrap_or, refl, sym, ap, subst, ◌∙◌}
use Rattle.std.specs.List.{All}
use Rattle.std.proofs.lemmas.Bool.Decides.{nat_tests}
use Rattle.std.proofs.lemmas.List.Sums.{AllPass-from_list_all}
use Rattle.rinv_algebra.specs.Residue.{residue_ops}
use Rattle.rinv_algebra.specs.Polynomial.{coefficient}
use Rattle.rinv_algebra.specs.Normal.{IsNormal, is_normal}
use Rattle.rinv_defs.specs.System.{Poly}
use Rattle.rinv_text.specs.Tokens.{number_of}
use Rattle.rinv_system.specs.declared.keyword.Keyword.{Keyword}
use Rattle.rinv_system.specs.declared.keyword.Keyword.TheVariants.{Field, Group, Space, Ideal, Unit as AtUnit, Product, Inverse, Action, Section, Pairs, Steps}
use Rattle.rinv_system.specs.Entries.{entries_of}
use Rattle.rinv_system.specs.Drafts.{Draft, modulus, names_for, length_fault}
use Rattle.rinv_system.specs.Forms.{TellsNumber, TellsNames, TellsPolynomials, AreEntries, IsRestTaken, with_number, with_polynomials, is_number_for}
use Rattle.rinv_system.specs.Stops.{IsNumberFor}
use Rattle.rinv_system.proofs.GoodLists.{AreEntries-normal}

-- a number
pub number-taken : (d next : Draft) (rest : List ℕ) (n : ℕ) (k at : Keyword) → k ≡ at → TellsNumber k → IsNumberFor at rest n → next ≡ with_number d at n → IsRestTaken d rest k next
number-taken d next rest n k at is tells number made =
    subst (IsRestTaken d rest k) (ap (with_number d k) (sym number.0) ∙ ap (λ w. with_number d w n) is ∙ sym made)
    (IsRestTaken.a_number tells number.1 (subst (λ w. IsTrue (is_number_for w (number_of rest))) (sym is) number.2))

-- the names of the space
pub space-tells : (d : Draft) (group : List (List ℕ)) (option : Option (List (List ℕ))) → option ≡ Some group → d.group ≡ option → TellsNames d Space group
space-tells d group option is same = subst (TellsNames d Space) (ap (λ o. unwrap_or o []) (same ∙ is)) TellsNames.space_line

-- a line of no other word tells polynomials
pub polynomials-others : (k : Keyword) → (k ≡ Field → ⊥) → (k ≡ Group → ⊥) → (k ≡ Space → ⊥) → (k ≡ Pairs → ⊥) → (k ≡ Steps → ⊥) → TellsPolynomials k
polynomials-others Field f g s p t = absurd (f refl)
polynomials-others Group f g s p t = absurd (g refl)
polynomials-others Space f g s p t = absurd (s refl)
polynomials-others Pairs f g s p t = absurd (p refl)
polynomials-others Steps f g s p t = absurd (t refl)
polynomials-others Ideal f g s p t = TellsPolynomials.ideal_line
polynomials-others AtUnit f g s p t = TellsPolynomials.unit_line
polynomials-others Product f g s p t = TellsPolynomials.product_line
polynomials-others Inverse f g s p t = TellsPolynomials.inverse_line
polynomials-others Action f g s p t = TellsPolynomials.action_line
polynomials-others Section f g s p t = TellsPolynomials.section_line

module _ (d : Draft) (k : Keyword) (rest : List ℕ) (fs : List Poly) (right : length_fault d k (length (entries_of rest)) ≡ None) (are : AreEntries (modulus d) (names_for d k) (entries_of rest) fs) where
  -- polynomials
  pub polynomials-taken : (next : Draft) → TellsPolynomials k → next ≡ with_polynomials d k fs → IsRestTaken d rest k next
  polynomials-taken next tells made = subst (IsRestTaken d rest k) (sym made) (IsRestTaken.some_polynomials tells right are)

  -- those of the unit have no variables
  pub unit-normal : (gs : List Poly) (p : ℕ) → k ≡ AtUnit → p ≡ modulus d → gs ≡ fs → All (IsNormal (residue_ops p) (λ c. nat_lt c p) 0) gs
  unit-normal gs p at is same =
      subst (λ q. All (IsNormal (residue_ops q) (λ c. nat_lt c q) 0) gs) (sym is) (subst (All (IsNormal (residue_ops (modulus d)) (λ c. nat_lt c (modulus d)) 0)) (sym same)
      (subst (λ w. All (IsNormal (residue_ops (modulus d)) (λ c. nat_lt c (modulus d)) (length (names_for d w))) fs) at
      (AllPass-from_list_all (is_normal (residue_ops (modulus d)) (λ c. nat_lt c (modulus d)) (length (names_for d k))) fs (AreEntries-normal are))))

  -- and it is the list of their constants
  pub unit-taken : (next : Draft) (gs : List Poly) (units : List ℕ) (p : ℕ) → k ≡ AtUnit → TellsPolynomials k → p ≡ modulus d → gs ≡ fs → units ≡ map (λ f. coefficient (residue_ops p) f []) gs
      → next ≡ record d { unit = Some units } → IsRestTaken d rest k next
  unit-taken next gs units p at tells is same made put =
      subst (IsRestTaken d rest k)
      (ap (λ w. with_polynomials d w fs) at ∙ ap (λ us. record d { unit = Some us }) (sym (made ∙ ap (λ q. map (λ f. coefficient (residue_ops q) f []) gs) is ∙ ap (map (λ f. coefficient (residue_ops (modulus d)) f [])) same)) ∙ sym put)
      (IsRestTaken.some_polynomials tells right are)

-- a line with nothing on it, and one with something
pub is_nil : (line : List ℕ) → (length line == 0) ≡ true → line ≡ []
is_nil [] e = refl
is_nil (b ∷ bs) e = absurd (grind (arith, nat_tests, e))

pub not_nil : (line : List ℕ) → (length line == 0) ≡ false → ¬ (line ≡ [])
not_nil [] e is = absurd (let f : true ≡ false = e in cc)
not_nil (b ∷ bs) e is = let n : suc (length bs) ≡ 0 = ap length is in omega (arith, n)

-- a number's word
pub numbers-of : (k : Keyword) → (k ≡ Field) ⊎ ((k ≡ Pairs) ⊎ (k ≡ Steps)) → TellsNumber k
numbers-of k (inl e) = subst TellsNumber (sym e) TellsNumber.field_line
numbers-of k (inr (inl e)) = subst TellsNumber (sym e) TellsNumber.pairs_line
numbers-of k (inr (inr e)) = subst TellsNumber (sym e) TellsNumber.steps_line
