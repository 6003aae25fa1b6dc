-- A polynomial without variables is its constant.
use Rattle.std.proofs.Common.{◌≡◌, ℕ, suc, ◌≤◌, true, List, [], ◌∷◌, length, get_or, nat_lt, refl, sym, ap, ◌∙◌, add-zero, arith}
use Rattle.std.specs.declared.cmp.Ordering.TheVariants.{Less}
use Rattle.std.proofs.lemmas.Bool.Decides.{nat_tests}
use Rattle.rinv_algebra.specs.Monomial.{same_monomial}
use Rattle.rinv_algebra.specs.Order.{lex}
use Rattle.rinv_algebra.specs.Residue.{residue_ops}
use Rattle.rinv_algebra.specs.Polynomial.{Term, coefficient}
use Rattle.rinv_algebra.specs.Normal.{IsNormal}
use Rattle.rinv_defs.specs.System.{Poly}
use Rattle.rinv_poly.proofs.Forms.{ordered-from_normal, ordered-head, ordered-tail, descending-head}

-- without terms it is zero
pub constant-none : (p : ℕ) (f : Poly) → length f ≡ 0 → 0 ≡ coefficient (residue_ops p) f []
unfolding coefficient
constant-none p [] e = refl
constant-none p (t ∷ f) e = absurd (omega (arith, e))

nil : (m : List ℕ) → length m ≡ 0 → m ≡ []
nil [] e = refl
nil (x ∷ m) e = absurd (omega (arith, e))

-- two monomials without exponents do not descend
no_descent : (m n : List ℕ) → length m ≡ 0 → length n ≡ 0 → lex n m ≡ Less → ⊥
no_descent m n e f h = let l : lex [] [] ≡ Less = rw (nil m e, nil n f) at h in cc

-- or it is its only coefficient
pub constant-some : (p c : ℕ) (f : Poly) → IsNormal (residue_ops p) (λ a. nat_lt a p) 0 f → ¬ (length f ≡ 0) → ((t : Term ℕ) → c ≡ (get_or f 0 t).1) → c ≡ coefficient (residue_ops p) f []
unfolding coefficient same_monomial
constant-some p c [] h some is = absurd (some refl)
constant-some p c (([], a) ∷ []) h some is = is ([], a) ∙ sym (add-zero a)
constant-some p c ((x ∷ m, a) ∷ f) h some is =
    let ordered = ordered-from_normal (residue_ops p) (λ a. nat_lt a p) 0 ((x ∷ m, a) ∷ f) h in
    let e : suc (length m) ≡ 0 = (ordered-head (residue_ops p) (λ a. nat_lt a p) 0 (x ∷ m, a) f ordered).vars in absurd (omega (arith, e))
constant-some p c (([], a) ∷ u ∷ g) h some is =
    let ordered = ordered-from_normal (residue_ops p) (λ a. nat_lt a p) 0 (([], a) ∷ u ∷ g) h in
    let tail = ordered-tail (residue_ops p) (λ a. nat_lt a p) 0 ([], a) (u ∷ g) ordered in
    let vars : length u.0 ≡ 0 = (ordered-head (residue_ops p) (λ a. nat_lt a p) 0 u g tail).vars in
    absurd (no_descent [] u.0 refl vars (descending-head ([], a) (u ∷ g) ordered.descending 0 u (omega arith)))

zero-small : (p : ℕ) → 1 ≤ p → nat_lt (coefficient (residue_ops p) [] []) p ≡ true
unfolding coefficient
zero-small p some = grind (arith, nat_tests)

-- and below the modulus
pub constant-small : (p : ℕ) (f : Poly) → 1 ≤ p → IsNormal (residue_ops p) (λ a. nat_lt a p) 0 f → nat_lt (coefficient (residue_ops p) f []) p ≡ true
constant-small p [] some h = zero-small p some
constant-small p (t ∷ f) some h =
    let is = constant-some p t.1 (t ∷ f) h (λ e. omega (arith, e)) (λ _. refl) in
    ap (λ c. nat_lt c p) (sym is) ∙ (ordered-head (residue_ops p) (λ a. nat_lt a p) 0 t f (ordered-from_normal (residue_ops p) (λ a. nat_lt a p) 0 (t ∷ f) h)).coefficient
