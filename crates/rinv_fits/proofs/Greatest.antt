-- The greatest degree of some terms, one term more; and products that fit by the greatest degrees of both factors.
use Rattle.std.proofs.Common.{◌≡◌, ℕ, ◌+◌, ◌<◌, ◌≤◌, max, Bool, true, false, [], ◌∷◌, ◌++◌, length, get_or, take, All, subst, sym, ap, arith, refl, ◌∙◌, inl, inr}
use Rattle.std.specs.Prelude.{nat_lt, ◌==◌}
use Rattle.std.proofs.lemmas.Bool.{cases_order}
use Rattle.std.proofs.lemmas.Bool.Decides.{nat_tests}
use Rattle.std.proofs.lemmas.List.{take_all, take_more}
use Rattle.std.proofs.lemmas.List.Elements.{All-push}
use Rattle.rinv_algebra.specs.Monomial.{total_degree, max_degree}
use Rattle.rinv_algebra.specs.Polynomial.{Term}
use Rattle.rinv_algebra.specs.Residue.{residue_ops}
use Rattle.rinv_algebra.specs.Normal.{IsNormal}
use Rattle.rinv_algebra.specs.Fits.{product_fits}
use Rattle.rinv_algebra.proofs.ResidueLaws.{residue_laws}
use Rattle.rinv_defs.specs.System.{Poly}
use Rattle.rinv_poly.specs.Faults.{IsDegreeOf, MonomialsMeet}
use Rattle.rinv_poly.proofs.Degrees.{product_fits-from_terms, meet-from_terms}
use Rattle.rinv_poly.proofs.Forms.{ordered-from_normal}

-- the greatest degree of the first k terms, and 0 before any
pub record IsGreatest (f : Poly) (k n : ℕ) : Type 0 where
  pub all : All (λ t. total_degree t.0 ≤ n) (take k f)
  pub some : 0 < k → IsDegreeOf f n
  pub none : k ≡ 0 → n ≡ 0
  pub low : n ≤ max_degree

-- one term more
pub greatest-more : (f : Poly) (k n d : ℕ) (t : Term ℕ) → k < length f → t ≡ get_or f k t → d ≡ total_degree t.0 → d ≤ max_degree → IsGreatest f k n → IsGreatest f (k + 1) (max d n)
greatest-more f k n d t inside at degree low g = record {
  all = subst (λ h. All (λ u. total_degree u.0 ≤ max d n) h) (sym (take_more f k t inside ∙ ap (λ (x : Term ℕ). take k f ++ x ∷ []) (sym at)))
      (All-push (λ (u : Term ℕ). total_degree u.0 ≤ max d n) (take k f) t (λ i e b. let h = g.all i e b in omega (arith, h)) (omega (arith, degree)));
  some = λ _. elim (cases_order n d) [
    | inl same ↦ let e : d ≡ max d n = omega (arith, same) in subst (IsDegreeOf f) e here
    | inr (inl below) ↦ let e : d ≡ max d n = omega (arith, below) in subst (IsDegreeOf f) e here
    | inr (inr above) ↦ let e : n ≡ max d n = omega (arith, above) in subst (IsDegreeOf f) e (g.some (positive above))
  ];
  none = λ e. absurd (omega (arith, e));
  low = let l = g.low in omega (arith, l, low);
}
  where
    here : IsDegreeOf f d
    here = record { term = t; has = (k, inside, sym at); degree = sym degree }

    positive : d < n → 0 < k
    positive above = elim (cases_order k 0) [
      | inl same ↦ let z = g.none same in absurd (omega (arith, z, above))
      | inr (inl under) ↦ absurd (omega (arith, under))
      | inr (inr some) ↦ some
    ]

module _ (p v : ℕ) (f g : Poly) where
  -- a product fits where the greatest degrees of the terms do
  pub fits-by_degrees : (a b : ℕ) → All (λ t. total_degree t.0 ≤ a) f → All (λ t. total_degree t.0 ≤ b) g → a + b ≤ max_degree → product_fits (residue_ops p) f g ≡ true
  fits-by_degrees a b left right low = product_fits-from_terms (residue_ops p) (residue_laws p) f g (λ i d h j e k.
      let x = left i d h in let y = right j e k in omega (arith, x, y, low))

  -- and where there are no terms
  pub fits-empty : length f ≡ 0 → product_fits (residue_ops p) f g ≡ true
  fits-empty none = product_fits-from_terms (residue_ops p) (residue_laws p) f g (λ i d h. absurd (omega (arith, none, h)))

  pub fits-empty_right : length g ≡ 0 → product_fits (residue_ops p) f g ≡ true
  fits-empty_right none = product_fits-from_terms (residue_ops p) (residue_laws p) f g (λ i d h j e k. absurd (omega (arith, none, k)))

  -- degrees of terms that do not are those of two monomials
  pub meet-by_degrees : IsNormal (residue_ops p) (λ c. nat_lt c p) v f → IsNormal (residue_ops p) (λ c. nat_lt c p) v g → (a b : ℕ) → IsDegreeOf f a → IsDegreeOf g b → max_degree < a + b → MonomialsMeet (residue_ops p) f g a b
  meet-by_degrees nf ng a b left right over =
      meet-from_terms (residue_ops p) (residue_laws p) (λ c. nat_lt c p) v f g a b (ordered-from_normal (residue_ops p) (λ c. nat_lt c p) v f nf) (ordered-from_normal (residue_ops p) (λ c. nat_lt c p) v g ng) (record { left = left; right = right; over = over })

-- before any term
pub greatest-none : (f : Poly) → IsGreatest f 0 0
greatest-none f = record { all = λ i d h. absurd (omega (arith, h)); some = λ h. absurd (omega (arith, h)); none = λ e. refl; low = omega arith }

-- after all
pub greatest-all : (f : Poly) (k n : ℕ) → length f ≤ k → IsGreatest f k n → All (λ t. total_degree t.0 ≤ n) f
greatest-all f k n past g = subst (λ h. All (λ t. total_degree t.0 ≤ n) h) (take_all k f past) g.all

-- whether a list is empty, as it is tested
pub empty-length : (xs f : Poly) (b : Bool) → xs ≡ f → b ≡ (length xs == 0) → b ≡ true → length f ≡ 0
empty-length xs f b same test is =
    let e : (length xs == 0) ≡ true = sym test ∙ is in
    let n : length xs ≡ 0 = grind (arith, nat_tests, e) in
    sym (ap (λ (g : Poly). length g) same) ∙ n

pub some-length : (xs : Poly) (b : Bool) → b ≡ (length xs == 0) → b ≡ false → 0 < length xs
some-length xs b test off =
    let e : (length xs == 0) ≡ false = sym test ∙ off in
    grind (arith, nat_tests, e)
