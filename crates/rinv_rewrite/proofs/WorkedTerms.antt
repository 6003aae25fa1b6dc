-- Terms whose coefficients are worked out.
--   all-behind, all-front, fused    of what a list is mapped to
--   one-term             a term whose coefficient is the same
--   worked-same          they have the same sum
--   worked-terms         they are terms as a call asks for them
--   worked-next          one term more
--   long-in_z            the monomials of a polynomial in so many variables, put in Z
use Rattle.std.proofs.Common.{◌≡◌, ◌<◌, ℕ, ◌+◌, Bool, true, false, List, [], ◌∷◌, ◌++◌, length, get_or, take, map, All, IsTrue, nat_lt, refl, sym, ap, ◌∙◌, subst}
use Rattle.std.proofs.lemmas.List.{take_more}
use Rattle.std.proofs.lemmas.List.Elements.{All-nil, All-cons, All-head, All-tail}
use Rattle.std.specs.Prelude.{if◌then◌else◌}
use Rattle.rinv_algebra.specs.Ring.{RingOps, RingLaws, IsSame}
use Rattle.rinv_algebra.specs.Monomial.{same_monomial}
use Rattle.rinv_algebra.specs.Normal.{IsNormal}
use Rattle.rinv_algebra.specs.Residue.{residue_ops}
use Rattle.rinv_algebra.specs.Polynomial.{Term, Polynomial, poly_ops, coefficient, constant}
use Rattle.rinv_algebra.proofs.PolynomialLaws.{poly_laws}
use Rattle.rinv_algebra.proofs.Same.{same-from_coefficients}
use Rattle.rinv_poly.specs.Terms.{IsTerm}
use Rattle.rinv_poly.specs.Faults.{AreWorkedOut}
use Rattle.rinv_poly.proofs.Forms.{IsNormalTerm, ordered-from_normal}
use Rattle.rinv_poly.proofs.Meets.{worked-append}
use Rattle.rinv_soundness.specs.Rewriting.{in_z}

-- what holds of the images, and the other way round
pub all-behind : {X Y : Type 0} (G : X → Y) (Q : Y → Type 0) (xs : List X) → All Q (map G xs) → All (λ x. Q (G x)) xs
all-behind G Q [] h = All-nil (λ x. Q (G x))
all-behind G Q (x ∷ xs) h = All-cons (λ x. Q (G x)) x xs (All-head Q (G x) (map G xs) h) (all-behind G Q xs (All-tail Q (G x) (map G xs) h))

pub all-front : {X Y : Type 0} (F : X → Y) (Q : Y → Type 0) (xs : List X) → All (λ x. Q (F x)) xs → All Q (map F xs)
all-front F Q [] h = All-nil Q
all-front F Q (x ∷ xs) h = All-cons Q (F x) (map F xs) (All-head (λ x. Q (F x)) x xs h) (all-front F Q xs (All-tail (λ x. Q (F x)) x xs h))

pub fused : {X Y Z : Type 0} (f : X → Y) (g : Y → Z) (xs : List X) → map g (map f xs) ≡ map (λ x. g (f x)) xs
fused f g [] = refl
fused f g (x ∷ xs) = ap (λ ys. g (f x) ∷ ys) (fused f g xs)

module _ {E : Type 0} (o : RingOps E) (l : RingLaws o) (is_element : E → Bool) where
  one-term-at : (m : List ℕ) (c d : E) → IsSame o c d → (a : List ℕ) → IsSame o (coefficient o ((m, c) ∷ []) a) (coefficient o ((m, d) ∷ []) a)
  unfolding coefficient
  one-term-at m c d e a = go (same_monomial m a)
    where
      go : (b : Bool) → IsSame o (if b then o.add c o.zero else o.zero) (if b then o.add d o.zero else o.zero)
      go true = l.add_same c d o.zero o.zero e (l.same_refl o.zero)
      go false = l.same_refl o.zero

  pub one-term : (m : List ℕ) (c d : E) → IsSame o c d → IsSame (poly_ops o) ((m, c) ∷ []) ((m, d) ∷ [])
  one-term m c d e = same-from_coefficients o ((m, c) ∷ []) ((m, d) ∷ []) (one-term-at m c d e)

  -- they have the same sum
  pub worked-same : (f g : Polynomial E) → AreWorkedOut o is_element f g → IsSame (poly_ops o) g f
  worked-same [] [] h = (poly_laws o l).same_refl []
  worked-same [] (u ∷ g) h = absurd h
  worked-same (t ∷ f) [] h = absurd h
  worked-same (t ∷ f) (u ∷ g) h =
      (poly_laws o l).add_same (u ∷ []) (t ∷ []) g f
      (subst (λ (m : List ℕ). IsSame (poly_ops o) (u ∷ []) ((m, t.1) ∷ [])) h.0.0 (one-term u.0 u.1 t.1 h.0.1.value)) (worked-same f g h.1)

  -- they are terms as a call asks for them
  pub worked-terms : (n : ℕ) (f g : Polynomial E) → All (λ t. length t.0 ≡ n) f → AreWorkedOut o is_element f g → All (IsTerm is_element n) g
  worked-terms n [] [] long h = All-nil (IsTerm is_element n)
  worked-terms n [] (u ∷ g) long h = absurd h
  worked-terms n (t ∷ f) [] long h = absurd h
  worked-terms n (t ∷ f) (u ∷ g) long h =
      All-cons (IsTerm is_element n) u g (record { vars = ap length h.0.0 ∙ All-head (λ r. length r.0 ≡ n) t f long; coefficient = h.0.1.element })
      (worked-terms n f g (All-tail (λ r. length r.0 ≡ n) t f long) h.1)

  -- one term more, of what a list is mapped to
  pub worked-next : {X : Type 0} (F : X → Term E) (xs : List X) (k : ℕ) (x : X) (out : Polynomial E) (m : List ℕ) (c : E) → k < length xs → x ≡ get_or xs k x → m ≡ (F x).0 → IsTrue (is_element c) → IsSame o c (F x).1
      → AreWorkedOut o is_element (map F (take k xs)) out → AreWorkedOut o is_element (map F (take (k + 1) xs)) (out ++ (m, c) ∷ [])
  worked-next F xs k x out m c inside is mono element value so_far =
      subst (λ (f : Polynomial E). AreWorkedOut o is_element f (out ++ (m, c) ∷ [])) (sym (ap (map F) (take_more xs k x inside ∙ ap (λ r. take k xs ++ r ∷ []) (sym is)) ∙ map_append (take k xs)))
      (worked-append o l is_element (map F (take k xs)) out (F x ∷ []) ((m, c) ∷ []) so_far ((mono, record { element = element; value = value }), tt))
    where
      map_append : (ys : List _) → map F (ys ++ x ∷ []) ≡ map F ys ++ F x ∷ []
      map_append [] = refl
      map_append (y ∷ ys) = ap (λ r. F y ∷ r) (map_append ys)

-- a polynomial in n variables, put in Z
pub long-in_z : (p n : ℕ) (f : Polynomial ℕ) → IsNormal (residue_ops p) (λ c. nat_lt c p) n f → All (λ t. length t.0 ≡ n) (in_z p f)
long-in_z p n f normal = long f (ordered-from_normal (residue_ops p) (λ c. nat_lt c p) n f normal).terms
  where
    long : (g : Polynomial ℕ) → All (IsNormalTerm (residue_ops p) (λ c. nat_lt c p) n) g → All (λ t. length t.0 ≡ n) (in_z p g)
    long [] h = All-nil (λ t. length t.0 ≡ n)
    long (t ∷ g) h = All-cons (λ t. length t.0 ≡ n) (t.0, constant (residue_ops p) t.1) (in_z p g) (All-head (IsNormalTerm (residue_ops p) (λ c. nat_lt c p) n) t g h).vars (long g (All-tail (IsNormalTerm (residue_ops p) (λ c. nat_lt c p) n) t g h))
