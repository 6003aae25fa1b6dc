-- A fraction is cancelled in one way: what is left is one pair of polynomials, up to how they are written, and so one pair in their stored form.
use Rattle.std.proofs.Common.{◌≡◌, ℕ, nat_cmp, Bool, true, false, cond, List, [], ◌∷◌, ◌==◌, IsTrue, refl, sym, ap, ap₂, subst, ◌∙◌, arith, true≢false}
use Rattle.std.specs.Ordering.{is_ge, is_eq, ordering_then, ordering_reverse}
use Rattle.std.specs.declared.cmp.Ordering.{Ordering}
use Rattle.std.specs.declared.cmp.Ordering.TheVariants.{Less, Equal, Greater}
use Rattle.std.proofs.lemmas.Bool.Decides.{nat_tests}
use Rattle.rinv_algebra.specs.Ring.{RingOps, RingLaws, FieldLaws, IsSame}
use Rattle.rinv_algebra.specs.Residue.{is_listed, residue_ops}
use Rattle.rinv_algebra.specs.Monomial.{same_monomial, total_degree}
use Rattle.rinv_algebra.specs.Order.{grevlex, last_cmp}
use Rattle.rinv_algebra.specs.Polynomial.{Polynomial, poly_ops, product, term_product, scale, constant, coefficient, is_zero}
use Rattle.rinv_algebra.specs.Leading.{IsLeadingMonomial}
use Rattle.rinv_algebra.specs.Fraction.{Fraction, over_one}
use Rattle.rinv_algebra.proofs.RingFacts as facts
use Rattle.rinv_algebra.proofs.Same.{and_true, coefficient-same_monomial, same-from_coefficients}
use Rattle.rinv_algebra.proofs.MonomialLaws.{same_from, same_monomial_refl, same_monomial-left}
use Rattle.rinv_algebra.proofs.Grevlex.{grevlex_laws}
use Rattle.rinv_algebra.proofs.PolynomialLaws.{poly_laws}
use Rattle.rinv_algebra.proofs.ResidueLaws.{residue_laws}
use Rattle.rinv_algebra.proofs.ResidueField.{residue_field_laws}
use Rattle.rinv_algebra.proofs.Degrees.{is_zero-same, is_zero-false}
use Rattle.rinv_theory.proofs.CRing.{CRing, by, add_cancel, add_neg}
use Rattle.rinv_theory.proofs.Classes.{class, class_sound, class_exact, class-mul, class-zero}
use Rattle.rinv_theory.proofs.Polynomials.{poly_ring}
use Rattle.rinv_theory.proofs.Domain.{IsDomain}
use Rattle.rinv_theory.proofs.Fields.{poly_domain}
use Rattle.rinv_theory.proofs.Solver.{ring, reading}
use Rattle.rinv_theory.proofs.AlikeSolver.{alike_ring, alike_reading}
use Rattle.rinv_poly.proofs.Residues.{equal-normal}
use Rattle.rinv_frac.specs.Fractions.{IsStored}
use Rattle.rinv_frac.specs.Cancelling.{IsSamePair, IsStripped, IsDivided, whole, reciprocal, neither, InvertsLead, IsScaled, IsCancelled, zero, nonzero}
use Rattle.rinv_frac.proofs.CancelledValues.{by_term, zero_product, not_true}
use Rattle.rinv_frac.proofs.Sums.{product-nonzero}
use Rattle.rinv_frac.proofs.StrippedParts.{monomial-nonzero}
use Rattle.rinv_frac.proofs.ScaledParts.{scaled-same}
use Rattle.rinv_frac.proofs.LeastExponents.{divides-at}
use Rattle.rinv_frac.proofs.Stored.{stored}

-- ---- monomials that tie in grevlex are one

then-equal : (o p : Ordering) → ordering_then o p ≡ Equal → (o ≡ Equal) × (p ≡ Equal)
then-equal Less p e = absurd (true≢false (sym (ap is_eq e)))
then-equal Equal p e = (refl, e)
then-equal Greater p e = absurd (true≢false (sym (ap is_eq e)))

last-ties : (a b : List ℕ) → last_cmp a b ≡ Equal → same_monomial a b ≡ true
unfolding last_cmp same_monomial
last-ties [] [] e = refl
last-ties [] (y ∷ b) e =
    let p = then-equal (last_cmp [] b) (nat_cmp y 0) e in
    let z : (y == 0) ≡ true = grind (arith, nat_tests, p.1) in and_true (y == 0) (same_monomial [] b) z (last-ties [] b p.0)
last-ties (x ∷ a) [] e =
    let p = then-equal (last_cmp a []) (nat_cmp 0 x) e in
    let z : (x == 0) ≡ true = grind (arith, nat_tests, p.1) in and_true (x == 0) (same_monomial a []) z (last-ties a [] p.0)
last-ties (x ∷ a) (y ∷ b) e =
    let p = then-equal (last_cmp a b) (nat_cmp y x) e in
    let z : (x == y) ≡ true = grind (arith, nat_tests, p.1) in and_true (x == y) (same_monomial a b) z (last-ties a b p.0)

both-ge : (o : Ordering) → IsTrue (is_ge o) → IsTrue (is_ge (ordering_reverse o)) → o ≡ Equal
both-ge Less h k = absurd (true≢false (sym h))
both-ge Equal h k = refl
both-ge Greater h k = absurd (true≢false (sym k))

-- ---- over a field

module _ {E : Type 0} (o : RingOps E) (l : RingLaws o) (F : FieldLaws o) where
  abbrev P : RingOps (Polynomial E)
  P = poly_ops o

  abbrev q : RingLaws (poly_ops o)
  q = poly_laws o l

  -- a factor that is not zero cancels
  cancelled : {R : Type 0} (𝓡 : CRing R) → IsDomain 𝓡 → (g h f : R) → (f ≡ 𝓡.zero → ⊥) → 𝓡.mul g f ≡ 𝓡.mul h f → g ≡ h
  cancelled 𝓡 domain g h f some e = add_cancel 𝓡 g h (𝓡.neg h) (domain.no_divisors _ f difference some ∙ sym (add_neg 𝓡 h))
    where
      difference : 𝓡.mul (𝓡.add g (𝓡.neg h)) f ≡ 𝓡.zero
      difference = by 𝓡 (𝓡.mul g f) (𝓡.mul h f) 𝓡.one _ _ e (ring 𝓡 (g ∷ h ∷ f ∷ []) (search reading depth 30) refl)

  product-cancel : (g h f : Polynomial E) → is_zero o f ≡ false → IsSame P (product o g f) (product o h f) → IsSame P g h
  product-cancel g h f some s = class_exact P q g h (cancelled (poly_ring o l) (poly_domain o l F) (class P g) (class P h) (class P f) not_zero products)
    where
      not_zero : class P f ≡ (poly_ring o l).zero → ⊥
      not_zero e = true≢false (sym (class_exact P q f [] (e ∙ sym (class-zero P q))) ∙ some)

      products : (poly_ring o l).mul (class P g) (class P f) ≡ (poly_ring o l).mul (class P h) (class P f)
      products = sym (class-mul P q g f) ∙ class_sound P q _ _ s ∙ class-mul P q h f

  -- one term, written in two ways
  one-term : (m n : List ℕ) (c d : E) → same_monomial m n ≡ true → IsSame o c d → IsSame P ((m, c) ∷ []) ((n, d) ∷ [])
  unfolding coefficient
  one-term m n c d same e = same-from_coefficients o ((m, c) ∷ []) ((n, d) ∷ []) (λ k. subst (λ b. IsSame o (cond (same_monomial m k) (o.add c o.zero) o.zero) (cond b (o.add d o.zero) o.zero)) (same_monomial-left m n k same) (at (same_monomial m k)))
    where
      at : (b : Bool) → IsSame o (cond b (o.add c o.zero) o.zero) (cond b (o.add d o.zero) o.zero)
      at true = l.add_same c d o.zero o.zero e (l.same_refl o.zero)
      at false = l.same_refl o.zero

  -- a leading monomial is one
  one-lead : (f : Polynomial E) (m n : List ℕ) → IsLeadingMonomial o grevlex f m → IsLeadingMonomial o grevlex f n → same_monomial m n ≡ true
  one-lead f m n a b =
      last-ties m n (then-equal (nat_cmp (total_degree m) (total_degree n)) (last_cmp m n) (both-ge (grevlex m n) (a.greatest n b.has) (ap is_ge (sym (grevlex_laws.total.antisymm n m)) ∙ b.greatest m a.has))).1

  -- an inverse is one
  one-inverse : (x c d : E) → IsSame o (o.mul c x) o.one → IsSame o (o.mul d x) o.one → IsSame o c d
  one-inverse x c d a b =
      facts.then o l (l.same_sym (o.mul c o.one) c (l.mul_one c))
      (facts.then o l (l.mul_same c c o.one (o.mul d x) (l.same_refl c) (l.same_sym (o.mul d x) o.one b))
      (facts.then o l (alike_ring o l (c ∷ d ∷ x ∷ []) (search alike_reading depth 30) refl)
      (facts.then o l (l.mul_same d d (o.mul c x) o.one (l.same_refl d) a) (l.mul_one d))))

  pair-then : (f g h : Fraction E) → IsSamePair o f g → IsSamePair o g h → IsSamePair o f h
  pair-then f g h a b = record { numerator = q.same_trans f.0 g.0 h.0 a.numerator b.numerator; denominator = q.same_trans f.1 g.1 h.1 a.denominator b.denominator }

  pair-back : (f g : Fraction E) → IsSamePair o f g → IsSamePair o g f
  pair-back f g s = record { numerator = q.same_sym f.0 g.0 s.numerator; denominator = q.same_sym f.1 g.1 s.denominator }

  -- ---- the steps

  stripped-one : (f g h : Fraction E) → IsStripped o f g → IsStripped o f h → IsSamePair o g h
  stripped-one f g h a b = record { numerator = part f.0 g.0 h.0 a.whole.numerator b.whole.numerator; denominator = part f.1 g.1 h.1 a.whole.denominator b.whole.denominator }
    where
      same : same_monomial a.monomial b.monomial ≡ true
      same = same_from a.monomial b.monomial (λ k. omega (arith, divides-at a.monomial b.monomial (b.divisor.greatest a.monomial a.divisor.common) k, divides-at b.monomial a.monomial (a.divisor.greatest b.monomial b.divisor.common) k))

      part : (x y z : Polynomial E) → IsSame P x (term_product o (a.monomial, o.one) y) → IsSame P x (term_product o (b.monomial, o.one) z) → IsSame P y z
      part x y z s t =
          let first : IsSame P x (product o ((a.monomial, o.one) ∷ []) y) = subst (IsSame P x) (by_term o l F (a.monomial, o.one) y) s in
          let second : IsSame P x (product o ((b.monomial, o.one) ∷ []) z) = subst (IsSame P x) (by_term o l F (b.monomial, o.one) z) t in
          product-cancel y z ((a.monomial, o.one) ∷ []) (monomial-nonzero o l F a.monomial ((a.monomial, o.one) ∷ []) (q.same_refl ((a.monomial, o.one) ∷ [])))
          (facts.then P q (q.mul_comm y ((a.monomial, o.one) ∷ []))
          (facts.then P q (q.same_sym x (product o ((a.monomial, o.one) ∷ []) y) first)
          (facts.then P q second
          (facts.then P q (q.mul_same ((b.monomial, o.one) ∷ []) ((a.monomial, o.one) ∷ []) z z (q.same_sym ((a.monomial, o.one) ∷ []) ((b.monomial, o.one) ∷ []) (one-term a.monomial b.monomial o.one o.one same (l.same_refl o.one))) (q.same_refl z))
          (q.mul_comm ((a.monomial, o.one) ∷ []) z)))))

  stripped-nonzero : (f g : Fraction E) → is_zero o f.0 ≡ false → IsStripped o f g → is_zero o g.0 ≡ false
  stripped-nonzero f g some s = not_true o l F (is_zero o g.0) (λ z. true≢false (sym (is_zero-same o l f.0 (product o ((s.monomial, o.one) ∷ []) g.0) (subst (IsSame P f.0) (by_term o l F (s.monomial, o.one) g.0) s.whole.numerator) ∙ zero_product o l F ((s.monomial, o.one) ∷ []) g.0 z) ∙ some))

  -- a quotient of one pair is one of the other
  moved : (a b c d k : Polynomial E) → IsSame P a c → IsSame P b d → IsSame P a (product o k b) → IsSame P c (product o k d)
  moved a b c d k s t e = facts.then P q (q.same_sym a c s) (facts.then P q e (q.mul_same k k b d (q.same_refl k) t))

  one-quotient : (a b c d j k : Polynomial E) → is_zero o a ≡ false → IsSame P a c → IsSame P b d → IsSame P a (product o j b) → IsSame P c (product o k d) → IsSame P j k
  one-quotient a b c d j k some s t e f =
      product-cancel j k b (not_true o l F (is_zero o b) (λ z. true≢false (sym (is_zero-same o l a (product o j b) e ∙ zero_product o l F j b z) ∙ some)))
      (facts.then P q (q.same_sym a (product o j b) e) (moved c d a b k (q.same_sym a c s) (q.same_sym b d t) f))

  divided-one : (f g x y : Fraction E) → is_zero o f.0 ≡ false → is_zero o f.1 ≡ false → IsSamePair o f g → IsDivided o f x → IsDivided o g y → IsSamePair o x y
  divided-one f g _ _ a b s (whole j e) (whole k d) = record { numerator = one-quotient f.0 f.1 g.0 g.1 j k a s.numerator s.denominator e d; denominator = q.same_refl (constant o o.one) }
  divided-one f g _ _ a b s (whole j e) (reciprocal k no_way d) = absurd (no_way (j, moved f.0 f.1 g.0 g.1 j s.numerator s.denominator e))
  divided-one f g _ _ a b s (whole j e) (neither no_way other) = absurd (no_way (j, moved f.0 f.1 g.0 g.1 j s.numerator s.denominator e))
  divided-one f g _ _ a b s (reciprocal j no_way e) (whole k d) = absurd (no_way (k, moved g.0 g.1 f.0 f.1 k (q.same_sym f.0 g.0 s.numerator) (q.same_sym f.1 g.1 s.denominator) d))
  divided-one f g _ _ a b s (reciprocal j no_way e) (reciprocal k other d) = record { numerator = q.same_refl (constant o o.one); denominator = one-quotient f.1 f.0 g.1 g.0 j k b s.denominator s.numerator e d }
  divided-one f g _ _ a b s (reciprocal j no_way e) (neither first other) = absurd (other (j, moved f.1 f.0 g.1 g.0 j s.denominator s.numerator e))
  divided-one f g _ _ a b s (neither no_way other) (whole k d) = absurd (no_way (k, moved g.0 g.1 f.0 f.1 k (q.same_sym f.0 g.0 s.numerator) (q.same_sym f.1 g.1 s.denominator) d))
  divided-one f g _ _ a b s (neither no_way other) (reciprocal k first d) = absurd (other (k, moved g.1 g.0 f.1 f.0 k (q.same_sym f.1 g.1 s.denominator) (q.same_sym f.0 g.0 s.numerator) d))
  divided-one f g _ _ a b s (neither no_way other) (neither first second) = s

  -- what can be scaled has a denominator that is not zero, and so had what it was divided from
  has-nonzero : (d : Polynomial E) (c : E) → InvertsLead o d c → is_zero o d ≡ false
  has-nonzero d c h = is_zero-false o l d h.lead h.leads.has

  divided-nonzero : (g h : Fraction E) → is_zero o g.0 ≡ false → is_zero o h.1 ≡ false → IsDivided o g h → is_zero o g.1 ≡ false
  divided-nonzero g _ a b (whole k e) = not_true o l F (is_zero o g.1) (λ z. true≢false (sym (is_zero-same o l g.0 (product o k g.1) e ∙ zero_product o l F k g.1 z) ∙ a))
  divided-nonzero g _ a b (reciprocal k no_way e) = is_zero-same o l g.1 (product o k g.0) e ∙ product-nonzero o l F k g.0 b a
  divided-nonzero g _ a b (neither no_way other) = b

  scale-one : (c d : E) (f x y : Polynomial E) → IsSame o c d → IsSame P x (scale o c f) → IsSame P y (scale o d f) → IsSame P x y
  scale-one c d f x y e s t =
      let first : IsSame P x (product o (constant o c) f) = subst (IsSame P x) (by_term o l F ([], c) f) s in
      let second : IsSame P y (product o (constant o d) f) = subst (IsSame P y) (by_term o l F ([], d) f) t in
      facts.then P q first (facts.then P q (q.mul_same (constant o c) (constant o d) f f (one-term [] [] c d (same_monomial_refl []) e) (q.same_refl f)) (q.same_sym y (product o (constant o d) f) second))

  scaled-one : (f x y : Fraction E) → IsScaled o f x → IsScaled o f y → IsSamePair o x y
  scaled-one f x y a b = record { numerator = scale-one a.factor b.factor f.0 x.0 y.0 same a.scaled.numerator b.scaled.numerator; denominator = scale-one a.factor b.factor f.1 x.1 y.1 same a.scaled.denominator b.scaled.denominator }
    where
      leads : coefficient o f.1 b.inverts.lead ≡ coefficient o f.1 a.inverts.lead
      leads = sym (coefficient-same_monomial o f.1 a.inverts.lead b.inverts.lead (one-lead f.1 a.inverts.lead b.inverts.lead a.inverts.leads b.inverts.leads))

      same : IsSame o a.factor b.factor
      same = one-inverse (coefficient o f.1 a.inverts.lead) a.factor b.factor a.inverts.inverse (subst (λ x. IsSame o (o.mul b.factor x) o.one) leads b.inverts.inverse)

  -- ---- the whole

  pub cancelled-one : (f r s : Fraction E) → IsCancelled o f r → IsCancelled o f s → IsSamePair o r s
  cancelled-one f _ _ (zero r z a) (zero s y b) = pair-then r (over_one o []) s a (pair-back s (over_one o []) b)
  cancelled-one f _ _ (zero r z a) (nonzero g h s y b c d) = absurd (true≢false (sym z ∙ y))
  cancelled-one f _ _ (nonzero g h r y b c d) (zero s z a) = absurd (true≢false (sym z ∙ y))
  cancelled-one f _ _ (nonzero g h r z a b c) (nonzero g' h' s z' a' b' c') =
      let top : is_zero o g.0 ≡ false = stripped-nonzero f g z a in
      let bottom : is_zero o g.1 ≡ false = divided-nonzero g h top (has-nonzero h.1 c.factor c.inverts) b in
      let between : IsSamePair o h h' = divided-one g g' h h' top bottom (stripped-one f g g' a a') b b' in
      scaled-one h' r s (scaled-same o l F h h' r between c) c'

-- in their stored form they are one pair
pub stored-one : (p v : ℕ) (f r s : Fraction ℕ) → IsTrue (is_listed p) → IsCancelled (residue_ops p) f r → IsCancelled (residue_ops p) f s → IsStored p v r → IsStored p v s → r ≡ s
stored-one p v f r s listed a b left right =
    let same = cancelled-one (residue_ops p) (residue_laws p) (residue_field_laws p) f r s a b in
    let x = stored p v r left in
    let y = stored p v s right in
    ap₂ (λ (n d : Polynomial ℕ). (n, d)) (equal-normal p v listed r.0 s.0 x.numerator y.numerator same.numerator) (equal-normal p v listed r.1 s.1 x.denominator y.denominator same.denominator)
