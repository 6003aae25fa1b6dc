-- Repeated products, substitutions and combinations, a step at a time, with the rule on degrees.
--   times_all-append, products_fit-append      some of the factors, and then the others
--   times_all-same, products_fit-same          they depend on the coefficients of the first factor alone
--   products_fit-push, -stuck, -more, -front   whether more factors fit
--   factors-take_more                          one variable more
--   value-append                               a sum over some of the terms, and then the others
--   combination-push, combination_fits-push    one product more
use Rattle.std.proofs.Common.{◌≡◌, ℕ, zero, suc, ◌+◌, ◌<◌, ◌≤◌, Bool, true, false, ◌&&◌, List, [], ◌∷◌, ◌++◌, length, get_or, take, drop, refl, sym, ap, ◌∙◌, arith, add-one, append_assoc, append-nil, zero-add}
use Rattle.std.specs.Prelude.{replicate}
use Rattle.rinv_algebra.specs.Ring.{RingOps, RingLaws, IsSame}
use Rattle.rinv_algebra.specs.Polynomial.{Polynomial, product, poly_ops}
use Rattle.rinv_algebra.specs.Value.{factors, times_all, value}
use Rattle.rinv_algebra.specs.Ideal.{combination}
use Rattle.rinv_algebra.specs.Fits.{product_fits, products_fit, combination_fits}
use Rattle.rinv_algebra.proofs.PolynomialLaws.{poly_laws}
use Rattle.rinv_algebra.proofs.RingFacts as facts
use Rattle.rinv_algebra.proofs.Degrees.{product_fits-same}

-- a conjunction in two ways
pub and_assoc : (a b c : Bool) → ((a && b) && c) ≡ (a && (b && c))
and_assoc true b c = refl
and_assoc false b c = refl

pub and_false : (b : Bool) → (b && false) ≡ false
and_false true = refl
and_false false = refl

pub replicate-split : {A : Type 0} (x : A) (j k : ℕ) → replicate (j + k) x ≡ replicate j x ++ replicate k x
replicate-split x zero k = ap (λ n. replicate n x) (zero-add k)
replicate-split x (suc j) k = (let e : suc j + k ≡ suc (j + k) = omega arith in rw e (ap (λ xs. x ∷ xs) (replicate-split x j k)))

pub replicate-more : {A : Type 0} (x : A) (k : ℕ) → replicate (k + 1) x ≡ replicate k x ++ x ∷ []
replicate-more x k = rw add-one (go x k)
  where
    go : {A : Type 0} (x : A) (k : ℕ) → replicate (suc k) x ≡ replicate k x ++ x ∷ []
    go x zero = refl
    go x (suc k) = ap (λ xs. x ∷ xs) (go x k)

-- ---- products of many factors

pub times_all-append : {A : Type 0} (o : RingOps A) (x : A) (ys zs : List A) → times_all o x (ys ++ zs) ≡ times_all o (times_all o x ys) zs
unfolding times_all
times_all-append o x [] zs = refl
times_all-append o x (y ∷ ys) zs = times_all-append o (o.mul x y) ys zs

pub times_all-same : {A : Type 0} (o : RingOps A) (l : RingLaws o) (x x' : A) (ys : List A) → IsSame o x x' → IsSame o (times_all o x ys) (times_all o x' ys)
unfolding times_all
times_all-same o l x x' [] e = e
times_all-same o l x x' (y ∷ ys) e = times_all-same o l (o.mul x y) (o.mul x' y) ys (l.mul_same x x' y y e (l.same_refl y))

factors-take_suc : {A : Type 0} (d : A) (point : List A) (es : List ℕ) (k : ℕ) → k < length point → k < length es
    → factors (take (suc k) point) (take (suc k) es) ≡ factors (take k point) (take k es) ++ replicate (get_or es k 0) (get_or point k d)
unfolding factors
factors-take_suc d [] es k a b = absurd (omega arith)
factors-take_suc d (x ∷ point) [] k a b = absurd (omega arith)
factors-take_suc d (x ∷ point) (e ∷ es) zero a b = append-nil (replicate e x)
factors-take_suc d (x ∷ point) (e ∷ es) (suc k) a b =
    ap (λ xs. replicate e x ++ xs) (factors-take_suc d point es k (omega arith) (omega arith)) ∙ sym (append_assoc (replicate e x) (factors (take k point) (take k es)) _)

-- the factors of one variable more
pub factors-take_more : {A : Type 0} (d : A) (point : List A) (es : List ℕ) (k : ℕ) → k < length point → k < length es
    → factors (take (k + 1) point) (take (k + 1) es) ≡ factors (take k point) (take k es) ++ replicate (get_or es k 0) (get_or point k d)
factors-take_more d point es k a b = rw add-one (factors-take_suc d point es k a b)

-- the factors of some of the variables, and then the others
pub factors-split : {A : Type 0} (point : List A) (es : List ℕ) (k : ℕ) → k ≤ length point → length point ≡ length es → factors point es ≡ factors (take k point) (take k es) ++ factors (drop k point) (drop k es)
unfolding factors
factors-split point es zero a e = refl
factors-split [] es (suc k) a e = absurd (omega arith)
factors-split (x ∷ point) [] (suc k) a e = absurd (omega arith)
factors-split (x ∷ point) (n ∷ es) (suc k) a e =
    ap (λ xs. replicate n x ++ xs) (factors-split point es k (omega arith) (omega (arith, e))) ∙ sym (append_assoc (replicate n x) (factors (take k point) (take k es)) _)

-- a sum over some of the terms, and then the others
pub value-append : {E A : Type 0} (o : RingOps A) (l : RingLaws o) (embed : E → A) (point : List A) (f g : Polynomial E) → IsSame o (value o embed point (f ++ g)) (o.add (value o embed point f) (value o embed point g))
unfolding value
value-append o l embed point [] g = facts.back o l (facts.zero_add o l (value o embed point g))
value-append o l embed point (t ∷ f) g =
    let here = times_all o (embed t.1) (factors point t.0) in
    facts.then o l (facts.add2 o l (l.same_refl here) (value-append o l embed point f g))
    (facts.back o l (l.add_assoc here (value o embed point f) (value o embed point g)))

module _ {E : Type 0} (o : RingOps E) (l : RingLaws o) where
  pub products_fit-append : (f : Polynomial E) (gs hs : List (Polynomial E)) → products_fit o f (gs ++ hs) ≡ (products_fit o f gs && products_fit o (times_all (poly_ops o) f gs) hs)
  unfolding products_fit times_all
  products_fit-append f [] hs = refl
  products_fit-append f (g ∷ gs) hs = ap (λ (b : Bool). product_fits o f g && b) (products_fit-append (product o f g) gs hs) ∙ sym (and_assoc (product_fits o f g) _ _)

  pub products_fit-same : (f f' : Polynomial E) (gs : List (Polynomial E)) → IsSame (poly_ops o) f f' → products_fit o f gs ≡ products_fit o f' gs
  unfolding products_fit
  products_fit-same f f' [] e = refl
  products_fit-same f f' (g ∷ gs) e =
      let p = poly_laws o l in
      let rest = products_fit-same (product o f g) (product o f' g) gs (p.mul_same f f' g g e (p.same_refl g)) in
      rw (product_fits-same o l f f' g g e (p.same_refl g), rest) refl

  -- all of the factors fit where some do, and then one more
  pub products_fit-push : (f h : Polynomial E) (gs : List (Polynomial E)) (g : Polynomial E) → IsSame (poly_ops o) h (times_all (poly_ops o) f gs) → products_fit o f gs ≡ true → product_fits o h g ≡ true → products_fit o f (gs ++ g ∷ []) ≡ true
  unfolding products_fit
  products_fit-push f h gs g s a b =
      let p = poly_laws o l in
      let here : product_fits o (times_all (poly_ops o) f gs) g ≡ true = sym (product_fits-same o l h (times_all (poly_ops o) f gs) g g s (p.same_refl g)) ∙ b in
      products_fit-append f gs (g ∷ []) ∙ rw (a, here) refl

  -- they do not where one more does not
  pub products_fit-stuck : (f h : Polynomial E) (gs : List (Polynomial E)) (g : Polynomial E) (hs : List (Polynomial E)) → IsSame (poly_ops o) h (times_all (poly_ops o) f gs) → product_fits o h g ≡ false → products_fit o f (gs ++ g ∷ hs) ≡ false
  unfolding products_fit
  products_fit-stuck f h gs g hs s b =
      let p = poly_laws o l in
      let here : product_fits o (times_all (poly_ops o) f gs) g ≡ false = sym (product_fits-same o l h (times_all (poly_ops o) f gs) g g s (p.same_refl g)) ∙ b in
      products_fit-append f gs (g ∷ hs) ∙ rw here (and_false (products_fit o f gs))

  -- many factors more
  pub products_fit-more : (f h : Polynomial E) (gs hs : List (Polynomial E)) (b : Bool) → IsSame (poly_ops o) h (times_all (poly_ops o) f gs) → products_fit o f gs ≡ true → products_fit o h hs ≡ b → products_fit o f (gs ++ hs) ≡ b
  products_fit-more f h gs hs b s a e =
      products_fit-append f gs hs ∙ rw (a, ← products_fit-same h (times_all (poly_ops o) f gs) hs s) e

  -- the first ones do not fit, and so the whole
  pub products_fit-front : (f : Polynomial E) (gs hs : List (Polynomial E)) → products_fit o f gs ≡ false → products_fit o f (gs ++ hs) ≡ false
  products_fit-front f gs hs e = products_fit-append f gs hs ∙ rw e refl

  -- ---- combinations

  pub combination-append : (us vs fs gs : List (Polynomial E)) → length us ≡ length fs → combination o (us ++ vs) (fs ++ gs) ≡ combination o us fs ++ combination o vs gs
  unfolding combination
  combination-append [] vs [] gs e = refl
  combination-append [] vs (f ∷ fs) gs e = absurd (omega (arith, e))
  combination-append (u ∷ us) vs [] gs e = absurd (omega (arith, e))
  combination-append (u ∷ us) vs (f ∷ fs) gs e = ap (λ (h : Polynomial E). product o u f ++ h) (combination-append us vs fs gs (omega (arith, e))) ∙ sym (append_assoc (product o u f) _ _)

  pub combination_fits-append : (us vs fs gs : List (Polynomial E)) → length us ≡ length fs → combination_fits o (us ++ vs) (fs ++ gs) ≡ (combination_fits o us fs && combination_fits o vs gs)
  unfolding combination_fits
  combination_fits-append [] vs [] gs e = refl
  combination_fits-append [] vs (f ∷ fs) gs e = absurd (omega (arith, e))
  combination_fits-append (u ∷ us) vs [] gs e = absurd (omega (arith, e))
  combination_fits-append (u ∷ us) vs (f ∷ fs) gs e = ap (λ (b : Bool). product_fits o u f && b) (combination_fits-append us vs fs gs (omega (arith, e))) ∙ sym (and_assoc (product_fits o u f) _ _)

  combination-one : (u f : Polynomial E) → combination o (u ∷ []) (f ∷ []) ≡ product o u f
  unfolding combination
  combination-one u f = append-nil (product o u f)

  combination_fits-one : (u f : Polynomial E) → combination_fits o (u ∷ []) (f ∷ []) ≡ product_fits o u f
  unfolding combination_fits
  combination_fits-one u f = and_true_right (product_fits o u f)
    where
      and_true_right : (b : Bool) → (b && true) ≡ b
      and_true_right true = refl
      and_true_right false = refl

  -- one product more
  pub combination-push : (us fs : List (Polynomial E)) (u f : Polynomial E) → length us ≡ length fs → combination o (us ++ u ∷ []) (fs ++ f ∷ []) ≡ combination o us fs ++ product o u f
  combination-push us fs u f e = combination-append us (u ∷ []) fs (f ∷ []) e ∙ ap (λ (h : Polynomial E). combination o us fs ++ h) (combination-one u f)

  pub combination_fits-push : (us fs : List (Polynomial E)) (u f : Polynomial E) → length us ≡ length fs → combination_fits o (us ++ u ∷ []) (fs ++ f ∷ []) ≡ (combination_fits o us fs && product_fits o u f)
  combination_fits-push us fs u f e = combination_fits-append us (u ∷ []) fs (f ∷ []) e ∙ ap (λ (b : Bool). combination_fits o us fs && b) (combination_fits-one u f)
