-- A multiple of a tail is added, term by term.
--   factor-below, factor-low     the terms of a multiple are below the monomial that a relation replaces
--   product-term                 a product of fractions that are not zero
--   adding-start, adding-more    the terms so far
--   product-meets, sum-meets     the degrees that a term may answer
--   multiple-behind              terms above all others stay as they are
use Rattle.std.proofs.Common.{◌≡◌, ℕ, suc, ◌<◌, ◌≤◌, ◌+◌, ◌⊎◌, inl, inr, Bool, true, false, List, [], ◌∷◌, ◌++◌, length, get_or, take, drop, take_all, refl, sym, ◌∙◌, ap, subst, arith, All, IsTrue, true≢false}
use Rattle.std.proofs.lemmas.Bool.{cases_order}
use Rattle.std.proofs.lemmas.List.Elements.{All-head, Contains-append_right}
use Rattle.std.specs.Cmp.{nat_cmp_is}
use Rattle.std.specs.Ordering.{ordering_then}
use Rattle.std.specs.declared.cmp.Ordering.{Ordering}
use Rattle.std.specs.declared.cmp.Ordering.TheVariants.{Less, Greater}
use Rattle.rinv_algebra.specs.Residue.{residue_ops}
use Rattle.rinv_algebra.specs.Monomial.{monomial_product, quotient, divides, total_degree, max_degree}
use Rattle.rinv_algebra.specs.Order.{grevlex, last_cmp}
use Rattle.rinv_algebra.specs.Polynomial.{is_zero}
use Rattle.rinv_algebra.specs.Fraction.{fraction_product, fraction_ops}
use Rattle.rinv_algebra.proofs.BlockOrder.{sum-product}
use Rattle.rinv_algebra.proofs.Grevlex.{grevlex_laws}
use Rattle.rinv_algebra.proofs.MonomialLaws.{monomial_product_comm}
use Rattle.rinv_algebra.proofs.ResidueField.{residue_field_laws}
use Rattle.rinv_algebra.proofs.ResidueLaws.{residue_laws}
use Rattle.rinv_algebra.proofs.RingFacts as facts
use Rattle.rinv_theory.proofs.Fields.{fraction_laws}
use Rattle.rinv_ring.specs.Fault.{DegreesMeet}
use Rattle.rinv_ring.specs.Operation.{multiplies}
use Rattle.rinv_ring.specs.declared.fault.RingFault.{RingFault}
use Rattle.rinv_poly.proofs.Dividing.{product-quotient}
use Rattle.rinv_poly.proofs.Meets.{meet-weaker}
use Rattle.rinv_defs.specs.Invariant.{Fraction}
use Rattle.rinv_defs.specs.Extended.{Relation, FractionPoly}
use Rattle.rinv_frac.specs.Arithmetic.{IsProduct}
use Rattle.rinv_frac.specs.Faults.{fractions_meet}
use Rattle.rinv_frac.specs.Fractions.{IsStored}
use Rattle.rinv_frac.proofs.CancelledValues.{cancelled-value}
use Rattle.rinv_frac.proofs.Stored.{stored}
use Rattle.rinv_frac.proofs.Sums.{product-nonzero}
use Rattle.rinv_frac.proofs.Values.{zero-value}
use Rattle.rinv_tails.specs.Stored.{IsTailTerm, IsTail, IsStoredRelation}
use Rattle.rinv_tails.specs.Reducing.{IsAdded, AreAdded, start, next, AddingMeets, MultipleMeets}
use Rattle.rinv_tails.proofs.AddedTerms.{added-below, added-behind}
use Rattle.rinv_tails.proofs.Tails.{Below, all-left, all-right, at-place, take-at}

-- what is less in grevlex has no greater degree
pub less-degree : (a b : List ℕ) → grevlex a b ≡ Less → total_degree a ≤ total_degree b
less-degree a b e = elim (cases_order (total_degree a) (total_degree b)) [
  | inl same ↦ omega (arith, same)
  | inr (inl below) ↦ omega (arith, below)
  | inr (inr above) ↦ absurd (clash (subst (λ (o : Ordering). ordering_then o (last_cmp a b) ≡ Less) (sym (nat_cmp_is (total_degree a) (total_degree b) Greater above)) e))
]
  where
    clash : Greater ≡ Less → ⊥
    clash e = cc

-- the multiple of a monomial below the lead
pub factor-below : (m lead n : List ℕ) → length m ≡ length lead → IsTrue (divides lead m) → grevlex n lead ≡ Less → grevlex (monomial_product (quotient m lead) n) m ≡ Less
factor-below m lead n same divides less =
    let q = quotient m lead in
    let whole : monomial_product q lead ≡ m = product-quotient m lead divides same in
    let kept : grevlex (monomial_product n q) (monomial_product lead q) ≡ Less = grevlex_laws.kept n lead q ∙ less in
    subst (λ (x : List ℕ). grevlex (monomial_product q n) x ≡ Less) whole
    (subst (λ (x : List ℕ). grevlex (monomial_product q n) x ≡ Less) (monomial_product_comm lead q)
    (subst (λ (x : List ℕ). grevlex x (monomial_product lead q) ≡ Less) (monomial_product_comm n q) kept))

-- its degree is no greater
pub factor-low : (m lead n : List ℕ) → length m ≡ length lead → IsTrue (divides lead m) → grevlex n lead ≡ Less → total_degree m ≤ max_degree → total_degree (quotient m lead) + total_degree n ≤ max_degree
factor-low m lead n same divides less low =
    let q = quotient m lead in
    let a = less-degree (monomial_product q n) m (factor-below m lead n same divides less) in
    let b = sum-product q n in
    omega (arith, a, b, low)

as-long : (a b : List ℕ) → length a ≡ length b → length (monomial_product a b) ≡ length a
unfolding monomial_product
as-long [] b e = sym e
as-long (x ∷ a) [] e = absurd (omega (arith, e))
as-long (x ∷ a) (y ∷ b) e = ap suc (as-long a b (omega (arith, e)))

-- a product has as many exponents as its factors
pub product-length : (v : ℕ) (a b : List ℕ) → length a ≡ v → length b ≡ v → length (monomial_product a b) ≡ v
product-length v a b la lb = as-long a b (la ∙ sym lb) ∙ la

module _ (p v : ℕ) where
  -- the product of two fractions that are not zero is none
  pub product-nonzero_of : (c e d : Fraction) → IsStored p v c → IsStored p v e → is_zero (residue_ops p) c.0 ≡ false → is_zero (residue_ops p) e.0 ≡ false → IsProduct (residue_ops p) c e d → is_zero (residue_ops p) d.0 ≡ false
  product-nonzero_of c e d sc se nc ne made = go (is_zero (residue_ops p) d.0) refl
    where
      dens : is_zero (residue_ops p) (fraction_product (residue_ops p) c e).1 ≡ false
      dens = product-nonzero (residue_ops p) (residue_laws p) (residue_field_laws p) c.1 e.1 (stored p v c sc).nonzero (stored p v e se).nonzero

      nums : is_zero (residue_ops p) (fraction_product (residue_ops p) c e).0 ≡ false
      nums = product-nonzero (residue_ops p) (residue_laws p) (residue_field_laws p) c.0 e.0 nc ne

      go : (z : Bool) → is_zero (residue_ops p) d.0 ≡ z → is_zero (residue_ops p) d.0 ≡ false
      go false z = z
      go true z =
          let o = fraction_ops (residue_ops p) in
          let l = fraction_laws (residue_ops p) (residue_laws p) (residue_field_laws p) in
          let k = cancelled-value (residue_ops p) (residue_laws p) (residue_field_laws p) (fraction_product (residue_ops p) c e) d dens made in
          let none = zero-value (residue_ops p) (residue_laws p) d k.nonzero ∙ z in
          absurd (true≢false (sym (facts.then o l (facts.back o l k.value) none) ∙ zero-value (residue_ops p) (residue_laws p) (fraction_product (residue_ops p) c e) dens ∙ nums))

  -- a term of the multiple
  pub product-term : (m q : List ℕ) (c d : Fraction) (t : List ℕ × Fraction) → IsTailTerm p v (m, c) → IsTailTerm p v t → length q ≡ v → total_degree q + total_degree t.0 ≤ max_degree → length (monomial_product q t.0) ≡ v → IsStored p v d → IsProduct (residue_ops p) c t.1 d → IsTailTerm p v (monomial_product q t.0, d)
  product-term m q c d t this there vars low many stored made = record {
    vars = many;
    low = let b = sum-product q t.0 in omega (arith, low, b);
    fraction = stored;
    nonzero = product-nonzero_of c t.1 d this.fraction there.fraction this.nonzero there.nonzero made;
  }

  -- ---- the terms so far

  -- the first k terms of the multiple were added, all below m
  pub record IsAdding (q : List ℕ) (c : Fraction) (m : List ℕ) (f terms : FractionPoly) (k : ℕ) (g : FractionPoly) : Type 0 where
    pub added : AreAdded p v q c f (take k terms) g
    pub tail : IsTail p v g
    pub below : Below m g

  pub adding-start : (q : List ℕ) (c : Fraction) (m : List ℕ) (f terms : FractionPoly) → IsTail p v f → Below m f → IsAdding q c m f terms 0 f
  adding-start q c m f terms tail below = record { added = start; tail = tail; below = below }

  pub adding-more : (q : List ℕ) (c : Fraction) (m : List ℕ) (f terms : FractionPoly) (k : ℕ) (g h : FractionPoly) (t : List ℕ × Fraction) (d : Fraction) (n : List ℕ) → IsAdding q c m f terms k g → k < length terms → t ≡ get_or terms k t
      → IsProduct (residue_ops p) c t.1 d → n ≡ monomial_product q t.0 → grevlex (monomial_product q t.0) m ≡ Less → IsAdded p v n d g h → IsTail p v h → IsAdding q c m f terms (k + 1) h
  adding-more q c m f terms k g h t d n so_far low here made is less added tail = record {
    added = subst (λ (ts : FractionPoly). AreAdded p v q c f ts h) (sym (take-at terms k t low here)) (next (take k terms) t g h d so_far.added made one);
    tail = tail;
    below = added-below p v (monomial_product q t.0) m d g h less one so_far.below;
  }
    where
      one : IsAdded p v (monomial_product q t.0) d g h
      one = subst (λ (x : List ℕ). IsAdded p v x d g h) is added

  pub adding-all : (q : List ℕ) (c : Fraction) (m : List ℕ) (f terms : FractionPoly) (k : ℕ) (g : FractionPoly) → length terms ≤ k → IsAdding q c m f terms k g → AreAdded p v q c f terms g
  adding-all q c m f terms k g all h = subst (λ (ts : FractionPoly). AreAdded p v q c f ts g) (take_all k terms all) h.added

  -- what a term of a relation's tail is to the multiple
  pub record IsFactor (m lead : List ℕ) (t : List ℕ × Fraction) : Type 0 where
    pub term : IsTailTerm p v t
    pub low : total_degree (quotient m lead) + total_degree t.0 ≤ max_degree
    pub below : grevlex (monomial_product (quotient m lead) t.0) m ≡ Less

  pub factor-at : (m : List ℕ) (r : Relation) (k : ℕ) (t : List ℕ × Fraction) → length m ≡ v → total_degree m ≤ max_degree → IsStoredRelation p v r → IsTrue (divides r.lead m) → k < length r.tail → t ≡ get_or r.tail k t → IsFactor m r.lead t
  factor-at m r k t vars low good d inside here = record {
    term = subst (IsTailTerm p v) (sym here) (good.tail.terms k t inside);
    low = factor-low m r.lead t.0 (vars ∙ sym good.vars) d less low;
    below = factor-below m r.lead t.0 (vars ∙ sym good.vars) d less;
  }
    where
      less : grevlex t.0 r.lead ≡ Less
      less = subst (λ (u : List ℕ × Fraction). grevlex u.0 r.lead ≡ Less) (sym here) (good.below k t inside)

  -- ---- degrees

  module _ (q : List ℕ) (c : Fraction) (m : List ℕ) (f terms : FractionPoly) (k : ℕ) (g : FractionPoly) (t : List ℕ × Fraction) (so_far : IsAdding q c m f terms k g) (low : k < length terms) (here : t ≡ get_or terms k t) where
    pub product-meets : (fault : RingFault) → DegreesMeet (fractions_meet (residue_ops p) multiplies c t.1) fault → DegreesMeet (MultipleMeets p v q c terms f) fault
    product-meets = meet-weaker (fractions_meet (residue_ops p) multiplies c t.1) (MultipleMeets p v q c terms f) (λ x y meets. record {
      added = take k terms;
      factor = t;
      others = drop (suc k) terms;
      parts = at-place terms k t low here;
      so_far = g;
      is_so_far = so_far.added;
      meets = inl meets;
    })

    pub sum-meets : (n : List ℕ) (d : Fraction) → n ≡ monomial_product q t.0 → IsProduct (residue_ops p) c t.1 d → (fault : RingFault) → DegreesMeet (AddingMeets p v n d g) fault → DegreesMeet (MultipleMeets p v q c terms f) fault
    sum-meets n d is made = meet-weaker (AddingMeets p v n d g) (MultipleMeets p v q c terms f) (λ x y meets. record {
      added = take k terms;
      factor = t;
      others = drop (suc k) terms;
      parts = at-place terms k t low here;
      so_far = g;
      is_so_far = so_far.added;
      meets = inr (d, made, subst (λ (z : List ℕ). AddingMeets p v z d g x y) is meets);
    })

  -- ---- behind terms that are above

  -- the terms of the multiple are below m
  abbrev pub AreUnder : List ℕ → List ℕ → FractionPoly → Type 0
  AreUnder q m terms = All (λ t. grevlex (monomial_product q t.0) m ≡ Less) terms

  -- what is below m stays so
  pub multiple-below : (q : List ℕ) (c : Fraction) (m : List ℕ) (f terms g : FractionPoly) → AreUnder q m terms → Below m f → AreAdded p v q c f terms g → Below m g
  multiple-below q c m f _ _ under below start = below
  multiple-below q c m f _ _ under below (next terms t g h d so_far made added) =
      added-below p v (monomial_product q t.0) m d g h (All-head (λ u. grevlex (monomial_product q u.0) m ≡ Less) t [] (all-right (λ u. grevlex (monomial_product q u.0) m ≡ Less) terms (t ∷ []) under)) added
      (multiple-below q c m f terms g (all-left (λ u. grevlex (monomial_product q u.0) m ≡ Less) terms (t ∷ []) under) below so_far)

  pub multiple-behind : (q : List ℕ) (c : Fraction) (m : List ℕ) (done f terms g : FractionPoly) → IsTail p v done → All (λ t. grevlex m t.0 ≡ Less) done → AreUnder q m terms → Below m f → AreAdded p v q c f terms g → AreAdded p v q c (done ++ f) terms (done ++ g)
  multiple-behind q c m done f _ _ good above under below start = start
  multiple-behind q c m done f _ _ good above under below (next terms t g h d so_far made added) =
      let first = all-left (λ u. grevlex (monomial_product q u.0) m ≡ Less) terms (t ∷ []) under in
      let less = All-head (λ u. grevlex (monomial_product q u.0) m ≡ Less) t [] (all-right (λ u. grevlex (monomial_product q u.0) m ≡ Less) terms (t ∷ []) under) in
      next terms t (done ++ g) (done ++ h) d (multiple-behind q c m done f terms g good above first below so_far) made
      (added-behind p v (monomial_product q t.0) m d done g h good above less (multiple-below q c m f terms g first below so_far) added)

  -- so do the degrees that are met
  pub meets-behind : (q : List ℕ) (c : Fraction) (m : List ℕ) (done f terms : FractionPoly) → IsTail p v done → All (λ t. grevlex m t.0 ≡ Less) done → AreUnder q m terms → Below m f → (x y : ℕ) → MultipleMeets p v q c terms f x y → MultipleMeets p v q c terms (done ++ f) x y
  meets-behind q c m done f terms good above under below x y h = record {
    added = h.added;
    factor = h.factor;
    others = h.others;
    parts = h.parts;
    so_far = done ++ h.so_far;
    is_so_far = multiple-behind q c m done f h.added h.so_far good above (all-left (λ u. grevlex (monomial_product q u.0) m ≡ Less) h.added (h.factor ∷ h.others) (subst (AreUnder q m) h.parts under)) below h.is_so_far;
    meets = moved h.meets;
  }
    where
      moved : fractions_meet (residue_ops p) multiplies c h.factor.1 x y ⊎ ((product : Fraction) × IsProduct (residue_ops p) c h.factor.1 product × AddingMeets p v (monomial_product q h.factor.0) product h.so_far x y)
          → fractions_meet (residue_ops p) multiplies c h.factor.1 x y ⊎ ((product : Fraction) × IsProduct (residue_ops p) c h.factor.1 product × AddingMeets p v (monomial_product q h.factor.0) product (done ++ h.so_far) x y)
      moved (inl a) = inl a
      moved (inr (product, made, (there, stands, meets))) = inr (product, made, (there, Contains-append_right done h.so_far (monomial_product q h.factor.0, there) stands, meets))
