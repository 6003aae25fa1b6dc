-- Orders of monomials that descend only finitely often. A comparison of the first variables, as grevlex or a block order, becomes
-- such an order of all monomials: where it ties, the last variable decides.
--   IsWellOrder 𝓞        nothing is below 1, and the monomials descend only finitely often
--   order_of_well        an order from a comparison of lists is one, where the comparison is
--   extended cmp         the comparison, and where it ties the last variable: extended_order, extended_well
--   extended-less        what is less in the comparison is below
use Rattle.std.proofs.Common.{◌≡◌, ◌⊎◌, ℕ, suc, ◌≤◌, ◌+◌, Bool, true, false, ◌&&◌, List, [], ◌∷◌, length, replicate, refl, sym, ap, ap₂, ◌∙◌, arith, subst, inl, inr, true≢false}
use Rattle.std.specs.Prelude.{◌||◌}
use Rattle.std.specs.Cmp.{IsTotalOrder}
use Rattle.std.specs.Ordering.{is_lt, is_eq, ordering_reverse}
use Rattle.std.specs.declared.cmp.Ordering.{Ordering}
use Rattle.std.specs.declared.cmp.Ordering.TheVariants.{Less, Equal, Greater}
use Rattle.std.proofs.lemmas.Cmp.{tied_itself}
use Rattle.std.proofs.lemmas.List.{length-replicate}
use mathlib.Core.WellFounded.{Acc, Acc-prop, WellFounded}
use Rattle.rinv_algebra.specs.Monomial.{same_monomial, monomial_product}
use Rattle.rinv_algebra.proofs.MonomialLaws.{same_monomial-product, same_monomial-of_length, monomial_product_comm}
use Rattle.rinv_theory.proofs.Monoid.{Monoid, IsOne, Monomial, monomial, monomials, monomial_ind, monomial-one}
use Rattle.rinv_theory.proofs.Leads.{MonomialOrder}
use Rattle.rinv_theory.proofs.ListOrders.{ListOrder, order_of, below-less}
use Rattle.rinv_theory.proofs.LastVariable.{later, later-nil, later_order, later_well_founded}

-- nothing is below 1, and the monomials descend only finitely often
pub record IsWellOrder {M : Type 0} {𝓜 : Monoid M} (𝓞 : MonomialOrder 𝓜) : Type 0 where
  pub least : (m : M) → 𝓞.below m 𝓜.one → ⊥
  pub well_founded : WellFounded 𝓞.below

module _ (less : List ℕ → List ℕ → Bool) (l : ListOrder less) where
  abbrev Below : Monomial → Monomial → Type 0
  Below m n = (order_of less l).below m n

  acc-monomial : (a : List ℕ) → Acc (λ a b. less a b ≡ true) a → Acc Below (monomial a)
  acc-monomial a (Acc.intro x h) = Acc.intro (monomial x) (λ m. monomial_ind (λ m. Below m (monomial x) → Acc Below m) (λ m. hlevel (Acc-prop {r = Below} {x = m})) (λ b p. acc-monomial b (h b (below-less less l b x p))) m)

  -- where the comparison is
  pub order_of_well : ((a : List ℕ) → less a [] ≡ false) → WellFounded (λ a b. less a b ≡ true) → IsWellOrder (order_of less l)
  order_of_well none w = record {
    least = monomial_ind (λ m. Below m monomials.one → ⊥) (λ m. hlevel) (λ a p. true≢false (sym (below-less less l a [] (subst (Below (monomial a)) (sym monomial-one) p)) ∙ none a));
    well_founded = record { apply = monomial_ind (λ m. Acc Below m) (λ m. Acc-prop) (λ a. acc-monomial a (w.apply a)) };
  }

-- a comparison, and where it ties the last variable
abbrev pub extended : (List ℕ → List ℕ → Ordering) → List ℕ → List ℕ → Bool
extended cmp a b = is_lt (cmp a b) || (is_eq (cmp a b) && later a b)

-- a factor that is longer gives its length to the product
length-product_longer : (a z : List ℕ) → length a ≤ length z → length (monomial_product a z) ≡ length z
unfolding monomial_product
length-product_longer [] z h = refl
length-product_longer (x ∷ a) [] h = absurd (omega arith)
length-product_longer (x ∷ a) (y ∷ z) h = ap suc (length-product_longer a z (omega arith))

module _ (cmp : List ℕ → List ℕ → Ordering) (total : IsTotalOrder cmp) (kept : (a b m : List ℕ) → cmp (monomial_product a m) (monomial_product b m) ≡ cmp a b) where
  -- lists that are one monomial tie
  pub tied : (a b : List ℕ) → IsOne a b → cmp a b ≡ Equal
  tied a b e =
      let zeros : List ℕ = replicate (length a + length b) 0 in
      let count : length zeros ≡ length a + length b = length-replicate (length a + length b) 0 in
      let left : length (monomial_product a zeros) ≡ length zeros = length-product_longer a zeros (omega (arith, count)) in
      let right : length (monomial_product b zeros) ≡ length zeros = length-product_longer b zeros (omega (arith, count)) in
      sym (kept a b zeros)
      ∙ ap (λ x. cmp x (monomial_product b zeros)) (same_monomial-of_length (monomial_product a zeros) (monomial_product b zeros) (left ∙ sym right) (same_monomial-product a b zeros e))
      ∙ tied_itself total (monomial_product b zeros)

  -- what is less is less, or ties and is later
  extended_cases : (a b : List ℕ) → extended cmp a b ≡ true → (cmp a b ≡ Less) ⊎ ((cmp a b ≡ Equal) × (later a b ≡ true))
  extended_cases a b h = go (cmp a b) refl h
    where
      go : (o : Ordering) → cmp a b ≡ o → (is_lt o || (is_eq o && later a b)) ≡ true → (cmp a b ≡ Less) ⊎ ((cmp a b ≡ Equal) × (later a b ≡ true))
      go Less e h = inl e
      go Equal e h = inr (e, h)
      go Greater e h = absurd (true≢false (sym h))

  -- what is less in the comparison is below
  pub extended-less : (a b : List ℕ) → cmp a b ≡ Less → extended cmp a b ≡ true
  extended-less a b e = rw e refl

  extended-tied : (a b : List ℕ) → cmp a b ≡ Equal → later a b ≡ true → extended cmp a b ≡ true
  extended-tied a b e h = rw (e, h) refl

  tie_trans : (a b c : List ℕ) → cmp a b ≡ Equal → cmp b c ≡ Equal → cmp a c ≡ Equal
  tie_trans a b c e h = total.congr a b c e ∙ h

  tie_sym : (a b : List ℕ) → cmp a b ≡ Equal → cmp b a ≡ Equal
  tie_sym a b e = total.antisymm b a ∙ ap ordering_reverse e

  less_tie : (a b c : List ℕ) → cmp a b ≡ Less → cmp b c ≡ Equal → cmp a c ≡ Less
  less_tie a b c h e = total.antisymm a c ∙ ap ordering_reverse (sym (total.congr b c a e)) ∙ sym (total.antisymm a b) ∙ h

  tie_less : (a b c : List ℕ) → cmp a b ≡ Equal → cmp b c ≡ Less → cmp a c ≡ Less
  tie_less a b c e h = total.congr a b c e ∙ h

  extended_trans : (a b c : List ℕ) → extended cmp a b ≡ true → extended cmp b c ≡ true → extended cmp a c ≡ true
  extended_trans a b c h k = go (extended_cases a b h) (extended_cases b c k)
    where
      go : (cmp a b ≡ Less) ⊎ ((cmp a b ≡ Equal) × (later a b ≡ true)) → (cmp b c ≡ Less) ⊎ ((cmp b c ≡ Equal) × (later b c ≡ true)) → extended cmp a c ≡ true
      go (inl h) (inl k) = extended-less a c (total.trans a b c h k)
      go (inl h) (inr (e, k)) = extended-less a c (less_tie a b c h e)
      go (inr (e, h)) (inl k) = extended-less a c (tie_less a b c e k)
      go (inr (e, h)) (inr (i, k)) = extended-tied a c (tie_trans a b c e i) (later_order.trans a b c h k)

  extended_total : (a b : List ℕ) → extended cmp a b ≡ false → extended cmp b a ≡ false → same_monomial a b ≡ true
  extended_total a b h k = go (cmp a b) refl
    where
      go : (o : Ordering) → cmp a b ≡ o → same_monomial a b ≡ true
      go Less e = absurd (true≢false (sym (extended-less a b e) ∙ h))
      go Greater e = absurd (true≢false (sym (extended-less b a (total.antisymm b a ∙ ap ordering_reverse e)) ∙ k))
      go Equal e = later_order.total a b (off a b e h) (off b a (tie_sym a b e) k)
        where
          off : (a b : List ℕ) → cmp a b ≡ Equal → extended cmp a b ≡ false → later a b ≡ false
          off a b e h = sym (rw e refl) ∙ h

  extended_product : (c a b : List ℕ) → extended cmp a b ≡ true → extended cmp (monomial_product c a) (monomial_product c b) ≡ true
  extended_product c a b h = go (extended_cases a b h)
    where
      kept_left : cmp (monomial_product c a) (monomial_product c b) ≡ cmp a b
      kept_left = ap₂ cmp (monomial_product_comm c a) (monomial_product_comm c b) ∙ kept a b c

      go : (cmp a b ≡ Less) ⊎ ((cmp a b ≡ Equal) × (later a b ≡ true)) → extended cmp (monomial_product c a) (monomial_product c b) ≡ true
      go (inl h) = extended-less _ _ (kept_left ∙ h)
      go (inr (e, h)) = extended-tied _ _ (kept_left ∙ e) (later_order.product c a b h)

  -- it orders the monomials
  pub extended_order : ListOrder (extended cmp)
  extended_order = record {
    irreflexive = λ a b e. rw (tied a b e) (later_order.irreflexive a b e);
    trans = extended_trans;
    total = extended_total;
    product = extended_product;
  }

  abbrev Cmp : List ℕ → List ℕ → Type 0
  Cmp a b = cmp a b ≡ Less

  abbrev Ext : List ℕ → List ℕ → Type 0
  Ext a b = extended cmp a b ≡ true

  -- by the comparison, and then by the last variable
  acc_tied : (x : List ℕ) → ((b : List ℕ) → Cmp b x → (c : List ℕ) → cmp c b ≡ Equal → Acc Ext c) → (a : List ℕ) → cmp a x ≡ Equal → Acc (λ a b. later a b ≡ true) a → Acc Ext a
  acc_tied x lower a e (Acc.intro y h) = Acc.intro y (λ b p. step b (extended_cases b y p) (λ i t. acc_tied x lower b (tie_trans b y x i e) (h b t)))
    where
      step : (b : List ℕ) → (cmp b y ≡ Less) ⊎ ((cmp b y ≡ Equal) × (later b y ≡ true)) → (cmp b y ≡ Equal → later b y ≡ true → Acc Ext b) → Acc Ext b
      step b (inl l) again = lower b (less_tie b y x l e) b (tied_itself total b)
      step b (inr (i, t)) again = again i t

  acc_cmp : (x : List ℕ) → Acc Cmp x → (a : List ℕ) → cmp a x ≡ Equal → Acc Ext a
  acc_cmp x (Acc.intro y h) a e = acc_tied y (λ b l c i. acc_cmp b (h b l) c i) a e (later_well_founded.apply a)

  -- the order of the monomials, and that they descend only finitely often
  pub extended_well : ((a : List ℕ) → ¬ (cmp a [] ≡ Less)) → WellFounded (λ a b. cmp a b ≡ Less) → IsWellOrder (order_of (extended cmp) extended_order)
  extended_well least w = order_of_well (extended cmp) extended_order none (record { apply = λ a. acc_cmp a (w.apply a) a (tied_itself total a) })
    where
      none : (a : List ℕ) → extended cmp a [] ≡ false
      none a = go (cmp a []) refl
        where
          go : (o : Ordering) → cmp a [] ≡ o → (is_lt o || (is_eq o && later a [])) ≡ false
          go Less e = absurd (least a e)
          go Equal e = later-nil a
          go Greater e = refl
