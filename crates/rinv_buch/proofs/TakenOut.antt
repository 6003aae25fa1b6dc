-- An element that is taken out of a list and put back.
--   put-back             the list is then the same
--   divisors-taken       the divisors of the others
--   divisors-nonzero     what has divisors is not zero
--   prepared-same        equal lists are prepared
use Rattle.std.proofs.Common.{◌≡◌, ℕ, zero, suc, ◌<◌, ◌+◌, Bool, List, [], ◌∷◌, length, get_or, map, refl, sym, ap, ap₂, false, ◌∙◌, subst, subst₂, inl, inr, arith, All}
use Rattle.std.specs.List.{insert, remove}
use Rattle.std.specs.declared.cmp.Ordering.{Ordering}
use Rattle.std.proofs.lemmas.Bool.{cases_lt}
use Rattle.std.proofs.lemmas.List.Edits.{length-remove, get_or-remove_below, get_or-remove_above}
use Rattle.std.proofs.lemmas.List.Elements.{All-from_get_or}
use Rattle.rinv_algebra.specs.Ring.{RingOps}
use Rattle.rinv_algebra.specs.Polynomial.{Polynomial, is_zero}
use Rattle.rinv_algebra.specs.Normal.{IsNormal}
use Rattle.rinv_algebra.specs.Leading.{leading_monomial}
use Rattle.rinv_div.specs.declared.divisors.Divisor.{Divisor}
use Rattle.rinv_div.specs.Divisors.{AreDivisors, IsDivisor}
use Rattle.rinv_buch.specs.declared.elements.Elements.{Elements}
use Rattle.rinv_buch.specs.Elements.{ArePrepared}

insert-remove : {X : Type 0} (xs : List X) (k : ℕ) (d : X) → k < length xs → insert (remove xs k) k (get_or xs k d) ≡ xs
insert-remove [] k d low = absurd (omega arith)
insert-remove (x ∷ xs) zero d low = refl
insert-remove (x ∷ xs) (suc k) d low = ap (λ ys. x ∷ ys) (insert-remove xs k d (omega (arith, low)))

-- the list is then the same
pub put-back : {X : Type 0} (xs ys zs : List X) (k : ℕ) (x : X) → k < length xs → x ≡ get_or xs k x → ys ≡ remove xs k → zs ≡ insert ys k x → zs ≡ xs
put-back {X} xs ys zs k x inside at taken put = put ∙ ap₂ (λ (ys : List X) (x : X). insert ys k x) taken at ∙ insert-remove xs k x inside

module _ {R E : Type 0} (o : RingOps E) (is_element : E → Bool) (v : ℕ) (cmp : List ℕ → List ℕ → Ordering) where
  -- the divisors of the others
  pub divisors-taken : (hs : List (Polynomial E)) (ds : List (Divisor R E)) (k : ℕ) → k < length hs → AreDivisors o is_element v cmp hs ds → AreDivisors o is_element v cmp (remove hs k) (remove ds k)
  divisors-taken hs ds k inside are = record {
    number = omega (arith, a, b, are.number);
    each = λ j d low. elim (cases_lt j k) [
      | inl before ↦ subst₂ (IsDivisor o is_element v cmp) (sym (get_or-remove_below hs k [] j before inside)) (sym (get_or-remove_below ds k d j before there)) (are.each j d (omega (arith, before, there)))
      | inr after ↦ subst₂ (IsDivisor o is_element v cmp) (sym (get_or-remove_above hs k [] j after inside)) (sym (get_or-remove_above ds k d j after there)) (are.each (j + 1) d (omega (arith, low, b)))
    ];
  }
    where
      a : length (remove hs k) + 1 ≡ length hs
      a = length-remove hs k inside

      there : k < length ds
      there = omega (arith, inside, are.number)

      b : length (remove ds k) + 1 ≡ length ds
      b = length-remove ds k there

  -- what has divisors is not zero
  pub divisors-nonzero : (hs : List (Polynomial E)) (ds : List (Divisor R E)) → AreDivisors o is_element v cmp hs ds → All (λ h. is_zero o h ≡ false) hs
  divisors-nonzero hs ds are = All-from_get_or (λ h. is_zero o h ≡ false) hs [] (λ k low. go ds (omega (arith, low, are.number)) are k low)
    where
      go : (ds : List (Divisor R E)) → 0 < length ds → AreDivisors o is_element v cmp hs ds → (k : ℕ) → k < length hs → is_zero o (get_or hs k []) ≡ false
      go [] none are k low = absurd (omega arith)
      go (d ∷ ds) some are k low = (are.each k d (omega (arith, low, are.number))).nonzero

  -- equal lists are prepared
  pub prepared-same : (before after : Elements R E) → ArePrepared o is_element v cmp before → after.polys.items ≡ before.polys.items → after.leads.items ≡ before.leads.items → after.divisors.list.items ≡ before.divisors.list.items → ArePrepared o is_element v cmp after
  prepared-same before after p polys leads divisors = record {
    normal = subst (All (IsNormal o is_element v)) (sym polys) p.normal;
    leads = leads ∙ p.leads ∙ ap (map (leading_monomial o cmp)) (sym polys);
    divisors = subst₂ (AreDivisors o is_element v cmp) (sym polys) (sym divisors) p.divisors;
  }
