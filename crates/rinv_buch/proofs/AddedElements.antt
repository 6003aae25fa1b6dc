-- An element more: what is prepared of it stands at its place.
use Rattle.std.proofs.Common.{◌≡◌, ℕ, ◌+◌, ◌<◌, Bool, true, false, not, List, [], ◌∷◌, ◌++◌, length, get_or, take, refl, sym, ap, ap₂, ◌∙◌, append-nil}
use Rattle.std.proofs.Math.Seq.{get_or-append_seam}
use Rattle.std.proofs.lemmas.List.{map-append}
use Rattle.std.proofs.lemmas.List.Elements.{All-nil, All-cons, All-append, filter_more}
use Rattle.std.specs.declared.cmp.Ordering.{Ordering}
use Rattle.rinv_algebra.specs.Ring.{RingOps, RingLaws}
use Rattle.rinv_algebra.specs.MonomialOrder.{MonoOrderLaws}
use Rattle.rinv_algebra.specs.Polynomial.{Polynomial, is_zero}
use Rattle.rinv_algebra.specs.Normal.{IsNormal}
use Rattle.rinv_algebra.specs.Leading.{leading_monomial}
use Rattle.rinv_groebner.specs.Journal.{nonzeros}
use Rattle.rinv_div.specs.Divisors.{AreDivisors, Adds}
use Rattle.rinv_div.specs.declared.divisors.Divisor.{Divisor}
use Rattle.rinv_buch.specs.declared.elements.Elements.{Elements}
use Rattle.rinv_buch.specs.Elements.{ArePrepared, AddsElement}
use Rattle.rinv_div.proofs.DividedBy.{divisors-nil, divisors-more}

module _ {E : Type 0} (o : RingOps E) (fs : List (Polynomial E)) (k : ℕ) (f : Polynomial E) (inside : k < length fs) (is : f ≡ get_or fs k f) where
  -- one place more, with a polynomial that is not zero
  pub nonzeros-more : (copy : Polynomial E) (before after : List (Polynomial E)) → is_zero o f ≡ false → copy ≡ f → before ≡ nonzeros o (take k fs) → after ≡ before ++ copy ∷ [] → after ≡ nonzeros o (take (k + 1) fs)
  nonzeros-more copy before after off same all more = more ∙ ap₂ (λ (xs : List (Polynomial E)) (x : Polynomial E). xs ++ x ∷ []) all same ∙ sym (filter_more (λ f. not (is_zero o f)) fs k f inside ∙ rw (sym is, off) refl)

  -- and with one that is
  pub nonzeros-same : is_zero o f ≡ true → nonzeros o (take k fs) ≡ nonzeros o (take (k + 1) fs)
  nonzeros-same on = sym (filter_more (λ f. not (is_zero o f)) fs k f inside ∙ rw (sym is, on) (append-nil (nonzeros o (take k fs))))

module _ {R E : Type 0} (o : RingOps E) (l : RingLaws o) (is_element : E → Bool) (v : ℕ) (cmp : List ℕ → List ℕ → Ordering) (laws : MonoOrderLaws cmp) where
  -- no element
  pub none-prepared : (es : Elements R E) → es.polys.items ≡ [] → es.leads.items ≡ [] → es.divisors.list.items ≡ [] → ArePrepared o is_element v cmp es
  none-prepared es p q r = record {
    normal = rw p (All-nil (IsNormal o is_element v));
    leads = rw (p, q) refl;
    divisors = rw (p, r) (divisors-nil o l is_element v cmp laws);
  }

  -- the lead of the divisor that was added is that of the polynomial
  pub added-lead : (hs : List (Polynomial E)) (h : Polynomial E) (ds after : List (Divisor R E)) → AreDivisors o is_element v cmp hs ds → Adds o is_element v cmp h ds after → (place : ℕ) (m : List ℕ) → place ≡ length hs → ((d : Divisor R E) → m ≡ (get_or after place d).lead) → m ≡ leading_monomial o cmp h
  added-lead hs h ds after are more place m at is =
      is more.added ∙ ap (λ (xs : List (Divisor R E)). (get_or xs place more.added).lead) more.items ∙ ap (λ (n : ℕ). (get_or (ds ++ more.added ∷ []) n more.added).lead) (at ∙ sym are.number)
      ∙ ap (λ (d : Divisor R E). d.lead) (get_or-append_seam ds more.added [] more.added) ∙ more.of_it.lead

  -- one element more
  pub adds-element : (h : Polynomial E) (before after : Elements R E) (m : List ℕ) → ArePrepared o is_element v cmp before → IsNormal o is_element v h → Adds o is_element v cmp h before.divisors.list.items after.divisors.list.items → m ≡ leading_monomial o cmp h
      → after.polys.items ≡ before.polys.items ++ h ∷ [] → after.leads.items ≡ before.leads.items ++ m ∷ [] → AddsElement o is_element v cmp h before after
  adds-element h before after m p n more lead polys leads = record {
    polys = polys;
    prepared = record {
      normal = rw polys (All-append (IsNormal o is_element v) before.polys.items (h ∷ []) p.normal (All-cons (IsNormal o is_element v) h [] n (All-nil (IsNormal o is_element v))));
      leads = rw (polys, leads, map-append (leading_monomial o cmp) before.polys.items (h ∷ []), p.leads, lead) refl;
      divisors = rw polys (divisors-more o l is_element v cmp laws before.polys.items h before.divisors.list.items after.divisors.list.items p.divisors more);
    };
  }
