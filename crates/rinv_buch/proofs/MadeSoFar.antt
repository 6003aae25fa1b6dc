-- The elements made so far, in ascending order.
--   AreMadeUpTo ks n made    made has, in some order, what is made at the first n places of ks
--   made-none, made-more     at the beginning, and after one more
--   made-nonzero, made-new   none is zero, and one more has another leading monomial
--   made-whole           at the end they are the reduced Gröbner basis
--   making-meets         a fault at a place
use Rattle.std.proofs.Common.{◌≡◌, ℕ, ◌<◌, ◌≤◌, ◌+◌, false, List, [], ◌∷◌, ◌++◌, length, length-append, get_or, sym, ◌∙◌, ap, subst, inl, inr, arith, All, Bool}
use Rattle.std.specs.Prelude.{IsFalse}
use Rattle.std.specs.List.Sorted.{IsPermutation}
use Rattle.std.specs.declared.cmp.Ordering.{Ordering}
use Rattle.std.proofs.lemmas.Bool.{cases_lt}
use Rattle.std.proofs.lemmas.List.{get_or_append_left, get_or_push}
use Rattle.std.proofs.lemmas.List.Elements.{All-from_get_or}
use Rattle.std.proofs.lemmas.List.Sorted.{IsPermutation-refl, IsPermutation-trans, IsPermutation-cons, IsPermutation-to_front, All-permutation}
use Rattle.rinv_algebra.specs.Ring.{RingOps, RingLaws, FieldLaws}
use Rattle.rinv_algebra.specs.Polynomial.{Polynomial, is_zero}
use Rattle.rinv_algebra.specs.Normal.{IsNormal}
use Rattle.rinv_algebra.specs.Leading.{leading_monomial}
use Rattle.rinv_theory.proofs.Monoid.{monomial, monomials}
use Rattle.rinv_ring.specs.Operation.{RingOp}
use Rattle.rinv_ring.specs.Fault.{DegreesMeet}
use Rattle.rinv_ring.specs.declared.fault.RingFault.{RingFault}
use Rattle.rinv_ring.specs.declared.fault.RingFault.TheVariants.{Degree, NoMemory}
use Rattle.rinv_groebner.specs.Orders.{OrdersMonomials}
use Rattle.rinv_groebner.specs.Basis.{IsGroebnerBasis}
use Rattle.rinv_groebner.specs.Reduced.{IsReducedGroebnerBasis, IsMadeAt, kept}
use Rattle.rinv_groebner.proofs.Ascending.{Has, has_at, place_of}
use Rattle.rinv_groebner.proofs.Compared.{InFirst}
use Rattle.rinv_groebner.proofs.Kept.{kept-in}
use Rattle.rinv_groebner.proofs.KeptDivisors.{kept-apart}
use Rattle.rinv_groebner.proofs.MadeAt.{IsFrom, made_from}
use Rattle.rinv_groebner.proofs.MadeLists.{made_reduced}
use Rattle.rinv_groebner.proofs.Permuted.{reduced-permuted}
use Rattle.rinv_groebner.proofs.Removed.{first_from}
use Rattle.rinv_buch.specs.Reducing.{MakingMeets, ReducingMeets}
use Rattle.rinv_buch.proofs.Makings.{kept-leads_apart, normal_first, rest_remains}

-- what holds of all elements of a list holds of one that is in it
all_in : {X : Type 0} (P : X → Type 0) (d : X) (xs : List X) → All P xs → {x : X} → Has x xs → P x
all_in P d xs all h = let (k, inside, e) = place_of d xs h in subst P e (all k d inside)

module _ {E : Type 0} (o : RingOps E) (cmp : List ℕ → List ℕ → Ordering) where
  -- made has, in some order, what is made at the first n places of ks
  pub record AreMadeUpTo (ks : List (Polynomial E)) (n : ℕ) (made : List (Polynomial E)) : Type 0 where
    pub gs : List (Polynomial E)
    pub number : length gs ≡ n
    pub each : (k : ℕ) → k < n → IsMadeAt o cmp ks k (get_or gs k [])
    pub moved : IsPermutation gs made

  -- at the beginning
  pub made-none : (ks : List (Polynomial E)) → AreMadeUpTo ks 0 []
  made-none ks = record { gs = []; number = omega arith; each = λ k low. absurd (omega (arith, low)); moved = IsPermutation-refl [] }

  -- after one more
  pub made-more : (ks made after : List (Polynomial E)) (n : ℕ) (g : Polynomial E) → AreMadeUpTo ks n made → IsMadeAt o cmp ks n g → IsPermutation (g ∷ made) after → AreMadeUpTo ks (n + 1) after
  made-more ks made after n g m at p = record {
    gs = m.gs ++ g ∷ [];
    number = let e = length-append m.gs (g ∷ []) in omega (arith, e, m.number);
    each = λ k low. elim (cases_lt k n) [
      | inl before ↦ subst (IsMadeAt o cmp ks k) (sym (get_or_append_left m.gs (g ∷ []) [] k (omega (arith, before, m.number)))) (m.each k before)
      | inr last ↦ let e : n ≡ k = omega (arith, last, low) in subst (λ (k : ℕ). IsMadeAt o cmp ks k (get_or (m.gs ++ g ∷ []) k [])) e (subst (IsMadeAt o cmp ks n) (sym (get_or_push m.gs g [] n m.number)) at)
    ];
    moved = IsPermutation-trans _ _ _ (IsPermutation-to_front m.gs g) (IsPermutation-trans _ _ _ (IsPermutation-cons g m.gs made m.moved) p);
  }

  -- a fault at a place
  pub making-meets : (is_element : E → Bool) (too_high : RingOp → E → E → ℕ → ℕ → Type 0) (v : ℕ) (hs ks : List (Polynomial E)) (k : ℕ) → ks ≡ kept o cmp hs → k < length ks → (fault : RingFault) → DegreesMeet (MakingMeets o is_element too_high v cmp ks k) fault → DegreesMeet (ReducingMeets o is_element too_high v cmp hs) fault
  making-meets is_element too_high v hs ks k same inside (Degree x y) meets = record {
    place = k;
    inside = subst (λ (ks : List (Polynomial E)). k < length ks) same inside;
    meets = subst (λ (ks : List (Polynomial E)). MakingMeets o is_element too_high v cmp ks k x y) same meets;
  }
  making-meets is_element too_high v hs ks k same inside NoMemory meets = tt

  module _ (l : RingLaws o) (field : FieldLaws o) (is_element : E → Bool) (v : ℕ) (order : OrdersMonomials cmp v) (hs : List (Polynomial E)) (normal : All (IsNormal o is_element v) hs) (nonzero : All (λ h. is_zero o h ≡ false) hs) where
    abbrev ks : List (Polynomial E)
    ks = kept o cmp hs

    kept_all : (P : Polynomial E → Type 0) → All P hs → All P ks
    kept_all P all = All-from_get_or P ks [] (λ k inside. all_in P [] hs all (kept-in o cmp hs [] hs (has_at [] ks k inside)))

    from : (k : ℕ) (g : Polynomial E) → k < length ks → IsMadeAt o cmp ks k g → IsFrom o l field cmp v order ks ks k g
    from k g inside m = made_from o l field cmp v order ks ks k g m
        (rest_remains o l cmp is_element v order ks (kept_all (IsNormal o is_element v) normal) (kept_all (λ h. is_zero o h ≡ false) nonzero) (kept-leads_apart o cmp hs) k inside m.steps m.rest m.division)

    -- what is made is not zero
    pub made_at-nonzero : (k : ℕ) (g : Polynomial E) → k < length ks → IsMadeAt o cmp ks k g → is_zero o g ≡ false
    made_at-nonzero k g inside m = (from k g inside m).nonzero

    pub made-nonzero : (n : ℕ) (made : List (Polynomial E)) → n ≤ length ks → AreMadeUpTo ks n made → All (λ h. is_zero o h ≡ false) made
    made-nonzero n made few m = All-permutation (λ h. is_zero o h ≡ false) m.gs made m.moved (All-from_get_or (λ h. is_zero o h ≡ false) m.gs [] (λ k low.
        made_at-nonzero k (get_or m.gs k []) (omega (arith, low, few, m.number)) (m.each k (omega (arith, low, m.number)))))

    -- and one more has another leading monomial
    pub made-new : (n : ℕ) (made : List (Polynomial E)) (g : Polynomial E) → n < length ks → AreMadeUpTo ks n made → IsMadeAt o cmp ks n g → All (λ h. leading_monomial o cmp h ≡ leading_monomial o cmp g → ⊥) made
    made-new n made g inside m at = All-permutation (λ h. leading_monomial o cmp h ≡ leading_monomial o cmp g → ⊥) m.gs made m.moved (All-from_get_or (λ h. leading_monomial o cmp h ≡ leading_monomial o cmp g → ⊥) m.gs [] (λ k low e.
        let below : k < n = omega (arith, low, m.number) in
        let first = (from k (get_or m.gs k []) (omega (arith, below, inside)) (m.each k below)).lead in
        let second = (from n g inside at).lead in
        kept-apart o cmp hs n k inside (omega (arith, below, inside)) (λ q. omega (arith, below, q)) (monomials.one, monomials.one_mul _ ∙ sym first ∙ ap monomial e ∙ second)))

    -- at the end they are the reduced Gröbner basis
    pub made-whole : (n : ℕ) (made : List (Polynomial E)) → n ≡ length ks → AreMadeUpTo ks n made → IsGroebnerBasis o cmp v hs hs → IsReducedGroebnerBasis o cmp v hs made
    made-whole n made whole m basis = reduced-permuted o l cmp v hs m.gs made m.moved
        (made_reduced o l field cmp v order hs hs (first_from o l v hs (λ h has. all_in (λ h. InFirst o l v h) [] hs (λ k d low. normal_first o l cmp is_element v (get_or hs k d) (normal k d low)) has)) (λ h has. all_in (λ h. IsFalse (is_zero o h)) [] hs nonzero has) basis m.gs
        (record { number = m.number ∙ whole; made = λ k low. m.each k (omega (arith, low, m.number)) }))
