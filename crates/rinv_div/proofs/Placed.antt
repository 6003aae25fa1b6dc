-- Terms are put where they belong in lists that ascend, from the greatest down.
use Rattle.std.proofs.Common.{◌≡◌, ℕ, zero, suc, ◌<◌, ◌≤◌, Bool, true, false, List, [], ◌∷◌, ◌++◌, length, get_or, set, take, drop, reverse, All, refl, sym, ap, ◌∙◌, arith, subst, inl, inr, append_assoc, append-nil}
use Rattle.std.specs.List.{remove, insert}
use Rattle.std.proofs.lemmas.Bool.{cases_Bool}
use Rattle.std.proofs.lemmas.List.{take-append-drop, reverse-append}
use Rattle.std.proofs.lemmas.List.Elements.{All-nil, All-head, All-tail, All-weaker}
use Rattle.std.specs.declared.cmp.Ordering.{Ordering}
use Rattle.std.specs.declared.cmp.Ordering.TheVariants.{Less}
use Rattle.rinv_algebra.specs.Ring.{RingOps, RingLaws, IsSame}
use Rattle.rinv_algebra.specs.Monomial.{total_degree, max_degree}
use Rattle.rinv_algebra.specs.MonomialOrder.{MonoOrderLaws}
use Rattle.rinv_algebra.specs.Polynomial.{Term, Polynomial, poly_ops}
use Rattle.rinv_poly.specs.Terms.{with_term}
use Rattle.rinv_poly.proofs.Gather.{same-then, same-equal}
use Rattle.rinv_poly.proofs.Moving.{reverse-last}
use Rattle.rinv_div.specs.Arranged.{AreChanges, AreChanged, IsPlaced, put_over, put_between, IsPlacedLast, term_between}
use Rattle.rinv_div.proofs.Arranging.{Below, Above, above-first, below-first, descend-above, arranged-nil, arranged-append, later-coefficient}
use Rattle.rinv_div.proofs.Replaced.{IsReplacing, replacing-kept, replacing-put, replacing-replaced}
use Rattle.rinv_div.proofs.MovedLast.{All-reverse, Replaces}

-- an item, what is before it, and what is behind
pub split-at : {X : Type 0} (f : List X) (k : ℕ) (d : X) → k < length f → f ≡ take k f ++ get_or f k d ∷ drop (suc k) f
split-at [] k d b = absurd (omega (arith, b))
split-at (x ∷ f) zero d b = refl
split-at (x ∷ f) (suc k) d b = ap (λ r. x ∷ r) (split-at f k d (omega (arith, b)))

pub set-split : {X : Type 0} (f : List X) (k : ℕ) (x : X) → k < length f → set f k x ≡ take k f ++ x ∷ drop (suc k) f
set-split [] k x b = absurd (omega (arith, b))
set-split (y ∷ f) zero x b = refl
set-split (y ∷ f) (suc k) x b = ap (λ r. y ∷ r) (set-split f k x (omega (arith, b)))

-- the parts from the end
reverse-split : {X : Type 0} (f first rest : List X) (x : X) → f ≡ first ++ x ∷ rest → reverse f ≡ reverse rest ++ x ∷ reverse first
reverse-split f first rest x e =
    ap reverse e ∙ reverse-append first (x ∷ rest) ∙ ap (λ r. r ++ reverse first) (reverse-append (x ∷ []) rest) ∙ append_assoc (reverse rest) (x ∷ []) (reverse first)

module _ {E : Type 0} (o : RingOps E) where
  -- the same from the end
  pub between-reversed : (f : Polynomial E) (i j : ℕ) (u : Term E) → reverse (term_between o f i j u) ≡ with_term o (reverse (drop j f)) u ++ reverse (take i f)
  between-reversed f i j u = elim (cases_Bool (o.same u.1 o.zero)) [
    | inl here ↦ rw here (reverse-append (take i f) (drop j f))
    | inr off ↦ rw off (reverse-append (take i f) (u ∷ drop j f) ∙ ap (λ (r : Polynomial E). r ++ reverse (take i f)) (reverse-append (u ∷ []) (drop j f)))
  ]

  -- what the edits of a list make
  pub set-between : (f : Polynomial E) (k : ℕ) (u : Term E) → k < length f → o.same u.1 o.zero ≡ false → set f k u ≡ term_between o f k (suc k) u
  set-between f k u b off = rw off (set-split f k u b)

  pub remove-between : (f : Polynomial E) (k : ℕ) (u : Term E) → o.same u.1 o.zero ≡ true → remove f k ≡ term_between o f k (suc k) u
  remove-between f k u here = rw here refl

  pub insert-between : (f : Polynomial E) (k : ℕ) (u : Term E) → o.same u.1 o.zero ≡ false → insert f k u ≡ term_between o f k k u
  insert-between f k u off = rw off refl

  pub same-between : (f : Polynomial E) (k : ℕ) (u : Term E) → o.same u.1 o.zero ≡ true → f ≡ term_between o f k k u
  same-between f k u here = rw here (sym (take-append-drop k f))

module _ {E : Type 0} (o : RingOps E) (l : RingLaws o) (is_element : E → Bool) (v : ℕ) (cmp : List ℕ → List ℕ → Ordering) (laws : MonoOrderLaws cmp) where
  -- changes below a term do not depend on it
  changed-over : (t : Term E) (f added us : Polynomial E) → Below cmp t.0 us → AreChanged o f added us → AreChanged o (t ∷ f) added us
  changed-over t f [] [] below h = tt
  changed-over t f [] (u ∷ us) below h = absurd h
  changed-over t f (r ∷ added) [] below h = absurd h
  changed-over t f (r ∷ added) (u ∷ us) below h =
      let less : cmp r.0 t.0 ≡ Less = subst (λ (m : List ℕ). cmp m t.0 ≡ Less) h.0.monomial (All-head (λ w. cmp w.0 t.0 ≡ Less) u us below) in (
        record {
          monomial = h.0.monomial;
          value = subst (λ (c : E). IsSame o u.1 (o.add c r.1)) (sym (later-coefficient cmp laws o l t f r.0 less)) h.0.value;
        },
        changed-over t f added us (All-tail (λ w. cmp w.0 t.0 ≡ Less) u us below) h.1,
      )

  changed-above : (out f added us : Polynomial E) → Above cmp out us → AreChanged o f added us → AreChanged o (out ++ f) added us
  changed-above [] f added us above h = h
  changed-above (t ∷ out) f added us above h = changed-over t (out ++ f) added us (All-head (λ s. Below cmp s.0 us) t out above) (changed-above out f added us (All-tail (λ s. Below cmp s.0 us) t out above) h)

  -- the greatest terms stay
  all-kept : (out above f us f0 us0 : Polynomial E) → Above cmp above us → IsReplacing o l is_element v cmp laws out (above ++ f) us f0 us0 → IsReplacing o l is_element v cmp laws (out ++ above) f us f0 us0
  all-kept out [] f us f0 us0 over h = subst (λ (r : Polynomial E). IsReplacing o l is_element v cmp laws r f us f0 us0) (sym (append-nil out)) h
  all-kept out (t ∷ above) f us f0 us0 over h =
      subst (λ (r : Polynomial E). IsReplacing o l is_element v cmp laws r f us f0 us0) (append_assoc out (t ∷ []) above)
      (all-kept (out ++ t ∷ []) above f us f0 us0 (All-tail (λ s. Below cmp s.0 us) t above over) (replacing-kept o l is_element v cmp laws out (above ++ f) us f0 us0 t h (All-head (λ s. Below cmp s.0 us) t above over)))

  -- what is done counts as left
  all-left : (out f us f0 us0 : Polynomial E) → IsReplacing o l is_element v cmp laws out f us f0 us0 → IsReplacing o l is_element v cmp laws [] (out ++ f) us f0 us0
  all-left out f us f0 us0 h = record {
    done = arranged-nil cmp o is_element v;
    left = arranged-append cmp o is_element v out f h.done h.left h.above_left;
    changes = h.changes;
    above_left = All-nil (λ t. Below cmp t.0 (out ++ f));
    above_changes = All-nil (λ t. Below cmp t.0 us);
    value = λ added changed.
        let p = h.value added changed in
        record {
          added = p.added;
          changed = changed-above out f p.added us h.above_changes p.changed;
          value = same-then o l ((out ++ f) ++ p.added) (out ++ (f ++ p.added)) (f0 ++ added) (same-equal o l ((out ++ f) ++ p.added) (out ++ (f ++ p.added)) (append_assoc out f p.added)) p.value;
        };
  }

  -- what is above the greatest change is above all
  over-changes : (above us : Polynomial E) (u : Term E) → AreChanges is_element v cmp (u ∷ us) → All (λ s. cmp u.0 s.0 ≡ Less) above → Above cmp above (u ∷ us)
  over-changes above us u n under = All-weaker (λ s. cmp u.0 s.0 ≡ Less) (λ s. Below cmp s.0 (u ∷ us)) (λ s less. below-first cmp laws s.0 u us n.descending less) above under

  -- a change where a term is left at its monomial
  pub placed-over : (above below us f0 us0 : Polynomial E) (t u : Term E) → IsReplacing o l is_element v cmp laws [] (above ++ t ∷ below) (u ∷ us) f0 us0 → t.0 ≡ u.0 → total_degree u.0 ≤ max_degree → IsReplacing o l is_element v cmp laws [] (with_term o above u ++ below) us f0 us0
  placed-over above below us f0 us0 t u h is low =
      let under : All (λ s. cmp u.0 s.0 ≡ Less) above = subst (λ (m : List ℕ). All (λ s. cmp m s.0 ≡ Less) above) is (above-first cmp above t below (descend-above cmp above (t ∷ below) h.left.descending)) in
      all-left (with_term o above u) below us f0 us0
      (replacing-replaced o l is_element v cmp laws above below us f0 us0 t u (all-kept [] above (t ∷ below) (u ∷ us) f0 us0 (over-changes above us u h.changes under) h) is low)

  -- a change where nothing is left at its monomial
  pub placed-between : (above below us f0 us0 : Polynomial E) (u : Term E) → IsReplacing o l is_element v cmp laws [] (above ++ below) (u ∷ us) f0 us0 → All (λ s. cmp u.0 s.0 ≡ Less) above → Below cmp u.0 below → total_degree u.0 ≤ max_degree → IsReplacing o l is_element v cmp laws [] (with_term o above u ++ below) us f0 us0
  placed-between above below us f0 us0 u h under over low =
      all-left (with_term o above u) below us f0 us0
      (replacing-put o l is_element v cmp laws above below us f0 us0 u (all-kept [] above below (u ∷ us) f0 us0 (over-changes above us u h.changes under) h) over low)

  -- either, in lists that ascend
  pub placed-term : (a a' us f0 us0 : Polynomial E) (u : Term E) → IsReplacing o l is_element v cmp laws [] (reverse a) (u ∷ us) f0 us0 → total_degree u.0 ≤ max_degree → IsPlaced o cmp a a' u → IsReplacing o l is_element v cmp laws [] (reverse a') us f0 us0
  placed-term a a' us f0 us0 u h low (put_over k b mono put) =
      let t : Term E = get_or a k u in
      let parts : reverse a ≡ reverse (drop (suc k) a) ++ t ∷ reverse (take k a) = reverse-split a (take k a) (drop (suc k) a) t (split-at a k u b) in
      subst (λ (r : Polynomial E). IsReplacing o l is_element v cmp laws [] r us f0 us0) (sym (ap reverse put ∙ between-reversed o a k (suc k) u))
      (placed-over (reverse (drop (suc k) a)) (reverse (take k a)) us f0 us0 t u (subst (λ (r : Polynomial E). IsReplacing o l is_element v cmp laws [] r (u ∷ us) f0 us0) parts h) (mono u) low)
  placed-term a a' us f0 us0 u h low (put_between k place put) =
      let parts : reverse a ≡ reverse (drop k a) ++ reverse (take k a) = ap reverse (sym (take-append-drop k a)) ∙ reverse-append (take k a) (drop k a) in
      subst (λ (r : Polynomial E). IsReplacing o l is_element v cmp laws [] r us f0 us0) (sym (ap reverse put ∙ between-reversed o a k k u))
      (placed-between (reverse (drop k a)) (reverse (take k a)) us f0 us0 u (subst (λ (r : Polynomial E). IsReplacing o l is_element v cmp laws [] r (u ∷ us) f0 us0) parts h)
      (All-reverse (λ s. cmp u.0 s.0 ≡ Less) (drop k a) place.above) (All-reverse (λ s. cmp s.0 u.0 ≡ Less) (take k a) place.below) low)

  -- the last change
  pub placed-last : (a a' b b' f0 us0 : Polynomial E) → Replaces o l is_element v cmp laws [] a b f0 us0 → IsPlacedLast o cmp b b' a a' → Replaces o l is_element v cmp laws [] a' b' f0 us0
  placed-last a a' b b' f0 us0 h m =
      placed-term a a' (reverse b') f0 us0 m.term (subst (λ (g : Polynomial E). IsReplacing o l is_element v cmp laws [] (reverse a) g f0 us0) (reverse-last b b' m.term m.taken) h) m.low m.placed

  -- the changes that are left are made at once
  pub placed-end : (a b new f0 us0 : Polynomial E) → Replaces o l is_element v cmp laws [] a b f0 us0 → ((added : Polynomial E) → AreChanged o (reverse a) added (reverse b) → IsSame (poly_ops o) (reverse new) (reverse a ++ added)) → (added : Polynomial E) → AreChanged o f0 added us0 → IsSame (poly_ops o) (reverse new) (f0 ++ added)
  placed-end a b new f0 us0 h merged added changed = let p = h.value added changed in same-then o l (reverse new) (reverse a ++ p.added) (f0 ++ added) (merged p.added p.changed) p.value
