-- A tail on its way: terms that no lead divides, and those that are left.
--   taken-first          the first of the terms that are left
--   term-falls           what is left reaches fewer monomials
--   settled, replaced    a term that no lead divides, and one that is replaced
--   step-meets           the degrees that a step may answer
use Rattle.std.proofs.Common.{◌≡◌, ℕ, ◌<◌, List, [], ◌∷◌, ◌++◌, length, get_or, append_assoc, append-nil, refl, sym, ◌∙◌, ap, subst, arith, All, IsTrue}
use Rattle.std.specs.Prelude.{IsFalse, remove}
use Rattle.std.specs.List.{list_all}
use Rattle.std.specs.Ordering.{is_lt, is_ge}
use Rattle.std.proofs.lemmas.Cmp.{tied_itself}
use Rattle.std.proofs.lemmas.List.Elements.{All-nil, All-head, All-tail, All-push, All-append, All-contains, All-weaker}
use Rattle.std.specs.declared.cmp.Ordering.TheVariants.{Less}
use Rattle.rinv_algebra.specs.Monomial.{quotient, divides}
use Rattle.rinv_algebra.specs.Order.{grevlex}
use Rattle.rinv_algebra.proofs.Grevlex.{grevlex_laws}
use Rattle.rinv_groebner.specs.Count.{count, reaches}
use Rattle.rinv_groebner.proofs.Falls.{reaches-less}
use Rattle.rinv_ring.specs.Fault.{DegreesMeet}
use Rattle.rinv_ring.specs.declared.fault.RingFault.{RingFault}
use Rattle.rinv_poly.proofs.Meets.{meet-weaker}
use Rattle.rinv_defs.specs.Invariant.{Fraction}
use Rattle.rinv_defs.specs.Extended.{Relation, FractionPoly, is_reducible}
use Rattle.rinv_tails.specs.Stored.{IsTailTerm, IsTail, IsStoredRelation, none}
use Rattle.rinv_tails.specs.Reducing.{IsNextTerm, Reduces, begin, step, AreAdded, MultipleMeets, TailMeets}
use Rattle.rinv_tails.proofs.Multiples.{AreUnder, factor-below, multiple-behind, meets-behind}
use Rattle.rinv_tails.proofs.Tails.{Below, all-left, all-right, tail-term, tail-rest, tail-below, tail-left, tail-right, tail-above, tail-append}
use Rattle.rinv_tails.proofs.AddedTerms.{over}

-- the first of a list that is not empty
pub taken-first : {X : Type 0} (xs ys : List X) (x : X) → 0 < length xs → x ≡ get_or xs 0 x → ys ≡ remove xs 0 → xs ≡ x ∷ ys
taken-first [] ys x some here rest = absurd (omega arith)
taken-first (z ∷ xs) ys x some here rest = rw (rest, here) refl

module _ (p v : ℕ) where
  -- terms below the first one reach fewer monomials than all
  pub term-falls : (t : List ℕ × Fraction) (left f new : FractionPoly) → f ≡ t ∷ left → IsTailTerm p v t → Below t.0 new → count v 10000 (reaches grevlex new) < count v 10000 (reaches grevlex f)
  term-falls t left f new e term below = subst (λ (h : FractionPoly). count v 10000 (reaches grevlex new) < count v 10000 (reaches grevlex h)) (sym e)
      (reaches-less grevlex grevlex_laws.total v 10000 (t ∷ left) new t.0 term.vars term.low (reached t.0 left) (all-lower new below))
    where
      reached : (m : List ℕ) (r : FractionPoly) → IsTrue (reaches grevlex ((m, t.1) ∷ r) m)
      reached m r = rw (ap is_ge (tied_itself grevlex_laws.total m)) refl

      all-lower : (g : FractionPoly) → Below t.0 g → IsTrue (list_all (λ u. is_lt (grevlex u.0 t.0)) g)
      all-lower [] all = refl
      all-lower (s ∷ g) all = rw (All-head (λ u. grevlex u.0 t.0 ≡ Less) s g all) (all-lower g (All-tail (λ u. grevlex u.0 t.0 ≡ Less) s g all))

  -- the tail f, after some steps by the relations: no lead divides a term of the first list
  pub record IsReducing (rs : List Relation) (f done left : FractionPoly) : Type 0 where
    pub steps : Reduces p v rs f (done ++ left)
    pub tail : IsTail p v (done ++ left)
    pub irreducible : All (λ t. IsFalse (is_reducible rs t.0)) done
    pub below : (n : List ℕ) → Below n f → Below n (done ++ left)

  pub reducing-start : (rs : List Relation) (f done : FractionPoly) → done ≡ [] → IsTail p v f → IsReducing rs f done f
  reducing-start rs f done e tail = rw e (record { steps = begin; tail = tail; irreducible = All-nil (λ t. IsFalse (is_reducible rs t.0)); below = λ n h. h })

  -- the first term of what is left
  module _ (rs : List Relation) (f done left : FractionPoly) (t : List ℕ × Fraction) (h : IsReducing rs f done (t ∷ left)) where
    front : IsTail p v (t ∷ left)
    front = tail-right p v done (t ∷ left) h.tail

    pub front-term : IsTailTerm p v t
    front-term = tail-term p v t left front

    pub front-left : IsTail p v left
    front-left = tail-rest p v t left front

    pub front-below : Below t.0 left
    front-below = tail-below p v t left front

    above : All (λ u. grevlex t.0 u.0 ≡ Less) done
    above = All-weaker (λ u. Below u.0 (t ∷ left)) (λ u. grevlex t.0 u.0 ≡ Less) (λ u b. All-head (λ w. grevlex w.0 u.0 ≡ Less) t left b) done (tail-above p v done (t ∷ left) h.tail)

    -- no lead divides it
    pub settled : (more : FractionPoly) → more ≡ done ++ t ∷ [] → IsFalse (is_reducible rs t.0) → IsReducing rs f more left
    settled more e off = rw e (record {
      steps = subst (Reduces p v rs f) same h.steps;
      tail = subst (IsTail p v) same h.tail;
      irreducible = All-push (λ u. IsFalse (is_reducible rs u.0)) done t h.irreducible off;
      below = λ n b. subst (Below n) same (h.below n b);
    })
      where
        same : done ++ (t ∷ left) ≡ (done ++ t ∷ []) ++ left
        same = sym (append_assoc done (t ∷ []) left)

    -- the first relation whose lead divides it
    module _ (place : ℕ) (inside : place < length rs) (divided : IsTrue (divides (get_or rs place none).lead t.0)) (first : (j : ℕ) → j < place → IsFalse (divides (get_or rs j none).lead t.0)) (good : IsStoredRelation p v (get_or rs place none)) where
      abbrev by : Relation
      by = get_or rs place none

      abbrev multiplier : List ℕ
      multiplier = quotient t.0 (get_or rs place none).lead

      under : AreUnder p v multiplier t.0 by.tail
      under k d within = factor-below t.0 by.lead (get_or by.tail k d).0 (front-term.vars ∙ sym good.vars) divided (good.below k d within)

      abbrev next_term : IsNextTerm p v rs (done ++ (t ∷ left)) t place
      next_term = record {
        before = done;
        after = left;
        stands = refl;
        greatest = λ u c. All-contains (λ w. IsFalse (is_reducible rs w.0)) done u h.irreducible c;
        inside = inside;
        divided = divided;
        first = first;
      }

      -- its multiple is put in its place
      pub replaced : (new : FractionPoly) → AreAdded p v multiplier t.1 left by.tail new → IsTail p v new → Below t.0 new → IsReducing rs f done new
      replaced new added tail below = record {
        steps = step (done ++ (t ∷ left)) (done ++ new) t place next_term h.steps (multiple-behind p v multiplier t.1 t.0 done left by.tail new (tail-left p v done (t ∷ left) h.tail) above under front-below added);
        tail = tail-append p v done new (tail-left p v done (t ∷ left) h.tail) tail (over p v t.0 done new above below);
        irreducible = h.irreducible;
        below = λ n b.
            let whole = h.below n b in
            let here = All-head (λ w. grevlex w.0 n ≡ Less) t left (all-right (λ w. grevlex w.0 n ≡ Less) done (t ∷ left) whole) in
            All-append (λ w. grevlex w.0 n ≡ Less) done new (all-left (λ w. grevlex w.0 n ≡ Less) done (t ∷ left) whole) (All-weaker (λ w. grevlex w.0 t.0 ≡ Less) (λ w. grevlex w.0 n ≡ Less) (λ w less. grevlex_laws.total.trans w.0 t.0 n less here) new below);
      }

      -- degrees are met as it is made
      pub step-meets : (fault : RingFault) → DegreesMeet (MultipleMeets p v multiplier t.1 by.tail left) fault → DegreesMeet (TailMeets p v rs f) fault
      step-meets = meet-weaker (MultipleMeets p v multiplier t.1 by.tail left) (TailMeets p v rs f) (λ x y meets. record {
        working = done ++ (t ∷ left);
        by_steps = h.steps;
        meets = record {
          term = t;
          place = place;
          next = next_term;
          meets = meets-behind p v multiplier t.1 t.0 done left by.tail (tail-left p v done (t ∷ left) h.tail) above under front-below x y meets;
        };
      })

  -- nothing is left
  pub reducing-end : (rs : List Relation) (f done left : FractionPoly) → length left ≡ 0 → IsReducing rs f done left → IsReducing rs f done []
  reducing-end rs f done [] e h = h
  reducing-end rs f done (t ∷ left) e h = absurd (omega (arith, e))

  pub whole-steps : (rs : List Relation) (f done : FractionPoly) → IsReducing rs f done [] → Reduces p v rs f done
  whole-steps rs f done h = subst (Reduces p v rs f) (append-nil done) h.steps

  pub whole-tail : (rs : List Relation) (f done : FractionPoly) → IsReducing rs f done [] → IsTail p v done
  whole-tail rs f done h = subst (IsTail p v) (append-nil done) h.tail

  pub whole-below : (rs : List Relation) (f done : FractionPoly) → IsReducing rs f done [] → (n : List ℕ) → Below n f → Below n done
  whole-below rs f done h n b = subst (Below n) (append-nil done) (h.below n b)
