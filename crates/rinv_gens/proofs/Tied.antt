-- Coefficients that are tied stay so as generators are added.
--   value-later, terms-later, relations-later    with more generators
--   terms-more, relations-more                   one more
--   tied-constant, tied-earlier, tied-new        what a coefficient is tied to
use Rattle.std.proofs.Common.{◌≡◌, ℕ, ◌+◌, ◌-◌, ◌<◌, ◌≤◌, Bool, true, false, List, [], ◌∷◌, ◌++◌, length, length-append, get_or, map, take, refl, sym, ap, ◌∙◌, subst, subst₂, arith}
use Rattle.std.specs.Prelude.{◌||◌, if◌then◌else◌}
use Rattle.std.specs.List.{AllZip, range_with_len}
use Rattle.std.proofs.lemmas.List.Folds.{list_any_at}
use Rattle.std.proofs.lemmas.List.FromFn.{length-range_with_len, get_or-range_with_len}
use Rattle.std.proofs.lemmas.List.{get_or_append_left, get_or-append-add, get_or_default, map_push}
use Rattle.rinv_algebra.specs.Ring.{IsSame}
use Rattle.rinv_algebra.specs.Residue.{residue_ops}
use Rattle.rinv_algebra.specs.Polynomial.{constant}
use Rattle.rinv_algebra.proofs.ResidueField.{residue_field_laws}
use Rattle.rinv_algebra.proofs.ResidueLaws.{residue_laws}
use Rattle.rinv_theory.proofs.Fields.{fraction_laws}
use Rattle.rinv_sub.proofs.Sums.{take-at}
use Rattle.rinv_defs.specs.Generators.{rational_ops, over_1}
use Rattle.rinv_defs.specs.Invariant.{Fraction}
use Rattle.rinv_defs.specs.Certificate.{Tied, to_constant, to_generator}
use Rattle.rinv_defs.specs.Extended.{FractionPoly, Relation}
use Rattle.rinv_coefficients.specs.Coefficients.{is_among, is_constant}
use Rattle.rinv_coefficients.specs.Ties.{HasValueOf, TiedRelation, Ties}
use Rattle.rinv_gens.specs.Numbering.{with_new}

-- one more at the end of both lists
pub zip-push : {A B : Type 0} (R : A → B → Type 0) (xs : List A) (ys : List B) (x : A) (y : B) → AllZip R xs ys → R x y → AllZip R (xs ++ x ∷ []) (ys ++ y ∷ [])
zip-push R [] [] x y h r = (r, tt)
zip-push R [] (b ∷ ys) x y h r = absurd h
zip-push R (a ∷ xs) [] x y h r = absurd h
zip-push R (a ∷ xs) (b ∷ ys) x y h r = (h.0, zip-push R xs ys x y h.1 r)

module _ (p : ℕ) where
  -- with more generators
  pub value-later : (cs ds : List Fraction) (t : Tied) (f : Fraction) → HasValueOf p cs t f → HasValueOf p (cs ++ ds) t f
  value-later cs ds (to_constant v) f h = h
  value-later cs ds (to_generator k) f h = (
    h.0,
    omega (arith, h.1, length-append cs ds),
    subst (λ (g : Fraction). IsSame (rational_ops p) f g) (sym (get_or_append_left cs ds (rational_ops p).one (k - 1) (omega (arith, h.0, h.1)))) h.2,
  )

  -- a term is tied
  abbrev pub IsTiedTerm : List Fraction → List ℕ × Tied → List ℕ × Fraction → Type 0
  IsTiedTerm cs t u = (t.0 ≡ u.0) × HasValueOf p cs t.1 u.1

  pub terms-later : (cs ds : List Fraction) (ts : List (List ℕ × Tied)) (us : FractionPoly) → AllZip (IsTiedTerm cs) ts us → AllZip (IsTiedTerm (cs ++ ds)) ts us
  terms-later cs ds [] [] h = tt
  terms-later cs ds [] (u ∷ us) h = absurd h
  terms-later cs ds (t ∷ ts) [] h = absurd h
  terms-later cs ds (t ∷ ts) (u ∷ us) h = ((h.0.0, value-later cs ds t.1 u.1 h.0.1), terms-later cs ds ts us h.1)

  pub relations-later : (cs ds : List Fraction) (qs : List TiedRelation) (rs : List Relation) → AllZip (Ties p cs) qs rs → AllZip (Ties p (cs ++ ds)) qs rs
  relations-later cs ds [] [] h = tt
  relations-later cs ds [] (r ∷ rs) h = absurd h
  relations-later cs ds (q ∷ qs) [] h = absurd h
  relations-later cs ds (q ∷ qs) (r ∷ rs) h = (record { lead = h.0.lead; tail = terms-later cs ds q.tail r.tail h.0.tail }, relations-later cs ds qs rs h.1)

  -- one term more
  pub terms-more : {W : Type 0} (view : W → List ℕ × Tied) (cs next : List Fraction) (list : FractionPoly) (k : ℕ) (u : List ℕ × Fraction) (made : List W) (w : W) → (more : (ds : List Fraction) × (next ≡ cs ++ ds))
      → k < length list → u ≡ get_or list k u → AllZip (IsTiedTerm cs) (map view made) (take k list) → IsTiedTerm next (view w) u → AllZip (IsTiedTerm next) (map view (made ++ w ∷ [])) (take (k + 1) list)
  terms-more view cs next list k u made w (ds, e) few at so_far here =
      subst₂ (AllZip (IsTiedTerm next)) (sym (map_push view made w)) (sym (take-at list k u few at))
      (zip-push (IsTiedTerm next) (map view made) (take k list) (view w) u
      (subst (λ (fs : List Fraction). AllZip (IsTiedTerm fs) (map view made) (take k list)) (sym e) (terms-later cs ds (map view made) (take k list) so_far)) here)

  -- one relation more
  pub relations-more : (cs ds next : List Fraction) (list : List Relation) (k : ℕ) (r : Relation) (made : List TiedRelation) (q : TiedRelation) → next ≡ cs ++ ds
      → k < length list → r ≡ get_or list k r → AllZip (Ties p cs) made (take k list) → Ties p next q r → AllZip (Ties p next) (made ++ q ∷ []) (take (k + 1) list)
  relations-more cs ds next list k r made q e few at so_far here =
      subst (AllZip (Ties p next) (made ++ q ∷ [])) (sym (take-at list k r few at))
      (zip-push (Ties p next) made (take k list) q r (subst (λ (fs : List Fraction). AllZip (Ties p fs) made (take k list)) (sym e) (relations-later cs ds made (take k list) so_far)) here)

-- ---- what a coefficient is tied to

module _ (p : ℕ) (cs : List Fraction) (c : Fraction) where
  -- a number
  pub tied-constant : (v : ℕ) → v < p → IsSame (rational_ops p) c (over_1 p (constant (residue_ops p) v)) → (with_new p cs c ≡ cs) × HasValueOf p cs (to_constant v) c
  tied-constant v low value = (left-out (is_constant p c) number, (low, value))
    where
      number : is_constant p c ≡ true
      number = list_any_at (λ v. (rational_ops p).same c (over_1 p (constant (residue_ops p) v))) (range_with_len 0 p) v 0 (omega (arith, low, length-range_with_len 0 p))
          (subst (λ (k : ℕ). (rational_ops p).same c (over_1 p (constant (residue_ops p) k)) ≡ true) (sym (place v low)) value)
        where
          place : (v : ℕ) → v < p → get_or (range_with_len 0 p) v 0 ≡ v
          place v low = let e : 0 + v ≡ v = omega arith in get_or-range_with_len 0 p v 0 low ∙ e

      left-out : (b : Bool) → b ≡ true → (if b || is_among p cs c then cs else cs ++ c ∷ []) ≡ cs
      left-out b e = rw e refl

  -- a generator that there is
  pub tied-earlier : (k : ℕ) → k < length cs → is_constant p c ≡ false → (rational_ops p).same (get_or cs k c) c ≡ true → (with_new p cs c ≡ cs) × HasValueOf p cs (to_generator (k + 1)) c
  tied-earlier k few none same = (
    left-out (is_constant p c) (is_among p cs c) none (list_any_at (λ d. (rational_ops p).same d c) cs k c few same),
    (omega arith, omega (arith, few), value),
  )
    where
      left-out : (b d : Bool) → b ≡ false → d ≡ true → (if b || d then cs else cs ++ c ∷ []) ≡ cs
      left-out b d e h = rw (e, h) refl

      before : k + 1 - 1 ≡ k
      before = omega arith

      value : IsSame (rational_ops p) c (get_or cs (k + 1 - 1) (rational_ops p).one)
      value = subst (λ (j : ℕ). IsSame (rational_ops p) c (get_or cs j (rational_ops p).one)) (sym before)
          (subst (λ (d : Fraction). IsSame (rational_ops p) c d) (get_or_default cs k c (rational_ops p).one few)
          ((fraction_laws (residue_ops p) (residue_laws p) (residue_field_laws p)).same_sym (get_or cs k c) c same))

  -- a new one
  pub tied-new : is_constant p c ≡ false → is_among p cs c ≡ false → (next : List Fraction) (d : Fraction) (n : ℕ) → d ≡ c → next ≡ cs ++ d ∷ [] → n ≡ length next → (next ≡ with_new p cs c) × HasValueOf p next (to_generator n) c
  tied-new none new next d n same is long = (
    is ∙ ap (λ (e : Fraction). cs ++ e ∷ []) same ∙ sym (added (is_constant p c) (is_among p cs c) none new),
    (omega (arith, number), omega (arith, long), value),
  )
    where
      added : (b d : Bool) → b ≡ false → d ≡ false → (if b || d then cs else cs ++ c ∷ []) ≡ cs ++ c ∷ []
      added b d e h = rw (e, h) refl

      number : n ≡ length cs + 1
      number = long ∙ ap (λ (ds : List Fraction). length ds) is ∙ length-append cs (d ∷ [])

      last : n - 1 ≡ length cs + 0
      last = omega (arith, number)

      value : IsSame (rational_ops p) c (get_or next (n - 1) (rational_ops p).one)
      value = subst (λ (e : Fraction). IsSame (rational_ops p) c e)
          (sym (ap (λ (ds : List Fraction). get_or ds (n - 1) (rational_ops p).one) is ∙ ap (λ (j : ℕ). get_or (cs ++ d ∷ []) j (rational_ops p).one) last ∙ get_or-append-add cs (d ∷ []) 0 (rational_ops p).one ∙ same))
          ((fraction_laws (residue_ops p) (residue_laws p) (residue_field_laws p)).same_refl c)
