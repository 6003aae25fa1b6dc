-- The first fault of a list of polynomials, as a function of the list.
use Rattle.std.proofs.Common.{◌≡◌, ◌⊎◌, inl, inr, ℕ, suc, List, [], ◌∷◌, ◌++◌, Option, Some, None, refl, ap, subst, ◌∙◌, arith}
use Rattle.std.specs.List.{All, Any}
use Rattle.std.proofs.lemmas.List.Elements.{All-cons, All-nil}
use Rattle.rinv_text.specs.declared.fault.TextFault.{TextFault}
use Rattle.rinv_text.specs.Tokens.{tokens}
use Rattle.rinv_text.specs.Grammar.{Tree}
use Rattle.rinv_text.specs.Stops.{IsExpression, IsRefused, refusal, malformed, refused}
use Rattle.rinv_text.proofs.OneReading.{has_one_reading, not-malformed}
use Rattle.rinv_system.specs.declared.refused.Code.{Code}
use Rattle.rinv_system.specs.declared.refused.Code.TheVariants.{Text}
use Rattle.rinv_system.specs.Forms.{IsSomeExpression, IsFirstFault}

-- an entry that is read
abbrev pub IsAccepted : List (List ℕ) → List ℕ → Type 0
IsAccepted names e = (t : Tree) × IsExpression e t × (refusal names (tokens e) t ≡ None)

-- ---- expressions

decided : (e : List ℕ) → IsSomeExpression e ⊎ (¬ (IsSomeExpression e))
decided e = by_reading ((has_one_reading [] e).read_or_refused)
  where
    by_refusal : (a : TextFault) → IsRefused [] e a → IsSomeExpression e ⊎ (¬ (IsSomeExpression e))
    by_refusal a (malformed {place = k} m) = inr (λ (t, d). not-malformed [] e k t m d)
    by_refusal a (refused t d f) = inl (t, d)

    by_reading : (IsAccepted [] e) ⊎ ((a : TextFault) × IsRefused [] e a) → IsSomeExpression e ⊎ (¬ (IsSomeExpression e))
    by_reading (inl (t, d, f)) = inl (t, d)
    by_reading (inr (a, r)) = by_refusal a r

pub all_decided : (es : List (List ℕ)) → (All IsSomeExpression es) ⊎ (Any (λ e. ¬ (IsSomeExpression e)) es)
all_decided [] = inl (All-nil IsSomeExpression)
all_decided (e ∷ es) = both_of (decided e) (all_decided es)
  where
    both_of : IsSomeExpression e ⊎ (¬ (IsSomeExpression e)) → (All IsSomeExpression es) ⊎ (Any (λ e. ¬ (IsSomeExpression e)) es) → (All IsSomeExpression (e ∷ es)) ⊎ (Any (λ e. ¬ (IsSomeExpression e)) (e ∷ es))
    both_of (inr n) rest = inr (0, e, omega arith, refl, n)
    both_of (inl y) (inl ys) = inl (All-cons IsSomeExpression e es y ys)
    both_of (inl y) (inr (k, x, lt, at, n)) = inr (suc k, x, omega (arith, lt), at, n)

-- not all where some is none
pub not_all : {A : Type 0} (es : List (List ℕ)) → All IsSomeExpression es → Any (λ e. ¬ (IsSomeExpression e)) es → A
not_all es all (k, x, lt, at, n) = absurd (n (subst IsSomeExpression at (all k x lt)))

-- ---- faults

module _ (names : List (List ℕ)) where
  -- the fault of an entry, or that of the later ones
  abbrev fault_or : (e : List ℕ) → (IsAccepted names e) ⊎ ((a : TextFault) × IsRefused names e a) → Option Code → Option Code
  fault_or e (inl r) later = later
  fault_or e (inr r) later = Some (Text r.0.code)

  pub first_fault : List (List ℕ) → Option Code
  first_fault [] = None
  first_fault (e ∷ es) = fault_or e ((has_one_reading names e).read_or_refused) (first_fault es)

  accepted-fault : (e : List ℕ) (later : Option Code) → IsAccepted names e → (r : (IsAccepted names e) ⊎ ((a : TextFault) × IsRefused names e a)) → fault_or e r later ≡ later
  accepted-fault e later h (inl r) = refl
  accepted-fault e later (t, d, f) (inr (a, r)) = absurd ((has_one_reading names e).not_both t a d f r)

  refused-fault : (e : List ℕ) (later : Option Code) (a : TextFault) → IsRefused names e a → (r : (IsAccepted names e) ⊎ ((a : TextFault) × IsRefused names e a)) → fault_or e r later ≡ Some (Text a.code)
  refused-fault e later a h (inl (t, d, f)) = absurd ((has_one_reading names e).not_both t a d f h)
  refused-fault e later a h (inr (b, r)) = ap (λ (c : TextFault). Some (Text c.code)) ((has_one_reading names e).one_fault b a r h)

  pub none-first : (es : List (List ℕ)) → All (IsAccepted names) es → first_fault es ≡ None
  unfolding first_fault
  none-first [] h = refl
  none-first (e ∷ es) h = accepted-fault e (first_fault es) (h 0 e (omega arith)) _ ∙ none-first es (λ k d lt. h (suc k) d (omega (arith, lt)))

  some-first : (before : List (List ℕ)) (e : List ℕ) (after : List (List ℕ)) (a : TextFault) → All (IsAccepted names) before → IsRefused names e a → first_fault (before ++ e ∷ after) ≡ Some (Text a.code)
  unfolding first_fault
  some-first [] e after a h r = refused-fault e (first_fault after) a r _
  some-first (b ∷ bs) e after a h r = accepted-fault b (first_fault (bs ++ e ∷ after)) (h 0 b (omega arith)) _ ∙ some-first bs e after a (λ k d lt. h (suc k) d (omega (arith, lt))) r

  pub first-is : (es : List (List ℕ)) (code : Code) → IsFirstFault names es code → first_fault es ≡ Some code
  first-is es _ (IsFirstFault.first before e after fault split all r) = ap first_fault split ∙ some-first before e after fault all r
