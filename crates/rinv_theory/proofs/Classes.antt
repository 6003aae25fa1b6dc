-- From a ring of the code, whose laws hold up to a tested sameness, to an honest ring, and back.
--   Class o              the values of o, with those that are the same made equal
--   class o x            the class of a value
--   class_ring o l       the honest ring of the classes
--   class_sound, class_exact    two classes are equal exactly where the values are the same
--   class-add, class-mul, class-neg, class-zero, class-one    the class of a sum is the sum of the classes, and so on
--   class_ind            a fact of a class is shown on its values
--   class_dec            whether a class is zero is decided
use Rattle.std.proofs.Common.{◌≡◌, Bool, true, false, refl, sym, ◌∙◌, true≢false}
use mathlib.Core.Logic.{Dec-prop}
use mathlib.Core.Quot.{Quot, mk, sound, ind, Quot-set}
use Rattle.rinv_algebra.specs.Ring.{RingOps, RingLaws, IsSame}
use Rattle.rinv_algebra.proofs.RingFacts as facts
use Rattle.rinv_theory.proofs.CRing.{CRing}
use Rattle.rinv_theory.proofs.Quotient.{on_one, on_two, ind₂, ind₃, exact}

-- the values, with those that are the same made equal
abbrev pub Class : {E : Type 0} → RingOps E → Type 0
Class o = Quot (IsSame o)

-- the class of a value
unfoldable pub class : {E : Type 0} (o : RingOps E) → E → Class o
class o x = mk x

module _ {E : Type 0} (o : RingOps E) (l : RingLaws o) where
  -- the ring of the classes
  unfoldable pub class_ring : CRing (Class o)
  class_ring = record {
    add = on_two o.add (λ a a' b s. l.add_same a a' b b s (l.same_refl b)) (λ a b b' s. l.add_same a a b b' (l.same_refl a) s);
    mul = on_two o.mul (λ a a' b s. l.mul_same a a' b b s (l.same_refl b)) (λ a b b' s. l.mul_same a a b b' (l.same_refl a) s);
    neg = on_one o.neg l.neg_same;
    zero = mk o.zero;
    one = mk o.one;
    is_set = Quot-set;
    add_assoc = ind₃ _ (λ x y z. Quot-set _ _) (λ a b c. sound (l.add_assoc a b c));
    add_comm = ind₂ _ (λ x y. Quot-set _ _) (λ a b. sound (l.add_comm a b));
    zero_add = ind (λ x. Quot-set _ _) (λ a. sound (facts.zero_add o l a));
    neg_add = ind (λ x. Quot-set _ _) (λ a. sound (facts.then o l (l.add_comm (o.neg a) a) (l.add_neg a)));
    mul_assoc = ind₃ _ (λ x y z. Quot-set _ _) (λ a b c. sound (l.mul_assoc a b c));
    mul_comm = ind₂ _ (λ x y. Quot-set _ _) (λ a b. sound (l.mul_comm a b));
    one_mul = ind (λ x. Quot-set _ _) (λ a. sound (facts.one_mul o l a));
    mul_add = ind₃ _ (λ x y z. Quot-set _ _) (λ a b c. sound (l.mul_add a b c));
  }

  -- two values of one class are the same
  pub class_exact : (a b : E) → class o a ≡ class o b → IsSame o a b
  unfolding class
  class_exact a b e = exact o.same l.same_refl l.same_sym l.same_trans a b e

  -- values that are the same have one class
  pub class_sound : (a b : E) → IsSame o a b → class o a ≡ class o b
  unfolding class
  class_sound a b s = sound s

  -- the class of a sum
  pub class-add : (a b : E) → class o (o.add a b) ≡ class_ring.add (class o a) (class o b)
  unfolding class class_ring
  class-add a b = refl

  -- the class of a product
  pub class-mul : (a b : E) → class o (o.mul a b) ≡ class_ring.mul (class o a) (class o b)
  unfolding class class_ring
  class-mul a b = refl

  -- the class of an opposite
  pub class-neg : (a : E) → class o (o.neg a) ≡ class_ring.neg (class o a)
  unfolding class class_ring
  class-neg a = refl

  -- the class of zero
  pub class-zero : class o o.zero ≡ class_ring.zero
  unfolding class class_ring
  class-zero = refl

  -- the class of one
  pub class-one : class o o.one ≡ class_ring.one
  unfolding class class_ring
  class-one = refl

  -- a fact of a class, by its values
  pub class_ind : (P : Class o → Type 0) → ((x : Class o) → IsProp (P x)) → ((a : E) → P (class o a)) → (x : Class o) → P x
  unfolding class
  class_ind P P_prop h = ind P_prop h

  -- whether a class is zero
  pub class_dec : (x : Class o) → Dec (x ≡ class_ring.zero)
  class_dec = class_ind (λ x. Dec (x ≡ class_ring.zero)) (λ x. Dec-prop (class_ring.is_set _ _)) (λ a. go a (o.same a o.zero) refl)
    where
      go : (a : E) (b : Bool) → o.same a o.zero ≡ b → Dec (class o a ≡ class_ring.zero)
      go a true s = yes (class_sound a o.zero s ∙ class-zero)
      go a false s = no (λ e. true≢false (sym (class_exact a o.zero (e ∙ sym class-zero)) ∙ s))
