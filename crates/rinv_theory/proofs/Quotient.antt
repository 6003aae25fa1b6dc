-- A set modulo a relation: maps out of it, and operations on it.
--   lift₂                a function of two classes, from one of representatives that keeps both relations
--   on_one, on_two       an operation of one, of two arguments that keeps the relation
--   ind₂, ind₃           a fact of two, of three classes is shown on representatives
--   exact                where the relation is a tested equivalence, equal classes have related representatives
use Rattle.std.proofs.Common.{◌≡◌, Bool, true, false, IsTrue, refl, sym, ◌∙◌, ap}
use mathlib.Core.Bool.{Bool-set}
use mathlib.Core.Quot.{Quot, mk, sound, lift, ind, Quot-set}

module _ {α β γ : Type 0} {r : α → α → Type 0} {s : β → β → Type 0} where
  -- a function of two classes
  abbrev pub lift₂ : IsSet γ → (f : α → β → γ) → ((a a' : α) (b : β) → r a a' → f a b ≡ f a' b) → ((a : α) (b b' : β) → s b b' → f a b ≡ f a b') → Quot r → Quot s → γ
  lift₂ set f h₁ h₂ x y = lift {r = r} set (λ a. lift {r = s} set (f a) (h₂ a) y) (λ a a' e. ind {r = s} {β = λ y. lift {r = s} set (f a) (h₂ a) y ≡ lift {r = s} set (f a') (h₂ a') y} (λ y. set _ _) (λ b. h₁ a a' b e) y) x

module _ {α β : Type 0} {r : α → α → Type 0} {s : β → β → Type 0} where
  -- a fact of two classes
  pub ind₂ : (P : Quot r → Quot s → Type 0) → ((x : Quot r) (y : Quot s) → IsProp (P x y)) → ((a : α) (b : β) → P (mk a) (mk b)) → (x : Quot r) (y : Quot s) → P x y
  ind₂ P P_prop h x y = ind {β = λ x. P x y} (λ x. P_prop x y) (λ a. ind {β = λ y. P (mk a) y} (λ y. P_prop (mk a) y) (h a) y) x

module _ {α : Type 0} {r : α → α → Type 0} where
  -- an operation of one argument
  abbrev pub on_one : (f : α → α) → ((a b : α) → r a b → r (f a) (f b)) → Quot r → Quot r
  on_one f h = lift (Quot-set {r = r}) (λ a. mk (f a)) (λ a b e. sound (h a b e))

  -- an operation of two arguments
  abbrev pub on_two : (f : α → α → α) → ((a a' b : α) → r a a' → r (f a b) (f a' b)) → ((a b b' : α) → r b b' → r (f a b) (f a b')) → Quot r → Quot r → Quot r
  on_two f h₁ h₂ = lift₂ {r = r} {s = r} (Quot-set {r = r}) (λ a b. mk (f a b)) (λ a a' b e. sound (h₁ a a' b e)) (λ a b b' e. sound (h₂ a b b' e))

  -- a fact of three classes
  pub ind₃ : (P : Quot r → Quot r → Quot r → Type 0) → ((x y z : Quot r) → IsProp (P x y z)) → ((a b c : α) → P (mk a) (mk b) (mk c)) → (x y z : Quot r) → P x y z
  ind₃ P P_prop h x y z = ind₂ (λ x y. P x y z) (λ x y. P_prop x y z) (λ a b. ind {β = λ z. P (mk a) (mk b) z} (λ z. P_prop (mk a) (mk b) z) (h a b) z) x y

module _ {α : Type 0} (test : α → α → Bool) (test_refl : (a : α) → IsTrue (test a a)) (test_sym : (a b : α) → IsTrue (test a b) → IsTrue (test b a)) (test_trans : (a b c : α) → IsTrue (test a b) → IsTrue (test b c) → IsTrue (test a c)) where
  -- the test depends on the class alone, in its second place
  pub test-second : (a x y : α) → IsTrue (test x y) → test a x ≡ test a y
  test-second a x y s = step (test a x) (test a y) refl refl
    where
      step : (u v : Bool) → test a x ≡ u → test a y ≡ v → u ≡ v
      step true true p q = refl
      step false false p q = refl
      step true false p q = sym (test_trans a x y p s) ∙ q
      step false true p q = sym p ∙ test_trans a y x q (test_sym x y s)

  -- in its first place too
  pub test-first : (x y a : α) → IsTrue (test x y) → test x a ≡ test y a
  test-first x y a s = step (test x a) (test y a) refl refl
    where
      step : (u v : Bool) → test x a ≡ u → test y a ≡ v → u ≡ v
      step true true p q = refl
      step false false p q = refl
      step true false p q = sym (test_trans y x a (test_sym x y s) p) ∙ q
      step false true p q = sym p ∙ test_trans x y a s q

  -- equal classes have representatives that pass the test
  pub exact : (a b : α) → Path (Quot (λ x y. IsTrue (test x y))) (mk a) (mk b) → IsTrue (test a b)
  exact a b e = sym (ap (λ x. lift {r = λ x y. IsTrue (test x y)} Bool-set (λ y. test a y) (λ x y s. test-second a x y s) x) e) ∙ test_refl a
