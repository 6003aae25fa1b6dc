-- Values that are kept with their parts.
--   kept-pair, kept-triple     parts that are kept
--   first-lost, last-lost      a part that is not
use Rattle.std.proofs.Common.{◌≡◌, Bool, true, false, ◌&&◌, Option, Some, None, refl}
use Rattle.rinv_form.specs.Forms.{kept}
use Rattle.rinv_form.proofs.Kept.{kept-some, kept-none, kept-holds}

pub kept-false : {A : Type 0} (b : Bool) (x : A) → b ≡ false → None ≡ kept b x
kept-false true x e = cc
kept-false false x e = refl

pub kept-true : {A : Type 0} (b : Bool) (x : A) → b ≡ true → Some x ≡ kept b x
kept-true true x e = refl
kept-true false x e = cc

-- a first part that fails
pub first-fails : (a b : Bool) → a ≡ false → (a && b) ≡ false
first-fails true b e = cc
first-fails false b e = refl

-- a last part that fails
pub last-fails : (a b : Bool) → b ≡ false → (a && b) ≡ false
last-fails true b e = e
last-fails false b e = refl

pub both-hold : (a b : Bool) → a ≡ true → b ≡ true → (a && b) ≡ true
both-hold true b e h = h
both-hold false b e h = e

-- two parts that are kept
pub kept-pair : {A B : Type 0} (a b : Bool) (x y : A) (w z : B) → Some x ≡ kept a y → Some w ≡ kept b z → ◌≡◌ {A = Option (A × B)} (Some (x, w)) (kept (a && b) (y, z))
kept-pair a b x y w z e f = rw (kept-some a y x e, kept-some b z w f) (kept-true (a && b) (y, z) (both-hold a b (kept-holds a y x e) (kept-holds b z w f)))

-- three
pub kept-triple : {A B C : Type 0} (a b d : Bool) (x y : A) (w z : B) (u v : C) → Some x ≡ kept a y → Some w ≡ kept b z → Some u ≡ kept d v → ◌≡◌ {A = Option (A × B × C)} (Some (x, w, u)) (kept ((a && b) && d) (y, z, v))
kept-triple a b d x y w z u v e f g =
    rw (kept-some a y x e, kept-some b z w f, kept-some d v u g) (kept-true ((a && b) && d) (y, z, v) (both-hold (a && b) d (both-hold a b (kept-holds a y x e) (kept-holds b z w f)) (kept-holds d v u g)))

-- a part that fails, and the whole is not kept
pub first-lost : {A B : Type 0} (a b : Bool) (x : A) (y : B) → None ≡ kept a x → None ≡ kept (a && b) y
first-lost a b x y e = kept-false (a && b) y (first-fails a b (kept-none a x e))

pub last-lost : {A B : Type 0} (a b : Bool) (x : A) (y : B) → None ≡ kept b x → None ≡ kept (a && b) y
last-lost a b x y e = kept-false (a && b) y (last-fails a b (kept-none b x e))
