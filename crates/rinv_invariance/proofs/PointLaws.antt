-- The laws of a group and of its action, at points of an algebra, and what follows from them there.
--   LawsAt s κ           the laws
--   move                 (p q⁻¹)(q y) = p y
--   there, back          p(p⁻¹ y) = y, and p⁻¹(p y) = y
use Rattle.std.proofs.Common.{◌≡◌, List, length, ap, ◌∙◌}
use Rattle.rinv_theory.proofs.CRing.{CRing, Hom}
use Rattle.rinv_defs.specs.System.{System, space_count}
use Rattle.rinv_invariance.proofs.Points.{scalars, IsPoint, product, inverse, act, unit}

module _ (s : System) {A : Type 0} {𝓐 : CRing A} (κ : Hom (scalars s.p) 𝓐) where
  -- the laws, at points of the group and of the space
  pub record LawsAt : Type 0 where
    pub products : (a b : List A) → IsPoint s κ a → IsPoint s κ b → IsPoint s κ (product s κ a b)
    pub inverses : (a : List A) → IsPoint s κ a → IsPoint s κ (inverse s κ a)
    pub associative : (a b c : List A) → IsPoint s κ a → IsPoint s κ b → IsPoint s κ c → product s κ (product s κ a b) c ≡ product s κ a (product s κ b c)
    pub neutral : (a : List A) → IsPoint s κ a → product s κ a (unit s κ) ≡ a
    pub inverse_left : (a : List A) → IsPoint s κ a → product s κ (inverse s κ a) a ≡ unit s κ
    pub inverse_right : (a : List A) → IsPoint s κ a → product s κ a (inverse s κ a) ≡ unit s κ
    pub still : (y : List A) → length y ≡ space_count s → act s κ (unit s κ) y ≡ y
    pub acts : (a b y : List A) → IsPoint s κ a → IsPoint s κ b → length y ≡ space_count s → act s κ a (act s κ b y) ≡ act s κ (product s κ a b) y

  module _ (laws : LawsAt) where
    -- where the space's point is moved by q, and the group's by the inverse of q, the result is kept
    pub move : (p q y : List A) → IsPoint s κ p → IsPoint s κ q → length y ≡ space_count s → act s κ (product s κ p (inverse s κ q)) (act s κ q y) ≡ act s κ p y
    move p q y hp hq hy =
        laws.acts (product s κ p (inverse s κ q)) q y (laws.products p (inverse s κ q) hp (laws.inverses q hq)) hq hy
        ∙ ap (λ x. act s κ x y) (laws.associative p (inverse s κ q) q hp (laws.inverses q hq) hq ∙ ap (product s κ p) (laws.inverse_left q hq) ∙ laws.neutral p hp)

    -- first by the inverse, then by the point
    pub there : (p y : List A) → IsPoint s κ p → length y ≡ space_count s → act s κ p (act s κ (inverse s κ p) y) ≡ y
    there p y h hy = laws.acts p (inverse s κ p) y h (laws.inverses p h) hy ∙ ap (λ x. act s κ x y) (laws.inverse_right p h) ∙ laws.still y hy

    -- first by the point, then by the inverse
    pub back : (p y : List A) → IsPoint s κ p → length y ≡ space_count s → act s κ (inverse s κ p) (act s κ p y) ≡ y
    back p y h hy = laws.acts (inverse s κ p) p y (laws.inverses p h) h hy ∙ ap (λ x. act s κ x y) (laws.inverse_left p h) ∙ laws.still y hy
