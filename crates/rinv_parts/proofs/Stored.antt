-- Polynomials that are stored, place by place.
--   stored-normal, stored-same, stored-count, stored-self    what is known of them
--   stored-range, stored-more                   one more
--   stored-point                                the coordinates of a point
--   stored-over                                 over equal numbers
use Rattle.std.proofs.Common.{◌≡◌, ℕ, ◌+◌, ◌<◌, List, [], ◌∷◌, ◌++◌, length, map, take, get_or, nat_lt, refl, sym, ap, ◌∙◌, subst}
use Rattle.std.specs.List.{AllZip, range_with_len}
use Rattle.std.proofs.lemmas.List.{map-append}
use Rattle.std.proofs.lemmas.List.Elements.{All-nil, All-cons, All-head, All-tail, AllZip-push, length_all_zip}
use Rattle.std.proofs.lemmas.List.FromFn.{map-range_with_len_more}
use Rattle.rinv_algebra.specs.Ring.{IsSame}
use Rattle.rinv_algebra.specs.Residue.{residue_ops}
use Rattle.rinv_algebra.specs.Polynomial.{poly_ops}
use Rattle.rinv_algebra.specs.Normal.{IsNormal}
use Rattle.rinv_algebra.proofs.PolynomialLaws.{poly_laws}
use Rattle.rinv_algebra.proofs.ResidueLaws.{residue_laws}
use Rattle.rinv_sub.proofs.Images.{AllZip-append}
use Rattle.rinv_sub.proofs.Sums.{take-at}
use Rattle.rinv_defs.specs.System.{Poly}
use Rattle.rinv_parts.specs.Points.{ArePolynomials, AreStored, IsPoint, IsStoredIn}

module _ (p v : ℕ) where
  pub stored-normal : (fs gs : List Poly) → AreStored p v fs gs → ArePolynomials p v gs
  stored-normal [] [] h = All-nil (IsNormal (residue_ops p) (λ c. nat_lt c p) v)
  stored-normal [] (g ∷ gs) h = absurd h
  stored-normal (f ∷ fs) [] h = absurd h
  stored-normal (f ∷ fs) (g ∷ gs) h = All-cons (IsNormal (residue_ops p) (λ c. nat_lt c p) v) g gs h.0.normal (stored-normal fs gs h.1)

  pub stored-same : (fs gs : List Poly) → AreStored p v fs gs → AllZip (IsSame (poly_ops (residue_ops p))) gs fs
  stored-same [] [] h = tt
  stored-same [] (g ∷ gs) h = absurd h
  stored-same (f ∷ fs) [] h = absurd h
  stored-same (f ∷ fs) (g ∷ gs) h = (h.0.value, stored-same fs gs h.1)

  pub stored-count : (fs gs : List Poly) → AreStored p v fs gs → length gs ≡ length fs
  stored-count fs gs h = sym (length_all_zip (IsStoredIn p v) fs gs h)

  pub stored-point : (k : ℕ) (fs gs : List Poly) → length fs ≡ k → AreStored p v fs gs → IsPoint p v k gs
  stored-point k fs gs many h = record { many = stored-count fs gs h ∙ many; normal = stored-normal fs gs h }

  -- each stands for itself
  pub stored-self : (gs : List Poly) → ArePolynomials p v gs → AreStored p v gs gs
  stored-self [] h = tt
  stored-self (g ∷ gs) h = (record { normal = All-head (IsNormal (residue_ops p) (λ c. nat_lt c p) v) g gs h; value = (poly_laws (residue_ops p) (residue_laws p)).same_refl g }, stored-self gs (All-tail (IsNormal (residue_ops p) (λ c. nat_lt c p) v) g gs h))

  -- those of a point, and then those of another
  pub stored-joined : (x y a b c : List Poly) → c ≡ a ++ b → AreStored p v x a → AreStored p v y b → AreStored p v (x ++ y) c
  stored-joined x y a b c e h k = subst (AreStored p v (x ++ y)) (sym e) (AllZip-append (IsStoredIn p v) x y a b h k)

  -- one place more of a range
  pub stored-range : (value : ℕ → Poly) (place k : ℕ) (gs : List Poly) (g : Poly) → AreStored p v (map value (range_with_len place k)) gs → IsStoredIn p v (value (place + k)) g → AreStored p v (map value (range_with_len place (k + 1))) (gs ++ g ∷ [])
  stored-range value place k gs g so_far here =
      subst (λ (fs : List Poly). AreStored p v fs (gs ++ g ∷ [])) (sym (map-range_with_len_more value place k (place + k) refl))
      (AllZip-push (IsStoredIn p v) (map value (range_with_len place k)) gs (value (place + k)) g so_far here)

  -- one value more
  pub stored-more : {X : Type 0} (value : X → Poly) (xs : List X) (k : ℕ) (x : X) (gs : List Poly) (g : Poly) → k < length xs → x ≡ get_or xs k x
      → AreStored p v (map value (take k xs)) gs → IsStoredIn p v (value x) g → AreStored p v (map value (take (k + 1) xs)) (gs ++ g ∷ [])
  stored-more value xs k x gs g few at so_far here =
      subst (λ (fs : List Poly). AreStored p v fs (gs ++ g ∷ [])) (sym (ap (λ ys. map value ys) (take-at xs k x few at) ∙ map-append value (take k xs) (x ∷ [])))
      (AllZip-push (IsStoredIn p v) (map value (take k xs)) gs (value x) g so_far here)

pub stored-over : (p q v w : ℕ) (fs gs hs ks : List Poly) → p ≡ q → v ≡ w → fs ≡ hs → gs ≡ ks → AreStored q w hs ks → AreStored p v fs gs
stored-over p q v w fs gs hs ks a b c d h = rw (a, b, c, d) h

pub normal-over : (p q v w : ℕ) (fs gs : List Poly) → p ≡ q → v ≡ w → fs ≡ gs → ArePolynomials q w gs → ArePolynomials p v fs
normal-over p q v w fs gs a b c h = rw (a, b, c) h
