-- Lists of stored polynomials that grow at their end, behind others that stand there already.
--   stored-behind, taken-behind, range-behind    one polynomial more: of any list, of a mapped one, of a range
--   stored-taken                                 the same with none before
--   normal-at, copy-stored                       one of a list, and its copy
--   copies-behind, places-behind                 one copy more, one place more
use Rattle.std.proofs.Common.{◌≡◌, ℕ, ◌+◌, ◌<◌, List, [], ◌∷◌, ◌++◌, length, map, take, get_or, nat_lt, refl, sym, ap, ◌∙◌, subst, append_assoc, append-nil, arith}
use Rattle.std.specs.Prelude.{flat_map}
use Rattle.std.specs.List.{range_with_len}
use Rattle.std.proofs.lemmas.Grind.{flat_map-append}
use Rattle.std.proofs.lemmas.List.{map-append}
use Rattle.std.proofs.lemmas.List.Elements.{AllZip-push}
use Rattle.std.proofs.lemmas.List.FromFn.{map-range_with_len_more}
use Rattle.rinv_algebra.specs.Residue.{residue_ops}
use Rattle.rinv_algebra.specs.Normal.{IsNormal}
use Rattle.rinv_algebra.proofs.PolynomialLaws.{poly_laws}
use Rattle.rinv_algebra.proofs.ResidueLaws.{residue_laws}
use Rattle.rinv_sub.proofs.Sums.{take-at}
use Rattle.rinv_defs.specs.System.{Poly}
use Rattle.rinv_parts.specs.Points.{ArePolynomials, AreStored, IsStoredIn}
use Rattle.rinv_parts.proofs.Names.{range-split}

module _ (p v : ℕ) where
  -- one polynomial more
  pub stored-behind : (gs fs more hs : List Poly) (f g : Poly) → more ≡ fs ++ f ∷ [] → AreStored p v (gs ++ fs) hs → IsStoredIn p v f g → AreStored p v (gs ++ more) (hs ++ g ∷ [])
  stored-behind gs fs more hs f g e so_far here =
      subst (λ (ks : List Poly). AreStored p v ks (hs ++ g ∷ [])) (append_assoc gs fs (f ∷ []) ∙ ap (λ (ks : List Poly). gs ++ ks) (sym e))
      (AllZip-push (IsStoredIn p v) (gs ++ fs) hs f g so_far here)

  -- the next of the values of a list
  pub taken-behind : {X : Type 0} (value : X → Poly) (gs : List Poly) (xs : List X) (k : ℕ) (x : X) (hs : List Poly) (g : Poly) → k < length xs → x ≡ get_or xs k x
      → AreStored p v (gs ++ map value (take k xs)) hs → IsStoredIn p v (value x) g → AreStored p v (gs ++ map value (take (k + 1) xs)) (hs ++ g ∷ [])
  taken-behind value gs xs k x hs g few at so_far here =
      stored-behind gs (map value (take k xs)) (map value (take (k + 1) xs)) hs (value x) g (ap (λ ys. map value ys) (take-at xs k x few at) ∙ map-append value (take k xs) (x ∷ [])) so_far here

  -- the next of the values of a range
  pub range-behind : (value : ℕ → Poly) (gs : List Poly) (place k : ℕ) (hs : List Poly) (g : Poly)
      → AreStored p v (gs ++ map value (range_with_len place k)) hs → IsStoredIn p v (value (place + k)) g → AreStored p v (gs ++ map value (range_with_len place (k + 1))) (hs ++ g ∷ [])
  range-behind value gs place k hs g so_far here =
      stored-behind gs (map value (range_with_len place k)) (map value (range_with_len place (k + 1))) hs (value (place + k)) g (map-range_with_len_more value place k (place + k) refl) so_far here

  -- the next of a list
  pub stored-taken : (fs : List Poly) (k : ℕ) (f : Poly) (hs : List Poly) (g : Poly) → k < length fs → f ≡ get_or fs k f → AreStored p v (take k fs) hs → IsStoredIn p v f g → AreStored p v (take (k + 1) fs) (hs ++ g ∷ [])
  stored-taken fs k f hs g few at so_far here =
      subst (λ (ks : List Poly). AreStored p v ks (hs ++ g ∷ [])) (sym (take-at fs k f few at)) (AllZip-push (IsStoredIn p v) (take k fs) hs f g so_far here)

  -- one of them
  pub normal-at : (fs : List Poly) (k : ℕ) (f : Poly) → k < length fs → f ≡ get_or fs k f → ArePolynomials p v fs → IsNormal (residue_ops p) (λ c. nat_lt c p) v f
  normal-at fs k f few at normal = subst (IsNormal (residue_ops p) (λ c. nat_lt c p) v) (sym at) (normal k f few)

  -- and its copy
  pub copy-stored : (fs : List Poly) (k : ℕ) (f g : Poly) → k < length fs → f ≡ get_or fs k f → ArePolynomials p v fs → g ≡ f → IsStoredIn p v f g
  copy-stored fs k f g few at normal e = rw e (record { normal = normal-at fs k f few at normal; value = (poly_laws (residue_ops p) (residue_laws p)).same_refl f })

-- one copy more
pub copies-behind : (copy : ℕ → List Poly) (k : ℕ) → flat_map copy (range_with_len 0 (k + 1)) ≡ flat_map copy (range_with_len 0 k) ++ copy k
copies-behind copy k =
    let e : 0 + k ≡ k = omega arith in
    ap (flat_map copy) (range-split 0 k 1) ∙ flat_map-append copy (range_with_len 0 k) (range_with_len (0 + k) 1)
    ∙ ap (λ (r : List Poly). flat_map copy (range_with_len 0 k) ++ r) (append-nil (copy (0 + k)) ∙ ap copy e)

-- a list of places grows by the next one
pub places-behind : (gs items new : List ℕ) (a k x : ℕ) → new ≡ items ++ x ∷ [] → items ≡ gs ++ range_with_len a k → x ≡ a + k → new ≡ gs ++ range_with_len a (k + 1)
places-behind gs items new a k x pushed so_far here =
    let more : range_with_len a (k + 1) ≡ range_with_len a k ++ (a + k) ∷ [] = range-split a k 1 in
    pushed ∙ rw (so_far, here, more) (append_assoc gs (range_with_len a k) ((a + k) ∷ []))
