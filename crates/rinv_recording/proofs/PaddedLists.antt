-- Lists of polynomials with 1 and zeros behind them.
--   AreZerosBehind, zeros-begin, zeros-more, zeros-end    the loop that adds zeros
--   padded-some          quotients with 1 and zeros behind them
--   padded-number, again-number     how many there are
use Rattle.std.proofs.Common.{◌≡◌, ℕ, ◌+◌, ◌-◌, ◌<◌, ◌≤◌, max, List, [], ◌∷◌, ◌++◌, length, length-append, append_assoc, append-nil, replicate, take, nat_lt, sym, ap, ◌∙◌, subst, arith}
use Rattle.std.specs.Prelude.{Option, Some, None}
use Rattle.std.specs.declared.cmp.Ordering.{Ordering}
use Rattle.std.proofs.lemmas.List.{length-replicate, length-take-le, length_push, replicate_more}
use Rattle.std.proofs.lemmas.List.Elements.{AllZip-push, length_all_zip}
use Rattle.rinv_algebra.specs.Ring.{IsSame}
use Rattle.rinv_algebra.specs.Residue.{residue_ops}
use Rattle.rinv_algebra.specs.Polynomial.{poly_ops}
use Rattle.rinv_algebra.proofs.PolynomialLaws.{poly_laws}
use Rattle.rinv_algebra.proofs.ResidueLaws.{residue_laws}
use Rattle.rinv_groebner.specs.Division.{AreSame}
use Rattle.rinv_groebner.proofs.JournalUnique.{same_refl}
use Rattle.rinv_defs.specs.System.{Poly}
use Rattle.rinv_buch.specs.Runs.{s_at}
use Rattle.rinv_cofactors.specs.Combining.{AreQuotients}
use Rattle.rinv_cofactors.proofs.Cofactors.{quotients-number}
use Rattle.rinv_recording.specs.Recorded.{padded}
use Rattle.rinv_recording.specs.Divided.{more_elements}

module _ (p : ℕ) where
  -- what was begun, and zeros behind it
  pub record AreZerosBehind (begun : List Poly) (count : ℕ) (list : List Poly) : Type 0 where
    pub many : length begun ≤ length list
    pub few : length list ≤ max count (length begun)
    pub same : AreSame (residue_ops p) list (begun ++ replicate (length list - length begun) [])

  pub zeros-begin : (begun : List Poly) (count : ℕ) → AreZerosBehind begun count begun
  zeros-begin begun count = record {
    many = omega arith;
    few = omega arith;
    same =
        let e : length begun - length begun ≡ 0 = omega arith in
        rw e (subst (λ (fs : List Poly). AreSame (residue_ops p) begun fs) (sym (append-nil begun)) (same_refl (residue_ops p) (residue_laws p) begun));
  }

  pub zeros-more : (begun : List Poly) (count : ℕ) (list : List Poly) (z : Poly) → length list < count → IsSame (poly_ops (residue_ops p)) z [] → AreZerosBehind begun count list → AreZerosBehind begun count (list ++ z ∷ [])
  zeros-more begun count list z below is h =
      let long = length_push list z in
      let many = h.many in
      let n = length list - length begun in
      let next : length (list ++ z ∷ []) - length begun ≡ n + 1 = omega (arith, long, many) in
      let few = h.few in
      record {
        many = omega (arith, long, many);
        few = omega (arith, long, few, below);
        same = subst (λ (fs : List Poly). AreSame (residue_ops p) (list ++ z ∷ []) fs)
            (append_assoc begun (replicate n []) ([] ∷ []) ∙ ap (λ (zs : List Poly). begun ++ zs) (replicate_more n [] ∙ ap (λ (k : ℕ). replicate k []) (sym next)))
            (AllZip-push (IsSame (poly_ops (residue_ops p))) list (begun ++ replicate n []) z [] h.same is);
      }

  pub zeros-end : (begun : List Poly) (count : ℕ) (list : List Poly) → count ≤ length list → AreZerosBehind begun count list → AreSame (residue_ops p) list (begun ++ replicate (count - length begun) [])
  zeros-end begun count list past h =
      let many = h.many in
      let few = h.few in
      let e : length list - length begun ≡ count - length begun = omega (arith, many, few, past) in
      subst (λ (n : ℕ). AreSame (residue_ops p) list (begun ++ replicate n [])) e h.same

  -- what is the same in front
  front-same : (r t list zs : List Poly) → AreSame (residue_ops p) r t → AreSame (residue_ops p) list (r ++ zs) → AreSame (residue_ops p) list (t ++ zs)
  front-same [] [] list zs s h = h
  front-same [] (x ∷ t) list zs s h = absurd s
  front-same (y ∷ r) [] list zs s h = absurd s
  front-same (y ∷ r) (x ∷ t) [] zs s h = h
  front-same (y ∷ r) (x ∷ t) (z ∷ list) zs s h = ((poly_laws (residue_ops p) (residue_laws p)).same_trans z y x h.0 s.0, front-same r t list zs s.1 h.1)

  pub padded-some : (qs begun list : List Poly) (count at : ℕ) → AreSame (residue_ops p) begun (qs ++ (poly_ops (residue_ops p)).one ∷ []) → AreSame (residue_ops p) list (begun ++ replicate (count - length begun) [])
      → AreSame (residue_ops p) list (padded p count qs (Some at))
  padded-some qs begun list count at first whole =
      let one = (poly_ops (residue_ops p)).one in
      let long : length begun ≡ length qs + 1 = length_all_zip (IsSame (poly_ops (residue_ops p))) begun (qs ++ one ∷ []) first ∙ length_push qs one in
      let zs = replicate (count - (length qs + 1)) [] in
      subst (λ (fs : List Poly). AreSame (residue_ops p) list fs) (append_assoc qs (one ∷ []) zs)
      (front-same begun (qs ++ one ∷ []) list zs first (subst (λ (n : ℕ). AreSame (residue_ops p) list (begun ++ replicate (count - n) [])) long whole))

  -- how many there are
  padded-long : (count : ℕ) (qs : List Poly) (added : Option ℕ) → length qs + more_elements added ≤ count → length (padded p count qs added) ≡ count
  padded-long count qs None room = omega (arith, length-append qs (replicate (count - length qs) []), length-replicate {A = Poly} (count - length qs) [], room)
  padded-long count qs (Some at) room =
      let zs : List Poly = replicate (count - (length qs + 1)) [] in
      omega (arith, length-append qs ((poly_ops (residue_ops p)).one ∷ zs), length-replicate {A = Poly} (count - (length qs + 1)) [], room)

  pub padded-number : (count : ℕ) (qs : List Poly) (added : Option ℕ) (q : List Poly) → length qs + more_elements added ≤ count → AreSame (residue_ops p) q (padded p count qs added) → length q ≡ count
  padded-number count qs added q room same = length_all_zip (IsSame (poly_ops (residue_ops p))) q (padded p count qs added) same ∙ padded-long count qs added room

  pub again-number : (v : ℕ) (cmp : List ℕ → List ℕ → Ordering) (polys : List Poly) (i j made : ℕ) (added : Option ℕ) (qs q : List Poly) → AreQuotients (residue_ops p) (λ c. nat_lt c p) v cmp (take made polys) i j qs → made + more_elements added ≤ length polys
      → AreSame (residue_ops p) q (padded p (length polys) qs added) → length q ≡ length polys
  again-number v cmp polys i j made added qs q are room same =
      let many : length qs ≡ length (take made polys) = quotients-number (residue_ops p) (residue_laws p) cmp (take made polys) (s_at (residue_ops p) cmp (take made polys) i j) qs are.rest (are.steps, are.divides) in
      let front : length (take made polys) ≡ made = length-take-le made polys (omega (arith, room)) in
      padded-number (length polys) qs added q (omega (arith, many, front, room)) same
