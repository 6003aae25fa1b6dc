-- The proofs of the fractions of a list, one after another.
--   proofs-more          one more is proved
--   basis-meets, fraction-meets    the degrees that are met in the cofactors of the group's basis, and in one proof
use Rattle.std.proofs.Common.{◌≡◌, ◌<◌, ◌+◌, ℕ, true, false, List, [], ◌∷◌, ◌++◌, length, get_or, map, take, sym, subst₂, inl, inr, arith, refl, true≢false}
use Rattle.std.specs.Prelude.{◌==◌}
use Rattle.std.specs.List.{AllZip}
use Rattle.std.proofs.lemmas.List.{map_push}
use Rattle.rinv_sub.proofs.Sums.{take-at}
use Rattle.rinv_defs.specs.System.{System, Poly}
use Rattle.rinv_defs.specs.Invariant.{Fraction}
use Rattle.rinv_buch.specs.Kinds.{Found}
use Rattle.rinv_laws.specs.Proofs.{BasisMeets}
use Rattle.rinv_change.specs.Cofactors.{ProofMeets, ProvesInvariance}
use Rattle.rinv_gens.proofs.Tied.{zip-push}
use Rattle.rinv_generators.specs.Proving.{FractionsMeet}

module _ (s : System) (group : Found ℕ) where
  -- one more is proved
  pub proofs-more : {U : Type 0} (view : U → List Poly) (fractions : List Fraction) (k : ℕ) (f : Fraction) (made : List U) (u : U) → k < length fractions → f ≡ get_or fractions k f
      → AllZip (ProvesInvariance s group) (take k fractions) (map view made) → ProvesInvariance s group f (view u) → AllZip (ProvesInvariance s group) (take (k + 1) fractions) (map view (made ++ u ∷ []))
  proofs-more view fractions k f made u few at so_far here =
      subst₂ (AllZip (ProvesInvariance s group)) (sym (take-at fractions k f few at)) (sym (map_push view made u))
      (zip-push (ProvesInvariance s group) (take k fractions) (map view made) f (view u) so_far here)

  -- in the cofactors of the group's basis, where there is a fraction
  pub basis-meets : (cs : List Fraction) → (length cs == 0) ≡ false → (x y : ℕ) → BasisMeets s group x y → FractionsMeet s group cs x y
  basis-meets [] some x y m = absurd (true≢false some)
  basis-meets (c ∷ cs) some x y m = record { generator = c; is_generator = (0, omega arith, refl); meets = inl m }

  -- in the proof of one of them
  pub fraction-meets : (cs : List Fraction) (k : ℕ) (c : Fraction) → k < length cs → c ≡ get_or cs k c → (x y : ℕ) → ProofMeets s group c x y → FractionsMeet s group cs x y
  fraction-meets cs k c few at x y m = record { generator = c; is_generator = (k, few, sym at); meets = inr m }
