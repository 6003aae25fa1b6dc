-- The reduced basis, from relations whose tails are reduced in turn.
--   reduced-basis        it is the reduced basis
--   ascending-leads      its leads ascend
--   stops-at             where degrees are met
use Rattle.std.proofs.Common.{◌≡◌, ℕ, zero, suc, ◌<◌, List, [], ◌∷◌, length, get_or, refl, sym, ap, ◌∙◌, subst, subst₂, arith}
use Rattle.std.specs.Prelude.{All}
use Rattle.std.specs.declared.cmp.Ordering.TheVariants.{Less}
use Rattle.rinv_algebra.specs.Order.{grevlex}
use Rattle.rinv_ring.specs.Fault.{DegreesMeet}
use Rattle.rinv_ring.specs.declared.fault.RingFault.{RingFault}
use Rattle.rinv_ring.specs.declared.fault.RingFault.TheVariants.{Degree as DegreeFault, NoMemory as MemoryFault}
use Rattle.rinv_defs.specs.System.{System, Poly, space_count}
use Rattle.rinv_defs.specs.Extended.{Relation, IsReducedBasis}
use Rattle.rinv_invariance.specs.Twins.{AreAscending}
use Rattle.rinv_reduction.specs.Localised.{IsMonicBasis}
use Rattle.rinv_reduction.proofs.ReducedTails.{tails_reduced_basis}
use Rattle.rinv_tails.specs.Stored.{IsStoredRelation, none}
use Rattle.rinv_tails.specs.Reducing.{AreReducedSoFar, TailsMeet}
use Rattle.rinv_elim.specs.Stopped.{StopsAt, stop_of}
use Rattle.rinv_elim.proofs.ReducedSoFar.{reduced-tails}

-- what an element inside a list is does not hang on what stands for those outside
inside-same : {X : Type 0} (xs : List X) (k : ℕ) (a b : X) → k < length xs → get_or xs k a ≡ get_or xs k b
inside-same [] k a b low = absurd (omega arith)
inside-same (x ∷ xs) zero a b low = refl
inside-same (x ∷ xs) (suc k) a b low = inside-same xs k a b (omega (arith, low))

module _ (s : System) (rs qs : List Relation) (stored_rs : All (IsStoredRelation s.p (space_count s)) rs) (monic : IsMonicBasis s rs) (number : length qs ≡ length rs) (stored_qs : All (IsStoredRelation s.p (space_count s)) qs) (made : AreReducedSoFar s.p (space_count s) rs qs) where
  pub reduced-basis : IsReducedBasis s qs
  reduced-basis = tails_reduced_basis s rs qs monic (reduced-tails s rs qs stored_rs stored_qs number made)

  lead-at : (k : ℕ) (d : Relation) → k < length qs → (get_or qs k d).lead ≡ (get_or rs k d).lead
  lead-at k d low =
      ap (λ (r : Relation). r.lead) (inside-same qs k d none low) ∙ made.leads k low ∙ ap (λ (r : Relation). r.lead) (inside-same rs k none d (omega (arith, low, number)))

  pub ascending-leads : AreAscending qs
  ascending-leads i j d low within =
      subst₂ (λ (a b : List ℕ). grevlex a b ≡ Less) (sym (lead-at i d (omega (arith, low, within)))) (sym (lead-at j d within)) (monic.ascending i j d low (omega (arith, within, number)))

-- a fault of the ring, as a stop
pub stops-at : (P : Poly → Type 0) (Q : ℕ → ℕ → Type 0) (fault : RingFault) → DegreesMeet Q fault → StopsAt P Q (stop_of fault)
stops-at P Q (DegreeFault x y) h = h
stops-at P Q MemoryFault h = tt

-- ---- over equal numbers

module _ (p q v w : ℕ) (field : p ≡ q) (vars : v ≡ w) (rs : List Relation) where
  pub stored-over : All (IsStoredRelation q w) rs → All (IsStoredRelation p v) rs
  stored-over h = subst (λ (a : ℕ). All (IsStoredRelation a v) rs) (sym field) (subst (λ (b : ℕ). All (IsStoredRelation q b) rs) (sym vars) h)

  pub stored-back : All (IsStoredRelation p v) rs → All (IsStoredRelation q w) rs
  stored-back h = subst (λ (b : ℕ). All (IsStoredRelation q b) rs) vars (subst (λ (a : ℕ). All (IsStoredRelation a v) rs) field h)

  pub made-over : (qs : List Relation) → AreReducedSoFar p v rs qs → AreReducedSoFar q w rs qs
  made-over qs h = subst (λ (b : ℕ). AreReducedSoFar q b rs qs) vars (subst (λ (a : ℕ). AreReducedSoFar a v rs qs) field h)

  pub meets-over : (fault : RingFault) → DegreesMeet (TailsMeet p v rs) fault → DegreesMeet (TailsMeet q w rs) fault
  meets-over fault h = subst (λ (b : ℕ). DegreesMeet (TailsMeet q b rs) fault) vars (subst (λ (a : ℕ). DegreesMeet (TailsMeet a v rs) fault) field h)
