-- Relations over fractions as they are stored, for n variables Z, with fractions modulo p in the n variables of the space.
--   IsTailTerm, IsTail       a term of a tail, and a tail: terms from the greatest down
--   IsStoredRelation         a lead, and a tail below it
use Rattle.std.specs.Prelude.{◌≡◌, ◌≤◌, ℕ, List, [], length, All, IsFalse}
use Rattle.std.specs.List.{AllPairs}
use Rattle.std.specs.declared.cmp.Ordering.TheVariants.{Less}
use Rattle.rinv_algebra.specs.Residue.{residue_ops}
use Rattle.rinv_algebra.specs.Monomial.{total_degree, max_degree}
use Rattle.rinv_algebra.specs.Order.{grevlex}
use Rattle.rinv_algebra.specs.Polynomial.{is_zero}
use Rattle.rinv_defs.specs.Invariant.{Fraction}
use Rattle.rinv_defs.specs.Extended.{Relation, FractionPoly}
use Rattle.rinv_frac.specs.Fractions.{IsStored}

-- no relation
abbrev pub none : Relation
none = record { lead = []; tail = [] }

module _ (p n : ℕ) where
  -- a term of a tail: a monomial in Z, and a fraction that is not zero
  pub record IsTailTerm (t : List ℕ × Fraction) : Type 0 where
    pub vars : length t.0 ≡ n
    pub low : total_degree t.0 ≤ max_degree
    pub fraction : IsStored p n t.1
    pub nonzero : IsFalse (is_zero (residue_ops p) t.1.0)

  -- such terms, from the greatest monomial down
  pub record IsTail (f : FractionPoly) : Type 0 where
    pub terms : All IsTailTerm f
    pub descending : AllPairs (λ t u. grevlex u.0 t.0 ≡ Less) f

  -- a lead in Z, and a tail below it
  pub record IsStoredRelation (r : Relation) : Type 0 where
    pub vars : length r.lead ≡ n
    pub low : total_degree r.lead ≤ max_degree
    pub tail : IsTail r.tail
    pub below : All (λ t. grevlex t.0 r.lead ≡ Less) r.tail
