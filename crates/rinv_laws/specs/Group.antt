-- What is known of the group's ideal.
use Rattle.std.specs.Prelude.{◌≡◌, ◌⊎◌, ℕ, List, None, nat_lt, All, IsTrue}
use Rattle.rinv_algebra.specs.Residue.{residue_ops}
use Rattle.rinv_algebra.specs.Order.{grevlex}
use Rattle.rinv_algebra.specs.Polynomial.{is_zero}
use Rattle.rinv_algebra.specs.Normal.{IsNormal}
use Rattle.rinv_defs.specs.System.{System, Poly, group_count}
use Rattle.rinv_groebner.specs.Journal.{Journal, IsComplete}
use Rattle.rinv_groebner.specs.Reduced.{IsReducedGroebnerBasis, Ascend}
use Rattle.rinv_sub.specs.Refusal.{never}
use Rattle.rinv_div.specs.declared.budget.Budget.{Budget}
use Rattle.rinv_buch.specs.declared.kinds.Why.TheVariants.{Degree}
use Rattle.rinv_buch.specs.Kinds.{Found, Halted}
use Rattle.rinv_buch.specs.Causes.{Halts}
use Rattle.rinv_buch.specs.Spent.{SpendsOn}
use Rattle.rinv_buch.specs.Reducing.{ReducingMeets}

-- the journal is complete and makes the list of the group's ideal, and this is its reduced Gröbner basis, ascending
pub record IsGroupBasis (s : System) (found : Found ℕ) (reduced : List Poly) : Type 0 where
  pub journal : Journal (residue_ops s.p) grevlex s.ideal found.journal found.polys
  pub complete : IsComplete (residue_ops s.p) grevlex found.journal found.polys
  pub normal : All (IsNormal (residue_ops s.p) (λ c. nat_lt c s.p) (group_count s)) found.polys
  pub reduced_basis : IsReducedGroebnerBasis (residue_ops s.p) grevlex (group_count s) s.ideal reduced
  pub ascending : Ascend (residue_ops s.p) grevlex reduced
  pub reduced_normal : All (IsNormal (residue_ops s.p) (λ c. nat_lt c s.p) (group_count s)) reduced

-- the list is whole, and the making of its reduced basis meets these degrees
pub record HaltsReducing (s : System) (before after : Budget) (h : Halted ℕ) : Type 0 where
  pub journal : Journal (residue_ops s.p) grevlex s.ideal h.journal h.polys
  pub complete : IsComplete (residue_ops s.p) grevlex h.journal h.polys
  pub idle : IsTrue (is_zero (residue_ops s.p) h.working)
  pub none : h.origin ≡ None
  pub spent : SpendsOn h.journal 0 before after
  pub left : ℕ
  pub right : ℕ
  pub why : h.why ≡ Degree left right
  pub meets : ReducingMeets (residue_ops s.p) (λ c. nat_lt c s.p) never (group_count s) grevlex h.polys left right

-- the run on the group's ideal halts, in its pairs or in the making of the reduced basis
abbrev pub HaltsInGroup : System → Budget → Budget → Halted ℕ → Type 0
HaltsInGroup s before after h = Halts (residue_ops s.p) (λ c. nat_lt c s.p) never (group_count s) grevlex s.ideal before after h ⊎ HaltsReducing s before after h
