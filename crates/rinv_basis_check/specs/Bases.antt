-- A basis as its pairs and leads are tested.
use Rattle.std.specs.Prelude.{◌≡◌, ◌+◌, ◌*◌, [], ◌∷◌, length, Bool, ◌&&◌, ◌==◌, not}
use Rattle.rinv_defs.specs.System.{group_count, space_count}
use Rattle.rinv_defs.specs.Certificate.{Certificate}
use Rattle.rinv_defs.specs.Conditions.{elements}
use Rattle.rinv_defs.specs.Names.{is_between}
use Rattle.rinv_defs.specs.Format.{is_pair}
use Rattle.rinv_defs.specs.System.{Poly}
use Rattle.rinv_cert.specs.declared.certificate.PairItem.{PairItem}
use Rattle.rinv_cert.specs.declared.certificate.PairItem.TheVariants.{Coprime, Chain, Quotients}
use Rattle.rinv_form.specs.Forms.{are_stored}
use Rattle.rinv_basis_check.specs.declared.basis.Basis.{Basis}

-- the ring of the group's variables, Z and the space's; where the blocks of variables end; and the elements, whose leading monomials the basis carries
pub record IsBasisOf (c : Certificate) (b : Basis) : Type 0 where
  pub field : b.ring.coeffs ≡ c.system.p
  pub vars : b.ring.vars ≡ group_count c.system + 2 * space_count c.system
  pub ends : b.order ≡ group_count c.system ∷ (group_count c.system + space_count c.system) ∷ (group_count c.system + 2 * space_count c.system) ∷ []
  pub elements : b.elements.items ≡ elements c

-- an entry whose places are among the elements, and whose quotients are in the ring
abbrev pub is_pair_form_in : Basis → PairItem Poly → Bool
is_pair_form_in b (Coprime i j) = is_pair (length b.elements.items) i j
is_pair_form_in b (Chain i j k) = is_pair (length b.elements.items) i j && is_between 1 (length b.elements.items) k && not (k == i) && not (k == j)
is_pair_form_in b (Quotients i j q) = is_pair (length b.elements.items) i j && are_stored b.ring.coeffs b.ring.vars (length b.elements.items) q
