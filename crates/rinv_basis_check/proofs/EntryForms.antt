-- The form of an entry, over the basis as it is stored.
--   entry-in                      an entry of the right form speaks of elements of the basis
--   pair-first, pair-second       the places of a pair
use Rattle.std.proofs.Common.{◌≡◌, ℕ, ◌<◌, ◌≤◌, length, true, refl, ap, ◌∙◌, arith}
use Rattle.std.proofs.lemmas.Bool.Decides.{nat_tests}
use Rattle.rinv_defs.specs.System.{Poly}
use Rattle.rinv_defs.specs.Certificate.{Certificate}
use Rattle.rinv_defs.specs.Format.{is_pair, is_pair_item}
use Rattle.rinv_defs.proofs.PartCounts.{length-map}
use Rattle.rinv_cert.specs.declared.certificate.PairItem.{PairItem}
use Rattle.rinv_cert.specs.declared.certificate.PairItem.TheVariants.{Coprime, Chain, Quotients}
use Rattle.rinv_cert.specs.Seen.{pair_item_by}
use Rattle.rinv_cert.proofs.Same.{map-same}
use Rattle.rinv_basis_check.specs.declared.basis.Basis.{Basis}
use Rattle.rinv_basis_check.specs.Bases.{IsBasisOf, is_pair_form_in}

pub pair-first : (n i j : ℕ) → is_pair n i j ≡ true → 1 ≤ i
pair-first n i j h = grind (arith, nat_tests, h)

pub pair-ascends : (n i j : ℕ) → is_pair n i j ≡ true → i < j
pair-ascends n i j h = grind (arith, nat_tests, h)

pub pair-second : (n i j : ℕ) → is_pair n i j ≡ true → j ≤ n
pair-second n i j h = grind (arith, nat_tests, h)

-- as many elements
pub elements-many : (c : Certificate) (b : Basis) → IsBasisOf c b → length b.elements.items ≡ length c.basis
elements-many c b is = ap length is.elements ∙ length-map (λ x. x.h) c.basis

pub entry-in : (c : Certificate) (b : Basis) (e : PairItem Poly) → IsBasisOf c b → is_pair_item c.system (length c.basis) (pair_item_by (λ f. f) e) ≡ true → is_pair_form_in b e ≡ true
entry-in c b (Coprime i j) is h = rw (elements-many c b is) h
entry-in c b (Chain i j k) is h = rw (elements-many c b is) h
entry-in c b (Quotients i j q) is h = rw (elements-many c b is, is.field, is.vars) (rw (map-same (λ (f : Poly). f) (λ f. refl) q) at h)
