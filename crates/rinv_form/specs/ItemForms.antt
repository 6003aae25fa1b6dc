-- The forms of the entries of a full certificate, by the numbers of variables and of elements that they ask.
--   is_basis_form, is_pair_form, is_tail_form, is_relation_form     an entry has its form
use Rattle.std.specs.Prelude.{ℕ, List, map, length, Bool, not, ◌&&◌, ◌==◌, nat_lt, nat_le}
use Rattle.std.specs.List.{list_all}
use Rattle.rinv_algebra.specs.Residue.{residue_ops}
use Rattle.rinv_algebra.specs.Monomial.{total_degree, max_degree}
use Rattle.rinv_algebra.specs.Polynomial.{is_zero}
use Rattle.rinv_defs.specs.System.{Poly}
use Rattle.rinv_defs.specs.Names.{is_between}
use Rattle.rinv_defs.specs.Format.{is_pair, are_distinct}
use Rattle.rinv_cert.specs.declared.certificate.PairItem.{PairItem}
use Rattle.rinv_cert.specs.declared.certificate.PairItem.TheVariants.{Coprime, Chain, Quotients}
use Rattle.rinv_cert.specs.declared.certificate.Tied.{Tied}
use Rattle.rinv_cert.specs.declared.certificate.Tied.TheVariants.{Constant, Generator}
use Rattle.rinv_form.specs.Forms.{is_stored, are_stored}
use Rattle.rinv_form.specs.declared.sizes.Sizes.{Sizes}

-- a polynomial in v variables that is not zero
abbrev pub is_stored_nonzero : ℕ → ℕ → Poly → Bool
is_stored_nonzero p v f = is_stored p v f && not (is_zero (residue_ops p) f)

-- an element of a basis, and its cofactors
abbrev pub is_basis_form : Sizes → Poly × List Poly → Bool
is_basis_form z b = is_stored_nonzero z.field z.graph b.0 && are_stored z.field z.whole z.ideal b.1

-- why a pair is settled
abbrev pub is_pair_form : Sizes → PairItem Poly → Bool
is_pair_form z (Coprime i j) = is_pair z.basis i j
is_pair_form z (Chain i j k) = is_pair z.basis i j && is_between 1 z.basis k && not (k == i) && not (k == j)
is_pair_form z (Quotients i j q) = is_pair z.basis i j && are_stored z.field z.graph z.basis q

-- so many exponents, whose sum is within the limit
abbrev pub are_exponents : ℕ → List ℕ → Bool
are_exponents n a = length a == n && nat_le (total_degree a) max_degree

-- a residue, or the number of a fraction
abbrev pub is_tied_form : Sizes → Tied → Bool
is_tied_form z (Constant v) = nat_lt v z.field
is_tied_form z (Generator k) = is_between 1 z.fractions k

-- a term of a relation's tail: its exponents, its coefficient, and what that is tied to
abbrev pub is_tail_form : Sizes → List ℕ × Poly × Tied → Bool
is_tail_form z t = are_exponents z.space t.0 && is_stored z.field z.space t.1 && is_tied_form z t.2

-- a relation: its lead, its denominator, its tail with distinct monomials, and its cofactors
abbrev pub is_relation_form : Sizes → List ℕ × Poly × List (List ℕ × Poly × Tied) × List Poly → Bool
is_relation_form z r =
    are_exponents z.space r.0 && is_stored_nonzero z.field z.space r.1 && list_all (is_tail_form z) r.2
    && are_distinct (map (λ t. t.0) r.2) && are_stored z.field z.whole z.ideal r.3
