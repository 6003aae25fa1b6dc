use Rattle.std.proofs.Common.{◌≡◌, ◌<◌, ◌∙◌, ℕ, List, length, All, sym, ap, subst, subst₂, arith}
use Rattle.rinv_text.specs.Told.{Told}
use Rattle.rinv_defs.specs.System.{group_count}
use Rattle.rinv_parts.specs.Points.{ArePolynomials}
use Rattle.rinv_change.proofs.ProvedChanges.{wide-made}
use Rattle.rinv_change.proofs.cofactors.kept_cofactors.Goals as goal

pub widened_lists-requires-clause-field : goal.widened_lists-requires-clause-field
widened_lists-requires-clause-field c = c.new-from.ensures.ring ∙ ap (λ (t : Told). t.system.p) c.system.view_is ∙ sym c.change_ring-ring.ensures.field

pub widened_lists-requires-clause-more : goal.widened_lists-requires-clause-more
widened_lists-requires-clause-more c =
    let l : c.new-from.result.vars ≡ group_count c.args.system.now.system = c.new-from.ensures.count ∙ c.len.ensures.len ∙ ap (λ (t : Told). length t.system.group) c.system.view_is in
    rw (l, c.change_ring-ring.ensures.vars) (omega arith)

pub widened_lists-requires-clause-polynomials : goal.widened_lists-requires-clause-polynomials
widened_lists-requires-clause-polynomials c =
    let field = c.new-from.ensures.ring ∙ ap (λ (t : Told). t.system.p) c.system.view_is in
    let vars = c.new-from.ensures.count ∙ c.len.ensures.len ∙ ap (λ (t : Told). length t.system.group) c.system.view_is in
    subst (λ xs. All (λ us. ArePolynomials c.new-from.result.coeffs c.new-from.result.vars us.items) xs) (sym c.deref.ensures.value)
    (subst₂ (λ (p v : ℕ). All (λ us. ArePolynomials p v us.items) c.in_ok-lists.lists.items) (sym field) (sym vars) c.in_ok-lists.ensures.normal)

pub widened_lists-requires-clause-places : goal.widened_lists-requires-clause-places
widened_lists-requires-clause-places c =
    subst (λ xs. All (λ k. k < length xs) c.deref-2.result.now) (sym c.deref.ensures.value) (subst (λ (ks : List ℕ). All (λ k. k < length c.in_ok-lists.lists.items) ks) (sym c.deref-2.ensures.value) c.in_ok-lists.ensures.inside)

pub returns-clause-cofactors : goal.returns-clause-cofactors
returns-clause-cofactors c =
    let ring = c.change_ring-ring.ensures in
    wide-made (λ us. us.items) c.args.system.now.system c.args.group.now.basis c.change_ring-ring.result.coeffs c.change_ring-ring.result.vars ring c.in_ok-lists.lists.items c.deref.result.now c.in_ok-lists.places.items c.deref-2.result.now c.in_ok-wide.wide.items
    c.deref.ensures.value c.deref-2.ensures.value c.in_ok-lists.ensures.cofactors c.in_ok-wide.ensures.normal c.in_ok-wide.ensures.value
