use Rattle.std.proofs.Common.{◌≡◌, ◌<◌, ◌∙◌, ◌+◌, ◌*◌, ◌++◌, ℕ, List, length, get_or, sym, ap, ap₂, subst, arith}
use Rattle.rinv_algebra.specs.Residue.{residue_ops}
use Rattle.rinv_algebra.specs.Polynomial.{difference, variable}
use Rattle.rinv_sub.specs.Places.{ArePlaces}
use Rattle.rinv_defs.specs.System.{Poly}
use Rattle.rinv_cert.specs.Seen.{plain}
use Rattle.rinv_parts.specs.Points.{AreStored, IsStoredIn}
use Rattle.rinv_parts.proofs.Stored.{normal-over}
use Rattle.rinv_identities.proofs.GraphEquations.{graph_to, graph-more, graph-whole, difference-more, renamed}
use Rattle.rinv_identities.proofs.GrowingLists.{normal-at, stored-behind}
use Rattle.rinv_identities.proofs.PlacesAround.{around, around-many, around-places}
use Rattle.rinv_identities.proofs.SeenParts.{action-count, action-normal, ideal-normal, same-list}
use Rattle.rinv_identities.proofs.generators.action_generators.Goals as goal

pub widened_ideal-requires-clause-polynomials : goal.widened_ideal-requires-clause-polynomials
widened_ideal-requires-clause-polynomials c =
    let sizes = c.sizes_in-sizes.ensures in
    let s = c.args.stored.now.system in
    normal-over c.new-ring.result.coeffs s.field c.new-group.result.vars (length s.group) c.as_slice.result.now s.ideal (c.new-ring.ensures.ring ∙ sizes.field) (c.new-group.ensures.count ∙ sizes.group) c.as_slice.ensures
    (ideal-normal c.args.stored.now c.requires)

pub bounds-action-k : goal.bounds-action-k
bounds-action-k c =
    let many = ap (λ (fs : List Poly). length fs) c.as_slice-action.ensures in
    omega (arith, c.action-test.true, c.sizes_in-sizes.ensures.space, many, action-count c.args.stored.now c.requires)

pub rename-requires-clause-polynomial : goal.rename-requires-clause-polynomial
rename-requires-clause-polynomial c =
    let sizes = c.sizes_in-sizes.ensures in
    let s = c.args.stored.now.system in
    let many = ap (λ (fs : List Poly). length fs) c.as_slice-action.ensures in
    let few : c.action.k < length c.as_slice-action.result.now = omega (arith, c.action-test.true, sizes.space, many, action-count c.args.stored.now c.requires) in
    normal-at c.new-whole.result.coeffs c.new-whole.result.vars c.as_slice-action.result.now c.action.k c.index-action-k.result few c.index-action-k.is
    (normal-over c.new-whole.result.coeffs s.field c.new-whole.result.vars (length s.group + length s.space) c.as_slice-action.result.now s.action (c.new-whole.ensures.ring ∙ sizes.field) (c.new-whole.ensures.count ∙ sizes.whole) c.as_slice-action.ensures
    (action-normal c.args.stored.now c.requires))

pub rename-requires-clause-many : goal.rename-requires-clause-many
rename-requires-clause-many c =
    let sizes = c.sizes_in-sizes.ensures in
    let z = c.sizes_in-sizes.result in
    let are = ap (λ (ks : List ℕ). length ks) (c.deref.ensures.value ∙ c.in_ok-places.ensures) in
    omega (arith, are, around-many z.group z.space, c.new-whole.ensures.count, sizes.whole, sizes.group, sizes.space)

pub rename-requires-clause-places : goal.rename-requires-clause-places
rename-requires-clause-places c =
    let sizes = c.sizes_in-sizes.ensures in
    let z = c.sizes_in-sizes.result in
    subst (ArePlaces c.new-ring.result.vars) (sym (c.deref.ensures.value ∙ c.in_ok-places.ensures)) (around-places z.group z.space c.new-ring.result.vars (omega (arith, c.new-ring.ensures.count, sizes.graph, sizes.group, sizes.space)))

pub action-preserved : goal.action-preserved
action-preserved c =
    let sizes = c.sizes_in-sizes.ensures in
    let z = c.sizes_in-sizes.result in
    let written = c.args.stored.now.system in
    let s = (plain c.args.stored.now).system in
    let o = residue_ops s.p in
    let p = c.new-ring.result.coeffs in
    let v = c.new-ring.result.vars in
    let k = c.action.k in
    let f : Poly = c.index-action-k.result in
    let actions : c.as_slice-action.result.now ≡ s.action = c.as_slice-action.ensures ∙ sym (same-list written.action) in
    let many = ap (λ (fs : List Poly). length fs) actions in
    let few : k < length s.action = omega (arith, c.action-test.true, sizes.space, ap (λ (fs : List Poly). length fs) (same-list written.action), action-count c.args.stored.now c.requires) in
    let at : f ≡ get_or s.action k f = c.index-action-k.is ∙ ap (λ (fs : List Poly). get_or fs k f) actions in
    let places : c.deref.result.now ≡ around (length written.group) (length written.space) = c.deref.ensures.value ∙ c.in_ok-places.ensures ∙ ap₂ around sizes.group sizes.space in
    let here : IsStoredIn s.p v (difference o (variable o (length written.group + k)) (renamed s f)) c.in-Ok-sub.difference =
    difference-more s p v z.group k c.deref.result.now f c.in_ok-z.z c.in-Ok.moved c.in-Ok-sub.difference (c.new-ring.ensures.ring ∙ sizes.field) sizes.group places
    (record { normal = c.in_ok-z.ensures.normal; value = c.in_ok-z.ensures.value }) (record { normal = c.in-Ok.ensures.element; value = c.in-Ok.ensures.value }) (record { normal = c.in-Ok-sub.ensures.element; value = c.in-Ok-sub.ensures.value })
    in
    let vars : v ≡ length written.group + 2 * length written.space = c.new-ring.ensures.count ∙ sizes.graph in
    rw c.in_ok-push.ensures.items (stored-behind s.p (length written.group + 2 * length written.space) s.ideal (graph_to s k) (graph_to s (k + 1)) c.action.generators.items (difference o (variable o (length written.group + k)) (renamed s f)) c.in-Ok-sub.difference
    (graph-more s k f few at) c.action.invariant (rw vars at here))

pub returns : goal.returns
returns c =
    let sizes = c.sizes_in-sizes.ensures in
    let written = c.args.stored.now.system in
    let s = (plain c.args.stored.now).system in
    let whole : c.action.k ≡ length written.space = omega (arith, c.action-test.false, c.action.auto.k-end, sizes.space) in
    subst (λ (fs : List Poly). AreStored s.p (length written.group + 2 * length written.space) (s.ideal ++ fs) c.action.generators.items)
    (graph-whole s c.action.k whole (ap (λ (fs : List Poly). length fs) (same-list written.action) ∙ action-count c.args.stored.now c.requires)) c.action.invariant
