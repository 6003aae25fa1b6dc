use Rattle.std.proofs.Common.{◌≡◌, ◌∙◌, ◌<◌, ◌+◌, ◌*◌, ℕ, List, [], length, length-append, map, get_or, sym, ap, ap₂, subst, arith}
use Rattle.std.specs.List.{range_with_len}
use Rattle.std.proofs.lemmas.List.{get_or_default}
use Rattle.std.proofs.lemmas.List.FromFn.{length-range_with_len}
use Rattle.rinv_sub.specs.Places.{ArePlaces}
use Rattle.rinv_defs.specs.System.{Poly}
use Rattle.rinv_text.specs.Told.{Told}
use Rattle.rinv_text.proofs.SystemParts.{parts-of}
use Rattle.rinv_parts.specs.Points.{AreStored, IsStoredIn}
use Rattle.rinv_parts.proofs.Stored.{stored-range}
use Rattle.rinv_reduction.specs.Localised.{all_count}
use Rattle.rinv_action.proofs.Generators.{moved_places, places-distinct, graph_at, graph-is, normal-at, element-over}
use Rattle.rinv_action.proofs.inputs.graph.Goals as goal

pub coordinates-init : goal.coordinates-init
coordinates-init c = rw c.new-graph.ensures.items tt

pub graph_element-requires-clause-field : goal.graph_element-requires-clause-field
graph_element-requires-clause-field c = c.new-from.ensures.ring ∙ ap (λ (t : Told). t.system.p) c.system.view_is ∙ sym c.requires.field

pub graph_element-requires-clause-polynomial : goal.graph_element-requires-clause-polynomial
graph_element-requires-clause-polynomial c =
    let s = c.args.system.now.system in
    let k = c.coordinates.k in
    let l : c.len-group.result ≡ length s.group = c.len-group.ensures.len ∙ ap (λ (t : Told). length t.system.group) c.system.view_is in
    let n : c.len-space.result ≡ length s.space = c.len-space.ensures.len ∙ ap (λ (t : Told). length t.system.space) c.system.view_is in
    let places : c.deref.result.now ≡ moved_places (length s.group) (length s.space) = c.deref.ensures.value ∙ c.in_ok-places.ensures ∙ ap₂ moved_places l n in
    let f = c.index-moved.result.now in
    let number = (parts-of s c.requires.system).action_count in
    let low : k < length s.action = omega (arith, c.coordinates-test.true, n, number) in
    let here : f ≡ get_or s.action k f = c.index-moved.ensures ∙ ap (λ (t : Told). get_or t.system.action k f) c.system.view_is in
    let from_vars : c.new-from.result.vars ≡ length s.group + length s.space = c.new-from.ensures.count ∙ ap₂ (λ (i j : ℕ). i + j) l n in
    normal-at c.new-from.result.coeffs s.p c.new-from.result.vars (length s.group + length s.space) s.action k f (c.new-from.ensures.ring ∙ ap (λ (t : Told). t.system.p) c.system.view_is) from_vars low here (parts-of s c.requires.system).action

pub graph_element-requires-clause-many : goal.graph_element-requires-clause-many
graph_element-requires-clause-many c =
    let s = c.args.system.now.system in
    let k = c.coordinates.k in
    let l : c.len-group.result ≡ length s.group = c.len-group.ensures.len ∙ ap (λ (t : Told). length t.system.group) c.system.view_is in
    let n : c.len-space.result ≡ length s.space = c.len-space.ensures.len ∙ ap (λ (t : Told). length t.system.space) c.system.view_is in
    let places : c.deref.result.now ≡ moved_places (length s.group) (length s.space) = c.deref.ensures.value ∙ c.in_ok-places.ensures ∙ ap₂ moved_places l n in
    let f = c.index-moved.result.now in
    let number = (parts-of s c.requires.system).action_count in
    let low : k < length s.action = omega (arith, c.coordinates-test.true, n, number) in
    let here : f ≡ get_or s.action k f = c.index-moved.ensures ∙ ap (λ (t : Told). get_or t.system.action k f) c.system.view_is in
    let from_vars : c.new-from.result.vars ≡ length s.group + length s.space = c.new-from.ensures.count ∙ ap₂ (λ (i j : ℕ). i + j) l n in
    let a = length-append (range_with_len 0 (length s.group)) (range_with_len (length s.group + length s.space) (length s.space)) in
    let b = length-range_with_len 0 (length s.group) in
    let d = length-range_with_len (length s.group + length s.space) (length s.space) in
    let e = ap (λ (ks : List ℕ). length ks) places in
    omega (arith, a, b, d, e, from_vars)

pub graph_element-requires-clause-places : goal.graph_element-requires-clause-places
graph_element-requires-clause-places c =
    let s = c.args.system.now.system in
    let k = c.coordinates.k in
    let l : c.len-group.result ≡ length s.group = c.len-group.ensures.len ∙ ap (λ (t : Told). length t.system.group) c.system.view_is in
    let n : c.len-space.result ≡ length s.space = c.len-space.ensures.len ∙ ap (λ (t : Told). length t.system.space) c.system.view_is in
    let places : c.deref.result.now ≡ moved_places (length s.group) (length s.space) = c.deref.ensures.value ∙ c.in_ok-places.ensures ∙ ap₂ moved_places l n in
    let f = c.index-moved.result.now in
    let number = (parts-of s c.requires.system).action_count in
    let low : k < length s.action = omega (arith, c.coordinates-test.true, n, number) in
    let here : f ≡ get_or s.action k f = c.index-moved.ensures ∙ ap (λ (t : Told). get_or t.system.action k f) c.system.view_is in
    let from_vars : c.new-from.result.vars ≡ length s.group + length s.space = c.new-from.ensures.count ∙ ap₂ (λ (i j : ℕ). i + j) l n in
    subst (ArePlaces c.args.ring.now.vars) (sym places) (subst (λ (v : ℕ). ArePlaces v (moved_places (length s.group) (length s.space))) (sym c.requires.vars) (places-distinct (length s.group) (length s.space)))

pub graph_element-requires-clause-inside : goal.graph_element-requires-clause-inside
graph_element-requires-clause-inside c =
    let s = c.args.system.now.system in
    let k = c.coordinates.k in
    let l : c.len-group.result ≡ length s.group = c.len-group.ensures.len ∙ ap (λ (t : Told). length t.system.group) c.system.view_is in
    let n : c.len-space.result ≡ length s.space = c.len-space.ensures.len ∙ ap (λ (t : Told). length t.system.space) c.system.view_is in
    let places : c.deref.result.now ≡ moved_places (length s.group) (length s.space) = c.deref.ensures.value ∙ c.in_ok-places.ensures ∙ ap₂ moved_places l n in
    let f = c.index-moved.result.now in
    let number = (parts-of s c.requires.system).action_count in
    let low : k < length s.action = omega (arith, c.coordinates-test.true, n, number) in
    let here : f ≡ get_or s.action k f = c.index-moved.ensures ∙ ap (λ (t : Told). get_or t.system.action k f) c.system.view_is in
    let from_vars : c.new-from.result.vars ≡ length s.group + length s.space = c.new-from.ensures.count ∙ ap₂ (λ (i j : ℕ). i + j) l n in
    omega (arith, l, n, c.requires.vars, c.coordinates-test.true)

pub coordinates-preserved : goal.coordinates-preserved
coordinates-preserved c =
    let s = c.args.system.now.system in
    let k = c.coordinates.k in
    let l : c.len-group.result ≡ length s.group = c.len-group.ensures.len ∙ ap (λ (t : Told). length t.system.group) c.system.view_is in
    let n : c.len-space.result ≡ length s.space = c.len-space.ensures.len ∙ ap (λ (t : Told). length t.system.space) c.system.view_is in
    let places : c.deref.result.now ≡ moved_places (length s.group) (length s.space) = c.deref.ensures.value ∙ c.in_ok-places.ensures ∙ ap₂ moved_places l n in
    let f = c.index-moved.result.now in
    let number = (parts-of s c.requires.system).action_count in
    let low : k < length s.action = omega (arith, c.coordinates-test.true, n, number) in
    let here : f ≡ get_or s.action k f = c.index-moved.ensures ∙ ap (λ (t : Told). get_or t.system.action k f) c.system.view_is in
    let from_vars : c.new-from.result.vars ≡ length s.group + length s.space = c.new-from.ensures.count ∙ ap₂ (λ (i j : ℕ). i + j) l n in
    let start : k ≡ 0 + k = omega arith in
    rw c.in_ok-push.ensures.items (stored-range s.p (all_count s) (graph_at s) 0 k c.coordinates.graph.items c.in_ok-element.element c.coordinates.invariant
    (subst (λ (j : ℕ). IsStoredIn s.p (all_count s) (graph_at s j) c.in_ok-element.element) start (element-over s c.args.ring.now.coeffs c.args.ring.now.vars (c.len-group.result + k) k c.deref.result.now f c.in_ok-element.element c.requires.field c.requires.vars (ap (λ (i : ℕ). i + k) l) places (here ∙ get_or_default s.action k f [] low) c.in_ok-element.ensures)))

pub returns : goal.returns
returns c =
    let s = c.args.system.now.system in
    let n : c.len-space.result ≡ length s.space = c.len-space.ensures.len ∙ ap (λ (t : Told). length t.system.space) c.system.view_is in
    let whole : c.coordinates.k ≡ length s.space = omega (arith, c.coordinates-test.false, c.coordinates.auto.k-end, n) in
    subst (λ (fs : List Poly). AreStored s.p (all_count s) fs c.coordinates.graph.items) (ap (λ (k : ℕ). map (graph_at s) (range_with_len 0 k)) whole ∙ sym (graph-is s (parts-of s c.requires.system).action_count)) c.coordinates.invariant
