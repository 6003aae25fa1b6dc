use Rattle.std.proofs.Common.{◌≡◌, ℕ, ◌≤◌, List, ◌++◌, length, replicate, ap, ap₂, ◌∙◌, subst, arith}
use Rattle.rinv_text.specs.Told.{Told}
use Rattle.rinv_text.proofs.SystemParts.{between, parts-of}
use Rattle.rinv_defs.specs.System.{group_count}
use Rattle.rinv_basis_check.proofs.PairMultiples.{one-distinct}
use Rattle.rinv_certify.proofs.TermParts.{made-length, made-normal, made-same}
use Rattle.rinv_certify.proofs.terms.z_power.Goals as goal

pub from_exponents-requires : goal.from_exponents-requires
from_exponents-requires c =
    let s = c.args.system.now.system in
    let a = c.args.a.now in
    let zeros : c.in_ok-exponents.exponents.items ≡ replicate (group_count s) 0 = c.in_ok-exponents.ensures.items_if_clones_equal (λ y h. h) ∙ ap (λ (n : ℕ). replicate n 0) (c.len.ensures.len ∙ ap (λ (t : Told). length t.system.group) c.system.view_is) in
    let own : c.deref.result.now ≡ a = c.deref.ensures.value ∙ c.in_ok-own.ensures in
    let many : c.len-2.result ≡ length a = omega (arith, c.len-2.ensures, ap (λ (xs : List ℕ). length xs) c.in_ok-own.ensures) in
    let after : c.deref-2.result.now ≡ replicate (length a) 0 = c.deref-2.ensures.value ∙ c.in_ok-after.ensures.items_if_clones_equal (λ y h. h) ∙ ap (λ (n : ℕ). replicate n 0) many in
    let whole : c.deref-3.result.now ≡ (replicate (group_count s) 0 ++ a) ++ replicate (length a) 0 =
    c.deref-3.ensures.value ∙ c.in_ok-extend_from_slice-2.ensures.items
    ∙ ap₂ (λ (xs ys : List ℕ). xs ++ ys) (c.in_ok-extend_from_slice.ensures.items ∙ ap₂ (λ (xs ys : List ℕ). xs ++ ys) zeros own) after in
    let long = made-length s a c.deref-3.result.now c.requires.exponents whole in
    let parts = parts-of s c.requires.system in
    let group = between (length s.group) parts.group_few in
    let space = between (length s.space) parts.space_few in
    omega (arith, long, group.1, space.1)

pub from_distinct-requires-clause-terms : goal.from_distinct-requires-clause-terms
from_distinct-requires-clause-terms c =
    let s = c.args.system.now.system in
    let a = c.args.a.now in
    let zeros : c.in_ok-exponents.exponents.items ≡ replicate (group_count s) 0 = c.in_ok-exponents.ensures.items_if_clones_equal (λ y h. h) ∙ ap (λ (n : ℕ). replicate n 0) (c.len.ensures.len ∙ ap (λ (t : Told). length t.system.group) c.system.view_is) in
    let own : c.deref.result.now ≡ a = c.deref.ensures.value ∙ c.in_ok-own.ensures in
    let many : c.len-2.result ≡ length a = omega (arith, c.len-2.ensures, ap (λ (xs : List ℕ). length xs) c.in_ok-own.ensures) in
    let after : c.deref-2.result.now ≡ replicate (length a) 0 = c.deref-2.ensures.value ∙ c.in_ok-after.ensures.items_if_clones_equal (λ y h. h) ∙ ap (λ (n : ℕ). replicate n 0) many in
    let whole : c.deref-3.result.now ≡ (replicate (group_count s) 0 ++ a) ++ replicate (length a) 0 =
    c.deref-3.ensures.value ∙ c.in_ok-extend_from_slice-2.ensures.items
    ∙ ap₂ (λ (xs ys : List ℕ). xs ++ ys) (c.in_ok-extend_from_slice.ensures.items ∙ ap₂ (λ (xs ys : List ℕ). xs ++ ys) zeros own) after in
    let mono : c.in-Some.mono ≡ c.deref-3.result.now = rw c.in-Some.is at c.in_ok-mono.ensures.some in
    let two : 2 ≤ c.args.ring.now.coeffs = subst (λ (p : ℕ). 2 ≤ p) c.coeffs.ensures c.modulus-p.ensures.least in
    made-normal s a c.in-Some.mono c.requires.exponents (mono ∙ whole) c.degree-degree.ensures.limit c.args.ring.now.coeffs c.args.ring.now.vars two c.requires.vars c.in_ok-terms.terms.items c.in_ok-terms.ensures.items

pub from_distinct-requires-clause-distinct : goal.from_distinct-requires-clause-distinct
from_distinct-requires-clause-distinct c = rw c.in_ok-terms.ensures.items (one-distinct c.in-Some.mono)

pub returns-clause-value : goal.returns-clause-value
returns-clause-value c =
    let s = c.args.system.now.system in
    let a = c.args.a.now in
    let zeros : c.in_ok-exponents.exponents.items ≡ replicate (group_count s) 0 = c.in_ok-exponents.ensures.items_if_clones_equal (λ y h. h) ∙ ap (λ (n : ℕ). replicate n 0) (c.len.ensures.len ∙ ap (λ (t : Told). length t.system.group) c.system.view_is) in
    let own : c.deref.result.now ≡ a = c.deref.ensures.value ∙ c.in_ok-own.ensures in
    let many : c.len-2.result ≡ length a = omega (arith, c.len-2.ensures, ap (λ (xs : List ℕ). length xs) c.in_ok-own.ensures) in
    let after : c.deref-2.result.now ≡ replicate (length a) 0 = c.deref-2.ensures.value ∙ c.in_ok-after.ensures.items_if_clones_equal (λ y h. h) ∙ ap (λ (n : ℕ). replicate n 0) many in
    let whole : c.deref-3.result.now ≡ (replicate (group_count s) 0 ++ a) ++ replicate (length a) 0 =
    c.deref-3.ensures.value ∙ c.in_ok-extend_from_slice-2.ensures.items
    ∙ ap₂ (λ (xs ys : List ℕ). xs ++ ys) (c.in_ok-extend_from_slice.ensures.items ∙ ap₂ (λ (xs ys : List ℕ). xs ++ ys) zeros own) after in
    let mono : c.in-Some.mono ≡ c.deref-3.result.now = rw c.in-Some.is at c.in_ok-mono.ensures.some in
    made-same s a c.in-Some.mono c.requires.exponents (mono ∙ whole) c.args.ring.now.coeffs c.in_ok-power.power c.in_ok-terms.terms.items c.in_ok-terms.ensures.items c.in_ok-power.ensures.value
