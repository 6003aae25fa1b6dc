use Rattle.std.proofs.Common.{◌≡◌, ℕ, ◌+◌, List, [], ◌∷◌, take, true, false, nat_lt, refl, sym, ap, ap₂, ◌∙◌, subst}
use Rattle.std.specs.Prelude.{flat_map}
use Rattle.std.proofs.lemmas.List.Elements.{All-nil, All-push}
use Rattle.rinv_algebra.specs.Ring.{IsSame}
use Rattle.rinv_algebra.specs.Residue.{residue_ops}
use Rattle.rinv_algebra.specs.Normal.{IsNormal}
use Rattle.rinv_algebra.specs.Polynomial.{poly_ops, difference, term_product}
use Rattle.rinv_algebra.specs.Fits.{product_fits}
use Rattle.rinv_algebra.proofs.ResidueLaws.{residue_laws}
use Rattle.rinv_poly.specs.Sums.{sum_of}
use Rattle.rinv_poly.proofs.Gather.{same-refl}
use Rattle.rinv_defs.specs.System.{Poly}
use Rattle.rinv_defs.specs.RelationConditions.{z_power, behind_z, relation_of}
use Rattle.rinv_cert.specs.Seen.{relation_item_by}
use Rattle.rinv_form.specs.Forms.{is_stored}
use Rattle.rinv_form.specs.ItemForms.{are_exponents}
use Rattle.rinv_parts.specs.Points.{ArePolynomials}
use Rattle.rinv_basis_check.specs.Relations.{relation_fits}
use Rattle.rinv_basis_check.proofs.RelationForms.{term-in}
use Rattle.rinv_basis_check.proofs.RelationSums.{term_fits, term_of, fits-more, sum-more, term-misfits, relation-fits, relation-value}
use Rattle.rinv_basis_check.proofs.relation.relation_polynomial.Goals as goal

pub tail-init : goal.tail-init
tail-init c =
    let p = c.args.rings.now.graph.coeffs in
    let v = c.args.rings.now.graph.vars in
    record {
      normal = subst (ArePolynomials p v) (sym c.new-summands.ensures.items) (All-nil (IsNormal (residue_ops p) (λ x. nat_lt x p) v));
      fits = λ s are. refl;
      sum = λ s are. subst (λ (fs : List Poly). IsSame (poly_ops (residue_ops s.p)) (sum_of fs) []) (sym c.new-summands.ensures.items) (same-refl (residue_ops s.p) (residue_laws s.p) []);
    }

pub multiple-requires-in-tail-clause-exponents : goal.multiple-requires-in-tail-clause-exponents
multiple-requires-in-tail-clause-exponents c =
    let r = c.args.rings.now in
    let parts = term-in r c.args.relation.now c.requires c.as_slice-tail.result.now (c.as_slice-tail.ensures ∙ ap (λ y. y.2) c.relation.view_is) c.tail.k c.index-tail-k.result c.tail-test.true c.index-tail-k.is in
    subst (λ (a : List ℕ). are_exponents r.space.vars a ≡ true) (sym (c.as_slice-in-tail.ensures ∙ ap (λ y. y.0) c.term.view_is)) parts.0

pub multiple-requires-in-tail-clause-polynomial : goal.multiple-requires-in-tail-clause-polynomial
multiple-requires-in-tail-clause-polynomial c =
    let r = c.args.rings.now in
    let parts = term-in r c.args.relation.now c.requires c.as_slice-tail.result.now (c.as_slice-tail.ensures ∙ ap (λ y. y.2) c.relation.view_is) c.tail.k c.index-tail-k.result c.tail-test.true c.index-tail-k.is in
    subst (λ (f : Poly). is_stored r.space.coeffs r.space.vars f ≡ true) (sym (ap (λ y. y.1) c.term.view_is)) parts.1

pub returns-in_default-2-clause-fits : goal.returns-in_default-2-clause-fits
returns-in_default-2-clause-fits c = λ s are.
    let x = c.args.relation.now in
    let ts = c.as_slice-tail.result.now in
    let lead = c.in_ok-lead.ensures.fits s are in
    let summand = c.in_ok-summand.ensures.fits s are in
    let first : true ≡ product_fits (residue_ops s.p) (z_power s x.0 ∷ []) (behind_z s x.1) =
    (rw c.in-Some.is at lead) ∙ ap₂ (λ (a : List ℕ) (d : Poly). product_fits (residue_ops s.p) (z_power s a ∷ []) (behind_z s d)) (c.as_slice.ensures ∙ ap (λ y. y.0) c.relation.view_is) (ap (λ y. y.1) c.relation.view_is) in
    let off : false ≡ term_fits s c.index-tail-k.result =
    (rw c.in_default-2.is at summand) ∙ ap₂ (λ (a : List ℕ) (d : Poly). product_fits (residue_ops s.p) (z_power s a ∷ []) (behind_z s d)) (c.as_slice-in-tail.ensures ∙ ap (λ y. y.0) c.term.view_is) (ap (λ y. y.1) c.term.view_is) in
    subst (λ us. false ≡ relation_fits s (relation_item_by (λ f. f) (x.0, x.1, us, x.3))) (c.as_slice-tail.ensures ∙ ap (λ y. y.2) c.relation.view_is)
    (term-misfits s x.0 x.1 ts x.3 first c.tail.k c.index-tail-k.result c.tail-test.true c.index-tail-k.is off)

pub tail-preserved : goal.tail-preserved
tail-preserved c =
    let p = c.args.rings.now.graph.coeffs in
    let v = c.args.rings.now.graph.vars in
    let ts = c.as_slice-tail.result.now in
    record {
      normal = subst (ArePolynomials p v) (sym c.in_ok-push.ensures.items)
          (All-push (IsNormal (residue_ops p) (λ x. nat_lt x p) v) c.tail.summands.items c.in-Some-2.summand c.tail.invariant.normal (rw c.in-Some-2.is at c.in_ok-summand.ensures.element));
      fits = λ s are.
          let fits = c.in_ok-summand.ensures.fits s are in
          let here : true ≡ term_fits s c.index-tail-k.result =
          (rw c.in-Some-2.is at fits) ∙ ap₂ (λ (a : List ℕ) (d : Poly). product_fits (residue_ops s.p) (z_power s a ∷ []) (behind_z s d)) (c.as_slice-in-tail.ensures ∙ ap (λ y. y.0) c.term.view_is) (ap (λ y. y.1) c.term.view_is) in
          fits-more s ts c.tail.k c.index-tail-k.result c.tail-test.true c.index-tail-k.is (sym here) (c.tail.invariant.fits s are);
      sum = λ s are.
          let value = c.in_ok-summand.ensures.value s are in
          let stored : IsSame (poly_ops (residue_ops s.p)) c.in-Some-2.summand (term_product (residue_ops s.p) (z_power s c.as_slice-in-tail.result.now) (behind_z s c.term.inside.c)) = rw c.in-Some-2.is at value in
          let here : IsSame (poly_ops (residue_ops s.p)) c.in-Some-2.summand (term_of s c.index-tail-k.result) =
          subst (λ (f : Poly). IsSame (poly_ops (residue_ops s.p)) c.in-Some-2.summand f) (ap₂ (λ (a : List ℕ) (d : Poly). term_product (residue_ops s.p) (z_power s a) (behind_z s d)) (c.as_slice-in-tail.ensures ∙ ap (λ y. y.0) c.term.view_is) (ap (λ y. y.1) c.term.view_is)) stored in
          subst (λ (fs : List Poly). IsSame (poly_ops (residue_ops s.p)) (sum_of fs) (flat_map (term_of s) (take (c.tail.k + 1) ts))) (sym c.in_ok-push.ensures.items)
          (sum-more s ts c.tail.k c.index-tail-k.result c.tail.summands.items c.in-Some-2.summand c.tail-test.true c.index-tail-k.is here (c.tail.invariant.sum s are));
    }

pub returns-in-Ok-sub-clause-fits : goal.returns-in-Ok-sub-clause-fits
returns-in-Ok-sub-clause-fits c = λ s are.
    let x = c.args.relation.now in
    let ts = c.as_slice-tail.result.now in
    let lead = c.in_ok-lead.ensures.fits s are in
    let first : true ≡ product_fits (residue_ops s.p) (z_power s x.0 ∷ []) (behind_z s x.1) =
    (rw c.in-Some.is at lead) ∙ ap₂ (λ (a : List ℕ) (d : Poly). product_fits (residue_ops s.p) (z_power s a ∷ []) (behind_z s d)) (c.as_slice.ensures ∙ ap (λ y. y.0) c.relation.view_is) (ap (λ y. y.1) c.relation.view_is) in
    subst (λ us. true ≡ relation_fits s (relation_item_by (λ f. f) (x.0, x.1, us, x.3))) (c.as_slice-tail.ensures ∙ ap (λ y. y.2) c.relation.view_is) (relation-fits s x.0 x.1 ts x.3 first c.tail.k c.tail-test.false (c.tail.invariant.fits s are))

pub returns-in-Ok-sub-clause-value : goal.returns-in-Ok-sub-clause-value
returns-in-Ok-sub-clause-value c = λ s are.
    let x = c.args.relation.now in
    let p = c.args.rings.now.graph.coeffs in
    let ts = c.as_slice-tail.result.now in
    let value = c.in_ok-lead.ensures.value s are in
    let stored : IsSame (poly_ops (residue_ops s.p)) c.in-Some.lead (term_product (residue_ops s.p) (z_power s c.as_slice.result.now) (behind_z s c.relation.inside.d)) = rw c.in-Some.is at value in
    let lead : IsSame (poly_ops (residue_ops s.p)) c.in-Some.lead (term_product (residue_ops s.p) (z_power s x.0) (behind_z s x.1)) =
    subst (λ (f : Poly). IsSame (poly_ops (residue_ops s.p)) c.in-Some.lead f) (ap₂ (λ (a : List ℕ) (d : Poly). term_product (residue_ops s.p) (z_power s a) (behind_z s d)) (c.as_slice.ensures ∙ ap (λ y. y.0) c.relation.view_is) (ap (λ y. y.1) c.relation.view_is)) stored in
    let sum : IsSame (poly_ops (residue_ops s.p)) c.in-Ok.sum (sum_of c.tail.summands.items) = subst (λ (q : ℕ). IsSame (poly_ops (residue_ops q)) c.in-Ok.sum (sum_of c.tail.summands.items)) are.field c.in-Ok.ensures.value in
    let less : IsSame (poly_ops (residue_ops s.p)) c.in-Ok-sub.difference (difference (residue_ops s.p) c.in-Some.lead c.in-Ok.sum) =
    subst (λ (q : ℕ). IsSame (poly_ops (residue_ops q)) c.in-Ok-sub.difference (difference (residue_ops q) c.in-Some.lead c.in-Ok.sum)) are.field c.in-Ok-sub.ensures.value in
    subst (λ us. IsSame (poly_ops (residue_ops s.p)) c.in-Ok-sub.difference (relation_of s (relation_item_by (λ f. f) (x.0, x.1, us, x.3)))) (c.as_slice-tail.ensures ∙ ap (λ y. y.2) c.relation.view_is)
    (relation-value s x.0 x.1 ts x.3 c.in-Some.lead c.in-Ok.sum c.in-Ok-sub.difference c.tail.summands.items c.tail.k c.tail-test.false lead sum (c.tail.invariant.sum s are) less)
