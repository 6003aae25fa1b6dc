use Rattle.std.proofs.Common.{ℕ, ◌+◌, ◌*◌, ◌∙◌, ap, ap₂, sym, arith, length, true≢false}
use Rattle.rinv_defs.proofs.PartCounts.{length-map}
use Rattle.rinv_cert.specs.Seen.{plain, basis_item_by}
use Rattle.rinv_form.proofs.FormParts.{form-field, form-group, form-space}
use Rattle.rinv_form.proofs.sizes.sizes_in.Goals as goal

pub unreachable-requires : goal.unreachable-requires
unreachable-requires c = absurd (true≢false (sym (c.in_default.ensures.listed.1 (rw c.from.ensures (form-field (plain c.args.stored.now) c.requires)))))

pub overflow_cast-group : goal.overflow_cast-group
overflow_cast-group c = let g = form-group (plain c.args.stored.now) c.requires in record { fits = omega (arith, g, ap length c.as_slice.ensures) }

pub overflow_cast-space : goal.overflow_cast-space
overflow_cast-space c = let n = form-space (plain c.args.stored.now) c.requires in record { fits = omega (arith, n, ap length c.as_slice-2.ensures) }

pub overflow_add-result : goal.overflow_add-result
overflow_add-result c =
    let g = form-group (plain c.args.stored.now) c.requires in
    let n = form-space (plain c.args.stored.now) c.requires in
    record { fits = omega (arith, g, n, ap length c.as_slice.ensures, ap length c.as_slice-2.ensures) }

pub overflow_mul-result : goal.overflow_mul-result
overflow_mul-result c = let n = form-space (plain c.args.stored.now) c.requires in record { fits = omega (arith, n, ap length c.as_slice-2.ensures) }

pub overflow_add-result-2 : goal.overflow_add-result-2
overflow_add-result-2 c =
    let g = form-group (plain c.args.stored.now) c.requires in
    let n = form-space (plain c.args.stored.now) c.requires in
    record { fits = omega (arith, g, n, ap length c.as_slice.ensures, ap length c.as_slice-2.ensures) }

pub returns : goal.returns
returns c =
    let g = form-group (plain c.args.stored.now) c.requires in
    let n = form-space (plain c.args.stored.now) c.requires in
    record {
      field = c.in-Ok.ensures.ok ∙ c.from.ensures;
      group = ap length c.as_slice.ensures;
      space = ap length c.as_slice-2.ensures;
      whole = ap₂ (λ (a b : ℕ). a + b) (ap length c.as_slice.ensures) (ap length c.as_slice-2.ensures);
      graph = ap₂ (λ (a b : ℕ). a + 2 * b) (ap length c.as_slice.ensures) (ap length c.as_slice-2.ensures);
      ideal = ap length c.as_slice-3.ensures ∙ sym (length-map (λ f. f) c.args.stored.now.system.ideal);
      basis = ap length c.as_slice-4.ensures ∙ sym (length-map (basis_item_by (λ f. f)) c.args.stored.now.basis);
      fractions = ap length c.as_slice-5.ensures ∙ sym (length-map (λ x. (x.0, x.1)) c.args.stored.now.fractions);
      few_group = omega (arith, g, ap length c.as_slice.ensures);
      few_space = omega (arith, n, ap length c.as_slice-2.ensures);
    }
