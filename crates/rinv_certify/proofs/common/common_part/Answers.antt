use Rattle.std.proofs.Common.{◌∙◌, [], map, ap}
use Rattle.rinv_generators.specs.Generated.{Generated}
use Rattle.rinv_certify.proofs.LawDegrees.{laws-seen}
use Rattle.rinv_certify.proofs.common.common_part.Goals as goal

pub returns : goal.returns
returns c = record {
  system = c.in_ok-system.ensures ∙ ap (λ (x : Generated). record x.told.system { section = [] }) c.gens.view_is;
  fractions = c.in_ok-fractions.ensures ∙ c.deref.ensures.value ∙ ap (λ (x : Generated). x.fractions) c.gens.view_is;
  invariance = c.in_ok-invariance.ensures ∙ ap (λ xs. map (λ us. us.items) xs) c.deref-2.ensures.value ∙ ap (λ (x : Generated). x.proofs) c.gens.view_is;
  laws = c.in_ok-laws.ensures ∙ ap (λ xs. map (λ e. map (λ us. us.items) e.1.items) xs) c.deref-3.ensures.value ∙ laws-seen (λ us. us.items) (λ uss. uss.items) c.gens.inside.laws.cofactors.items c.args.gens.now.laws (ap (λ (x : Generated). x.laws) c.gens.view_is);
}
