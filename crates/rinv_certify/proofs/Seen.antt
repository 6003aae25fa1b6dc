-- A certificate as a value, and the certificate that it stands for.
--   has-common           the keys of every certificate
--   lists-same           lists of lists, seen as they are
use Rattle.std.proofs.Common.{◌≡◌, List, map, refl, ◌∙◌}
use Rattle.rinv_defs.specs.System.{Poly}
use Rattle.rinv_cert.specs.declared.certificate.CertificateOf.{CertificateOf}
use Rattle.rinv_cert.specs.Seen.{system_by, plain}
use Rattle.rinv_cert.proofs.Same.{map-same}
use Rattle.rinv_generators.specs.Generated.{Generated}
use Rattle.rinv_certify.specs.declared.common.Common.{Common}
use Rattle.rinv_certification.specs.Made.{HasCommonPart}
use Rattle.rinv_certify.specs.Parts.{IsCommon}

-- lists of polynomials, seen as they are
pub lists-same : (xs : List (List Poly)) → map (map (λ f. f)) xs ≡ xs
lists-same xs = map-same (map (λ f. f)) (λ us. map-same (λ f. f) (λ f. refl) us) xs

-- a certificate with the keys of every certificate of these generators
pub has-common : (g : Generated) (common : Common) (c : CertificateOf Poly) → IsCommon g common → system_by (λ f. f) c.system ≡ system_by (λ f. f) common.system → c.fractions ≡ common.fractions → c.invariance ≡ common.invariance → c.laws ≡ common.laws
    → HasCommonPart g (plain c)
has-common g common c is system fractions invariance laws = record {
  system = system ∙ is.system;
  fractions = map-same (λ (x : Poly × Poly). (x.0, x.1)) (λ x. refl) c.fractions ∙ fractions ∙ is.fractions;
  invariance = lists-same c.invariance ∙ invariance ∙ is.invariance;
  laws = map-same (map (map (λ f. f))) lists-same c.laws ∙ laws ∙ is.laws;
}
