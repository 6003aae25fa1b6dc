-- The certificate as a whole, of either kind.
--   full_of, full-made, full-accepted        with the basis, and what shows that it is one, and the relations
--   sound_of, sound-made, sound-accepted     with none of this
use Rattle.std.proofs.Common.{◌≡◌, ℕ, ◌++◌, List, [], length, map, refl, ◌∙◌}
use Rattle.std.specs.List.{AllZip}
use Rattle.rinv_defs.specs.System.{Poly}
use Rattle.rinv_defs.specs.Extended.{graph}
use Rattle.rinv_defs.specs.Accepted.{IsAccepted}
use Rattle.rinv_cert.specs.declared.certificate.CertificateOf.{CertificateOf}
use Rattle.rinv_cert.specs.declared.certificate.Kind.TheVariants.{Sound, Full}
use Rattle.rinv_cert.specs.declared.certificate.PairItem.{PairItem}
use Rattle.rinv_cert.specs.declared.certificate.Tied.{Tied}
use Rattle.rinv_cert.specs.Seen.{pair_item_by, plain}
use Rattle.rinv_acceptance.specs.Inputs.{input_rows}
use Rattle.rinv_recording.specs.Recorded.{ArePairItemsOf, PairsFit}
use Rattle.rinv_generators.specs.Generated.{Generated, IsGenerators}
use Rattle.rinv_certification.specs.Made.{AreRelationItemsOf, HasBasisPart, IsBasisItemOf, IsCertificateOf}
use Rattle.rinv_certification.proofs.Accepted.{certificate_is_accepted}
use Rattle.rinv_certify.specs.declared.common.Common.{Common}
use Rattle.rinv_certify.specs.Parts.{BasisFits, ChangesFit, IsCommon, LawsFit, RelationsFit, basis_seen, relations_seen}
use Rattle.rinv_certify.proofs.Multiplied.{full-multiplies, sound-multiplies}
use Rattle.rinv_certify.proofs.Seen.{has-common, lists-same}

abbrev pub full_of : Common → List (Poly × List Poly) → List (List Poly) → List (PairItem Poly) → List (List ℕ × Poly × List (List ℕ × Poly × Tied) × List Poly) → CertificateOf Poly
full_of common basis inputs pairs relations = record {
  kind = Full;
  system = common.system;
  fractions = common.fractions;
  invariance = common.invariance;
  laws = common.laws;
  basis = basis;
  inputs = inputs;
  pairs = pairs;
  relations = relations;
}

abbrev pub sound_of : Common → CertificateOf Poly
sound_of common = record {
  kind = Sound;
  system = common.system;
  fractions = common.fractions;
  invariance = common.invariance;
  laws = common.laws;
  basis = [];
  inputs = [];
  pairs = [];
  relations = [];
}

module _ (g : Generated) (common : Common) (is : IsCommon g common) where
  module _ (none : g.told.system.section ≡ []) (basis : List (Poly × List Poly)) (inputs : List (List Poly)) (pairs : List (PairItem Poly)) (relations : List (List ℕ × Poly × List (List ℕ × Poly × Tied) × List Poly))
      (basis_is : AllZip (IsBasisItemOf g.told.system g.group) g.action.polys (basis_seen basis)) (inputs_are : inputs ≡ input_rows g.told.system (length g.action.polys) (g.told.system.ideal ++ graph g.told.system))
      (pairs_are : ArePairItemsOf g.told.system g.action (map (pair_item_by (λ f. f)) pairs)) (relations_are : AreRelationItemsOf g (relations_seen relations)) where
    part : HasBasisPart g (plain (full_of common basis inputs pairs relations))
    part = record { basis = basis_is; inputs = lists-same inputs ∙ inputs_are; pairs = pairs_are; relations = relations_are }

    pub full-made : IsCertificateOf g (plain (full_of common basis inputs pairs relations))
    full-made = IsCertificateOf.is_full none refl (has-common g common (full_of common basis inputs pairs relations) is refl refl refl refl) part

    pub full-accepted : IsGenerators g → LawsFit g → ChangesFit g → BasisFits g.told.system (basis_seen basis) → PairsFit g.told.system g.action.polys (map (pair_item_by (λ f. f)) pairs) → RelationsFit g (relations_seen relations) → IsAccepted (plain (full_of common basis inputs pairs relations))
    full-accepted gens laws changes one two three =
        certificate_is_accepted g (plain (full_of common basis inputs pairs relations)) gens full-made
        (full-multiplies g gens (plain (full_of common basis inputs pairs relations)) (has-common g common (full_of common basis inputs pairs relations) is refl refl refl refl) laws changes none part one two three refl)

  module _ (some : ¬ (g.told.system.section ≡ [])) where
    pub sound-made : IsCertificateOf g (plain (sound_of common))
    sound-made = IsCertificateOf.is_sound some refl (has-common g common (sound_of common) is refl refl refl refl) (record { basis = refl; inputs = refl; pairs = refl; relations = refl })

    pub sound-accepted : IsGenerators g → LawsFit g → ChangesFit g → IsAccepted (plain (sound_of common))
    sound-accepted gens laws changes =
        certificate_is_accepted g (plain (sound_of common)) gens sound-made (sound-multiplies g gens (plain (sound_of common)) (has-common g common (sound_of common) is refl refl refl refl) laws changes refl)
