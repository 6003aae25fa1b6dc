-- The text of an object that has a certificate's members.
--   text-written         it is the certificate's
--   text-denotes         it is read as the certificate
use Rattle.std.proofs.Common.{◌≡◌, ℕ, ◌≤◌, false, List, Some, IsUtf8, ap, ◌∙◌, arith}
use Rattle.serde_json.specs.Data.{Data, object, Members, no_members, depth}
use Rattle.serde_json.specs.Read.{read, max_depth}
use Rattle.serde_json.specs.Written.{has_float, compact_text}
use Rattle.rinv_defs.specs.Certificate.{Certificate}
use Rattle.rinv_json.specs.Written.{poly_data, with_members, members_of, json_of, json_text}
use Rattle.rinv_json.specs.Ranges.{IsWritable}
use Rattle.rinv_json.specs.Denoted.{DenotesCertificate}
use Rattle.rinv_json.proofs.Flat.{flat_json}
use Rattle.rinv_json.proofs.CertificatesReadBack.{read_back}

is_json : (c : Certificate) (ms : Members) → ms ≡ with_members no_members (members_of poly_data c) → object ms ≡ json_of c
unfolding json_of
is_json c ms h = ap object h

module _ (c : Certificate) (ms : Members) (has : ms ≡ with_members no_members (members_of poly_data c)) (d : Data) (is : d ≡ object ms) (text : List ℕ) where
  same : d ≡ json_of c
  same = is ∙ is_json c ms has

  pub text-written : (has_float d ≡ false → text ≡ compact_text d) → text ≡ json_text c
  text-written f = f (ap has_float same ∙ (flat_json c).no_float) ∙ ap compact_text same

  pub text-denotes : IsUtf8 text → (depth d ≤ max_depth → read text ≡ Some d) → IsWritable c → DenotesCertificate text c
  text-denotes u f w =
      let low : depth (json_of c) ≤ 9 = (flat_json c).levels in
      let as_deep : depth d ≡ depth (json_of c) = ap depth same in
      let shallow : depth d ≤ max_depth = omega (arith, low, as_deep) in
      record { json = json_of c; text = record { text = u; value = f shallow ∙ ap Some same }; is = read_back c w }
