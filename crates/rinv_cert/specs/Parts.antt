-- The parts of the value of a certificate, as they are read and written.
--   laws_object, laws_read, relations_read, array_at    what stands under a key
--   AddsMembers                                         members that are put to those of an object
--   head_members, law_list_members, kind_members        those of some parts
use Rattle.std.specs.Prelude.{◌≡◌, ℕ, List, map, zip, codes, Option, String}
use Rattle.std.specs.declared.alloc.Global.{Global}
use Rattle.serde_json.specs.declared.value.Value.{Value}
use Rattle.serde_json.specs.Data.{Data, Members, Items, put, no_members, string}
use Rattle.serde_json.specs.View.{members_view}
use Rattle.serde_json.specs.Find.{as_array, as_object}
use Rattle.rinv_defs.specs.System.{Poly}
use Rattle.rinv_defs.specs.Certificate.{RelationItem}
use Rattle.rinv_json.specs.Reading.{Reading, each_from}
use Rattle.rinv_json.specs.Shapes.{under, list_of, poly}
use Rattle.rinv_json.specs.Items.{relation_item}
use Rattle.rinv_json.specs.Certificates.{many}
use Rattle.rinv_json.specs.Keys.{kind_word, law_keys}
use Rattle.rinv_json.specs.Written.{whole_data, poly_data, list_data, with_members, further_members}
use Rattle.rinv_cert.specs.declared.certificate.Kind.{Kind}
use Rattle.rinv_cert.specs.declared.certificate.CertificateOf.{CertificateOf}
use Rattle.rinv_cert.specs.declared.fault.Part.{Part}
use Rattle.rinv_cert.specs.Faults.{part_word}
use Rattle.rinv_cert.specs.Seen.{kind_of, plain}

-- ---- reading

-- the object with the cofactors of the laws
abbrev pub laws_object : Data → Option Members
laws_object d = under (codes "laws") as_object d

-- the cofactors of each law, or the first law whose are refused
abbrev pub laws_read : Data → Reading (List (List (List Poly)))
laws_read d = each_from (codes "laws") (λ name. under name (list_of (list_of poly)) d) 1 law_keys

-- the relations, or the first that is refused
abbrev pub relations_read : Data → Reading (List RelationItem)
relations_read d = many (codes "relations") (relation_item poly) d

-- the array under the key of a part
abbrev pub array_at : Part → Data → Option Items
array_at part d = under (part_word part) as_array d

-- ---- writing

-- the members are put to those that were there
abbrev pub AddsMembers : (old new : List (String Global × Value)) → List (List ℕ × Data) → Type 0
AddsMembers old new ms = members_view new ≡ with_members (members_view old) ms

-- the version and the kind
abbrev pub head_members : Kind → Members
head_members kind = put (codes "kind") (string (kind_word (kind_of kind))) (put (codes "version") (whole_data 1) no_members)

-- the cofactors of each law
abbrev pub law_list_members : List (List (List Poly)) → Members
law_list_members laws = with_members no_members (zip law_keys (map (list_data (list_data poly_data)) laws))

-- the keys that the kind has further
abbrev pub kind_members : CertificateOf Poly → List (List ℕ × Data)
kind_members c = further_members poly_data (kind_of c.kind) (plain c)
