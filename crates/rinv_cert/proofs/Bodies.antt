-- The certificate that was read, kind by kind.
--   invariance-read, sound-read, full-read
--   law-refused
use Rattle.std.proofs.Common.{◌≡◌, ℕ, List, [], ◌∷◌, map, codes, Some, refl, sym, ap, ap₂, subst, ◌∙◌}
use Rattle.std.proofs.lemmas.Option.{none-some, same_Some}
use Rattle.serde_json.specs.Data.{Data, Members}
use Rattle.serde_json.specs.Find.{as_object}
use Rattle.rinv_defs.specs.System.{Poly}
use Rattle.rinv_defs.specs.Invariant.{Fraction}
use Rattle.rinv_defs.specs.Certificate as defined
use Rattle.rinv_json.specs.Reading.{found, each_from}
use Rattle.rinv_json.specs.Shapes.{poly, list_of, under}
use Rattle.rinv_json.specs.Items.{fraction, basis_item, pair_item, relation_item}
use Rattle.rinv_json.specs.Certificates.{many, system_of, invariance_of, laws_of, sound_of, basis_of, full_of}
use Rattle.rinv_json.specs.Keys.{law_keys}
use Rattle.rinv_cert.specs.Faults.{Refuses}
use Rattle.rinv_cert.specs.declared.fault.CertStop.{CertStop}
use Rattle.rinv_cert.specs.declared.fault.CertStop.TheVariants.{Fault, NoMemory}
use Rattle.rinv_cert.specs.declared.certificate.Kind.TheVariants.{Invariance, Sound, Full}
use Rattle.rinv_cert.specs.declared.certificate.System.{System}
use Rattle.rinv_cert.specs.declared.certificate.CertificateOf.{CertificateOf}
use Rattle.rinv_cert.specs.declared.certificate.PairItem.{PairItem}
use Rattle.rinv_cert.specs.declared.certificate.Tied.{Tied}
use Rattle.rinv_cert.specs.Seen.{system_by, basis_item_by, pair_item_by, relation_item_by, parts_seen, plain}
use Rattle.rinv_cert.proofs.Same.{map-same}

abbrev Arrays : Type 0
Arrays = List (List Poly)

abbrev Relation : Type 0
Relation = List ℕ × Poly × List (List ℕ × Poly × Tied) × List Poly

same_fractions : (fs : List Fraction) → map (λ x. (x.0, x.1)) fs ≡ fs
same_fractions fs = map-same (λ x. (x.0, x.1)) (λ x. refl) fs

same_arrays : (us : Arrays) → map (map (λ f. f)) us ≡ us
same_arrays us = map-same (map (λ f. f)) (map-same (λ f. f) (λ f. refl)) us

pub invariance-read : (d : Data) (s : System Poly) (fs : List Fraction) (us : Arrays) (laws : List Arrays) (basis : List (Poly × List Poly)) (inputs : Arrays) (pairs : List (PairItem Poly)) (relations : List Relation)
    → system_of poly d ≡ found (system_by (λ f. f) s) → many (codes "fractions") (fraction poly) d ≡ found fs → many (codes "invariance") (list_of poly) d ≡ found us
    → laws ≡ [] → basis ≡ [] → inputs ≡ [] → pairs ≡ [] → relations ≡ []
    → invariance_of poly d ≡ found (plain (record { kind = Invariance; system = s; fractions = fs; invariance = us; laws = laws; basis = basis; inputs = inputs; pairs = pairs; relations = relations }))
unfolding invariance_of
invariance-read d s fs us laws basis inputs pairs relations h1 h2 h3 a b c e f = rw (h1, h2, h3, a, b, c, e, f)
    (ap₂ (λ (fractions : List Fraction) (cofactors : Arrays). found (record { kind = defined.invariance; system = system_by (λ f. f) s; fractions = fractions; invariance = cofactors; laws = []; basis = []; inputs = []; pairs = []; relations = [] }))
    (sym (same_fractions fs)) (sym (same_arrays us)))

pub sound-read : (d : Data) (c : CertificateOf Poly) (laws : List Arrays) → invariance_of poly d ≡ found (plain c) → laws_of poly d ≡ found laws
    → sound_of poly d ≡ found (plain (record c { kind = Sound; laws = laws }))
unfolding sound_of
sound-read d c laws h k = rw (h, k) (ap (λ (ls : List Arrays). found (record (plain c) { kind = defined.sound; laws = ls })) (sym (map-same (map (map (λ f. f))) same_arrays laws)))

pub full-read : (d : Data) (c : CertificateOf Poly) (basis : List (Poly × List Poly)) (inputs : Arrays) (pairs : List (PairItem Poly)) (relations : List Relation)
    → sound_of poly d ≡ found (plain c) → basis_of poly d ≡ found (parts_seen (basis, inputs, pairs, relations))
    → full_of poly d ≡ found (plain (record c { kind = Full; basis = basis; inputs = inputs; pairs = pairs; relations = relations }))
unfolding full_of
full-read d c basis inputs pairs relations h1 h2 = rw (h1, h2)
    (ap (λ (us : Arrays). found (record (plain c) { kind = defined.full; basis = map (basis_item_by (λ f. f)) basis; inputs = us; pairs = map (pair_item_by (λ f. f)) pairs; relations = map (relation_item_by (λ f. f)) relations })) (sym (same_arrays inputs)))

-- ---- the laws

is_object : (v : Data) (ms : Members) → as_object v ≡ Some ms → v ≡ Data.object ms
is_object Data.null ms h = absurd (none-some _ h)
is_object (Data.boolean b) ms h = absurd (none-some _ h)
is_object (Data.number n) ms h = absurd (none-some _ h)
is_object (Data.string s) ms h = absurd (none-some _ h)
is_object (Data.array ds) ms h = absurd (none-some _ h)
is_object (Data.object ns) ms h = ap Data.object (same_Some _ _ h)

law-refused-in : (d : Data) (ms : Members) (e : CertStop) → under (codes "laws") as_object d ≡ Some ms
    → Refuses (each_from (codes "laws") (λ name. under name (list_of (list_of poly)) (Data.object ms)) 1 law_keys) e → Refuses (laws_of poly d) e
unfolding laws_of
law-refused-in d ms NoMemory u h = tt
law-refused-in d ms (Fault f) u h = rw (u, h) refl

-- a law that is refused in the object under the key
pub law-refused : (d v : Data) (ms : Members) (e : CertStop) → under (codes "laws") as_object d ≡ as_object v → as_object v ≡ Some ms
    → Refuses (each_from (codes "laws") (λ name. under name (list_of (list_of poly)) v) 1 law_keys) e → Refuses (laws_of poly d) e
law-refused d v ms e u o h = law-refused-in d ms e (u ∙ o) (subst (λ x. Refuses (each_from (codes "laws") (λ name. under name (list_of (list_of poly)) x) 1 law_keys) e) (is_object v ms o) h)
