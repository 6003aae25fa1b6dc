-- The certificate that a value stands for, by what stands for a polynomial.
use Rattle.std.specs.Prelude.{ℕ, List, [], map}
use Rattle.rinv_defs.specs.System.{System as DefinedSystem, Poly}
use Rattle.rinv_defs.specs.Certificate as defined
use Rattle.rinv_cert.specs.declared.certificate.Kind.{Kind}
use Rattle.rinv_cert.specs.declared.certificate.Kind.TheVariants.{Invariance, Sound, Full}
use Rattle.rinv_cert.specs.declared.certificate.PairItem.{PairItem}
use Rattle.rinv_cert.specs.declared.certificate.PairItem.TheVariants.{Coprime, Chain, Quotients}
use Rattle.rinv_cert.specs.declared.certificate.Tied.{Tied}
use Rattle.rinv_cert.specs.declared.certificate.Tied.TheVariants.{Constant, Generator}
use Rattle.rinv_cert.specs.declared.certificate.System.{System}
use Rattle.rinv_cert.specs.declared.certificate.CertificateOf.{CertificateOf}

abbrev pub kind_of : Kind → defined.Kind
kind_of Invariance = defined.invariance
kind_of Sound = defined.sound
kind_of Full = defined.full

abbrev pub tied_of : Tied → defined.Tied
tied_of (Constant v) = defined.to_constant v
tied_of (Generator k) = defined.to_generator k

module _ {P : Type 0} (f : P → Poly) where
  abbrev pub system_by : System P → DefinedSystem
  system_by s = record {
    p = s.field;
    group = s.group;
    space = s.space;
    ideal = map f s.ideal;
    unit = s.unit;
    product = map f s.product;
    inverse = map f s.inverse;
    action = map f s.action;
    section = [];
  }

  abbrev pub basis_item_by : P × List P → defined.BasisItem
  basis_item_by b = record { h = f b.0; cofactors = map f b.1 }

  abbrev pub pair_item_by : PairItem P → defined.PairItem
  pair_item_by (Coprime i j) = defined.by_coprime i j
  pair_item_by (Chain i j k) = defined.by_chain i j k
  pair_item_by (Quotients i j q) = defined.by_quotients i j (map f q)

  abbrev pub tail_item_by : List ℕ × P × Tied → defined.TailItem
  tail_item_by t = record { alpha = t.0; c = f t.1; tied = tied_of t.2 }

  abbrev pub relation_item_by : List ℕ × P × List (List ℕ × P × Tied) × List P → defined.RelationItem
  relation_item_by r = record { a = r.0; d = f r.1; tail = map tail_item_by r.2; cofactors = map f r.3 }

  abbrev pub certificate_by : CertificateOf P → defined.Certificate
  certificate_by c = record {
    kind = kind_of c.kind;
    system = system_by c.system;
    fractions = map (λ x. (f x.0, f x.1)) c.fractions;
    invariance = map (map f) c.invariance;
    laws = map (map (map f)) c.laws;
    basis = map basis_item_by c.basis;
    inputs = map (map f) c.inputs;
    pairs = map pair_item_by c.pairs;
    relations = map relation_item_by c.relations;
  }

-- the certificate whose polynomials stand where they are used
abbrev pub plain : CertificateOf Poly → defined.Certificate
plain = certificate_by (λ f. f)

-- the parts with a basis whose polynomials do
abbrev pub parts_seen : List (Poly × List Poly) × List (List Poly) × List (PairItem Poly) × List (List ℕ × Poly × List (List ℕ × Poly × Tied) × List Poly)
    → List defined.BasisItem × List (List Poly) × List defined.PairItem × List defined.RelationItem
parts_seen x = (map (basis_item_by (λ f. f)) x.0, x.1, map (pair_item_by (λ f. f)) x.2, map (relation_item_by (λ f. f)) x.3)
