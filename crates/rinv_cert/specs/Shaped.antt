-- As what the values without a view of their own are read and written.
use Rattle.std.specs.Prelude.{ℕ, List, [], ◌∷◌, codes, bytes_eq, if◌then◌else◌, Option, Some, None, option_map}
use Rattle.serde_json.specs.Data.{Data, string}
use Rattle.serde_json.specs.Find.{as_str}
use Rattle.rinv_json.specs.Shapes.{◌>>=◌, whole, list_of, pair_of, triple_of, quadruple_of, word, or_else}
use Rattle.rinv_json.specs.Written.{whole_data, list_data, tuple_data}
use Rattle.rinv_cert.specs.declared.certificate.Tied.{Tied}
use Rattle.rinv_cert.specs.declared.certificate.Tied.TheVariants.{Constant, Generator}
use Rattle.rinv_cert.specs.declared.certificate.PairItem.{PairItem}
use Rattle.rinv_cert.specs.declared.certificate.PairItem.TheVariants.{Coprime, Chain, Quotients}

abbrev pub tied_shape : Data → Option Tied
tied_shape d = do
  x ← pair_of as_str whole d
  if bytes_eq x.0 (codes "constant") then Some (Constant x.1) else if bytes_eq x.0 (codes "generator") then Some (Generator x.1) else None

abbrev pub tied_written : Tied → Data
tied_written (Constant v) = tuple_data (string (codes "constant") ∷ whole_data v ∷ [])
tied_written (Generator k) = tuple_data (string (codes "generator") ∷ whole_data k ∷ [])

module _ {P : Type 0} (polynomial : Data → Option P) where
  abbrev pub coprime_shape : Data → Option (PairItem P)
  coprime_shape d = option_map (λ x. Coprime x.1 x.2) (triple_of (word (codes "coprime")) whole whole d)

  abbrev pub chain_shape : Data → Option (PairItem P)
  chain_shape d = option_map (λ x. Chain x.1 x.2 x.3) (quadruple_of (word (codes "chain")) whole whole whole d)

  abbrev pub quotients_shape : Data → Option (PairItem P)
  quotients_shape d = option_map (λ x. Quotients x.1 x.2 x.3) (quadruple_of (word (codes "quotients")) whole whole (list_of polynomial) d)

  abbrev pub pair_shape : Data → Option (PairItem P)
  pair_shape d = or_else (coprime_shape d) (or_else (chain_shape d) (quotients_shape d))

module _ {P : Type 0} (write : P → Data) where
  abbrev pub pair_written : PairItem P → Data
  pair_written (Coprime i j) = tuple_data (string (codes "coprime") ∷ whole_data i ∷ whole_data j ∷ [])
  pair_written (Chain i j k) = tuple_data (string (codes "chain") ∷ whole_data i ∷ whole_data j ∷ whole_data k ∷ [])
  pair_written (Quotients i j q) = tuple_data (string (codes "quotients") ∷ whole_data i ∷ whole_data j ∷ list_data write q ∷ [])

  abbrev pub tail_written : List ℕ × P × Tied → Data
  tail_written t = tuple_data (list_data whole_data t.0 ∷ write t.1 ∷ tied_written t.2 ∷ [])

  abbrev pub relation_written : List ℕ × P × List (List ℕ × P × Tied) × List P → Data
  relation_written r = tuple_data (list_data whole_data r.0 ∷ write r.1 ∷ list_data tail_written r.2 ∷ list_data write r.3 ∷ [])
