-- Where one shape is another, seen by a function, so are the entries under a key.
--   many-found, many-refuses
use Rattle.std.proofs.Common.{◌≡◌, ℕ, ◌+◌, List, [], ◌∷◌, map, Option, Some, None, option_map, refl, ap, ◌∙◌}
use Rattle.serde_json.specs.Data.{Data, Items}
use Rattle.serde_json.specs.Find.{as_array}
use Rattle.rinv_json.specs.Reading.{Reading, found, refused, ◌>>=◌, or_refuse, each_from}
use Rattle.rinv_json.specs.Shapes.{elements, under}
use Rattle.rinv_json.specs.Certificates.{many}
use Rattle.rinv_cert.specs.declared.fault.CertStop.{CertStop}
use Rattle.rinv_cert.specs.declared.fault.CertStop.TheVariants.{Fault, NoMemory}
use Rattle.rinv_cert.specs.Faults.{Refuses}

abbrev reading_map : {A B : Type 0} → (A → B) → Reading A → Reading B
reading_map g (found x) = found (g x)
reading_map g (refused part place) = refused part place

module _ {A B : Type 0} (shape : Data → Option A) (other : Data → Option B) (g : A → B) (seen : (d : Data) → other d ≡ option_map g (shape d)) where
  front : (part : List ℕ) (k : ℕ) (o : Option A) (r : Reading (List A))
      → (or_refuse part k (option_map g o) >>= (λ x. reading_map (map g) r >>= (λ xs. found (x ∷ xs))))
      ≡ reading_map (map g) (or_refuse part k o >>= (λ x. r >>= (λ xs. found (x ∷ xs))))
  front part k None r = refl
  front part k (Some x) (found xs) = refl
  front part k (Some x) (refused p n) = refl

  each_from-seen : (part : List ℕ) (k : ℕ) (ds : List Data) → each_from part other k ds ≡ reading_map (map g) (each_from part shape k ds)
  unfolding each_from
  each_from-seen part k [] = refl
  each_from-seen part k (d ∷ ds) = rw (seen d, each_from-seen part (k + 1) ds) (front part k (shape d) (each_from part shape (k + 1) ds))

  many-seen : (part : List ℕ) (d : Data) → many part other d ≡ reading_map (map g) (many part shape d)
  unfolding many
  many-seen part d = go (under part as_array d)
    where
      go : (o : Option Items) → (or_refuse part 0 o >>= (λ ds. each_from part other 1 (elements ds))) ≡ reading_map (map g) (or_refuse part 0 o >>= (λ ds. each_from part shape 1 (elements ds)))
      go None = refl
      go (Some ds) = each_from-seen part 1 (elements ds)

  pub many-found : (part : List ℕ) (d : Data) (xs : List A) → many part shape d ≡ found xs → many part other d ≡ found (map g xs)
  many-found part d xs h = many-seen part d ∙ ap (reading_map (map g)) h

  pub many-refuses : (part : List ℕ) (d : Data) (e : CertStop) → Refuses (many part shape d) e → Refuses (many part other d) e
  many-refuses part d (Fault f) h = many-seen part d ∙ ap (reading_map (map g)) h
  many-refuses part d NoMemory h = tt
