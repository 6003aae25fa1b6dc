-- Whether an element of a basis is covered, by its two tests.
--   covered, uncovered    where one of them holds, and where none does
--   any-seen              the relations as they are seen
use Rattle.std.proofs.Common.{◌≡◌, ℕ, Bool, true, false, not, ◌||◌, ◌==◌, List, [], ◌∷◌, map, take, drop, refl, sym, ap, ap₂, ◌∙◌}
use Rattle.std.specs.List.{list_all, list_any, position_from}
use Rattle.rinv_algebra.specs.Residue.{residue_ops}
use Rattle.rinv_algebra.specs.Monomial.{total_degree, divides}
use Rattle.rinv_algebra.specs.Polynomial.{monomials}
use Rattle.rinv_defs.specs.System.{Poly, group_count, space_count}
use Rattle.rinv_defs.specs.Certificate.{Certificate}
use Rattle.rinv_defs.specs.Conditions.{elements}
use Rattle.rinv_defs.specs.PairConditions.{leading}
use Rattle.rinv_defs.specs.RelationConditions.{is_free_of_group, z_part, is_covered, leads_failure}
use Rattle.rinv_cert.specs.declared.certificate.Tied.{Tied}
use Rattle.rinv_cert.specs.Seen.{relation_item_by}

list_any-map : {A B : Type 0} (test : B → Bool) (f : A → B) (xs : List A) → list_any test (map f xs) ≡ list_any (λ x. test (f x)) xs
list_any-map test f [] = refl
list_any-map test f (x ∷ xs) = ap (λ (b : Bool). test (f x) || b) (list_any-map test f xs)

-- the test of the variables, and that of the relations, at equal numbers
module _ (c : Certificate) (h : Poly) (p group space : ℕ) (lead : List ℕ) (rs : List (List ℕ × Poly × List (List ℕ × Poly × Tied) × List Poly))
    (ep : p ≡ c.system.p) (eg : group ≡ group_count c.system) (en : space ≡ space_count c.system) (el : lead ≡ leading c.system h) (er : c.relations ≡ map (relation_item_by (λ f. f)) rs) where
  free-is : list_all (λ m. total_degree (take group m) == 0) (monomials (residue_ops p) h) ≡ is_free_of_group c.system h
  free-is = ap₂ (λ (q n : ℕ). list_all (λ m. total_degree (take n m) == 0) (monomials (residue_ops q) h)) ep eg

  any-is : list_any (λ r. divides r.0 (take space (drop group lead))) rs ≡ list_any (λ r. divides r.a (z_part c.system (leading c.system h))) c.relations
  any-is =
      ap (λ (m : List ℕ). list_any (λ r. divides r.0 m) rs) (ap₂ (λ (n g : ℕ). take n (drop g lead)) en eg ∙ ap (z_part c.system) el)
      ∙ sym (ap (list_any (λ r. divides r.a (z_part c.system (leading c.system h)))) er ∙ list_any-map (λ r. divides r.a (z_part c.system (leading c.system h))) (relation_item_by (λ f. f)) rs)

  covered-is : (not (list_all (λ m. total_degree (take group m) == 0) (monomials (residue_ops p) h)) || list_any (λ r. divides r.0 (take space (drop group lead))) rs) ≡ is_covered c h
  unfolding is_covered
  covered-is = ap₂ (λ (a b : Bool). not a || b) free-is any-is

  -- it is free of the group's variables, and no relation covers it
  pub uncovered : (free any : Bool) → free ≡ list_all (λ m. total_degree (take group m) == 0) (monomials (residue_ops p) h) → any ≡ list_any (λ r. divides r.0 (take space (drop group lead))) rs → free ≡ true → any ≡ false → not (is_covered c h) ≡ true
  uncovered free any ef ea is_free no_relation = sym (ap not (ap₂ (λ (a b : Bool). not a || b) (sym is_free ∙ ef) (sym no_relation ∙ ea) ∙ covered-is))

  -- it is not, or one covers it
  pub unfree : (free : Bool) → free ≡ list_all (λ m. total_degree (take group m) == 0) (monomials (residue_ops p) h) → free ≡ false → not (is_covered c h) ≡ false
  unfree free ef off = sym (ap not (ap (λ (a : Bool). not a || list_any (λ r. divides r.0 (take space (drop group lead))) rs) (sym off ∙ ef) ∙ covered-is))

  pub covered : (any : Bool) → any ≡ list_any (λ r. divides r.0 (take space (drop group lead))) rs → any ≡ true → not (is_covered c h) ≡ false
  covered any ea found =
      sym (ap not (either (not (list_all (λ m. total_degree (take group m) == 0) (monomials (residue_ops p) h))) ∙ ap (λ (b : Bool). not (list_all (λ m. total_degree (take group m) == 0) (monomials (residue_ops p) h)) || b) (sym found ∙ ea) ∙ covered-is))
    where
      either : (a : Bool) → true ≡ (a || true)
      either true = refl
      either false = refl

-- the failure by the elements as they are stored
pub leads-walk : (c : Certificate) (es : List Poly) → es ≡ elements c → leads_failure c ≡ position_from (λ h. not (is_covered c h)) 1 es
unfolding leads_failure
leads-walk c es e = ap (position_from (λ h. not (is_covered c h)) 1) (sym e)
