-- The lines of a system's parts, put behind one another.
use Rattle.std.proofs.Common.{◌≡◌, ℕ, ◌+◌, ◌*◌, ◌==◌, false, List, [], ◌∷◌, ◌++◌, length, codes, All, refl, sym, ap, subst, ◌∙◌, append_assoc, length-append}
use Rattle.rinv_defs.specs.System.{System, Poly}
use Rattle.rinv_text.specs.Names.{copies}
use Rattle.rinv_text.specs.Told.{Told}
use Rattle.rinv_system.specs.Written.{numbers_text, polynomials_text, line_text, first_lines, ideal_lines, product_line, inverse_line, action_line, map_lines, section_lines, budget_lines, text_of, system_text}
use Rattle.rinv_system.specs.Writing.{AreOver, AppendsPolynomialsLine}
use Rattle.rinv_system.proofs.GoodLists.{length-two_copies}
use Rattle.rinv_text.proofs.SystemParts.{HasParts, AreNormal}
use Rattle.rinv_system.proofs.SystemFacts.{over-stored}
use Rattle.rinv_system.proofs.WrittenLists.{line-more, lines-more, no-line}

-- a line in three pieces
pub line-of : (old o1 o2 new w r : List ℕ) → o1 ≡ old ++ (w ++ codes " ") → o2 ≡ o1 ++ r → new ≡ o2 ++ codes "\n" → new ≡ old ++ (line_text w r ++ codes "\n")
line-of old o1 o2 new w r a b c =
    c ∙ ap (λ x. x ++ codes "\n") (b ∙ ap (λ x. x ++ r) a ∙ append_assoc old (w ++ codes " ") r) ∙ append_assoc old (line_text w r) (codes "\n")

module _ (s : System) (form : HasParts s) where
  pub ideal-over : All (AreOver (length s.group)) s.ideal
  ideal-over = over-stored s.p (length s.group) s.ideal form.ideal

  pub product-over : (factors : List (List ℕ)) → factors ≡ copies 2 s.group → All (AreOver (length factors)) s.product
  product-over factors is = subst (λ v. All (AreOver v) s.product) (sym (ap length is ∙ length-two_copies s.group)) (over-stored s.p (2 * length s.group) s.product form.product)

  pub inverse-over : All (AreOver (length s.group)) s.inverse
  inverse-over = over-stored s.p (length s.group) s.inverse form.inverse

  pub action-over : (both : List (List ℕ)) → both ≡ s.group ++ s.space → All (AreOver (length both)) s.action
  action-over both is = subst (λ v. All (AreOver v) s.action) (sym (ap length is ∙ length-append s.group s.space)) (over-stored s.p (length s.group + length s.space) s.action form.action)

  pub ideal-line : (old new : List ℕ) → (length s.ideal == 0) ≡ false → AppendsPolynomialsLine (codes "ideal") s.group s.ideal old new → new ≡ old ++ text_of (ideal_lines s)
  ideal-line old new some h = rw some (line-more old old new (line_text (codes "ideal") (polynomials_text s.p s.group s.ideal)) [] (no-line old old refl) (h s.p form.listed form.ideal))

  pub section-over : AreNormal s.p (length s.space) s.section → All (AreOver (length s.space)) s.section
  section-over normal = over-stored s.p (length s.space) s.section normal

  pub section-line : AreNormal s.p (length s.space) s.section → (old new : List ℕ) → (length s.section == 0) ≡ false → AppendsPolynomialsLine (codes "section") s.space s.section old new → new ≡ old ++ text_of (section_lines s)
  section-line normal old new some h = rw some (line-more old old new (line_text (codes "section") (polynomials_text s.p s.space s.section)) [] (no-line old old refl) (h s.p form.listed normal))

  -- polynomials over names that are as long
  at-names : (word : List ℕ) (names names' : List (List ℕ)) (fs : List Poly) (v : ℕ) (old new : List ℕ) → names ≡ names' → length names' ≡ v → AreNormal s.p v fs → AppendsPolynomialsLine word names fs old new
      → new ≡ old ++ (line_text word (polynomials_text s.p names' fs) ++ codes "\n")
  at-names word names names' fs v old new is count normal h =
      subst (λ ns. AppendsPolynomialsLine word ns fs old new) is h s.p form.listed (subst (λ n. AreNormal s.p n fs) (sym count) normal)

  pub product-line : (old new : List ℕ) (factors : List (List ℕ)) → factors ≡ copies 2 s.group → AppendsPolynomialsLine (codes "product") factors s.product old new → new ≡ old ++ (product_line s ++ codes "\n")
  product-line old new factors is h = at-names (codes "product") factors (copies 2 s.group) s.product (2 * length s.group) old new is (length-two_copies s.group) form.product h

  pub inverse-line : (old new : List ℕ) → AppendsPolynomialsLine (codes "inverse") s.group s.inverse old new → new ≡ old ++ (inverse_line s ++ codes "\n")
  inverse-line old new h = h s.p form.listed form.inverse

  pub action-line : (old new : List ℕ) (both : List (List ℕ)) → both ≡ s.group ++ s.space → AppendsPolynomialsLine (codes "action") both s.action old new → new ≡ old ++ (action_line s ++ codes "\n")
  action-line old new both is h = at-names (codes "action") both (s.group ++ s.space) s.action (length s.group + length s.space) old new is (length-append s.group s.space) form.action h

-- four lines
pub map-lines : (s : System) (old o1 o2 o3 new : List ℕ) → o1 ≡ old ++ (line_text (codes "unit") (numbers_text s.unit) ++ codes "\n") → o2 ≡ o1 ++ (product_line s ++ codes "\n") → o3 ≡ o2 ++ (inverse_line s ++ codes "\n")
    → new ≡ o3 ++ (action_line s ++ codes "\n") → new ≡ old ++ text_of (map_lines s)
map-lines s old o1 o2 o3 new unit product inverse action =
    let a : List ℕ = line_text (codes "unit") (numbers_text s.unit) in
    line-more old o3 new (action_line s) (a ∷ product_line s ∷ inverse_line s ∷ [])
    (line-more old o2 o3 (inverse_line s) (a ∷ product_line s ∷ [])
    (line-more old o1 o2 (product_line s) (a ∷ []) (line-more old old o1 a [] (no-line old old refl) unit) product) inverse) action

-- all lines, where t is what is seen of u
pub all-lines : (t u : Told) (o0 o1 o2 o3 o4 o5 new : List ℕ) → t ≡ u → o0 ≡ [] → o1 ≡ o0 ++ text_of (first_lines u.system) → o2 ≡ o1 ++ text_of (ideal_lines u.system) → o3 ≡ o2 ++ text_of (map_lines u.system) → o4 ≡ o3 ++ text_of (section_lines u.system)
    → o5 ≡ o4 ++ text_of (budget_lines (codes "budget pairs") 10000 t.pairs) → new ≡ o5 ++ text_of (budget_lines (codes "budget steps") 10000000 t.steps) → new ≡ system_text u
unfolding system_text
all-lines t u o0 o1 o2 o3 o4 o5 new is none first ideal maps section pairs steps =
    let s : System = u.system in
    let a : List (List ℕ) = first_lines s in
    let b : List (List ℕ) = a ++ ideal_lines s in
    let d : List (List ℕ) = b ++ map_lines s in
    let e : List (List ℕ) = d ++ section_lines s in
    let f : List (List ℕ) = e ++ budget_lines (codes "budget pairs") 10000 u.pairs in
    lines-more [] o5 new f (budget_lines (codes "budget steps") 10000000 u.steps)
    (lines-more [] o4 o5 e (budget_lines (codes "budget pairs") 10000 u.pairs)
    (lines-more [] o3 o4 d (section_lines s)
    (lines-more [] o2 o3 b (map_lines s)
    (lines-more [] o1 o2 a (ideal_lines s) (first ∙ ap (λ r. r ++ text_of a) none) ideal)
    maps)
    section)
    (subst (λ (v : Told). o5 ≡ o4 ++ text_of (budget_lines (codes "budget pairs") 10000 v.pairs)) is pairs))
    (subst (λ (v : Told). new ≡ o5 ++ text_of (budget_lines (codes "budget steps") 10000000 v.steps)) is steps)
