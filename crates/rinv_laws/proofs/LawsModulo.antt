-- What a law says, found by values modulo the ideal.
--   in-more, differ-more    one place more
--   values-none, values-more    the values so far
--   vanish-parts, agree-parts, give-parts, both-parts    what the values say of the parts
--   law-holds               the parts of a law, from its points as they are stored
--   laws-none, laws-more, laws-all    one law after another
use Rattle.std.proofs.Common.{◌≡◌, ℕ, ◌+◌, ◌-◌, ◌<◌, ◌≤◌, true, false, List, [], ◌∷◌, ◌++◌, length, length-append, get_or, nat_lt, refl, sym, ◌∙◌, subst, inl, inr, arith, IsTrue}
use Rattle.std.specs.Prelude.{⊤}
use Rattle.std.proofs.lemmas.Bool.{cases_lt}
use Rattle.std.proofs.lemmas.Bool.Decides.{nat_tests}
use Rattle.std.proofs.lemmas.List.{get_or_default}
use Rattle.std.proofs.lemmas.List.Elements.{All-nil, All-push, AllZip-get_or}
use Rattle.rinv_algebra.specs.Ring.{IsSame}
use Rattle.rinv_algebra.specs.Residue.{residue_ops}
use Rattle.rinv_algebra.specs.Polynomial.{poly_ops, difference, opposite, is_zero}
use Rattle.rinv_algebra.specs.Normal.{IsNormal}
use Rattle.rinv_algebra.specs.Value.{substitute}
use Rattle.rinv_algebra.specs.Ideal.{IsMember}
use Rattle.rinv_algebra.proofs.PolynomialLaws.{poly_laws}
use Rattle.rinv_algebra.proofs.ResidueLaws.{residue_laws}
use Rattle.rinv_groebner.proofs.MemberLists.{member-same, member_trans}
use Rattle.rinv_sub.proofs.Images.{substitute-images}
use Rattle.rinv_sub.proofs.KnownPowers.{each-push}
use Rattle.rinv_modulo.specs.Congruence.{StandsFor}
use Rattle.rinv_modulo.proofs.Congruences.{congruent-less, congruent-member, congruent-same, congruent_zero}
use Rattle.rinv_buch.specs.Kinds.{Found}
use Rattle.rinv_defs.specs.System.{System, Poly, ideal_copies}
use Rattle.rinv_defs.specs.SystemForm.{IsSystem}
use Rattle.rinv_defs.specs.Laws.{Law, copies, parts, LawHolds, AllLawsHold}
use Rattle.rinv_parts.specs.declared.law_points.LawPoints.{LawPoints}
use Rattle.rinv_parts.specs.declared.law_points.LawPoints.TheVariants.{Vanish, Agree, Give, GiveBoth}
use Rattle.rinv_parts.specs.LawNames.{polynomial_variables, rank, variables_of}
use Rattle.rinv_parts.specs.Points.{AreCoordinates, ArePoints, ArePolynomials, AreStored, IsStoredIn, Points, vanish, agree, give, give_both, law_points, law_polynomials, part_number}
use Rattle.rinv_parts.specs.Substitutions.{less, made_at}
use Rattle.rinv_parts.proofs.PartCounts.{points-form}
use Rattle.rinv_parts.proofs.PartForms.{part-made, part-number}
use Rattle.rinv_parts.proofs.Stored.{stored-count, stored-same}
use Rattle.rinv_laws.specs.declared.copied.CopiedBasis.{CopiedBasis}
use Rattle.rinv_laws.specs.Group.{IsGroupBasis}
use Rattle.rinv_laws.specs.Modulo.{AreInIdeal, AreValues, DifferInIdeal, PartsInIdeal, stored_points}
use Rattle.rinv_laws.specs.Tested.{IsCopiedBasis}
use Rattle.rinv_laws.proofs.GroupCopies.{copied-basis}
use Rattle.rinv_laws.proofs.LawsInTurn.{rank-low, same-rank}

-- what holds below a place and there
place-more : (P : ℕ → Type 0) (k : ℕ) → ((j : ℕ) → j < k → P j) → P k → (j : ℕ) → j < k + 1 → P j
place-more P k h here j low = elim (cases_lt j k) [ inl below ↦ h j below | inr last ↦ subst P (is_last j low last) here ]
  where
    is_last : (j : ℕ) → j < k + 1 → k ≤ j → k ≡ j
    is_last j low last = omega (arith, low, last)

module _ (p v : ℕ) (hs : List Poly) where
  -- one polynomial more that a division makes zero
  pub in-more : (fs : List Poly) (k : ℕ) (f rest : Poly) → f ≡ get_or fs k f → k < length fs → StandsFor p v hs f rest → IsTrue (is_zero (residue_ops p) rest)
      → ((j : ℕ) → j < k → IsMember (residue_ops p) hs (get_or fs j [])) → (j : ℕ) → j < k + 1 → IsMember (residue_ops p) hs (get_or fs j [])
  in-more fs k f rest is few stands zero h =
      place-more (λ j. IsMember (residue_ops p) hs (get_or fs j [])) k h
      (subst (IsMember (residue_ops p) hs) (is ∙ get_or_default fs k f [] few) (congruent_zero (residue_ops p) (residue_laws p) hs f rest stands.congruent zero))

  -- one difference more
  pub differ-more : (left right : List Poly) (k : ℕ) (f g d rest : Poly) → f ≡ get_or left k f → g ≡ get_or right k g → k < length left → length left ≡ length right
      → IsSame (poly_ops (residue_ops p)) d (difference (residue_ops p) f g) → StandsFor p v hs d rest → IsTrue (is_zero (residue_ops p) rest)
      → ((j : ℕ) → j < k → IsMember (residue_ops p) hs (difference (residue_ops p) (get_or left j []) (get_or right j []))) → (j : ℕ) → j < k + 1 → IsMember (residue_ops p) hs (difference (residue_ops p) (get_or left j []) (get_or right j []))
  differ-more left right k f g d rest is_f is_g few many s stands zero h =
      let o = residue_ops p in
      let first : f ≡ get_or left k [] = is_f ∙ get_or_default left k f [] few in
      let second : g ≡ get_or right k [] = is_g ∙ get_or_default right k g [] (omega (arith, few, many)) in
      place-more (λ j. IsMember o hs (difference o (get_or left j []) (get_or right j []))) k h
      (subst (λ (x : Poly). IsMember o hs (difference o x (get_or right k []))) first (subst (λ (y : Poly). IsMember o hs (difference o f y)) second
      (member-same o (residue_laws p) hs d (difference o f g) s (congruent_zero o (residue_laws p) hs d rest stands.congruent zero))))

  -- the values so far
  module _ (x fs : List Poly) where
    pub record SoFar (k : ℕ) (values : List Poly) : Type 0 where
      pub many : length values ≡ k
      pub normal : ArePolynomials p v values
      pub each : (j : ℕ) (d : Poly) → j < k → StandsFor p v hs (substitute (residue_ops p) x (get_or fs j [])) (get_or values j d)

    pub values-none : SoFar 0 []
    values-none = record { many = refl; normal = All-nil (IsNormal (residue_ops p) (λ c. nat_lt c p) v); each = λ j d low. absurd (omega (arith, low)) }

    pub values-more : (k : ℕ) (values : List Poly) (f r : Poly) → k < length fs → f ≡ get_or fs k f → SoFar k values → StandsFor p v hs (substitute (residue_ops p) x f) r → SoFar (k + 1) (values ++ r ∷ [])
    values-more k values f r few is h stands = record {
      many = omega (arith, length-append values (r ∷ []), h.many);
      normal = All-push (IsNormal (residue_ops p) (λ c. nat_lt c p) v) values r h.normal stands.normal;
      each = each-push (λ j y. StandsFor p v hs (substitute (residue_ops p) x (get_or fs j [])) y) values r k h.many h.each
          (subst (λ (g : Poly). StandsFor p v hs (substitute (residue_ops p) x g) r) (is ∙ get_or_default fs k f [] few) stands);
    }

    pub values-all : (k : ℕ) (values : List Poly) → k ≡ length fs → SoFar k values → AreValues p v hs x fs values
    values-all k values e h = record { many = h.many ∙ e; normal = h.normal; each = λ j low. h.each j [] (omega (arith, low, e)) }

  -- ---- parts at points that are stored

  module _ (fs : List Poly) where
    pub vanish-parts : (x values : List Poly) → AreValues p v hs x fs values → AreInIdeal p hs values → PartsInIdeal p hs fs (vanish x) (length fs)
    vanish-parts x values h zero k few =
        congruent-member (residue_ops p) (residue_laws p) hs (substitute (residue_ops p) x (get_or fs k [])) (get_or values k []) (h.each k few).congruent (zero k (omega (arith, few, h.many)))

    pub agree-parts : (x y left right : List Poly) → AreValues p v hs x fs left → AreValues p v hs y fs right → DifferInIdeal p hs left right → PartsInIdeal p hs fs (agree x y) (length fs)
    agree-parts x y left right h g same k few =
        let o = residue_ops p in
        let f : Poly = get_or fs k [] in
        congruent-member o (residue_laws p) hs (difference o (substitute o x f) (substitute o y f)) (difference o (get_or left k []) (get_or right k []))
        (congruent-less o (residue_laws p) hs (substitute o x f) (substitute o y f) (get_or left k []) (get_or right k []) (h.each k few).congruent (g.each k few).congruent)
        (same k (omega (arith, few, h.many)))

    pub give-parts : (x z values : List Poly) → AreValues p v hs x fs values → DifferInIdeal p hs values z → PartsInIdeal p hs fs (give x z) (length fs)
    give-parts x z values h same k few =
        let o = residue_ops p in
        let f : Poly = get_or fs k [] in
        let g : Poly = get_or z k [] in
        congruent-member o (residue_laws p) hs (difference o (substitute o x f) g) (difference o (get_or values k []) g)
        (congruent-less o (residue_laws p) hs (substitute o x f) g (get_or values k []) g (h.each k few).congruent (congruent-same o (residue_laws p) hs g g ((poly_laws o (residue_laws p)).same_refl g)))
        (same k (omega (arith, few, h.many)))

    pub both-parts : (x y z : List Poly) → PartsInIdeal p hs fs (give x z) (length fs) → PartsInIdeal p hs fs (give y z) (length fs) → PartsInIdeal p hs fs (give_both x y z) (length fs + length fs)
    both-parts x y z h g k few = elim (cases_lt k (length fs)) [
      | inl low ↦
          let yes : nat_lt k (length fs) ≡ true = grind (arith, nat_tests, low) in
          rw yes (h k low)
      | inr high ↦
          let no : nat_lt k (length fs) ≡ false = grind (arith, nat_tests, high) in
          rw no (g (k - length fs) (omega (arith, few, high)))
    ]

    -- ---- points that are stored stand for others

    value-same : (x a : List Poly) → AreStored p v x a → (f : Poly) → IsSame (poly_ops (residue_ops p)) (substitute (residue_ops p) a f) (substitute (residue_ops p) x f)
    value-same x a s f = (substitute-images (residue_ops p) (residue_laws p) a x (stored-same p v x a s) (f ∷ [])).0

    less-same : (x a : List Poly) → AreStored p v x a → (f g h : Poly) → IsSame (poly_ops (residue_ops p)) g h → IsSame (poly_ops (residue_ops p)) (less p a f g) (less p x f h)
    less-same x a s f g h e =
        let o = residue_ops p in
        let l = poly_laws o (residue_laws p) in
        l.add_same (substitute o a f) (substitute o x f) (opposite o g) (opposite o h) (value-same x a s f) (l.neg_same g h e)

    coordinate-same : (z c : List Poly) (j : ℕ) → j < length z → AreStored p v z c → IsSame (poly_ops (residue_ops p)) (get_or c j []) (get_or z j [])
    coordinate-same z c j few s = (AllZip-get_or (IsStoredIn p v) z c j [] [] s few).value

    -- the values are as many as the polynomials
    abbrev HasValues : Points → Type 0
    HasValues (vanish x) = ⊤
    HasValues (agree x y) = ⊤
    HasValues (give x z) = length z ≡ length fs
    HasValues (give_both x y z) = length z ≡ length fs

    made-same : (points : Points) (stored : LawPoints) → HasValues points → ArePoints p v points stored → (k : ℕ) → k < part_number (length fs) stored → IsSame (poly_ops (residue_ops p)) (made_at p fs (stored_points stored) k) (made_at p fs points k)
    made-same (vanish x) (Vanish a) h s k few = value-same x a.items s (get_or fs k [])
    made-same (vanish x) (Agree a b) h s k few = absurd s
    made-same (vanish x) (Give a c) h s k few = absurd s
    made-same (vanish x) (GiveBoth a b c) h s k few = absurd s
    made-same (agree x y) (Vanish a) h s k few = absurd s
    made-same (agree x y) (Agree a b) h s k few =
        let f : Poly = get_or fs k [] in
        less-same x a.items s.0 f (substitute (residue_ops p) b.items f) (substitute (residue_ops p) y f) (value-same y b.items s.1 f)
    made-same (agree x y) (Give a c) h s k few = absurd s
    made-same (agree x y) (GiveBoth a b c) h s k few = absurd s
    made-same (give x z) (Vanish a) h s k few = absurd s
    made-same (give x z) (Agree a b) h s k few = absurd s
    made-same (give x z) (Give a c) h s k few =
        less-same x a.items s.0 (get_or fs k []) (get_or c.items k []) (get_or z k []) (coordinate-same z c.items k (omega (arith, few, h)) s.1)
    made-same (give x z) (GiveBoth a b c) h s k few = absurd s
    made-same (give_both x y z) (Vanish a) h s k few = absurd s
    made-same (give_both x y z) (Agree a b) h s k few = absurd s
    made-same (give_both x y z) (Give a c) h s k few = absurd s
    made-same (give_both x y z) (GiveBoth a b c) h s k few = elim (cases_lt k (length fs)) [
      | inl low ↦
          let yes : nat_lt k (length fs) ≡ true = grind (arith, nat_tests, low) in
          rw yes (less-same x a.items s.0 (get_or fs k []) (get_or c.items k []) (get_or z k []) (coordinate-same z c.items k (omega (arith, low, h)) s.2))
      | inr high ↦
          let no : nat_lt k (length fs) ≡ false = grind (arith, nat_tests, high) in
          let j = k - length fs in
          rw no (less-same y b.items s.1 (get_or fs j []) (get_or c.items j []) (get_or z j []) (coordinate-same z c.items j (omega (arith, few, high, h)) s.2))
    ]

-- ---- a law

module _ (s : System) (found : Found ℕ) (reduced : List Poly) (system : IsSystem s) (group : IsGroupBasis s found reduced) (law : Law) (b : CopiedBasis) (basis : IsCopiedBasis s found law b) (stored : LawPoints)
    (points : ArePoints s.p (variables_of s law) (law_points s law) stored) where
  has-values : (kept : LawPoints) (m : ℕ) → AreCoordinates s.p (variables_of s law) m (length (law_polynomials s law)) kept → (x : Points) → ArePoints s.p (variables_of s law) x kept → HasValues s.p (variables_of s law) b.polys.items (law_polynomials s law) x
  has-values (Vanish a) m h (vanish x) g = tt
  has-values (Vanish a) m h (agree x y) g = absurd g
  has-values (Vanish a) m h (give x z) g = absurd g
  has-values (Vanish a) m h (give_both x y z) g = absurd g
  has-values (Agree a c) m h (vanish x) g = absurd g
  has-values (Agree a c) m h (agree x y) g = tt
  has-values (Agree a c) m h (give x z) g = absurd g
  has-values (Agree a c) m h (give_both x y z) g = absurd g
  has-values (Give a c) m h (vanish x) g = absurd g
  has-values (Give a c) m h (agree x y) g = absurd g
  has-values (Give a c) m h (give x z) g = sym (stored-count s.p (variables_of s law) z c.items g.1) ∙ h.1.many
  has-values (Give a c) m h (give_both x y z) g = absurd g
  has-values (GiveBoth a d c) m h (vanish x) g = absurd g
  has-values (GiveBoth a d c) m h (agree x y) g = absurd g
  has-values (GiveBoth a d c) m h (give x z) g = absurd g
  has-values (GiveBoth a d c) m h (give_both x y z) g = sym (stored-count s.p (variables_of s law) z c.items g.2) ∙ h.2.many

  pub law-holds : (p : ℕ) (fs : List Poly) → p ≡ s.p → fs ≡ law_polynomials s law → PartsInIdeal p b.polys.items fs (stored_points stored) (part_number (length fs) stored) → LawHolds s law
  law-holds p fs field polynomials h j d inside =
      let o = residue_ops s.p in
      let gs : List Poly = law_polynomials s law in
      let form = points-form s system law (variables_of s law) stored points in
      let few : j < part_number (length gs) stored = omega (arith, inside, part-number s system law, form.number) in
      let made : IsMember o b.polys.items (made_at s.p gs (stored_points stored) j) =
      subst (λ (q : ℕ). IsMember (residue_ops q) b.polys.items (made_at q gs (stored_points stored) j)) field (subst (λ (hs : List Poly). PartsInIdeal p b.polys.items hs (stored_points stored) (part_number (length hs) stored)) polynomials h j few) in
      let same = made-same s.p (variables_of s law) b.polys.items gs (law_points s law) stored (has-values stored (polynomial_variables s law) form.coordinates (law_points s law) points) points j few in
      let member : IsMember o b.polys.items (made_at s.p gs (law_points s law) j) = member-same o (residue_laws s.p) b.polys.items (made_at s.p gs (stored_points stored) j) (made_at s.p gs (law_points s law) j) same made in
      let whole = member_trans o (residue_laws s.p) (ideal_copies s (copies law)) b.polys.items (made_at s.p gs (law_points s law) j) (copied-basis s found reduced system group law b.polys.items basis.same).ideal.0 member in
      subst (IsMember o (ideal_copies s (copies law))) (sym (part-made s system law j inside) ∙ get_or_default (parts s law) j [] d inside) whole

-- ---- one law after another

module _ (s : System) where
  pub laws-none : (law : Law) → rank law < 0 → LawHolds s law
  laws-none law low = absurd (omega (arith, low))

  pub laws-more : (k : ℕ) (law : Law) → rank law ≡ k → ((other : Law) → rank other < k → LawHolds s other) → LawHolds s law → (other : Law) → rank other < k + 1 → LawHolds s other
  laws-more k law at h holds other low = elim (cases_lt (rank other) k) [ inl below ↦ h other below | inr last ↦ subst (LawHolds s) (same-rank law other (omega (arith, at, low, last))) holds ]

  pub laws-all : (k : ℕ) → k ≡ 8 → ((law : Law) → rank law < k → LawHolds s law) → AllLawsHold s
  laws-all k e h law = h law (omega (arith, e, rank-low law))
