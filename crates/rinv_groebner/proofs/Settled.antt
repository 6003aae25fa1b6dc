-- Lists of pairs, each settled by its S-polynomial, by coprime leading monomials, or by a third element and two pairs listed earlier.
--   Mentions a b ps      one of the pairs is that of a and b, in either order
--   Settled 𝓗 ps         each pair of the list is settled
--   settled-good         the pairs of such a list are good
--   complete-good        where all pairs are listed, all are good
use Rattle.std.proofs.Common.{◌≡◌, ◌⊎◌, List, [], ◌∷◌, subst, inl, inr}
use Rattle.rinv_theory.proofs.CRing.{CRing}
use Rattle.rinv_theory.proofs.Monoid.{Monoid}
use Rattle.rinv_theory.proofs.TermRing.{TermRing}
use Rattle.rinv_theory.proofs.Leads.{MonomialOrder}
use Rattle.rinv_groebner.proofs.Elements.{Elements, IsBelow}
use Rattle.rinv_groebner.proofs.Pairs.{cancelling, IsGood, good_self, good_sym, good_quotients, good_chain, good_coprime}

-- one of the pairs is that of a and b, in either order
pub data Mentions {I : Type 0} (a b : I) : List (I × I) → Type 0 where
  now : {ps : List (I × I)} → Mentions a b ((a, b) ∷ ps)
  turned : {ps : List (I × I)} → Mentions a b ((b, a) ∷ ps)
  earlier : {p : I × I} {ps : List (I × I)} → Mentions a b ps → Mentions a b (p ∷ ps)

module _ {K M P I : Type 0} {𝓚 : CRing K} {𝓜 : Monoid M} {𝓣 : TermRing 𝓚 𝓜 P} {𝓞 : MonomialOrder 𝓜} (𝓗 : Elements 𝓣 𝓞 I) where
  -- l is a least common multiple of two leading monomials, and s and t complete them to it
  pub record IsLcm (a b : I) (l s t : M) : Type 0 where
    pub left : 𝓜.mul s (𝓗.lead a) ≡ l
    pub right : 𝓜.mul t (𝓗.lead b) ≡ l
    pub least : (m s t : M) → 𝓜.mul s (𝓗.lead a) ≡ m → 𝓜.mul t (𝓗.lead b) ≡ m → (w : M) × (𝓜.mul w l ≡ m)

  -- each pair of the list is settled; the last stands first
  pub data Settled : List (I × I) → Type 0 where
    start : Settled []
    quotients : {ps : List (I × I)} (a b : I) (l s t : M) → IsLcm a b l s t → IsBelow 𝓗 l (cancelling 𝓗 s t a b) → Settled ps → Settled ((a, b) ∷ ps)
    coprime : {ps : List (I × I)} (a b : I) → ((s t : M) → 𝓜.mul s (𝓗.lead a) ≡ 𝓜.mul t (𝓗.lead b) → (w : M) × (𝓜.mul w (𝓗.lead b) ≡ s) × (𝓜.mul w (𝓗.lead a) ≡ t)) → Settled ps → Settled ((a, b) ∷ ps)
    chain : {ps : List (I × I)} (a b c : I) → ((m s t : M) → 𝓜.mul s (𝓗.lead a) ≡ m → 𝓜.mul t (𝓗.lead b) ≡ m → (u : M) × (𝓜.mul u (𝓗.lead c) ≡ m)) → Mentions a c ps → Mentions c b ps → Settled ps → Settled ((a, b) ∷ ps)

  -- what a new pair adds
  new : {a b : I} {ps : List (I × I)} → IsGood 𝓗 a b → ((x y : I) → Mentions x y ps → IsGood 𝓗 x y) → (x y : I) → Mentions x y ((a, b) ∷ ps) → IsGood 𝓗 x y
  new g h x y now = g
  new g h x y turned = good_sym 𝓗 y x g
  new g h x y (earlier m) = h x y m

  -- the pairs of a settled list are good
  pub settled-good : {ps : List (I × I)} → Settled ps → (x y : I) → Mentions x y ps → IsGood 𝓗 x y
  settled-good start x y m = none m
    where
      none : {x y : I} → Mentions x y [] → IsGood 𝓗 x y
      none m = elim m [ ]
  settled-good (quotients a b l s t i r j) x y m = new (good_quotients 𝓗 a b l s t i.left i.right i.least r) (settled-good j) x y m
  settled-good (coprime a b c j) x y m = new (good_coprime 𝓗 a b c) (settled-good j) x y m
  settled-good (chain a b c d p q j) x y m = new (good_chain 𝓗 a b c d (settled-good j a c p) (settled-good j c b q)) (settled-good j) x y m

  -- where all pairs are listed, all are good
  pub complete-good : {ps : List (I × I)} → Settled ps → ((x y : I) → (x ≡ y) ⊎ Mentions x y ps) → (x y : I) → IsGood 𝓗 x y
  complete-good {ps} j all x y = go (all x y)
    where
      go : (x ≡ y) ⊎ Mentions x y ps → IsGood 𝓗 x y
      go (inl e) = subst (IsGood 𝓗 x) e (good_self 𝓗 x)
      go (inr m) = settled-good j x y m
