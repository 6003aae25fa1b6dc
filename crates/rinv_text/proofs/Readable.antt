-- Each expression that is not refused denotes a polynomial in normal form.
use Rattle.std.proofs.Common.{◌≡◌, ℕ, zero, suc, ◌+◌, ◌-◌, ◌*◌, ◌≤◌, max, List, [], ◌∷◌, ◌++◌, length, replicate, false, nat_lt, IsTrue, None, arith, length-append}
use Rattle.std.specs.List.{All}
use Rattle.std.proofs.Math.Nat.{mod-mod}
use Rattle.std.proofs.lemmas.Bool.Decides.{nat_tests}
use Rattle.std.proofs.lemmas.List.{length-replicate}
use Rattle.std.proofs.lemmas.List.Elements.{All-nil, All-cons, All-append, All-map, All-weaker}
use Rattle.rinv_algebra.specs.Ring.{RingOps, IsSame}
use Rattle.rinv_algebra.specs.Residue.{is_listed, modulus_of, residue, residue_ops}
use Rattle.rinv_algebra.specs.Monomial.{monomial_product, total_degree}
use Rattle.rinv_algebra.specs.Polynomial.{Term, Polynomial, poly_ops, opposite, product as times, constant, variable}
use Rattle.rinv_algebra.specs.Fraction.{Fraction, over_one, fraction_sum, fraction_product}
use Rattle.rinv_algebra.proofs.ResidueLaws.{residue_laws, same-from_residue}
use Rattle.rinv_algebra.proofs.BlockOrder.{sum-product}
use Rattle.rinv_poly.proofs.Forms.{normal-from_ordered}
use Rattle.rinv_poly.proofs.Existence.{IsWithin, has_normal}
use Rattle.rinv_text.specs.Tokens.{tokens}
use Rattle.rinv_text.specs.declared.formal.Formal.{Formal}
use Rattle.rinv_text.specs.Grammar.{Tree, number, name, negative, sum, difference, product, quotient, power}
use Rattle.rinv_text.specs.Formal.{of_variable, formal, formal_sum, formal_product, turned, is_above, is_high}
use Rattle.rinv_text.specs.Reading.{to_the, place_of, variable_named, value}
use Rattle.rinv_text.specs.Stops.{IsExpression, refusal, Denotes}
use Rattle.rinv_text.specs.Values.{IsNormalOver}
use Rattle.rinv_text.proofs.Judged.{degrees-low}
use Rattle.rinv_text.proofs.Low.{product-each}
use Rattle.rinv_text.proofs.Powers.{variable-degree}
use Rattle.rinv_text.proofs.Words.{EachName, derived-names}
use Rattle.rinv_text.proofs.Read.{HasPlace, words-known, residue-below}
use Rattle.rinv_text.proofs.Denoted.{accepted-low}

-- a monomial in v variables, of degree d, at most both
abbrev IsSmall : ℕ → ℕ → List ℕ → Type 0
IsSmall v d m = (length m ≤ v) × (total_degree m ≤ d)

abbrev AreSmall : ℕ → ℕ → Polynomial ℕ → Type 0
AreSmall v d f = All (λ t. IsSmall v d t.0) f

length-product : (v : ℕ) (a b : List ℕ) → length a ≤ v → length b ≤ v → length (monomial_product a b) ≤ v
unfolding monomial_product
length-product v [] b h k = k
length-product v (x ∷ a) [] h k = h
length-product v (x ∷ a) (y ∷ b) h k = omega (arith, length-product (v - 1) a b (omega (arith, h)) (omega (arith, k)), h)

small-weaker : (v d e : ℕ) (f : Polynomial ℕ) → d ≤ e → AreSmall v d f → AreSmall v e f
small-weaker v d e f h small = All-weaker (λ t. IsSmall v d t.0) (λ t. IsSmall v e t.0) (λ t (short, low). (short, omega (arith, low, h))) f small

module _ (p : ℕ) (names : List (List ℕ)) where
  abbrev o : RingOps ℕ
  o = residue_ops p

  abbrev v : ℕ
  v = length names

  small-one : (d : ℕ) (m : List ℕ) (c : ℕ) → length m ≤ v → total_degree m ≤ d → AreSmall v d ((m, c) ∷ [])
  small-one d m c short low = All-cons (λ t. IsSmall v d t.0) (m, c) [] (short, low) (All-nil (λ t. IsSmall v d t.0))

  small-sum : (d e : ℕ) (f g : Polynomial ℕ) → AreSmall v d f → AreSmall v e g → AreSmall v (max d e) (f ++ g)
  small-sum d e f g a b = All-append (λ t. IsSmall v (max d e) t.0) f g (small-weaker v d (max d e) f (omega arith) a) (small-weaker v e (max d e) g (omega arith) b)

  small-opposite : (d : ℕ) (f : Polynomial ℕ) → AreSmall v d f → AreSmall v d (opposite o f)
  small-opposite d f a = All-map (λ t. IsSmall v d t.0) (λ (t : Term ℕ). (t.0, o.neg t.1)) f a

  small-product : (d e : ℕ) (f g : Polynomial ℕ) → AreSmall v d f → AreSmall v e g → AreSmall v (d + e) (times o f g)
  small-product d e = product-each o (IsSmall v d) (IsSmall v e) (IsSmall v (d + e)) (λ a b (sa, la) (sb, lb). (length-product v a b sa sb, omega (arith, sum-product a b, la, lb)))

  small-power : (d k : ℕ) (f : Polynomial ℕ) → AreSmall v d f → AreSmall v (k * d) (to_the o k f)
  unfolding to_the
  small-power d zero f a = small-one (0 * d) [] 1 (omega arith) (omega arith)
  small-power d (suc k) f a = small-weaker v (k * d + d) (suc k * d) (times o (to_the o k f) f) (omega arith) (small-product (k * d) d (to_the o k f) f (small-power d k f a) a)

  -- a fraction whose parts are small
  pub record IsSmallPair (f : Formal) (x : Fraction ℕ) : Type 0 where
    pub num : AreSmall v f.num_degree x.0
    pub den : AreSmall v f.den_degree x.1

  small-over_one : (f : Polynomial ℕ) (d e : ℕ) → AreSmall v d f → IsSmallPair (record { num_degree = d; den_degree = 0; num_terms = e; den_terms = 1 }) (over_one o f)
  small-over_one f d e h = record { num = h; den = small-one 0 [] 1 (omega arith) (omega arith) }

  small-fraction_sum : (f g : Formal) (x y : Fraction ℕ) → IsSmallPair f x → IsSmallPair g y → IsSmallPair (formal_sum f g) (fraction_sum o x y)
  small-fraction_sum f g x y a b = record {
    num = small-sum (f.num_degree + g.den_degree) (g.num_degree + f.den_degree) (times o x.0 y.1) (times o y.0 x.1) (small-product f.num_degree g.den_degree x.0 y.1 a.num b.den) (small-product g.num_degree f.den_degree y.0 x.1 b.num a.den);
    den = small-product f.den_degree g.den_degree x.1 y.1 a.den b.den;
  }

  small-fraction_product : (f g : Formal) (x y : Fraction ℕ) → IsSmallPair f x → IsSmallPair g y → IsSmallPair (formal_product f g) (fraction_product o x y)
  small-fraction_product f g x y a b = record { num = small-product f.num_degree g.num_degree x.0 y.0 a.num b.num; den = small-product f.den_degree g.den_degree x.1 y.1 a.den b.den }

  small-turned : (f : Formal) (x : Fraction ℕ) → IsSmallPair f x → IsSmallPair (turned f) (x.1, x.0)
  small-turned f x a = record { num = a.den; den = a.num }

  small-opposite_of : (f : Formal) (x : Fraction ℕ) → IsSmallPair f x → IsSmallPair f (opposite o x.0, x.1)
  small-opposite_of f x a = record { num = small-opposite f.num_degree x.0 a.num; den = a.den }

  -- no monomial of an expression is above its formal degree
  small-value : (t : Tree) → EachName (HasPlace names) t → IsSmallPair (formal (λ w. of_variable) t) (value p (variable_named p names) t)
  unfolding value formal
  small-value (number n) named = small-over_one (constant o (residue p n)) 0 1 (small-one 0 [] (residue p n) (omega arith) (omega arith))
  small-value (name w) named = small-over_one (variable o (place_of names w)) 1 1 (variable_at (place_of names w) named)
    where
      variable_at : (k : ℕ) → IsTrue (nat_lt k v) → AreSmall v 1 ((replicate k 0 ++ 1 ∷ [], 1) ∷ [])
      variable_at k within =
          small-one 1 (replicate k 0 ++ 1 ∷ []) 1 (let h : suc k ≤ v = grind (arith, nat_tests) in omega (arith, h, length-append {A = ℕ} (replicate k 0) (1 ∷ []), length-replicate {A = ℕ} k 0)) (omega (arith, variable-degree p v k))
  small-value (negative t) named = small-opposite_of _ _ (small-value t named)
  small-value (sum t u) (nt, nu) = small-fraction_sum _ _ _ _ (small-value t nt) (small-value u nu)
  small-value (difference t u) (nt, nu) = small-fraction_sum _ _ _ _ (small-value t nt) (small-opposite_of _ _ (small-value u nu))
  small-value (product t u) (nt, nu) = small-fraction_product _ _ _ _ (small-value t nt) (small-value u nu)
  small-value (quotient t u) (nt, nu) = small-fraction_product _ _ _ _ (small-value t nt) (small-turned _ _ (small-value u nu))
  small-value (power t k) named =
      let small = small-value t named in
      record { num = small-power _ k _ small.num; den = small-power _ k _ small.den }

  low-num : (f : Formal) → is_above f ≡ false → f.num_degree ≤ 64
  low-num f h = grind (arith, nat_tests)

  module _ (listed : IsTrue (is_listed p)) where
    stored-value : (t : Tree) → EachName (HasPlace names) t → is_high (λ w. of_variable) t ≡ false → (f : Polynomial ℕ) × IsNormalOver p v f × IsSame (poly_ops o) f (value p (variable_named p names) t).0
    stored-value t named low =
        let (f, n, e) = has_normal o (residue_laws p) (λ c. nat_lt c p) v (residue p) (residue-below p listed) (λ c. same-from_residue p (residue p c) c (mod-mod c (modulus_of p))) (value p (variable_named p names) t).0 within in
        (f, normal-from_ordered o (λ c. nat_lt c p) v f n, e)
      where
        within : All (IsWithin v) (value p (variable_named p names) t).0
        within = All-weaker (λ u. IsSmall v (formal (λ w. of_variable) t).num_degree u.0) (IsWithin v) (λ u (short, small). record { vars = short; low = omega (arith, small, low-num (formal (λ w. of_variable) t) (degrees-low (λ w. of_variable) t low)) }) (value p (variable_named p names) t).0 (small-value t named).num

    -- what is read has a polynomial
    pub has_polynomial : (text : List ℕ) (t : Tree) → IsExpression text t → refusal names (tokens text) t ≡ None → (f : Polynomial ℕ) × Denotes p names text f × IsNormalOver p v f
    has_polynomial text t derived none =
        let (known, low) = accepted-low names (tokens text) t none in
        let (f, n, e) = stored-value t (derived-names (HasPlace names) derived (words-known names (tokens text) known)) low in
        (f, record { tree = t; derived = derived; accepted = none; same = e }, n)
