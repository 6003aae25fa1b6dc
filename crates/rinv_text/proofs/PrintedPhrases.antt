-- Phrases of the grammar with their text, their value and their formal numbers.
use Rattle.std.proofs.Common.{◌≡◌, ℕ, ◌+◌, ◌*◌, ◌<◌, ◌≤◌, ◌^◌, List, [], ◌∷◌, ◌++◌, refl, sym, ap, ◌∙◌, subst, Bool, true, false, not, ◌&&◌, ◌||◌, nat_lt, nat_le, bytes_eq, None, arith}
use Rattle.std.proofs.lemmas.Bool.Decides.{nat_tests}
use Rattle.std.proofs.Math.Nat.{mod-mod}
use Rattle.std.specs.List.{list_all, list_any}
use Rattle.rinv_algebra.specs.Ring.{RingOps, RingLaws, IsSame}
use Rattle.rinv_algebra.specs.Residue.{modulus_of, residue, residue_ops}
use Rattle.rinv_algebra.specs.Polynomial.{Polynomial, poly_ops, product as times_poly, constant, variable}
use Rattle.rinv_algebra.specs.Fraction.{Fraction, fraction_sum, fraction_product}
use Rattle.rinv_algebra.proofs.RingFacts as facts
use Rattle.rinv_algebra.proofs.PolynomialLaws.{poly_laws}
use Rattle.rinv_algebra.proofs.ResidueLaws.{residue_laws, same-from_residue}
use Rattle.rinv_poly.proofs.Gather.{term-same, same-then, same-refl, append-same}
use Rattle.rinv_text.specs.Printable.{is_word}
use Rattle.rinv_text.specs.declared.formal.Formal.{Formal}
use Rattle.rinv_text.specs.Tokens.{Token, numeral, word, plus, minus, times, slash, caret, opening, closing, foreign, Placed, kinds, tokens}
use Rattle.rinv_text.specs.Grammar.{Tree, number, name, sum, product, power, Level, atom, factor, term, expression, Derives, a_number, a_name, an_atom, a_power, a_factor, a_product, a_term, a_sum}
use Rattle.rinv_text.specs.Formal.{of_variable, formal, some_part, is_high, is_long}
use Rattle.rinv_text.specs.Reading.{variable_named, value, place_of, to_the, divides_by_zero}
use Rattle.rinv_text.specs.Stops.{Denotes, first_unknown, is_past_limit, refusal}
use Rattle.rinv_text.proofs.Caps.{one-power}
use Rattle.rinv_text.proofs.Crossings.{times-one, over-power}
use Rattle.rinv_text.proofs.PrintedBytes.{IsSolid, solid-between, number-solid, word-solid}
use Rattle.rinv_text.proofs.PrintedTokens.{blank-read, Front, IsNumberText, number-front, word-front, between, spaced, front-whole}

-- a fraction that is f over 1
pub record IsOverOne (p : ℕ) (f : Polynomial ℕ) (x : Fraction ℕ) : Type 0 where
  pub num : IsSame (poly_ops (residue_ops p)) f x.0
  pub den : IsSame (poly_ops (residue_ops p)) x.1 (constant (residue_ops p) 1)

-- formal numbers of what is not divided
pub record IsUndivided (f : Formal) : Type 0 where
  pub degree : f.den_degree ≡ 0
  pub terms : f.den_terms ≡ 1

-- a token that is known, within the limits, and neither a parenthesis nor a division
abbrev pub is_plain : List (List ℕ) → Token → Bool
is_plain names (numeral n) = not (nat_le (2 ^ 128) n)
is_plain names (word w) = list_any (bytes_eq w) names
is_plain names opening = false
is_plain names closing = false
is_plain names slash = false
is_plain names _ = true

-- ---- no such token is refused

parts-of : (x y : Bool) → (x && y) ≡ true → (x ≡ true) × (y ≡ true)
parts-of true true e = (refl, refl)
parts-of true false e = cc
parts-of false y e = cc

plain-append : (names : List (List ℕ)) (ks ls : List Token) → list_all (is_plain names) ks ≡ true → list_all (is_plain names) ls ≡ true → list_all (is_plain names) (ks ++ ls) ≡ true
plain-append names [] ls e f = f
plain-append names (k ∷ ks) ls e f = let parts = parts-of (is_plain names k) (list_all (is_plain names) ks) e in rw parts.0 (plain-append names ks ls parts.1 f)

plain-known : (names : List (List ℕ)) (ts : List Placed) → list_all (is_plain names) (kinds ts) ≡ true → first_unknown names ts ≡ None
unfolding first_unknown
plain-known names [] e = refl
plain-known names ((place, word w) ∷ ts) e = let parts = parts-of (list_any (bytes_eq w) names) (list_all (is_plain names) (kinds ts)) e in rw parts.0 (plain-known names ts parts.1)
plain-known names ((place, numeral n) ∷ ts) e = plain-known names ts (parts-of (not (nat_le (2 ^ 128) n)) (list_all (is_plain names) (kinds ts)) e).1
plain-known names ((place, opening) ∷ ts) e = cc
plain-known names ((place, closing) ∷ ts) e = cc
plain-known names ((place, plus) ∷ ts) e = plain-known names ts e
plain-known names ((place, minus) ∷ ts) e = plain-known names ts e
plain-known names ((place, times) ∷ ts) e = plain-known names ts e
plain-known names ((place, slash) ∷ ts) e = cc
plain-known names ((place, caret) ∷ ts) e = plain-known names ts e
plain-known names ((place, foreign) ∷ ts) e = plain-known names ts e

plain-within : (names : List (List ℕ)) (ks : List Token) → list_all (is_plain names) ks ≡ true → is_past_limit 0 ks ≡ false
unfolding is_past_limit
plain-within names [] e = refl
plain-within names (word w ∷ ks) e = plain-within names ks (parts-of (list_any (bytes_eq w) names) (list_all (is_plain names) ks) e).1
plain-within names (numeral n ∷ ks) e =
    let parts = parts-of (not (nat_le (2 ^ 128) n)) (list_all (is_plain names) ks) e in
    rw (negated (nat_le (2 ^ 128) n) parts.0) (plain-within names ks parts.1)
  where
    negated : (b : Bool) → not b ≡ true → b ≡ false
    negated true e = cc
    negated false e = refl
plain-within names (opening ∷ ks) e = cc
plain-within names (closing ∷ ks) e = cc
plain-within names (plus ∷ ks) e = plain-within names ks e
plain-within names (minus ∷ ks) e = plain-within names ks e
plain-within names (times ∷ ks) e = plain-within names ks e
plain-within names (slash ∷ ks) e = cc
plain-within names (caret ∷ ks) e = plain-within names ks e
plain-within names (foreign ∷ ks) e = plain-within names ks e

not-less : (a b : ℕ) → b ≤ a → nat_lt a b ≡ false
not-less a b le = grind (arith, nat_tests)

not-above_degree : (a : ℕ) → a ≤ 64 → (nat_lt 64 a || false) ≡ false
not-above_degree a le = rw (not-less 64 a le) refl

not-above_terms : (a : ℕ) → a ≤ 1000000 → (nat_lt 1000000 a || false) ≡ false
not-above_terms a le = rw (not-less 1000000 a le) refl

ones : (m n : ℕ) → m * 1 + n * 1 ≡ m + n
ones m n = omega arith

module _ (p : ℕ) (names : List (List ℕ)) where
  -- s is a phrase with the value f, at most the formal degree d, and n formal terms
  pub record Phrase (level : Level) (s : List ℕ) (f : Polynomial ℕ) (d n : ℕ) : Type 0 where
    pub tokens : List Token
    pub tree : Tree
    pub front : (division : Bool) → Front division s tokens
    pub plain : list_all (is_plain names) tokens ≡ true
    pub derives : Derives level tokens tree
    pub is : IsOverOne p f (value p (variable_named p names) tree)
    pub degree : (formal (λ w. of_variable) tree).num_degree ≤ d
    pub terms : (formal (λ w. of_variable) tree).num_terms ≡ n
    pub undivided : IsUndivided (formal (λ w. of_variable) tree)
    pub low : is_high (λ w. of_variable) tree ≡ false
    pub few : is_long (λ w. of_variable) tree ≡ false
    pub whole : (m : List ℕ → Fraction ℕ) → divides_by_zero p m tree ≡ false
    pub solid : IsSolid s

  abbrev o : RingOps ℕ
  o = residue_ops p

  abbrev l : RingLaws (residue_ops p)
  l = residue_laws p

  -- products and sums of polynomials over 1
  product-over_one : (f g : Polynomial ℕ) (x y : Fraction ℕ) → IsOverOne p f x → IsOverOne p g y → IsOverOne p (times_poly (residue_ops p) f g) (fraction_product (residue_ops p) x y)
  product-over_one f g x y a b = record {
    num = (poly_laws o l).mul_same f x.0 g y.0 a.num b.num;
    den = facts.then (poly_ops o) (poly_laws o l) (facts.mul2 (poly_ops o) (poly_laws o l) a.den b.den) ((poly_laws o l).mul_one (constant o 1));
  }

  sum-over_one : (f g : Polynomial ℕ) (x y : Fraction ℕ) → IsOverOne p f x → IsOverOne p g y → IsOverOne p (f ++ g) (fraction_sum (residue_ops p) x y)
  sum-over_one f g x y a b = record {
    num = append-same o l f (times_poly o x.0 y.1) g (times_poly o y.0 x.1) (same-then o l f x.0 (times_poly o x.0 y.1) a.num (times-one p 0 x.0 y.1 b.den)) (same-then o l g y.0 (times_poly o y.0 x.1) b.num (times-one p 0 y.0 x.1 a.den));
    den = facts.then (poly_ops o) (poly_laws o l) (facts.mul2 (poly_ops o) (poly_laws o l) a.den b.den) ((poly_laws o l).mul_one (constant o 1));
  }

  -- a phrase that is an expression is the text of its value
  pub phrase-denotes : (s : List ℕ) (f : Polynomial ℕ) (d n : ℕ) → Phrase expression s f d n → Denotes p names s f
  unfolding refusal
  phrase-denotes s f d n h =
      let read : kinds (tokens s) ≡ h.tokens = front-whole false s h.tokens (h.front false) in
      let plain : list_all (is_plain names) (kinds (tokens s)) ≡ true = ap (list_all (is_plain names)) read ∙ h.plain in
      record {
        tree = h.tree;
        derived = subst (λ ks. Derives expression ks h.tree) (sym read) h.derives;
        accepted = rw (plain-known names (tokens s) plain, plain-within names (kinds (tokens s)) plain, h.low, h.few) refl;
        same = h.is.num;
      }

  -- the same behind a blank
  pub phrase-behind : (s : List ℕ) (f : Polynomial ℕ) (d n : ℕ) → Phrase expression s f d n → Denotes p names (32 ∷ s) f
  unfolding refusal
  phrase-behind s f d n h =
      let read : kinds (tokens (32 ∷ s)) ≡ h.tokens = front-whole false (32 ∷ s) h.tokens (λ ts us ended rest. blank-read false 32 refl (s ++ ts) (h.tokens ++ us) (h.front false ts us ended rest)) in
      let plain : list_all (is_plain names) (kinds (tokens (32 ∷ s))) ≡ true = ap (list_all (is_plain names)) read ∙ h.plain in
      record {
        tree = h.tree;
        derived = subst (λ ks. Derives expression ks h.tree) (sym read) h.derives;
        accepted = rw (plain-known names (tokens (32 ∷ s)) plain, plain-within names (kinds (tokens (32 ∷ s))) plain, h.low, h.few) refl;
        same = h.is.num;
      }

  -- ---- the value and the degree in another form

  pub phrase-same : (level : Level) (s : List ℕ) (f g : Polynomial ℕ) (d n : ℕ) → IsSame (poly_ops (residue_ops p)) g f → Phrase level s f d n → Phrase level s g d n
  phrase-same level s f g d n e h = record { tokens = h.tokens; tree = h.tree; front = h.front; plain = h.plain; derives = h.derives; is = record { num = same-then o l g f _ e h.is.num; den = h.is.den }; degree = h.degree; terms = h.terms; undivided = h.undivided; low = h.low; few = h.few; whole = h.whole; solid = h.solid }

  pub phrase-lower : (level : Level) (s : List ℕ) (f : Polynomial ℕ) (d e n : ℕ) → d ≤ e → Phrase level s f d n → Phrase level s f e n
  phrase-lower level s f d e n le h = record { tokens = h.tokens; tree = h.tree; front = h.front; plain = h.plain; derives = h.derives; is = h.is; degree = omega (arith, le, h.degree); terms = h.terms; undivided = h.undivided; low = h.low; few = h.few; whole = h.whole; solid = h.solid }

  -- ---- one level as the next

  pub as-factor : (s : List ℕ) (f : Polynomial ℕ) (d n : ℕ) → Phrase atom s f d n → Phrase factor s f d n
  as-factor s f d n h = record { tokens = h.tokens; tree = h.tree; front = h.front; plain = h.plain; derives = an_atom h.derives; is = h.is; degree = h.degree; terms = h.terms; undivided = h.undivided; low = h.low; few = h.few; whole = h.whole; solid = h.solid }

  pub as-term : (s : List ℕ) (f : Polynomial ℕ) (d n : ℕ) → Phrase factor s f d n → Phrase term s f d n
  as-term s f d n h = record { tokens = h.tokens; tree = h.tree; front = h.front; plain = h.plain; derives = a_factor h.derives; is = h.is; degree = h.degree; terms = h.terms; undivided = h.undivided; low = h.low; few = h.few; whole = h.whole; solid = h.solid }

  pub as-expression : (s : List ℕ) (f : Polynomial ℕ) (d n : ℕ) → Phrase term s f d n → Phrase expression s f d n
  as-expression s f d n h = record { tokens = h.tokens; tree = h.tree; front = h.front; plain = h.plain; derives = a_term h.derives; is = h.is; degree = h.degree; terms = h.terms; undivided = h.undivided; low = h.low; few = h.few; whole = h.whole; solid = h.solid }

  -- ---- numbers, names and powers

  not-above : (n : ℕ) → n < 2 ^ 64 → not (nat_le (2 ^ 128) n) ≡ true
  not-above n small = grind (arith, nat_tests)

  pub number-phrase : (s : List ℕ) (n : ℕ) → IsNumberText s n → n < 2 ^ 64 → Phrase atom s (constant (residue_ops p) n) 0 1
  unfolding formal some_part value
  number-phrase s n h small = record {
    tokens = numeral n ∷ [];
    tree = number n;
    front = λ division. number-front division s n h;
    plain = rw (not-above n small) refl;
    derives = a_number n;
    is = record { num = term-same o l [] n (residue p n) (same-from_residue p n (residue p n) (sym (mod-mod n (modulus_of p)))); den = same-refl o l (constant o 1) };
    degree = omega arith;
    terms = refl;
    undivided = record { degree = refl; terms = refl };
    low = refl;
    few = refl;
    whole = λ m. refl;
    solid = number-solid s n h;
  }

  pub word-phrase : (w : List ℕ) (k : ℕ) → is_word w ≡ true → list_any (bytes_eq w) names ≡ true → place_of names w ≡ k → Phrase atom w (variable (residue_ops p) k) 1 1
  unfolding formal some_part value
  word-phrase w k form known place = record {
    tokens = word w ∷ [];
    tree = name w;
    front = λ division. word-front division w form;
    plain = rw known refl;
    derives = a_name w;
    is = record { num = rw place (same-refl o l (variable o k)); den = same-refl o l (constant o 1) };
    degree = omega arith;
    terms = refl;
    undivided = record { degree = refl; terms = refl };
    low = refl;
    few = refl;
    whole = λ m. refl;
    solid = word-solid w form;
  }

  -- a name with an exponent
  pub power-phrase : (w t : List ℕ) (k e : ℕ) → is_word w ≡ true → list_any (bytes_eq w) names ≡ true → place_of names w ≡ k → IsNumberText t e → e ≤ 64
      → Phrase factor (w ++ 94 ∷ t) (to_the (residue_ops p) e (variable (residue_ops p) k)) e 1
  unfolding formal some_part value
  power-phrase w t k e form known place text small =
      let unit : e * 1 ≡ e = omega arith in
      let none : e * 0 ≡ 0 = omega arith in
      let within : nat_lt 64 e ≡ false = grind (arith, nat_tests) in
      record {
        tokens = word w ∷ caret ∷ numeral e ∷ [];
        tree = power (name w) e;
        front = λ division. between division w t (word w ∷ []) (numeral e ∷ []) 94 refl refl refl refl (word-front division w form) (number-front division t e text);
        plain = rw (known, not-above e (omega arith)) refl;
        derives = a_power (a_name w) e;
        is = record { num = rw place (same-refl o l (to_the o e (variable o k))); den = over-power p 0 (constant o 1) e (same-refl o l (constant o 1)) };
        degree = omega arith;
        terms = one-power e;
        undivided = record { degree = none; terms = one-power e };
        low = rw (unit, none, within) refl;
        few = rw (one-power e) refl;
        whole = λ m. refl;
        solid = solid-between w (94 ∷ []) t refl (word-solid w form) (number-solid t e text);
      }

  -- ---- products and sums

  pub product-phrase : (s t : List ℕ) (f g : Polynomial ℕ) (d e : ℕ) → Phrase term s f d 1 → Phrase factor t g e 1 → d + e ≤ 64 → Phrase term (s ++ 42 ∷ t) (times_poly (residue_ops p) f g) (d + e) 1
  unfolding formal some_part value
  product-phrase s t f g d e a b fits = record {
    tokens = a.tokens ++ times ∷ b.tokens;
    tree = product a.tree b.tree;
    front = λ division. between division s t a.tokens b.tokens 42 refl refl refl refl (a.front division) (b.front division);
    plain = plain-append names a.tokens (times ∷ b.tokens) a.plain b.plain;
    derives = a_product a.derives b.derives;
    is = product-over_one f g _ _ a.is b.is;
    degree = omega (arith, a.degree, b.degree);
    terms = rw (a.terms, b.terms) refl;
    undivided = record { degree = rw (a.undivided.degree, b.undivided.degree) refl; terms = rw (a.undivided.terms, b.undivided.terms) refl };
    low = rw (a.low, b.low, a.undivided.degree, b.undivided.degree) (not-above_degree _ (omega (arith, a.degree, b.degree)));
    few = rw (a.few, b.few, a.terms, b.terms, a.undivided.terms, b.undivided.terms) refl;
    whole = λ m. rw (a.whole m, b.whole m) refl;
    solid = solid-between s (42 ∷ []) t refl a.solid b.solid;
  }

  pub sum-phrase : (s t : List ℕ) (f g : Polynomial ℕ) (d m n : ℕ) → Phrase expression s f d m → Phrase term t g d n → d ≤ 64 → m + n ≤ 1000000 → Phrase expression (s ++ 32 ∷ 43 ∷ 32 ∷ t) (f ++ g) d (m + n)
  unfolding formal some_part value
  sum-phrase s t f g d m n a b fits room = record {
    tokens = a.tokens ++ plus ∷ b.tokens;
    tree = sum a.tree b.tree;
    front = λ division. spaced division s t a.tokens b.tokens 43 refl refl refl (a.front division) (b.front division);
    plain = plain-append names a.tokens (plus ∷ b.tokens) a.plain b.plain;
    derives = a_sum a.derives b.derives;
    is = sum-over_one f g _ _ a.is b.is;
    degree = omega (arith, a.degree, b.degree, a.undivided.degree, b.undivided.degree);
    terms = rw (a.terms, b.terms, a.undivided.terms, b.undivided.terms) (ones m n);
    undivided = record { degree = rw (a.undivided.degree, b.undivided.degree) refl; terms = rw (a.undivided.terms, b.undivided.terms) refl };
    low = rw (a.low, b.low, a.undivided.degree, b.undivided.degree) (not-above_degree _ (omega (arith, a.degree, b.degree)));
    few = rw (a.few, b.few, a.terms, b.terms, a.undivided.terms, b.undivided.terms) (not-above_terms _ (omega (arith, room)));
    whole = λ m. rw (a.whole m, b.whole m) refl;
    solid = solid-between s (32 ∷ 43 ∷ 32 ∷ []) t refl a.solid b.solid;
  }
