-- The text of a fraction denotes it, cancelled.
--   Piece              a part of a fraction as it is printed
--   fraction-denoted   the text of the whole
use Rattle.std.proofs.Common.{◌≡◌, ℕ, ◌+◌, ◌*◌, ◌≤◌, List, [], ◌∷◌, ◌++◌, append_assoc, append-nil, length, get_or, ◌-◌, refl, sym, ap, ◌∙◌, subst, Bool, true, false, not, ◌||◌, ◌==◌, if◌then◌else◌, nat_lt, nat_le, bytes_eq, None, IsTrue, arith, codes}
use Rattle.std.proofs.lemmas.Bool.Decides.{nat_tests}
use Rattle.std.specs.List.{list_all, list_any}
use Rattle.rinv_algebra.specs.Ring.{RingOps, RingLaws, IsSame}
use Rattle.rinv_algebra.specs.Residue.{is_listed, residue_ops}
use Rattle.rinv_algebra.specs.Polynomial.{Polynomial, poly_ops, constant, variable, is_zero, same}
use Rattle.rinv_algebra.specs.Fraction.{Fraction, over_one}
use Rattle.rinv_algebra.proofs.PolynomialLaws.{poly_laws}
use Rattle.rinv_algebra.proofs.ResidueLaws.{residue_laws}
use Rattle.rinv_algebra.proofs.ResidueField.{residue_field_laws}
use Rattle.rinv_algebra.proofs.RingFacts as facts
use Rattle.rinv_defs.specs.Text.{wrapped, is_sum, poly_text, numerator_text, denominator_text, fraction_text}
use Rattle.rinv_algebra.proofs.Degrees.{is_zero-same}
use Rattle.rinv_frac.specs.Fractions.{IsPart, IsStored}
use Rattle.rinv_frac.proofs.Stored.{StoredParts, stored}
use Rattle.rinv_frac.specs.Cancelling.{IsCancelled}
use Rattle.rinv_frac.proofs.CancelledValues.{cancelled-same}
use Rattle.rinv_text.specs.declared.formal.Formal.{Formal}
use Rattle.rinv_text.specs.Tokens.{Token, slash, opening, closing, kinds, fraction_tokens}
use Rattle.rinv_text.specs.Grammar.{Tree, quotient, Level, atom, factor, term, expression, Derives, in_parentheses, an_atom, a_factor, a_quotient, a_term}
use Rattle.rinv_text.specs.Formal.{of_variable, formal, some_part, is_above, has_more, is_high, is_long}
use Rattle.rinv_text.specs.Reading.{Definition, undefined, variable_named, known_names, meaning, formal_of, value, place_of, divides_by_zero}
use Rattle.rinv_text.specs.Printable.{AreWords, IsWithinLimits}
use Rattle.rinv_text.specs.Stops.{DenotesFraction, first_unknown, is_known, is_past_limit, fraction_refusal}
use Rattle.rinv_text.proofs.Crossings.{times-one, one-times}
use Rattle.rinv_text.proofs.Judged.{degrees-low, terms-few}
use Rattle.rinv_text.proofs.Agreeing.{value-agrees, high-agrees, long-agrees}
use Rattle.rinv_text.proofs.Words.{EachName, derived-names, names-weaker}
use Rattle.rinv_text.proofs.Seen.{place-known}
use Rattle.rinv_text.proofs.PrintedTokens.{Front, Reads, sign-read, between, front-whole}
use Rattle.rinv_text.proofs.PrintedPhrases.{IsOverOne, IsUndivided, Phrase}
use Rattle.rinv_text.proofs.PrintedSums.{printed-text, printed-term}
use Rattle.rinv_text.proofs.PlainTokens.{no_times, no-times, term-factor, place-front, all-known, all-append, plain-all_known, plain-words, past-plain, either-false}

module _ (p : ℕ) (names : List (List ℕ)) (defs : List Definition) where
  abbrev o : RingOps ℕ
  o = residue_ops p

  abbrev P : RingOps (Polynomial ℕ)
  P = poly_ops (residue_ops p)

  abbrev L : RingLaws (poly_ops (residue_ops p))
  L = poly_laws (residue_ops p) (residue_laws p)

  abbrev all_names : List (List ℕ)
  all_names = known_names names defs

  -- a part of a fraction as it is printed, within the limits
  pub record Piece (level : Level) (s : List ℕ) (f : Polynomial ℕ) : Type 0 where
    pub tokens : List Token
    pub tree : Tree
    pub front : Front true s tokens
    pub known : list_all (is_known (known_names names defs)) tokens ≡ true
    pub past : (rest : List Token) → is_past_limit 0 (tokens ++ rest) ≡ is_past_limit 0 rest
    pub derives : Derives level tokens tree
    pub named : EachName (λ w. list_any (bytes_eq w) names ≡ true) tree
    pub is : IsOverOne p f (value p (variable_named p names) tree)
    pub degree : (formal (λ w. of_variable) tree).num_degree ≤ 64
    pub terms : (formal (λ w. of_variable) tree).num_terms ≤ 1000000
    pub undivided : IsUndivided (formal (λ w. of_variable) tree)
    pub low : is_high (λ w. of_variable) tree ≡ false
    pub few : is_long (λ w. of_variable) tree ≡ false
    pub whole : (m : List ℕ → Fraction ℕ) → divides_by_zero p m tree ≡ false

  low-degree : (f : Formal) → is_above f ≡ false → f.num_degree ≤ 64
  low-degree f h = grind (arith, nat_tests)

  few-terms : (f : Formal) → has_more f ≡ false → f.num_terms ≤ 1000000
  few-terms f h = grind (arith, nat_tests)

  -- a phrase as it is
  pub plain-piece : (level : Level) (s : List ℕ) (f : Polynomial ℕ) (d n : ℕ) → Phrase p names level s f d n → Piece level s f
  plain-piece level s f d n h = record {
    tokens = h.tokens;
    tree = h.tree;
    front = h.front true;
    known = plain-all_known names _ h.tokens h.plain;
    past = λ rest. past-plain names 0 refl h.tokens rest h.plain;
    derives = h.derives;
    named = derived-names (λ w. list_any (bytes_eq w) names ≡ true) h.derives (plain-words names h.tokens h.plain);
    is = h.is;
    degree = low-degree (formal (λ w. of_variable) h.tree) (degrees-low (λ w. of_variable) h.tree h.low);
    terms = few-terms (formal (λ w. of_variable) h.tree) (terms-few (λ w. of_variable) h.tree h.few);
    undivided = h.undivided;
    low = h.low;
    few = h.few;
    whole = h.whole;
  }

  -- an expression in parentheses
  pub wrapped-piece : (s : List ℕ) (f : Polynomial ℕ) (d n : ℕ) → Phrase p names expression s f d n → Piece atom (40 ∷ (s ++ 41 ∷ [])) f
  unfolding is_past_limit
  wrapped-piece s f d n h = record {
    tokens = opening ∷ h.tokens ++ closing ∷ [];
    tree = h.tree;
    front = λ ts us ended rest. sign-read true 40 refl refl refl ((s ++ 41 ∷ []) ++ ts) ((h.tokens ++ closing ∷ []) ++ us)
        (subst (λ x. Reads true x ((h.tokens ++ closing ∷ []) ++ us)) (sym (append_assoc s (41 ∷ []) ts))
        (subst (λ x. Reads true (s ++ 41 ∷ ts) x) (sym (append_assoc h.tokens (closing ∷ []) us))
        (h.front true (41 ∷ ts) (closing ∷ us) refl (sign-read true 41 refl refl refl ts us rest))));
    known = all-append (is_known all_names) h.tokens (closing ∷ []) (plain-all_known names _ h.tokens h.plain) refl;
    past = λ rest. ap (λ (x : List Token). is_past_limit 1 x) (append_assoc h.tokens (closing ∷ []) rest) ∙ past-plain names 1 refl h.tokens (closing ∷ rest) h.plain;
    derives = in_parentheses h.derives;
    named = derived-names (λ w. list_any (bytes_eq w) names ≡ true) h.derives (plain-words names h.tokens h.plain);
    is = h.is;
    degree = low-degree (formal (λ w. of_variable) h.tree) (degrees-low (λ w. of_variable) h.tree h.low);
    terms = few-terms (formal (λ w. of_variable) h.tree) (terms-few (λ w. of_variable) h.tree h.few);
    undivided = h.undivided;
    low = h.low;
    few = h.few;
    whole = h.whole;
  }

  -- one level as another
  pub piece-as : (level higher : Level) (s : List ℕ) (f : Polynomial ℕ) (h : Piece level s f) → Derives higher h.tokens h.tree → Piece higher s f
  piece-as level higher s f h d = record { tokens = h.tokens; tree = h.tree; front = h.front; known = h.known; past = h.past; derives = d; named = h.named; is = h.is; degree = h.degree; terms = h.terms; undivided = h.undivided; low = h.low; few = h.few; whole = h.whole }

  -- ---- the whole

  -- a name of a variable stands for it
  has-place : (w : List ℕ) → list_any (bytes_eq w) names ≡ true → nat_lt (place_of all_names w) (length names) ≡ true
  has-place w e = ap (λ (k : ℕ). nat_lt k (length names)) (place-front w names _ e) ∙ at (length names) (place_of names w) (place-known names w ∙ ap not e)
    where
      at : (n k : ℕ) → nat_le n k ≡ false → nat_lt k n ≡ true
      at n k h = grind (arith, nat_tests)

  named-means : (w : List ℕ) → list_any (bytes_eq w) names ≡ true → meaning p names defs w ≡ variable_named p names w
  named-means w e = at (nat_lt (place_of all_names w) (length names)) (has-place w e) ∙ ap (λ (k : ℕ). over_one (residue_ops p) (variable (residue_ops p) k)) (place-front w names _ e)
    where
      at : (b : Bool) → b ≡ true → (if b then over_one (residue_ops p) (variable (residue_ops p) (place_of all_names w)) else (get_or defs (place_of all_names w - length names) undefined).value) ≡ over_one (residue_ops p) (variable (residue_ops p) (place_of all_names w))
      at true h = refl
      at false h = cc

  named-formal : (w : List ℕ) → list_any (bytes_eq w) names ≡ true → formal_of names defs w ≡ of_variable
  named-formal w e = at (nat_lt (place_of all_names w) (length names)) (has-place w e)
    where
      at : (b : Bool) → b ≡ true → (if b then of_variable else (get_or defs (place_of all_names w - length names) undefined).formal) ≡ of_variable
      at true h = refl
      at false h = cc

  -- the names of an expression
  abbrev Named : Tree → Type 0
  Named t = EachName (λ w. list_any (bytes_eq w) names ≡ true) t

  value-named : (t : Tree) → Named t → value p (meaning p names defs) t ≡ value p (variable_named p names) t
  value-named t h = value-agrees p (meaning p names defs) (variable_named p names) t (names-weaker _ _ (λ w e. named-means w e) t h)

  formal-named : (t : Tree) → Named t → EachName (λ w. formal_of names defs w ≡ of_variable) t
  formal-named t h = names-weaker _ _ (λ w e. named-formal w e) t h

  -- tokens with these facts denote what their value is when it is cancelled
  denotes-by : (s : List ℕ) (ks : List Token) (t : Tree) (r : Fraction ℕ) → Front true s ks → list_all (is_known all_names) ks ≡ true → is_past_limit 0 ks ≡ false → Derives expression ks t → Named t
      → is_high (λ w. of_variable) t ≡ false → is_long (λ w. of_variable) t ≡ false → divides_by_zero p (meaning p names defs) t ≡ false → IsCancelled (residue_ops p) (value p (variable_named p names) t) r
      → DenotesFraction p names defs s r (formal (formal_of names defs) t)
  unfolding fraction_refusal
  denotes-by s ks t r front kn past derives named low few off cancelled =
      let read : kinds (fraction_tokens s) ≡ ks = front-whole true s ks front in
      let all : first_unknown all_names (fraction_tokens s) ≡ None = all-known all_names (fraction_tokens s) (ap (list_all (is_known all_names)) read ∙ kn) in
      let within : is_past_limit 0 (kinds (fraction_tokens s)) ≡ false = ap (is_past_limit 0) read ∙ past in
      let high : is_high (formal_of names defs) t ≡ false = high-agrees (formal_of names defs) (λ w. of_variable) t (formal-named t named) ∙ low in
      let long : is_long (formal_of names defs) t ≡ false = long-agrees (formal_of names defs) (λ w. of_variable) t (formal-named t named) ∙ few in
      record {
        tree = t;
        derived = subst (λ l. Derives expression l t) (sym read) derives;
        accepted = rw (all, within, high, long, off) refl;
        cancelled = subst (λ (x : Fraction ℕ). IsCancelled (residue_ops p) x r) (sym (value-named t named)) cancelled;
        formal = refl;
      }

  -- a numerator alone
  pub alone-denotes : (s : List ℕ) (f : Fraction ℕ) (r : Fraction ℕ) → Piece expression s f.0 → IsSame P f.1 (constant o 1) → IsCancelled o f r → (numbers : Formal) × DenotesFraction p names defs s r numbers
  unfolding is_past_limit
  alone-denotes s f r n one cancelled = (
    formal (formal_of names defs) n.tree,
    denotes-by s n.tokens n.tree r n.front n.known (ap (is_past_limit 0) (sym (append-nil n.tokens)) ∙ n.past []) n.derives n.named n.low n.few (n.whole (meaning p names defs))
        (cancelled-same o (residue_laws p) (residue_field_laws p) f (value p (variable_named p names) n.tree) r (record { numerator = n.is.num; denominator = facts.then P L one (facts.back P L n.is.den) }) cancelled),
  )

  above-none : (a b c d : ℕ) → a + d ≤ 64 → b + c ≤ 64 → (nat_lt 64 (a + d) || nat_lt 64 (b + c)) ≡ false
  above-none a b c d e f = grind (arith, nat_tests)

  more-none : (a b : ℕ) → a ≤ 1000000 → b ≤ 1000000 → (nat_lt 1000000 a || nat_lt 1000000 b) ≡ false
  more-none a b e f = grind (arith, nat_tests)

  -- both with `/` between them
  pub both-denote : (s t : List ℕ) (f r : Fraction ℕ) → Piece term s f.0 → Piece factor t f.1 → is_zero o f.1 ≡ false → IsCancelled o f r → (numbers : Formal) × DenotesFraction p names defs (s ++ 47 ∷ t) r numbers
  unfolding is_past_limit formal some_part value
  both-denote s t f r n d nonzero cancelled = (
    formal (formal_of names defs) (quotient n.tree d.tree),
    denotes-by (s ++ 47 ∷ t) (n.tokens ++ slash ∷ d.tokens) (quotient n.tree d.tree) r
        (between true s t n.tokens d.tokens 47 refl refl refl refl n.front d.front)
        (all-append (is_known all_names) n.tokens (slash ∷ d.tokens) n.known d.known)
        (n.past (slash ∷ d.tokens) ∙ ap (is_past_limit 0) (sym (append-nil d.tokens)) ∙ d.past [])
        (a_term (a_quotient n.derives d.derives))
        (n.named, d.named)
        (rw (n.low, d.low) (above-none fn.num_degree fn.den_degree fd.num_degree fd.den_degree (omega (arith, n.degree, d.undivided.degree)) (omega (arith, d.degree, n.undivided.degree))))
        (rw (n.few, d.few) (more-none (fn.num_terms * fd.den_terms) (fn.den_terms * fd.num_terms) (rw d.undivided.terms (omega (arith, n.terms))) (rw n.undivided.terms (omega (arith, d.terms)))))
        (rw (n.whole (meaning p names defs), d.whole (meaning p names defs)) divisor)
        (cancelled-same o (residue_laws p) (residue_field_laws p) f (value p (variable_named p names) (quotient n.tree d.tree)) r (record {
          numerator = facts.then P L n.is.num (times-one p 0 (value p (variable_named p names) n.tree).0 (value p (variable_named p names) d.tree).1 d.is.den);
          denominator = facts.then P L d.is.num (one-times p 0 (value p (variable_named p names) n.tree).1 (value p (variable_named p names) d.tree).0 n.is.den);
        }) cancelled),
  )
    where
      fn : Formal
      fn = formal (λ w. of_variable) n.tree

      fd : Formal
      fd = formal (λ w. of_variable) d.tree

      divisor : is_zero o (value p (meaning p names defs) d.tree).0 ≡ false
      divisor = ap (λ (x : Fraction ℕ). is_zero o x.0) (value-named d.tree d.named) ∙ sym (is_zero-same o (residue_laws p) f.1 (value p (variable_named p names) d.tree).0 d.is.num) ∙ nonzero

-- ---- the printed text

module _ (p : ℕ) (names : List (List ℕ)) (defs : List Definition) (listed : IsTrue (is_listed p)) (words : AreWords names) where
  -- a polynomial within the limits, in parentheses where asked
  printed-piece : (b : Bool) (f : Polynomial ℕ) → IsPart p (length names) f → IsWithinLimits f → (b ≡ false → Piece p names defs term (poly_text p names f) f) → Piece p names defs term (wrapped b (poly_text p names f)) f
  printed-piece false f normal limits single = single refl
  printed-piece true f normal limits single =
      let text = printed-text p names f listed words normal limits in
      let piece = wrapped-piece p names defs (poly_text p names f) f text.degree text.terms text.phrase in
      piece-as p names defs atom term _ f piece (a_factor (an_atom piece.derives))

  single-piece : (f : Polynomial ℕ) → IsPart p (length names) f → IsWithinLimits f → is_sum p f ≡ false → Piece p names defs term (poly_text p names f) f
  single-piece f normal limits one = plain-piece p names defs term (poly_text p names f) f 64 1 (printed-term p names f listed words normal limits one)

  numerator-piece : (f : Polynomial ℕ) → IsPart p (length names) f → IsWithinLimits f → Piece p names defs term (numerator_text p names f) f
  numerator-piece f normal limits = printed-piece (is_sum p f) f normal limits (λ e. single-piece f normal limits e)

  -- a single term without `*` is a factor
  denominator-piece : (f : Polynomial ℕ) → IsPart p (length names) f → IsWithinLimits f → Piece p names defs factor (denominator_text p names f) f
  unfolding plain-piece
  denominator-piece f normal limits = at (is_sum p f || list_any (λ b. b == 42) (poly_text p names f)) refl
    where
      at : (b : Bool) → (is_sum p f || list_any (λ b. b == 42) (poly_text p names f)) ≡ b → Piece p names defs factor (wrapped b (poly_text p names f)) f
      at true e =
          let text = printed-text p names f listed words normal limits in
          let piece = wrapped-piece p names defs (poly_text p names f) f text.degree text.terms text.phrase in
          piece-as p names defs atom factor _ f piece (an_atom piece.derives)
      at false e =
          let parts = either-false (is_sum p f) (list_any (λ b. b == 42) (poly_text p names f)) e in
          let phrase = printed-term p names f listed words normal limits parts.0 in
          let piece = plain-piece p names defs term (poly_text p names f) f 64 1 phrase in
          let read : kinds (fraction_tokens (poly_text p names f)) ≡ phrase.tokens = front-whole true (poly_text p names f) phrase.tokens (phrase.front true) in
          piece-as p names defs term factor _ f piece (term-factor names phrase.tokens phrase.tree (ap (list_all no_times) (sym read) ∙ no-times true 0 0 (poly_text p names f) parts.1) phrase.plain phrase.derives)

  -- what is printed of f is read as f cancelled
  pub fraction-denoted : (f r : Fraction ℕ) → IsStored p (length names) f → IsWithinLimits f.0 → IsWithinLimits f.1 → IsCancelled (residue_ops p) f r → (numbers : Formal) × DenotesFraction p names defs (fraction_text p names f) r numbers
  unfolding fraction_text
  fraction-denoted f r s above below cancelled = at (same (residue_ops p) f.1 (constant (residue_ops p) 1)) refl
    where
      parts : StoredParts p (length names) f
      parts = stored p (length names) f s

      at : (b : Bool) → same (residue_ops p) f.1 (constant (residue_ops p) 1) ≡ b → (numbers : Formal) × DenotesFraction p names defs (if b then poly_text p names f.0 else numerator_text p names f.0 ++ codes "/" ++ denominator_text p names f.1) r numbers
      at true one =
          let text = printed-text p names f.0 listed words parts.numerator above in
          alone-denotes p names defs (poly_text p names f.0) f r (plain-piece p names defs expression (poly_text p names f.0) f.0 text.degree text.terms text.phrase) one cancelled
      at false more =
          subst (λ l. (numbers : Formal) × DenotesFraction p names defs l r numbers) (sym (append_assoc (numerator_text p names f.0) (codes "/") (denominator_text p names f.1)))
          (both-denote p names defs (numerator_text p names f.0) (denominator_text p names f.1) f r (numerator-piece f.0 parts.numerator above) (denominator-piece f.1 parts.denominator below) parts.nonzero cancelled)
