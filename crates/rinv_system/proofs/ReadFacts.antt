-- A text that is read line by line.
use Rattle.std.proofs.Common.{◌≡◌, ℕ, ◌+◌, List, [], ◌∷◌, ◌++◌, length, map, Bool, true, false, cond, IsTrue, Option, Some, None, refl, sym, ap, subst, ◌∙◌, append_assoc, append-nil, length-append, arith}
use Rattle.std.specs.List.{list_all, position_from}
use Rattle.rinv_system.specs.declared.refused.Code.{Code}
use Rattle.rinv_system.specs.declared.refused.LineStop.{LineStop}
use Rattle.rinv_system.specs.declared.refused.LineStop.TheVariants.{Fault, NoMemory}
use Rattle.rinv_system.specs.Lines.{lines_of, first_bad_line, is_allowed, is_bad_line, content_of, contents_of}
use Rattle.rinv_system.specs.LineTexts.{AreTaken, IsRefusedText}
use Rattle.rinv_system.specs.Stops.{OnCode, OnRefusal, stop_at}
use Rattle.rinv_system.proofs.Allowed.{content-allowed}

-- no line from a place on is bad, so the first is not, nor are those behind it
good-line : (b : Bool) (n : ℕ) (later : Option ℕ) → cond b (Some n) later ≡ None → (b ≡ false) × (later ≡ None)
good-line true n later e = absurd (let f : Some n ≡ None = e in cc)
good-line false n later e = (refl, e)

module _ {D : Type 0} (T : D → List ℕ → D → Type 0) (start : D) (text : List ℕ) where
  -- the lines before the rest of a text told this, and no line of the rest is bad
  pub record HasTaken (rest : List ℕ) (d : D) (count : ℕ) : Type 0 where
    pub before : List (List ℕ)
    pub split : contents_of text ≡ before ++ contents_of rest
    pub taken : AreTaken T start before d
    pub many : count ≡ length before
    pub good : position_from is_bad_line (count + 1) (lines_of rest) ≡ None

  -- before the first line
  pub HasTaken-none : first_bad_line text ≡ None → HasTaken text start 0
  HasTaken-none good = record { before = []; split = refl; taken = AreTaken.none; many = refl; good = good }

  -- after the last
  pub HasTaken-all : (rest : List ℕ) (d : D) (count : ℕ) → length rest ≡ 0 → HasTaken rest d count → AreTaken T start (contents_of text) d × (count ≡ length (contents_of text))
  unfolding lines_of
  HasTaken-all (b ∷ bs) d count none has = absurd (omega (arith, none))
  HasTaken-all [] d count none has =
      let whole : contents_of text ≡ has.before = has.split ∙ append-nil has.before in
      (subst (λ ls. AreTaken T start ls d) (sym whole) has.taken, has.many ∙ ap length (sym whole))

  module _ (rest line following : List ℕ) (d : D) (count : ℕ) (split : lines_of rest ≡ line ∷ lines_of following) (has : HasTaken rest d count) where
    at_line : contents_of text ≡ has.before ++ content_of line ∷ contents_of following
    at_line = has.split ∙ ap (λ ls. has.before ++ map content_of ls) split

    good_here : (is_bad_line line ≡ false) × (position_from is_bad_line (count + 1 + 1) (lines_of following) ≡ None)
    good_here = good-line (is_bad_line line) (count + 1) (position_from is_bad_line (count + 1 + 1) (lines_of following)) (sym (ap (position_from is_bad_line (count + 1)) split) ∙ has.good)

    -- the next line has allowed bytes
    pub HasTaken-allowed : IsTrue (list_all is_allowed (content_of line))
    HasTaken-allowed = content-allowed line good_here.0

    -- it is taken
    pub HasTaken-more : (next : D) → T d (content_of line) next → HasTaken following next (count + 1)
    HasTaken-more next made = record {
      before = has.before ++ content_of line ∷ [];
      split = at_line ∙ sym (append_assoc has.before (content_of line ∷ []) (contents_of following));
      taken = AreTaken.one_more (content_of line) has.taken made;
      many = ap (λ n. n + 1) has.many ∙ sym (length-append has.before (content_of line ∷ []));
      good = good_here.1;
    }

    -- or it is refused
    pub HasTaken-stop : (R : D → List ℕ → Code → Type 0) (is_whole : D → Bool) → first_bad_line text ≡ None → (stop : LineStop) → OnCode (R d (content_of line)) stop → OnRefusal (IsRefusedText R T start is_whole text) (stop_at (count + 1) stop)
    HasTaken-stop R is_whole good NoMemory h = tt
    HasTaken-stop R is_whole good (Fault code) h =
        subst (λ n. IsRefusedText R T start is_whole text (record { line = n + 1; code = code })) (sym has.many)
        (IsRefusedText.bad_line has.before (content_of line) (contents_of following) good at_line has.taken h)
