-- Lists of polynomials, entry by entry.
use Rattle.std.proofs.Common.{◌≡◌, ℕ, ◌+◌, ◌<◌, List, [], ◌∷◌, ◌++◌, take, drop, length, get_or, map, None, sym, subst, arith}
use Rattle.std.specs.List.{All}
use Rattle.std.proofs.lemmas.List.Elements.{All-cons}
use Rattle.rinv_defs.specs.System.{Poly}
use Rattle.rinv_text.specs.declared.fault.TextStop.{TextStop}
use Rattle.rinv_text.specs.declared.fault.TextStop.TheVariants.{Fault, NoMemory}
use Rattle.rinv_text.specs.Faults.{OnFault}
use Rattle.rinv_text.specs.Tokens.{tokens}
use Rattle.rinv_text.specs.Grammar.{Tree}
use Rattle.rinv_text.specs.Stops.{IsExpression, IsRefused, refusal}
use Rattle.rinv_system.specs.Forms.{IsEntry, AreEntries, IsFirstFault}
use Rattle.rinv_system.specs.Stops.{OnCode, line_stop}
use Rattle.rinv_system.proofs.Mapped.{mapped_more, mapped_split}

module _ (p : ℕ) (names : List (List ℕ)) where
  -- an entry more at the end
  AreEntries-push : {es : List (List ℕ)} {fs : List Poly} (e : List ℕ) (f : Poly) → AreEntries p names es fs → IsEntry p names e f → AreEntries p names (es ++ e ∷ []) (fs ++ f ∷ [])
  AreEntries-push e f AreEntries.none is = AreEntries.one_more e f is AreEntries.none
  AreEntries-push e f (AreEntries.one_more e' f' is' are) is = AreEntries.one_more e' f' is' (AreEntries-push e f are is)

  -- the entries are expressions that are not refused
  pub AreEntries-accepted : {es : List (List ℕ)} {fs : List Poly} → AreEntries p names es fs → All (λ e. (t : Tree) × IsExpression e t × (refusal names (tokens e) t ≡ None)) es
  AreEntries-accepted AreEntries.none = λ k d lt. absurd (omega (arith, lt))
  AreEntries-accepted (AreEntries.one_more {entries = es} e f is are) = All-cons (λ e. (t : Tree) × IsExpression e t × (refusal names (tokens e) t ≡ None)) e es (is.denotes.tree, is.denotes.derived, is.denotes.accepted) (AreEntries-accepted are)

  -- entries that are seen through f, as far as a place
  module _ {X : Type 0} (f : X → List ℕ) (xs : List X) (k : ℕ) (d : X) where
    pub AreEntries-more : (g : Poly) (found next : List Poly) → k < length xs → AreEntries p names (take k (map f xs)) found → IsEntry p names (f (get_or xs k d)) g → next ≡ found ++ g ∷ []
        → AreEntries p names (take (k + 1) (map f xs)) next
    AreEntries-more g found next lt are is pushed =
        subst (λ gs. AreEntries p names (take (k + 1) (map f xs)) gs) (sym pushed)
        (subst (λ es. AreEntries p names es (found ++ g ∷ [])) (sym (mapped_more f xs k d lt)) (AreEntries-push (f (get_or xs k d)) g are is))

    pub IsFirstFault-at : (found : List Poly) (stop : TextStop) → k < length xs → AreEntries p names (take k (map f xs)) found → OnFault (IsRefused names (f (get_or xs k d))) stop
        → OnCode (IsFirstFault names (map f xs)) (line_stop stop)
    IsFirstFault-at found (Fault fault) lt are refused = IsFirstFault.first (take k (map f xs)) (f (get_or xs k d)) (drop (k + 1) (map f xs)) fault (mapped_split f xs k d lt) (AreEntries-accepted are) refused
    IsFirstFault-at found NoMemory lt are refused = tt
