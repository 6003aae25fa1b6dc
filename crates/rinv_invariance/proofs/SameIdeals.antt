-- The extended ideal depends on the ideals that the group's polynomials and the section's generate, and on nothing else of them.
--   action_moved         members of the action's ideal are those of another with the same ideals
--   extended_moved       so the extended ideal is the same; basis_moved: and its reduced bases are
use Rattle.std.proofs.Common.{◌≡◌, ◌⊎◌, ℕ, ◌<◌, ◌≤◌, List, [], ◌∷◌, ◌++◌, length, map, get_or, refl, sym, ◌∙◌, ap, subst, inl, inr, arith}
use Rattle.std.specs.Prelude.{All}
use Rattle.std.proofs.lemmas.List.{length-map}
use Rattle.std.proofs.lemmas.List.Elements.{All-head, All-tail, All-cons, All-nil}
use Rattle.rinv_algebra.specs.Residue.{residue_ops}
use Rattle.rinv_algebra.specs.Polynomial.{past}
use Rattle.rinv_algebra.specs.Ideal.{IsMember}
use Rattle.rinv_algebra.proofs.ResidueLaws.{residue_laws}
use Rattle.rinv_theory.proofs.Ideals.{In, in_one, in-in, in-hom}
use Rattle.rinv_theory.proofs.Members.{generator, member-in, in-member}
use Rattle.rinv_theory.proofs.Search.{found_member}
use Rattle.rinv_theory.proofs.Variables.{past-class}
use Rattle.rinv_soundness.proofs.FirstVariables.{low_or_high}
use Rattle.rinv_soundness.proofs.Substituting.{move}
use Rattle.rinv_soundness.proofs.GeneratorLists.{map-at, all_at, generator_past, in-left, in-right, generators-append}
use Rattle.rinv_defs.specs.System.{System, Poly, group_count}
use Rattle.rinv_defs.specs.Extended.{FractionPoly, Relation, InExtendedIdeal, IsReducedBasis, relation_poly, graph, action_ideal}
use Rattle.rinv_invariance.specs.Replaced.{with_ideal}
use Rattle.rinv_invariance.proofs.Points.{PolyClass, poly_terms, poly_class}

module _ (s : System) (ideal section : List Poly) (in_ideal : All (IsMember (residue_ops s.p) ideal) s.ideal) (in_section : All (IsMember (residue_ops s.p) section) s.section) where
  -- the other generators
  abbrev others : List Poly
  others = action_ideal (with_ideal s ideal section)

  abbrev MemberThere : PolyClass s.p → Type 0
  MemberThere x = In (poly_terms s.p).ring (generator (residue_ops s.p) (residue_laws s.p) others) x

  -- past the end generators are zero
  each : (fs : List Poly) → ((k : ℕ) → k < length fs → MemberThere (generator (residue_ops s.p) (residue_laws s.p) fs k)) → (k : ℕ) → MemberThere (generator (residue_ops s.p) (residue_laws s.p) fs k)
  each fs h k = go (low_or_high k (length fs))
    where
      go : (k < length fs) ⊎ (length fs ≤ k) → MemberThere (generator (residue_ops s.p) (residue_laws s.p) fs k)
      go (inl low) = h k low
      go (inr high) = subst MemberThere (sym (generator_past (residue_ops s.p) (residue_laws s.p) fs k high)) In.none

  ideal_there : (k : ℕ) → k < length s.ideal → MemberThere (generator (residue_ops s.p) (residue_laws s.p) s.ideal k)
  unfolding graph
  ideal_there k low = in-left (residue_ops s.p) (residue_laws s.p) (ideal ++ graph s) (map (past (group_count s)) section) (in-left (residue_ops s.p) (residue_laws s.p) ideal (graph s)
      (member-in (residue_ops s.p) (residue_laws s.p) ideal (get_or s.ideal k []) (all_at (IsMember (residue_ops s.p) ideal) s.ideal k [] low in_ideal)))

  graph_there : (k : ℕ) → MemberThere (generator (residue_ops s.p) (residue_laws s.p) (graph s) k)
  unfolding graph
  graph_there k = in-left (residue_ops s.p) (residue_laws s.p) (ideal ++ graph s) (map (past (group_count s)) section) (in-right (residue_ops s.p) (residue_laws s.p) ideal (graph s) (in_one (poly_terms s.p).ring (generator (residue_ops s.p) (residue_laws s.p) (graph s)) k))

  -- a polynomial of the section, behind the group's variables
  section-generator : (fs : List Poly) (k : ℕ) → generator (residue_ops s.p) (residue_laws s.p) (map (past (group_count s)) fs) k ≡ (move (residue_ops s.p) (residue_laws s.p) (group_count s)).at (generator (residue_ops s.p) (residue_laws s.p) fs k)
  section-generator fs k = ap (poly_class s.p) (map-at (past (group_count s)) fs k []) ∙ past-class (residue_ops s.p) (residue_laws s.p) (group_count s) (get_or fs k [])

  section_moved : (k : ℕ) → k < length s.section → MemberThere ((move (residue_ops s.p) (residue_laws s.p) (group_count s)).at (generator (residue_ops s.p) (residue_laws s.p) s.section k))
  unfolding graph
  section_moved k low = in-right (residue_ops s.p) (residue_laws s.p) (ideal ++ graph s) (map (past (group_count s)) section) (in-in (poly_terms s.p).ring _ _ (λ j.
      subst (In (poly_terms s.p).ring (generator (residue_ops s.p) (residue_laws s.p) (map (past (group_count s)) section))) (section-generator section j) (in_one (poly_terms s.p).ring (generator (residue_ops s.p) (residue_laws s.p) (map (past (group_count s)) section)) j))
      (in-hom (move (residue_ops s.p) (residue_laws s.p) (group_count s)) (generator (residue_ops s.p) (residue_laws s.p) section) (member-in (residue_ops s.p) (residue_laws s.p) section (get_or s.section k []) (all_at (IsMember (residue_ops s.p) section) s.section k [] low in_section))))

  section_there : (k : ℕ) → MemberThere (generator (residue_ops s.p) (residue_laws s.p) (map (past (group_count s)) s.section) k)
  section_there = each (map (past (group_count s)) s.section) (λ k low. subst MemberThere (sym (section-generator s.section k)) (section_moved k (omega (arith, low, length-map s.section (past {E = ℕ} (group_count s))))))

  -- members of the one action's ideal are members of the other's
  pub action_moved : (f : Poly) → IsMember (residue_ops s.p) (action_ideal s) f → IsMember (residue_ops s.p) others f
  action_moved f m = found_member (residue_ops s.p) others f (in-member (residue_ops s.p) (residue_laws s.p) others (in-in (poly_terms s.p).ring (generator (residue_ops s.p) (residue_laws s.p) others) (generator (residue_ops s.p) (residue_laws s.p) (action_ideal s))
      (generators-append (residue_ops s.p) (residue_laws s.p) MemberThere (s.ideal ++ graph s) (map (past (group_count s)) s.section) (λ k low. generators-append (residue_ops s.p) (residue_laws s.p) MemberThere s.ideal (graph s) ideal_there graph_there k) section_there)
      (member-in (residue_ops s.p) (residue_laws s.p) (action_ideal s) f m)) f refl)

  -- so are members of the extended ideal
  pub extended_moved : (f : FractionPoly) → InExtendedIdeal s f → InExtendedIdeal (with_ideal s ideal section) f
  extended_moved f e = record { d = e.d; h = e.h; d_in_space = e.d_in_space; h_in_both = e.h_in_both; nonzero = e.nonzero; multiple = e.multiple; member = action_moved (past (group_count s) e.h) e.member }

  -- where the extended ideal is the same, a reduced basis of the one is one of the other
  pub basis_moved : ((f : FractionPoly) → InExtendedIdeal (with_ideal s ideal section) f → InExtendedIdeal s f) → (rs : List Relation) → IsReducedBasis s rs → IsReducedBasis (with_ideal s ideal section) rs
  basis_moved back rs b = record {
    members = all_moved rs b.members;
    tails_below = b.tails_below;
    leads = λ m short. (λ l. (b.leads m short).0 (l.0, back l.0 l.1, l.2), λ i. let l = (b.leads m short).1 i in (l.0, extended_moved l.0 l.1, l.2));
    leads_apart = b.leads_apart;
    tails_reduced = b.tails_reduced;
  }
    where
      all_moved : (rs : List Relation) → All (λ r. InExtendedIdeal s (relation_poly s r)) rs → All (λ r. InExtendedIdeal (with_ideal s ideal section) (relation_poly (with_ideal s ideal section) r)) rs
      all_moved [] h = All-nil _
      all_moved (r ∷ rs) h = All-cons (λ r. InExtendedIdeal (with_ideal s ideal section) (relation_poly (with_ideal s ideal section) r)) r rs (extended_moved _ (All-head (λ r. InExtendedIdeal s (relation_poly s r)) r rs h)) (all_moved rs (All-tail (λ r. InExtendedIdeal s (relation_poly s r)) r rs h))
