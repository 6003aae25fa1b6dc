use Rattle.std.proofs.Common.{◌*◌, ◌++◌, List, [], map, get_or, subst, sym, nat_lt, arith}
use Rattle.std.proofs.lemmas.List.Elements.{All-append}
use Rattle.std.proofs.lemmas.Nat.{row_fits}
use Rattle.rinv_algebra.specs.Residue.{residue_ops}
use Rattle.rinv_algebra.specs.Ring.{IsSame}
use Rattle.rinv_algebra.specs.Polynomial.{poly_ops, past}
use Rattle.rinv_algebra.specs.Normal.{IsNormal}
use Rattle.rinv_groebner.specs.Division.{AreSame}
use Rattle.rinv_groebner.specs.Copies.{copies as copied}
use Rattle.rinv_sub.proofs.Images.{AllZip-append}
use Rattle.rinv_defs.specs.System.{Poly}
use Rattle.rinv_laws.proofs.CopiedFacts.{copies-more}
use Rattle.rinv_laws.proofs.copied.chosen_in_copies.Goals as goal

pub chosen_in_copy-requires-clause-inside : goal.chosen_in_copy-requires-clause-inside
chosen_in_copy-requires-clause-inside c =
    let v = c.args.from.now.vars in
    omega (arith, row_fits c.copies.copy v c.args.copies v c.copies-test.true (omega arith), c.requires.inside)

pub copies-preserved : goal.copies-preserved
copies-preserved c =
    let p = c.args.ring.now.coeffs in
    let v = c.args.from.now.vars in
    let hs : List Poly = map (λ k. get_or c.args.polys.now k []) c.args.places.now in
    rw c.in_ok-list.ensures (record {
      normal = All-append (IsNormal (residue_ops p) (λ c. nat_lt c p) c.args.ring.now.vars) c.copies.list.items c.in_ok-next.next.items c.copies.invariant.normal c.in_ok-next.ensures.normal;
      value = subst (λ (gs : List Poly). AreSame (residue_ops p) (c.copies.list.items ++ c.in_ok-next.next.items) gs) (sym (copies-more c.copies.copy v hs))
          (AllZip-append (IsSame (poly_ops (residue_ops p))) c.copies.list.items c.in_ok-next.next.items (copied c.copies.copy v hs) (map (past (c.copies.copy * v)) hs) c.copies.invariant.value c.in_ok-next.ensures.value);
    })
