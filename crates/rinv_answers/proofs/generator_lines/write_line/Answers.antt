use Rattle.std.proofs.Common.{◌≡◌, ◌∙◌, ◌++◌, ℕ, List, ap, sym, subst, length, All}
use Rattle.rinv_algebra.specs.Polynomial.{Term}
use Rattle.rinv_defs.specs.System.{System, Poly, space_count}
use Rattle.rinv_defs.specs.SystemForm.{IsSystem}
use Rattle.rinv_defs.specs.Invariant.{Fraction}
use Rattle.rinv_defs.specs.Text.{fraction_text}
use Rattle.rinv_frac.specs.Fractions.{IsStored}
use Rattle.rinv_frac.proofs.Stored.{stored}
use Rattle.rinv_text.specs.Printed.{AppendsFraction}
use Rattle.rinv_text.specs.Told.{Told}
use Rattle.rinv_text.proofs.Lengths.{lengths-from_normal}
use Rattle.rinv_text.proofs.SystemParts.{parts-of}
use Rattle.rinv_lines.proofs.Lines.{fraction-line}
use Rattle.rinv_answers.proofs.generator_lines.write_line.Goals as goal

-- the text of a stored fraction, over the system's field and names
appended : (s : System) (names : List (List ℕ)) (n d : Poly) (f : Fraction) (old new : List ℕ) → names ≡ s.space → n ≡ f.0 → d ≡ f.1 → IsSystem s → IsStored s.p (space_count s) f → AppendsFraction names n d old new
    → new ≡ old ++ fraction_text s.p s.space f
appended s names n d f old new are num den system kept h = go (subst (λ (ns : List (List ℕ)). AppendsFraction ns f.0 f.1 old new) are (subst (λ (x : Poly). AppendsFraction names x f.1 old new) num (subst (λ (y : Poly). AppendsFraction names n y old new) den h)))
  where
    go : AppendsFraction s.space f.0 f.1 old new → new ≡ old ++ fraction_text s.p s.space f
    go text = text s.p (parts-of s system).listed (stored s.p (space_count s) f kept).numerator (stored s.p (space_count s) f kept).denominator

pub write_fraction-requires-clause-num : goal.write_fraction-requires-clause-num
write_fraction-requires-clause-num c =
    let s = c.args.system.now.system in
    rw c.num-num.ensures (subst (λ (n : ℕ). All (λ (t : Term ℕ). length t.0 ≡ n) c.args.fraction.now.0) (sym (ap (λ (t : Told). length t.system.space) c.system.view_is))
    (lengths-from_normal s.p (space_count s) c.args.fraction.now.0 (stored s.p (space_count s) c.args.fraction.now c.requires.fraction).numerator))

pub write_fraction-requires-clause-den : goal.write_fraction-requires-clause-den
write_fraction-requires-clause-den c =
    let s = c.args.system.now.system in
    rw c.den-den.ensures (subst (λ (n : ℕ). All (λ (t : Term ℕ). length t.0 ≡ n) c.args.fraction.now.1) (sym (ap (λ (t : Told). length t.system.space) c.system.view_is))
    (lengths-from_normal s.p (space_count s) c.args.fraction.now.1 (stored s.p (space_count s) c.args.fraction.now c.requires.fraction).denominator))

pub returns : goal.returns
returns c =
    let s = c.args.system.now.system in
    fraction-line s.p s.space c.args.number c.args.fraction.now c.args.out.now.items c.as_bytes.result.now _ _ _ (c.as_bytes.ensures.value ∙ c.in_ok-head.ensures.ok) c.in_ok-extend_from_slice.ensures.items
    (appended s _ _ _ c.args.fraction.now _ _ (ap (λ (t : Told). t.system.space) c.system.view_is) c.num-num.ensures c.den-den.ensures c.requires.system c.requires.fraction c.in_ok-write_fraction.ensures.text)
    c.in_ok-extend_from_slice-2.ensures.items
