use Rattle.std.proofs.Common.{◌≡◌, ◌∙◌, ◌++◌, [], List, ℕ, map, ap, sym, refl, subst, arith, length, true, IsTrue, None}
use Rattle.std.specs.Prelude.{codes}
use Rattle.std.specs.List.{list_all}
use Rattle.std.proofs.lemmas.Option.{none-some}
use Rattle.rinv_verdict.proofs.Accepted.{space_names-of_format}
use Rattle.rinv_defs.specs.System.{System}
use Rattle.rinv_defs.specs.Format.{format_failure}
use Rattle.rinv_defs.specs.Invariant.{Fraction}
use Rattle.rinv_defs.specs.Certificate.{Certificate}
use Rattle.rinv_defs.specs.Text.{fraction_lines, kind_text, yes_text}
use Rattle.rinv_cert.specs.Seen.{plain}
use Rattle.rinv_cert.proofs.Same.{map-same}
use Rattle.rinv_form.specs.Forms.{is_stored_fraction}
use Rattle.rinv_form.specs.Trimmed.{trimmed}
use Rattle.rinv_form.proofs.FormParts.{form-fractions}
use Rattle.rinv_form.proofs.TrimmedForms.{keys-system, keys-fractions}
use Rattle.rinv_verdict.proofs.checking.yes_lines.Goals as goal

-- the whole answer, piece by piece
yes-of : (c : Certificate) (p : ℕ) (names : List (List ℕ)) (fs : List Fraction) (line empty out out' out'' : List ℕ) → line ≡ kind_text c.kind → p ≡ c.system.p → names ≡ c.system.space → fs ≡ c.fractions
    → empty ≡ [] → out ≡ empty ++ codes "yes\n" → out' ≡ out ++ fraction_lines p names 1 fs → out'' ≡ out' ++ line → out'' ≡ yes_text c
unfolding yes_text
yes-of c p names fs line empty out out' out'' kind ps ns are none first lines last =
    last
    ∙ ap (λ (r : List ℕ). r ++ line) (lines ∙ ap (λ (r : List ℕ). r ++ fraction_lines p names 1 fs) (first ∙ ap (λ (r : List ℕ). r ++ codes "yes\n") none))
    ∙ ap (λ (q : ℕ). (codes "yes\n" ++ fraction_lines q names 1 fs) ++ line) ps
    ∙ ap (λ (ws : List (List ℕ)). (codes "yes\n" ++ fraction_lines c.system.p ws 1 fs) ++ line) ns
    ∙ ap (λ (gs : List Fraction). (codes "yes\n" ++ fraction_lines c.system.p c.system.space 1 gs) ++ line) are
    ∙ ap (λ (l : List ℕ). (codes "yes\n" ++ fraction_lines c.system.p c.system.space 1 c.fractions) ++ l) kind

-- the fractions as they stand
fractions-are : (fs : List Fraction) → map (λ (x : Fraction). (x.0, x.1)) fs ≡ fs
fractions-are fs = map-same (λ (x : Fraction). (x.0, x.1)) (λ x. refl) fs

module _ (c d : Certificate) (keys : d ≡ trimmed c) where
  field-is : (p : ℕ) → p ≡ d.system.p → p ≡ c.system.p
  field-is p e = e ∙ ap (λ (x : Certificate). x.system.p) keys ∙ ap (λ (s : System). s.p) (keys-system c.kind c)

  fractions-kept : (fs : List Fraction) → map (λ (x : Fraction). (x.0, x.1)) fs ≡ d.fractions → fs ≡ c.fractions
  fractions-kept fs e = sym (fractions-are fs) ∙ e ∙ ap (λ (x : Certificate). x.fractions) keys ∙ keys-fractions c.kind c

  -- they have their form, over a field and names that are the certificate's
  written : format_failure d ≡ None → (p : ℕ) → p ≡ d.system.p → (names : List (List ℕ)) → names ≡ c.system.space → (fs : List Fraction) → map (λ (x : Fraction). (x.0, x.1)) fs ≡ d.fractions
      → IsTrue (list_all (is_stored_fraction p (length names)) fs)
  written form p ep names en fs ef =
      let space : names ≡ d.system.space = en ∙ sym (ap (λ (x : Certificate). x.system.space) keys ∙ ap (λ (s : System). s.space) (keys-system c.kind c)) in
      rw (ep, space) (subst (λ (gs : List Fraction). list_all (is_stored_fraction d.system.p (length d.system.space)) gs ≡ true) (sym (sym (fractions-are fs) ∙ ef)) (form-fractions d form))

pub unreachable-requires : goal.unreachable-requires
unreachable-requires c = none-some _ (sym c.requires ∙ (rw c.in-Err-Part.field-0-is at c.in-Err-Part.ensures.part))

pub names_of-requires-clause-form : goal.names_of-requires-clause-form
names_of-requires-clause-form c = rw c.as_slice.ensures (space_names-of_format (plain c.args.certificate.now) c.requires).1

pub names_of-requires-clause-few : goal.names_of-requires-clause-few
names_of-requires-clause-few c = let h = (space_names-of_format (plain c.args.certificate.now) c.requires).0 in omega (arith, h, ap length c.as_slice.ensures)

pub write_lines-requires : goal.write_lines-requires
write_lines-requires c =
    rw c.as_slice-2.ensures (written (plain c.args.certificate.now) (plain c.in-Ok.parts) c.in-Ok.ensures.keys c.in-Ok.ensures.form _ c.sizes_in-field.ensures.field _ (c.in_ok-names.ensures ∙ c.as_slice.ensures) c.in-Ok.parts.fractions refl)

pub returns : goal.returns
returns c =
    yes-of (plain c.args.certificate.now) c.sizes_in-field.result.field c.in_ok-names.names c.as_slice-2.result.now c.as_bytes.result.now
    c.new-out.result.items c.extend_from_slice.new.self.items c.write_lines.new.out.items c.extend_from_slice-2.new.self.items
    (c.as_bytes.ensures.value ∙ c.kind_line.ensures) (field-is (plain c.args.certificate.now) (plain c.in-Ok.parts) c.in-Ok.ensures.keys _ c.sizes_in-field.ensures.field) (c.in_ok-names.ensures ∙ c.as_slice.ensures)
    (c.as_slice-2.ensures ∙ fractions-kept (plain c.args.certificate.now) (plain c.in-Ok.parts) c.in-Ok.ensures.keys c.in-Ok.parts.fractions refl)
    c.new-out.ensures.items c.in_ok-extend_from_slice.ensures.items c.in_ok-write_lines.ensures c.in_ok-extend_from_slice-2.ensures.items
