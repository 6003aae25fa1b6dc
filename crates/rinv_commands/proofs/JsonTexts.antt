-- The text of a certificate ends otherwise: with the bracket of an object.
--   not-certificate
use Rattle.std.proofs.Common.{◌≡◌, List, ℕ, [], ◌∷◌, ◌++◌, append_assoc, refl, sym, ap, ◌∙◌, codes, Bool, true, false}
use Rattle.json.specs.Print.{quoted}
use Rattle.serde_json.specs.Data.{Members, no_members, member, object}
use Rattle.serde_json.specs.Written.{compact_text, members_text, comma_if}
use Rattle.rinv_defs.specs.Certificate.{Certificate}
use Rattle.rinv_json.specs.Written.{json_of, json_text}
use Rattle.rinv_certificates.specs.Texts.{certificate_text}
use Rattle.rinv_commands.specs.Headline.{EndsComplete}
use Rattle.rinv_commands.proofs.LastLines.{ends-otherwise}

-- members are written to the closing bracket
members-end : (later : Bool) (ms : Members) → (front : List ℕ) × (members_text later ms ≡ front ++ 125 ∷ [])
members-end later no_members = ([], refl)
members-end later (member k d ms) =
    let ih = members-end true ms in
    let front = comma_if later ++ (quoted k ++ 58 ∷ (compact_text d ++ ih.0)) in (
      front,
      ap (λ t. comma_if later ++ (quoted k ++ 58 ∷ (compact_text d ++ t))) ih.1
          ∙ ap (λ t. comma_if later ++ (quoted k ++ 58 ∷ t)) (sym (append_assoc (compact_text d) ih.0 (125 ∷ [])))
          ∙ ap (λ t. comma_if later ++ t) (sym (append_assoc (quoted k) (58 ∷ (compact_text d ++ ih.0)) (125 ∷ [])))
          ∙ sym (append_assoc (comma_if later) (quoted k ++ 58 ∷ (compact_text d ++ ih.0)) (125 ∷ [])),
    )

object-end : (ms : Members) → (front : List ℕ) × (compact_text (object ms) ≡ front ++ 125 ∷ [])
object-end ms = let h = members-end false ms in (123 ∷ h.0, ap (λ t. 123 ∷ t) h.1)

json-end : (c : Certificate) → (front : List ℕ) × (json_text c ≡ front ++ 125 ∷ [])
unfolding json_of
json-end c = object-end _

pub not-certificate : (text : List ℕ) (c : Certificate) → EndsComplete text → text ≡ certificate_text c → ⊥
not-certificate text c h is =
    let e = json-end c in
    ends-otherwise text e.0 (codes "}\n") h (is ∙ ap (λ t. t ++ codes "\n") e.1 ∙ append_assoc e.0 (125 ∷ []) (codes "\n")) refl
