-- The words at the head of written lines.
use Rattle.std.proofs.Common.{◌≡◌, List, ℕ, codes, refl, sym, subst, Some}
use Rattle.rinv_system.specs.declared.keyword.Keyword.TheVariants.{Field, Group, Space, Ideal, Unit as AtUnit, Product, Inverse, Action, Section, Pairs, Steps}
use Rattle.rinv_system.specs.Words.{head_of, keyword_of, budget_of}
use Rattle.rinv_system.specs.Written.{line_text}
use Rattle.rinv_system.proofs.WrittenLines.{IsLineText}

-- each by itself, since words compute

pub head-field : (rest : List ℕ) → IsLineText rest → head_of (line_text (codes "field") rest) ≡ Some (Field, rest)
unfolding head_of keyword_of budget_of
head-field rest h = subst (λ r. head_of (line_text (codes "field") r) ≡ Some (Field, r)) (sym h.begins) (rw h.begins_dark refl)

pub head-group : (rest : List ℕ) → IsLineText rest → head_of (line_text (codes "group") rest) ≡ Some (Group, rest)
unfolding head_of keyword_of budget_of
head-group rest h = subst (λ r. head_of (line_text (codes "group") r) ≡ Some (Group, r)) (sym h.begins) (rw h.begins_dark refl)

pub head-space : (rest : List ℕ) → IsLineText rest → head_of (line_text (codes "space") rest) ≡ Some (Space, rest)
unfolding head_of keyword_of budget_of
head-space rest h = subst (λ r. head_of (line_text (codes "space") r) ≡ Some (Space, r)) (sym h.begins) (rw h.begins_dark refl)

pub head-ideal : (rest : List ℕ) → IsLineText rest → head_of (line_text (codes "ideal") rest) ≡ Some (Ideal, rest)
unfolding head_of keyword_of budget_of
head-ideal rest h = subst (λ r. head_of (line_text (codes "ideal") r) ≡ Some (Ideal, r)) (sym h.begins) (rw h.begins_dark refl)

pub head-unit : (rest : List ℕ) → IsLineText rest → head_of (line_text (codes "unit") rest) ≡ Some (AtUnit, rest)
unfolding head_of keyword_of budget_of
head-unit rest h = subst (λ r. head_of (line_text (codes "unit") r) ≡ Some (AtUnit, r)) (sym h.begins) (rw h.begins_dark refl)

pub head-product : (rest : List ℕ) → IsLineText rest → head_of (line_text (codes "product") rest) ≡ Some (Product, rest)
unfolding head_of keyword_of budget_of
head-product rest h = subst (λ r. head_of (line_text (codes "product") r) ≡ Some (Product, r)) (sym h.begins) (rw h.begins_dark refl)

pub head-inverse : (rest : List ℕ) → IsLineText rest → head_of (line_text (codes "inverse") rest) ≡ Some (Inverse, rest)
unfolding head_of keyword_of budget_of
head-inverse rest h = subst (λ r. head_of (line_text (codes "inverse") r) ≡ Some (Inverse, r)) (sym h.begins) (rw h.begins_dark refl)

pub head-action : (rest : List ℕ) → IsLineText rest → head_of (line_text (codes "action") rest) ≡ Some (Action, rest)
unfolding head_of keyword_of budget_of
head-action rest h = subst (λ r. head_of (line_text (codes "action") r) ≡ Some (Action, r)) (sym h.begins) (rw h.begins_dark refl)

pub head-section : (rest : List ℕ) → IsLineText rest → head_of (line_text (codes "section") rest) ≡ Some (Section, rest)
unfolding head_of keyword_of budget_of
head-section rest h = subst (λ r. head_of (line_text (codes "section") r) ≡ Some (Section, r)) (sym h.begins) (rw h.begins_dark refl)

pub head-pairs : (rest : List ℕ) → IsLineText rest → head_of (line_text (codes "budget pairs") rest) ≡ Some (Pairs, rest)
unfolding head_of keyword_of budget_of
head-pairs rest h = subst (λ r. head_of (line_text (codes "budget pairs") r) ≡ Some (Pairs, r)) (sym h.begins) (rw h.begins_dark refl)

pub head-steps : (rest : List ℕ) → IsLineText rest → head_of (line_text (codes "budget steps") rest) ≡ Some (Steps, rest)
unfolding head_of keyword_of budget_of
head-steps rest h = subst (λ r. head_of (line_text (codes "budget steps") r) ≡ Some (Steps, r)) (sym h.begins) (rw h.begins_dark refl)
