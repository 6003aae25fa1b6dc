use Rattle.std.proofs.Common.{◌<◌, ap, ◌∙◌, List, get_or, length}
use Rattle.std.proofs.lemmas.List.{get_or_default}
use Rattle.rinv_text.specs.Reading.{Definition, undefined}
use Rattle.rinv_text.proofs.Definitions.{defined-stands}
use Rattle.rinv_text.proofs.value.defined.Goals as goal

pub returns : goal.returns
returns c =
    let within : c.args.place < length c.list.result.now = rw c.list.ensures.value c.requires.within in
    let is = c.abbreviation.view_is ∙ c.index-list-place.is ∙ get_or_default c.list.result.now c.args.place _ undefined within ∙ ap (λ (l : List Definition). get_or l c.args.place undefined) c.list.ensures.value in
    defined-stands c.args.field.now.base.coeffs c.args.field.now.base.vars (get_or c.args.defs.now c.args.place undefined) c.in_ok-num.num c.in_ok-den.den c.in_ok-num-2.num
    (c.requires.values c.args.place undefined c.requires.within) (c.list.ensures.good.bounded c.args.place undefined c.requires.within)
    (c.in_ok-num.ensures ∙ c.num.ensures ∙ ap (λ (d : Definition). d.value.0) is) (c.in_ok-den.ensures ∙ c.den.ensures ∙ ap (λ (d : Definition). d.value.1) is)
    (rw c.base-ring.ensures at c.in_ok-num-2.ensures.value)
