use Rattle.std.proofs.Common.{◌∙◌, List, map, ap}
use Rattle.std.proofs.lemmas.List.{take_all}
use Rattle.rinv_defs.specs.System.{Poly}
use Rattle.rinv_cert.specs.Seen.{kind_of}
use Rattle.rinv_identities.proofs.SeenParts.{element-normal, normal-as, elements-are}
use Rattle.rinv_identities.proofs.elements.copied_elements.Goals as goal

pub copy-requires : goal.copy-requires
copy-requires c =
    let stored = c.args.stored.now in
    let b : Poly × List Poly = c.index-basis-k.result in
    normal-as _ stored.system.field _ _ c.item.inside.h b.0 (c.new-ring.ensures.ring ∙ c.sizes_in-sizes.ensures.field) (c.new-ring.ensures.count ∙ c.sizes_in-sizes.ensures.graph) (ap (λ (x : Poly × List Poly). x.0) c.item.view_is)
    (element-normal stored (ap kind_of c.requires.kind) c.requires.form c.as_slice-basis.result.now c.elements.k b c.as_slice-basis.ensures c.elements-test.true c.index-basis-k.is)

pub returns : goal.returns
returns c =
    c.elements.invariant ∙ ap (λ (bs : List (Poly × List Poly)). map (λ (b : Poly × List Poly). b.0) bs) (take_all c.elements.k c.as_slice-basis.result.now c.elements-test.false ∙ c.as_slice-basis.ensures)
    ∙ elements-are c.args.stored.now.basis
