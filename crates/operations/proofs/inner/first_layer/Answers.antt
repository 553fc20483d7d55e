-- `first_layer` meets its contract: each need is a law of `FirstLayerLaws` over what the function requires and what its
-- callees ensure. Assumes nothing.
use Rattle.operations.proofs.FirstLayerLaws.{contour-paint, contour-border, contour-peeled}
use Rattle.operations.proofs.FirstLayerLaws.{beside-gather, beside_spread, beside-border, beside-peeled}
use Rattle.operations.proofs.inner.first_layer.Goals as goal

pub returns-then-rule-eq4 : goal.returns-then-rule-eq4
returns-then-rule-eq4 c =
    contour-peeled _ c.requires c.paint.ensures c.if-rule-eq4.true
    c.visit_exposed-end.ensures

pub visit_exposed-end-requires-2 : goal.visit_exposed-end-requires-2
visit_exposed-end-requires-2 c =
    beside-border _ c.requires (c.gather-start.ensures.gathered, c.gather-start.ensures.kept) c.spread-beside.ensures

pub returns : goal.returns
returns c =
    beside-peeled _ c.requires (c.gather-start.ensures.gathered, c.gather-start.ensures.kept) c.spread-beside.ensures
    c.visit_exposed-end-2.ensures

pub paint-requires : goal.paint-requires
paint-requires c = contour-paint c.requires.ready c.requires.hand

pub visit_exposed-end-requires : goal.visit_exposed-end-requires
visit_exposed-end-requires c = contour-border _ c.requires c.paint.ensures

pub gather-start-requires : goal.gather-start-requires
gather-start-requires c = beside-gather c.requires.ready c.requires.hand

pub spread-beside-requires : goal.spread-beside-requires
spread-beside-requires c = beside_spread _ c.requires (c.gather-start.ensures.gathered, c.gather-start.ensures.kept)
