-- `clear_border` meets its contract, by the laws of `ClearBorderLaws`. Assumes nothing.
use Rattle.engine.proofs.SpreadLaws.{stretch-room}
use Rattle.operations.proofs.ClearBorderLaws.{clear-start, clear_next, cleared}
use Rattle.operations.proofs.inner.clear_border.Goals as goal

pub visit_exposed-end-requires : goal.visit_exposed-end-requires
visit_exposed-end-requires c =
    rw c.changing-rule.ensures (stretch-room _ _ (clear-start _ c.requires.ready c.requires.connectivity_value))

pub layers-grown-requires : goal.layers-grown-requires
layers-grown-requires c =
    let visited = rw c.changing-rule.ensures at c.visit_exposed-end.ensures in
    rw c.changing-rule.ensures (clear_next _ c.requires.ready c.requires.connectivity_value visited)

pub returns : goal.returns
returns c =
    let visited = rw c.changing-rule.ensures at c.visit_exposed-end.ensures in
    let grown = rw c.changing-rule.ensures at c.layers-grown.ensures in
    let done = cleared _ c.requires.ready c.requires.connectivity_value visited grown in
    record { pictured = done.0; counted = done.1 }
