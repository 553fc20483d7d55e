-- `scan::scan_row` passes over a row that the look finds blank, and lists another. Assumes nothing.
use Rattle.std.proofs.Common.{sym, ◌∙◌, ◌+◌, ◌*◌, arith}
use Rattle.model.specs.Words.{row_words}
use Rattle.words.proofs.PositionsLaws.{length-row_ones-le}
use Rattle.words.proofs.ScanLaws.{row_scanned-blank, row_scanned-listed}
use Rattle.words.proofs.inner.scan.scan_row.Goals as goal

pub returns-then-is_blank-clause-scanned : goal.returns-then-is_blank-clause-scanned
returns-then-is_blank-clause-scanned c image seen =
    row_scanned-blank seen _ _ c.requires.row _
    (sym c.if-is_blank.true ∙ c.is_blank.ensures _ _ image c.requires.of seen.framed)

pub returns-clause-scanned : goal.returns-clause-scanned
returns-clause-scanned c image seen =
    row_scanned-listed seen _ _ c.requires.row _
    (sym c.if-is_blank.false ∙ c.is_blank.ensures _ _ image c.requires.of seen.framed) c.list_row-len.ensures

pub returns-clause-most : goal.returns-clause-most
returns-clause-most c =
    let a = c.args in
    omega (
      arith,
      length-row_ones-le a.width a.height a.words.now a.y (a.base + a.y * a.width) c.requires.listable c.requires.row
          (row_words a.width) (omega arith),
    )
