-- Laws of the contour as words (`ContourAt`, specs/Positions.antt).
--   ContourColumns   the first columns of the contour are written
--   contour-more     one column more
--   contour-whole    all columns: the words say which pixels are on the contour
-- Assumes nothing.
use Prim.Native.Nat.{ℕ, ◌+◌, ◌-◌, ◌*◌, ◌<◌}
use mathlib.Core.Path.{◌≡◌, refl, ◌∙◌}
use mathlib.Core.List.{List}
use native.Mathlib.Omega.{arith}
use lib.ListN.{get_or}
use Rattle.lists.proofs.BoolLaws.{by-lt}
use Rattle.neighbours.specs.Crop.{Binary}
use Rattle.neighbours.specs.Grid.{all_sides}
use Rattle.neighbours.specs.Contour.{on_contour}
use Rattle.neighbours.specs.Packed.{bit_at}
use Rattle.neighbours.specs.Words.{word_bits, LevelsRound}
use Rattle.neighbours.proofs.WordLaws.{bit-le-one, flat-zero}
use Rattle.model.specs.Words.{row_words}
use Rattle.words.specs.Frame.{stride, Written, FrameOf, Framed, keep_at}
use Rattle.words.specs.Positions.{WordsOf, ContourAt}
use Rattle.words.specs.declared.Frame.{Frame}
use Rattle.words.proofs.ColumnLaws.{Columns, mul_next, frame-more}
use Rattle.words.proofs.FramedLaws.{LevelsOf, levels-round, mask_at}

-- the first k columns are written
abbrev pub ContourColumns : Frame → List ℕ → ℕ → ℕ → List ℕ → List ℕ → Type 0
ContourColumns frame entries rows k contour contour' =
    Columns (λ i. ContourAt entries (i * stride rows + 1) (stride rows) (keep_at frame i))
    (λ i y. (i + 1) * stride rows + 1 + y) k rows contour contour'

-- one column more
pub contour-more : (frame : Frame) (entries : List ℕ) {contour contour' contour'' : List ℕ}
    (rows k from keep : ℕ) →
    from ≡ k * stride rows + 1 → keep ≡ keep_at frame k →
    ContourColumns frame entries rows k contour contour' →
    Written (ContourAt entries from (stride rows) keep) (from + stride rows) 1 rows contour' contour'' →
    ContourColumns frame entries rows (k + 1) contour contour''
contour-more frame entries rows k from keep is_from is_keep c w =
    let at : from + stride rows ≡ (k + 1) * stride rows + 1 = omega (arith, is_from, mul_next (stride rows) k) in
    let written = rw (at, is_from, is_keep) at w in
    frame-more (stride rows) 1 rows k ((k + 1) * stride rows + 1) (omega arith) refl c written

-- by 4 a word counts by itself, whatever stands above and below it
levels-alone : {width height sides flip : ℕ} {frame : Frame} → FrameOf width height 4 sides flip frame →
    (entries : List ℕ) (end : ℕ) → LevelsOf entries entries frame.four end
levels-alone {frame = frame} of entries end i l j =
    let one : 1 + i ≡ i + 1 = omega arith in
    let here = bit-le-one (get_or entries (i + 1) 0) j in
    let set : bit_at word_bits frame.four j ≡ 1 =
    by-lt j word_bits (λ h. of.is_four j h)
    (λ h. let e : 63 - j ≡ 63 - 63 = omega arith in rw e (of.is_four 63 (omega arith))) in
    rw (one, set) (omega arith)

-- and nothing counts above and below
round-zero : {width height k y left above here below right eight : ℕ} {image : List ℕ} →
    ((j : ℕ) → j < word_bits → bit_at word_bits eight j ≡ 0) →
    LevelsRound width height all_sides image 4 k y left above here below right eight →
    LevelsRound width height all_sides image 4 k y left above here below right 0
round-zero none r =
    record {
      linking = r.linking;
      bits = r.bits;
      row = r.row;
      is_here = r.is_here;
      is_left = r.is_left;
      is_right = r.is_right;
      is_upright = λ j l h. rw (flat-zero j l) (rw (none j l) at (r.is_upright j l h));
    }

-- all columns
pub contour-whole : {width height : ℕ} {frame : Frame} {image entries contour contour' : List ℕ}
    (rows k : ℕ) →
    rows ≡ frame.rows → k ≡ frame.columns → ContourColumns frame entries rows k contour contour' →
    FrameOf width height 4 all_sides 0 frame → Binary width height image →
    Framed width height all_sides image entries →
    WordsOf width height (on_contour width height image) contour'
contour-whole {width} {height} {frame} {image} {entries} {contour} {contour'} rows k is_rows is_all c of binary framed
    i y lk ly =
    let e_rows : rows ≡ height = is_rows ∙ of.rows in
    let e_all : k ≡ row_words width = is_all ∙ of.columns in
    let done = rw (e_rows, e_all) at c in
    let lev = levels-alone of entries ((row_words width + 2) * stride height) in
    let round = levels-round of entries framed lev binary.bits i y lk ly in
    let column : i < frame.columns = rw of.columns lk in
    done.each i y lk ly width height image i y (round-zero of.is_eight round) (mask_at of i column).is_keep
