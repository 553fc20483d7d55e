-- Laws of operations on words.
--   held-front                   the rows of a packed image stand in their room
--   held-operated                what an operation on rows leaves
--   whole-listed                 all rows of a crop are listed
--   listed-hands-on              a contour that is listed, with zeros behind, is handed on
--   scanned-only                 a scan by itself
--   operated-words               an operation on the rows of an image is one on the image
-- Assumes nothing.
use Prim.Native.Nat.{ℕ, ◌-◌, ◌*◌, ◌≤◌}
use mathlib.Core.Path.{◌≡◌, refl, ap, ◌∙◌}
use mathlib.Core.List.{List, ◌++◌}
use native.Mathlib.Omega.{arith}
use lib.ListN.{length, take, replicate}
use Rattle.neighbours.specs.Crop.{ValidSize, Binary, Extended, moved}
use Rattle.neighbours.specs.Contour.{contour}
use Rattle.neighbours.specs.BlankRows.{blank_row_count}
use Rattle.neighbours.specs.Words.{word_bits}
use Rattle.neighbours.proofs.CropLaws.{moved_none}
use Rattle.neighbours.proofs.PackedLaws.{unpacked-binary}
use Rattle.model.specs.Operations.{apply}
use Rattle.model.specs.Words.{packed_words, unpacked_words}
use Rattle.model.specs.declared.Step.{Step}
use Rattle.model.specs.declared.WordsReport.{WordsReport}
use Rattle.theorems.proofs.OperationLaws.{apply-binary}
use Rattle.words.specs.Frame as frame
use Rattle.words.specs.Room.{front_rows, InRoom, HeldRows}
use Rattle.words.proofs.RoomLaws.{room-same}
use Rattle.words.proofs.OperatedLaws.{clean-packed, unpacked-clean}
use Rattle.operations.specs.Inner.{Operated}
use Rattle.performing.specs.Inner.{Scanned, HandsOn}
use Rattle.operations.proofs.HandOnLaws.{handed-on, handed_on-length, scan-handed-on}

-- the rows of a packed image stand in a room as large as before
pub held-front : {width height : ℕ} → ValidSize width height → {image : List ℕ} →
    Binary width height image → (rows : List ℕ) →
    front_rows width height rows ≡ packed_words width height image →
    {rows₀ entries : List ℕ} → InRoom width height rows₀ entries → length rows ≡ length rows₀ →
    HeldRows width height rows entries
held-front valid binary rows packed room same =
    record { in_room = room-same room same refl; clean = clean-packed valid binary packed }

-- what an operation on rows leaves is the rows of an image, in the same room
pub held-operated : {width height : ℕ} {step : Step} {mask words : List ℕ} (rows' : List ℕ)
    {report : WordsReport} {rows entries entries' : List ℕ} → InRoom width height rows entries →
    frame.Operated width height step mask words (front_rows width height rows') report →
    length rows' ≡ length rows → length entries' ≡ length entries → HeldRows width height rows' entries'
held-operated {width} {height} {step} {mask} {words} rows' {entries' = entries'} room o same_rows same_entries =
    let before = unpacked_words width height words in
    let binary = apply-binary width height step mask before (unpacked-binary word_bits width height words) in
    record {
      in_room = room-same room same_rows same_entries;
      clean = clean-packed room.valid binary o.rows;
    }

-- all rows of a crop are listed, with nothing left out above them
pub whole-listed : {queue queue' : List ℕ} (positions : List ℕ) {len : ℕ} →
    Extended queue 0 (moved 0 positions) queue' len → Extended queue 0 positions queue' len
whole-listed positions listed = rw (moved_none positions) at listed

-- a contour that is listed, with zeros behind, is handed on
pub listed-hands-on : {width height : ℕ} (after : List ℕ) {queue queue₁ queue' image' : List ℕ}
    {len : ℕ} →
    width * height ≤ length queue → image' ≡ after →
    Extended queue 0 (contour width height after) queue₁ len →
    queue' ≡ take len queue₁ ++ replicate (length queue₁ - len) 0 →
    HandsOn width height after queue image' queue' len
listed-hands-on {width} {height} after {queue} {queue₁} {queue'} {image'} {len} room same listed zeros =
    let on = scan-handed-on width height after room listed queue (omega arith) zeros in
    record {
      pictured = same;
      lasting = handed_on-length width height after queue queue₁ len queue' on;
      queued = handed-on width height after queue queue₁ len queue' on room;
    }

-- a scan by itself
pub scanned-only : {width height : ℕ} {image queue queue₁ queue' : List ℕ} {len blank : ℕ} →
    width * height ≤ length queue → Extended queue 0 (contour width height image) queue₁ len →
    blank ≡ blank_row_count width height image →
    queue' ≡ take len queue₁ ++ replicate (length queue₁ - len) 0 →
    Scanned width height image queue (record { contour_len = len; blank_rows = blank }) queue'
scanned-only {image = image} room found counted zeros =
    let on = listed-hands-on image room refl found zeros in
    record { reported = rw (on.lasting, counted) refl; queued = on.queued }

-- an operation on the rows of an image, which is then unpacked and its contour handed on
pub operated-words : {width height : ℕ} {step : Step} {mask : List ℕ} (rows rows' : List ℕ)
    {report : WordsReport} {image queue image' queue' : List ℕ} {len : ℕ} → ValidSize width height →
    Binary width height image →
    front_rows width height rows ≡ packed_words width height image →
    frame.Operated width height step mask (front_rows width height rows) (front_rows width height rows') report →
    HandsOn width height (unpacked_words width height (front_rows width height rows')) queue image' queue' len →
    Operated width height step mask image queue
    (record { changed = report.changed; used = report.used; contour_len = len }) image' queue'
operated-words {width} {height} {step} {mask} rows rows' {report} {image} {queue} {image'} {queue'} {len}
    valid binary packed o on =
    let before = unpacked-clean valid binary packed in
    let after = apply width height step mask image in
    let packed' : front_rows width height rows' ≡ packed_words width height after =
    o.rows ∙ ap (λ (l : List ℕ). packed_words width height (apply width height step mask l)) before in
    let unpacked : unpacked_words width height (front_rows width height rows') ≡ after =
    unpacked-clean valid (apply-binary width height step mask image binary) packed' in
    let pictured : image' ≡ after = on.pictured ∙ unpacked in
    record {
      pictured = pictured;
      counted = rw (before, ← pictured) at o.is_changed;
      least = rw before at o.is_used;
      lasting = rw (unpacked, ← pictured) at on.lasting;
      queued = rw (unpacked, ← pictured) at on.queued;
    }
