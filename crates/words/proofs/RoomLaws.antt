-- Laws of packed rows at a buffer's front (specs/Room.antt).
--   rows_inside     the rows are inside a buffer with room for their frame
--   room-same       buffers that are as long have as much room
--   frame-most      a crop's frame is no larger than the largest
--   front_length    the rows at its front are as many as the crop's
--   front-written, held-written   rows written to its front stand there
--   room-frame, room-steppable    the frame of a crop in its room, which can be stepped there
--   front-loadable, room-loadable   the rows can be made into it
--   ran-front, room-ran             a run from rows to rows, both at a buffer's front
--   framed-front    the frame of the rows
--   front-stored    rows that are written back from the frame of an image
--   front-object    where the right side is background, its words say which pixels are object
--   lent-inside     lent rows are inside the room
--   listable-words  words that say which pixels pass a test can be listed
-- Assumes nothing.
use Prim.Native.Nat.{ℕ, ◌+◌, ◌*◌, ◌≤◌}
use mathlib.Core.Path.{◌≡◌, refl, sym, ap, subst, ◌∙◌}
use mathlib.Core.Bool.{Bool, false}
use mathlib.Core.List.{List, ◌++◌}
use native.Mathlib.Omega.{arith}
use native.Mathlib.Nat.{mul-le-mul}
use lib.Dec.{eqb}
use lib.ListN.{length, get_or, take, drop, length-append, length-drop}
use lib.Seq.{length-take-le, take_at}
use borrow.Author.Tests.{lt-ltb, le-ltb}
use Rattle.lists.proofs.BoolLaws.{by-lt, bit-eqb}
use Rattle.neighbours.specs.Limits.{max_side}
use Rattle.neighbours.specs.Crop.{ValidSize, Binary}
use Rattle.neighbours.specs.Grid.{right_side, has_side, position}
use Rattle.neighbours.specs.Words.{word_bits, max_row_words}
use Rattle.neighbours.proofs.PackedLaws.{packed_length-is, row_units-lt}
use Rattle.neighbours.proofs.PlaceLaws.{place_value-inside}
use Rattle.neighbours.proofs.WordLaws.{filled_value-inside, filled_value-behind}
use Rattle.model.specs.Words.{row_words, words_length, packed_words, unpacked_words}
use Rattle.neighbours.proofs.PackedLaws.{Units, units-front, unpacked-binary}
use Rattle.words.specs.Frame.{stride, frame_room, max_entries, FrameOf, Room, Loadable, Loaded, Iterated, Stored}
use Rattle.words.specs.Frame.{Ran, Framed, Clean, Steppable}
use Rattle.words.specs.Positions.{WordsOf, Listable}
use Rattle.words.specs.Room.{front_rows, InRoom, HeldRows, Lent}
use Rattle.words.specs.declared.Frame.{Frame}
use Rattle.words.proofs.TurnedLaws.{turned_zero}
use Rattle.words.proofs.FramedLaws.{framed-loaded}
use Rattle.words.proofs.RunLaws.{small-frame, rows-length, ran-stored, packed-stored}

-- the rows of a crop are inside its frame's room
pub rows-le : (width height : ℕ) → words_length width height ≤ frame_room (row_words width) height
rows-le width height =
    let columns : row_words width ≤ row_words width + 2 = omega arith in
    let rows : height ≤ height + 2 = omega arith in
    rw (packed_length-is word_bits width height) (mul-le-mul columns rows)

pub rows_inside : {width height : ℕ} {rows entries : List ℕ} → InRoom width height rows entries →
    words_length width height ≤ length rows
rows_inside {width} {height} room = omega (arith, rows-le width height, room.room, room.size)

-- buffers that are as long have as much room
pub room-same : {width height : ℕ} {rows entries rows' entries' : List ℕ} →
    InRoom width height rows entries → length rows' ≡ length rows → length entries' ≡ length entries →
    InRoom width height rows' entries'
room-same room same_rows same_entries =
    record {
      valid = room.valid;
      room = omega (arith, room.room, same_entries);
      few = omega (arith, room.few, same_entries);
      size = same_rows ∙ room.size ∙ sym same_entries;
    }

-- the frame of a crop has at most as many entries as the largest
pub frame-most : {width height : ℕ} → ValidSize width height → frame_room (row_words width) height ≤ max_entries
frame-most {width} {height} valid =
    let columns : row_words width + 2 ≤ max_row_words + 2 =
    omega (arith, valid.narrow, row_units-lt word_bits width (omega arith)) in
    let rows : height + 2 ≤ max_side + 2 = omega (arith, valid.low) in
    mul-le-mul columns rows

-- the rows at its front
pub front_length : {width height : ℕ} {rows entries : List ℕ} → InRoom width height rows entries →
    length (front_rows width height rows) ≡ words_length width height
front_length {width} {height} {rows} room = length-take-le (words_length width height) rows (rows_inside room)

-- rows that are written there
pub front-written : (width height : ℕ) (part rest : List ℕ) → length part ≡ words_length width height →
    front_rows width height (part ++ rest) ≡ part
front-written width height part rest size = take_at part rest (words_length width height) size

pub held-written : {width height : ℕ} {rows entries : List ℕ} → InRoom width height rows entries →
    (n : ℕ) → n ≡ words_length width height → (part : List ℕ) → Clean width height part →
    HeldRows width height (part ++ drop n rows) entries
held-written {width} {height} {rows} room n is_length part clean =
    let size : length (part ++ drop n rows) ≡ length rows =
    length-append part (drop n rows) ∙ omega (arith, clean.size, is_length, length-drop n rows, rows_inside room) in
    record {
      in_room = record { valid = room.valid; room = room.room; few = room.few; size = size ∙ room.size };
      clean = subst (Clean width height) (sym (front-written width height part (drop n rows) clean.size)) clean;
    }

-- the frame of a crop has room
pub room-frame : {width height connectivity sides flip : ℕ} {rows entries : List ℕ} {frame : Frame} →
    InRoom width height rows entries → FrameOf width height connectivity sides flip frame → Room frame entries
room-frame room of =
    record { small = small-frame of; room = rw (of.columns, of.rows) room.room; few = room.few }

-- and can be stepped, beside as many levels
pub room-steppable : {width height connectivity sides flip : ℕ} {rows entries entries' : List ℕ} {frame : Frame} →
    InRoom width height rows entries → length entries' ≡ length entries →
    FrameOf width height connectivity sides flip frame → Steppable frame rows entries'
room-steppable room same of =
    let still = room-same room refl same in
    record { room = room-frame still of; size = still.size }

module _ {width height connectivity sides flip : ℕ} {frame : Frame}
    (of : FrameOf width height connectivity sides flip frame) (n : ℕ)
    (is_length : n ≡ words_length width height) where
  -- the rows can be made into the frame
  pub front-loadable : (rows : List ℕ) {entries : List ℕ} → n ≤ length rows → Room frame entries →
      Loadable frame (take n rows) entries
  front-loadable rows inside room =
      record { room = room; size = length-take-le n rows inside ∙ is_length ∙ sym (rows-length of) }

  -- a run from rows to rows, both at a buffer's front; `levels` is what stood there in between
  pub ran-front : (rows levels rest : List ℕ) {count iterations : ℕ} {entries entries' part : List ℕ} →
      n ≤ length rows → n ≤ length levels → Loaded frame (take n rows) entries →
      Iterated frame iterations entries entries' count → Stored frame entries' (take n levels) part →
      Units word_bits part →
      Ran width height connectivity sides flip iterations (front_rows width height rows)
      (front_rows width height (part ++ rest)) count
  ran-front rows levels rest {count} {iterations} {entries} {entries'} {part} inside_rows inside_levels loaded iterated
      stored small =
      let front = length-take-le n rows inside_rows in
      let between = length-take-le n levels inside_levels in
      let before : Stored frame entries' (take n rows) part =
      record { size = stored.size ∙ between ∙ sym front; each = stored.each } in
      let ran = ran-stored of loaded iterated before (front ∙ is_length) small in
      let written = front-written width height part rest (stored.size ∙ between ∙ is_length) in
      rw written (rw is_length at ran)

  -- the same where rows and entries are a room for the crop
  module _ {rows entries₀ : List ℕ} (room : InRoom width height rows entries₀) where
    inside : n ≤ length rows
    inside = omega (arith, is_length, rows_inside room)

    pub room-loadable : Loadable frame (take n rows) entries₀
    room-loadable = front-loadable rows inside (room-frame room of)

    pub room-ran : (levels rest : List ℕ) {count iterations : ℕ} {entries entries' part : List ℕ} →
        length levels ≡ length rows → Loaded frame (take n rows) entries →
        Iterated frame iterations entries entries' count → Stored frame entries' (take n levels) part →
        Units word_bits (part ++ rest) →
        Ran width height connectivity sides flip iterations (front_rows width height rows)
        (front_rows width height (part ++ rest)) count
    room-ran levels rest {part = part} same loaded iterated stored small =
        ran-front rows levels rest inside (omega (arith, inside, same)) loaded iterated stored
        (units-front word_bits part rest small)

-- the frame of the rows, where nothing is turned
pub framed-front : {width height connectivity sides : ℕ} {frame : Frame} →
    FrameOf width height connectivity sides 0 frame →
    (n : ℕ) → n ≡ words_length width height → (rows : List ℕ) {entries : List ℕ} →
    Loaded frame (take n rows) entries →
    Framed width height sides (unpacked_words width height (front_rows width height rows)) entries
framed-front {width} {height} {connectivity} {sides} of n is_length rows {entries} loaded =
    let image : ℕ → List ℕ = λ m. unpacked_words width height (take m rows) in
    subst (λ (m : ℕ). Framed width height sides (image m) entries) is_length
    (subst (λ (l : List ℕ). Framed width height sides l entries) (turned_zero (image n)) (framed-loaded of loaded))

-- rows that are written back from the frame of an image, where nothing is turned
pub front-stored : {width height connectivity sides n : ℕ} {frame : Frame} {image rows rows' entries : List ℕ}
    (part rest : List ℕ) →
    FrameOf width height connectivity sides 0 frame → n ≡ words_length width height →
    InRoom width height rows rows' → Binary width height image → Framed width height sides image entries →
    Stored frame entries (take n rows) part → Units word_bits (part ++ rest) →
    front_rows width height (part ++ rest) ≡ packed_words width height image
front-stored {width} {height} {n = n} {image = image} {rows = rows} part rest of is_length room binary framed stored
    small =
    let size = length-take-le n rows (omega (arith, is_length, rows_inside room)) ∙ is_length in
    front-written width height part rest (stored.size ∙ size)
    ∙ packed-stored of binary framed stored size (units-front word_bits part rest small)
    ∙ ap (packed_words width height) (turned_zero image)

-- where the right side is background, its words say which pixels of the rows are object
pub front-object : {width height connectivity sides : ℕ} {frame : Frame} →
    FrameOf width height connectivity sides 0 frame → has_side sides right_side ≡ false →
    (n : ℕ) → n ≡ words_length width height → (rows : List ℕ) {entries : List ℕ} →
    Loaded frame (take n rows) entries →
    WordsOf width height (λ i. eqb (get_or (unpacked_words width height (front_rows width height rows)) i 0) 1) entries
front-object {width} {height} {sides = sides} of side n is_length rows loaded k y lk ly j l =
    let image = unpacked_words width height (front_rows width height rows) in
    let framed = framed-front of n is_length rows loaded in
    let x = word_bits * k + j in
    let x1 : word_bits * k + 1 + j ≡ x + 1 = omega arith in
    let y1 : (k + 1) * stride height + 1 + y ≡ (k + 1) * stride height + (y + 1) = omega arith in
    let held = rw (x1, ← y1) at (framed.inside k (y + 1) lk (omega arith) j l) in
    held
    ∙ by-lt x width
    (λ h.
    filled_value-inside width height sides image (y + 1) (x + 1) (omega arith)
    ∙ place_value-inside width height sides image x y h ly
    ∙ rw (lt-ltb x width h) (bit-eqb _ ((unpacked-binary word_bits width height _).bits (position width x y))))
    (λ h.
    filled_value-behind width height sides image (y + 1) (x + 1) (omega arith) ∙ rw (le-ltb x width h, side) refl)

-- words that say which pixels pass a test have no bit set behind a row's end
pub listable-words : {width height : ℕ} {rows entries words : List ℕ} (test : ℕ → Bool) →
    InRoom width height rows entries → length words ≡ length rows → WordsOf width height test words →
    Listable width height words
listable-words {width} test room size is =
    record {
      valid = room.valid;
      room = omega (arith, room.room, room.size, size);
      few = omega (arith, room.few, room.size, size);
      clear = λ k y j lk ly l h. is k y lk ly j l ∙ rw (le-ltb (word_bits * k + j) width h) refl;
    }

-- lent rows are inside the room
pub lent-inside : {width height : ℕ} {words rows entries : List ℕ} {connectivity : ℕ} →
    Lent width height words rows entries connectivity → length words ≤ length rows
lent-inside lent = omega (arith, lent.operable.clean.size, rows_inside lent.in_room)
