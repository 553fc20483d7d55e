-- Laws of a run (`Iterated`, `Ran`, specs/Frame.antt).
--   Progress                     so many iterations are done, each of which changed something
--   progress-none, -more         none, and one more
--   progress-stop, -end          an iteration changed nothing; as many were done as asked
--   packed-stored                the rows of a frame written back
--   ran-stored, rows-length      a run from rows to rows, and how many words they have
--   small-frame                  a crop's frame is small
-- Assumes nothing.
use Prim.Native.Nat.{ℕ, suc, ◌+◌, ◌-◌, ◌*◌, ◌/◌, ◌%◌, ◌^◌, ◌≤◌, ◌<◌, min}
use mathlib.Core.Path.{◌≡◌, sym, ap, ap₂, ◌∙◌}
use mathlib.Core.List.{List}
use mathlib.Core.Logic.{◌↔◌}
use native.Mathlib.Omega.{arith}
use native.Mathlib.Nat.{mul_comm, mod-lt, div-lt_iff_lt-mul, div-add-mod'}
use native.Mathlib.Numerals.{add-one}
use lib.Bits.{bit_and, bit_xor, differ}
use lib.ListN.{length, get_or}
use lib.Seq.{ext_get_or}
use borrow.Author.Tests.{lt-ltb, le-ltb}
use Rattle.lists.specs.Lists.{iterate}
use Rattle.lists.proofs.BoolLaws.{by-lt, by-eq}
use Rattle.lists.proofs.IterateLaws.{iterate-suc, iterate-add, iterate-keeps, iterate_fixed}
use Rattle.neighbours.specs.Crop.{Binary}
use Rattle.neighbours.specs.Grid.{position}
use Rattle.neighbours.specs.Packed.{bit_at}
use Rattle.neighbours.specs.Words.{word_bits}
use Rattle.neighbours.proofs.BitLaws.{differ-le}
use Rattle.neighbours.proofs.PackedLaws.{Units, row_units-pos, row_units-lt, length-packed, packed_length-is}
use Rattle.neighbours.proofs.PackedLaws.{get_or-packed}
use Rattle.neighbours.proofs.PackedLaws.{packed_unit-is}
use Rattle.neighbours.proofs.PackedLaws.{padded_pixel-inside, padded_pixel-behind, unpacked-binary}
use Rattle.neighbours.proofs.PositionLaws.{position-lt}
use Rattle.neighbours.proofs.PlaceLaws.{place_value-inside}
use Rattle.neighbours.proofs.WordLaws.{bit-and, bit-xor, filled_value-inside}
use Rattle.model.specs.Steps.{erode_once}
use Rattle.model.specs.Operations.{least_iterations}
use Rattle.model.specs.Words.{row_words, words_length, packed_words, unpacked_words}
use Rattle.theorems.proofs.StepLaws.{erode_once-le}
use Rattle.theorems.proofs.OperationLaws.{erode_once-binary, least_iterations-is, iterate-erode_once-le}
use Rattle.words.specs.Frame.{stride, turned, FrameOf, keep_at, Framed, Stepped, Iterated, Stored, Ran}
use Rattle.words.specs.Frame.{Small, Loaded}
use Rattle.words.specs.declared.Frame.{Frame}
use Rattle.words.proofs.TurnedLaws.{get_or-turned, turned-binary}
use Rattle.words.proofs.FramedLaws.{mask_at, framed-loaded}

-- ---- how many iterations change anything

module _ (width height connectivity sides : ℕ) (image : List ℕ) (binary : Binary width height image) where
  -- an iteration
  abbrev f : List ℕ → List ℕ
  f = erode_once width height connectivity sides

  run-binary : (n : ℕ) → Binary width height (iterate f n image)
  run-binary n = iterate-keeps (Binary width height) f
      (erode_once-binary width height connectivity sides) n image binary

  -- a run that comes back has not moved
  rests : (j n : ℕ) → j < n → iterate f j image ≡ iterate f n image →
      iterate f (suc j) image ≡ iterate f j image
  rests j n l e =
      ext_get_or 0 (iterate f (suc j) image) (iterate f j image)
      ((run-binary (suc j)).pixels ∙ sym (run-binary j).pixels)
      (λ i h.
      let d : suc j + (n - suc j) ≡ n = omega arith in
      let later : get_or (iterate f n image) i 0 ≤ get_or (iterate f (suc j) image) i 0 =
      rw (rw d at (iterate-add f (suc j) (n - suc j) image))
      (iterate-erode_once-le width height connectivity sides (n - suc j) (iterate f (suc j) image) i) in
      let once : get_or (iterate f (suc j) image) i 0 ≤ get_or (iterate f j image) i 0 =
      rw (iterate-suc f j image) (erode_once-le width height connectivity sides (iterate f j image) i) in
      let back = ap (λ (xs : List ℕ). get_or xs i 0) e in
      omega arith)

  -- the count of iterations that each changed something, and led where n lead
  count-is : (n k : ℕ) → k ≤ n → iterate f k image ≡ iterate f n image →
      ((j : ℕ) → j < k → iterate f (suc j) image ≡ iterate f j image → ⊥) →
      k ≡ least_iterations f n image
  count-is n k l e moved =
      sym
      (least_iterations-is f n image k l e (λ j h q. moved j h (rests j n (omega arith) q)))

-- ---- the loop

-- k iterations are done, each of which changed something
abbrev pub Progress : Frame → ℕ → List ℕ → List ℕ → Type 0
Progress frame k entries entries' =
    (width height connectivity sides flip : ℕ) (image : List ℕ) →
    FrameOf width height connectivity sides flip frame → length image ≡ width * height →
    ((i : ℕ) → get_or image i 0 ≤ 1) → Framed width height sides image entries →
    Framed width height sides (iterate (erode_once width height connectivity sides) k image) entries'
    × ((j : ℕ) → j < k →
    iterate (erode_once width height connectivity sides) (suc j) image
    ≡ iterate (erode_once width height connectivity sides) j image → ⊥)

pub progress-none : (frame : Frame) (entries : List ℕ) → Progress frame 0 entries entries
unfolding iterate
progress-none frame entries width height connectivity sides flip image of size bits framed =
    (framed, λ j l. absurd (omega arith))

module _ {frame : Frame} {k moved : ℕ} {entries entries' entries'' : List ℕ}
    (p : Progress frame k entries entries')
    (s : Stepped frame entries' entries'' moved) where
  -- the next iteration, of the image that the iterations so far gave
  abbrev next : (width height connectivity sides flip : ℕ) (image : List ℕ) →
      FrameOf width height connectivity sides flip frame → length image ≡ width * height →
      ((i : ℕ) → get_or image i 0 ≤ 1) → Framed width height sides image entries →
      Framed width height sides
      (erode_once width height connectivity sides
      (iterate (erode_once width height connectivity sides) k image)) entries''
      × ((moved ≡ 0)
      ↔ (erode_once width height connectivity sides (iterate (erode_once width height connectivity sides) k image)
      ≡ iterate (erode_once width height connectivity sides) k image))
  next width height connectivity sides flip image of size bits framed =
      let binary : Binary width height image = record { pixels = size; bits = bits } in
      let now = run-binary width height connectivity sides image binary k in
      s width height connectivity sides flip (iterate (erode_once width height connectivity sides) k image) of
      now.pixels now.bits (p width height connectivity sides flip image of size bits framed).0

  -- one that changed something
  pub progress-more : (moved ≡ 0 → ⊥) → Progress frame (k + 1) entries entries''
  progress-more some width height connectivity sides flip image of size bits framed =
      let g = erode_once width height connectivity sides in
      let step = next width height connectivity sides flip image of size bits framed in
      let before = p width height connectivity sides flip image of size bits framed in
      rw (add-one k) (
        rw (iterate-suc g k image) step.0,
        λ j l e.
            by-eq j k (λ q. some (step.1.1 (sym (iterate-suc g k image) ∙ rw q at e)))
            (λ d. before.1 j (omega arith) e),
      )

  -- one that changed nothing
  pub progress-stop : (n : ℕ) → k < n → moved ≡ 0 → Iterated frame n entries entries'' k
  progress-stop n l none width height connectivity sides flip image of size bits framed =
      let g = erode_once width height connectivity sides in
      let binary : Binary width height image = record { pixels = size; bits = bits } in
      let step = next width height connectivity sides flip image of size bits framed in
      let before = p width height connectivity sides flip image of size bits framed in
      let rest : g (iterate g k image) ≡ iterate g k image = step.1.0 none in
      let d : k + (n - k) ≡ n = omega arith in
      let all : iterate g n image ≡ iterate g k image =
      rw d at (iterate-add g k (n - k) image ∙ iterate_fixed g (n - k) (iterate g k image) rest) in (
        rw (all, ← rest) step.0,
        count-is width height connectivity sides image binary n k (omega arith) (sym all) before.1,
      )

-- as many as asked
pub progress-end : {frame : Frame} {k : ℕ} {entries entries' : List ℕ} (n : ℕ) →
    Progress frame k entries entries' →
    k ≡ n → Iterated frame n entries entries' k
progress-end {frame} {k} n p e width height connectivity sides flip image of size bits framed =
    let g = erode_once width height connectivity sides in
    let binary : Binary width height image = record { pixels = size; bits = bits } in
    let done = p width height connectivity sides flip image of size bits framed in
    let same : iterate g k image ≡ iterate g n image = ap (λ (m : ℕ). iterate g m image) e in
    (rw (← same) done.0, count-is width height connectivity sides image binary n k (omega arith) same done.1)

-- ---- from rows to rows

module _ {width height connectivity sides flip : ℕ} {frame : Frame}
    (of : FrameOf width height connectivity sides flip frame) {image entries : List ℕ} where
  -- a word that is written back is that of the image
  stored-word : Binary width height image → Framed width height sides image entries → (k y : ℕ) →
      k < row_words width →
      y < height → (w : ℕ) → w < 2 ^ word_bits →
      w ≡ bit_and (bit_xor (get_or entries ((k + 1) * stride height + 1 + y) 0) frame.flip) (keep_at frame k) →
      get_or (packed_words width height (turned flip image)) (y * row_words width + k) 0 ≡ w
  stored-word binary framed k y lk ly w small is =
      get_or-packed word_bits width height (turned flip image) k y lk ly
      ∙ packed_unit-is word_bits width (turned flip image) (word_bits * k) y w small
      (λ j l.
      let x = word_bits * k + j in
      let entry = get_or entries ((k + 1) * stride height + 1 + y) 0 in
      let column : k < frame.columns = rw of.columns lk in
      let keep = (mask_at of k column).is_keep j l in
      let bits_of : bit_at word_bits w j ≡ min (differ (bit_at word_bits entry j) flip)
      (bit_at word_bits (keep_at frame k) j) =
      ap (λ (v : ℕ). bit_at word_bits v j) is
      ∙ bit-and _ (keep_at frame k) j
      ∙ ap (λ (v : ℕ). min v (bit_at word_bits (keep_at frame k) j))
      (bit-xor entry frame.flip j ∙ ap (differ (bit_at word_bits entry j)) (of.is_flip j l)) in
      by-lt x width
      (λ h.
      let at : (k + 1) * stride height + (y + 1) ≡ (k + 1) * stride height + 1 + y = omega arith in
      let x1 : word_bits * k + 1 + j ≡ x + 1 = omega arith in
      let there : position width x y < length image = rw binary.pixels (position-lt h ly) in
      let pixel : bit_at word_bits entry j ≡ get_or image (position width x y) 0 =
      (rw (at, x1) at (framed.inside k (y + 1) lk (omega arith) j l))
      ∙ filled_value-inside width height sides image (y + 1) (x + 1) (omega arith)
      ∙ place_value-inside width height sides image x y h ly in
      let one : bit_at word_bits (keep_at frame k) j ≡ 1 = keep ∙ rw (lt-ltb x width h) in
      let most = differ-le (get_or image (position width x y) 0) flip (binary.bits _) of.turns in
      padded_pixel-inside width (turned flip image) x y h
      ∙ get_or-turned flip image (position width x y) there
      ∙ sym (bits_of ∙ rw (one, pixel) (omega arith)))
      (λ h.
      let none : bit_at word_bits (keep_at frame k) j ≡ 0 = keep ∙ rw (le-ltb x width h) in
      padded_pixel-behind width (turned flip image) x y h ∙ sym (bits_of ∙ rw none (omega arith))))

  -- the rows of a frame written back
  pub packed-stored : {words words' : List ℕ} → Binary width height image →
      Framed width height sides image entries →
      Stored frame entries words words' → length words ≡ words_length width height → Units word_bits words' →
      words' ≡ packed_words width height (turned flip image)
  packed-stored {words} {words'} binary framed stored size small =
      ext_get_or 0 words' (packed_words width height (turned flip image))
      (stored.size ∙ size ∙ sym (length-packed word_bits width height (turned flip image)))
      (λ i l.
      let m = row_words width in
      let pos : 0 < m = row_units-pos word_bits width (omega arith) of.valid.wide in
      let within : i < m * height = omega (arith, l, stored.size, size, packed_length-is word_bits width height) in
      let k = i % m in
      let y = i / m in
      let lk : i % m < m = mod-lt i pos in
      let ly : i / m < height = (div-lt_iff_lt-mul pos).1 (rw (mul_comm height m) within) in
      let at : i / m * m + i % m ≡ i = div-add-mod' i m in
      let there : i % m + i / m * m ≡ i = omega arith in
      let word = stored.each (i % m) (i / m) (rw of.columns lk) (rw of.rows ly) in
      sym
      (rw at at
      (stored-word binary framed (i % m) (i / m) lk ly (get_or words' i 0) (small i) (word_at i there word))))
    where
      word_at : (i : ℕ) → i % row_words width + i / row_words width * row_words width ≡ i →
          get_or words' (i % row_words width + i / row_words width * frame.columns) 0
          ≡ bit_and
          (bit_xor (get_or entries ((i % row_words width + 1) * stride frame.rows + 1 + i / row_words width) 0)
          frame.flip) (keep_at frame (i % row_words width)) →
          get_or words' i 0
          ≡ bit_and
          (bit_xor (get_or entries ((i % row_words width + 1) * stride height + 1 + i / row_words width) 0) frame.flip)
          (keep_at frame (i % row_words width))
      word_at i there word =
          ap (λ (j : ℕ). get_or words' j 0)
          (sym there ∙ ap (λ (n : ℕ). i % row_words width + i / row_words width * n) (sym of.columns))
          ∙ word
          ∙ ap
          (λ (n : ℕ). bit_and
          (bit_xor (get_or entries ((i % row_words width + 1) * stride n + 1 + i / row_words width) 0) frame.flip)
          (keep_at frame (i % row_words width)))
          of.rows

-- a run from rows to rows
pub ran-stored : {width height connectivity sides flip n count : ℕ} {frame : Frame}
    {words words' entries entries' : List ℕ} →
    FrameOf width height connectivity sides flip frame → Loaded frame words entries →
    Iterated frame n entries entries' count → Stored frame entries' words words' →
    length words ≡ words_length width height → Units word_bits words' →
    Ran width height connectivity sides flip n words words' count
ran-stored {width} {height} {connectivity} {sides} {flip} {n} {count} {frame} {words}
    of loaded iterated stored size small =
    let image = turned flip (unpacked_words width height words) in
    let binary = turned-binary width height flip (unpacked_words width height words)
    (unpacked-binary word_bits width height words) of.turns in
    let done = iterated width height connectivity sides flip image of binary.pixels binary.bits
    (framed-loaded of loaded) in
    record {
      rows = packed-stored of (run-binary width height connectivity sides image binary n) done.0 stored size small;
      counted = done.1;
    }

-- a crop's packed rows have as many words as its frame has in its columns
pub rows-length : {width height connectivity sides flip : ℕ} {frame : Frame} →
    FrameOf width height connectivity sides flip frame → frame.columns * frame.rows ≡ words_length width height
rows-length {width} {height} of = ap₂ ◌*◌ of.columns of.rows ∙ sym (packed_length-is word_bits width height)

-- the frame of a crop is small
pub small-frame : {width height connectivity sides flip : ℕ} {frame : Frame} →
    FrameOf width height connectivity sides flip frame → Small frame
small-frame {width} of =
    record {
      wide = rw of.columns (row_units-pos word_bits width (omega arith) of.valid.wide);
      narrow = omega (arith, of.columns, row_units-lt word_bits width (omega arith), of.valid.narrow);
      tall = rw of.rows of.valid.tall;
      low = rw of.rows of.valid.low;
    }
