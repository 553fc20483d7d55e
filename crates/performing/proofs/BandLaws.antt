-- The scan of an image's band is that of the image.
--   band-inside     the band is inside the image, which is not large
--   band-part       the part of the image that is lent is the band
--   band-bad        a pixel that is neither 0 nor 1 is in the band, if there is one
--   band-in_room    a room for the image's frame is one for its band's
--   band-packable   the band can be packed into it
--   band-held       and then stands there
--   band-found      its contour, moved to it, is the image's, and its blank rows are all but those left out
-- Assumes nothing.
use Prim.Native.Nat.{ℕ, ◌+◌, ◌-◌, ◌*◌, ◌≤◌, ◌<◌}
use mathlib.Core.Path.{◌≡◌, refl, sym}
use mathlib.Core.List.{List}
use native.Mathlib.Omega.{arith}
use native.Mathlib.Nat.{zero-mul, suc-mul, mul_comm, mul-le-mul_left, mul-le-mul_right, add-mul}
use lib.ListN.{length, get_or, take, drop, get_or-eq_default}
use Rattle.lists.specs.Lists.{any}
use Rattle.lists.proofs.BoolLaws.{by-test, by-lt, bool_same, not-both}
use Rattle.lists.proofs.ListLaws.{get_or-slice, slice-take}
use Rattle.neighbours.specs.Limits.{max_pixels}
use Rattle.neighbours.specs.Crop.{ValidSize, Sized, Band, band_image, Extended, moved}
use Rattle.neighbours.specs.Contour.{contour}
use Rattle.neighbours.specs.BlankRows.{blank_row_count}
use Rattle.neighbours.proofs.PositionLaws.{size-le}
use Rattle.neighbours.proofs.BandLaws.{band-binary, band-contour, band-blank_rows}
use Rattle.model.specs.Refusals.{bad_pixel}
use Rattle.model.specs.Words.{row_words, words_length, packed_words, unpacked_words}
use Rattle.theorems.proofs.OperationLaws.{bad_pixel-none-iff}
use Rattle.packing.specs.Rows.{Packable}
use Rattle.words.specs.Frame.{stride}
use Rattle.words.specs.Room.{front_rows, InRoom, HeldRows}
use Rattle.words.proofs.RoomLaws.{rows_inside}
use Rattle.words.proofs.OperatedLaws.{unpacked-clean}
use Rattle.performing.specs.Inner.{Workable}
use Rattle.performing.proofs.OnWordsLaws.{held-front}

module _ {width height : ℕ} {image : List ℕ} {top end : ℕ} (band : Band width height image top end) where
  -- the band's size is a crop's
  band-valid : ValidSize width height → ValidSize width (end - top)
  band-valid valid =
      record {
        wide = valid.wide;
        narrow = valid.narrow;
        tall = omega (arith, band.ordered);
        low = omega (arith, band.within, valid.low);
      }

  -- the rows of the band end where the image's do, or before
  band-ends : end * width ≤ width * height
  band-ends = omega (arith, mul-le-mul_right width band.within, mul_comm width height)

  -- the band begins before it ends, and ends inside the image, which is not large
  pub band-inside : Sized width height image →
      (top * width ≤ end * width) × (end * width ≤ length image) × (end * width ≤ max_pixels)
  band-inside sized = (
    mul-le-mul_right width (omega (arith, band.ordered)),
    omega (arith, band-ends, sized.pixels),
    omega (arith, band-ends, size-le sized.valid),
  )

  -- the pixels above the band and those in it are all before its end
  band-size : top * width + width * (end - top) ≡ end * width
  band-size =
      let all : top + (end - top) ≡ end = omega (arith, band.ordered) in
      rw (mul_comm width (end - top), ← (add-mul top (end - top) width), all) refl

  -- pixels of 0 and 1 in the band, and background outside it
  band-bits : Sized width height image → ((i : ℕ) → get_or (band_image width top end image) i 0 ≤ 1) →
      (i : ℕ) → get_or image i 0 ≤ 1
  band-bits sized small i =
      by-lt i (top * width)
      (λ before.
      let some : 0 < top =
      by-lt 0 top (λ l. l) (λ l. omega (arith, mul-le-mul_right {m = top} {n = 0} width l, zero-mul width)) in
      omega (arith, band.above some i (omega (arith, suc-mul top width))))
      (λ from.
      by-lt i (end * width)
      (λ l. rw (get_or-slice (top * width) (end * width) i image from l) at (small (i - top * width)))
      (λ behind.
      by-lt end height
      (λ short.
      let last = mul-le-mul_right {m = end - 1} {n = end} width (omega arith) in
      omega (arith, band.below short i (omega (arith, last))))
      (λ all.
      let whole = mul-le-mul_right {m = height} {n = end} width all in
      let size : length image ≤ i = omega (arith, sized.pixels, mul_comm width height, whole) in
      omega (arith, get_or-eq_default image 0 {n = i} size))))

  -- the part of the image that is lent
  pub band-part : take (end * width - top * width) (drop (top * width) image) ≡ band_image width top end image
  band-part =
      let most = mul-le-mul_right {m = top} {n = end} width (omega (arith, band.ordered)) in
      let last : top * width + (end * width - top * width) ≡ end * width = omega (arith, most) in
      sym (rw last at (slice-take (top * width) (end * width - top * width) image))

  -- a pixel outside the band is background, so that a bad one is in it
  pub band-bad : Sized width height image → any bad_pixel (band_image width top end image) ≡ any bad_pixel image
  band-bad sized =
      let whole = bad_pixel-none-iff image in
      let part = bad_pixel-none-iff (band_image width top end image) in
      bool_same _ _
      (λ bad.
      by-test (any bad_pixel image) (λ e. e)
      (λ good.
      not-both bad (part.1 (band-binary band (record { pixels = sized.pixels; bits = whole.0 good })).bits)))
      (λ bad.
      by-test (any bad_pixel (band_image width top end image)) (λ e. e)
      (λ good. not-both bad (whole.1 (band-bits sized (part.0 good)))))

  -- a room for the image's frame is one for its band's
  band-in_room : {rows entries : List ℕ} → InRoom width height rows entries → InRoom width (end - top) rows entries
  band-in_room room =
      let less : stride (end - top) ≤ stride height = omega (arith, band.within) in
      record {
        valid = band-valid room.valid;
        room = omega (arith, room.room, mul-le-mul_left (row_words width + 2) less);
        few = room.few;
        size = room.size;
      }

  module _ {queue rows entries : List ℕ} (w : Workable width height image queue rows entries) where
    -- the band can be packed into the room
    pub band-packable : Packable width (end - top) (take (end * width - top * width) (drop (top * width) image))
        × (words_length width (end - top) ≤ length rows)
    band-packable = (
      record { valid = band-valid w.ready.valid; binary = rw band-part (band-binary band w.ready.binary) },
      rows_inside (band-in_room w.in_room),
    )

    -- and then stands there
    pub band-held : (rows' : List ℕ) →
        front_rows width (end - top) rows'
        ≡ packed_words width (end - top) (take (end * width - top * width) (drop (top * width) image)) →
        length rows' ≡ length rows → HeldRows width (end - top) rows' entries
    band-held rows' packed same =
        held-front (band-valid w.ready.valid) band-packable.0.binary rows' packed (band-in_room w.in_room) same

    -- what is found in it is what is found in the image
    pub band-found : (rows' : List ℕ) →
        front_rows width (end - top) rows'
        ≡ packed_words width (end - top) (take (end * width - top * width) (drop (top * width) image)) →
        {queue' : List ℕ} {len blank : ℕ} →
        let part = unpacked_words width (end - top) (front_rows width (end - top) rows') in
        Extended queue 0 (moved (top * width) (contour width (end - top) part)) queue' len →
        blank ≡ blank_row_count width (end - top) part →
        Extended queue 0 (contour width height image) queue' len
        × (blank + (height - (end - top)) ≡ blank_row_count width height image)
    band-found rows' packed listed counted =
        let binary = w.ready.binary in
        let same = unpacked-clean (band-valid w.ready.valid) (band-binary band binary) (rw band-part at packed) in (
          rw (same, ← (band-contour band binary)) at listed,
          rw (rw same at counted) (sym (band-blank_rows band binary)),
        )
