-- Laws of images with packed rows (`specs/Packed.antt`), for units of any number of bits. Assumes nothing.
--   Units, units-front, units-behind         each entry is a unit; of a list in front, of one behind
--   leading                                  the number that the first bits make
--   leading-zero .. leading-unit_of          of no bit, of one more; its bound; a unit's bits make the unit
--   unit_of-lt, bit_at-unit_of, unit_of-is   the unit that bits make: its bound, its bits, the only one with these bits
--   packed_unit-is                           the same of the unit that pixels make
--   row_units-is, -ge, -lt, -pos             a row's units: how many, they hold the row, and less than a unit more
--   packed_length-is                         an image's units are those of its rows
--   padded_pixel-inside, -behind, -le        a pixel of a row, 0 behind its end
--   packed_pixel-is, packed_pixel-le         a packed pixel is a bit of a unit; it is 0 or 1
--   leading-packed_unit                      the number that a unit's pixels make
--   length-packed, length-unpacked           how many units and how many pixels
--   packed-flat_map, unpacked-flat_map       an image, packed or unpacked, is its rows, one behind the other
--   padding_set-any                          a padding bit is set where a row has one
--   packed_lt, unpacked-le, -binary          each entry is a unit; each entry is a pixel
--   get_or-packed, get_or-unpacked           a unit of a packed image, and a pixel of an unpacked one
--   packed_pixel-packed                      the bit of a packed image is the pixel, 0 behind the row's end
--   unpacked-packed, padding_set-packed      an image comes back from its packed rows, whose padding is clear
--   padded_pixel-unpacked                    the pixel of an unpacked image is the bit, where no padding bit is set
--   packed-unpacked                          packed rows come back from their image, where no padding bit is set
use Prim.Native.Nat.{ℕ, zero, suc, ◌+◌, ◌-◌, ◌*◌, ◌/◌, ◌%◌, ◌^◌, ◌≤◌, ◌<◌, zero-le}
use mathlib.Core.Path.{◌≡◌, refl, sym, ap, ◌∙◌}
use mathlib.Core.Bool.{false}
use mathlib.Core.List.{List, [], ◌∷◌, ◌++◌, foldr, flat_map}
use native.Mathlib.Omega.{arith}
use native.Mathlib.Nat.{mod-lt, mul_comm, mul-zero, pow-suc, div-add-mod', div-lt_iff_lt-mul}
use native.Mathlib.Numerals.{add-one}
use lib.Arith.{digits_div, digits_mod, digits_lt}
use lib.Pow.{pow_pos, pow_mono}
use lib.Dec.{eqb}
use lib.ListN.{length, get_or, get_or-append, get_or-eq_default}
use lib.Seq.{get_or-append-add}
use borrow.Author.Tests.{lt-ltb, le-ltb, eqb-false}
use Rattle.lists.specs.Lists.{range, count_from, tabulate, any}
use Rattle.lists.proofs.BoolLaws.{by-lt, by-eq}
use Rattle.lists.proofs.ListLaws.{length-tabulate, get_or-tabulate, get_or-tabulate-out, tabulate-is, tabulate-same}
use Rattle.lists.proofs.ListLaws.{tabulate-zero, tabulate-suc, tabulate-flat_map}
use Rattle.lists.proofs.ListLaws.{any-count_from-false, false-any-count_from}
use Rattle.neighbours.specs.Crop.{Binary}
use Rattle.neighbours.specs.Grid.{column, row, position}
use Rattle.neighbours.specs.Packed.{unit_of, padded_pixel, row_units, packed_length, bit_at, packed_unit, packed_pixel}
use Rattle.neighbours.specs.Packed.{packed, unpacked, padding_set}
use Rattle.neighbours.proofs.BitLaws.{digit, digit-half, bits-same}

-- ---- lists of units

-- each entry is a unit
abbrev pub Units : ℕ → List ℕ → Type 0
Units unit xs = (k : ℕ) → get_or xs k 0 < 2 ^ unit

-- the entries of a list that stands in front, and of one that stands behind
pub units-front : (unit : ℕ) (xs ys : List ℕ) → Units unit (xs ++ ys) → Units unit xs
units-front unit xs ys small k =
    by-lt k (length xs) (λ l. rw (get_or-append xs ys 0 k l) at (small k))
    (λ l. rw (get_or-eq_default xs 0 l) (pow_pos unit))

pub units-behind : (unit : ℕ) (xs ys : List ℕ) → Units unit (xs ++ ys) → Units unit ys
units-behind unit xs ys small k = rw (get_or-append-add xs ys k 0) at (small (length xs + k))

-- ---- the number that the first bits make

-- the number that the first k bits make, the first of them in front
pub leading : (ℕ → ℕ) → ℕ → ℕ
leading bits zero = 0
leading bits (suc k) = leading bits k * 2 + bits k

-- nothing, and one bit more
pub leading-zero : (bits : ℕ → ℕ) → leading bits 0 ≡ 0
unfolding leading
leading-zero bits = refl

pub leading-suc : (bits : ℕ → ℕ) (k : ℕ) → leading bits (k + 1) ≡ leading bits k * 2 + bits k
unfolding leading
leading-suc bits k = ap (leading bits) (add-one k)

-- it has k bits
pub leading_lt : (bits : ℕ → ℕ) → ((k : ℕ) → bits k ≤ 1) → (k : ℕ) → leading bits k < 2 ^ k
unfolding leading
leading_lt bits small zero = omega arith
leading_lt bits small (suc k) = omega (arith, leading_lt bits small k, small k, pow-suc 2 k)

-- a unit has room for one bit more
pub leading-suc-lt : (bits : ℕ → ℕ) → ((k : ℕ) → bits k ≤ 1) → (unit k : ℕ) → k < unit →
    leading bits k * 2 + bits k < 2 ^ unit
leading-suc-lt bits small unit k l =
    let most : 2 ^ suc k ≤ 2 ^ unit = pow_mono {i = suc k} {j = unit} (omega arith) in
    omega (arith, leading_lt bits small k, small k, pow-suc 2 k, most)

-- each of them comes back as its digit
digit-leading : (bits : ℕ → ℕ) → ((k : ℕ) → bits k ≤ 1) → (n j : ℕ) → j < n →
    digit (leading bits n) (n - 1 - j) ≡ bits j
unfolding leading
digit-leading bits small zero j l = absurd (omega arith)
digit-leading bits small (suc n) j l =
    by-eq j n
    (λ e. let last : suc n - 1 - n ≡ 0 = omega arith in rw (e, last) (omega (arith, small n)))
    (λ d.
    let next : suc n - 1 - j ≡ suc (n - 1 - j) = omega arith in
    let half : (leading bits n * 2 + bits n) / 2 ≡ leading bits n = omega (arith, small n) in
    let above = digit-leading bits small n j (omega arith) in
    rw next (sym (digit-half (leading bits n * 2 + bits n) (n - 1 - j)) ∙ rw half above))

-- ---- one unit

-- the sum of the values of f below n
total : ℕ → (ℕ → ℕ) → ℕ
total n f = foldr ◌+◌ 0 (tabulate n f)

sum-snoc : (xs : List ℕ) (x : ℕ) → foldr ◌+◌ 0 (xs ++ x ∷ []) ≡ foldr ◌+◌ 0 xs + x
sum-snoc [] x = omega arith
sum-snoc (y ∷ xs) x = rw (sum-snoc xs x) (omega arith)

total-suc : (n : ℕ) (f : ℕ → ℕ) → total (suc n) f ≡ total n f + f n
unfolding total
total-suc n f = rw (tabulate-suc n f) (sum-snoc (tabulate n f) (f n))

total-double : (n : ℕ) (f g : ℕ → ℕ) → ((k : ℕ) → k < n → g k ≡ f k * 2) →
    total n g ≡ total n f * 2
unfolding total
total-double zero f g twice = rw (tabulate-zero f, tabulate-zero g) refl
total-double (suc n) f g twice =
    rw (total-suc n f, total-suc n g)
    (omega (arith, total-double n f g (λ k l. twice k (omega arith)), twice n (omega arith)))

-- as many bits as a unit has make the unit
pub leading-unit_of : (unit : ℕ) (bits : ℕ → ℕ) → leading bits unit ≡ unit_of unit bits
unfolding leading unit_of total
leading-unit_of zero bits = rw (tabulate-zero (λ k. bits k * 2 ^ (0 - 1 - k))) refl
leading-unit_of (suc n) bits =
    let f : ℕ → ℕ = λ k. bits k * 2 ^ (n - 1 - k) in
    let g : ℕ → ℕ = λ k. bits k * 2 ^ (suc n - 1 - k) in
    let twice : (k : ℕ) → k < n → g k ≡ f k * 2 = λ k l.
    let next : suc n - 1 - k ≡ suc (n - 1 - k) = omega arith in
    rw (next, pow-suc 2 (n - 1 - k)) (omega arith) in
    let last : suc n - 1 - n ≡ 0 = omega arith in
    let once : g n ≡ bits n = rw last (omega arith) in
    rw (leading-unit_of n bits) (sym (total-suc n g ∙ rw (total-double n f g twice, once) refl))

module _ (unit : ℕ) where
  -- it is a unit
  pub unit_of-lt : (bits : ℕ → ℕ) → ((k : ℕ) → bits k ≤ 1) → unit_of unit bits < 2 ^ unit
  unit_of-lt bits small = rw (← (leading-unit_of unit bits)) (leading_lt bits small unit)

  -- each bit comes back from the unit
  pub bit_at-unit_of : (bits : ℕ → ℕ) → ((k : ℕ) → bits k ≤ 1) → (k : ℕ) → k < unit →
      bit_at unit (unit_of unit bits) k ≡ bits k
  bit_at-unit_of bits small k l = rw (← (leading-unit_of unit bits)) (digit-leading bits small unit k l)

  -- the unit with these bits is what they make
  pub unit_of-is : (bits : ℕ → ℕ) (n : ℕ) → n < 2 ^ unit →
      ((k : ℕ) → k < unit → bits k ≡ bit_at unit n k) → unit_of unit bits ≡ n
  unfolding unit_of
  unit_of-is bits n l same =
      let small : (k : ℕ) → bit_at unit n k ≤ 1 = λ k. omega arith in
      ap (foldr ◌+◌ 0) (tabulate-same unit _ _ (λ k lt. ap (λ (b : ℕ). b * 2 ^ (unit - 1 - k)) (same k lt)))
      ∙ bits-same unit (unit_of unit (bit_at unit n)) n (unit_of-lt (bit_at unit n) small) l
      (bit_at-unit_of (bit_at unit n) small)

-- ---- one row

-- a column inside the row has its pixel
pub padded_pixel-inside : (width : ℕ) (image : List ℕ) (x y : ℕ) → x < width →
    padded_pixel width image x y ≡ get_or image (position width x y) 0
unfolding padded_pixel
padded_pixel-inside width image x y l = rw (lt-ltb x width l)

-- a column behind the row's end has 0
pub padded_pixel-behind : (width : ℕ) (image : List ℕ) (x y : ℕ) → width ≤ x →
    padded_pixel width image x y ≡ 0
unfolding padded_pixel
padded_pixel-behind width image x y l = rw (le-ltb x width l)

-- either is a bit
pub padded_pixel-le : (width : ℕ) (image : List ℕ) → ((i : ℕ) → get_or image i 0 ≤ 1) → (x y : ℕ) →
    padded_pixel width image x y ≤ 1
padded_pixel-le width image bits x y =
    by-lt x width (λ l. rw (padded_pixel-inside width image x y l) (bits (position width x y)))
    (λ l. rw (padded_pixel-behind width image x y l) zero-le)

module _ (unit width : ℕ) where
  -- how many units a row has
  pub row_units-is : row_units unit width ≡ (width + (unit - 1)) / unit
  unfolding row_units
  row_units-is = refl

  -- they hold the row, and less than a unit more
  pub row_units-ge : 1 ≤ unit → width ≤ unit * row_units unit width
  unfolding row_units
  row_units-ge pos =
      let n = width + (unit - 1) in
      rw (mul_comm unit (n / unit)) (omega (arith, div-add-mod' n unit, mod-lt n pos))

  pub row_units-lt : 1 ≤ unit → unit * row_units unit width < width + unit
  unfolding row_units
  row_units-lt pos =
      let n = width + (unit - 1) in
      rw (mul_comm unit (n / unit)) (omega (arith, div-add-mod' n unit, mod-lt n pos))

  -- a row that is not empty has one
  pub row_units-pos : 1 ≤ unit → 1 ≤ width → 1 ≤ row_units unit width
  row_units-pos pos wide =
      by-eq (row_units unit width) 0
      (λ none. absurd (omega (arith, wide, rw (none, mul-zero unit) at (row_units-ge pos))))
      (λ some. omega arith)

  -- the bit in column x of row y stands in a unit of that row
  pub packed_pixel-is : (units : List ℕ) (x y : ℕ) →
      packed_pixel unit width units x y ≡ bit_at unit (get_or units (y * row_units unit width + x / unit) 0) (x % unit)
  unfolding packed_pixel
  packed_pixel-is units x y = refl

  -- it is a bit
  pub packed_pixel-le : (units : List ℕ) (x y : ℕ) → packed_pixel unit width units x y ≤ 1
  unfolding packed_pixel
  packed_pixel-le units x y = omega arith

  -- the pixels from column x on make the packed unit
  pub leading-packed_unit : (image : List ℕ) (x y : ℕ) →
      leading (λ k. padded_pixel width image (x + k) y) unit ≡ packed_unit unit width image x y
  unfolding packed_unit
  leading-packed_unit image x y = leading-unit_of unit (λ k. padded_pixel width image (x + k) y)

  -- the bits of a packed unit are the pixels
  bit_at-packed_unit : (image : List ℕ) → ((i : ℕ) → get_or image i 0 ≤ 1) → (x y k : ℕ) → k < unit →
      bit_at unit (packed_unit unit width image x y) k ≡ padded_pixel width image (x + k) y
  unfolding packed_unit
  bit_at-packed_unit image bits x y k l =
      bit_at-unit_of unit (λ j. padded_pixel width image (x + j) y)
      (λ j. padded_pixel-le width image bits (x + j) y) k l

  -- it is a unit
  packed_unit-lt : (image : List ℕ) → ((i : ℕ) → get_or image i 0 ≤ 1) → (x y : ℕ) →
      packed_unit unit width image x y < 2 ^ unit
  unfolding packed_unit
  packed_unit-lt image bits x y =
      unit_of-lt unit (λ j. padded_pixel width image (x + j) y) (λ j. padded_pixel-le width image bits (x + j) y)

  -- the unit with these bits is the packed unit
  pub packed_unit-is : (image : List ℕ) (x y n : ℕ) → n < 2 ^ unit →
      ((k : ℕ) → k < unit → padded_pixel width image (x + k) y ≡ bit_at unit n k) →
      packed_unit unit width image x y ≡ n
  unfolding packed_unit
  packed_unit-is image x y n l same = unit_of-is unit (λ k. padded_pixel width image (x + k) y) n l same

-- ---- a whole image

module _ (unit width height : ℕ) where
  -- a packed image has the units of its rows
  pub packed_length-is : packed_length unit width height ≡ row_units unit width * height
  unfolding packed_length
  packed_length-is = refl

  pub length-packed : (image : List ℕ) → length (packed unit width height image) ≡ packed_length unit width height
  unfolding packed
  length-packed image = length-tabulate (packed_length unit width height) _

  -- an unpacked image has as many pixels as the crop
  pub length-unpacked : (units : List ℕ) → length (unpacked unit width height units) ≡ width * height
  unfolding unpacked
  length-unpacked units = length-tabulate (width * height) _

  -- a packed image is its packed rows
  pub packed-flat_map : (image : List ℕ) → 1 ≤ unit → 1 ≤ width →
      packed unit width height image
      ≡ flat_map (λ y. tabulate (row_units unit width) (λ k. packed_unit unit width image (unit * k) y)) (range height)
  unfolding packed packed_length
  packed-flat_map image pos wide =
      let some : 0 < row_units unit width = row_units-pos unit width pos wide in
      tabulate-flat_map (row_units unit width) height (λ k y. packed_unit unit width image (unit * k) y) some

  -- an unpacked image is its unpacked rows
  pub unpacked-flat_map : (units : List ℕ) → 1 ≤ width →
      unpacked unit width height units
      ≡ flat_map (λ y. tabulate width (λ x. packed_pixel unit width units x y)) (range height)
  unfolding unpacked
  unpacked-flat_map units wide = tabulate-flat_map width height (packed_pixel unit width units) wide

  -- a padding bit is set where a row has one
  pub padding_set-any : (units : List ℕ) →
      padding_set unit width height units
      ≡ any
      (λ y.
      any (λ x. eqb (packed_pixel unit width units x y) 1) (count_from width (unit * row_units unit width - width)))
      (range height)
  unfolding padding_set
  padding_set-any units = refl

  -- each entry of an unpacked image is a pixel
  pub unpacked-le : (units : List ℕ) (i : ℕ) → get_or (unpacked unit width height units) i 0 ≤ 1
  unfolding unpacked
  unpacked-le units i =
      by-lt i (width * height)
      (λ l. rw (get_or-tabulate (width * height) _ i l)
      (packed_pixel-le unit width units (column width i) (row width i)))
      (λ l. rw (get_or-tabulate-out (width * height) _ i l) zero-le)

  -- an unpacked image has as many pixels as the crop, each 0 or 1
  pub unpacked-binary : (units : List ℕ) → Binary width height (unpacked unit width height units)
  unpacked-binary units = record { pixels = length-unpacked units; bits = unpacked-le units }

  -- the pixel in column x of row y of an unpacked image is the bit there
  pub get_or-unpacked : (units : List ℕ) (x y : ℕ) → x < width → y < height →
      get_or (unpacked unit width height units) (position width x y) 0 ≡ packed_pixel unit width units x y
  unfolding unpacked
  get_or-unpacked units x y lx ly =
      let inside : position width x y < width * height = rw (mul_comm width height) (digits_lt ly lx) in
      get_or-tabulate (width * height) _ (position width x y) inside ∙ rw (digits_mod y lx, digits_div y lx)

  -- each entry of a packed image is a unit
  pub packed_lt : (image : List ℕ) → ((i : ℕ) → get_or image i 0 ≤ 1) →
      Units unit (packed unit width height image)
  unfolding packed
  packed_lt image bits k =
      by-lt k (packed_length unit width height)
      (λ l. rw (get_or-tabulate (packed_length unit width height) _ k l)
      (packed_unit-lt unit width image bits (unit * (k % row_units unit width)) (k / row_units unit width)))
      (λ l. rw (get_or-tabulate-out (packed_length unit width height) _ k l) (pow_pos unit))

  -- unit k of row y of a packed image
  pub get_or-packed : (image : List ℕ) (k y : ℕ) → k < row_units unit width → y < height →
      get_or (packed unit width height image) (y * row_units unit width + k) 0 ≡ packed_unit unit width image
      (unit * k) y
  unfolding packed packed_length
  get_or-packed image k y lk ly =
      let inside : y * row_units unit width + k < row_units unit width * height =
      rw (mul_comm (row_units unit width) height) (digits_lt ly lk) in
      get_or-tabulate (packed_length unit width height) _ (y * row_units unit width + k) inside
      ∙ rw (digits_mod y lk, digits_div y lk)

  -- the bit in column x of row y of a packed image is the pixel there, 0 behind the row's end
  pub packed_pixel-packed : (image : List ℕ) → 1 ≤ unit → ((i : ℕ) → get_or image i 0 ≤ 1) →
      (x y : ℕ) → x < unit * row_units unit width → y < height →
      packed_pixel unit width (packed unit width height image) x y ≡ padded_pixel width image x y
  unfolding packed_pixel
  packed_pixel-packed image pos bits x y lx ly =
      let whole : unit * (x / unit) + x % unit ≡ x = rw (mul_comm unit (x / unit)) (div-add-mod' x unit) in
      let within : x / unit < row_units unit width =
      (div-lt_iff_lt-mul pos).1 (rw (mul_comm (row_units unit width) unit) lx) in
      rw (get_or-packed image (x / unit) y within ly)
      (bit_at-packed_unit unit width image bits (unit * (x / unit)) y (x % unit) (mod-lt x pos) ∙ rw whole)

  -- an image comes back from its packed rows
  pub unpacked-packed : (image : List ℕ) → 1 ≤ unit → 1 ≤ width → length image ≡ width * height →
      ((i : ℕ) → get_or image i 0 ≤ 1) → unpacked unit width height (packed unit width height image) ≡ image
  unfolding unpacked
  unpacked-packed image pos wide size bits =
      tabulate-is (width * height) _ image size
      (λ i l.
      let left : column width i < width = mod-lt i wide in
      let above : row width i < height = (div-lt_iff_lt-mul wide).1 (rw mul_comm l) in
      let held : column width i < unit * row_units unit width = omega (arith, row_units-ge unit width pos, left) in
      packed_pixel-packed image pos bits (column width i) (row width i) held above
      ∙ padded_pixel-inside width image (column width i) (row width i) left
      ∙ ap (λ (j : ℕ). get_or image j 0) (div-add-mod' i width))

  -- a packed image has no padding bit set
  pub padding_set-packed : (image : List ℕ) → 1 ≤ unit → ((i : ℕ) → get_or image i 0 ≤ 1) →
      padding_set unit width height (packed unit width height image) ≡ false
  unfolding padding_set
  padding_set-packed image pos bits =
      false-any-count_from _ 0 height
      (λ y _ ly. false-any-count_from _ width (unit * row_units unit width - width)
      (λ x l lx.
      let clear : packed_pixel unit width (packed unit width height image) x y ≡ 0 =
      packed_pixel-packed image pos bits x y (omega arith) (omega arith) ∙ padded_pixel-behind width image x y l in
      rw clear))

  -- the pixel in column x of row y of an unpacked image is the bit there, where no padding bit is set
  pub padded_pixel-unpacked : (units : List ℕ) → padding_set unit width height units ≡ false → (x y : ℕ) →
      x < unit * row_units unit width → y < height →
      padded_pixel width (unpacked unit width height units) x y ≡ packed_pixel unit width units x y
  unfolding padding_set
  padded_pixel-unpacked units clear x y lx ly =
      by-lt x width
      (λ l. padded_pixel-inside width (unpacked unit width height units) x y l ∙ get_or-unpacked units x y l ly)
      (λ l.
      let row-clear = any-count_from-false _ 0 height clear y zero-le (omega arith) in
      let not_set : eqb (packed_pixel unit width units x y) 1 ≡ false =
      any-count_from-false _ width (unit * row_units unit width - width) row-clear x l (omega arith) in
      padded_pixel-behind width (unpacked unit width height units) x y l
      ∙ omega (arith, packed_pixel-le unit width units x y, eqb-false (packed_pixel unit width units x y) 1 not_set))

  -- packed rows come back from their image, where no padding bit is set
  pub packed-unpacked : (units : List ℕ) → 1 ≤ unit → 1 ≤ width →
      length units ≡ packed_length unit width height → Units unit units →
      padding_set unit width height units ≡ false →
      packed unit width height (unpacked unit width height units) ≡ units
  unfolding packed packed_length packed_pixel
  packed-unpacked units pos wide size small clear =
      tabulate-is (packed_length unit width height) _ units size
      (λ k l.
      let some : 0 < row_units unit width = row_units-pos unit width pos wide in
      let b = k % row_units unit width in
      let y = k / row_units unit width in
      let lb : b < row_units unit width = mod-lt k some in
      let ly : y < height = (div-lt_iff_lt-mul some).1 (rw mul_comm l) in
      packed_unit-is unit width (unpacked unit width height units) (unit * b) y (get_or units k 0) (small k)
      (λ j lj.
      let turned : unit * b + j ≡ b * unit + j = rw (mul_comm unit b) refl in
      let held : unit * b + j < unit * row_units unit width =
      rw (turned, mul_comm unit (row_units unit width)) (digits_lt lb lj) in
      padded_pixel-unpacked units clear (unit * b + j) y held ly
      ∙ rw (turned, digits_div b lj, digits_mod b lj, div-add-mod' k (row_units unit width))))
