-- Laws of the rows of packed images (`specs/Rows.antt`). Assumes nothing.
--   row-le, packable-row-le          each row ends inside the image, and inside one that can be packed
--   packed-rows, unpacked-rows       an image, packed or unpacked, is its rows, one behind the other
--   padding_set-rows, -whole         a padding bit is set where a row has one; none is where rows end with a unit
--   any-range_with_len               one of the numbers that a range counts passes
--   length-flat_map-packed_row       how many units packed rows have
--   tabulate-append                  a table in two parts
--   appended-tabulate-suc, -append   one value more of a table is written, and more of them
--   appended-flat_map-suc            one row more is written
--   appended-put_mid                 a part is copied in
use Prim.Native.Nat.{ℕ, zero, suc, ◌+◌, ◌-◌, ◌*◌, ◌≤◌, ◌<◌}
use mathlib.Core.Path.{◌≡◌, refl, ◌∙◌}
use mathlib.Core.Bool.{Bool, false}
use mathlib.Core.List.{List, [], ◌∷◌, ◌++◌, flat_map, append-nil, append_assoc}
use native.Mathlib.Omega.{arith}
use native.Mathlib.Nat.{add-zero, mul_comm, mul-le-mul_right, suc-mul}
use native.Mathlib.Numerals.{add-one}
use lib.ListN.{length}
use lib.Seq.{take_all}
use borrow.Rule.Slice.PartMut.{put_mid}
use Rattle.std.proofs.lemmas.Slice.{put_mid-paste}
use Rattle.std.specs.List.{list_any, range_with_len}
use Rattle.lists.specs.Lists.{range, count_from, tabulate, any}
use Rattle.lists.proofs.ListLaws.{length-count_from, length-tabulate, length-flat_map}
use Rattle.lists.proofs.ListLaws.{tabulate-zero, tabulate-suc, range-suc, flat_map-snoc, false-any-count_from}
use Rattle.neighbours.specs.Crop.{Appended}
use Rattle.neighbours.specs.Packed.{row_units, packed, unpacked, padding_set}
use Rattle.neighbours.proofs.AppendedLaws.{appended-append}
use Rattle.neighbours.proofs.PackedLaws.{packed-flat_map, unpacked-flat_map, padding_set-any}
use Rattle.packing.specs.Rows.{PackableRow, packed_row, row_unpacked, row_padding_set}

-- ---- sizes

-- each of n rows ends inside the image
pub row-le : (size n y : ℕ) → y < n → y * size + size ≤ size * n
row-le size n y l = rw (mul_comm size n, ← suc-mul) (mul-le-mul_right size l)

-- so does a row of an image that can be packed
pub packable-row-le : {width height y : ℕ} {image : List ℕ} → PackableRow width height image y →
    y * width + width ≤ length image
packable-row-le {width} {height} {y} row =
    omega (arith, row-le width height y row.row, row.packable.binary.pixels)

-- ---- an image row by row

module _ (unit width height : ℕ) where
  -- a packed image is its packed rows
  pub packed-rows : (image : List ℕ) → 1 ≤ unit → 1 ≤ width →
      packed unit width height image ≡ flat_map (packed_row unit width image) (range height)
  unfolding packed_row
  packed-rows image pos wide = packed-flat_map unit width height image pos wide

  -- an unpacked image is its unpacked rows
  pub unpacked-rows : (units : List ℕ) → 1 ≤ width →
      unpacked unit width height units ≡ flat_map (row_unpacked unit width units) (range height)
  unfolding row_unpacked
  unpacked-rows units wide = unpacked-flat_map unit width height units wide

  -- a padding bit is set where a row has one
  pub padding_set-rows : (units : List ℕ) →
      padding_set unit width height units ≡ any (row_padding_set unit width units) (range height)
  unfolding row_padding_set
  padding_set-rows units = padding_set-any unit width height units

  -- rows that end with a unit have no padding
  pub padding_set-whole : (units : List ℕ) → unit * row_units unit width ≡ width →
      padding_set unit width height units ≡ false
  unfolding row_padding_set any count_from
  padding_set-whole units whole =
      let none : unit * row_units unit width - width ≡ 0 = omega (arith, whole) in
      padding_set-rows units ∙ false-any-count_from _ 0 height (λ y a b. rw none refl)

-- one of the numbers that a range counts passes
pub any-range_with_len : (f : ℕ → Bool) (a n : ℕ) → list_any f (range_with_len a n) ≡ any f (count_from a n)
unfolding any count_from
any-range_with_len f a zero = refl
any-range_with_len f a (suc n) = rw (add-one, any-range_with_len f (suc a) n) refl

-- how many units n packed rows have
pub length-flat_map-packed_row : (unit width : ℕ) (image : List ℕ) (n : ℕ) →
    length (flat_map (packed_row unit width image) (range n)) ≡ n * row_units unit width
unfolding packed_row
length-flat_map-packed_row unit width image n =
    length-flat_map (packed_row unit width image) (row_units unit width)
    (λ y. length-tabulate (row_units unit width) _) (range n)
    ∙ rw (length-count_from, mul_comm (row_units unit width) n)

-- ---- a table in two parts

pub tabulate-append : (f : ℕ → ℕ) (n m : ℕ) →
    tabulate (n + m) f ≡ tabulate n f ++ tabulate m (λ k. f (n + k))
tabulate-append f n zero = rw (add-zero, tabulate-zero, append-nil) refl
tabulate-append f n (suc m) =
    let next : n + suc m ≡ suc (n + m) = omega arith in
    rw (next, tabulate-suc (n + m) f, tabulate-append f n m, tabulate-suc m, append_assoc) refl

-- ---- written to a buffer

module _ {buffer buffer' buffer'' : List ℕ} {at end end' : ℕ} where
  -- one value more of a table
  pub appended-tabulate-suc : (f : ℕ → ℕ) (n : ℕ) → Appended buffer at (tabulate n f) buffer' end →
      end ≤ length buffer →
      Appended buffer' end (f n ∷ []) buffer'' end' → Appended buffer at (tabulate (n + 1) f) buffer'' end'
  appended-tabulate-suc f n a room b = rw (add-one, tabulate-suc) (appended-append a room b)

  -- more of them
  pub appended-tabulate-append : (f : ℕ → ℕ) (n m : ℕ) → Appended buffer at (tabulate n f) buffer' end →
      end ≤ length buffer → Appended buffer' end (tabulate m (λ k. f (n + k))) buffer'' end' →
      Appended buffer at (tabulate (n + m) f) buffer'' end'
  appended-tabulate-append f n m a room b = rw (tabulate-append f n m) (appended-append a room b)

  -- one row more
  pub appended-flat_map-suc : (f : ℕ → List ℕ) (n : ℕ) → Appended buffer at (flat_map f (range n)) buffer' end →
      end ≤ length buffer → Appended buffer' end (f n) buffer'' end' →
      Appended buffer at (flat_map f (range (n + 1))) buffer'' end'
  appended-flat_map-suc f n a room b = rw (add-one, range-suc, flat_map-snoc) (appended-append a room b)

-- a part is copied in
pub appended-put_mid : (buffer xs ys : List ℕ) (at end : ℕ) → ys ≡ xs → end ≡ at + length xs → end ≤ length buffer →
    Appended buffer at xs (put_mid at (end - at) buffer ys) end
appended-put_mid buffer xs ys at end same count room =
    let whole : at + (end - at) ≡ end = omega arith in
    record {
      counted = count;
      written =
          put_mid-paste at (end - at) buffer ys xs (end - at) same refl (omega arith)
          ∙ rw (whole, take_all (end - at) xs (omega arith)) refl;
    }
