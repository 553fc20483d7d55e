-- Erosion and dilation of packed rows: document 02, Point 2. Definitions only; what is claimed of them stands in
-- `Claims.antt`.
--
-- The rows of an image stand in words of 64 bits, each row starting a word, the first pixel in the top bit. The unused
-- bits of a row's last word are 0.
--   row_words, words_length              how many words a row has, and an image
--   packed_words, unpacked_words         an image as packed rows, and back
--   unused_set, UnusedBit, UnusedClear   an unused bit is set; that there is one, or none
--   operate_words                        an operation on packed rows: its three numbers, and the rows as they are left
--   pack_words, unpack_words             from an image in bytes to packed rows, and back, into lent buffers
use Rattle.std.specs.Prelude.{ℕ, ◌*◌, ◌≤◌, ◌<◌, ◌≡◌, Bool, List, [], ◌∷◌, ◌++◌}
use Rattle.std.proofs.Math.Option.{Option, none, some}
use Rattle.lists.specs.Lists.{occurrences}
use Rattle.neighbours.specs.Limits.{max_side}
use Rattle.neighbours.specs.Words.{word_bits}
use Rattle.neighbours.specs.Packed.{row_units, packed_length, packed_pixel, packed, unpacked, padding_set}
use Rattle.model.specs.Operations.{apply, changed, used}
use Rattle.model.specs.Refusals.{number, refuse_if, first_refusal, wrong_length, size_check, length_check}
use Rattle.model.specs.Refusals.{pixel_check}
use Rattle.model.specs.Refusals.{step_checks}
use Rattle.model.specs.declared.Refusal.{Refusal}
use Rattle.model.specs.declared.Refusal.TheVariants.{BadLength, UnusedBitSet}
use Rattle.model.specs.declared.Step.{Step}

-- ---- packed rows

-- the words of a packed row, and of a packed image
abbrev pub row_words : ℕ → ℕ
row_words width = row_units word_bits width

abbrev pub words_length : ℕ → ℕ → ℕ
words_length width height = packed_length word_bits width height

-- an image as packed rows, and back
abbrev pub packed_words : ℕ → ℕ → List ℕ → List ℕ
packed_words width height image = packed word_bits width height image

abbrev pub unpacked_words : ℕ → ℕ → List ℕ → List ℕ
unpacked_words width height words = unpacked word_bits width height words

-- a bit behind the end of a row is set
abbrev pub unused_set : ℕ → ℕ → List ℕ → Bool
unused_set width height words = padding_set word_bits width height words

-- the same without a test: an unused bit that is set, and that there is none
pub record UnusedBit (width height : ℕ) (words : List ℕ) : Type 0 where
  pub x : ℕ
  pub y : ℕ
  pub behind : width ≤ x
  pub in_word : x < word_bits * row_words width
  pub inside : y < height
  pub set : packed_pixel word_bits width words x y ≡ 1

abbrev pub UnusedClear : ℕ → ℕ → List ℕ → Type 0
UnusedClear width height words =
    (x y : ℕ) → width ≤ x → x < word_bits * row_words width → y < height →
    packed_pixel word_bits width words x y ≡ 0

-- ---- refusals

-- 1 and 2 of packed rows, and 18 in place of 3 and 4
unfoldable pub words_checks : ℕ → ℕ → List ℕ → List (Option Refusal)
words_checks width height words =
    size_check max_side width height
    ∷ refuse_if (wrong_length (words_length width height) words) BadLength
    ∷ refuse_if (unused_set width height words) UnusedBitSet
    ∷ []

-- an operation: then the row "operation"
unfoldable pub words_refusal : ℕ → ℕ → Step → List ℕ → Option Refusal
words_refusal width height step words = first_refusal (words_checks width height words ++ step_checks width height step)

-- ---- an operation

-- what it gives: 01's number or 0, changed, used, the object pixels of the result, and the rows as they are left
pub record WordsAnswer : Type 0 where
  pub number : ℕ
  pub changed : ℕ
  pub used : ℕ
  pub area : ℕ
  pub words : List ℕ

module _ (width height : ℕ) (step : Step) (words : List ℕ) where
  -- a refusal keeps the rows, and its numbers are 0; else the rows are those of the image after the operation
  unfoldable pub operate_words_unless : Option Refusal → WordsAnswer
  operate_words_unless (some refusal) =
      record { number = number refusal; changed = 0; used = 0; area = 0; words = words }
  operate_words_unless none =
      let before = unpacked_words width height words in
      let after = apply width height step [] before in
      record {
        number = 0;
        changed = changed width height before after;
        used = used width height step [] before;
        area = occurrences 1 after;
        words = packed_words width height after;
      }

  -- erosion, erosion by sides and dilation have an entry point for packed rows
  unfoldable pub operate_words : WordsAnswer
  operate_words = operate_words_unless (words_refusal width height step words)

-- ---- packing and unpacking

-- what packing gives: 01's number or 0, the image and the rows as they are left; and unpacking, the other way
pub record Repacked : Type 0 where
  pub number : ℕ
  pub image : List ℕ
  pub words : List ℕ

module _ (width height : ℕ) (image words : List ℕ) where
  -- 1 and 2, for either buffer
  unfoldable pub repack_checks : List (Option Refusal)
  repack_checks =
      size_check max_side width height
      ∷ length_check (width * height) (image ∷ [])
      ∷ refuse_if (wrong_length (words_length width height) words) BadLength
      ∷ []

  -- packing: then 4, of the image
  unfoldable pub pack_refusal : Option Refusal
  pack_refusal = first_refusal (repack_checks ++ (pixel_check (image ∷ []) ∷ []))

  unfoldable pub pack_unless : Option Refusal → Repacked
  pack_unless (some refusal) = record { number = number refusal; image = image; words = words }
  pack_unless none = record { number = 0; image = image; words = packed_words width height image }

  unfoldable pub pack_words : Repacked
  pack_words = pack_unless pack_refusal

  -- unpacking: then 18, of the rows
  unfoldable pub unpack_refusal : Option Refusal
  unpack_refusal = first_refusal (repack_checks ++ (refuse_if (unused_set width height words) UnusedBitSet ∷ []))

  unfoldable pub unpack_words_unless : Option Refusal → Repacked
  unpack_words_unless (some refusal) = record { number = number refusal; image = image; words = words }
  unpack_words_unless none = record { number = 0; image = unpacked_words width height words; words = words }

  unfoldable pub unpack_words : Repacked
  unpack_words = unpack_words_unless unpack_refusal
