-- What is claimed of packed rows (`model/specs/Claims.antt`): document 02, Point 2. Assumes nothing.
--   packed-as-queue      the packed operation gives what the queue's gives
--   refused-as-queue     and is refused for the same number
--   unused-refused       18 exactly when an unused bit is set
--   packed-unpacks       an image packed and unpacked comes back
--   unpacked-packs       packed rows unpacked and packed come back
use Prim.Native.Nat.{ℕ, ◌-◌, ◌*◌, ◌≤◌, zero-le}
use mathlib.Core.Path.{◌≡◌, refl, sym, ap, ◌∙◌}
use mathlib.Core.Bool.{Bool, true, false, or-false}
use mathlib.Core.Logic.{◌↔◌}
use mathlib.Core.List.{List, [], ◌∷◌, ◌++◌}
use mathlib.Core.Option.{Option, none, some}
use native.Mathlib.Omega.{arith}
use lib.ListN.{length, get_or}
use borrow.Author.Tests.{eqb-true, eqb-false}
use Rattle.lists.specs.Lists.{any}
use Rattle.lists.proofs.BoolLaws.{by-test}
use Rattle.lists.proofs.ListLaws.{any-count_from-some, any-count_from-false, false-any-count_from}
use Rattle.neighbours.specs.Crop.{ValidSize, Binary}
use Rattle.neighbours.specs.Packed.{packed_pixel}
use Rattle.neighbours.specs.Words.{word_bits}
use Rattle.neighbours.proofs.PackedLaws.{packed_pixel-le, unpacked-binary, unpacked-packed, packed-unpacked}
use Rattle.neighbours.proofs.PackedLaws.{length-packed, padding_set-packed, padding_set-any}
use Rattle.model.specs.Operations.{apply}
use Rattle.model.specs.Refusals.{number, refuse_if, first_refusal, pixel_check, connectivity_check, step_checks}
use Rattle.model.specs.Refusals.{start_checks, mask_of, operation_buffers, operation_refusal}
use Rattle.model.specs.Calls.{reply_number, lent, call}
use Rattle.model.specs.Words.{row_words, words_length, packed_words, unpacked_words, unused_set, UnusedBit, UnusedClear}
use Rattle.model.specs.Words.{words_checks, words_refusal, WordsAnswer, operate_words_unless, operate_words}
use Rattle.model.specs.Words.{Repacked, repack_checks, pack_refusal, pack_unless, pack_words, unpack_refusal}
use Rattle.model.specs.Words.{unpack_words_unless, unpack_words}
use Rattle.model.specs.Claims.{PackedAsQueue, RefusedAsQueue, UnusedRefused, PackedUnpacks, UnpackedPacks}
use Rattle.model.specs.declared.Refusal.{Refusal}
use Rattle.model.specs.declared.Refusal.TheVariants.{BadConnectivity, BadBorderValue, SeedOutside, UnusedBitSet}
use Rattle.model.specs.declared.Step.{Step}
use Rattle.model.specs.declared.Step.TheVariants.{Erode, Dilate, Propagate, FloodFill, ClearBorder, ErodeBySides}
use Rattle.model.specs.declared.Start.TheVariants.{Scan}
use Rattle.theorems.proofs.OperationLaws.{bad_pixel-none-iff, apply-binary}
use Rattle.theorems.proofs.CheckLaws.{by-refusal, first_refusal-nil, first_refusal-one, first_refusal-none-cons}
use Rattle.theorems.proofs.CheckLaws.{first_refusal-append, first_refusal-append-some, first_refusal-none-left}
use Rattle.theorems.proofs.RefusalLaws.{number_of, number_of-zero, sides-iff, wrong_length-iff, refuse_if-none-iff}
use Rattle.theorems.proofs.RefusalLaws.{first_refusal-none-iff, first_refusal-append-iff, buffer_checks-iff}
use Rattle.theorems.proofs.CallLaws.{reply_number-operate, operation-done}

-- ---- unused bits

-- no unused bit is set exactly if the test says so
pub unused-clear-iff : (width height : ℕ) (rows : List ℕ) →
    (unused_set width height rows ≡ false) ↔ UnusedClear width height rows
unused-clear-iff width height rows = (
  λ e x y lx hx ly.
      let row = any-count_from-false _ 0 height (sym (padding_set-any word_bits width height rows) ∙ e) y zero-le
      (omega arith) in
      let clear = any-count_from-false _ width (word_bits * row_words width - width) row x lx (omega arith) in
      omega (
        arith,
        eqb-false (packed_pixel word_bits width rows x y) 1 clear,
        packed_pixel-le word_bits width rows x y,
      ),
  λ clear.
      padding_set-any word_bits width height rows
      ∙ false-any-count_from _ 0 height
      (λ y a ly. false-any-count_from _ width (word_bits * row_words width - width)
      (λ x lx hx. rw (clear x y lx (omega arith) (omega arith)) refl)),
)

-- a bit that is set is found
unused-bit-iff : (width height : ℕ) (rows : List ℕ) →
    (unused_set width height rows ≡ true) ↔ UnusedBit width height rows
unused-bit-iff width height rows = (
  λ e.
      let row = any-count_from-some _ 0 height (sym (padding_set-any word_bits width height rows) ∙ e) in
      let bit = any-count_from-some _ width (word_bits * row_words width - width) row.3 in
      record {
        x = bit.0;
        y = row.0;
        behind = bit.1;
        in_word = omega (arith, bit.1, bit.2);
        inside = omega (arith, row.2);
        set = eqb-true (packed_pixel word_bits width rows bit.0 row.0) 1 bit.3;
      },
  λ u.
      by-test (unused_set width height rows) (λ t. t)
      (λ t.
      let clear = (unused-clear-iff width height rows).0 t u.x u.y u.behind u.in_word u.inside in
      absurd (omega (arith, clear, u.set))),
)

-- ---- what a call on packed rows answers

module _ (width height : ℕ) (step : Step) (rows : List ℕ) where
  -- its number is that of the refusal
  words-number : (operate_words width height step rows).number ≡ number_of (words_refusal width height step rows)
  unfolding operate_words operate_words_unless
  words-number = go (words_refusal width height step rows)
    where
      go : (o : Option Refusal) → (operate_words_unless width height step rows o).number ≡ number_of o
      go none = refl
      go (some r) = refl

  -- rows of a crop's size, number of words and no unused bit pass
  rows_pass : ValidSize width height → length rows ≡ words_length width height →
      unused_set width height rows ≡ false →
      first_refusal (words_checks width height rows) ≡ none
  unfolding words_checks
  rows_pass valid size clear =
      (first_refusal-none-iff (words_checks width height rows)).1 (
        (refuse_if-none-iff _ _).1 ((sides-iff width height).1 valid),
        ((refuse_if-none-iff _ _).1 ((wrong_length-iff _ rows).1 size), ((refuse_if-none-iff _ _).1 clear, tt)),
      )

  -- then only the step is left to judge
  words-by-step : ValidSize width height → length rows ≡ words_length width height →
      unused_set width height rows ≡ false →
      words_refusal width height step rows ≡ first_refusal (step_checks width height step)
  unfolding words_refusal
  words-by-step valid size clear = first_refusal-append _ _ (rows_pass valid size clear)

  -- a crop whose rows pass has a valid size
  valid-passed : words_refusal width height step rows ≡ none → ValidSize width height
  unfolding words_refusal words_checks
  valid-passed e =
      (sides-iff width height).0
      (first_refusal-none-cons _ _ _ ((first_refusal-append-iff (words_checks width height rows) _).0 e).0).0

-- ---- as the queue

pub packed-as-queue : PackedAsQueue
unfolding operate_words operate_words_unless
packed-as-queue width height step rows queue image' queue' start answer r is ok m taken =
    let before = unpacked_words width height rows in
    let after = apply width height step [] before in
    let passed : words_refusal width height step rows ≡ none =
    number_of-zero _ (sym (words-number width height step rows) ∙ ap (λ (a : WordsAnswer). a.number) (sym is)
    ∙ ok) in
    let valid = valid-passed width height step rows passed in
    let done = operation-done m taken in
    let binary = apply-binary width height step [] before done.binary in
    let given = rw passed at is in
    let back : unpacked_words width height (packed_words width height after) ≡ after =
    unpacked-packed word_bits width height after (omega arith) valid.wide binary.pixels binary.bits in
    rw (given, done.pictured) (
      back,
      rw done.pictured at done.replied,
      refl,
      (unused-clear-iff width height (packed_words width height after)).0
          (padding_set-packed word_bits width height after (omega arith) binary.bits),
    )

-- ---- refusals

-- nothing behind a row of checks changes it
first_refusal-nil-behind : (checks : List (Option Refusal)) → first_refusal (checks ++ []) ≡ first_refusal checks
first_refusal-nil-behind checks =
    by-refusal (first_refusal checks) (λ e. first_refusal-append checks [] e ∙ first_refusal-nil ∙ sym e)
    (λ r e. first_refusal-append-some checks [] r e ∙ sym e)

pub refused-as-queue : RefusedAsQueue
unfolding operation_refusal start_checks mask_of call
refused-as-queue width height step rows queue image' queue' answer r bare is valid size clear room m =
    let image = unpacked_words width height rows in
    let binary = unpacked-binary word_bits width height rows in
    let checks = step_checks width height step in
    let packed = words-by-step width height step rows valid size ((unused-clear-iff width height rows).1 clear) in
    let buffers : first_refusal (operation_buffers width height image queue step []) ≡ none =
    rw bare
    ((buffer_checks-iff width height (image ∷ []) queue (image ∷ [])).1
    (record { valid = valid; sized = (binary.pixels, tt); room = room; bits = (binary.bits, tt) })) in
    let queued : operation_refusal width height image queue step [] Scan ≡ first_refusal checks =
    first_refusal-nil-behind _ ∙ first_refusal-append _ _ buffers in
    ap (λ (a : WordsAnswer). a.number) is ∙ words-number width height step rows
    ∙ ap number_of (packed ∙ sym queued)
    ∙ sym (reply_number-operate width height (lent image queue)
    (operation_refusal width height image queue step [] Scan) step [])
    ∙ ap reply_number (sym m.replied)

-- a check whose number is not 18
other : (t : Bool) (r : Refusal) (checks : List (Option Refusal)) → (number r ≡ 18 → ⊥) →
    (number_of (first_refusal checks) ≡ 18 → ⊥) → number_of (first_refusal (refuse_if t r ∷ checks)) ≡ 18 → ⊥
unfolding refuse_if first_refusal
other true r checks not rest = not
other false r checks not rest = rest

nothing : number_of (first_refusal []) ≡ 18 → ⊥
unfolding first_refusal
nothing e = omega arith

five : (t : Bool) (checks : List (Option Refusal)) → (number_of (first_refusal checks) ≡ 18 → ⊥) →
    number_of (first_refusal (refuse_if t BadConnectivity ∷ checks)) ≡ 18 → ⊥
five t checks = other t BadConnectivity checks (λ e. omega arith)

-- a step is not refused for an unused bit
step-number : (width height : ℕ) (step : Step) →
    number_of (first_refusal (step_checks width height step)) ≡ 18 → ⊥
unfolding step_checks connectivity_check
step-number width height (Erode connectivity border_value n) =
    five _ _ (other _ BadBorderValue [] (λ e. omega arith) nothing)
step-number width height (Dilate connectivity n) = five _ _ nothing
step-number width height (Propagate connectivity n) = five _ _ nothing
step-number width height (FloodFill connectivity x y) = five _ _ (other _ SeedOutside [] (λ e. omega arith) nothing)
step-number width height (ClearBorder connectivity) = five _ _ nothing
step-number width height (ErodeBySides connectivity sides n) =
    five _ _ (other _ BadBorderValue [] (λ e. omega arith) nothing)

-- rows with an unused bit set are refused for it
unused-refusal : (width height : ℕ) (step : Step) (rows : List ℕ) → ValidSize width height →
    length rows ≡ words_length width height → unused_set width height rows ≡ true →
    words_refusal width height step rows ≡ some UnusedBitSet
unfolding words_refusal words_checks refuse_if first_refusal
unused-refusal width height step rows valid size set =
    rw ((sides-iff width height).1 valid, (wrong_length-iff _ rows).1 size, set) refl

pub unused-refused : UnusedRefused
unused-refused width height step rows answer is valid size =
    let told = ap (λ (a : WordsAnswer). a.number) is ∙ words-number width height step rows in (
      λ e.
          (unused-bit-iff width height rows).0
          (by-test (unused_set width height rows) (λ t. t)
          (λ t.
          absurd
          (step-number width height step
          (ap number_of (sym (words-by-step width height step rows valid size t)) ∙ sym told ∙ e)))),
      λ u.
          told
          ∙ ap number_of (unused-refusal width height step rows valid size ((unused-bit-iff width height rows).1 u)),
    )

-- ---- packing and unpacking

-- an image of 0 and 1 passes, and one that passes is such
pixels-pass : (image : List ℕ) → ((i : ℕ) → get_or image i 0 ≤ 1) → pixel_check (image ∷ []) ≡ none
unfolding any
pixels-pass image bits = (refuse_if-none-iff _ _).1 (or-false _ ∙ (bad_pixel-none-iff image).1 bits)

pixels-good : (image : List ℕ) → first_refusal (pixel_check (image ∷ []) ∷ []) ≡ none → (i : ℕ) →
    get_or image i 0 ≤ 1
unfolding any
pixels-good image e =
    (bad_pixel-none-iff image).0 (sym (or-false _) ∙ (refuse_if-none-iff _ _).0 (sym (first_refusal-one _) ∙ e))

module _ (width height : ℕ) (image rows : List ℕ) where
  -- buffers that pass have the crop's size
  repack-valid : (behind : List (Option Refusal)) →
      first_refusal (repack_checks width height image rows ++ behind) ≡ none → ValidSize width height
  unfolding repack_checks
  repack-valid behind e =
      (sides-iff width height).0
      (first_refusal-none-cons _ _ _ (first_refusal-none-left (repack_checks width height image rows) behind e)).0

  -- buffers of the right lengths pass
  repack-pass : ValidSize width height → length image ≡ width * height →
      length rows ≡ words_length width height →
      first_refusal (repack_checks width height image rows) ≡ none
  unfolding repack_checks any
  repack-pass valid pixels size =
      (first_refusal-none-iff (repack_checks width height image rows)).1 (
        (refuse_if-none-iff _ _).1 ((sides-iff width height).1 valid),
        (
          (refuse_if-none-iff _ _).1 (or-false _ ∙ (wrong_length-iff _ image).1 pixels),
          ((refuse_if-none-iff _ _).1 ((wrong_length-iff _ rows).1 size), tt),
        ),
      )

  -- and buffers that pass have them
  repack-pixels : first_refusal (repack_checks width height image rows) ≡ none → length image ≡ width * height
  unfolding repack_checks any
  repack-pixels e =
      (wrong_length-iff _ image).0
      (sym (or-false _) ∙ (first_refusal-none-cons _ _ _ (first_refusal-none-cons _ _ _ e).1).0)

  repack-rows : first_refusal (repack_checks width height image rows) ≡ none →
      length rows ≡ words_length width height
  unfolding repack_checks
  repack-rows e =
      (wrong_length-iff _ rows).0
      (first_refusal-none-cons _ _ _ (first_refusal-none-cons _ _ _ (first_refusal-none-cons _ _ _ e).1).1).0

  -- a call that packs is not refused, and leaves the packed rows
  pack-accepted : {rows' : List ℕ} → record { number = 0; image = image; words = rows' }
      ≡ pack_words width height image rows →
      (pack_refusal width height image rows ≡ none) × (rows' ≡ packed_words width height image)
  unfolding pack_words pack_unless
  pack-accepted {rows'} e =
      let passed = number_of-zero (pack_refusal width height image rows)
      (sym (number-of (pack_refusal width height image rows)) ∙ ap (λ (a : Repacked). a.number) (sym e)) in
      (passed, ap (λ (a : Repacked). a.words) (rw passed at e))
    where
      number-of : (o : Option Refusal) → (pack_unless width height image rows o).number ≡ number_of o
      number-of none = refl
      number-of (some r) = refl

  -- and one that unpacks, the image
  unpack-accepted : {image' : List ℕ} →
      record { number = 0; image = image'; words = rows } ≡ unpack_words width height image rows →
      (unpack_refusal width height image rows ≡ none) × (image' ≡ unpacked_words width height rows)
  unfolding unpack_words unpack_words_unless
  unpack-accepted {image'} e =
      let passed = number_of-zero (unpack_refusal width height image rows)
      (sym (number-of (unpack_refusal width height image rows)) ∙ ap (λ (a : Repacked). a.number) (sym e)) in
      (passed, ap (λ (a : Repacked). a.image) (rw passed at e))
    where
      number-of : (o : Option Refusal) → (unpack_words_unless width height image rows o).number ≡ number_of o
      number-of none = refl
      number-of (some r) = refl

pub packed-unpacks : PackedUnpacks
unfolding pack_refusal unpack_refusal unpack_words unpack_words_unless
packed-unpacks width height number image image₀ image' rows rows' packs size unpacks =
    let packed = pack-accepted width height image rows packs in
    let valid = repack-valid width height image rows _ packed.0 in
    let checks = (first_refusal-append-iff (repack_checks width height image rows) (pixel_check (image ∷ []) ∷ [])).0
    packed.0 in
    let bits = pixels-good image checks.1 in
    let pixels = repack-pixels width height image rows checks.0 in
    let long : length rows' ≡ words_length width height =
    ap length packed.1 ∙ length-packed word_bits width height image in
    let clear : unused_set width height rows' ≡ false =
    rw packed.1 (padding_set-packed word_bits width height image (omega arith) bits) in
    let passed : unpack_refusal width height image₀ rows' ≡ none =
    first_refusal-append _ _ (repack-pass width height image₀ rows' valid size long)
    ∙ first_refusal-one _ ∙ (refuse_if-none-iff _ _).1 clear in
    let given = rw passed at unpacks in (
      ap (λ (a : Repacked). a.number) given,
      ap (λ (a : Repacked). a.image) given
          ∙ ap (unpacked_words width height) packed.1
          ∙ unpacked-packed word_bits width height image (omega arith) valid.wide pixels bits,
    )

pub unpacked-packs : UnpackedPacks
unfolding pack_refusal unpack_refusal pack_words pack_unless
unpacked-packs width height number image image' rows rows₀ rows' small unpacks size packs =
    let unpacked = unpack-accepted width height image rows unpacks in
    let valid = repack-valid width height image rows _ unpacked.0 in
    let checks = (first_refusal-append-iff (repack_checks width height image rows) _).0 unpacked.0 in
    let clear = (refuse_if-none-iff (unused_set width height rows) UnusedBitSet).0
    (sym (first_refusal-one _) ∙ checks.1) in
    let long = repack-rows width height image rows checks.0 in
    let binary : Binary width height image' =
    rw unpacked.1 (unpacked-binary word_bits width height rows) in
    let passed : pack_refusal width height image' rows₀ ≡ none =
    first_refusal-append _ _ (repack-pass width height image' rows₀ valid binary.pixels size)
    ∙ first_refusal-one _ ∙ pixels-pass image' binary.bits in
    let given = rw passed at packs in (
      ap (λ (a : Repacked). a.number) given,
      ap (λ (a : Repacked). a.words) given
          ∙ ap (packed_words width height) unpacked.1
          ∙ packed-unpacked word_bits width height rows (omega arith) valid.wide long small clear,
    )
