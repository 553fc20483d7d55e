-- The refusals of single calls: document 01, "Refused, by place", the rows buffers, operation, contour
-- handed in and numbering. A job's rows are in `Codec.antt`.
-- Definitions only; their laws are in `theorems/proofs/RefusalLaws.antt`.
--
-- Each row is a list of checks from left to right, a call's rows stand in the table's order, and the
-- first check that fails answers.
use Rattle.std.specs.Prelude.{ℕ, ◌*◌, Bool, true, false, cond, ◌&&◌, ◌||◌, not, List, [], ◌∷◌, ◌++◌, eqb, leb, ltb}
use Rattle.std.specs.Prelude.{length, take, Result, Ok, Err}
use Rattle.std.proofs.Math.Option.{Option, none, some}
use Rattle.lists.specs.Lists.{any, all, occurrences}
use Rattle.neighbours.specs.Limits.{max_side}
use Rattle.neighbours.specs.Grid.{is_connectivity, all_sides}
use Rattle.neighbours.specs.Contour.{contour}
use Rattle.model.specs.Limits.{max_labels, max_steps, record_length}
use Rattle.model.specs.Operations.{kind}
use Rattle.model.specs.declared.Refusal.{Refusal}
use Rattle.model.specs.declared.Refusal.TheVariants.{BadSize, BadLength, QueueTooShort, BadPixel}
use Rattle.model.specs.declared.Refusal.TheVariants.{BadConnectivity, BadBorderValue}
use Rattle.model.specs.declared.Refusal.TheVariants.{SeedOutside, WrongContour, TooManyComponents}
use Rattle.model.specs.declared.Refusal.TheVariants.{TooManyHoles}
use Rattle.model.specs.declared.Refusal.TheVariants.{TooFewRecords}
use Rattle.model.specs.declared.Refusal.TheVariants.{BadVersion, BadJobLength, BadStep, TooManySteps}
use Rattle.model.specs.declared.Refusal.TheVariants.{BadPadding}
use Rattle.model.specs.declared.Refusal.TheVariants.{TooManyPixels, UnusedBitSet}
use Rattle.model.specs.declared.Step.{Step}
use Rattle.model.specs.declared.Step.TheVariants.{Erode, Dilate, Propagate, FloodFill, ClearBorder}
use Rattle.model.specs.declared.Step.TheVariants.{ErodeBySides}
use Rattle.model.specs.declared.Start.{Start}
use Rattle.model.specs.declared.Start.TheVariants.{Scan, Contour}

-- 01's number of each refusal
abbrev pub number : Refusal → ℕ
number BadSize = 1
number BadLength = 2
number QueueTooShort = 3
number BadPixel = 4
number BadConnectivity = 5
number BadBorderValue = 6
number SeedOutside = 7
number WrongContour = 8
number TooManyComponents = 9
number TooManyHoles = 10
number TooFewRecords = 11
number BadVersion = 12
number BadJobLength = 13
number BadStep = 14
number TooManySteps = 15
number BadPadding = 16
number TooManyPixels = 17
number UnusedBitSet = 18

-- the refusal that an answer names, or none
unfoldable pub refusal : {A : Type 0} → Result A Refusal → Option Refusal
refusal (Ok answer) = none
refusal (Err r) = some r

-- 01's number of an answer, 0 where nothing is refused
unfoldable pub verdict_number : {A : Type 0} → Result A Refusal → ℕ
verdict_number (Ok answer) = 0
verdict_number (Err r) = number r

-- ---- checks

-- refused, where the condition holds
unfoldable pub refuse_if : Bool → Refusal → Option Refusal
refuse_if true refusal = some refusal
refuse_if false refusal = none

-- the first refusal of a list of checks
unfoldable pub first_refusal : List (Option Refusal) → Option Refusal
first_refusal [] = none
first_refusal (none ∷ checks) = first_refusal checks
first_refusal (some refusal ∷ checks) = some refusal

-- ---- the conditions

-- a side is outside 1 to the limit
unfoldable pub bad_side : ℕ → ℕ → Bool
bad_side limit side = ltb side 1 || ltb limit side

-- a pixel is neither background nor object
abbrev pub bad_pixel : ℕ → Bool
bad_pixel pixel = ltb 1 pixel

-- a buffer has another length than needed
unfoldable pub wrong_length : ℕ → List ℕ → Bool
wrong_length needed buffer = not (eqb (length buffer) needed)

-- The n entries at the queue's front are exactly the contour, in some order: n is not beyond the queue,
-- each entry is on the contour, and each position of the contour is there once
unfoldable pub is_contour : ℕ → ℕ → List ℕ → List ℕ → ℕ → Bool
is_contour width height image queue n =
    let positions = contour width height image in
    leb n (length queue)
    && all (λ i. any (eqb i) positions) (take n queue)
    && all (λ i. eqb (occurrences i (take n queue)) 1) positions

-- ---- the conditions as checks

-- 1: the sides against a limit
abbrev pub size_check : ℕ → ℕ → ℕ → Option Refusal
size_check limit width height = refuse_if (bad_side limit width || bad_side limit height) BadSize

-- 2: the buffers with an entry a pixel
abbrev pub length_check : ℕ → List (List ℕ) → Option Refusal
length_check pixels buffers = refuse_if (any (wrong_length pixels) buffers) BadLength

-- 3: the queue
abbrev pub queue_check : ℕ → List ℕ → Option Refusal
queue_check pixels queue = refuse_if (ltb (length queue) pixels) QueueTooShort

-- 4: the buffers of pixels
abbrev pub pixel_check : List (List ℕ) → Option Refusal
pixel_check buffers = refuse_if (any (any bad_pixel) buffers) BadPixel

-- 15: the number of steps
abbrev pub steps_check : ℕ → Option Refusal
steps_check count = refuse_if (ltb max_steps count) TooManySteps

-- ---- the rows of the table

-- buffers: the crop's size, the buffers with an entry a pixel, the queue, the buffers of pixels
unfoldable pub buffer_checks : ℕ → ℕ → List (List ℕ) → List ℕ → List (List ℕ) → List (Option Refusal)
buffer_checks width height buffers queue pixels =
    size_check max_side width height
    ∷ length_check (width * height) buffers
    ∷ queue_check (width * height) queue
    ∷ pixel_check pixels
    ∷ []

-- operation
unfoldable pub connectivity_check : ℕ → Option Refusal
connectivity_check connectivity = refuse_if (not (is_connectivity connectivity)) BadConnectivity

unfoldable pub step_checks : ℕ → ℕ → Step → List (Option Refusal)
step_checks width height (Erode connectivity border_value n) =
    connectivity_check connectivity ∷ refuse_if (ltb 1 border_value) BadBorderValue ∷ []
step_checks width height (Dilate connectivity n) = connectivity_check connectivity ∷ []
step_checks width height (Propagate connectivity n) = connectivity_check connectivity ∷ []
step_checks width height (FloodFill connectivity x y) =
    connectivity_check connectivity ∷ refuse_if (leb width x || leb height y) SeedOutside ∷ []
step_checks width height (ClearBorder connectivity) = connectivity_check connectivity ∷ []
step_checks width height (ErodeBySides connectivity sides n) =
    connectivity_check connectivity ∷ refuse_if (ltb all_sides sides) BadBorderValue ∷ []

-- contour handed in
unfoldable pub start_checks : ℕ → ℕ → List ℕ → List ℕ → Start → List (Option Refusal)
start_checks width height image queue Scan = []
start_checks width height image queue (Contour n) =
    refuse_if (not (is_contour width height image queue n)) WrongContour ∷ []

-- numbering: the counts of components and of holes, and the lent record entries
unfoldable pub label_checks : ℕ → ℕ → List ℕ → List (Option Refusal)
label_checks components holes records =
    refuse_if (ltb max_labels components) TooManyComponents
    ∷ refuse_if (ltb max_labels holes) TooManyHoles
    ∷ refuse_if (ltb (length records) (record_length * components)) TooFewRecords
    ∷ []

-- ---- each call's refusal, or none

-- an operation reads a mask: propagation, kind 3, also with 0 iterations
unfoldable pub reads_mask : Step → Bool
reads_mask step = eqb (kind step) 3

-- the mask where the operation reads one
unfoldable pub mask_of : Step → List ℕ → List (List ℕ)
mask_of step mask = cond (reads_mask step) (mask ∷ []) []

module _ (width height : ℕ) (image queue : List ℕ) where
  -- a scan by itself
  unfoldable pub scan_refusal : Option Refusal
  scan_refusal = first_refusal (buffer_checks width height (image ∷ []) queue (image ∷ []))

  -- the buffers of an operation
  abbrev pub operation_buffers : Step → List ℕ → List (Option Refusal)
  operation_buffers step mask = buffer_checks width height (image ∷ mask_of step mask) queue (image ∷ mask_of step mask)

  -- an operation
  unfoldable pub operation_refusal : Step → List ℕ → Start → Option Refusal
  operation_refusal step mask start =
      first_refusal (operation_buffers step mask ++ step_checks width
      height step ++ start_checks width height image queue start)

  -- labelling, as far as it is judged before it is worked out: 9, 10 and 11 are `label_checks`
  unfoldable pub label_refusal : ℕ → List ℕ → List ℕ → Option Refusal
  label_refusal connectivity component_labels hole_labels =
      first_refusal
      (buffer_checks width height (image ∷ component_labels ∷ hole_labels ∷ []) queue (image ∷ [])
      ++ (connectivity_check connectivity ∷ []))
