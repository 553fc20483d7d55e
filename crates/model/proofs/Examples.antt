-- The documents' worked examples, computed from the definitions. Assumes nothing.
--   Table, table               P1 to P8 of "Crops to try", with every figure that 01 gives; P7 as Point 4 of 02
--                              has it
--   Sample, sample             the job of "Job and lane program": read, written, run and printed
--   Further, further           what 01's own examples leave open: a drop, what a mask is judged for, what labelling
--                              leaves behind the records, and the connectivity of the listing
--   Order, order               "Refused, by place": of several faults the table's first answers
--   Shortcuts, shortcuts       "Shortcuts that go wrong": each shortcut's result beside the definition's
--   Wide, wide                 document 02, Point 1: the limits of labels and of the lane's records, how many
--                              components a crop can have, and a byte map carried over
--   ByOther, by_other            document 02, Point 4: holes by the other connectivity, in crops by 4 and by 8
--   BySides, by_sides            document 02, Point 6: erosion by sides, its refusals, its record and its listing
--   BlankRows, blank_rows        document 02, Point 3: a scan's contour length and blank rows, and its refusals
--   InWords, in_words            document 02, Point 2: packed rows, their neighbours from word to word, their refusals
-- Not here: rings in rings, which take seconds to compute and stand in `theorems/proofs/NestedRings.antt`; what lies
-- beyond the edge, place by place (`neighbours/proofs/Examples.antt`).
use Prim.Native.Nat.{ℕ, ◌*◌, ◌^◌}
use mathlib.Core.Path.{◌≡◌, refl}
use mathlib.Core.Bool.{true, false, cond, ◌&&◌}
use mathlib.Core.List.{List, [], ◌∷◌, ◌++◌, map}
use mathlib.Core.Option.{none, some}
use lib.Dec.{eqb, ltb}
use lib.ListN.{get_or, replicate}
use Rattle.model.specs.Limits.{max_labels, u16_limit, lane_pixels}
use Rattle.lists.specs.Lists.{count_from, tabulate, select, any, iterate}
use Rattle.lists.specs.Text.{ascii}
use Rattle.neighbours.specs.Grid.{no_side, neighbour_value, has_neighbour}
use Rattle.neighbours.specs.Contour.{contour}
use Rattle.model.specs.Steps.{erode_once, dilate_once, propagate_once}
use Rattle.model.specs.Labelling.{components, holes}
use Rattle.model.specs.Depth.{depth}
use Rattle.model.specs.Calls.{operate, label, scan, Reply, operated, labelled, scanned, Outcome, lent}
use Rattle.model.specs.Calls.{call, replies}
use Rattle.model.specs.Refusals.{first_refusal, label_checks}
use Rattle.model.specs.Codec.{Job, u16_bytes, write_job, refused_job, accepted_job, read_job}
use Rattle.model.specs.Widening.{widen_map}
use Rattle.model.specs.Words.{operate_words, pack_words, unpack_words}
use Rattle.model.specs.Listing.{lane_entries, lane_listing}
use Rattle.model.specs.declared.Step.{Step}
use Rattle.model.specs.declared.Step.TheVariants.{Erode, Dilate, Propagate, FloodFill, ClearBorder}
use Rattle.model.specs.declared.Step.TheVariants.{ErodeBySides}
use Rattle.model.specs.declared.Start.TheVariants.{Scan, Contour}
use Rattle.model.specs.declared.Refusal.TheVariants.{BadSize, BadConnectivity, BadBorderValue}
use Rattle.model.specs.declared.Refusal.TheVariants.{TooManyComponents}
use Rattle.model.specs.declared.Refusal.TheVariants.{TooManyHoles}
use Rattle.model.specs.declared.Refusal.TheVariants.{TooFewRecords, BadVersion, BadJobLength, BadStep}
use Rattle.model.specs.declared.Refusal.TheVariants.{TooManySteps, BadPadding}
use Rattle.model.specs.declared.Refusal.TheVariants.{TooManyPixels}
use Rattle.model.proofs.Computed.{pixels, computed}

-- ---- P1 to P8

-- an operation by a scan, with a queue that is just long enough
abbrev operation : ℕ → ℕ → List ℕ → List ℕ → Step → Outcome
operation width height image mask step =
    call width height (lent image (replicate (width * height) 0)) (operate step mask Scan)

-- labelling into n records, all lent as zeros
abbrev labelling : ℕ → ℕ → List ℕ → ℕ → ℕ → Reply
labelling width height image connectivity n =
    let zeros : List ℕ = replicate (width * height) 0 in
    (call width height (lent image zeros) (label connectivity zeros zeros (replicate (10 * n) 0))).reply

abbrev dot : List ℕ
dot = pixels 9 0b000_010_000

abbrev corners : List ℕ
corners = pixels 4 0b10_01

abbrev ring : List ℕ
ring = pixels 9 0b111_101_111

abbrev diamond : List ℕ
diamond = pixels 9 0b010_101_010

abbrev rim : List ℕ
rim = pixels 25 0b11111_10001_10101_10001_11111

abbrev diamond_records : List ℕ
diamond_records =
    1 ∷ 1 ∷ 0 ∷ 1 ∷ 1 ∷ 0 ∷ 1 ∷ 0 ∷ 0 ∷ 0
    ∷ 2 ∷ 0 ∷ 1 ∷ 1 ∷ 0 ∷ 1 ∷ 0 ∷ 1 ∷ 0 ∷ 0
    ∷ 3 ∷ 2 ∷ 1 ∷ 1 ∷ 2 ∷ 1 ∷ 2 ∷ 1 ∷ 0 ∷ 0
    ∷ 4 ∷ 1 ∷ 2 ∷ 1 ∷ 1 ∷ 2 ∷ 1 ∷ 2 ∷ 0 ∷ 0
    ∷ []

abbrev rim_records : List ℕ
rim_records = 1 ∷ 0 ∷ 0 ∷ 16 ∷ 0 ∷ 0 ∷ 4 ∷ 4 ∷ 1 ∷ 0 ∷ 2 ∷ 2 ∷ 2 ∷ 1 ∷ 2 ∷ 2 ∷ 2 ∷ 2 ∷ 0 ∷ 1 ∷ []

-- a reply of an operation: no refusal, changed, used, contour length. One of labelling: no refusal,
-- components, holes, the component map, the hole map, the records
record Table : Type 0 where
  P1-background : (operation 1 1 (pixels 1 0b1) [] (Erode 4 0 1)).state.image ≡ pixels 1 0b0
  P1-background-reply : (operation 1 1 (pixels 1 0b1) [] (Erode 4 0 1)).reply ≡ operated 0 1 1 0
  P1-object : (operation 1 1 (pixels 1 0b1) [] (Erode 4 1 1)).state.image ≡ pixels 1 0b1
  P1-object-reply : (operation 1 1 (pixels 1 0b1) [] (Erode 4 1 1)).reply ≡ operated 0 0 0 0
  P2 : (operation 5 1 (pixels 5 0b00100) [] (Dilate 8 2)).state.image ≡ pixels 5 0b11111
  P2-reply : (operation 5 1 (pixels 5 0b00100) [] (Dilate 8 2)).reply ≡ operated 0 4 2 0
  P3 : (operation 5 1 (pixels 5 0b10000) [] (Dilate 4 9)).reply ≡ operated 0 4 4 0
  P4-none : (operation 3 1 (pixels 3 0b100) (pixels 3 0b011) (Propagate 4 0)).state.image ≡ pixels 3 0b100
  P4-none-reply : (operation 3 1 (pixels 3 0b100) (pixels 3 0b011) (Propagate 4 0)).reply ≡ operated 0 0 0 1
  P4-one : (operation 3 1 (pixels 3 0b100) (pixels 3 0b011) (Propagate 4 1)).state.image ≡ pixels 3 0b010
  P4-one-reply : (operation 3 1 (pixels 3 0b100) (pixels 3 0b011) (Propagate 4 1)).reply ≡ operated 0 2 1 1
  P4-two : (operation 3 1 (pixels 3 0b100) (pixels 3 0b011) (Propagate 4 2)).state.image ≡ pixels 3 0b011
  P4-two-reply : (operation 3 1 (pixels 3 0b100) (pixels 3 0b011) (Propagate 4 2)).reply ≡ operated 0 3 2 1
  P5-eight : labelling 2 2 corners 8 1
      ≡ labelled 0 1 0 corners (replicate 4 0) (1 ∷ 0 ∷ 0 ∷ 2 ∷ 0 ∷ 0 ∷ 1 ∷ 1 ∷ 0 ∷ 0 ∷ [])
  P5-four : labelling 2 2 corners 4 2
      ≡ labelled 0 2 0 (1 ∷ 0 ∷ 0 ∷ 2 ∷ []) (replicate 4 0)
      (1 ∷ 0 ∷ 0 ∷ 1 ∷ 0 ∷ 0 ∷ 0 ∷ 0 ∷ 0 ∷ 0 ∷ 2 ∷ 1 ∷ 1 ∷ 1 ∷ 1 ∷ 1 ∷ 1 ∷ 1 ∷ 0 ∷ 0 ∷ [])
  P6 : labelling 3 3 ring 8 1 ≡ labelled 0 1 1 ring dot (1 ∷ 0 ∷ 0 ∷ 8 ∷ 0 ∷ 0 ∷ 2 ∷ 2 ∷ 1 ∷ 0 ∷ [])
  P6-fill : (operation 3 3 ring [] (FloodFill 8 1 1)).state.image ≡ replicate 9 1
  P6-fill-reply : (operation 3 3 ring [] (FloodFill 8 1 1)).reply ≡ operated 0 1 1 0
  P7 : labelling 3 3 diamond 4 4
      ≡ labelled 0 4 0 (0 ∷ 1 ∷ 0 ∷ 2 ∷ 0 ∷ 3 ∷ 0 ∷ 4 ∷ 0 ∷ []) (replicate 9 0) diamond_records
  P7-depth : map (depth diamond_records) (1 ∷ 2 ∷ 3 ∷ 4 ∷ []) ≡ 0 ∷ 0 ∷ 0 ∷ 0 ∷ []
  P8 : labelling 5 5 rim 8 2
      ≡ labelled 0 2 1
      (1 ∷ 1 ∷ 1 ∷ 1 ∷ 1 ∷ 1 ∷ 0 ∷ 0 ∷ 0 ∷ 1 ∷ 1 ∷ 0 ∷ 2 ∷ 0 ∷ 1 ∷ 1 ∷ 0 ∷ 0 ∷ 0 ∷ 1 ∷ 1 ∷ 1 ∷ 1 ∷ 1 ∷ 1 ∷ [])
      (pixels 25 0b00000_01110_01010_01110_00000)
      rim_records
  P8-depth : map (depth rim_records) (1 ∷ 2 ∷ []) ≡ 0 ∷ 1 ∷ []

table : Table
unfolding computed
table =
    record {
      P1-background = refl;
      P1-background-reply = refl;
      P1-object = refl;
      P1-object-reply = refl;
      P2 = refl;
      P2-reply = refl;
      P3 = refl;
      P4-none = refl;
      P4-none-reply = refl;
      P4-one = refl;
      P4-one-reply = refl;
      P4-two = refl;
      P4-two-reply = refl;
      P5-eight = refl;
      P5-four = refl;
      P6 = refl;
      P6-fill = refl;
      P6-fill-reply = refl;
      P7 = refl;
      P7-depth = refl;
      P8 = refl;
      P8-depth = refl;
    }

-- ---- the job of document 01

abbrev job_in_hand : Job
job_in_hand =
    record {
      width = 5;
      height = 5;
      steps = Erode 8 0 1 ∷ Dilate 4 1 ∷ [];
      image = replicate 25 1;
      mask = replicate 25 0;
    }

abbrev job_text : List ℕ
job_text =
    0x01 ∷ 0x00 ∷ 0x1D ∷ 0x00 ∷ 0x05 ∷ 0x00 ∷ 0x05 ∷ 0x02
    ∷ 0x05 ∷ 0x01 ∷ 0x08 ∷ 0x00 ∷ 0x00 ∷ 0x01
    ∷ 0x04 ∷ 0x02 ∷ 0x04 ∷ 0x00 ∷ 0x01
    ∷ 0xF8 ∷ 0xF8 ∷ 0xF8 ∷ 0xF8 ∷ 0xF8
    ∷ 0x00 ∷ 0x00 ∷ 0x00 ∷ 0x00 ∷ 0x00
    ∷ []

-- a job that is not square
abbrev oblong_job : Job
oblong_job =
    record {
      width = 9;
      height = 2;
      steps = FloodFill 4 8 1 ∷ ClearBorder 8 ∷ [];
      image = pixels 18 0b100000001_010000000;
      mask = replicate 18 1;
    }

record Sample : Type 0 where
  read : read_job lane_pixels job_text ≡ accepted_job job_in_hand
  written : write_job job_in_hand (replicate 29 7) ≡ record { number = 0; buffer = job_text }
  printed : lane_listing job_text
      ≡ ascii "plate 5 5 2\nstep 1 1 16 1 8\nstep 2 2 12 1 8\nparts 1 0\npart 1 1 0 21 0 0 4 4 0 0 0\n"
  version : lane_listing (0x02 ∷ []) ≡ ascii "refused 12\n"
  oblong : write_job oblong_job (replicate 26 0)
      ≡ record {
        number = 0;
        buffer =
            0x01 ∷ 0x00 ∷ 0x1A ∷ 0x00 ∷ 0x09 ∷ 0x00 ∷ 0x02 ∷ 0x02
            ∷ 0x06 ∷ 0x04 ∷ 0x04 ∷ 0x00 ∷ 0x08 ∷ 0x00 ∷ 0x01
            ∷ 0x02 ∷ 0x05 ∷ 0x08
            ∷ 0x80 ∷ 0x80 ∷ 0x40 ∷ 0x00
            ∷ 0xFF ∷ 0x80 ∷ 0xFF ∷ 0x80
            ∷ [];
      }

sample : Sample
unfolding computed
sample = record { read = refl; written = refl; printed = refl; version = refl; oblong = refl }

-- ---- what those examples leave open

-- P5 as a job without steps
abbrev corners_job : List ℕ
corners_job = 0x01 ∷ 0x00 ∷ 0x0C ∷ 0x00 ∷ 0x02 ∷ 0x00 ∷ 0x02 ∷ 0x00 ∷ 0x80 ∷ 0x40 ∷ 0x00 ∷ 0x00 ∷ []

-- a propagation of two pixels with a mask
abbrev propagation : List ℕ → Reply
propagation mask = (operation 2 1 (pixels 2 0b10) mask (Propagate 4 1)).reply

-- the ring labelled into lent maps and records that hold something
abbrev relabelling : List ℕ → Reply
relabelling lent_records =
    (call 3 3 (lent ring (replicate 9 0)) (label 8 (replicate 9 5) (replicate 9 6) lent_records)).reply

record Further : Type 0 where
  -- by 8 the pixels that touch by a corner go with the one on the border, by 4 they do not
  drop-eight : (operation 5 3 (pixels 15 0b10000_01000_00000) [] (ClearBorder 8)).reply ≡ operated 0 2 1 0
  drop-four : (operation 5 3 (pixels 15 0b10000_01000_00000) [] (ClearBorder 4)).state.image
      ≡ pixels 15 0b00000_01000_00000
  drop-four-reply : (operation 5 3 (pixels 15 0b10000_01000_00000) [] (ClearBorder 4)).reply ≡ operated 0 1 1 1
  drop-nothing : (operation 3 3 dot [] (ClearBorder 8)).reply ≡ operated 0 0 0 1
  -- a mask is judged where it is read, also with 0 iterations, and nowhere else
  mask-short : propagation (1 ∷ []) ≡ operated 2 0 0 0
  mask-pixel : propagation (1 ∷ 2 ∷ []) ≡ operated 4 0 0 0
  mask-unread : (operation 2 1 (pixels 2 0b10) (9 ∷ []) (Dilate 4 1)).reply ≡ operated 0 1 1 0
  -- record entries behind the last component stay as lent; a refusal leaves all records, and zeros the maps
  records-behind : relabelling (replicate 13 7)
      ≡ labelled 0 1 1 ring dot (1 ∷ 0 ∷ 0 ∷ 8 ∷ 0 ∷ 0 ∷ 2 ∷ 2 ∷ 1 ∷ 0 ∷ 7 ∷ 7 ∷ 7 ∷ [])
  records-few : relabelling (replicate 9 7) ≡ labelled 11 0 0 (replicate 9 0) (replicate 9 0) (replicate 9 7)
  -- the listing counts by 8: P5 has one part
  listing : lane_listing corners_job ≡ ascii "plate 2 2 0\nparts 1 0\npart 1 0 0 2 0 0 1 1 0 0 0\n"

further : Further
unfolding computed
further =
    record {
      drop-eight = refl;
      drop-four = refl;
      drop-four-reply = refl;
      drop-nothing = refl;
      mask-short = refl;
      mask-pixel = refl;
      mask-unread = refl;
      records-behind = refl;
      records-few = refl;
      listing = refl;
    }

-- ---- of several faults the table's first answers

-- an erosion of a crop of 2 pixels and a flood fill of it, from a wrong contour
abbrev erosion : ℕ → ℕ → List ℕ → List ℕ → ℕ → ℕ → Reply
erosion width height image queue connectivity border_value =
    (call width height (lent image queue) (operate (Erode connectivity border_value 1) [] (Contour 9))).reply

abbrev filling : List ℕ → ℕ → ℕ → Reply
filling queue connectivity x =
    (call 2 1 (lent (1 ∷ 0 ∷ []) queue) (operate (FloodFill connectivity x 0) [] (Contour 9))).reply

-- the head of a job of 16 bytes, then a step record
abbrev head : ℕ → ℕ → ℕ → ℕ → ℕ → List ℕ → List ℕ
head version total width height steps behind =
    version ∷ u16_bytes total ++ u16_bytes width ++ u16_bytes height ++ (steps ∷ behind)

record Order : Type 0 where
  size : erosion 0 1 (9 ∷ []) [] 5 2 ≡ operated 1 0 0 0
  length : erosion 2 1 (9 ∷ []) [] 5 2 ≡ operated 2 0 0 0
  queue : erosion 2 1 (9 ∷ 9 ∷ []) [] 5 2 ≡ operated 3 0 0 0
  pixel : erosion 2 1 (9 ∷ 9 ∷ []) (0 ∷ 0 ∷ []) 5 2 ≡ operated 4 0 0 0
  connectivity : erosion 2 1 (1 ∷ 0 ∷ []) (0 ∷ 0 ∷ []) 5 2 ≡ operated 5 0 0 0
  border : erosion 2 1 (1 ∷ 0 ∷ []) (0 ∷ 0 ∷ []) 4 2 ≡ operated 6 0 0 0
  wrong-contour : erosion 2 1 (1 ∷ 0 ∷ []) (0 ∷ 0 ∷ []) 4 1 ≡ operated 8 0 0 0
  repeated-position : (call 2 1 (lent (1 ∷ 0 ∷ []) (0 ∷ 0 ∷ [])) (operate (ClearBorder 4) [] (Contour 2))).reply
      ≡ operated 8 0 0 0
  seed-connectivity : filling (0 ∷ 0 ∷ []) 5 2 ≡ operated 5 0 0 0
  seed : filling (0 ∷ 0 ∷ []) 4 2 ≡ operated 7 0 0 0
  many-components : first_refusal (label_checks 65536 65536 []) ≡ some TooManyComponents
  many-holes : first_refusal (label_checks 65535 65536 []) ≡ some TooManyHoles
  few-records : first_refusal (label_checks 256 65535 (replicate 2559 0)) ≡ some TooFewRecords
  job-version : read_job lane_pixels (head 2 99 0 0 33 []) ≡ refused_job BadVersion
  job-length : read_job lane_pixels (head 1 99 0 0 33 []) ≡ refused_job BadJobLength
  job-size : read_job lane_pixels (head 1 8 257 256 33 []) ≡ refused_job BadSize
  job-pixels : read_job lane_pixels (head 1 8 256 256 33 []) ≡ refused_job TooManyPixels
  job-steps : read_job lane_pixels (head 1 8 128 64 33 []) ≡ refused_job TooManySteps
  step_end : read_job lane_pixels (head 1 10 8 1 1 (5 ∷ 9 ∷ [])) ≡ refused_job BadJobLength
  step-kind : read_job lane_pixels (head 1 10 8 1 1 (1 ∷ 9 ∷ [])) ≡ refused_job BadStep
  step-empty : read_job lane_pixels (head 1 9 8 1 1 (0 ∷ [])) ≡ refused_job BadStep
  step-connectivity : read_job lane_pixels (head 1 14 8 1 1 (5 ∷ 1 ∷ 5 ∷ 2 ∷ 0 ∷ 1 ∷ [])) ≡ refused_job BadConnectivity
  step-border : read_job lane_pixels (head 1 14 8 1 1 (5 ∷ 1 ∷ 4 ∷ 2 ∷ 0 ∷ 1 ∷ [])) ≡ refused_job BadBorderValue
  pictures : read_job lane_pixels (head 1 9 7 1 0 (0x01 ∷ [])) ≡ refused_job BadJobLength
  padding : read_job lane_pixels (head 1 10 7 1 0 (0x00 ∷ 0x01 ∷ [])) ≡ refused_job BadPadding

order : Order
unfolding computed
order =
    record {
      size = refl;
      length = refl;
      queue = refl;
      pixel = refl;
      connectivity = refl;
      border = refl;
      wrong-contour = refl;
      repeated-position = refl;
      seed-connectivity = refl;
      seed = refl;
      many-components = refl;
      many-holes = refl;
      few-records = refl;
      job-version = refl;
      job-length = refl;
      job-size = refl;
      job-pixels = refl;
      job-steps = refl;
      step_end = refl;
      step-kind = refl;
      step-empty = refl;
      step-connectivity = refl;
      step-border = refl;
      pictures = refl;
      padding = refl;
    }

-- ---- shortcuts that go wrong

-- dilation by diagonal neighbours alone, with and without a mask
diagonal_once : ℕ → ℕ → List ℕ → List ℕ
diagonal_once width height image =
    tabulate (width * height)
    (λ i. cond (any (λ d. eqb (neighbour_value width height no_side image i d) 1) (1 ∷ 3 ∷ 5 ∷ 7 ∷ [])) 1
    (get_or image i 0))

masked : ℕ → List ℕ → List ℕ → List ℕ
masked n mask image = tabulate n (λ i. cond (eqb (get_or mask i 0) 1) (get_or image i 0) 0)

-- the pixels that an erosion removed
removed : ℕ → List ℕ → List ℕ → List ℕ
removed n before after = select (λ i. eqb (get_or before i 0) 1 && eqb (get_or after i 0) 0) (count_from 0 n)

abbrev row : List ℕ
row = pixels 15 0b00000_11111_00000

abbrev middle : List ℕ
middle = pixels 15 0b00000_00100_00000

record Shortcuts : Type 0 where
  -- diagonals only after the first step: in a crop one pixel high
  flat-shortcut : diagonal_once 5 1 (dilate_once 5 1 8 (pixels 5 0b00100)) ≡ pixels 5 0b01110
  flat : iterate (dilate_once 5 1 8) 2 (pixels 5 0b00100) ≡ pixels 5 0b11111
  -- and for propagation under a mask
  masked-shortcut : masked 15 row (diagonal_once 5 3 (propagate_once 5 3 8 row middle)) ≡ pixels 15 0b00000_01110_00000
  masked-right : iterate (propagate_once 5 3 8 row) 2 middle ≡ row
  -- the last removed layer for the contour: it is background, and its corner touches nothing
  layer-shortcut : removed 9 (replicate 9 1) (erode_once 3 3 4 no_side (replicate 9 1))
      ≡ 0 ∷ 1 ∷ 2 ∷ 3 ∷ 5 ∷ 6 ∷ 7 ∷ 8 ∷ []
  layer-corner : has_neighbour 3 3 4 no_side 1 (erode_once 3 3 4 no_side (replicate 9 1)) 0 ≡ false
  layer : contour 3 3 (erode_once 3 3 4 no_side (replicate 9 1)) ≡ 4 ∷ []
  -- the seed masked before the first step (P4)
  seed-shortcut : propagate_once 3 1 4 (pixels 3 0b011) (masked 3 (pixels 3 0b011) (pixels 3 0b100)) ≡ pixels 3 0b000
  seed : propagate_once 3 1 4 (pixels 3 0b011) (pixels 3 0b100) ≡ pixels 3 0b010
  -- closing taken to keep every pixel: with border value 0 it loses P1's
  closing : erode_once 1 1 4 no_side (dilate_once 1 1 4 (pixels 1 0b1)) ≡ pixels 1 0b0

shortcuts : Shortcuts
unfolding computed diagonal_once masked removed
shortcuts =
    record {
      flat-shortcut = refl;
      flat = refl;
      masked-shortcut = refl;
      masked-right = refl;
      layer-shortcut = refl;
      layer-corner = refl;
      layer = refl;
      seed-shortcut = refl;
      seed = refl;
      closing = refl;
    }

-- ---- document 02, Point 1

record Wide : Type 0 where
  -- every label that is not too great has 16 bits; 256 components and holes are not too many, and 65,535 are not
  sixteen-bits : ltb max_labels u16_limit ≡ true
  past-a-byte : first_refusal (label_checks 256 256 (replicate 2560 0)) ≡ none
  most : first_refusal (label_checks 65535 65535 []) ≡ some TooFewRecords
  -- the lane program keeps 1,024 records
  lane-last : first_refusal (label_checks 1024 0 lane_entries) ≡ none
  lane-beyond : first_refusal (label_checks 1025 0 lane_entries) ≡ some TooFewRecords
  -- as many components as a row of three and a column of three can have, one fewer than pixels, and those of one
  -- pixel
  row-most : (components 3 1 4 (pixels 3 0b101)).count ≡ 2
  column-most : (components 1 3 8 (pixels 3 0b101)).count ≡ 2
  single : (components 1 1 4 (pixels 1 0b1)).count ≡ 1
  -- every byte is carried over; a refusal leaves both maps, and 1 comes before 2
  widened : widen_map 2 2 (0 ∷ 255 ∷ 7 ∷ 1 ∷ []) (9 ∷ 65535 ∷ 9 ∷ 9 ∷ [])
      ≡ record { number = 0; bytes = 0 ∷ 255 ∷ 7 ∷ 1 ∷ []; labels = 0 ∷ 255 ∷ 7 ∷ 1 ∷ [] }
  widened-size : widen_map 257 1 [] (9 ∷ []) ≡ record { number = 1; bytes = []; labels = 9 ∷ [] }
  widened-bytes : widen_map 2 1 (1 ∷ []) (9 ∷ 8 ∷ [])
      ≡ record { number = 2; bytes = 1 ∷ []; labels = 9 ∷ 8 ∷ [] }
  widened-labels : widen_map 2 1 (1 ∷ 2 ∷ []) (9 ∷ [])
      ≡ record { number = 2; bytes = 1 ∷ 2 ∷ []; labels = 9 ∷ [] }

wide : Wide
unfolding computed
wide =
    record {
      sixteen-bits = refl;
      past-a-byte = refl;
      most = refl;
      lane-last = refl;
      lane-beyond = refl;
      row-most = refl;
      column-most = refl;
      single = refl;
      widened = refl;
      widened-size = refl;
      widened-bytes = refl;
      widened-labels = refl;
    }

-- ---- document 02, Point 4

-- a ring without corners
abbrev octagon : List ℕ
octagon = pixels 16 0b0110_1001_1001_0110

record ByOther : Type 0 where
  -- a closed ring has its hole by 4 as by 8
  ring-four : labelling 3 3 ring 4 1
      ≡ labelled 0 1 1 ring dot (1 ∷ 0 ∷ 0 ∷ 8 ∷ 0 ∷ 0 ∷ 2 ∷ 2 ∷ 1 ∷ 0 ∷ [])
  -- a ring without corners is one component round a hole by 8; by 4 it is four, and the background is one set
  octagon-eight : labelling 4 4 octagon 8 1
      ≡ labelled 0 1 1 octagon (pixels 16 0b0000_0110_0110_0000)
      (1 ∷ 1 ∷ 0 ∷ 8 ∷ 0 ∷ 0 ∷ 3 ∷ 3 ∷ 1 ∷ 0 ∷ [])
  octagon-four : (components 4 4 4 octagon).count ≡ 4
  octagon-four-holes : (holes 4 4 4 octagon).count ≡ 0
  -- background that touches the border by the crop's corner alone is no hole by 4, and is one by 8
  corner-four : (holes 3 3 4 (pixels 9 0b011_101_111)).labels ≡ replicate 9 0
  corner-eight : (holes 3 3 8 (pixels 9 0b011_101_111)).labels ≡ dot
  -- two pixels of background that touch by a corner are one hole by 4, and two by 8
  pair-four : (holes 4 4 4 (pixels 16 0b1111_1011_1101_1111)).labels ≡ pixels 16 0b0000_0100_0010_0000
  pair-eight : (holes 4 4 8 (pixels 16 0b1111_1011_1101_1111)).count ≡ 2

by_other : ByOther
unfolding computed
by_other =
    record {
      ring-four = refl;
      octagon-eight = refl;
      octagon-four = refl;
      octagon-four-holes = refl;
      corner-four = refl;
      corner-eight = refl;
      pair-four = refl;
      pair-eight = refl;
    }

-- ---- document 02, Point 6

-- one iteration by sides of an image of object pixels
abbrev full_by_sides : ℕ → ℕ → ℕ → ℕ → List ℕ
full_by_sides width height connectivity sides =
    (operation width height (replicate (width * height) 1) [] (ErodeBySides connectivity sides 1)).state.image

-- an erosion by sides of a crop of 2 pixels, from a wrong contour
abbrev side_erosion : ℕ → ℕ → Reply
side_erosion connectivity sides =
    let step = ErodeBySides connectivity sides 1 in
    (call 2 1 (lent (1 ∷ 0 ∷ []) (0 ∷ 0 ∷ [])) (operate step [] (Contour 9))).reply

-- a full crop of 3 by 3 that is cut on the left and on the right, eroded by 8 once
abbrev cut_job : Job
cut_job =
    record {
      width = 3;
      height = 3;
      steps = ErodeBySides 8 10 1 ∷ [];
      image = replicate 9 1;
      mask = replicate 9 0;
    }

abbrev cut_text : List ℕ
cut_text =
    0x01 ∷ 0x00 ∷ 0x14 ∷ 0x00 ∷ 0x03 ∷ 0x00 ∷ 0x03 ∷ 0x01
    ∷ 0x05 ∷ 0x07 ∷ 0x08 ∷ 0x0A ∷ 0x00 ∷ 0x01
    ∷ 0xE0 ∷ 0xE0 ∷ 0xE0 ∷ 0x00 ∷ 0x00 ∷ 0x00
    ∷ []

record BySides : Type 0 where
  -- the only pixel goes by every side that is not named, and stays by all four
  single-top : (operation 1 1 (pixels 1 0b1) [] (ErodeBySides 4 14 1)).reply ≡ operated 0 1 1 0
  single-right : full_by_sides 1 1 4 13 ≡ pixels 1 0b0
  single-bottom : full_by_sides 1 1 4 11 ≡ pixels 1 0b0
  single-left : full_by_sides 1 1 4 7 ≡ pixels 1 0b0
  single-all : (operation 1 1 (pixels 1 0b1) [] (ErodeBySides 4 15 1)).reply ≡ operated 0 0 0 0
  -- a full crop loses the row or the column along each side that is not named, and nothing else
  full-top : full_by_sides 3 3 8 14 ≡ pixels 9 0b000_111_111
  full-right : full_by_sides 3 3 8 13 ≡ pixels 9 0b110_110_110
  full-bottom : full_by_sides 3 3 8 11 ≡ pixels 9 0b111_111_000
  full-left : full_by_sides 3 3 8 7 ≡ pixels 9 0b011_011_011
  full-top-left : full_by_sides 3 3 4 6 ≡ pixels 9 0b000_011_011
  -- a crop of one column goes by the left as by the right
  column-left : full_by_sides 1 3 4 13 ≡ pixels 3 0b000
  column-right : full_by_sides 1 3 4 7 ≡ pixels 3 0b000
  column-both : full_by_sides 1 3 4 10 ≡ pixels 3 0b010
  -- after the first iteration the rest goes on from inside: the last row goes in the third, though its side is named
  deeper : (operation 3 3 (replicate 9 1) [] (ErodeBySides 4 14 3)).reply ≡ operated 0 9 3 0
  -- 5 comes before 6, 6 is for numbers above 15, and 8 comes behind
  connectivity : side_erosion 5 16 ≡ operated 5 0 0 0
  sixteen : side_erosion 4 16 ≡ operated 6 0 0 0
  fifteen : side_erosion 4 15 ≡ operated 8 0 0 0
  -- for kind 1 it is still for numbers above 1
  border-value : (operation 1 1 (pixels 1 0b1) [] (Erode 4 2 1)).reply ≡ operated 6 0 0 0
  -- kind 7 has length 5 and kind 1's fields; kind 6 is unknown
  read : read_job lane_pixels cut_text ≡ accepted_job cut_job
  written : write_job cut_job (replicate 20 7) ≡ record { number = 0; buffer = cut_text }
  printed : lane_listing cut_text ≡ ascii "plate 3 3 1\nstep 1 7 6 1 3\nparts 1 0\npart 1 0 1 3 0 1 2 1 0 0 0\n"
  step-length : read_job lane_pixels (head 1 13 8 1 1 (4 ∷ 7 ∷ 4 ∷ 0 ∷ 1 ∷ [])) ≡ refused_job BadStep
  step-sides : read_job lane_pixels (head 1 14 8 1 1 (5 ∷ 7 ∷ 4 ∷ 16 ∷ 0 ∷ 1 ∷ []))
      ≡ refused_job BadBorderValue
  step-six : read_job lane_pixels (head 1 14 8 1 1 (5 ∷ 6 ∷ 4 ∷ 0 ∷ 0 ∷ 1 ∷ [])) ≡ refused_job BadStep

by_sides : BySides
unfolding computed
by_sides =
    record {
      single-top = refl;
      single-right = refl;
      single-bottom = refl;
      single-left = refl;
      single-all = refl;
      full-top = refl;
      full-right = refl;
      full-bottom = refl;
      full-left = refl;
      full-top-left = refl;
      column-left = refl;
      column-right = refl;
      column-both = refl;
      deeper = refl;
      connectivity = refl;
      sixteen = refl;
      fifteen = refl;
      border-value = refl;
      read = refl;
      written = refl;
      printed = refl;
      step-length = refl;
      step-sides = refl;
      step-six = refl;
    }

-- ---- blank rows (02, Point 3)

-- a scan, with a queue that is just long enough
abbrev scanning : ℕ → ℕ → List ℕ → Reply
scanning width height image = (call width height (lent image (replicate (width * height) 0)) scan).reply

record BlankRows : Type 0 where
  -- no row of a full crop is blank, though none has a contour pixel
  full : scanning 3 3 (replicate 9 1) ≡ scanned 0 0 0
  -- the first and the last row
  beam : scanning 3 3 (pixels 9 0b000_111_000) ≡ scanned 0 3 2
  single : scanning 1 1 (pixels 1 0b0) ≡ scanned 0 0 1
  single-object : scanning 1 1 (pixels 1 0b1) ≡ scanned 0 0 0
  -- one object pixel is enough, the first or the last of its row
  last-pixel : scanning 3 2 (pixels 6 0b001_000) ≡ scanned 0 1 1
  first-pixel : scanning 3 2 (pixels 6 0b100_000) ≡ scanned 0 1 1
  -- a column of three: rows of one pixel
  column : scanning 1 3 (pixels 3 0b0_1_0) ≡ scanned 0 1 2
  -- rows between
  between : scanning 2 5 (pixels 10 0b10_00_00_01_11) ≡ scanned 0 3 2
  -- a refusal tells 0
  size : scanning 0 3 [] ≡ scanned 1 0 0
  length : scanning 2 2 (pixels 3 0b000) ≡ scanned 2 0 0
  queue : (call 2 1 (lent (0 ∷ 0 ∷ []) (0 ∷ [])) scan).reply ≡ scanned 3 0 0
  pixel : scanning 2 2 (0 ∷ 0 ∷ 0 ∷ 2 ∷ []) ≡ scanned 4 0 0
  -- in a list of calls: an erosion blanks the rows beside the middle one
  list : replies 3 3 (lent (replicate 9 1) (replicate 9 0)) (scan ∷ operate (Erode 4 0 1) [] Scan ∷ scan ∷ [])
      ≡ scanned 0 0 0 ∷ operated 0 8 1 1 ∷ scanned 0 1 2 ∷ []

blank_rows : BlankRows
unfolding computed
blank_rows =
    record {
      full = refl;
      beam = refl;
      single = refl;
      single-object = refl;
      last-pixel = refl;
      first-pixel = refl;
      column = refl;
      between = refl;
      size = refl;
      length = refl;
      queue = refl;
      pixel = refl;
      list = refl;
    }

-- ---- packed rows (02, Point 2)

-- a word of three pixels, the first in the top bit
abbrev three : ℕ → ℕ
three digits = digits * 2 ^ 61

record InWords : Type 0 where
  -- the row 100 dilates to 110
  dilated : operate_words 3 1 (Dilate 4 1) (three 0b100 ∷ [])
      ≡ record { number = 0; changed = 1; used = 1; area = 2; words = three 0b110 ∷ [] }
  -- a word's last pixel and the next word's first are neighbours, both ways
  carried : operate_words 65 1 (Dilate 4 1) (1 ∷ 0 ∷ [])
      ≡ record { number = 0; changed = 2; used = 1; area = 3; words = 3 ∷ 2 ^ 63 ∷ [] }
  carried-back : (operate_words 65 1 (Dilate 4 1) (0 ∷ 2 ^ 63 ∷ [])).words ≡ 1 ∷ 2 ^ 63 ∷ []
  -- each row starts a word: the last pixel of a row and the first of the next are none
  rows_apart : (operate_words 64 2 (Dilate 4 1) (1 ∷ 0 ∷ [])).words ≡ 3 ∷ 1 ∷ []
  -- where the right side is object the last pixel stays, and the unused bits behind it are 0
  right-object : operate_words 3 1 (ErodeBySides 4 7 1) (three 0b111 ∷ [])
      ≡ record { number = 0; changed = 1; used = 1; area = 2; words = three 0b011 ∷ [] }
  right-background : (operate_words 3 1 (ErodeBySides 4 13 1) (three 0b111 ∷ [])).words ≡ three 0b110 ∷ []
  all-object : operate_words 3 1 (Erode 8 1 9) (three 0b111 ∷ [])
      ≡ record { number = 0; changed = 0; used = 0; area = 3; words = three 0b111 ∷ [] }
  -- iterations that change nothing are not used
  used-less : (operate_words 3 1 (Dilate 4 9) (three 0b100 ∷ [])).used ≡ 2
  -- without iterations the area is told
  no-iterations : operate_words 3 1 (Erode 4 0 0) (three 0b101 ∷ [])
      ≡ record { number = 0; changed = 0; used = 0; area = 2; words = three 0b101 ∷ [] }
  -- a row of 64 pixels is one word, which has no unused bit, and one of 65 is two
  one_word : (operate_words 64 1 (Dilate 4 0) (1 ∷ [])).area ≡ 1
  two-words : (operate_words 65 1 (Dilate 4 0) (0 ∷ [])).number ≡ 2
  -- 1 before 2 before 18 before 5 before 6; a refusal keeps the rows, and its area is 0
  size : (operate_words 0 1 (Erode 5 2 1) (1 ∷ [])).number ≡ 1
  count : (operate_words 3 1 (Erode 5 2 1) (1 ∷ 1 ∷ [])).number ≡ 2
  unused : operate_words 3 1 (Erode 5 2 1) (1 ∷ [])
      ≡ record { number = 18; changed = 0; used = 0; area = 0; words = 1 ∷ [] }
  connectivity : (operate_words 3 1 (Erode 5 2 1) (three 0b111 ∷ [])).number ≡ 5
  border-value : (operate_words 3 1 (Erode 4 2 1) (three 0b111 ∷ [])).number ≡ 6
  sixteen : (operate_words 3 1 (ErodeBySides 4 16 1) (three 0b111 ∷ [])).number ≡ 6
  -- an image in bytes packed, and packed rows unpacked; 4 and 18 come behind 2
  packs : pack_words 3 2 (pixels 6 0b101_010) (7 ∷ 7 ∷ [])
      ≡ record { number = 0; image = pixels 6 0b101_010; words = three 0b101 ∷ three 0b010 ∷ [] }
  unpacks : unpack_words 3 2 (replicate 6 9) (three 0b101 ∷ three 0b010 ∷ [])
      ≡ record { number = 0; image = pixels 6 0b101_010; words = three 0b101 ∷ three 0b010 ∷ [] }
  pack-length : (pack_words 3 1 (2 ∷ 0 ∷ 0 ∷ []) []).number ≡ 2
  pack-pixel : pack_words 3 1 (2 ∷ 0 ∷ 0 ∷ []) (7 ∷ []) ≡ record
      { number = 4; image = 2 ∷ 0 ∷ 0 ∷ []; words = 7 ∷ [] }
  unpack-length : (unpack_words 3 1 (9 ∷ []) (1 ∷ [])).number ≡ 2
  unpack-unused : unpack_words 3 1 (replicate 3 9) (1 ∷ []) ≡ record
      { number = 18; image = replicate 3 9; words = 1 ∷ [] }

in_words : InWords
unfolding computed
in_words =
    record {
      dilated = refl;
      carried = refl;
      carried-back = refl;
      rows_apart = refl;
      right-object = refl;
      right-background = refl;
      all-object = refl;
      used-less = refl;
      no-iterations = refl;
      one_word = refl;
      two-words = refl;
      size = refl;
      count = refl;
      unused = refl;
      connectivity = refl;
      border-value = refl;
      sixteen = refl;
      packs = refl;
      unpacks = refl;
      pack-length = refl;
      pack-pixel = refl;
      unpack-length = refl;
      unpack-unused = refl;
    }
