-- What is claimed of whole lists of calls and of jobs: demand 3 of document 01 and the round trip of
-- demand 2; of labelling, Points 1 and 4 of document 02; of erosion by sides, Point 6; of a scan's blank rows, Point 3;
-- and of packed rows, Point 2. Statements only; `Demand3.antt`, `RoundTrip.antt`, `LabelsFit.antt`, `HoleClaims.antt`,
-- `SideClaims.antt`, `BlankClaims.antt` and `WordClaims.antt` in `theorems/proofs` prove them.
use Rattle.std.specs.Prelude.{ℕ, suc, ◌+◌, ◌-◌, ◌*◌, ◌^◌, ◌≤◌, ◌<◌, ◌≡◌, true, false, cond, ◌&&◌, ◌⊎◌, ◌↔◌, List, []}
use Rattle.std.specs.Prelude.{◌∷◌, eqb, length, get_or, drop}
use Rattle.std.proofs.Math.Option.{none}
use Rattle.lists.specs.Lists.{tabulate, any, iterate, occurrences, Each}
use Rattle.neighbours.specs.Limits.{max_pixels}
use Rattle.std.specs.Prelude.{None}
use Rattle.neighbours.specs.Grid.{directions, across, down, column, row, neighbour, on_border, value_at}
use Rattle.neighbours.specs.Grid.{neighbour_value}
use Rattle.neighbours.specs.Grid.{top_side, right_side, bottom_side, left_side, no_side, all_sides, has_side, position}
use Rattle.neighbours.specs.Grid.{Adjacent}
use Rattle.neighbours.specs.Contour.{contour}
use Rattle.neighbours.specs.Crop.{ValidSize}
use Rattle.neighbours.specs.Words.{word_bits}
use Rattle.model.specs.Limits.{u16_limit, record_length}
use Rattle.model.specs.Connectivity.{Connected}
use Rattle.model.specs.Operations.{least_iterations, changed}
use Rattle.model.specs.Labelling.{components, holes_by}
use Rattle.model.specs.Refusals.{reads_mask, label_refusal}
use Rattle.model.specs.Queue.{HoldsContour}
use Rattle.model.specs.Calls.{Call, operate, label, scan, Reply, operated, labelled, scanned, reply_number}
use Rattle.model.specs.Calls.{lent, call}
use Rattle.model.specs.Calls.{label_unless, replies, final, SameQueue, Meets}
use Rattle.model.specs.Codec.{Job, read_job, accepted_job, job_bytes, write_refusal, StepFits}
use Rattle.model.specs.Run.{Ran, after_run, steps_refusal, run_steps, run_job}
use Rattle.model.specs.Words.{words_length, unpacked_words, UnusedBit, UnusedClear, WordsAnswer, operate_words}
use Rattle.model.specs.Words.{pack_words, unpack_words}
use Rattle.model.specs.Listing.{with_labels, lane_zeros, lane_entries, lane_final, steps_listing, job_listing}
use Rattle.model.specs.declared.Step.{Step}
use Rattle.model.specs.declared.Step.TheVariants.{Erode, Dilate, ErodeBySides}
use Rattle.model.specs.declared.Start.{Start}
use Rattle.model.specs.declared.Start.TheVariants.{Scan, Contour}

-- ---- a list of calls

-- calls that each meet their contract, one after another on one image buffer and one queue
pub data MeetAll (width height : ℕ) : List ℕ → List ℕ → List Call → List Reply → List ℕ → List ℕ → Type 0 where
  done : {image queue : List ℕ} → MeetAll width height image queue [] [] image queue
  next : {image queue image' queue' image'' queue'' : List ℕ} {c : Call} {cs : List Call}
      {r : Reply} {rs : List Reply} →
      Meets width height image queue c r image' queue' → MeetAll width height image' queue' cs rs image'' queue'' →
      MeetAll width height image queue (c ∷ cs) (r ∷ rs) image'' queue''

-- what the model, fed the image and the queue as first lent and the calls, gives: the replies, the image
-- and, but for its contour's order, the queue
pub record AsModelled (width height : ℕ) (image queue : List ℕ) (cs : List Call) (rs : List Reply)
    (image' queue' : List ℕ) : Type 0 where
  pub replied : rs ≡ replies width height (lent image queue) cs
  pub pictured : image' ≡ (final width height (lent image queue) cs).image
  pub queued : SameQueue queue' (final width height (lent image queue) cs)

-- Demand 3: any list of calls, refused ones included, gives what the model gives. What has been done
-- after any number of the calls is a list of calls too, so this says it after each
abbrev pub Demand3 : Type 0
Demand3 =
    (width height : ℕ) (image queue image' queue' : List ℕ) (cs : List Call) (rs : List Reply) →
    MeetAll width height image queue cs rs image' queue' → AsModelled width height image queue cs rs image' queue'

-- ---- the contour handed on

-- an operation, or a scan by itself
abbrev pub IsOperation : Call → Type 0
IsOperation (operate step mask start) = Unit {0}
IsOperation (label connectivity component_labels hole_labels records) = ⊥
IsOperation scan = Unit {0}

-- the contour length that a reply reports
unfoldable pub contour_length : Reply → ℕ
contour_length (operated n changed used len) = len
contour_length (labelled n components holes component_labels hole_labels records) = 0
contour_length (scanned n len blank) = len

-- a reply that is a refusal, and one that is not
abbrev pub IsRefused : Reply → Type 0
IsRefused r = reply_number r ≡ 0 → ⊥

abbrev pub IsAccepted : Reply → Type 0
IsAccepted r = reply_number r ≡ 0

-- After an accepted operation the queue's front of the reported length is exactly the contour of the
-- image, each position once and no other, with zeros behind
abbrev pub ContourExact : Type 0
ContourExact =
    (width height : ℕ) (image queue image' queue' : List ℕ) (c : Call) (r : Reply) → IsOperation c →
    Meets width height image queue c r image' queue' → IsAccepted r →
    HoldsContour width height image' queue' (contour_length r)

-- The contour that an accepted operation left, handed in with its length when only refused operations
-- came between, never gives 8, whatever its order
abbrev pub ContourAccepted : Type 0
ContourAccepted =
    (width height : ℕ) (image queue image' queue' image'' queue'' image''' queue''' : List ℕ)
    (c : Call) (r : Reply) (cs : List Call) (rs : List Reply) (step : Step) (mask : List ℕ) (r' : Reply) →
    IsOperation c → Meets width height image queue c r image' queue' → IsAccepted r →
    MeetAll width height image' queue' cs rs image'' queue'' → Each IsOperation cs → Each IsRefused rs →
    Meets width height image'' queue'' (operate step mask (Contour (contour_length r))) r' image''' queue''' →
    reply_number r' ≡ 8 → ⊥

-- ---- labels of 16 bits

-- 02, Point 1: "With pictures of at most 65,536 pixels neither 9 nor 10 can then arise", by either connectivity
-- and whatever is lent
abbrev pub LabelsFit : Type 0
LabelsFit =
    (width height : ℕ) (image queue image' queue' : List ℕ) (connectivity : ℕ)
    (component_labels hole_labels records : List ℕ) (r : Reply) → width * height ≤ u16_limit →
    Meets width height image queue (label connectivity component_labels hole_labels records) r image' queue' →
    (reply_number r ≡ 9 → ⊥) × (reply_number r ≡ 10 → ⊥)

-- the numbers that a labelling counts and its maps hold fit 16 bits
abbrev pub NarrowLabels : Reply → Type 0
NarrowLabels (operated n changed used len) = Unit {0}
NarrowLabels (scanned n len blank) = Unit {0}
NarrowLabels (labelled n components holes component_labels hole_labels records) =
    (components < u16_limit) × (holes < u16_limit)
    × ((i : ℕ) → (get_or component_labels i 0 < u16_limit) × (get_or hole_labels i 0 < u16_limit))

-- 02, Point 1: "Part and hole numbers in the maps become 16 bits wide", and of any crop none needs more
abbrev pub LabelsNarrow : Type 0
LabelsNarrow =
    (width height : ℕ) (image queue image' queue' : List ℕ) (connectivity : ℕ)
    (component_labels hole_labels records : List ℕ) (r : Reply) →
    Meets width height image queue (label connectivity component_labels hole_labels records) r image' queue' →
    IsAccepted r → NarrowLabels r

-- ---- holes by the other connectivity

-- The labels of the whole connected sets of background pixels, by a connectivity, with no pixel in the first or
-- last row or column. A pixel has one exactly if it is background and no path of background joins it to such a
-- row or column. Another pixel has the same exactly if a path of background joins the two. They go from 1 to
-- `count` in the order of their first pixels: each has one, before which stand lower labels alone
pub record LabelsHoles (width height connectivity : ℕ) (image : List ℕ) (count : ℕ) (labels : List ℕ)
    : Type 0 where
  pub size : length labels ≡ width * height
  pub hole : (i : ℕ) → i < width * height →
      (get_or labels i 0 ≡ 0 → ⊥) ↔ (
      (get_or image i 0 ≡ 0)
      × ((j : ℕ) → on_border width height j ≡ true → Connected width height connectivity 0 image j i → ⊥))
  pub same : (i j : ℕ) → i < width * height → (get_or labels i 0 ≡ 0 → ⊥) →
      (get_or labels i 0 ≡ get_or labels j 0) ↔ Connected width height connectivity 0 image i j
  pub most : (i : ℕ) → get_or labels i 0 ≤ count
  pub first : (a : ℕ) → 1 ≤ a → a ≤ count →
      (f : ℕ) × (f < width * height) × (get_or labels f 0 ≡ a) × ((j : ℕ) → j < f → get_or labels j 0 < a)

-- the hole map of a reply has such labels, as many as the reply counts
abbrev pub HoleMap : ℕ → ℕ → ℕ → List ℕ → Reply → Type 0
HoleMap width height connectivity image (operated n changed used len) = ⊥
HoleMap width height connectivity image (scanned n len blank) = ⊥
HoleMap width height connectivity image (labelled n components holes component_labels hole_labels records) =
    LabelsHoles width height connectivity image holes hole_labels

-- 02, Point 4: "4-linked background round 8-linked parts, 8-linked background round 4-linked parts", in the hole map
-- of every accepted labelling
abbrev pub HolesByOther : Type 0
HolesByOther =
    (width height : ℕ) (image queue image' queue' : List ℕ) (connectivity : ℕ)
    (component_labels hole_labels records : List ℕ) (r : Reply) →
    Meets width height image queue (label connectivity component_labels hole_labels records) r image' queue' →
    IsAccepted r →
    ((connectivity ≡ 4) × HoleMap width height 8 image r)
    ⊎ ((connectivity ≡ 8) × HoleMap width height 4 image r)

-- What labelling replied by 01 alone, where "a hole is a whole 4-linked set of background pixels" whatever the
-- connectivity
unfoldable pub reply_before : ℕ → ℕ → List ℕ → List ℕ → ℕ →
    List ℕ → List ℕ → List ℕ → Reply
reply_before width height image queue connectivity component_labels hole_labels records =
    (label_unless width height (label_refusal width height image queue connectivity component_labels hole_labels)
    (lent image queue) (components width height connectivity image) (holes_by width height 4 image)
    component_labels hole_labels records).reply

-- 02, Point 4: "Numbering by 8 .. is as before": refusals, counts, maps and records, whatever is lent
abbrev pub EightAsBefore : Type 0
EightAsBefore =
    (width height : ℕ) (image queue image' queue' component_labels hole_labels records : List ℕ) (r : Reply) →
    Meets width height image queue (label 8 component_labels hole_labels records) r image' queue' →
    r ≡ reply_before width height image queue 8 component_labels hole_labels records

-- ".. and so the lane listing", that of every accepted job
abbrev pub ListingAsBefore : Type 0
ListingAsBefore =
    (job : Job) → let zeros = lane_zeros job in let end = lane_final job in
    job_listing job
    ≡ with_labels (steps_listing job)
    (reply_before job.width job.height end.image end.queue 8 zeros zeros lane_entries)

-- Two replies of labelling that differ in the holes alone: number, components and their map are the same, and so
-- are the entries of each record but the last two, the holes it encloses and the enclosing component, and all
-- entries behind the records. A refusal counts no component, so all entries are the same then
abbrev pub SameButHoles : Reply → Reply → Type 0
SameButHoles (operated n changed used len) r = ⊥
SameButHoles (scanned n len blank) r = ⊥
SameButHoles (labelled n components holes component_labels hole_labels records) (operated n' changed used len) = ⊥
SameButHoles (labelled n components holes component_labels hole_labels records) (scanned n' len blank) = ⊥
SameButHoles (labelled n components holes component_labels hole_labels records)
    (labelled n' components' holes' component_labels' hole_labels' records') =
    (n ≡ n') × (components ≡ components') × (component_labels ≡ component_labels')
    × (length records ≡ length records')
    × ((p k : ℕ) → p < components → k < record_length - 2 →
    get_or records (record_length * p + k) 0 ≡ get_or records' (record_length * p + k) 0)
    × (drop (record_length * components) records ≡ drop (record_length * components) records')

-- By either connectivity nothing but the holes changes. What is refused does not change
abbrev pub ComponentsAsBefore : Type 0
ComponentsAsBefore =
    (width height : ℕ) (image queue image' queue' : List ℕ) (connectivity : ℕ)
    (component_labels hole_labels records : List ℕ) (r : Reply) →
    Meets width height image queue (label connectivity component_labels hole_labels records) r image' queue' →
    SameButHoles r (reply_before width height image queue connectivity component_labels hole_labels records)

-- ---- erosion by sides

-- each side beyond which the place in column x - 1 and row y - 1 lies is named
pub record BeyondNamed (width height sides x y : ℕ) : Type 0 where
  pub top : y < 1 → has_side sides top_side ≡ true
  pub right : width < x → has_side sides right_side ≡ true
  pub bottom : height < y → has_side sides bottom_side ≡ true
  pub left : x < 1 → has_side sides left_side ≡ true

-- 02, Point 6: "What the neighbour rules promise about a pixel beyond the edge now depends on the side". A neighbour
-- outside is object, and else background, exactly if each side beyond which it lies is named: "beyond two sides ..
-- only if both are"
abbrev pub OutsideBySides : Type 0
OutsideBySides =
    (width height sides : ℕ) (image : List ℕ) (i d : ℕ) → neighbour width height i d ≡ None →
    (neighbour_value width height sides image i d ≤ 1)
    × ((neighbour_value width height sides image i d ≡ 1)
    ↔ BeyondNamed width height sides (column width i + across d) (row width i + down d))

-- each side along which position i lies is named
pub record AlongNamed (width height sides i : ℕ) : Type 0 where
  pub top : row width i ≡ 0 → has_side sides top_side ≡ true
  pub right : column width i + 1 ≡ width → has_side sides right_side ≡ true
  pub bottom : row width i + 1 ≡ height → has_side sides bottom_side ≡ true
  pub left : column width i ≡ 0 → has_side sides left_side ≡ true

-- image' is the image after one iteration by sides: a pixel is object in it exactly if it was, each of its
-- neighbours inside was, and each side along which it lies is named
pub record ErodedOnce (width height connectivity sides : ℕ) (image image' : List ℕ) : Type 0 where
  pub size : length image' ≡ width * height
  pub bits : (i : ℕ) → get_or image' i 0 ≤ 1
  pub object : (i : ℕ) → i < width * height →
      (get_or image' i 0 ≡ 1)
      ↔ ((get_or image i 0 ≡ 1) × ((j : ℕ) → Adjacent width height connectivity i j → get_or image j 0 ≡ 1)
      × AlongNamed width height sides i)

-- 02, Point 6: "erosion .. the surround byte naming each side", of every accepted call with one iteration
abbrev pub ErodedBySides : Type 0
ErodedBySides =
    (width height connectivity sides : ℕ) (image mask queue image' queue' : List ℕ) (start : Start)
    (r : Reply) →
    Meets width height image queue (operate (ErodeBySides connectivity sides 1) mask start) r image' queue' →
    IsAccepted r → ErodedOnce width height connectivity sides image image'

-- After the first iteration the sides no longer matter: n + 1 iterations by sides leave the image that one by these
-- sides and then n by all four leave
abbrev pub SidesMatterOnce : Type 0
SidesMatterOnce =
    (width height connectivity sides n : ℕ)
    (image mask queue image' queue' : List ℕ) (start : Start) (r : Reply)
    (mask₁ queue₁ image₁ queue₁' : List ℕ) (start₁ : Start) (r₁ : Reply)
    (mask₂ queue₂ image₂ queue₂' : List ℕ) (start₂ : Start) (r₂ : Reply) →
    let by_these : ℕ → Step = ErodeBySides connectivity sides in
    let by_all : ℕ → Step = ErodeBySides connectivity all_sides in
    Meets width height image queue (operate (by_these (suc n)) mask start) r image' queue' →
    Meets width height image queue₁ (operate (by_these 1) mask₁ start₁) r₁ image₁ queue₁' →
    Meets width height image₁ queue₂ (operate (by_all n) mask₂ start₂) r₂ image₂ queue₂' →
    IsAccepted r → IsAccepted r₁ → IsAccepted r₂ → image' ≡ image₂

-- 02, Point 6: "Kind 1 means 0 or 15 here": by border value 0 a call meets its contract exactly as one by no side
-- does, and by 1 as one by all four, refusals included
abbrev pub KindOneBySides : Type 0
KindOneBySides =
    (width height connectivity n : ℕ) (image mask queue image' queue' : List ℕ) (start : Start)
    (r : Reply) →
    (Meets width height image queue (operate (Erode connectivity 0 n) mask start) r image' queue'
    ↔ Meets width height image queue (operate (ErodeBySides connectivity no_side n) mask start) r image' queue')
    × (Meets width height image queue (operate (Erode connectivity 1 n) mask start) r image' queue'
    ↔ Meets width height image queue (operate (ErodeBySides connectivity all_sides n) mask start) r image' queue')

-- One step of erosion as 01 alone has it: "Outside neighbours have the surround's value", wherever they lie
unfoldable pub erode_before : ℕ → ℕ → ℕ → ℕ → List ℕ → List ℕ
erode_before width height connectivity border_value image =
    tabulate (width * height)
    (λ i. cond
    (eqb (get_or image i 0) 1
    && any (λ d. eqb (value_at border_value image (neighbour width height i d)) 0) (directions connectivity))
    0
    (get_or image i 0))

-- An erosion by a border value leaves and counts what it did: the image after so many of these steps, the pixels
-- that differ, the least number of steps, and the contour's length
abbrev pub ErosionAsBefore : Type 0
ErosionAsBefore =
    (width height connectivity border_value n : ℕ) (image mask queue image' queue' : List ℕ) (start : Start)
    (r : Reply) →
    Meets width height image queue (operate (Erode connectivity border_value n) mask start) r image' queue' →
    IsAccepted r →
    (image' ≡ iterate (erode_before width height connectivity border_value) n image)
    × (r ≡ operated 0 (changed width height image image')
    (least_iterations (erode_before width height connectivity border_value) n image)
    (length (contour width height image')))

-- ---- blank rows

-- the rows without an object pixel that a reply counts
unfoldable pub blank_in : Reply → ℕ
blank_in (operated n changed used len) = 0
blank_in (labelled n components holes component_labels hole_labels records) = 0
blank_in (scanned n len blank) = blank

-- row y has no object pixel
abbrev pub Blank : ℕ → List ℕ → ℕ → Type 0
Blank width image y = (x : ℕ) → x < width → get_or image (position width x y) 0 ≡ 0

-- Rows of a crop that are exactly those without an object pixel, each once
pub record BlankOnes (width height : ℕ) (image : List ℕ) (ys : List ℕ) : Type 0 where
  pub blank : (y : ℕ) → y < height → Blank width image y → occurrences y ys ≡ 1
  pub others : (y : ℕ) → ((y < height) × Blank width image y → ⊥) → occurrences y ys ≡ 0

-- 02, Point 3: "its own answer tells how many rows it passed over: exactly those without an object pixel", of every
-- accepted scan
abbrev pub BlankRowsTold : Type 0
BlankRowsTold =
    (width height : ℕ) (image queue image' queue' : List ℕ) (r : Reply) →
    Meets width height image queue scan r image' queue' → IsAccepted r →
    (ys : List ℕ) × (length ys ≡ blank_in r) × BlankOnes width height image ys

-- A refused one tells 0
abbrev pub NoneTold : Type 0
NoneTold =
    (width height : ℕ) (image queue image' queue' : List ℕ) (r : Reply) →
    Meets width height image queue scan r image' queue' → IsRefused r → r ≡ scanned (reply_number r) 0 0

-- ".. What the sweep finds, and all that rests on it, remains": number, contour length, image and queue are those of an
-- operation by a scan that asks for no iteration, which 01 alone settles
abbrev pub ScanAsBefore : Type 0
ScanAsBefore =
    (width height : ℕ) (image queue image' queue' : List ℕ) (r : Reply) →
    Meets width height image queue scan r image' queue' →
    let idle = call width height (lent image queue) (operate (Dilate 4 0) [] Scan) in
    (reply_number r ≡ reply_number idle.reply) × (contour_length r ≡ contour_length idle.reply)
    × (image' ≡ idle.state.image) × SameQueue queue' idle.state

-- ---- the run of a job

-- calls that do the steps of a list in turn with one mask, each by its own start
pub data StepCalls (mask : List ℕ) : List Step → List Call → Type 0 where
  no_call : StepCalls mask [] []
  step_call : {steps : List Step} {cs : List Call} (step : Step) (start : Start) →
      StepCalls mask steps cs → StepCalls mask (step ∷ steps) (operate step mask start ∷ cs)

-- A run that gives what its steps give as a list of calls on the image with the mask, by a scan or from a
-- contour that is accepted. Neither the run nor a step of it is refused, the mask is the one given, and a
-- labelling after the run is the list's next call. Without steps the image is the one given. The queue holds
-- the contour of the last image, also without steps
pub record RunIsList (width height : ℕ) (steps : List Step) (image mask queue : List ℕ) (ran : Ran) : Type 0 where
  pub accepted : ran.number ≡ 0
  pub each : Each IsAccepted ran.replies
  pub masked : ran.mask ≡ mask
  pub contour : HoldsContour width height ran.image ran.queue ran.contour_length
  pub list : (cs : List Call) (rs : List Reply) (image' queue' : List ℕ) → StepCalls mask steps cs →
      Each IsAccepted rs →
      MeetAll width height image queue cs rs image' queue' → (rs ≡ ran.replies) × (image' ≡ ran.image)
  pub next : (cs : List Call) (rs : List Reply) (image' queue' image'' queue'' : List ℕ) →
      (connectivity : ℕ) (component_labels hole_labels records : List ℕ) (r : Reply) → StepCalls mask steps cs →
      Each IsAccepted rs → MeetAll width height image queue cs rs image' queue' →
      Meets width height image' queue' (label connectivity component_labels hole_labels records) r image'' queue'' →
      r ≡ (call width height (after_run ran) (label connectivity component_labels hole_labels records)).reply

-- so does the run of an accepted job with lent buffers that fit, with its own image and mask
abbrev pub JobRun : Type 0
JobRun =
    (limit : ℕ) (bytes : List ℕ) (job : Job) (image mask queue : List ℕ) → read_job limit bytes ≡ accepted_job job →
    length image ≡ job.width * job.height → length mask ≡ job.width * job.height →
    job.width * job.height ≤ length queue →
    RunIsList job.width job.height job.steps job.image job.mask queue
    (run_job limit bytes image mask queue)

-- and the run of steps in hand that is not refused
abbrev pub StepsRun : Type 0
StepsRun =
    (width height : ℕ) (steps : List Step) (image mask queue : List ℕ) →
    steps_refusal width height steps image mask queue ≡ none →
    RunIsList width height steps image mask queue (run_steps width height steps image mask queue)

-- ---- a written job

-- a job that writing does not refuse reads back as itself
abbrev pub WrittenReadsBack : Type 0
WrittenReadsBack =
    (job : Job) (buffer : List ℕ) → write_refusal job buffer ≡ none →
    read_job max_pixels (job_bytes job) ≡ accepted_job job

-- and is written as bytes, where the fields of its steps fit their widths, as those of a step in hand do
abbrev pub WrittenAsBytes : Type 0
WrittenAsBytes =
    (job : Job) (buffer : List ℕ) → write_refusal job buffer ≡ none → Each StepFits job.steps →
    (k : ℕ) → get_or (job_bytes job) k 0 < 256

-- An accepted job, written again, has the same bytes. A buffer of its length is not refused
abbrev pub ReadWritesBack : Type 0
ReadWritesBack =
    (limit : ℕ) (bytes : List ℕ) (job : Job) → ((k : ℕ) → get_or bytes k 0 < 256) →
    read_job limit bytes ≡ accepted_job job →
    (job_bytes job ≡ bytes) × (write_refusal job bytes ≡ none)

-- ---- packed rows

-- "For every crop, linking, surround and step count the packed result unpacks to the picture that the queue gives, and
-- changed and used agree": an operation on packed rows and the same operation on the image that they unpack to, from a
-- scan or from a contour, where neither is refused. The area is the number of object pixels of the result, and its
-- unused bits are 0
abbrev pub PackedAsQueue : Type 0
PackedAsQueue =
    (width height : ℕ) (step : Step) (rows queue image' queue' : List ℕ) (start : Start) (answer : WordsAnswer)
    (r : Reply) →
    answer ≡ operate_words width height step rows → answer.number ≡ 0 →
    Meets width height (unpacked_words width height rows) queue (operate step [] start) r image' queue' →
    IsAccepted r →
    (unpacked_words width height answer.words ≡ image')
    × (r ≡ operated 0 answer.changed answer.used (length (contour width height image')))
    × (answer.area ≡ occurrences 1 image')
    × UnusedClear width height answer.words

-- Where packed rows of a crop have their number of words and no unused bit set, and the queue has an entry for each
-- pixel, both calls are refused with the same number, or neither is
abbrev pub RefusedAsQueue : Type 0
RefusedAsQueue =
    (width height : ℕ) (step : Step) (rows queue image' queue' : List ℕ) (answer : WordsAnswer) (r : Reply) →
    reads_mask step ≡ false →
    answer ≡ operate_words width height step rows →
    ValidSize width height → length rows ≡ words_length width height → UnusedClear width height rows →
    width * height ≤ length queue →
    Meets width height (unpacked_words width height rows) queue (operate step [] Scan) r image' queue' →
    answer.number ≡ reply_number r

-- "18 when such a bit is set": of a crop's size and number of words, exactly then
abbrev pub UnusedRefused : Type 0
UnusedRefused =
    (width height : ℕ) (step : Step) (rows : List ℕ) (answer : WordsAnswer) →
    answer ≡ operate_words width height step rows →
    ValidSize width height → length rows ≡ words_length width height →
    (answer.number ≡ 18) ↔ UnusedBit width height rows

-- An image that is packed, and then unpacked into a buffer of its size, comes back
abbrev pub PackedUnpacks : Type 0
PackedUnpacks =
    (width height number : ℕ) (image image₀ image' rows rows' : List ℕ) →
    record { number = 0; image = image; words = rows' } ≡ pack_words width height image rows →
    length image₀ ≡ width * height →
    record { number = number; image = image'; words = rows' } ≡ unpack_words width height image₀ rows' →
    (number ≡ 0) × (image' ≡ image)

-- and so do packed rows of 64-bit words that are unpacked, and then packed into a buffer of their size
abbrev pub UnpackedPacks : Type 0
UnpackedPacks =
    (width height number : ℕ) (image image' rows rows₀ rows' : List ℕ) →
    ((k : ℕ) → get_or rows k 0 < 2 ^ word_bits) →
    record { number = 0; image = image'; words = rows } ≡ unpack_words width height image rows →
    length rows₀ ≡ words_length width height →
    record { number = number; image = image'; words = rows' } ≡ pack_words width height image' rows₀ →
    (number ≡ 0) × (rows' ≡ rows)
