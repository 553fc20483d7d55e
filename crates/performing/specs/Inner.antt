-- What one call of an operation, and one step of a list, require and promise. Only inner contracts cite these; the
-- entry points' contracts are `Meets`, of the crate `model`. Definitions only.
--   Workable                                     what an operation on words works on
--   Scanned, Unchanged                           a scan by itself; an operation that changes nothing
--   HandsOn                                      an image, and its contour handed on
--   words_step, way_step                         what goes on words, and however it goes, as a step
--   way_of                                       how a step goes
--   idle                                         no iteration is asked for
--   Chosen                                       the engine that does an operation
--   PackedFor                                    the rows that the check of a contour leaves
--   Accepted, Performable, Runnable, Performed   one call: what it asks, and what it leaves
--   StepReady, RowsStepped                       one step of a list: what it asks, and what it leaves
use Rattle.std.specs.Prelude.{ℕ, ◌*◌, ◌≤◌, ◌≡◌, Bool, true, List, eqb, length}
use Rattle.std.proofs.Math.Option.{none, some}
use Rattle.neighbours.specs.Crop.{Binary, Ready}
use Rattle.neighbours.specs.Contour.{contour}
use Rattle.neighbours.specs.BlankRows.{blank_row_count}
use Rattle.model.specs.Operations.{border_sides, apply, changed, used}
use Rattle.model.specs.Refusals.{first_refusal, step_checks, start_checks, reads_mask}
use Rattle.model.specs.Calls.{SameQueue, with_contour}
use Rattle.model.specs.declared.Refusal.TheVariants.{WrongContour}
use Rattle.model.specs.declared.Step.{Step}
use Rattle.model.specs.declared.Step.TheVariants.{Erode, Dilate, Propagate, FloodFill, ClearBorder, ErodeBySides}
use Rattle.model.specs.declared.Refusal.{Refusal}
use Rattle.std.specs.Prelude.{Result, Ok, Err}
use Rattle.model.specs.declared.Start.{Start}
use Rattle.model.specs.declared.Start.TheVariants.{Scan, Contour}
use Rattle.model.specs.declared.Report.{Report}
use Rattle.model.specs.declared.ScanReport.{ScanReport}
use Rattle.model.specs.Words.{packed_words}
use Rattle.words.specs.Room.{front_rows, InRoom, HeldRows}
use Rattle.operations.specs.Inner.{contour_step, Operated}
use Rattle.performing.specs.declared.Engine.{Engine}
use Rattle.performing.specs.declared.Engine.TheVariants.{Words, Queue}
use Rattle.performing.specs.declared.OnWords.{OnWords}
use Rattle.performing.specs.declared.OnWords.TheVariants as words
use Rattle.performing.specs.declared.Way.{Way}
use Rattle.performing.specs.declared.Way.TheVariants as way

-- an image and a queue that are ready, and two buffers with room for the image's frame in words
pub record Workable (width height : ℕ) (image queue rows entries : List ℕ) : Type 0 where
  pub ready : Ready width height image queue
  pub in_room : InRoom width height rows entries

-- a scan by itself: its report, and the contour in the queue, in some order, with zeros behind
pub record Scanned (width height : ℕ) (image queue : List ℕ) (report : ScanReport) (queue' : List ℕ)
    : Type 0 where
  pub reported : report
      ≡ record {
        contour_len = length (contour width height image);
        blank_rows = blank_row_count width height image;
      }
  pub queued : SameQueue queue' (with_contour width height image queue)

-- an operation that changes nothing: the same queue, and the report of an operation
pub record Unchanged (width height : ℕ) (image queue : List ℕ) (report : Report) (queue' : List ℕ)
    : Type 0 where
  pub reported : report ≡ record { changed = 0; used = 0; contour_len = length (contour width height image) }
  pub queued : SameQueue queue' (with_contour width height image queue)

-- the image is `after`, and the queue holds its contour, so many positions in some order, with zeros behind
pub record HandsOn (width height : ℕ) (after queue image' queue' : List ℕ) (len : ℕ) : Type 0 where
  pub pictured : image' ≡ after
  pub lasting : len ≡ length (contour width height after)
  pub queued : SameQueue queue' (with_contour width height after queue)

-- ---- how a step goes

-- what goes on words, as a step
unfoldable pub words_step : OnWords → Step
words_step (words.Erode connectivity sides n) = ErodeBySides connectivity sides n
words_step (words.Dilate connectivity n) = Dilate connectivity n
words_step (words.Propagate connectivity n) = Propagate connectivity n

-- and however it goes
unfoldable pub way_step : Way → Step
way_step (way.Words how) = words_step how
way_step (way.FloodFill connectivity x y) = FloodFill connectivity x y
way_step (way.ClearBorder connectivity) = ClearBorder connectivity

-- erosions, dilations and propagations go on words; an erosion by a border value is one by the sides that it names
unfoldable pub way_of : Step → Way
way_of (Erode connectivity border_value n) = way.Words (words.Erode connectivity (border_sides border_value) n)
way_of (Dilate connectivity n) = way.Words (words.Dilate connectivity n)
way_of (Propagate connectivity n) = way.Words (words.Propagate connectivity n)
way_of (FloodFill connectivity x y) = way.FloodFill connectivity x y
way_of (ClearBorder connectivity) = way.ClearBorder connectivity
way_of (ErodeBySides connectivity sides n) = way.Words (words.Erode connectivity sides n)

-- ---- one call

-- no iteration is asked for
unfoldable pub idle : OnWords → Bool
idle (words.Erode connectivity sides n) = eqb n 0
idle (words.Dilate connectivity n) = eqb n 0
idle (words.Propagate connectivity n) = eqb n 0

-- the queue engine is only chosen for a contour handed in, and then from that
unfoldable pub Chosen : Way → Start → Engine → Type 0
Chosen how start Words = Unit {0}
Chosen how start (Queue what len) = (start ≡ Contour len) × (way_step how ≡ contour_step what)

-- where a contour handed in was held against them, the rows are the image's
unfoldable pub PackedFor : ℕ → ℕ → List ℕ → Start → List ℕ → Type 0
PackedFor width height image Scan rows = Unit {0}
PackedFor width height image (Contour len) rows = front_rows width height rows ≡ packed_words width height image

-- a call that the rows "buffers" and "operation" do not refuse
pub record Accepted (width height : ℕ) (step : Step) (image mask queue : List ℕ) : Type 0 where
  pub ready : Ready width height image queue
  pub passes : first_refusal (step_checks width height step) ≡ none
  pub masked : reads_mask step ≡ true → Binary width height mask

-- and with room to work in
pub record Performable (width height : ℕ) (step : Step) (image mask queue rows entries : List ℕ) : Type 0 where
  pub accepted : Accepted width height step image mask queue
  pub in_room : InRoom width height rows entries

-- and that starts by a scan or from a contour that is right
pub record Runnable (width height : ℕ) (step : Step) (image mask queue : List ℕ) (start : Start)
    (rows entries : List ℕ) : Type 0 where
  pub call : Performable width height step image mask queue rows entries
  pub right : first_refusal (start_checks width height image queue start) ≡ none
  pub packed : PackedFor width height image start rows

-- it is done, or the contour handed in is wrong and all is as it was
unfoldable pub Performed : ℕ → ℕ → Step → List ℕ → List ℕ → List ℕ → Start → Result Report Refusal →
    List ℕ → List ℕ → Type 0
Performed width height step mask image queue start (Ok report) image' queue' =
    (first_refusal (start_checks width height image queue start) ≡ none)
    × Operated width height step mask image queue report image' queue'
Performed width height step mask image queue start (Err refusal) image' queue' =
    (refusal ≡ WrongContour)
    × (first_refusal (start_checks width height image queue start) ≡ some WrongContour)
    × (image' ≡ image)
    × (queue' ≡ queue)

-- ---- one step of a list

-- the packed rows of an image, a step that is not refused, and an image and a queue to work in
pub record StepReady (width height : ℕ) (step : Step) (image mask queue rows entries : List ℕ) : Type 0 where
  pub held : HeldRows width height rows entries
  pub sized : length image ≡ width * height
  pub room : width * height ≤ length queue
  pub passes : first_refusal (step_checks width height step) ≡ none
  pub masked : reads_mask step ≡ true → Binary width height mask

-- the rows are those of the image after the step, and its three numbers are the model's
pub record RowsStepped (width height : ℕ) (step : Step) (mask image : List ℕ) (report : Report)
    (rows' : List ℕ) : Type 0 where
  pub packed : front_rows width height rows' ≡ packed_words width height (apply width height step mask image)
  pub counted : report.changed ≡ changed width height image (apply width height step mask image)
  pub least : report.used ≡ used width height step mask image
  pub lasting : report.contour_len ≡ length (contour width height (apply width height step mask image))
