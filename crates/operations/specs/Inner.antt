-- What the operations by the queue engine require and promise. Only inner contracts cite these; the entry points'
-- contracts are `Meets`, of the crate `model`. Definitions only.
--   InHand                 the contour stands at the queue's front, in some order
--   contour_step           what goes from a contour, as a step
--   Prepared               what it starts from
--   Operated               what an operation leaves and reports
--   Gatherable, Gathered   the 4-neighbours of a stretch that hold a value: what gathering asks and gives
--   Peelable, Peeled       the first layer of an erosion: what it asks and gives
use Rattle.std.specs.Prelude.{ℕ, ◌+◌, ◌*◌, ◌≤◌, ◌<◌, ◌≡◌, true, ◌&&◌, not, eqb, length, get_or, take}
use mathlib.Core.List.{List, flat_map}
use Rattle.std.proofs.Math.Option.{none}
use Rattle.std.proofs.Math.Seq.{slice}
use Rattle.lists.specs.Lists.{any, occurrences, bit}
use Rattle.neighbours.specs.Grid.{is_connectivity}
use Rattle.neighbours.specs.Crop.{ValidSize, Binary, Ready, neighbours}
use Rattle.neighbours.specs.Contour.{contour}
use Rattle.model.specs.Steps.{erode_once}
use Rattle.model.specs.Operations.{apply, changed, used}
use Rattle.model.specs.Refusals.{first_refusal, step_checks}
use Rattle.model.specs.Calls.{SameQueue, with_contour}
use Rattle.model.specs.declared.Step.{Step}
use Rattle.model.specs.declared.Step.TheVariants as step
use Rattle.model.specs.declared.Report.{Report}
use Rattle.engine.specs.declared.Rule.{Rule}
use Rattle.operations.specs.declared.FromContour.{FromContour}
use Rattle.operations.specs.declared.FromContour.TheVariants.{Erode, Dilate, FloodFill}
use Rattle.operations.specs.declared.Layer.{Layer}

-- the contour of the image stands at the queue's front, `len` positions in some order
pub record InHand (width height : ℕ) (image queue : List ℕ) (len : ℕ) : Type 0 where
  pub counted : len ≡ length (contour width height image)
  pub front : (i : ℕ) → occurrences i (take len queue) ≡ occurrences i (contour width height image)

-- what goes from a contour, as a step
unfoldable pub contour_step : FromContour → Step
contour_step (Erode connectivity sides n) = step.ErodeBySides connectivity sides n
contour_step (Dilate connectivity n) = step.Dilate connectivity n
contour_step (FloodFill connectivity x y) = step.FloodFill connectivity x y

-- what it starts from: nothing in the table refuses it, and the contour is in hand
pub record Prepared (width height : ℕ) (step : Step) (image queue : List ℕ) (len : ℕ) : Type 0 where
  pub ready : Ready width height image queue
  pub passes : first_refusal (step_checks width height step) ≡ none
  pub hand : InHand width height image queue len

-- an operation's image and three numbers are the model's, and the queue holds the contour of the image
-- after, in some order, with zeros behind
pub record Operated (width height : ℕ) (step : Step) (mask image queue : List ℕ) (report : Report)
    (image' queue' : List ℕ) : Type 0 where
  pub pictured : image' ≡ apply width height step mask image
  pub counted : report.changed ≡ changed width height image image'
  pub least : report.used ≡ used width height step mask image
  pub lasting : report.contour_len ≡ length (contour width height image')
  pub queued : SameQueue queue' (with_contour width height image' queue)

-- ---- what the operations are made of

-- what gathering the 4-neighbours that hold a value starts from: positions of the crop in the queue from `from` up
-- to `to`, with room behind for every pixel that holds it
pub record Gatherable (width height : ℕ) (image queue : List ℕ) (from to value : ℕ) : Type 0 where
  pub valid : ValidSize width height
  pub binary : Binary width height image
  pub is_bit : value ≤ 1
  pub ordered : from ≤ to
  pub room : to + occurrences value image ≤ length queue
  pub entries : (k : ℕ) → from ≤ k → k < to → get_or queue k 0 < width * height

-- Of the positions in a stretch, their 4-neighbours that hold the value are gathered at the queue's front,
-- each once and no other
pub record Gathered (width height : ℕ) (image stretch : List ℕ) (value : ℕ) (queue queue' : List ℕ)
    (len : ℕ) : Type 0 where
  pub size : length queue' ≡ length queue
  pub within : len ≤ length queue
  pub once : (k : ℕ) → k < width * height →
      occurrences k (take len queue')
      ≡ bit (eqb (get_or image k 0) value && any (eqb k) (flat_map (neighbours width height 4) stretch))
  pub no_other : (k : ℕ) → width * height ≤ k → occurrences k (take len queue') ≡ 0

-- what the first layer of an erosion starts from: the contour in hand, and a rule that turns object to background
pub record Peelable (rule : Rule) (image queue : List ℕ) (len : ℕ) : Type 0 where
  pub ready : Ready rule.width rule.height image queue
  pub hand : InHand rule.width rule.height image queue len
  pub connected : is_connectivity rule.connectivity ≡ true
  pub old : rule.old ≡ 1
  pub new : rule.new ≡ 0

-- The first layer of an erosion by sides: the image is the one after one iteration, and the positions that changed
-- stand in the queue from `from` up to `to`, each once and no other, with room for the rest behind
pub record Peeled (rule : Rule) (sides : ℕ) (image queue image' queue' : List ℕ) (layer : Layer) : Type 0 where
  pub size : length queue' ≡ length queue
  pub pictured : image' ≡ erode_once rule.width rule.height rule.connectivity sides image
  pub ordered : layer.from ≤ layer.to
  pub room : layer.to + occurrences 1 image' ≤ length queue'
  pub once : (k : ℕ) → k < rule.width * rule.height →
      occurrences k (slice layer.from layer.to queue') ≡ bit (not (eqb (get_or image k 0) (get_or image' k 0)))
  pub no_other : (k : ℕ) → rule.width * rule.height ≤ k → occurrences k (slice layer.from layer.to queue') ≡ 0
