-- What the queue engine's functions say. Only inner contracts cite these; the entry points' contracts
-- are `Meets`, of the crate `model`. Definitions only; their laws are in `proofs/SpreadLaws.antt`.
--   is_open      a pixel that a rule may change
--   Room         what a visit asks
--   Surrounded   what a visit of the neighbours of a position off the border asks
--   Changed      the open pixels among those visited are changed, each is listed once
--   Visited      the same, with the listed positions written to the queue
--   Layered      layer after layer: each visits the neighbours of the one before
--   Stretch      what a layer starts from
--   Grown        layer after layer, with all layers in the queue
use Rattle.std.specs.Prelude.{ℕ, suc, ◌+◌, ◌*◌, ◌≤◌, ◌<◌, ◌≡◌, ◌⊎◌, Bool, true, false, cond, ◌&&◌, ◌||◌, eqb, ltb}
use Rattle.std.specs.Prelude.{length, get_or}
use mathlib.Core.List.{List, [], ◌++◌, flat_map}
use Rattle.std.proofs.Math.Seq.{slice}
use Rattle.lists.specs.Lists.{range, select, any, occurrences, bit}
use Rattle.neighbours.specs.Grid.{is_connectivity, on_border}
use Rattle.neighbours.specs.Crop.{ValidSize, Extended, neighbours}
use Rattle.engine.specs.declared.Rule.{Rule}
use Rattle.engine.specs.declared.Growth.{Growth}

-- a rule over a crop of its size, with a mask of that size or none
pub record Fits (rule : Rule) (mask image : List ℕ) : Type 0 where
  pub valid : ValidSize rule.width rule.height
  pub connected : is_connectivity rule.connectivity ≡ true
  pub differs : rule.old ≡ rule.new → ⊥
  pub pixels : length image ≡ rule.width * rule.height
  pub masked : (length mask ≡ 0) ⊎ (length mask ≡ rule.width * rule.height)

module _ (rule : Rule) (mask : List ℕ) where
  -- position k holds the old value and, where there is a mask, is inside it
  unfoldable pub is_open : List ℕ → ℕ → Bool
  is_open image k = eqb (get_or image k 0) rule.old && (eqb (length mask) 0 || eqb (get_or mask k 0) rule.allowed)

  -- how many positions do
  unfoldable pub open_count : List ℕ → ℕ
  open_count image = length (select (is_open image) (range (length image)))

-- a rule that fits, with room in the queue from `end` on for every pixel that it may still change
pub record Room (rule : Rule) (mask image queue : List ℕ) (end : ℕ) : Type 0 where
  pub fits : Fits rule mask image
  pub room : end + open_count rule mask image ≤ length queue

-- room, and a position off the border, so that all its neighbours by the rule's connectivity are inside
pub record Surrounded (rule : Rule) (mask image queue : List ℕ) (end at connectivity : ℕ) : Type 0 where
  pub room : Room rule mask image queue end
  pub inside : at < length image
  pub off_border : on_border rule.width rule.height at ≡ false
  pub same : rule.connectivity ≡ connectivity

-- The positions `at` are visited: those that are open get the new value, all other pixels keep theirs.
-- `added` lists the changed positions, each once, and there are so many fewer open ones then
pub record Changed (rule : Rule) (mask image at image' added : List ℕ) : Type 0 where
  pub size : length image' ≡ length image
  pub pixel : (k : ℕ) → k < length image →
      get_or image' k 0 ≡ cond (any (eqb k) at && is_open rule mask image k) rule.new (get_or image k 0)
  pub once : (k : ℕ) → k < length image → occurrences k added ≡ bit (any (eqb k) at && is_open rule mask image k)
  pub no_other : (k : ℕ) → length image ≤ k → occurrences k added ≡ 0
  pub room : length added + open_count rule mask image' ≡ open_count rule mask image

-- the same, with the changed positions written to the queue from `end` on, up to end'. What stands behind them
-- may be anything
pub record Visited (rule : Rule) (mask image queue : List ℕ) (end : ℕ) (at image' queue' : List ℕ)
    (end' : ℕ) : Type 0 where
  pub added : List ℕ
  pub changed : Changed rule mask image at image' added
  pub extended : Extended queue end added queue' end'

-- Layer after layer from the positions of `first`: each visits the neighbours of the layer before. By the
-- number of layers, the image after them, the last layer, all positions changed one layer behind the
-- other, and how many layers were not empty
pub data Layered (rule : Rule) (mask image first : List ℕ) : ℕ → List ℕ → List ℕ → List ℕ → ℕ → Type 0 where
  start : Layered rule mask image first 0 image first [] 0
  layer : {n used : ℕ} {image' last total image'' next : List ℕ} →
      Layered rule mask image first n image' last total used →
      Changed rule mask image'
      (flat_map (neighbours rule.width rule.height rule.connectivity) last) image'' next →
      Layered rule mask image first (suc n) image'' next (total ++ next) (used + bit (ltb 0 (length next)))

-- what a layer starts from: positions of the crop in the queue from `from` up to `to`, with room behind
pub record Stretch (rule : Rule) (mask image queue : List ℕ) (from to : ℕ) : Type 0 where
  pub fits : Fits rule mask image
  pub room : to + open_count rule mask image ≤ length queue
  pub ordered : from ≤ to
  pub entries : (k : ℕ) → from ≤ k → k < to → get_or queue k 0 < length image

-- so many layers from the queue's stretch from `from` up to `to`, all written to the queue behind it. The
-- last one could be started from again
pub record Grown (rule : Rule) (mask image queue : List ℕ) (from to n : ℕ) (image' queue' : List ℕ)
    (layers : Growth) : Type 0 where
  pub last : List ℕ
  pub total : List ℕ
  pub size : length image' ≡ length image
  pub kept : length queue' ≡ length queue
  pub few : layers.used ≤ n
  pub stretch : Stretch rule mask image' queue' layers.from layers.to
  pub layered : Layered rule mask image (slice from to queue) n image' last total layers.used
  pub extended : Extended queue to total queue' layers.to
  pub stands : slice layers.from layers.to queue' ≡ last
