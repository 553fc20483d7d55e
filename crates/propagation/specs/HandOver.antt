-- The hand-over of a propagation from words to the queue engine. Only inner contracts cite these. Definitions only;
-- their laws are in `proofs/HandOverLaws.antt`.
--   is_added, added   a pixel became object; the positions of those that did
--   Grounded          an iteration and what it added, as the queue engine asks it
--   Handing           what the hand-over asks
--   RowsIterated      iterations from rows to rows, and how many changed anything
use Rattle.std.specs.Prelude.{ℕ, ◌*◌, ◌≤◌, ◌≡◌, Bool, true, not, ◌&&◌, List, eqb, length, get_or, take}
use Rattle.lists.specs.Lists.{select, iterate}
use Rattle.neighbours.specs.Crop.{Binary, Ready}
use Rattle.neighbours.specs.Grid.{is_connectivity, positions}
use Rattle.model.specs.Steps.{propagate_once}
use Rattle.model.specs.Operations.{least_iterations}
use Rattle.model.specs.Words.{packed_words, unpacked_words}
use Rattle.words.specs.Room.{front_rows, HeldRows}

-- pixel i became object
unfoldable pub is_added : List ℕ → List ℕ → ℕ → Bool
is_added before image i = eqb (get_or image i 0) 1 && not (eqb (get_or before i 0) 1)

-- the positions of the pixels that did, row by row
unfoldable pub added : ℕ → ℕ → List ℕ → List ℕ → List ℕ
added width height before image = select (is_added before image) (positions width height)

-- an image after an iteration, and at the queue's front the positions of the pixels that it made object
pub record Grounded (width height connectivity : ℕ) (mask image queue : List ℕ) (len : ℕ) : Type 0 where
  pub ready : Ready width height image queue
  pub linking : is_connectivity connectivity ≡ true
  pub masked : Binary width height mask
  pub before : List ℕ
  pub binary : Binary width height before
  pub once : image ≡ propagate_once width height connectivity mask before
  pub counted : len ≡ length (added width height before image)
  pub listed : take len queue ≡ added width height before image

-- packed rows of a crop and of a mask in the room of words, the mask itself, and room for an image and for a queue
pub record Handing (width height connectivity : ℕ) (mask image queue rows entries : List ℕ) : Type 0 where
  pub held : HeldRows width height rows entries
  pub bounds : front_rows width height entries ≡ packed_words width height mask
  pub masked : Binary width height mask
  pub pixels : length image ≡ width * height
  pub room : width * height ≤ length queue
  pub linking : is_connectivity connectivity ≡ true

-- n iterations in the mask, from the packed rows at a buffer's front to those there after them, and how many of them
-- changed anything
pub record RowsIterated (width height connectivity n : ℕ) (mask rows rows' : List ℕ) (count : ℕ) : Type 0 where
  pub packed : front_rows width height rows'
      ≡ packed_words width height
      (iterate (propagate_once width height connectivity mask) n
      (unpacked_words width height (front_rows width height rows)))
  pub counted : count
      ≡ least_iterations (propagate_once width height connectivity mask) n
      (unpacked_words width height (front_rows width height rows))
