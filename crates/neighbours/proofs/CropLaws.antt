-- Laws of `specs/Crop.antt`. Assumes nothing.
--   ready-same   an image that is ready with a queue is so with another that is as long
--   moved_none   positions moved on by 0 stay
use Prim.Native.Nat.{ℕ}
use mathlib.Core.Path.{◌≡◌, refl, ap₂}
use mathlib.Core.List.{List, [], ◌∷◌}
use native.Mathlib.Nat.{zero-add}
use lib.ListN.{length}
use Rattle.neighbours.specs.Crop.{Ready, moved}

-- the same image and a queue as long
pub ready-same : {width height : ℕ} {image queue image' queue' : List ℕ} → Ready width height image queue →
    image' ≡ image →
    length queue' ≡ length queue → Ready width height image' queue'
ready-same r same size = record { valid = r.valid; binary = rw same r.binary; room = rw size r.room }

-- positions moved on by 0 stay
pub moved_none : (positions : List ℕ) → moved 0 positions ≡ positions
moved_none [] = refl
moved_none (i ∷ is) = ap₂ ◌∷◌ (zero-add i) (moved_none is)
