-- What the functions that write a job say. Only inner contracts cite this. Definitions only.
--   written_checks   what is judged of the buffers
--   HeadFits         what writing a head asks
use Rattle.std.specs.Prelude.{ℕ, ◌≤◌, ◌<◌, ◌||◌, List, [], ◌∷◌, length}
use Rattle.std.proofs.Math.Option.{Option}
use Rattle.lists.specs.Lists.{any}
use Rattle.neighbours.specs.Crop.{ValidSize}
use Rattle.model.specs.Limits.{max_steps, u16_limit}
use Rattle.model.specs.Refusals.{refuse_if, wrong_length, pixel_check}
use Rattle.model.specs.Codec.{head_length}
use Rattle.model.specs.declared.Refusal.{Refusal}
use Rattle.model.specs.declared.Refusal.TheVariants.{BadLength}

-- conditions 2 and 4 for an image and a mask of so many pixels and a buffer of so many bytes
unfoldable pub written_checks : ℕ → ℕ → List ℕ → List ℕ → List ℕ → List (Option Refusal)
written_checks pixels bytes image mask buffer =
    refuse_if (any (wrong_length pixels) (image ∷ mask ∷ []) || wrong_length bytes buffer) BadLength
    ∷ pixel_check (image ∷ mask ∷ [])
    ∷ []

-- a job's head fits the buffer, whose length it tells, and each field its width
pub record HeadFits (width height total : ℕ) (buffer : List ℕ) : Type 0 where
  pub valid : ValidSize width height
  pub few : total ≤ max_steps
  pub room : head_length ≤ length buffer
  pub whole : length buffer < u16_limit
