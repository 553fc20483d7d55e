-- What the functions that judge a call's arguments say. Only their contracts cite this. Definitions only.
use Rattle.std.specs.Prelude.{ℕ, ◌*◌, ◌||◌, not, List, [], ◌∷◌, ◌++◌, eqb, ltb}
use Rattle.std.proofs.Math.Option.{Option}
use Rattle.neighbours.specs.Limits.{max_side}
use Rattle.model.specs.Refusals.{bad_side, refuse_if}
use Rattle.model.specs.declared.Refusal.{Refusal}
use Rattle.model.specs.declared.Refusal.TheVariants.{BadSize, BadLength, QueueTooShort}

-- conditions 1 and 2 of the row "buffers", by the lengths of three buffers with an entry a pixel
unfoldable pub size_checks : ℕ → ℕ → ℕ → ℕ → ℕ → List (Option Refusal)
size_checks width height first second third =
    let pixels = width * height in
    refuse_if (bad_side max_side width || bad_side max_side height) BadSize
    ∷ refuse_if (not (eqb first pixels) || not (eqb second pixels) || not (eqb third pixels)) BadLength
    ∷ []

-- and condition 3, by the queue's length
unfoldable pub length_checks : ℕ → ℕ → ℕ → ℕ → ℕ → ℕ → List (Option Refusal)
length_checks width height first second third queue =
    size_checks width height first second third ++ (refuse_if (ltb queue (width * height)) QueueTooShort ∷ [])
