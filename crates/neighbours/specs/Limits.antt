-- The limits of document 01, "Crop, neighbours, edge", on a crop's sides and pixels. Definitions only.
use Rattle.std.specs.Prelude.{ℕ}

-- the largest width and the largest height
abbrev pub max_side : ℕ
max_side = 256

-- the pixels of the largest crop: every position is below, and no area is above
abbrev pub max_pixels : ℕ
max_pixels = 65536
