-- Laws of the border, strip by strip (`specs/Border.antt`).
--   strip_positions-tabulate              the positions of a strip by a counter
--   first_strips-zero, first_strips-suc   the positions of no strip, and of one strip more
--   border_strip-lt                       a border strip's positions are inside the crop
--   any-row, any-column                   the strips of a row and of a column hold exactly their positions
--   any-border_positions                  the border's strips hold exactly the positions on the border
--   border_positions-strips               the border has four strips
--   strip_side-pos, -last                 a side's number is not 0; the last strip's side is the right one
--   exposed_positions-strips              as many are exposed, or none
--   exposed_strip-lt                      an exposed strip's positions are inside the crop
--   any-exposed_positions-none            all of the border is exposed where no side counts as object
--   has_neighbour-exposed                 a background neighbour is inside the crop, or the position is exposed
-- Assumes nothing.
use Prim.Native.Nat.{ℕ, zero, suc, ◌+◌, ◌-◌, ◌*◌, ◌≤◌, ◌<◌}
use mathlib.Core.Path.{◌≡◌, refl, sym, ap, ◌∙◌}
use mathlib.Core.Bool.{Bool, true, false, ◌||◌, or_assoc, or_comm, or-false, false≢true}
use mathlib.Core.Logic.{⊎_elim}
use mathlib.Core.List.{List, [], ◌++◌, flat_map}
use native.Mathlib.Omega.{arith}
use native.Mathlib.Nat.{zero-mul, zero-add, mul-one}
use lib.Dec.{eqb}
use borrow.Author.Tests.{eqb-true, eq-eqb}
use Rattle.lists.specs.Lists.{count_from, range, tabulate, any}
use Rattle.lists.proofs.BoolLaws.{bool_same, by-test, or_left, or_right, or-true-cases}
use Rattle.lists.proofs.ListLaws.{range-suc, flat_map-snoc, any_append, any-flat_map, any_some, some-any}
use Rattle.lists.proofs.ListLaws.{lt-member-range, member-tabulate, lt-member-tabulate}
use Rattle.neighbours.specs.declared.Strip.{Strip}
use Rattle.neighbours.specs.Crop.{ValidSize}
use Rattle.neighbours.specs.Grid.{is_connectivity, column, row, position, on_border, has_neighbour}
use Rattle.neighbours.specs.Grid.{right_side, no_side, all_sides, has_side}
use Rattle.neighbours.specs.Border.{strip_positions, first_strips, border_strip, border_positions}
use Rattle.neighbours.specs.Border.{strip_side, exposed_strip, exposed_positions}
use Rattle.neighbours.proofs.PositionLaws.{column-position, row-position, position-column-row, column-lt, row_lt}
use Rattle.neighbours.proofs.PositionLaws.{position-lt}
use Rattle.neighbours.proofs.PositionLaws.{width-pos}
use Rattle.neighbours.proofs.DirectionLaws.{across-le, down_le}
use Rattle.neighbours.proofs.SideLaws.{all-object, beyond-zero}
use Rattle.neighbours.proofs.GridLaws.{AdjacentOutside, has_neighbour-cases, has_neighbour-iff}
use Rattle.neighbours.proofs.GridLaws.{adjacent-has_neighbour}
use Rattle.neighbours.proofs.GridLaws.{outside-has_neighbour, top-outside, right-outside, bottom-outside}
use Rattle.neighbours.proofs.GridLaws.{left-outside}

-- ---- strips

-- the positions of a strip by a counter
pub strip_positions-tabulate : (strip : Strip) →
    strip_positions strip ≡ tabulate strip.count (λ i. strip.from + i * strip.step)
unfolding strip_positions
strip_positions-tabulate strip = refl

-- of no strip there are no positions
pub first_strips-zero : (strips : ℕ → Strip) → first_strips strips 0 ≡ []
unfolding first_strips count_from flat_map
first_strips-zero strips = refl

-- one strip more
pub first_strips-suc : (strips : ℕ → Strip) (n : ℕ) →
    first_strips strips (suc n) ≡ first_strips strips n ++ strip_positions (strips n)
unfolding first_strips
first_strips-suc strips n =
    let at : ℕ → List ℕ = λ k. strip_positions (strips k) in
    ap (flat_map at) (range-suc n) ∙ flat_map-snoc at (range n) n

-- the strip of row y, and that of column x, position by position
row_at : (width y i : ℕ) → y * width + i * 1 ≡ position width i y
row_at width y i = omega arith

column-at : (width x i : ℕ) → x + i * width ≡ position width x i
column-at width x i = omega arith

module _ (width height : ℕ) (valid : ValidSize width height) where
  -- a border strip's positions are inside the crop
  pub border_strip-lt : (k i : ℕ) → i < (border_strip width height k).count →
      (border_strip width height k).from + i * (border_strip width height k).step < width * height
  unfolding border_strip
  border_strip-lt zero i l = rw (zero-add, mul-one) (omega (arith, zero-mul width, position-lt l valid.tall))
  border_strip-lt (suc zero) i l = rw (row_at width (height - 1) i) (position-lt l (omega (arith, valid.tall)))
  border_strip-lt (suc (suc zero)) i l = rw (column-at width 0 i) (position-lt valid.wide l)
  border_strip-lt (suc (suc (suc k))) i l =
      rw (column-at width (width - 1) i) (position-lt (omega (arith, valid.wide)) l)

-- ---- the positions on the border

-- the last number below m
eqb-last : (n m : ℕ) → n < m → eqb n (m - 1) ≡ eqb (n + 1) m
eqb-last n m l =
    bool_same (eqb n (m - 1)) (eqb (n + 1) m) (λ e. eq-eqb (n + 1) m (omega (arith, eqb-true n (m - 1) e)))
    (λ e. eq-eqb n (m - 1) (omega (arith, eqb-true (n + 1) m e)))

-- rows or columns, columns or rows
or-rows-columns : (top bottom left right : Bool) →
    top || (bottom || (left || (right || false))) ≡ left || right || top || bottom
or-rows-columns top bottom left right =
    ap (λ (b : Bool). top || (bottom || (left || b))) (or-false right)
    ∙ sym (or_assoc top bottom (left || right))
    ∙ or_comm (top || bottom) (left || right)
    ∙ sym (or_assoc (left || right) top bottom)

-- position i lies along the side of the border's k-th strip: in the first row, the last row, the first column, the
-- last column
is_along : ℕ → ℕ → ℕ → ℕ → Bool
is_along width height zero i = eqb (row width i) 0
is_along width height (suc zero) i = eqb (row width i + 1) height
is_along width height (suc (suc zero)) i = eqb (column width i) 0
is_along width height (suc (suc (suc k))) i = eqb (column width i + 1) width

module _ (width height k : ℕ) (l : k < width * height) where
  -- the strip of a row holds exactly its positions
  pub any-row : (y : ℕ) →
      any (eqb k) (strip_positions (record { from = y * width; step = 1; count = width })) ≡ eqb (row width k) y
  unfolding strip_positions
  any-row y =
      bool_same _ _
      (λ m.
      let (x, lx, e) = member-tabulate k width (λ x. y * width + x * 1) m in
      eq-eqb (row width k) y (ap (row width) (e ∙ row_at width y x) ∙ row-position width y lx))
      (λ t.
      let x = column width k in
      let e : y * width + x * 1 ≡ k =
      row_at width y x ∙ ap (position width x) (sym (eqb-true (row width k) y t)) ∙ position-column-row width k in
      let m = lt-member-tabulate x width (λ x. y * width + x * 1) (column-lt width k (width-pos width height l)) in
      rw e at m)

  -- and that of a column
  pub any-column : (x : ℕ) → x < width →
      any (eqb k) (strip_positions (record { from = x; step = width; count = height })) ≡ eqb (column width k) x
  unfolding strip_positions
  any-column x lx =
      bool_same _ _
      (λ m.
      let (y, ly, e) = member-tabulate k height (λ y. x + y * width) m in
      eq-eqb (column width k) x (ap (column width) (e ∙ column-at width x y) ∙ column-position width y lx))
      (λ t.
      let y = row width k in
      let e : x + y * width ≡ k =
      column-at width x y
      ∙ ap (λ (n : ℕ). position width n y) (sym (eqb-true (column width k) x t))
      ∙ position-column-row width k in
      let m = lt-member-tabulate y height (λ y. x + y * width) (row_lt width height k (width-pos width height l) l) in
      rw e at m)

  -- a border strip holds exactly the positions along its side
  any-border_strip : (n : ℕ) → any (eqb k) (strip_positions (border_strip width height n)) ≡ is_along width height n k
  unfolding border_strip is_along
  any-border_strip zero = rw zero-mul at (any-row 0)
  any-border_strip (suc zero) =
      any-row (height - 1) ∙ eqb-last (row width k) height (row_lt width height k (width-pos width height l) l)
  any-border_strip (suc (suc zero)) = any-column 0 (width-pos width height l)
  any-border_strip (suc (suc (suc n))) =
      let pos = width-pos width height l in
      any-column (width - 1) (omega arith) ∙ eqb-last (column width k) width (column-lt width k pos)

  -- the border's strips hold exactly the positions on the border
  pub any-border_positions : any (eqb k) (border_positions width height) ≡ on_border width height k
  unfolding border_positions first_strips count_from flat_map any is_along on_border
  any-border_positions =
      rw (
        any_append,
        any_append,
        any_append,
        any_append,
        any-border_strip 0,
        any-border_strip 1,
        any-border_strip 2,
        any-border_strip 3,
      )
      (or-rows-columns (eqb (row width k) 0) (eqb (row width k + 1) height) (eqb (column width k) 0)
      (eqb (column width k + 1) width))

-- ---- what lies beyond

-- a side's number is not 0
pub strip_side-pos : (k : ℕ) → 1 ≤ strip_side k
unfolding strip_side
strip_side-pos zero = omega arith
strip_side-pos (suc zero) = omega arith
strip_side-pos (suc (suc zero)) = omega arith
strip_side-pos (suc (suc (suc k))) = omega arith

-- the last strip's side is the right one
pub strip_side-last : (k : ℕ) → 3 ≤ k → strip_side k ≡ right_side
unfolding strip_side
strip_side-last zero l = absurd (omega arith)
strip_side-last (suc zero) l = absurd (omega arith)
strip_side-last (suc (suc zero)) l = absurd (omega arith)
strip_side-last (suc (suc (suc k))) l = refl

module _ (width height : ℕ) where
  -- the border has four strips
  pub border_positions-strips : border_positions width height ≡ first_strips (border_strip width height) 4
  unfolding border_positions
  border_positions-strips = refl

  -- as many are exposed, or none
  pub exposed_positions-strips : (sides : ℕ) →
      exposed_positions width height sides ≡ first_strips (exposed_strip width height sides) 4
  unfolding exposed_positions
  exposed_positions-strips sides = refl

  -- their positions are inside the crop
  pub exposed_strip-lt : ValidSize width height → (sides k i : ℕ) →
      i < (exposed_strip width height sides k).count →
      (exposed_strip width height sides k).from + i * (exposed_strip width height sides k).step < width * height
  unfolding exposed_strip
  exposed_strip-lt valid sides k i =
      by-test (has_side sides (strip_side k)) (λ named. rw named (λ l. absurd (omega arith)))
      (λ unnamed. rw unnamed (border_strip-lt width height valid k i))

  -- all of the border is exposed where no side counts as object
  exposed_positions-none : exposed_positions width height no_side ≡ border_positions width height
  unfolding exposed_positions border_positions exposed_strip first_strips strip_side has_side count_from flat_map
  exposed_positions-none = refl

  pub any-exposed_positions-none : (i : ℕ) → i < width * height →
      any (eqb i) (exposed_positions width height no_side) ≡ on_border width height i
  any-exposed_positions-none i l = rw exposed_positions-none (any-border_positions width height i l)

  module _ (sides i : ℕ) (l : i < width * height) where
    -- a strip along a side that is not named is exposed
    strip-exposed : (k : ℕ) → k < 4 → is_along width height k i ≡ true →
        has_side sides (strip_side k) ≡ false →
        any (eqb i) (exposed_positions width height sides) ≡ true
    unfolding exposed_positions first_strips exposed_strip
    strip-exposed k few along unnamed =
        let at : ℕ → List ℕ = λ n. strip_positions (exposed_strip width height sides n) in
        any-flat_map (eqb i) at (range 4)
        ∙ some-any (λ n. any (eqb i) (at n)) (range 4) k (lt-member-range k 4 few)
        (rw unnamed (any-border_strip width height i l k ∙ along))

    -- and no other
    exposed-strip : any (eqb i) (exposed_positions width height sides) ≡ true →
        (k : ℕ) × (is_along width height k i ≡ true) × (has_side sides (strip_side k) ≡ false)
    unfolding exposed_positions first_strips exposed_strip strip_positions tabulate count_from any
    exposed-strip e =
        let at : ℕ → List ℕ = λ n. strip_positions (exposed_strip width height sides n) in
        let (k, m, t) =
        any_some (λ n. any (eqb i) (at n)) (range 4) (sym (any-flat_map (eqb i) at (range 4)) ∙ e) in
        by-test (has_side sides (strip_side k)) (λ named. absurd (false≢true (rw named at t)))
        (λ unnamed. (k, sym (any-border_strip width height i l k) ∙ (rw unnamed at t), unnamed))

    -- what is background next to a position lies beyond a side that is not named
    outside-exposed : (connectivity : ℕ) → AdjacentOutside width height connectivity sides 0 i →
        any (eqb i) (exposed_positions width height sides) ≡ true
    unfolding is_along strip_side
    outside-exposed connectivity b =
        let x = column width i in
        let y = row width i in
        let pos = width-pos width height l in
        let lx = column-lt width i pos in
        let ly = row_lt width height i pos l in
        let far = across-le b.direction in
        let deep = down_le b.direction in
        ⊎_elim
        (⊎_elim (λ top. strip-exposed 0 (omega arith) (eq-eqb y 0 (omega (arith, top.0))) top.1)
        (λ right. strip-exposed 3 (omega arith) (eq-eqb (x + 1) width (omega (arith, right.0))) right.1))
        (⊎_elim
        (λ bottom. strip-exposed 1 (omega arith) (eq-eqb (y + 1) height (omega (arith, bottom.0))) bottom.1)
        (λ left. strip-exposed 2 (omega arith) (eq-eqb x 0 (omega (arith, left.0))) left.1))
        (beyond-zero width height sides _ _ b.has)

    -- and next to a position along such a side lies background
    along-outside : (connectivity : ℕ) → is_connectivity connectivity ≡ true → (k : ℕ) →
        is_along width height k i ≡ true → has_side sides (strip_side k) ≡ false →
        AdjacentOutside width height connectivity sides 0 i
    unfolding is_along strip_side
    along-outside connectivity c zero along unnamed =
        top-outside width height connectivity sides i c l (eqb-true (row width i) 0 along) unnamed
    along-outside connectivity c (suc zero) along unnamed =
        bottom-outside width height connectivity sides i c l (eqb-true (row width i + 1) height along) unnamed
    along-outside connectivity c (suc (suc zero)) along unnamed =
        left-outside width height connectivity sides i c l (eqb-true (column width i) 0 along) unnamed
    along-outside connectivity c (suc (suc (suc k))) along unnamed =
        right-outside width height connectivity sides i c l (eqb-true (column width i + 1) width along) unnamed

    -- a background neighbour is inside the crop, or the position is exposed
    pub has_neighbour-exposed : (connectivity : ℕ) (image : List ℕ) → is_connectivity connectivity ≡ true →
        has_neighbour width height connectivity sides 0 image i
        ≡ has_neighbour width height connectivity all_sides 0 image i
        || any (eqb i) (exposed_positions width height sides)
    has_neighbour-exposed connectivity image c =
        let inside = has_neighbour width height connectivity all_sides 0 image i in
        let exposed = any (eqb i) (exposed_positions width height sides) in
        bool_same _ _
        (λ e.
        ⊎_elim
        (λ f.
        or_left inside exposed
        (adjacent-has_neighbour width height connectivity all_sides 0 image i f.1 f.2))
        (λ b. or_right inside exposed (outside-exposed connectivity b))
        (has_neighbour-cases width height connectivity sides 0 image i e))
        (λ e.
        ⊎_elim
        (λ f.
        let (j, a, v) = (has_neighbour-iff width height connectivity all_sides 0 image i (all-object width height)).0 f
        in
        adjacent-has_neighbour width height connectivity sides 0 image i a v)
        (λ f.
        let (k, along, unnamed) = exposed-strip f in
        outside-has_neighbour width height connectivity sides 0 image i (along-outside connectivity c k along unnamed))
        (or-true-cases inside exposed e))
