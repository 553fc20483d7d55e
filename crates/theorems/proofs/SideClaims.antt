-- What is claimed of erosion by sides (`model/specs/Claims.antt`): document 02, Point 6. Assumes nothing.
--   outside-by-sides     what lies outside is object exactly if each side beyond which it lies is named
--   eroded-by-sides      what one iteration leaves, by neighbours inside and the sides along which a pixel lies
--   sides-matter-once    after the first iteration the sides no longer matter
--   kind-one-by-sides    an erosion by a border value is one by no side or by all
--   erosion-as-before    and does what 01 alone says
use Prim.Native.Nat.{ℕ, ◌+◌, ◌*◌, ◌≤◌, ◌<◌}
use mathlib.Core.Path.{◌≡◌, refl, sym, ap, ◌∙◌}
use mathlib.Core.Bool.{Bool, true, false, cond, ◌&&◌}
use mathlib.Core.Logic.{⊎_elim, ◌↔◌}
use mathlib.Core.List.{List}
use mathlib.Core.Option.{Option, none, some}
use native.Mathlib.Omega.{arith}
use lib.Dec.{eqb}
use lib.ListN.{length, get_or}
use borrow.Author.Tests.{eq-eqb, ne_eqb}
use Rattle.lists.specs.Lists.{iterate}
use Rattle.lists.proofs.BoolLaws.{by-test, by-eq, not-both}
use Rattle.lists.proofs.ListLaws.{tabulate-same}
use Rattle.lists.proofs.IterateLaws.{iterate-same}
use Rattle.std.specs.Prelude.{None}
use Rattle.neighbours.specs.Grid.{is_connectivity, across, down, column, row, placed}
use Rattle.neighbours.specs.Grid.{no_side, all_sides, has_side, top_side, right_side, bottom_side, left_side, beyond}
use Rattle.neighbours.specs.Grid.{has_neighbour, Adjacent}
use Rattle.neighbours.specs.Contour.{contour}
use Rattle.neighbours.proofs.PositionLaws.{width-pos, column-lt, row_lt}
use Rattle.neighbours.proofs.DirectionLaws.{across-le, down_le}
use Rattle.neighbours.proofs.SideLaws.{beyond-top, beyond-right, beyond-bottom, beyond-left, beyond-zero, beyond-all}
use Rattle.neighbours.proofs.SideLaws.{beyond-none, beyond-le, neighbour_value-beyond, has_neighbour-surrounded}
use Rattle.neighbours.proofs.GridLaws.{AdjacentOutside, has_neighbour-cases, adjacent-has_neighbour}
use Rattle.neighbours.proofs.GridLaws.{outside-has_neighbour}
use Rattle.neighbours.proofs.GridLaws.{top-outside, right-outside, bottom-outside, left-outside}
use Rattle.model.specs.Steps.{erode_once}
use Rattle.model.specs.Operations.{border_sides, effect, applied, used_by, apply, changed, used}
use Rattle.model.specs.Refusals.{operation_refusal, step_checks, reads_mask, mask_of}
use Rattle.model.specs.Calls.{Call, operate, State, Reply, operated, lent}
use Rattle.model.specs.Calls.{operate_unless, call, Meets}
use Rattle.model.specs.Claims.{BeyondNamed, OutsideBySides, AlongNamed, ErodedBySides}
use Rattle.model.specs.Claims.{SidesMatterOnce, KindOneBySides, erode_before, ErosionAsBefore}
use Rattle.model.specs.declared.Refusal.{Refusal}
use Rattle.model.specs.declared.Step.{Step}
use Rattle.model.specs.declared.Step.TheVariants.{Erode, ErodeBySides}
use Rattle.model.specs.declared.Start.{Start}
use Rattle.theorems.proofs.StepLaws.{length-erode_once, get_or-erode_once, erode_once-bits, iterate-erode_once-suc}
use Rattle.theorems.proofs.OperationLaws.{least_iterations-same}
use Rattle.theorems.proofs.CallLaws.{operation-done, meets-as}

-- ---- what lies outside

-- a side that cannot be unnamed is named
named : (t : Bool) → (t ≡ false → ⊥) → t ≡ true
named t not = by-test t (λ e. e) (λ e. absurd (not e))

-- what lies outside is object exactly if each side beyond which it lies is named
beyond-named : (width height sides x y : ℕ) →
    (beyond width height sides x y ≡ 1) ↔ BeyondNamed width height sides x y
beyond-named width height sides x y = (there, back)
  where
    there : beyond width height sides x y ≡ 1 → BeyondNamed width height sides x y
    there e =
        record {
          top = λ l. named (has_side sides top_side) (λ u. omega (arith, e, beyond-top width height sides x y l u));
          right = λ l.
              named (has_side sides right_side) (λ u. omega (arith, e, beyond-right width height sides x y l u));
          bottom = λ l.
              named (has_side sides bottom_side) (λ u. omega (arith, e, beyond-bottom width height sides x y l u));
          left = λ l. named (has_side sides left_side) (λ u. omega (arith, e, beyond-left width height sides x y l u));
        }

    back : BeyondNamed width height sides x y → beyond width height sides x y ≡ 1
    back n =
        by-eq (beyond width height sides x y) 0
        (λ z.
        ⊎_elim
        (⊎_elim (λ u. not-both (n.top u.0) u.1) (λ u. not-both (n.right u.0) u.1))
        (⊎_elim (λ u. not-both (n.bottom u.0) u.1) (λ u. not-both (n.left u.0) u.1))
        (beyond-zero width height sides x y z))
        (λ d. omega (arith, d, beyond-le width height sides x y))

pub outside-by-sides : OutsideBySides
outside-by-sides width height sides image i d out =
    let x = column width i + across d in
    let y = row width i + down d in
    rw (neighbour_value-beyond width height sides image i d out)
    (beyond-le width height sides x y, beyond-named width height sides x y)

-- ---- one iteration

module _ (width height connectivity sides : ℕ) (c : is_connectivity connectivity ≡ true) (image : List ℕ)
    (bits : (i : ℕ) → get_or image i 0 ≤ 1) (i : ℕ) (l : i < width * height) where
  -- a pixel has a background neighbour
  abbrev near : Bool
  near = has_neighbour width height connectivity sides 0 image i

  -- where it has none, its neighbours inside are object
  near-inside : near ≡ false → (j : ℕ) → Adjacent width height connectivity i j → get_or image j 0 ≡ 1
  near-inside e j a =
      by-eq (get_or image j 0) 0
      (λ z. not-both (adjacent-has_neighbour width height connectivity sides 0 image i a z) e)
      (λ d. omega (arith, d, bits j))

  -- and the sides along which it lies are named
  near-along : near ≡ false → AlongNamed width height sides i
  near-along e =
      let none : AdjacentOutside width height connectivity sides 0 i → ⊥ =
      λ b. not-both (outside-has_neighbour width height connectivity sides 0 image i b) e in
      record {
        top = λ t.
            named (has_side sides top_side) (λ u. none (top-outside width height connectivity sides i c l t u));
        right = λ t.
            named (has_side sides right_side) (λ u. none (right-outside width height connectivity sides i c l t u));
        bottom = λ t.
            named (has_side sides bottom_side) (λ u. none (bottom-outside width height connectivity sides i c l t u));
        left = λ t.
            named (has_side sides left_side) (λ u. none (left-outside width height connectivity sides i c l t u));
      }

  -- where these are so, it has none
  none-outside : AlongNamed width height sides i → AdjacentOutside width height connectivity sides 0 i → ⊥
  none-outside along b =
      let pos = width-pos width height l in
      let lx = column-lt width i pos in
      let ly = row_lt width height i pos l in
      let far = across-le b.direction in
      let deep = down_le b.direction in
      ⊎_elim
      (⊎_elim (λ u. not-both (along.top (omega (arith, u.0))) u.1)
      (λ u. not-both (along.right (omega (arith, u.0))) u.1))
      (⊎_elim (λ u. not-both (along.bottom (omega (arith, u.0))) u.1)
      (λ u. not-both (along.left (omega (arith, u.0))) u.1))
      (beyond-zero width height sides _ _ b.has)

  near_none : ((j : ℕ) → Adjacent width height connectivity i j → get_or image j 0 ≡ 1) →
      AlongNamed width height sides i → near ≡ false
  near_none inside along =
      by-test near
      (λ t.
      absurd
      (⊎_elim (λ f. let (j, a, z) = f in omega (arith, z, inside j a)) (none-outside along)
      (has_neighbour-cases width height connectivity sides 0 image i t)))
      (λ t. t)

  -- what one iteration leaves of it
  once-object : (get_or (erode_once width height connectivity sides image) i 0 ≡ 1)
      ↔ ((get_or image i 0 ≡ 1) × ((j : ℕ) → Adjacent width height connectivity i j → get_or image j 0 ≡ 1)
      × AlongNamed width height sides i)
  once-object =
      let after = get_or-erode_once width height connectivity sides image i l in (
        λ e.
            by-eq (get_or image i 0) 1
            (λ o.
            let gone = rw (eq-eqb (get_or image i 0) 1 o) at after in
            let stays : near ≡ false = by-test near (λ t. absurd (omega (arith, e, rw t at gone))) (λ t. t) in
            (o, near-inside stays, near-along stays))
            (λ d. absurd (d (sym (rw (ne_eqb (get_or image i 0) 1 d) at after) ∙ e))),
        λ h.
            let stays = near_none h.1 h.2 in
            after ∙ rw (eq-eqb (get_or image i 0) 1 h.0, stays) h.0,
      )

pub eroded-by-sides : ErodedBySides
unfolding apply effect applied iterate
eroded-by-sides width height connectivity sides image mask queue image' queue' start r m ok =
    let done = operation-done m ok in
    let bits = done.binary.bits in
    rw done.pictured
    (record {
      size = length-erode_once width height connectivity sides image;
      bits = erode_once-bits width height connectivity sides image bits;
      object = once-object width height connectivity sides done.passes.0 image bits;
    })

-- ---- further iterations

pub sides-matter-once : SidesMatterOnce
unfolding apply effect applied iterate
sides-matter-once width height connectivity sides n image mask queue image' queue' start r
    mask₁ queue₁ image₁ queue₁' start₁ r₁ mask₂ queue₂ image₂ queue₂' start₂ r₂
    m m₁ m₂ ok ok₁ ok₂ =
    let done = operation-done m ok in
    let rest : List ℕ → List ℕ = iterate (erode_once width height connectivity all_sides) n in
    done.pictured
    ∙ iterate-erode_once-suc width height connectivity done.passes.0 sides n image done.binary.bits
    ∙ ap rest (sym (operation-done m₁ ok₁).pictured)
    ∙ sym (operation-done m₂ ok₂).pictured

-- ---- border values

-- two calls of which the model does and replies the same meet their contracts alike
meets-same : {width height : ℕ} {image queue image' queue' : List ℕ} {r : Reply} {c c' : Call} →
    call width height (lent image queue) c ≡ call width height (lent image queue) c' →
    Meets width height image queue c r image' queue' → Meets width height image queue c' r image' queue'
meets-same e m = meets-as _ (sym e) m.replied m.pictured m.queued

-- steps with one effect do and reply the same, unless they are refused
unless-same : (width height : ℕ) (o : Option Refusal) (state : State) (step step' : Step) (mask : List ℕ) →
    effect width height step mask ≡ effect width height step' mask →
    operate_unless width height o state step mask ≡ operate_unless width height o state step' mask
unfolding operate_unless apply used
unless-same width height none state step step' mask e = rw e
unless-same width height (some refusal) state step step' mask e = refl

-- and where they are refused alike
call_same : (width height : ℕ) (image queue mask : List ℕ) (start : Start) (step step' : Step) →
    operation_refusal width height image queue step mask start
    ≡ operation_refusal width height image queue step' mask start →
    effect width height step mask ≡ effect width height step' mask →
    call width height (lent image queue) (operate step mask start)
    ≡ call width height (lent image queue) (operate step' mask start)
unfolding call
call_same width height image queue mask start step step' same e =
    done (operation_refusal width height image queue step mask start)
    ∙ ap (λ (o : Option Refusal). operate_unless width height o (lent image queue) step' mask) same
  where
    done : (o : Option Refusal) →
        operate_unless width height o (lent image queue) step mask
        ≡ operate_unless width height o (lent image queue) step' mask
    done o = unless-same width height o (lent image queue) step step' mask e

module _ (width height : ℕ) (image queue mask : List ℕ) (start : Start) (connectivity n : ℕ) where
  -- by border value 0 the model does what it does by no side
  call_none : call width height (lent image queue) (operate (Erode connectivity 0 n) mask start)
      ≡ call width height (lent image queue) (operate (ErodeBySides connectivity no_side n) mask start)
  unfolding operation_refusal step_checks mask_of reads_mask effect border_sides
  call_none = call_same width height image queue mask start _ _ refl refl

  -- and by 1 what it does by all sides
  call-all : call width height (lent image queue) (operate (Erode connectivity 1 n) mask start)
      ≡ call width height (lent image queue) (operate (ErodeBySides connectivity all_sides n) mask start)
  unfolding operation_refusal step_checks mask_of reads_mask effect border_sides
  call-all = call_same width height image queue mask start _ _ refl refl

pub kind-one-by-sides : KindOneBySides
kind-one-by-sides width height connectivity n image mask queue image' queue' start r =
    let none = call_none width height image queue mask start connectivity n in
    let all = call-all width height image queue mask start connectivity n in
    ((meets-same none, meets-same (sym none)), (meets-same all, meets-same (sym all)))

-- ---- as before

-- what lies outside has the border value
beyond-border : (width height border_value x y : ℕ) → border_value ≤ 1 → placed width height x y ≡ None →
    beyond width height (border_sides border_value) x y ≡ border_value
unfolding border_sides
beyond-border width height border_value x y most out =
    by-eq border_value 0 (λ e. rw e (beyond-none width height x y out))
    (λ d. let e : border_value ≡ 1 = omega arith in rw e (beyond-all width height x y))

module _ (width height connectivity border_value : ℕ) (most : border_value ≤ 1) where
  -- one iteration by the sides that a border value names is 01's step
  erode_once-before : (image : List ℕ) →
      erode_once width height connectivity (border_sides border_value) image
      ≡ erode_before width height connectivity border_value image
  unfolding erode_once erode_before
  erode_once-before image =
      let outside : (x y : ℕ) → placed width height x y ≡ None →
      beyond width height (border_sides border_value) x y ≡ border_value =
      λ x y. beyond-border width height border_value x y most in
      tabulate-same (width * height) _ _
      (λ i l.
      ap (λ (t : Bool). cond (eqb (get_or image i 0) 1 && t) 0 (get_or image i 0))
      (has_neighbour-surrounded width height (border_sides border_value) image border_value outside connectivity 0 i))

  -- and so are any number of them
  iterate-before : (image : List ℕ) (n : ℕ) →
      iterate (erode_once width height connectivity (border_sides border_value)) n image
      ≡ iterate (erode_before width height connectivity border_value) n image
  iterate-before image n =
      iterate-same (λ xs. Unit {0}) _ _ (λ xs u. tt) (λ xs u. erode_once-before xs) n image tt

pub erosion-as-before : ErosionAsBefore
unfolding apply used effect applied used_by
erosion-as-before width height connectivity border_value n image mask queue image' queue' start r m ok =
    let done = operation-done m ok in
    let same = iterate-before width height connectivity border_value done.passes.1 image in
    let least =
    least_iterations-same (erode_once width height connectivity (border_sides border_value))
    (erode_before width height connectivity border_value) image image same n in (
      done.pictured ∙ same n,
      done.replied
          ∙ ap
          (λ (u : ℕ). operated 0 (changed width height image image') u (length (contour width height image')))
          least,
    )
