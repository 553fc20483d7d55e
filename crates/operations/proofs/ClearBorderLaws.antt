-- Clear border by the engine: a visit of the border, then layers from the pixels that it changed, as many as there
-- are pixels. Assumes nothing.
--   to_background             the rule that turns object to background
--   clear-start, clear_next   what the visit asks, and what the layers ask
--   cleared                   the image after them, and how many pixels went
use Prim.Native.Nat.{ℕ, ◌*◌, zero-le}
use mathlib.Core.Path.{◌≡◌, refl}
use mathlib.Core.Bool.{true}
use mathlib.Core.Logic.{inl}
use mathlib.Core.List.{List, [], ◌++◌}
use native.Mathlib.Omega.{arith}
use lib.ListN.{length-append}
use Rattle.neighbours.specs.Grid.{is_connectivity}
use Rattle.neighbours.specs.Crop.{Ready}
use Rattle.neighbours.specs.Border.{exposed_positions}
use Rattle.neighbours.proofs.BorderLaws.{any-exposed_positions-none}
use Rattle.neighbours.proofs.ExtendedLaws.{slice-extended}
use Rattle.model.specs.Operations.{changed, apply, effect, applied}
use Rattle.model.specs.declared.Step.TheVariants.{ClearBorder}
use Rattle.engine.specs.declared.Rule.{Rule}
use Rattle.engine.specs.declared.Growth.{Growth}
use Rattle.engine.specs.Spread.{Visited, Stretch, Grown}
use Rattle.engine.proofs.SpreadLaws.{stretch-visited, end-visited}
use Rattle.engine.proofs.WholeLaws.{Flooded, flood, flooded-changed, clear-border}
use Rattle.operations.proofs.OpenLaws.{open_count-le}

-- the rule that turns object to background
abbrev pub to_background : ℕ → ℕ → ℕ → Rule
to_background width height connectivity =
    record { width = width; height = height; connectivity = connectivity; old = 1; new = 0; allowed = 1 }

module _ {width height : ℕ} (connectivity : ℕ) {image queue : List ℕ} (ready : Ready width height image queue)
    (connected : is_connectivity connectivity ≡ true) where
  abbrev rule : Rule
  rule = to_background width height connectivity

  -- what the visit of the border asks
  pub clear-start : Stretch rule [] image queue 0 0
  clear-start =
      record {
        fits =
            record {
              valid = ready.valid;
              connected = connected;
              differs = λ e. omega (arith, e);
              pixels = ready.binary.pixels;
              masked = inl refl;
            };
        room = omega (arith, open_count-le rule [] image, ready.binary.pixels, ready.room);
        ordered = zero-le;
        entries = λ k a b. absurd (omega arith);
      }

  module _ {image₁ queue₁ : List ℕ} {end : ℕ}
      (v : Visited rule [] image queue 0 (exposed_positions width height 0) image₁ queue₁ end) where
    -- what the layers ask
    pub clear_next : Stretch rule [] image₁ queue₁ 0 end
    clear_next = stretch-visited rule [] clear-start v

    module _ {image₂ queue₂ : List ℕ} {layers : Growth}
        (g : Grown rule [] image₁ queue₁ 0 end (width * height) image₂ queue₂ layers) where
      -- the visit and the layers flood from the border
      flooded : Flooded rule [] image (exposed_positions width height 0) (width * height) image₂ (v.added ++ g.total)
      flooded =
          flood rule [] image (exposed_positions width height 0) image₁ v.added clear-start.fits v.changed
          (width * height)
          layers.used image₂ g.last g.total
          (rw (slice-extended v.extended (end-visited rule [] v clear-start.room)) at g.layered)

      -- all of it is clear border
      pub cleared : (image₂ ≡ apply width height (ClearBorder connectivity) [] image)
          × (layers.to ≡ changed width height image image₂)
      unfolding apply effect applied
      cleared = (
        clear-border rule [] image (exposed_positions width height 0) refl refl refl ready.binary
            (any-exposed_positions-none width height) image₂ (v.added ++ g.total) flooded,
        omega (
          arith,
          v.extended.counted,
          g.extended.counted,
          length-append v.added g.total,
          flooded-changed rule [] image (exposed_positions width height 0) (width * height) image₂
              (v.added ++ g.total) flooded,
        ),
      )
