-- Laws of a propagation as a whole, from the rows of an image to those of the image after it.
--   spread-ended, spread-further    the first iterations are all; the others follow
--   none-reports, -operated         no iteration changes nothing: that can be reported, and is the operation
--   spreadable-handing              what the iterations ask, once the mask is packed
--   spreadable-shared, -le          the pixels that image and mask share; they are within the limit
--   spreadable-clean                the rows after the iterations are clean
--   spreadable-reports, -operated   the numbers can be reported, and are the operation's
-- Assumes nothing.
use Prim.Native.Nat.{ℕ, ◌+◌, ◌-◌, ◌*◌, ◌≤◌, ◌<◌}
use mathlib.Core.Path.{◌≡◌, refl, sym, ap, ◌∙◌}
use mathlib.Core.Bool.{Bool, true, ◌&&◌}
use mathlib.Core.List.{List, ◌++◌}
use native.Mathlib.Omega.{arith}
use lib.Dec.{eqb}
use lib.ListN.{length, get_or, take, drop}
use Rattle.lists.specs.Lists.{iterate, occurrences}
use Rattle.lists.proofs.ListLaws.{length-select-count_from-le}
use Rattle.neighbours.specs.Limits.{max_pixels}
use Rattle.neighbours.specs.Crop.{ValidSize, Binary}
use Rattle.neighbours.specs.Words.{word_bits}
use Rattle.neighbours.proofs.PositionLaws.{size-le}
use Rattle.neighbours.proofs.PackedLaws.{Units, unpacked-binary}
use Rattle.model.specs.Limits.{u16_limit}
use Rattle.model.specs.Steps.{propagate_once}
use Rattle.model.specs.Operations.{least_from, least_iterations, effect, applied, used_by, apply, changed, used}
use Rattle.model.specs.Words.{words_length, packed_words, unpacked_words}
use Rattle.model.specs.declared.Step.TheVariants.{Propagate}
use Rattle.theorems.proofs.OperationLaws.{least_iterations-le}
use Rattle.words.specs.Frame.{Clean, Operated}
use Rattle.words.specs.Room.{front_rows}
use Rattle.words.proofs.RoomLaws.{room-same, front-written}
use Rattle.words.proofs.OperatedLaws.{clean-packed, unpacked-clean, repacked-clean}
use Rattle.words.proofs.ChangedLaws.{area-le, changed-less}
use Rattle.propagation.specs.declared.Begun.{Begun}
use Rattle.propagation.specs.Propagation.{shared_area, Began, Spreadable, Reportable}
use Rattle.propagation.specs.HandOver.{Handing, RowsIterated}
use Rattle.propagation.proofs.PropagationLaws.{run-binary}
use Rattle.propagation.proofs.BeginLaws.{changed-propagated, began-rest, began-ended, began-least}

-- ---- the iterations on words and those of the queue engine

module _ {width height connectivity : ℕ} {mask image queue rows entries : List ℕ}
    (h : Handing width height connectivity mask image queue rows entries)
    {n : ℕ} (is_length : n ≡ words_length width height) {iterations : ℕ} {part : List ℕ} {begun : Begun}
    (clean : Clean width height part)
    (began : Began (propagate_once width height connectivity (unpacked_words width height (take n entries))) iterations
    (unpacked_words width height (take n rows)) (unpacked_words width height part) begun) where
  -- an iteration, and the image of the rows
  abbrev f : List ℕ → List ℕ
  f = propagate_once width height connectivity mask

  abbrev start : List ℕ
  start = unpacked_words width height (front_rows width height rows)

  start-binary : Binary width height start
  start-binary = unpacked-binary word_bits width height (front_rows width height rows)

  -- the first iterations are those in the mask
  began-mask : Began f iterations start (unpacked_words width height part) begun
  began-mask = rw (is_length, unpacked-clean clean.valid h.masked h.bounds) at began

  -- their rows stand at the front
  front : front_rows width height (part ++ drop n rows) ≡ part
  front = front-written width height part (drop n rows) clean.size

  -- where they are all
  pub spread-ended : begun.ended ≡ true → Units word_bits part →
      RowsIterated width height connectivity iterations mask rows (part ++ drop n rows) begun.used
  spread-ended e small =
      record {
        packed =
            front ∙ repacked-clean clean small
            ∙ ap (packed_words width height) (began-mask.ended e);
        counted = sym (began-ended width height connectivity mask iterations start-binary began-mask e);
      }

  -- where the others follow
  pub spread-further : {further : ℕ} (rows' : List ℕ) →
      RowsIterated width height connectivity (iterations - begun.used) mask (part ++ drop n rows) rows' further →
      RowsIterated width height connectivity iterations mask rows rows' (begun.used + further)
  spread-further rows' others =
      record {
        packed =
            (rw front at others.packed)
            ∙ ap (packed_words width height) (sym (began-rest f iterations began-mask));
        counted =
            ap (λ (k : ℕ). begun.used + k) (rw front at others.counted)
            ∙ sym (began-least width height connectivity mask iterations start-binary began-mask);
      }

-- ---- the report

-- no iteration changes nothing
module _ {width height : ℕ} {words : List ℕ} {area : ℕ} (clean : Clean width height words)
    (is_area : area ≡ occurrences 1 (unpacked_words width height words)) where
  -- that can be reported
  pub none-reports : Reportable area area 0 area
  none-reports =
      let few = area-le width height words clean.valid is_area in
      record { few_before = few; few_after = few; both = omega arith; within = omega arith }

  -- and is the operation
  pub none-operated : {connectivity iterations : ℕ} (mask : List ℕ) → iterations ≡ 0 →
      Units word_bits words →
      Operated width height (Propagate connectivity iterations) mask words words
      (record { changed = area + area - 2 * area; used = 0; area = area })
  unfolding apply applied effect used used_by least_iterations least_from iterate
  none-operated mask none small =
      let binary = unpacked-binary word_bits width height words in
      let same = changed-less width height _ _ binary binary (λ i. omega arith) in
      rw none
      (record {
        rows = repacked-clean clean small;
        is_changed = omega (arith, same);
        is_used = refl;
        is_area = is_area;
      })

module _ {width height connectivity : ℕ} {image mask queue rows entries : List ℕ}
    (s : Spreadable width height image mask queue rows entries connectivity) where
  -- what the iterations ask, once the mask is packed
  pub spreadable-handing : {entries' : List ℕ} → length entries' ≡ length entries →
      front_rows width height entries' ≡ packed_words width height mask →
      Handing width height connectivity mask image queue rows entries'
  spreadable-handing same packed =
      record {
        held = record { in_room = room-same s.held.in_room refl same; clean = s.held.clean };
        bounds = packed;
        masked = s.masked;
        pixels = s.sized;
        room = s.room;
        linking = s.linking;
      }

  valid : ValidSize width height
  valid = s.held.in_room.valid

  -- an iteration, and the image of the rows
  abbrev first : List ℕ
  first = unpacked_words width height (front_rows width height rows)

  abbrev once : List ℕ → List ℕ
  once = propagate_once width height connectivity mask

  first-binary : Binary width height first
  first-binary = unpacked-binary word_bits width height (front_rows width height rows)

  -- the pixels that the image and the packed mask share are those that it and the mask share
  pub spreadable-shared : {n shared : ℕ} (entries' : List ℕ) → n ≡ words_length width height →
      front_rows width height entries' ≡ packed_words width height mask →
      shared
      ≡ shared_area (unpacked_words width height (take n rows)) (unpacked_words width height (take n entries')) →
      shared ≡ shared_area (unpacked_words width height (front_rows width height rows)) mask
  spreadable-shared entries' is_length packed is_shared =
      rw (is_length, unpacked-clean valid s.masked packed) at is_shared

  -- they are within the limit
  pub spreadable-le : {shared : ℕ} →
      shared ≡ shared_area (unpacked_words width height (front_rows width height rows)) mask → shared ≤ max_pixels
  unfolding shared_area
  spreadable-le is_shared =
      let both : ℕ → Bool = λ i. eqb (get_or first i 0) 1 && eqb (get_or mask i 0) 1 in
      omega (arith, is_shared, length-select-count_from-le both 0 (length first), first-binary.pixels, size-le valid)

  module _ {iterations : ℕ} (some : 1 ≤ iterations) (rows' : List ℕ)
      (spread : front_rows width height rows'
      ≡ packed_words width height
      (iterate (propagate_once width height connectivity mask) iterations
      (unpacked_words width height (front_rows width height rows)))) where
    -- the image after the iterations
    last-binary : Binary width height (iterate once iterations first)
    last-binary = run-binary width height connectivity mask first first-binary iterations

    -- its rows are clean
    pub spreadable-clean : Clean width height (front_rows width height rows')
    spreadable-clean = clean-packed valid last-binary spread

    module _ {before shared count after : ℕ}
        (is_before : before ≡ occurrences 1 (unpacked_words width height (front_rows width height rows)))
        (is_shared : shared ≡ shared_area (unpacked_words width height (front_rows width height rows)) mask)
        (is_used : count
        ≡ least_iterations (propagate_once width height connectivity mask) iterations
        (unpacked_words width height (front_rows width height rows)))
        (is_after : after ≡ occurrences 1 (unpacked_words width height (front_rows width height rows'))) where
      -- the area after them
      last-area : after ≡ occurrences 1 (iterate once iterations first)
      last-area = is_after ∙ ap (occurrences 1) (unpacked-clean valid last-binary spread)

      -- the pixels that changed, and twice those that are object both times
      areas : changed width height first (iterate once iterations first) + 2 * shared ≡ before + after
      areas =
          rw (is_shared, is_before, last-area)
          (changed-propagated width height connectivity mask first first-binary s.masked iterations some)

      -- the numbers can be reported
      pub spreadable-reports : iterations < u16_limit → Reportable before shared count after
      spreadable-reports few =
          record {
            few_before = area-le width height (front_rows width height rows) valid is_before;
            few_after = area-le width height (front_rows width height rows') valid is_after;
            both = omega (arith, areas);
            within = omega (arith, is_used, few, least_iterations-le once iterations first);
          }

      -- and are the operation's
      pub spreadable-operated : Operated width height (Propagate connectivity iterations) mask
          (front_rows width height rows) (front_rows width height rows')
          (record { changed = before + after - 2 * shared; used = count; area = after })
      unfolding apply applied effect used used_by
      spreadable-operated =
          record { rows = spread; is_changed = omega (arith, areas); is_used = is_used; is_area = last-area }
