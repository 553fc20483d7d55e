-- What `gather` asks (`Gatherable`) and gives: the neighbours that hold a value are marked and queued, painted with
-- the value again, and moved to the queue's front.
--   gather_rule       the rule by which they are marked
--   gather-stretch    what the spread starts from
--   gather-kept       the image is as it was
--   gather-gathered   they stand at the queue's front, each once and no other
-- Assumes nothing.
use Prim.Native.Nat.{ℕ, ◌≤◌, ◌<◌}
use mathlib.Core.Path.{◌≡◌, refl, sym, ap, ◌∙◌}
use mathlib.Core.Bool.{Bool, ◌&&◌, and_comm}
use mathlib.Core.Logic.{inl}
use mathlib.Core.List.{List, []}
use native.Mathlib.Omega.{arith}
use lib.Dec.{eqb}
use lib.ListN.{length, take}
use lib.Seq.{slice, ext_get_or}
use Rattle.lists.specs.Lists.{any, occurrences, bit}
use Rattle.lists.proofs.BoolLaws.{by-test, and_right, cond-false}
use Rattle.neighbours.specs.Crop.{Appended, mark}
use Rattle.neighbours.proofs.AppendedLaws.{length-appended, take-appended}
use Rattle.neighbours.proofs.ExtendedLaws.{slice-extended}
use Rattle.engine.specs.declared.Rule.{Rule}
use Rattle.engine.specs.Spread.{is_open, Visited, Stretch}
use Rattle.engine.specs.Leaves.{Painted}
use Rattle.operations.specs.Inner.{Gatherable, Gathered}
use Rattle.engine.proofs.SpreadLaws.{around, end-visited}
use Rattle.engine.proofs.FrontierLaws.{is_open-unmasked, is_open-old, open_count-unmasked, changed-member}
use Rattle.engine.proofs.PaintLaws.{painted-member, painted-other}

-- 4-neighbours that hold the value are marked
abbrev pub gather_rule : ℕ → ℕ → ℕ → Rule
gather_rule width height value =
    record {
      width = width;
      height = height;
      connectivity = 4;
      old = value;
      new = mark;
      allowed = 1;
    }

-- what the spread starts from
pub gather-stretch : {width height : ℕ} {image queue : List ℕ} {value from to : ℕ} →
    Gatherable width height image queue from to value →
    Stretch (gather_rule width height value) [] image queue from to
gather-stretch {width} {height} {image} {value = value} p =
    record {
      fits = record {
        valid = p.valid;
        connected = refl;
        differs = λ e. omega (arith, p.is_bit);
        pixels = p.binary.pixels;
        masked = inl refl;
      };
      room = rw (open_count-unmasked (gather_rule width height value) [] refl image) p.room;
      ordered = p.ordered;
      entries = λ k a b. rw p.binary.pixels (p.entries k a b);
    }

module _ (width height value : ℕ) {image queue image₁ queue₁ : List ℕ} {from to end : ℕ}
    (s : Stretch (gather_rule width height value) [] image queue from to)
    (v : Visited (gather_rule width height value) [] image queue to
    (around (gather_rule width height value) from to queue) image₁ queue₁ end) where
  abbrev rule : Rule
  rule = gather_rule width height value

  -- the positions that are marked stand in the queue behind those that were there
  listed : slice to end queue₁ ≡ v.added
  listed = slice-extended v.extended (end-visited rule [] v s.room)

  -- they are those that are visited and hold the value
  marked : (k : ℕ) → k < length image →
      any (eqb k) v.added ≡ any (eqb k) (around rule from to queue) && is_open rule [] image k
  marked k l =
      changed-member rule [] image (around rule from to queue) image₁ v.added s.fits v.changed k
      (omega (arith, s.fits.pixels))

  -- painted with the value again, the image is as it was
  pub gather-kept : {image₂ : List ℕ} → Painted image₁ (slice to end queue₁) value image₂ → image₂ ≡ image
  gather-kept {image₂} p =
      ext_get_or 0 image₂ image (p.size ∙ v.changed.size)
      (λ k l₂.
      let l₁ : k < length image₁ = omega (arith, p.size) in
      let l : k < length image = omega (arith, v.changed.size) in
      let painted : Painted image₁ v.added value image₂ = rw listed at p in
      by-test (any (eqb k) v.added)
      (λ m.
      painted-member painted k l₁ m
      ∙ sym (is_open-old rule [] image k
      (and_right (any (eqb k) (around rule from to queue)) _ (sym (marked k l) ∙ m))))
      (λ m. painted-other painted k l₁ m ∙ v.changed.pixel k l ∙ cond-false _ _ (sym (marked k l) ∙ m)))

  -- moved to the queue's front, they stand there, each once and no other
  pub gather-gathered : {queue₂ : List ℕ} {len : ℕ} → Appended queue₁ 0 (slice to end queue₁) queue₂ len →
      Gathered width height image (slice from to queue) value queue queue₂ len
  gather-gathered {queue₂} {len} a =
      let moved : Appended queue₁ 0 v.added queue₂ len = rw listed at a in
      let end-le = end-visited rule [] v s.room in
      let size₁ = v.extended.size in
      let within : len ≤ length queue = omega (arith, moved.counted, v.extended.counted) in
      let within₁ : len ≤ length queue₁ = omega arith in
      let front : take len queue₂ ≡ v.added = take-appended moved within₁ in
      record {
        size = length-appended moved within₁ ∙ size₁;
        within = within;
        once = λ k l.
            let near = any (eqb k) (around rule from to queue) in
            ap (occurrences k) front
            ∙ v.changed.once k (omega (arith, s.fits.pixels))
            ∙ ap bit (and_comm near (is_open rule [] image k)
            ∙ ap (λ (t : Bool). t && near) (is_open-unmasked rule [] refl image k));
        no_other = λ k l. ap (occurrences k) front ∙ v.changed.no_other k (omega (arith, s.fits.pixels));
      }
