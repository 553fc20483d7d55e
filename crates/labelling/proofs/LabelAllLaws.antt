-- Laws of the loop of `label_all`: each turn passes the pixels up to the next start, and gives that one the next
-- label. Where a forest guides the search, the labels so far are those that are asked for. Assumes nothing.
--   LabelledBefore                 the labels before a position are those that are asked for
--   labelled_before-none           before the first position
--   labelled_before-passed         a stretch of positions that start nothing
--   start-new, start-lt            a start's label is new, so more labels are asked for
--   labelled_before-next           a start gets the next label
--   Counting                       what holds at the loop's test, also where there are too many
--   counting-start, -next, -over   before the first turn, after a turn, after the one too many
--   labelled-all                   what the loop leaves where the search finds nothing more
use Prim.Native.Nat.{ℕ, zero, suc, ◌+◌, ◌-◌, ◌*◌, ◌≤◌, ◌<◌}
use mathlib.Core.Path.{◌≡◌, refl, sym, ap, ◌∙◌}
use mathlib.Core.Bool.{true}
use mathlib.Core.List.{List}
use native.Mathlib.Nat.{min-eq_left, add-zero, add-suc}
use native.Mathlib.Numerals.{add-one}
use native.Mathlib.Omega.{arith}
use lib.ListN.{length, get_or, set, length-set}
use lib.Seq.{get_or-set_same, get_or-set_other, ext_get_or}
use Rattle.lists.proofs.BoolLaws.{by-eq, by-lt}
use Rattle.model.specs.Limits.{max_labels}
use Rattle.model.specs.Labelling.{Labels, first_pixel}
use Rattle.union_find.specs.Forest.{Forest}
use Rattle.labelling.specs.Inner.{is_unlabelled, Passed, NextStart, Guided, Labelled}
use Rattle.component_records.specs.Records.{SeenBefore}
use Rattle.std.specs.Prelude.{Some, None}
use Rattle.labelling.proofs.SearchLaws.{is_unlabelled-same, next_start-lt}
use Rattle.component_records.proofs.SeenLaws.{seen_none, seen_all, seen-label, seen_same, seen_next, next-label}

-- ---- labels that are asked for

-- the labels before position n are those that are asked for, `count` of them; the others are as they were
pub record LabelledBefore (width height : ℕ) (asked : Labels) (labels₀ : List ℕ) (n : ℕ) (labels : List ℕ) (count : ℕ) :
    Type 0 where
  pub seen : SeenBefore width height asked n count
  pub before : (k : ℕ) → k < n → get_or labels k 0 ≡ get_or asked.labels k 0
  pub behind : (k : ℕ) → n ≤ k → get_or labels k 0 ≡ get_or labels₀ k 0

module _ {width height : ℕ} (value : ℕ) (image : List ℕ) {queue labels₀ : List ℕ} {asked : Labels}
    (guided : Guided width height queue (is_unlabelled value image labels₀) asked) where
  -- no label stands before the first position
  labelled_before-none : LabelledBefore width height asked labels₀ 0 labels₀ 0
  labelled_before-none =
      record {
        seen = seen_none guided.numbered;
        before = λ k less. absurd (omega arith);
        behind = λ k more. refl;
      }

  module _ {from count : ℕ} {labels : List ℕ}
      (so : LabelledBefore width height asked labels₀ from labels count) where
    -- a position that is not labelled yet is unlabelled or not as at the beginning
    unlabelled-still : (k : ℕ) → from ≤ k → is_unlabelled value image labels k ≡ is_unlabelled value image labels₀ k
    unlabelled-still k more = is_unlabelled-same value image queue labels₀ labels k (so.behind k more)

    module _ {to : ℕ} {labels' : List ℕ} (forest : Forest (width * height) queue) (ahead : from ≤ to)
        (within : to ≤ width * height) (p : Passed value image queue labels from to labels') where
      -- a root that is passed is asked to have no label
      passed-root : (k : ℕ) → from ≤ k → k < to → get_or queue k 0 ≡ k → get_or asked.labels k 0 ≡ 0
      passed-root k more less root =
          guided.none k (omega arith) root (sym (unlabelled-still k more) ∙ p.other k more less root)

      -- so every label up to there is the one that is asked for, as the labels of lower positions are
      passed-label : (n k : ℕ) → k < n → k < to → get_or labels' k 0 ≡ get_or asked.labels k 0
      passed-label zero k fuel less = absurd (omega arith)
      passed-label (suc n) k fuel less =
          by-lt k from (λ old. p.before k old ∙ so.before k old)
          (λ more.
          by-eq (get_or queue k 0) k
          (λ root. p.none k more less root ∙ sym (passed-root k more less root))
          (λ d.
          let lower = forest.lower k (omega arith) in
          p.hung k more less d
          ∙ passed-label n (get_or queue k 0) (omega arith) (omega arith)
          ∙ sym (guided.hung k (omega arith))))

      -- and no label is new there
      passed-seen : (n : ℕ) → from + n ≤ to → SeenBefore width height asked (from + n) count
      passed-seen zero le = rw add-zero so.seen
      passed-seen (suc n) le =
          let k = from + n in
          let s = passed-seen n (omega arith) in
          let old : get_or asked.labels k 0 ≤ count =
          by-eq (get_or queue k 0) k
          (λ root. omega (arith, passed-root k (omega arith) (omega arith) root))
          (λ d.
          let lower = forest.lower k (omega arith) in
          let same = guided.hung k (omega arith) in
          omega (arith, seen-label guided.numbered s (get_or queue k 0) (omega arith))) in
          rw add-suc (seen_same guided.numbered s old)

      -- a stretch of positions that start nothing
      labelled_before-passed : LabelledBefore width height asked labels₀ to labels' count
      labelled_before-passed =
          let there : from + (to - from) ≡ to = omega arith in
          record {
            seen = rw there at (passed-seen (to - from) (omega arith));
            before = λ k less. passed-label (suc k) k (omega arith) less;
            behind = λ k more. p.behind k more ∙ so.behind k (omega arith);
          }

    module _ (inside : from < width * height) (root : get_or queue from 0 ≡ from)
        (start : is_unlabelled value image labels₀ from ≡ true) where
      -- a start's label is new: the label's first pixel is not before it
      start-new : count < get_or asked.labels from 0
      start-new =
          by-lt count (get_or asked.labels from 0) (λ new. new)
          (λ old.
          let label = get_or asked.labels from 0 in
          let one = guided.some from inside root start in
          let most = guided.numbered.most from in
          let before = (so.seen.exact label one most).0 old in
          absurd
          (guided.first from (first_pixel width height asked.labels label) inside root start before
          (guided.numbered.label label one most)))

      -- so more labels are asked for
      start-lt : count < asked.count
      start-lt = omega (arith, start-new, guided.numbered.most from)

      -- it gets the next label
      labelled_before-next : {labels' : List ℕ} → from < length labels → labels' ≡ set labels from (count + 1) →
          LabelledBefore width height asked labels₀ (from + 1) labels' (count + 1)
      labelled_before-next {labels'} room written =
          let next = next-label guided.numbered so.seen start-new in
          let there : (k : ℕ) → (k ≡ from → ⊥) → get_or labels' k 0 ≡ get_or labels k 0 =
          λ k d. rw written (get_or-set_other labels from k (count + 1) 0 d) in
          record {
            seen = rw (add-one from, add-one count, ← next) (seen_next guided.numbered so.seen start-new);
            before = λ k less.
                by-eq k from
                (λ e. rw (e, written) (get_or-set_same labels from (count + 1) 0 room ∙ add-one count ∙ sym next))
                (λ d. there k d ∙ so.before k (omega arith));
            behind = λ k more. there k (λ e. omega arith) ∙ so.behind k (omega arith);
          }

-- ---- the loop

-- What holds at the loop's test: as long as the labels fit a map, those before position `from` are
-- the ones that are asked for, if a forest guides the search to them; with one more counted, there are too many
pub record Counting (width height value : ℕ) (image queue labels₀ : List ℕ) (from : ℕ) (labels : List ℕ) (count : ℕ) :
    Type 0 where
  pub within : from ≤ width * height
  pub few : count ≤ suc max_labels
  pub size : length labels ≡ width * height
  pub fit : count ≤ max_labels → (asked : Labels) →
      Guided width height queue (is_unlabelled value image labels₀) asked →
      LabelledBefore width height asked labels₀ from labels count
  pub over : max_labels < count → (asked : Labels) →
      Guided width height queue (is_unlabelled value image labels₀) asked →
      max_labels < asked.count

module _ {width height value : ℕ} {image queue labels₀ : List ℕ} where
  -- before the first turn
  pub counting-start : length labels₀ ≡ width * height → Counting width height value image queue labels₀ 0 labels₀ 0
  counting-start size =
      record {
        within = omega arith;
        few = omega arith;
        size = size;
        fit = λ fits asked guided. labelled_before-none value image guided;
        over = λ many. absurd (omega arith);
      }

  module _ {from count : ℕ} {labels : List ℕ}
      (so : Counting width height value image queue labels₀ from labels count) where
    module _ (forest : Forest (width * height) queue) (fits : count ≤ max_labels) (labels' : List ℕ) where
      -- where the search finds nothing, all labels are there
      pub labelled-all : NextStart (width * height) value image queue labels from labels' None → (asked : Labels) →
          Guided width height queue (is_unlabelled value image labels₀) asked →
          Labelled width height asked labels' count
      unfolding NextStart
      labelled-all p asked guided =
          let before = so.fit fits asked guided in
          let all = labelled_before-passed value image guided before forest so.within (omega arith) p in
          let whole = seen_all guided.numbered all.seen in
          let size = p.size ∙ so.size in
          record {
            size = size;
            counted = rw (← whole) (sym (min-eq_left (omega arith)));
            same = λ few.
                ext_get_or 0 labels' asked.labels (size ∙ sym guided.numbered.pixels)
                (λ k less. all.before k (omega arith));
          }

      module _ (at : ℕ) (next : NextStart (width * height) value image queue labels from labels' (Some at)) where
        -- the pixel found is inside the crop
        found_lt : at < width * height
        found_lt = next_start-lt value image queue labels _ from labels' next

        module _ (asked : Labels) (guided : Guided width height queue (is_unlabelled value image labels₀) asked) where
          -- the labels before it are those that are asked for
          found_before : LabelledBefore width height asked labels₀ at labels' count
          unfolding NextStart
          found_before =
              labelled_before-passed value image guided (so.fit fits asked guided) forest next.0 (omega arith)
              next.4

          -- it has been a start from the beginning
          found-start : is_unlabelled value image labels₀ at ≡ true
          unfolding NextStart
          found-start =
              sym (unlabelled-still value image guided (so.fit fits asked guided) at next.0) ∙ next.3

        -- after a turn
        pub counting-next : {labels'' : List ℕ} → count + 1 ≤ max_labels → labels'' ≡ set labels' at (count + 1) →
            Counting width height value image queue labels₀ (at + 1) labels'' (count + 1)
        unfolding NextStart
        counting-next {labels''} more written =
            let size = next.4.size ∙ so.size in
            record {
              within = omega (arith, found_lt);
              few = omega arith;
              size = ap length written ∙ length-set labels' at (count + 1) ∙ size;
              fit = λ fits asked guided.
                  labelled_before-next value image guided (found_before asked guided) found_lt next.2
                  (found-start asked guided)
                  (omega (arith, found_lt))
                  written;
              over = λ many. absurd (omega arith);
            }

        -- after the turn that counts one too many
        pub counting-over : max_labels < count + 1 →
            Counting width height value image queue labels₀ (at + 1) labels' (count + 1)
        unfolding NextStart
        counting-over many =
            let size = next.4.size ∙ so.size in
            record {
              within = omega (arith, found_lt);
              few = omega arith;
              size = size;
              fit = λ fits. absurd (omega arith);
              over = λ many asked guided.
                  omega (
                    arith,
                    start-lt value image guided (found_before asked guided) found_lt next.2
                        (found-start asked guided),
                  );
            }
