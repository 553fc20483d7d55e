-- Laws of `Recorded` and `Kept` (`specs/Records.antt`): what the pass over the maps has written. Assumes nothing.
--   recorded-outside                   a stretch of no component
--   recorded-extended, extended-area   a further stretch of a component; its area fits
--   recorded-started                   a component's first stretch
--   recorded-parent, parent-le         its enclosing component, as the queue tells it, is a label or 0
--   recorded-same                      a pixel that is no hole's first
--   recorded-inside                    the pixels of a stretch behind its first: no hole starts there
--   recorded-enclosing                 a hole's first pixel
--   hole-left, hole-le                 which has a pixel to the left, and a place in the queue
--   enclosing-is .. enclosing-few      the pixel to the left is in the enclosing component, whose record is started
--   kept_refl, -trans, -with_record    what stands behind the records that were started
--   writable-same                      room is a matter of lengths
--   recorded-all                       all records behind the last position
use Prim.Native.Nat.{ℕ, zero, suc, ◌+◌, ◌-◌, ◌*◌, ◌≤◌, ◌<◌, zero-le}
use mathlib.Core.Path.{◌≡◌, refl, sym, ap, ◌∙◌}
use mathlib.Core.Bool.{cond, ◌||◌}
use mathlib.Core.List.{List, [], ◌∷◌, ◌++◌, flat_map}
use native.Mathlib.Omega.{arith}
use native.Mathlib.Nat.{le_of_lt}
use native.Mathlib.Numerals.{add-one, one-add}
use lib.Dec.{eqb}
use lib.ListN.{length, get_or, take, drop, set, take-append-drop}
use lib.Seq.{get_or-set_same, get_or-set_other, take-take, drop-drop}
use borrow.Author.Tests.{eqb-false}
use Rattle.neighbours.specs.Limits.{max_pixels}
use Rattle.lists.specs.Lists.{count_from}
use Rattle.lists.proofs.BoolLaws.{by-test, by-eq, by-lt, or-false-left, or-false-right, cond-le}
use Rattle.lists.proofs.ListLaws.{count_from-append, flat_map-snoc}
use Rattle.neighbours.specs.Grid.{column, position}
use Rattle.neighbours.proofs.PositionLaws.{column-position, position-small}
use Rattle.model.specs.Limits.{max_labels, record_length}
use Rattle.model.specs.Labelling.{Labels, first_pixel, hole_parent, parent, record_of, records as all_records}
use Rattle.component_records.specs.declared.Seen.{Seen}
use Rattle.component_records.specs.Records.{Maps, SameLabel, InRow, record_at, with_record, started_record}
use Rattle.component_records.specs.Records.{extended_record}
use Rattle.component_records.specs.Records.{enclosing_record, SeenBefore, record_before, Recorded, Kept, Writable}
use Rattle.component_records.proofs.RecordLaws.{length-with_record, record_at-with_record}
use Rattle.component_records.proofs.RecordLaws.{record_at-with_record-other}
use Rattle.component_records.proofs.RecordLaws.{drop-with_record}
use Rattle.component_records.proofs.SameLabelLaws.{stepwise, in_row-column}
use Rattle.component_records.proofs.SeenLaws.{label-le, seen-label, seen-upto, seen_same, next-first}
use Rattle.component_records.proofs.SeenLaws.{next-label, seen_next, seen_all}
use Rattle.component_records.proofs.RecordBeforeLaws.{record_before-other, record_before-extended}
use Rattle.component_records.proofs.RecordBeforeLaws.{record_before-started}
use Rattle.component_records.proofs.RecordBeforeLaws.{record_before-apart, record_before-enclosing}
use Rattle.component_records.proofs.RecordBeforeLaws.{record_before-area-le}
use Rattle.component_records.proofs.RecordBeforeLaws.{record_before-holes-le, record_before-all}

module _ {width height : ℕ} {cs hs : Labels} (maps : Maps width height cs hs) where
  -- ---- components

  module _ {n m : ℕ} {seen : Seen} {queue records : List ℕ}
      (r : Recorded width height cs hs n m seen queue records) where
    -- a stretch of no component
    pub recorded-outside : {to : ℕ} → SameLabel cs.labels n to → get_or cs.labels n 0 ≡ 0 →
        Recorded width height cs hs to m seen queue records
    recorded-outside stretch none =
        let le = le_of_lt stretch.some in
        record {
          components = seen-upto maps.components r.components le
              (λ i from upto. omega (arith, stretch.same i from upto));
          holes = r.holes;
          parents = r.parents;
          started = λ p one most.
              r.started p one most
              ∙ sym
              (record_before-other width height cs hs seen.holes p le
              (λ i from upto e. omega (arith, stretch.same i from upto)));
        }

  -- the columns from x up to `end` of row y, of component p
  module _ {x end y : ℕ} (row : InRow width height cs.labels x end y) (p : ℕ)
      (here : p ≡ get_or cs.labels (position width x y) 0) where
    -- each of its pixels has the label
    labels-are : (i : ℕ) → position width x y ≤ i → i < position width end y → get_or cs.labels i 0 ≡ p
    labels-are i from upto = row.stretch.same i from upto ∙ sym here

    -- so the records of other components stay
    other-before : (holes q : ℕ) → (q ≡ p → ⊥) →
        record_before width height cs hs (position width end y) holes q
        ≡ record_before width height cs hs (position width x y) holes q
    other-before holes q other =
        record_before-other width height cs hs holes q (le_of_lt row.stretch.some)
        (λ i from upto e. other (sym e ∙ labels-are i from upto))

    -- a further stretch
    module _ {m : ℕ} {seen : Seen} {queue records : List ℕ}
        (r : Recorded width height cs hs (position width x y) m seen queue records) (one : 1 ≤ p)
        (old : p ≤ seen.components) where
      -- its area fits
      pub extended-area : get_or (record_at p records) 3 0 < max_pixels
      extended-area =
          rw (r.started p one old)
          (omega (
            arith,
            record_before-area-le width height cs hs (position width x y) seen.holes p,
            position-small maps.valid (in_row-column row) row.low,
          ))

      pub recorded-extended : record_length * p ≤ length records → {records' : List ℕ} →
          records' ≡ with_record p (extended_record x end y (record_at p records)) records →
          Recorded width height cs hs (position width end y) m seen queue records'
      unfolding extended_record
      recorded-extended room e =
          let entries = extended_record x end y (record_at p records) in
          let most : p ≤ cs.count = rw here (maps.components.most (position width x y)) in
          record {
            components = seen-upto maps.components r.components (le_of_lt row.stretch.some)
                (λ i from upto. omega (arith, labels-are i from upto));
            holes = r.holes;
            parents = r.parents;
            started = λ q first upto.
                by-eq q p
                (λ same.
                rw (e, same, record_at-with_record p records one room entries refl, r.started p one old)
                (sym
                (record_before-extended width height cs hs seen.holes p x end y (omega (arith, row.stretch.some))
                row.within
                labels-are
                (maps.components.label p one most)
                ((r.components.exact p one most).0 old))))
                (λ other.
                rw e
                (record_at-with_record-other p records one room entries refl q first other
                ∙ r.started q first upto
                ∙ sym (other-before seen.holes q other)));
          }

  -- a hole's enclosing component is a label, or 0
  hole_parent-le : (hole : ℕ) → hole_parent width height cs.labels hs.labels hole ≤ max_labels
  unfolding hole_parent
  hole_parent-le hole =
      omega (arith, maps.few_components, maps.components.most (first_pixel width height hs.labels hole - 1))

  -- and so is a component's
  pub parent-le : (p : ℕ) → parent width height cs.labels hs.labels p ≤ max_labels
  unfolding parent
  parent-le p =
      let first = first_pixel width height cs.labels p in
      let hole = get_or hs.labels (first - 1) 0 in
      let enclosing = hole_parent width height cs.labels hs.labels hole in
      cond-le (eqb (column width first) 0 || eqb hole 0) 0 enclosing max_labels zero-le (hole_parent-le hole)

  -- its first stretch, whose first pixel has been looked at for a hole
  module _ {x end y : ℕ} (row : InRow width height cs.labels x end y) (p : ℕ)
      (here : p ≡ get_or cs.labels (position width x y) 0) {seen : Seen} {queue records : List ℕ}
      (r : Recorded width height cs hs (position width x y) (suc (position width x y)) seen queue records)
      (new : seen.components < p) where
    abbrev n : ℕ
    n = position width x y

    started-first : first_pixel width height cs.labels p ≡ n
    started-first =
        ap (first_pixel width height cs.labels) here ∙ next-first maps.components r.components (omega arith)

    -- what the hole to the left has in the queue is the enclosing component
    pub recorded-parent : {q : ℕ} →
        let hole = get_or hs.labels (n - 1) 0 in
        q ≡ cond (eqb x 0 || eqb hole 0) 0 (get_or queue (hole - 1) 0) →
        q ≡ parent width height cs.labels hs.labels p
    unfolding parent
    recorded-parent e =
        let hole = get_or hs.labels (n - 1) 0 in
        rw (started-first, column-position width y (in_row-column row))
        (by-test (eqb x 0 || eqb hole 0) (λ none. rw none (rw none at e))
        (λ some.
        let inner = eqb-false x 0 (or-false-left _ (eqb hole 0) some) in
        let held = eqb-false hole 0 (or-false-right (eqb x 0) _ some) in
        let seen-hole = seen-label maps.holes r.holes (n - 1) (omega arith) in
        rw some (rw some at e ∙ r.parents hole (omega arith) seen-hole)))

    pub recorded-started : record_length * p ≤ length records → {q : ℕ} →
        q ≡ parent width height cs.labels hs.labels p → {records' : List ℕ} →
        records' ≡ with_record p (started_record p x end y q) records →
        Recorded width height cs hs (position width end y) (suc n) (record { components = p; holes = seen.holes })
        queue
        records'
    unfolding started_record hole_parent
    recorded-started room {q} above e =
        let entries = started_record p x end y q in
        let one : 1 ≤ p = omega arith in
        let most : p ≤ cs.count = rw here (maps.components.most n) in
        let next : p ≡ suc seen.components = here ∙ next-label maps.components r.components (omega arith) in
        let start : SeenBefore width height cs (suc n) p =
        rw here (seen_next maps.components r.components (omega arith)) in
        let lower : (j : ℕ) → j < n → get_or cs.labels j 0 < p =
        λ j before. maps.components.lower p j one most (omega (arith, started-first)) in
        let apart : (hole : ℕ) → 1 ≤ hole → hole ≤ seen.holes →
        hole_parent width height cs.labels hs.labels hole < p =
        λ hole low high.
        let before = (r.holes.exact hole low (omega (arith, r.holes.most))).0 high in
        let pos = maps.left hole low (omega (arith, r.holes.most)) in
        lower (first_pixel width height hs.labels hole - 1) (omega arith) in
        record {
          components = seen-upto maps.components start row.stretch.some
              (λ i from upto. omega (arith, labels-are row p here i (omega arith) upto));
          holes = r.holes;
          parents = r.parents;
          started = λ a first upto.
              by-eq a p
              (λ same.
              rw (e, same, record_at-with_record p records one room entries refl, above)
              (sym
              (record_before-started width height cs hs seen.holes p x end y
              (omega (arith, row.stretch.some))
              row.within
              (labels-are row p here)
              (maps.components.label p one most)
              started-first
              (λ j before label. omega (arith, lower j before))
              (λ hole low high enclosing. omega (arith, apart hole low high)))))
              (λ other.
              rw e
              (record_at-with_record-other p records one room entries refl a first other
              ∙ r.started a first (omega arith)
              ∙ sym (other-before row p here seen.holes a other)));
        }

  -- ---- holes

  module _ {n m : ℕ} {seen : Seen} {queue records : List ℕ}
      (r : Recorded width height cs hs n m seen queue records) where
    -- a pixel that is no hole's first
    pub recorded-same : get_or hs.labels m 0 ≤ seen.holes → Recorded width height cs hs n (suc m) seen queue records
    recorded-same old =
        record {
          components = r.components;
          holes = seen_same maps.holes r.holes old;
          parents = r.parents;
          started = r.started;
        }

  -- Where the label of the components stays the same no hole starts: it would be in no component, and the pixel left
  -- of it in one
  pub recorded-inside : {n from to : ℕ} {seen : Seen} {queue records : List ℕ} → SameLabel cs.labels from to →
      Recorded width height cs hs n (suc from) seen queue records →
      Recorded width height cs hs n to seen queue records
  unfolding hole_parent
  recorded-inside {n} {from} {to} {seen} {queue} {records} stretch r =
      stepwise (λ i. Recorded width height cs hs n i seen queue records) stretch.some r
      (λ i behind upto s.
      recorded-same s
      (by-lt seen.holes (get_or hs.labels i 0)
      (λ new.
      let hole = get_or hs.labels i 0 in
      let first = next-first maps.holes s.holes new in
      let most = maps.holes.most i in
      let none = rw first at (maps.apart hole (omega arith) most) in
      let some = rw first at (maps.enclosed hole (omega arith) most) in
      absurd (omega (arith, stretch.same i (omega arith) upto, stretch.same (i - 1) (omega arith) (omega arith))))
      (λ old. old)))

  -- the first pixel of a hole
  module _ {m : ℕ} {seen : Seen} {queue records : List ℕ} (r : Recorded width height cs hs m m seen queue records)
      (hole : ℕ) (here : hole ≡ get_or hs.labels m 0) (new : seen.holes < hole) where
    hole-most : hole ≤ hs.count
    hole-most = rw here (maps.holes.most m)

    hole-first : first_pixel width height hs.labels hole ≡ m
    hole-first = ap (first_pixel width height hs.labels) here ∙ next-first maps.holes r.holes (omega arith)

    -- there is a pixel to the left
    pub hole-left : 1 ≤ m
    hole-left = omega (arith, maps.left hole (omega arith) hole-most, hole-first)

    -- the hole's place in the queue is not behind the pixel's
    pub hole-le : hole ≤ suc m
    hole-le = rw here (label-le maps.holes m)

    module _ (p : ℕ) (left : p ≡ get_or cs.labels (m - 1) 0) where
      -- the pixel to the left is in the enclosing component
      pub enclosing-is : hole_parent width height cs.labels hs.labels hole ≡ p
      unfolding hole_parent
      enclosing-is = rw hole-first (sym left)

      pub enclosing-pos : 1 ≤ p
      enclosing-pos = rw enclosing-is at (maps.enclosed hole (omega arith) hole-most)

      pub enclosing-most : p ≤ cs.count
      enclosing-most = rw left (maps.components.most (m - 1))

      -- whose record is started
      pub enclosing-seen : p ≤ seen.components
      enclosing-seen = rw left (seen-label maps.components r.components (m - 1) (omega (arith, hole-left)))

      -- and has few holes so far
      pub enclosing-few : get_or (record_at p records) 8 0 < max_pixels
      enclosing-few =
          rw (r.started p enclosing-pos enclosing-seen)
          (omega
          (arith, record_before-holes-le width height cs hs m seen.holes p, r.holes.most, maps.few_holes))

      pub recorded-enclosing : record_length * p ≤ length records → m < length queue → {queue' records' : List ℕ} →
          queue' ≡ set queue (hole - 1) p → records' ≡ with_record p (enclosing_record (record_at p records)) records →
          Recorded width height cs hs m (suc m) (record { components = seen.components; holes = hole }) queue'
          records'
      unfolding enclosing_record
      recorded-enclosing room slot put e =
          let entries = enclosing_record (record_at p records) in
          let one = enclosing-pos in
          let next : hole ≡ suc seen.holes = here ∙ next-label maps.holes r.holes (omega arith) in
          let within = rw next at enclosing-is in
          record {
            components = r.components;
            holes = rw here (seen_next maps.holes r.holes (omega arith));
            parents = λ a low high.
                by-eq a hole
                (λ same.
                rw (put, same) (get_or-set_same queue (hole - 1) p 0 (omega (arith, hole-le)) ∙ sym enclosing-is))
                (λ other.
                rw put
                (get_or-set_other queue (hole - 1) (a - 1) p 0 (λ at. omega arith) ∙ r.parents a low (omega arith)));
            started = λ a first upto.
                by-eq a p
                (λ same.
                rw (
                  e,
                  same,
                  record_at-with_record p records one room entries refl,
                  r.started p one enclosing-seen,
                  next,
                )
                (sym (record_before-enclosing width height cs hs m seen.holes p within)))
                (λ other.
                rw (e, next)
                (record_at-with_record-other p records one room entries refl a first other
                ∙ r.started a first upto
                ∙ sym (record_before-apart width height cs hs m seen.holes a (λ is. other (sym is ∙ within)))));
          }

-- ---- what stands behind the records

pub kept_refl : (started : ℕ) (records : List ℕ) → Kept started records records
kept_refl started records = record { size = refl; behind = refl }

-- dropped in two steps
drop-records : (started more : ℕ) (l : List ℕ) → started ≤ more →
    drop (record_length * (more - started)) (drop (record_length * started) l) ≡ drop (record_length * more) l
drop-records started more l le =
    let e : record_length * started + record_length * (more - started) ≡ record_length * more = omega arith in
    drop-drop (record_length * (more - started)) (record_length * started) l ∙ ap (λ (n : ℕ). drop n l) e

pub kept_trans : {started more : ℕ} {records records' records'' : List ℕ} → Kept started records records' →
    Kept more records' records'' → started ≤ more → Kept more records records''
kept_trans {started} {more} {records} {records'} a b le =
    record {
      size = b.size ∙ a.size;
      behind = b.behind ∙ sym (drop-records started more records' le)
          ∙ ap (drop (record_length * (more - started))) a.behind
          ∙ drop-records started more records le;
    }

pub kept-with_record : (p started : ℕ) (entries : List ℕ) {records records' : List ℕ} → 1 ≤ p → p ≤ started →
    record_length * p ≤ length records → length entries ≡ record_length → records' ≡ with_record p entries records →
    Kept started records records'
kept-with_record p started entries {records} one upto room size e =
    record {
      size = ap length e ∙ length-with_record p records one room entries size;
      behind = ap (drop (record_length * started)) e ∙ drop-with_record p records one room entries size started upto;
    }

-- room is a matter of lengths
pub writable-same : {width height : ℕ} {cs hs : Labels} {queue queue' records records' : List ℕ} →
    Writable width height cs hs queue records → length queue' ≡ length queue → length records' ≡ length records →
    Writable width height cs hs queue' records'
writable-same w queued kept =
    record { maps = w.maps; room = omega (arith, w.room); slots = omega (arith, w.slots) }

-- ---- behind the last position

module _ {width height : ℕ} {cs hs : Labels} (maps : Maps width height cs hs) {seen : Seen} {queue records : List ℕ}
    (r : Recorded width height cs hs (width * height) (width * height) seen queue records) where
  -- each record is written
  recorded-each : (p : ℕ) → 1 ≤ p → p ≤ seen.components → record_at p records ≡ record_of width height cs.labels hs p
  recorded-each p one most =
      let all = seen_all maps.holes r.holes in
      r.started p one most ∙ rw all (record_before-all width height cs hs p)

  -- the first ones, one after the other
  recorded-front : (k : ℕ) → k ≤ seen.components →
      take (record_length * k) records ≡ flat_map (record_of width height cs.labels hs) (count_from 1 k)
  unfolding flat_map count_from record_at
  recorded-front zero upto = refl
  recorded-front (suc k) upto =
      let piece = record_of width height cs.labels hs in
      let front = take (record_length * suc k) records in
      let before : take (record_length * k) front ≡ take (record_length * k) records =
      take-take (record_length * k) (record_length * suc k) records (omega arith) in
      let e : suc k - 1 ≡ k = omega arith in
      let last : drop (record_length * k) front ≡ piece (suc k) = rw e at (recorded-each (suc k) (omega arith) upto) in
      let counted : count_from 1 k ++ suc k ∷ [] ≡ count_from 1 (suc k) =
      rw (← (one-add k)) (sym (count_from-append 1 k 1) ∙ ap (count_from 1) (add-one k)) in
      sym (take-append-drop (record_length * k) front)
      ∙ rw (before, last, recorded-front k (omega arith)) (sym (flat_map-snoc piece (count_from 1 k) (suc k)))
      ∙ ap (flat_map piece) counted

  -- so all records are, and behind them stands what stood there
  pub recorded-all : {before : List ℕ} → Kept seen.components before records →
      records ≡ all_records width height cs hs ++ drop (record_length * cs.count) before
  unfolding all_records
  recorded-all kept =
      let all = seen_all maps.components r.components in
      sym (take-append-drop (record_length * seen.components) records)
      ∙ rw (recorded-front seen.components (omega arith), kept.behind, all)
