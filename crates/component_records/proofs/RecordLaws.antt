-- Laws of one record among the records (`specs/Records.antt`). Assumes nothing.
--   length-record_at, get_or-record_at           ten entries, and each of them
--   length-with_record, drop-with_record         the records keep their length, and what stands behind the record
--   record_at-with_record, -other                the record that was written, and every other one
--   put_mid-record                               ten entries that are written at once are one record
--   sets-extended, set-enclosing                 a function's stores are one record in the place of another
--   extended-started, extended-extended          columns that others follow are one stretch with them
use Prim.Native.Nat.{ℕ, ◌+◌, ◌-◌, ◌*◌, ◌≤◌, ◌<◌, min, max}
use mathlib.Core.Path.{◌≡◌, refl, sym, ap, ◌∙◌}
use mathlib.Core.List.{List, [], ◌∷◌, ◌++◌, append_assoc}
use native.Mathlib.Omega.{arith}
use native.Mathlib.Nat.{add_assoc}
use borrow.Rule.Slice.PartMut.{put_mid}
use lib.ListN.{length, get_or, take, drop, set, length-append, length-drop, length-set, take-append-drop}
use lib.Seq.{slice, length-slice, length-take-le, take-take, take_at, drop_at, take-append-le, drop-append-add}
use lib.Seq.{drop-drop, get_or-set_other, set-append_left}
use Rattle.lists.specs.Lists.{count_from, tabulate}
use Rattle.lists.proofs.BoolLaws.{by-lt}
use Rattle.lists.proofs.ListLaws.{tabulate-is, get_or-slice, slice-take, set-append-add}
use Rattle.model.specs.Limits.{record_length}
use Rattle.component_records.specs.Records.{record_at, with_record, started_record, extended_record, enclosing_record}

-- ten entries, one by one
ten : (entries : List ℕ) → length entries ≡ record_length →
    entries ≡ get_or entries 0 0 ∷ get_or entries 1 0 ∷ get_or entries 2 0 ∷ get_or entries 3 0 ∷ get_or entries 4 0
    ∷ get_or entries 5 0 ∷ get_or entries 6 0 ∷ get_or entries 7 0 ∷ get_or entries 8 0 ∷ get_or entries 9 0 ∷ []
unfolding tabulate count_from
ten entries e = sym (tabulate-is 10 (λ k. get_or entries k 0) entries e (λ k l. refl))

-- the p-th ten entries are the first ten behind those before them
record_at-drop : (p : ℕ) (records : List ℕ) → 1 ≤ p →
    record_at p records ≡ take record_length (drop (record_length * (p - 1)) records)
unfolding record_at
record_at-drop p records one =
    let e : record_length * (p - 1) + record_length ≡ record_length * p = omega arith in
    ap (λ (n : ℕ). slice (record_length * (p - 1)) n records) (sym e)
    ∙ slice-take (record_length * (p - 1)) record_length records

-- ten entries that are written at once are one record
pub put_mid-record : (p : ℕ) (records : List ℕ) → 1 ≤ p → (entries : List ℕ) {written : List ℕ} → written ≡ entries →
    put_mid (record_length * (p - 1)) (record_length * (p - 1) + record_length - record_length * (p - 1)) records
    written
    ≡ with_record p entries records
unfolding with_record
put_mid-record p records one entries e =
    let start = record_length * (p - 1) in
    let k : start + record_length - start ≡ record_length = omega arith in
    let end : start + record_length ≡ record_length * p = omega arith in
    rw (e, k, drop-drop record_length start records, end) (sym (append_assoc (take start records) entries _))

module _ (p : ℕ) (records : List ℕ) (one : 1 ≤ p) (room : record_length * p ≤ length records) where
  -- where the record starts
  abbrev start : ℕ
  start = record_length * (p - 1)

  -- so long is what stands before it
  length_before : length (take start records) ≡ start
  length_before = length-take-le start records (omega arith)

  -- ten entries
  pub length-record_at : length (record_at p records) ≡ record_length
  unfolding record_at
  length-record_at = length-slice start (record_length * p) records room ∙ omega arith

  -- an entry of it
  pub get_or-record_at : (k : ℕ) → k < record_length → get_or (record_at p records) k 0 ≡ get_or records (start + k) 0
  unfolding record_at
  get_or-record_at k l =
      let e : start + k - start ≡ k = omega arith in
      ap (λ (n : ℕ). get_or (slice start (record_length * p) records) n 0) (sym e)
      ∙ get_or-slice start (record_length * p) (start + k) records (omega arith) (omega arith)

  -- its own entries in its place change nothing
  with_record-record_at : with_record p (record_at p records) records ≡ records
  unfolding with_record record_at
  with_record-record_at =
      let front = take (record_length * p) records in
      ap (λ (l : List ℕ). l ++ drop start front ++ drop (record_length * p) records)
      (sym (take-take start (record_length * p) records (omega arith)))
      ∙ ap (λ (l : List ℕ). l ++ drop (record_length * p) records) (take-append-drop start front)
      ∙ take-append-drop (record_length * p) records

  module _ (entries : List ℕ) (size : length entries ≡ record_length) where
    -- and what stands before its end
    length-upto : length (take start records ++ entries) ≡ record_length * p
    length-upto = length-append (take start records) entries ∙ omega (arith, length_before)

    -- the records keep their length
    pub length-with_record : length (with_record p entries records) ≡ length records
    unfolding with_record
    length-with_record =
        length-append (take start records ++ entries) (drop (record_length * p) records)
        ∙ omega (arith, length-upto, length-drop (record_length * p) records)

    -- the record that was written
    pub record_at-with_record : record_at p (with_record p entries records) ≡ entries
    unfolding record_at with_record
    record_at-with_record =
        let front = take start records ++ entries in
        ap (drop start) (take_at front (drop (record_length * p) records) (record_length * p) length-upto)
        ∙ drop_at (take start records) entries start length_before

    -- what stands behind it, or behind a later one, is as it was
    pub drop-with_record : (n : ℕ) → p ≤ n →
        drop (record_length * n) (with_record p entries records) ≡ drop (record_length * n) records
    unfolding with_record
    drop-with_record n l =
        let front = take start records ++ entries in
        let behind = drop (record_length * p) records in
        let e : length front + record_length * (n - p) ≡ record_length * n = omega (arith, length-upto) in
        let f : record_length * p + record_length * (n - p) ≡ record_length * n = omega arith in
        ap (λ (m : ℕ). drop m (front ++ behind)) (sym e)
        ∙ drop-append-add front behind (record_length * (n - p))
        ∙ drop-drop (record_length * (n - p)) (record_length * p) records
        ∙ ap (λ (m : ℕ). drop m records) f

    -- and so is every other record
    pub record_at-with_record-other : (q : ℕ) → 1 ≤ q → (q ≡ p → ⊥) →
        record_at q (with_record p entries records) ≡ record_at q records
    unfolding record_at with_record
    record_at-with_record-other q first other =
        let whole = with_record p entries records in
        let behind = drop (record_length * p) records in
        by-lt q p
        (λ less.
        let before : take (record_length * q) whole ≡ take (record_length * q) records =
        ap (take (record_length * q)) (append_assoc (take start records) entries behind)
        ∙ take-append-le (record_length * q) (take start records) (entries ++ behind) (omega (arith, length_before))
        ∙ take-take (record_length * q) start records (omega arith) in
        ap (drop (record_length * (q - 1))) before)
        (λ more.
        record_at-drop q whole first
        ∙ ap (take record_length) (drop-with_record (q - 1) (omega arith))
        ∙ sym (record_at-drop q records first))

    -- a store inside it
    set-with_record : (k v : ℕ) → k < record_length →
        set (with_record p entries records) (start + k) v ≡ with_record p (set entries k v) records
    unfolding with_record
    set-with_record k v l =
        let behind = drop (record_length * p) records in
        ap (λ (l : List ℕ). set l (start + k) v) (append_assoc (take start records) entries behind)
        ∙ ap (λ (n : ℕ). set (take start records ++ (entries ++ behind)) (n + k) v) (sym length_before)
        ∙ set-append-add (take start records) (entries ++ behind) k v
        ∙ ap (λ (l : List ℕ). take start records ++ l) (set-append_left entries behind k v (omega arith))
        ∙ sym (append_assoc (take start records) (set entries k v) behind)

  -- a store in the records is a store in the record
  set-record : (k v : ℕ) → k < record_length →
      set records (start + k) v ≡ with_record p (set (record_at p records) k v) records
  set-record k v within =
      ap (λ (l : List ℕ). set l (start + k) v) (sym with_record-record_at)
      ∙ set-with_record (record_at p records) length-record_at k v within

  -- the four stores that extend it: the ones that read an entry read what stood there
  pub sets-extended : (x end y a b : ℕ) →
      let longer = set records (start + 3) (get_or records (start + 3) 0 + (end - x)) in
      a ≡ min (get_or longer (start + 4) 0) x → b ≡ max (get_or (set longer (start + 4) a) (start + 6) 0) (end - 1) →
      set (set (set longer (start + 4) a) (start + 6) b) (start + 7) y
      ≡ with_record p (extended_record x end y (record_at p records)) records
  unfolding extended_record
  sets-extended x end y a b ea eb =
      let entries = record_at p records in
      let area = get_or records (start + 3) 0 + (end - x) in
      let area-is : area ≡ get_or entries 3 0 + (end - x) =
      ap (λ (n : ℕ). n + (end - x)) (sym (get_or-record_at 3 (omega arith))) in
      let a-is : a ≡ min (get_or entries 4 0) x =
      ea
      ∙ ap (λ (n : ℕ). min n x)
      (get_or-set_other records (start + 3) (start + 4) area 0 (λ e. omega arith)
      ∙ sym (get_or-record_at 4 (omega arith))) in
      let b-is : b ≡ max (get_or entries 6 0) (end - 1) =
      eb
      ∙ ap (λ (n : ℕ). max n (end - 1))
      (get_or-set_other (set records (start + 3) area) (start + 4) (start + 6) a 0 (λ e. omega arith)
      ∙ get_or-set_other records (start + 3) (start + 6) area 0 (λ e. omega arith)
      ∙ sym (get_or-record_at 6 (omega arith))) in
      let size : length entries ≡ record_length = length-record_at in
      let s1 = set entries 3 area in
      let s2 = set s1 4 a in
      let s3 = set s2 6 b in
      let size1 : length s1 ≡ record_length = simp length-set size in
      let size2 : length s2 ≡ record_length = simp length-set size in
      let size3 : length s3 ≡ record_length = simp length-set size in
      ap (λ (l : List ℕ). set (set (set l (start + 4) a) (start + 6) b) (start + 7) y)
      (set-record 3 area (omega arith))
      ∙ ap (λ (l : List ℕ). set (set l (start + 6) b) (start + 7) y) (set-with_record s1 size1 4 a (omega arith))
      ∙ ap (λ (l : List ℕ). set l (start + 7) y) (set-with_record s2 size2 6 b (omega arith))
      ∙ set-with_record s3 size3 7 y (omega arith)
      ∙ ap (λ (l : List ℕ). with_record p (set (set (set (set l 3 area) 4 a) 6 b) 7 y) records) (ten entries size)
      ∙ rw (area-is, a-is, b-is)

  -- and the one that counts a hole
  pub set-enclosing :
      set records (start + 8) (get_or records (start + 8) 0 + 1)
      ≡ with_record p (enclosing_record (record_at p records)) records
  unfolding enclosing_record
  set-enclosing =
      let entries = record_at p records in
      let holes = get_or records (start + 8) 0 + 1 in
      set-record 8 holes (omega arith)
      ∙ ap (λ (l : List ℕ). with_record p (set l 8 holes) records) (ten entries length-record_at)
      ∙ rw (get_or-record_at 8 (omega arith))

-- ---- runs that follow one another

module _ {x middle end : ℕ} (some : x < middle) (more : middle ≤ end) where
  -- their columns together, and the first and the last of them
  columns : (middle - x) + (end - middle) ≡ end - x
  columns = omega arith

  first-column : (left : ℕ) → min (min left x) middle ≡ min left x
  first-column left = omega arith

  last-column : (right : ℕ) → max (max right (middle - 1)) (end - 1) ≡ max right (end - 1)
  last-column right = omega arith

  -- behind the first columns
  pub extended-started : (p y parent : ℕ) →
      extended_record middle end y (started_record p x middle y parent) ≡ started_record p x end y parent
  unfolding extended_record started_record
  extended-started p y parent =
      let left : min x middle ≡ x = omega arith in
      let right : max (middle - 1) (end - 1) ≡ end - 1 = omega arith in
      rw (columns, left, right)

  -- and behind a further one
  pub extended-extended : (y : ℕ) (entries : List ℕ) →
      extended_record middle end y (extended_record x middle y entries) ≡ extended_record x end y entries
  unfolding extended_record
  extended-extended y entries =
      rw (
        add_assoc (get_or entries 3 0) (middle - x) (end - middle),
        columns,
        first-column (get_or entries 4 0),
        last-column (get_or entries 6 0),
      )
