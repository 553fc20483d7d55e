-- Laws of `label_image`: the maps that its records are taken from, what its checks tell, and the contract `Meets`
-- for each way in which a call ends. Assumes nothing.
--   greatest-labels, counted-labels               the greatest of labels that are numbered is their count
--   maps                                          components and holes have what is asked of maps to write records
--   label-connectivity, -ready, -sizes            what holds where the checks before the work pass
--   labelled-fits, -counted                       labels that are not too many are those that were asked for
--   label_checks-labelled                         the counts of labelled maps are refused as the true ones are
--   zeros-behind-none                             a queue that is cleared from its front on
--   refused-before, refused-counts, done          how a call ends
--   writable                                      what `write_records` requires on the way
use Prim.Native.Nat.{ℕ, zero, suc, ◌-◌, ◌*◌, ◌≤◌, ◌<◌, min, zero-le}
use mathlib.Core.Path.{◌≡◌, refl, sym, ap, ap₂, ◌∙◌}
use mathlib.Core.Bool.{true}
use mathlib.Core.List.{List, [], ◌∷◌, ◌++◌}
use mathlib.Core.Option.{Option, none, some}
use native.Mathlib.Omega.{arith}
use lib.ListN.{length, get_or, drop, replicate}
use borrow.Author.Tests.{lt-ltb, le-ltb}
use Rattle.lists.proofs.BoolLaws.{by-lt}
use Rattle.neighbours.specs.Grid.{is_connectivity}
use Rattle.neighbours.specs.Crop.{ValidSize, Ready}
use Rattle.model.specs.Limits.{max_labels, record_length}
use Rattle.model.specs.Labelling.{Labels, components, holes, greatest, first_pixel, records}
use Rattle.model.specs.Refusals.{refuse_if, first_refusal, label_refusal, label_checks}
use Rattle.model.specs.Queue.{cleared}
use Rattle.model.specs.Calls.{label, label_reply, labels_unless, label_unless, lent, call, Meets}
use Rattle.model.specs.declared.Refusal.{Refusal}
use Rattle.model.specs.declared.Counts.{Counts}
use Rattle.std.specs.Prelude.{Result, Ok, Err}
use Rattle.theorems.proofs.RefusalLaws.{label_refusal-iff}
use Rattle.theorems.proofs.LimitLaws.{count_fits}
use Rattle.theorems.proofs.QueueLaws.{same_queue-refl}
use Rattle.theorems.proofs.LabellingLaws.{label-object, hole-label-iff, left-of-hole, hole_parent-pos}
use Rattle.theorems.proofs.CallLaws.{meets-as}
use Rattle.labelling.specs.Inner.{labels_up_to, Labelled}
use Rattle.component_records.specs.Records.{counted, Numbered, Maps, Writable}
use Rattle.component_records.proofs.NumberedLaws.{numbered-components, numbered-holes}

-- ---- the greatest label

-- no entry is above the greatest
get_or-le-greatest : (xs : List ℕ) (i : ℕ) → get_or xs i 0 ≤ greatest xs
unfolding greatest
get_or-le-greatest [] i = zero-le
get_or-le-greatest (x ∷ xs) zero = omega arith
get_or-le-greatest (x ∷ xs) (suc i) = omega (arith, get_or-le-greatest xs i)

-- which is at most what each is at most
greatest-le : (xs : List ℕ) (most : ℕ) → ((i : ℕ) → get_or xs i 0 ≤ most) → greatest xs ≤ most
unfolding greatest
greatest-le [] most h = zero-le
greatest-le (x ∷ xs) most h = omega (arith, h 0, greatest-le xs most (λ i. h (suc i)))

module _ {width height : ℕ} {l : Labels} (numbered : Numbered width height l) where
  -- the greatest label is the count, also where there is none
  pub greatest-labels : greatest l.labels ≡ l.count
  greatest-labels =
      let most = greatest-le l.labels l.count numbered.most in
      by-lt 0 l.count
      (λ one.
      let last = first_pixel width height l.labels l.count in
      omega (arith, numbered.label l.count one (omega arith), get_or-le-greatest l.labels last))
      (λ none. omega arith)

  -- so the map tells both
  pub counted-labels : counted l.labels ≡ l
  counted-labels = ap (λ (n : ℕ). labels_up_to n l.labels) greatest-labels

-- ---- the maps of components and of holes

module _ (width height connectivity : ℕ) (image : List ℕ) (c : is_connectivity connectivity ≡ true)
    (bits : (i : ℕ) → get_or image i 0 ≤ 1) where
  module _ (hole : ℕ) (one : 1 ≤ hole) (most : hole ≤ (holes width height connectivity image).count) where
    abbrev first : ℕ
    first = first_pixel width height (holes width height connectivity image).labels hole

    first-inside : first < width * height
    first-inside = (numbered-holes width height connectivity image).inside hole one most

    -- a hole's first pixel is background
    first-background : get_or image first 0 ≡ 0
    first-background =
        let here = (numbered-holes width height connectivity image).label hole one most in
        ((hole-label-iff width height connectivity image first first-inside).0 (λ e. omega arith)).0

    -- so it is in no component
    first-apart : get_or (components width height connectivity image).labels first 0 ≡ 0
    first-apart =
        (label-object width height connectivity image c first first-inside).1
        (λ object. omega (arith, first-background))

    -- and not at position 0: the pixel left of it is object
    first_pos : 1 ≤ first
    first_pos =
        by-lt 0 first (λ l. l)
        (λ none.
        let start : first - 1 ≡ first = omega arith in
        let object : get_or image first 0 ≡ 1 =
        ap (λ (i : ℕ). get_or image i 0) (sym start)
        ∙ left-of-hole width height connectivity image hole one most bits in
        absurd (omega (arith, first-background)))

  -- what is asked of them for records
  pub maps : ValidSize width height →
      let cs = components width height connectivity image in
      let hs = holes width height connectivity image in
      cs.count ≤ max_labels → hs.count ≤ max_labels → Maps width height cs hs
  maps valid few_components few_holes =
      record {
        valid = valid;
        few_components = few_components;
        few_holes = few_holes;
        components = numbered-components width height connectivity image c;
        holes = numbered-holes width height connectivity image;
        apart = first-apart;
        left = first_pos;
        enclosed = λ hole one most. hole_parent-pos width height connectivity image hole one most c bits;
      }

-- ---- the checks before the work

module _ (width height connectivity : ℕ) (image queue component_labels hole_labels : List ℕ) where
  module _ (passes : label_refusal width height image queue connectivity component_labels hole_labels ≡ none) where
    -- where nothing refuses, the connectivity is 4 or 8
    pub label-connectivity : is_connectivity connectivity ≡ true
    label-connectivity = ((label_refusal-iff width height image queue connectivity component_labels hole_labels).0
        passes).1

    -- the image and the queue are ready
    pub label-ready : Ready width height image queue
    label-ready =
        let b = ((label_refusal-iff width height image queue connectivity component_labels hole_labels).0 passes).0 in
        record { valid = b.valid; binary = record { pixels = b.sized.0; bits = b.bits.0 }; room = b.room }

    -- and the maps have an entry for each pixel
    pub label-sizes : (length component_labels ≡ width * height) × (length hole_labels ≡ width * height)
    label-sizes =
        let b = ((label_refusal-iff width height image queue connectivity component_labels hole_labels).0 passes).0 in
        (b.sized.1.0, b.sized.1.1.0)

-- ---- the counts

module _ {width height : ℕ} {asked : Labels} {labels : List ℕ} {count : ℕ}
    (labelled : Labelled width height asked labels count) (few : count ≤ max_labels) where
  -- labels that are not too many are those that were asked for
  pub labelled-fits : labels_up_to count labels ≡ asked
  labelled-fits =
      let e : count ≡ asked.count = omega (arith, labelled.counted) in
      ap₂ labels_up_to e (labelled.same few)

  -- and so are they with their greatest label
  pub labelled-counted : Numbered width height asked → counted labels ≡ asked
  labelled-counted numbered = ap counted (labelled.same few) ∙ counted-labels numbered

-- counts that stop at one too many are refused as the true ones are
label_checks-min : (components holes : ℕ) (recs : List ℕ) →
    first_refusal (label_checks (min components (suc max_labels)) (min holes (suc max_labels)) recs)
    ≡ first_refusal (label_checks components holes recs)
unfolding label_checks first_refusal refuse_if
label_checks-min components holes recs =
    by-lt max_labels components
    (λ many.
    let over : max_labels < min components (suc max_labels) = omega arith in
    rw (lt-ltb _ _ over, lt-ltb _ _ many))
    (λ few.
    let same : min components (suc max_labels) ≡ components = omega arith in
    by-lt max_labels holes
    (λ many.
    let over : max_labels < min holes (suc max_labels) = omega arith in
    rw (same, le-ltb max_labels components few, lt-ltb _ _ over, lt-ltb _ _ many))
    (λ less. let e : min holes (suc max_labels) ≡ holes = omega arith in rw (same, e)))

-- so are those of labelled maps
pub label_checks-labelled : {width height : ℕ} {cs hs : Labels} {labels hole_labels : List ℕ} {count hole_count : ℕ} →
    Labelled width height cs labels count → Labelled width height hs hole_labels hole_count → (recs : List ℕ) →
    first_refusal (label_checks cs.count hs.count recs) ≡ first_refusal (label_checks count hole_count recs)
label_checks-labelled {cs = cs} {hs = hs} labelled holed recs =
    rw (labelled.counted, holed.counted) (sym (label_checks-min cs.count hs.count recs))

-- ---- how a call ends

-- zeros behind none of n entries
pub zeros-behind-none : {queue : List ℕ} {n m : ℕ} → queue ≡ replicate (n - 0) 0 → n ≡ m → queue ≡ replicate m 0
zeros-behind-none {n = n} {m = m} zeros size =
    let e : n - 0 ≡ m = omega arith in
    zeros ∙ ap (λ (k : ℕ). replicate k 0) e

module _ (width height connectivity : ℕ) (image queue component_labels hole_labels recs : List ℕ) where
  -- what `label_image` promises of an answer and of the maps, the records and the queue that it leaves
  abbrev pub MeetsLabel : Result Counts Refusal → List ℕ → List ℕ → List ℕ → List ℕ → Type 0
  MeetsLabel reply component_labels' hole_labels' recs' queue' =
      Meets width height image queue (label connectivity component_labels hole_labels recs)
      (label_reply reply component_labels' hole_labels' recs') image queue'

  -- it is refused before the work, and leaves everything
  pub refused-before : {w : Result Counts Refusal} {r : Refusal} →
      label_refusal width height image queue connectivity component_labels hole_labels ≡ some r → w ≡ Err r →
      MeetsLabel w component_labels hole_labels recs queue
  unfolding call label_unless label_reply
  refused-before e told = meets-as _ (rw (e, told) refl) refl refl (same_queue-refl (lent image queue))

  -- or the components and the holes are labelled
  module _ (passes : label_refusal width height image queue connectivity component_labels hole_labels ≡ none)
      {labels₁ hole_labels₁ : List ℕ} {count hole_count : ℕ}
      (labelled : Labelled width height (components width height connectivity image) labels₁ count)
      (holed : Labelled width height (holes width height connectivity image) hole_labels₁ hole_count) where
    -- what the model does then
    called : call width height (lent image queue) (label connectivity component_labels hole_labels recs)
        ≡ label_unless width height none (lent image queue) (components width height connectivity image)
        (holes width height connectivity image) component_labels hole_labels recs
    unfolding call
    called =
        ap
        (λ (r : Option Refusal).
        label_unless width height r (lent image queue) (components width height connectivity image)
        (holes width height connectivity image) component_labels hole_labels recs)
        passes

    -- the counts are refused: the maps and the queue are zeros, and the records are as lent
    pub refused-counts : (r : Refusal) {component_labels' hole_labels' queue' : List ℕ} →
        first_refusal (label_checks count hole_count recs) ≡ some r →
        component_labels' ≡ replicate (length labels₁) 0 → hole_labels' ≡ replicate (length hole_labels₁) 0 →
        queue' ≡ cleared queue → MeetsLabel (Err r) component_labels' hole_labels' recs queue'
    unfolding label_unless labels_unless label_reply
    refused-counts r refused no_components no_holes zeros =
        let judged = label_checks-labelled labelled holed recs ∙ refused in
        meets-as _ called (rw (judged, no_components, no_holes, labelled.size, holed.size)) refl
        (rw zeros (same_queue-refl (lent image (cleared queue))))

    -- or accepted
    module _ (accepted : first_refusal (label_checks count hole_count recs) ≡ none) where
      -- then the maps have what is asked of them
      maps-labelled :
          Maps width height (components width height connectivity image) (holes width height connectivity image)
      maps-labelled =
          let fits = count_fits count hole_count recs accepted in
          let ready = label-ready width height connectivity image queue component_labels hole_labels passes in
          let known = label-connectivity width height connectivity image queue component_labels hole_labels passes in
          maps width height connectivity image known ready.binary.bits ready.valid
          (omega (arith, labelled.counted, fits.0)) (omega (arith, holed.counted, fits.1))

      components-counted : counted labels₁ ≡ components width height connectivity image
      components-counted =
          labelled-counted labelled (count_fits count hole_count recs accepted).0 maps-labelled.components

      holes-counted : counted hole_labels₁ ≡ holes width height connectivity image
      holes-counted = labelled-counted holed (count_fits count hole_count recs accepted).1 maps-labelled.holes

      -- the greatest labels are the counts
      count-greatest : count ≡ greatest labels₁
      count-greatest =
          let fits = labelled-fits labelled (count_fits count hole_count recs accepted).0 in
          ap (λ (l : Labels). l.count) (fits ∙ sym components-counted)

      hole_count-greatest : hole_count ≡ greatest hole_labels₁
      hole_count-greatest =
          let fits = labelled-fits holed (count_fits count hole_count recs accepted).1 in
          ap (λ (l : Labels). l.count) (fits ∙ sym holes-counted)

      -- so the records can be written
      pub writable : {queue₁ : List ℕ} → length queue₁ ≡ length queue →
          Writable width height (counted labels₁) (counted hole_labels₁) queue₁ recs
      writable queued =
          let ready = label-ready width height connectivity image queue component_labels hole_labels passes in
          record {
            maps = rw (components-counted, holes-counted) maps-labelled;
            room = rw (← count-greatest) (count_fits count hole_count recs accepted).2;
            slots = omega (arith, ready.room);
          }

      -- and with them the call is done
      pub done : {recs' queue' : List ℕ} →
          recs'
          ≡ records width height (counted labels₁) (counted hole_labels₁)
          ++ drop (record_length * greatest labels₁) recs →
          queue' ≡ cleared queue →
          MeetsLabel (Ok (record { components = count; holes = hole_count })) labels₁ hole_labels₁ recs' queue'
      unfolding label_unless labels_unless label_reply
      done written zeros =
          let judged = label_checks-labelled labelled holed recs ∙ accepted in
          meets-as _ called
          (rw (judged, ← components-counted, ← holes-counted, written, count-greatest, hole_count-greatest)) refl
          (rw zeros (same_queue-refl (lent image (cleared queue))))
