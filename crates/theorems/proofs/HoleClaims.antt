-- Point 4 of document 02: the claims of `specs/Claims.antt` on holes by the other connectivity, and on what is as
-- before.
--   holes-by-other         which pixels an accepted labelling numbers as holes, and how, by paths
--   eight-as-before        labelling by 8
--   listing-as-before      the listing of an accepted job
--   components-as-before   labelling by either connectivity, but for its holes
-- Assumes nothing.
use Prim.Native.Nat.{ℕ, suc, ◌+◌, ◌-◌, ◌*◌, ◌≤◌, ◌<◌}
use mathlib.Core.Path.{◌≡◌, refl, sym, ap, ◌∙◌}
use mathlib.Core.Bool.{true}
use mathlib.Core.Logic.{◌⊎◌, inl, inr, ⊎_elim}
use mathlib.Core.List.{List}
use mathlib.Core.Option.{Option, none, some}
use native.Mathlib.Nat.{mul-pos}
use native.Mathlib.Omega.{arith}
use lib.ListN.{get_or, drop, length-append, get_or-append}
use lib.Seq.{drop-append_seam, get_or-take}
use lib.Dec.{eqb}
use borrow.Author.Tests.{eqb-true, le-ltb}
use Rattle.lists.proofs.BoolLaws.{or-true-cases}
use Rattle.neighbours.specs.Grid.{is_connectivity}
use Rattle.model.specs.Limits.{max_labels, record_length}
use Rattle.model.specs.Labelling.{Labels, hole_connectivity, components, holes_by, holes, record_of, records}
use Rattle.model.specs.Refusals.{first_refusal, label_checks, label_refusal}
use Rattle.model.specs.Calls.{reply_number, State, label, lent, labels_unless, label_unless, call}
use Rattle.model.specs.Listing.{with_labels, lane_zeros, lane_entries, lane_final, steps_listing, job_listing}
use Rattle.model.specs.Claims.{IsAccepted, LabelsHoles, HoleMap, HolesByOther, reply_before, EightAsBefore}
use Rattle.model.specs.Claims.{ListingAsBefore, SameButHoles, ComponentsAsBefore}
use Rattle.model.specs.declared.Refusal.{Refusal}
use Rattle.theorems.proofs.LimitLaws.{size-le}
use Rattle.theorems.proofs.RefusalLaws.{number-positive, label_refusal-iff}
use Rattle.theorems.proofs.LabellingLaws.{length-holes, hole-label-iff, same-hole-iff, hole-label-le}
use Rattle.theorems.proofs.LabellingLaws.{first-hole, holes-count-lt, length-records, get_or-records}
use Rattle.theorems.proofs.CallLaws.{label_unless-same}

-- ---- the hole map

module _ (width height connectivity : ℕ) (image : List ℕ) where
  -- the labels of holes are those of sets by their connectivity
  holes-labelled :
      let hs = holes width height connectivity image in
      LabelsHoles width height (hole_connectivity connectivity) image hs.count hs.labels
  holes-labelled =
      record {
        size = length-holes width height connectivity image;
        hole = hole-label-iff width height connectivity image;
        same = same-hole-iff width height connectivity image;
        most = hole-label-le width height connectivity image;
        first = λ a one most.
            let r = first-hole width height connectivity image a one most in
            (_, r.inside, r.label, r.lower);
      }

  module _ (cs : Labels) (recs : List ℕ) where
    -- an accepted labelling writes them
    counted-labelled : (o : Option Refusal) →
        let reply = labels_unless width height o cs (holes width height connectivity image) recs in
        IsAccepted reply → HoleMap width height (hole_connectivity connectivity) image reply
    unfolding labels_unless reply_number
    counted-labelled (some refusal) accepted = absurd (omega (arith, number-positive refusal))
    counted-labelled none accepted = holes-labelled

    answer-labelled : (o : Option Refusal) (state : State) (component_labels hole_labels : List ℕ) →
        let hs = holes width height connectivity image in
        let reply = (label_unless width height o state cs hs component_labels hole_labels recs).reply in
        IsAccepted reply → (o ≡ none) × HoleMap width height (hole_connectivity connectivity) image reply
    unfolding label_unless reply_number
    answer-labelled (some refusal) state component_labels hole_labels accepted =
        absurd (omega (arith, number-positive refusal))
    answer-labelled none state component_labels hole_labels accepted = (refl, counted-labelled _ accepted)

-- a connectivity that is accepted is 4 or 8, and that of holes the other
other-connectivity : (connectivity : ℕ) → is_connectivity connectivity ≡ true →
    ((connectivity ≡ 4) × (hole_connectivity connectivity ≡ 8))
    ⊎ ((connectivity ≡ 8) × (hole_connectivity connectivity ≡ 4))
unfolding hole_connectivity
other-connectivity connectivity c =
    ⊎_elim (λ four. let e = eqb-true connectivity 4 four in inl (e, rw e))
    (λ eight. let e = eqb-true connectivity 8 eight in inr (e, rw e))
    (or-true-cases (eqb connectivity 4) (eqb connectivity 8) c)

-- the hole map is that of the other connectivity
pub holes-by-other : HolesByOther
unfolding call
holes-by-other width height image queue image' queue' connectivity component_labels hole_labels recs r m accepted =
    let (passes, labelled) =
    answer-labelled width height connectivity image (components width height connectivity image) recs
    (label_refusal width height image queue connectivity component_labels hole_labels) (lent image queue)
    component_labels hole_labels (ap reply_number (sym m.replied) ∙ accepted) in
    let known = ((label_refusal-iff width height image queue connectivity component_labels hole_labels).0 passes).1 in
    rw m.replied
    (⊎_elim (λ four. inl (four.0, rw four.1 at labelled)) (λ eight. inr (eight.0, rw eight.1 at labelled))
    (other-connectivity connectivity known))

-- ---- by 8

-- holes round 8-connected components are those by 4
holes-eight : (width height : ℕ) (image : List ℕ) → holes width height 8 image ≡ holes_by width height 4 image
unfolding holes hole_connectivity
holes-eight width height image = refl

-- so the model replies as before
reply-eight : (width height : ℕ) (state : State) (component_labels hole_labels recs : List ℕ) →
    (call width height state (label 8 component_labels hole_labels recs)).reply
    ≡ reply_before width height state.image state.queue 8 component_labels hole_labels recs
unfolding call reply_before
reply-eight width height state component_labels hole_labels recs =
    let image = state.image in
    rw (holes-eight width height image)
    (label_unless-same width height _ state (lent image state.queue) _ _ component_labels hole_labels recs)

-- labelling by 8 is as before
pub eight-as-before : EightAsBefore
eight-as-before width height image queue image' queue' component_labels hole_labels recs r m =
    m.replied ∙ reply-eight width height (lent image queue) component_labels hole_labels recs

-- and so is the lane's listing
pub listing-as-before : ListingAsBefore
unfolding job_listing
listing-as-before job =
    ap (with_labels (steps_listing job))
    (reply-eight job.width job.height (lane_final job) (lane_zeros job) (lane_zeros job) lane_entries)

-- ---- all but the holes

module _ (width height : ℕ) (cs hs hs' : Labels) where
  -- the entries of a component's record but the last two go by the components alone
  record_of-entry : (p k : ℕ) → k < record_length - 2 →
      get_or (record_of width height cs.labels hs p) k 0 ≡ get_or (record_of width height cs.labels hs' p) k 0
  unfolding record_of
  record_of-entry p k l =
      sym (get_or-take (record_length - 2) (record_of width height cs.labels hs p) k 0 l)
      ∙ get_or-take (record_length - 2) (record_of width height cs.labels hs' p) k 0 l

  -- so do those of all records
  records-entry : (p k : ℕ) → p < cs.count → k < record_length - 2 →
      get_or (records width height cs hs) (record_length * p + k) 0
      ≡ get_or (records width height cs hs') (record_length * p + k) 0
  records-entry p k inside l =
      let e : suc p - 1 ≡ p = omega arith in
      rw e at
      (get_or-records width height cs hs (suc p) k (omega arith) inside (omega arith)
      ∙ record_of-entry (suc p) k l
      ∙ sym (get_or-records width height cs hs' (suc p) k (omega arith) inside (omega arith)))

  module _ (recs : List ℕ) where
    -- replies by the same components and other holes
    counted_same : (o : Option Refusal) →
        SameButHoles (labels_unless width height o cs hs recs) (labels_unless width height o cs hs' recs)
    unfolding labels_unless
    counted_same (some refusal) = (refl, refl, refl, refl, λ p k inside l. absurd (omega arith), refl)
    counted_same none =
        let ours = records width height cs hs in
        let theirs = records width height cs hs' in
        let behind = drop (record_length * cs.count) recs in
        let size = length-records width height cs hs in
        let size' = length-records width height cs hs' in (
          refl,
          refl,
          refl,
          omega (arith, length-append ours behind, length-append theirs behind),
          λ p k inside l.
              get_or-append ours behind 0 (record_length * p + k) (omega arith) ∙ records-entry p k inside l
              ∙ sym (get_or-append theirs behind 0 (record_length * p + k) (omega arith)),
          rw size at (drop-append_seam ours behind) ∙ sym (rw size' at (drop-append_seam theirs behind)),
        )

    -- holes that are not too many are not refused
    checks-same : hs.count ≤ max_labels → hs'.count ≤ max_labels →
        first_refusal (label_checks cs.count hs.count recs)
        ≡ first_refusal (label_checks cs.count hs'.count recs)
    unfolding label_checks
    checks-same few few' = rw (le-ltb max_labels hs.count few, le-ltb max_labels hs'.count few')

    -- so the answers are the same but for them
    answer-same : (o : Option Refusal) (state : State) (component_labels hole_labels : List ℕ) →
        (o ≡ none → (hs.count ≤ max_labels) × (hs'.count ≤ max_labels)) →
        SameButHoles (label_unless width height o state cs hs component_labels hole_labels recs).reply
        (label_unless width height o state cs hs' component_labels hole_labels recs).reply
    unfolding label_unless
    answer-same (some refusal) state component_labels hole_labels fits =
        (refl, refl, refl, refl, λ p k inside l. absurd (omega arith), refl)
    answer-same none state component_labels hole_labels fits =
        let (few, few') = fits refl in
        rw (checks-same few few') (counted_same (first_refusal (label_checks cs.count hs'.count recs)))

-- by either rule a crop has no more holes than a map can hold, so what is refused is the same
pub components-as-before : ComponentsAsBefore
unfolding call reply_before
components-as-before width height image queue image' queue' connectivity component_labels hole_labels recs r m =
    rw m.replied
    (answer-same width height (components width height connectivity image)
    (holes width height connectivity image) (holes_by width height 4 image) recs
    (label_refusal width height image queue connectivity component_labels hole_labels) (lent image queue)
    component_labels hole_labels
    (λ passes.
    let known = (label_refusal-iff width height image queue connectivity component_labels hole_labels).0 passes in
    let valid = known.0.valid in
    let pos : 0 < width * height = mul-pos valid.wide valid.tall in
    let small = size-le valid.narrow valid.low in (
      omega (arith, holes-count-lt width height connectivity image pos),
      omega (arith, rw (holes-eight width height image) at (holes-count-lt width height 8 image pos)),
    )))
