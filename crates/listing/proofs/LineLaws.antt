-- Laws of the lines that the lane program prints (`Listing`, of the crate `model`). Assumes nothing.
--   length-line-le                      a line has at most `line_room` bytes, by the lengths of its word and its fields
--   end-line-le                         so far at most it reaches, where it is written
--   length-step_line-le, -step_lines-le   a step's line has at most `line_room` bytes, those of steps as many each
--   end-step_lines-le                    so far at most they reach, where they are written
--   step_lines-snoc                      one step and reply more at the end
--   step_lines-written                   the line of one step more is written
--   length-part_line-le                   a component's line has at most `line_room` bytes
--   part_lines-written                   the line of one component more is written
use Prim.Native.Nat.{ℕ, suc, ◌+◌, ◌-◌, ◌*◌, ◌≤◌, ◌<◌, zero-le}
use mathlib.Core.Path.{◌≡◌, sym, ap, ◌∙◌}
use mathlib.Core.List.{List, [], ◌∷◌, ◌++◌, map, flat_map, append-nil, append_assoc, map-append}
use native.Mathlib.Nat.{add-zero, add-suc, suc-add}
use native.Mathlib.Numerals.{add-one, one-add}
use native.Mathlib.Omega.{arith}
use lib.ListN.{length, get_or, take, drop, length-append, length-map, length-take}
use lib.Seq.{length-take-le, take-suc}
use Rattle.lists.specs.Lists.{count_from}
use Rattle.lists.specs.Text.{ascii}
use Rattle.lists.proofs.ListLaws.{count_from-append, flat_map-snoc}
use Rattle.neighbours.specs.Crop.{Appended}
use Rattle.neighbours.proofs.AppendedLaws.{appended-append}
use Rattle.model.specs.Calls.{Reply, operated, labelled, scanned}
use Rattle.model.specs.Limits.{record_length, line_room}
use Rattle.model.specs.Listing.{line, step_line, step_lines, part_line}
use Rattle.model.specs.declared.Step.{Step}
use Rattle.model.specs.declared.Report.{Report}
use Rattle.model.specs.Operations.{kind}
use Rattle.model.specs.Answers.{report_reply}
use Rattle.lines.proofs.DecimalLaws.{length-fields-le}

-- a word of at most 7 bytes and at most 11 fields
pub length-line-le : (word fields : List ℕ) → length word ≤ 7 → length fields ≤ 11 →
    length (line word fields) ≤ line_room
unfolding line
length-line-le word fields short few =
    rw (length-append, length-append) (omega (arith, length-fields-le fields))

-- so far at most it reaches, where it is written
pub end-line-le : (word fields : List ℕ) {listing listing' : List ℕ} {at end : ℕ} →
    Appended listing at (line word fields) listing' end → length word ≤ 7 → length fields ≤ 11 → end ≤ at + line_room
end-line-le word fields a short few = omega (arith, a.counted, length-line-le word fields short few)

-- ---- steps

pub length-step_line-le : (place : ℕ) (step : Step) (reply : Reply) → length (step_line place step reply) ≤ line_room
unfolding step_line ascii
length-step_line-le place step (operated n changed used contour_length) = length-line-le _ _ (omega arith) (omega arith)
length-step_line-le place step (labelled n components holes component_labels hole_labels records) = zero-le
length-step_line-le place step (scanned n contour_length blank) = zero-le

pub length-step_lines-le : (place : ℕ) (steps : List Step) (replies : List Reply) →
    length (step_lines place steps replies) ≤ line_room * length steps
unfolding step_lines
length-step_lines-le place [] replies = zero-le
length-step_lines-le place (step ∷ steps) [] = zero-le
length-step_lines-le place (step ∷ steps) (reply ∷ replies) =
    let rest = length-step_lines-le (suc place) steps replies in
    rw length-append (omega (arith, length-step_line-le place step reply))

-- so far at most they reach, where they are written
pub end-step_lines-le : (place : ℕ) (steps : List Step) (replies : List Reply) {listing listing' : List ℕ}
    {at end : ℕ} → Appended listing at (step_lines place steps replies) listing' end →
    end ≤ at + line_room * length steps
end-step_lines-le place steps replies a = omega (arith, a.counted, length-step_lines-le place steps replies)

-- one step and reply more at the end
pub step_lines-snoc : (place : ℕ) (steps : List Step) (step : Step) (replies : List Reply) (reply : Reply) →
    length steps ≡ length replies →
    step_lines place (steps ++ step ∷ []) (replies ++ reply ∷ []) ≡
    step_lines place steps replies ++ step_line (place + length steps) step reply
unfolding step_lines
step_lines-snoc place [] step [] reply e = rw (append-nil, add-zero)
step_lines-snoc place [] step (r ∷ replies) reply e = absurd (omega arith)
step_lines-snoc place (s ∷ steps) step [] reply e = absurd (omega arith)
step_lines-snoc place (s ∷ steps) step (r ∷ replies) reply e =
    let n = length steps in
    let rest = step_lines (suc place) steps replies in
    rw (step_lines-snoc (suc place) steps step replies reply (omega arith), suc-add place n, add-suc place n)
    (sym (append_assoc (step_line place s r) rest (step_line (suc (place + n)) step reply)))

-- the line of one step more is written behind those before it, with the byte for the step's kind
pub step_lines-written : (steps : List Step) (reports : List Report) (k : ℕ) (step : Step) (report : Report)
    {listing listing' listing'' : List ℕ} {at end end' byte : ℕ} → k < length steps → k < length reports →
    end ≤ length listing →
    Appended listing at (step_lines 1 (take k steps) (map report_reply (take k reports))) listing' end →
    byte ≡ kind (get_or steps k step) →
    let found = get_or reports k report in
    Appended listing' end
    (line (ascii "step") ((k + 1) ∷ byte ∷ found.changed ∷ found.used ∷ found.contour_len ∷ [])) listing'' end' →
    Appended listing at (step_lines 1 (take (k + 1) steps) (map report_reply (take (k + 1) reports))) listing'' end'
unfolding step_line report_reply
step_lines-written steps reports k step report below reported room before same written =
    let first = take k steps in
    let replies = map report_reply (take k reports) in
    let as_many : length first ≡ k = length-take-le k steps (omega arith) in
    let so_many : length replies ≡ k =
    length-map (take k reports) report_reply ∙ length-take-le k reports (omega arith) in
    rw (
      add-one,
      take-suc steps k step below,
      take-suc reports k report reported,
      map-append report_reply (take k reports) (get_or reports k report ∷ []),
      step_lines-snoc 1 first (get_or steps k step) replies (report_reply (get_or reports k report))
          (as_many ∙ sym so_many),
      as_many,
      one-add,
    )
    (appended-append before room (rw (same, add-one) at written))

-- ---- components

module _ (records : List ℕ) where
  pub length-part_line-le : (p : ℕ) → length (part_line records p) ≤ line_room
  unfolding part_line ascii
  length-part_line-le p =
      let few = length-take record_length (drop (record_length * (p - 1)) records) in
      length-line-le _ _ (omega arith) (rw length-append (omega arith))

  -- one component more at the end
  pub part_lines-suc : (n : ℕ) →
      flat_map (part_line records) (count_from 1 (suc n)) ≡
      flat_map (part_line records) (count_from 1 n) ++ part_line records (suc n)
  unfolding count_from
  part_lines-suc n =
      ap (λ (k : ℕ). flat_map (part_line records) (count_from 1 k)) (sym (add-one n))
      ∙ ap (flat_map (part_line records)) (count_from-append 1 n 1)
      ∙ flat_map-snoc (part_line records) (count_from 1 n) (1 + n)
      ∙ rw one-add

  -- the line of component p is written behind those before it
  pub part_lines-written : (p : ℕ) {listing listing' listing'' : List ℕ} {at end end' : ℕ} → 1 ≤ p →
      end ≤ length listing →
      Appended listing at (flat_map (part_line records) (count_from 1 (p - 1))) listing' end →
      Appended listing' end (part_line records p) listing'' end' →
      Appended listing at (flat_map (part_line records) (count_from 1 p)) listing'' end'
  part_lines-written p from1 room before written =
      let this : p ≡ suc (p - 1) = omega arith in
      let so_far = flat_map (part_line records) (count_from 1 (p - 1)) in
      let lines : flat_map (part_line records) (count_from 1 p) ≡ so_far ++ part_line records p =
      ap (λ (k : ℕ). flat_map (part_line records) (count_from 1 k)) this
      ∙ part_lines-suc (p - 1)
      ∙ ap (λ (k : ℕ). so_far ++ part_line records k) (sym this) in
      rw lines (appended-append before room written)
