-- What the lane program prints: document 01, "Job and lane program". Definitions only.
--   line           a fixed word, and its fields in decimal, each behind a space; a newline ends it
--   lane_final     the state after the run of an accepted job, and `steps_listing` what is printed of it
--   job_listing    the listing of an accepted job, or one refusal where labelling is refused
--   lane_listing   what the lane program prints for the bytes of its standard input
use Rattle.std.specs.Prelude.{ℕ, zero, suc, ◌+◌, ◌-◌, ◌*◌, ◌/◌, ◌%◌, true, false, ltb, length, take, drop, replicate}
use mathlib.Core.List.{List, [], ◌∷◌, ◌++◌, flat_map}
use Rattle.lists.specs.Lists.{count_from}
use Rattle.lists.specs.Text.{ascii}
use Rattle.model.specs.Limits.{record_length, lane_pixels, lane_records}
use Rattle.model.specs.Depth.{depth}
use Rattle.model.specs.Refusals.{number}
use Rattle.model.specs.Calls.{Reply, operated, labelled, scanned, State, label, call}
use Rattle.model.specs.Operations.{kind}
use Rattle.model.specs.Codec.{Job, JobRead, refused_job, accepted_job, read_job}
use Rattle.model.specs.Run.{run_list, run_final}
use Rattle.model.specs.declared.Step.{Step}

-- the decimal digits of n, of at most k, before a text
unfoldable pub decimal_before : ℕ → ℕ → List ℕ → List ℕ
decimal_before zero n text = text
decimal_before (suc k) n text =
    elim (ltb n 10) [ true ↦ (48 + n) ∷ text | false ↦ decimal_before k (n / 10) ((48 + n % 10) ∷ text) ]

-- a number of at most 64 bits in decimal
unfoldable pub decimal : ℕ → List ℕ
decimal n = decimal_before 20 n []

-- one of the fixed words plate, step, parts, part and refused, the fields in decimal, each behind a
-- space, and a newline
unfoldable pub line : List ℕ → List ℕ → List ℕ
line word fields = word ++ flat_map (λ n. 32 ∷ decimal n) fields ++ (10 ∷ [])

-- a refusal stands alone
unfoldable pub refusal_listing : ℕ → List ℕ
refusal_listing n = line (ascii "refused") (n ∷ [])

-- a step's place in the list, kind, changed, used and contour length
unfoldable pub step_line : ℕ → Step → Reply → List ℕ
step_line place step (operated n changed used contour_length) =
    line (ascii "step") (place ∷ kind step ∷ changed ∷ used ∷ contour_length ∷ [])
step_line place step (labelled n components holes component_labels hole_labels records) = []
step_line place step (scanned n contour_length blank) = []

unfoldable pub step_lines : ℕ → List Step → List Reply → List ℕ
step_lines place [] replies = []
step_lines place (step ∷ steps) [] = []
step_lines place (step ∷ steps) (reply ∷ replies) = step_line place step reply ++ step_lines (suc place) steps replies

-- component p's record and its depth
unfoldable pub part_line : List ℕ → ℕ → List ℕ
part_line records p =
    line (ascii "part") (take record_length (drop (record_length * (p - 1)) records) ++ (depth records p ∷ []))

-- The lines above, then the components and the holes and a line for each component. Where labelling is
-- refused, the refusal alone
unfoldable pub with_labels : List ℕ → Reply → List ℕ
with_labels above (operated n changed used contour_length) = []
with_labels above (scanned n contour_length blank) = []
with_labels above (labelled (suc n) components holes component_labels hole_labels records) = refusal_listing (suc n)
with_labels above (labelled zero components holes component_labels hole_labels records) =
    above ++ line (ascii "parts") (components ∷ holes ∷ []) ++ flat_map (part_line records) (count_from 1 components)

-- the program's queue and maps, and its records, which are zeros as it starts
abbrev pub lane_zeros : Job → List ℕ
lane_zeros job = replicate (job.width * job.height) 0

abbrev pub lane_entries : List ℕ
lane_entries = replicate (record_length * lane_records) 0

-- what the program's run of an accepted job keeps after its last step
unfoldable pub lane_final : Job → State
lane_final job = run_final job.width job.height job.steps job.image job.mask (lane_zeros job)

-- an accepted job's size and number of steps, and its steps
unfoldable pub steps_listing : Job → List ℕ
steps_listing job =
    let ran = run_list job.width job.height job.steps job.image job.mask (lane_zeros job) in
    line (ascii "plate") (job.width ∷ job.height ∷ length job.steps ∷ [])
    ++ step_lines 1 job.steps ran.replies

-- An accepted job: its size and number of steps, its steps, and the components of the last image by
-- 8-connectivity
unfoldable pub job_listing : Job → List ℕ
job_listing job =
    with_labels (steps_listing job)
    (call job.width job.height (lane_final job) (label 8 (lane_zeros job) (lane_zeros job) lane_entries)).reply

unfoldable pub read_listing : JobRead → List ℕ
read_listing (refused_job refusal) = refusal_listing (number refusal)
read_listing (accepted_job job) = job_listing job

unfoldable pub lane_listing : List ℕ → List ℕ
lane_listing bytes = read_listing (read_job lane_pixels bytes)
