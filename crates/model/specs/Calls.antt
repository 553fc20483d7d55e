-- The plain book of document 01, "The plain book of demand 3": one call on an image and a queue, and a
-- list of calls. Definitions only.
--   Call, Reply, State                         a call's arguments; what it answers; what the model keeps
--   operation_reply, label_reply, scan_reply   01's number and counts of the answers that the code gives
--   call                                       one call: its reply and the next state
--   replies, final                             a list of calls: what each gives, and the state after all
--   SameQueue, Meets                           the queue but for its contour's order; the contract of one call
use Rattle.std.specs.Prelude.{ℕ, ◌*◌, ◌≡◌, List, [], ◌∷◌, ◌++◌, length, take, drop, replicate, Result, Ok, Err}
use Rattle.std.proofs.Math.Option.{Option, none, some}
use Rattle.lists.specs.Lists.{occurrences}
use Rattle.neighbours.specs.Contour.{contour}
use Rattle.neighbours.specs.BlankRows.{blank_row_count}
use Rattle.model.specs.Limits.{record_length}
use Rattle.model.specs.Operations.{apply, changed, used}
use Rattle.model.specs.Labelling.{Labels, components, holes, records}
use Rattle.model.specs.Refusals.{number, first_refusal, scan_refusal, operation_refusal, label_refusal, label_checks}
use Rattle.model.specs.Queue.{filled, cleared}
use Rattle.model.specs.declared.Refusal.{Refusal}
use Rattle.model.specs.declared.Step.{Step}
use Rattle.model.specs.declared.Start.{Start}
use Rattle.model.specs.declared.Report.{Report}
use Rattle.model.specs.declared.Counts.{Counts}
use Rattle.model.specs.declared.ScanReport.{ScanReport}

-- ---- calls and replies

-- A call, with its own arguments as it begins. An operation has a mask, which propagation alone reads,
-- and a start. Labelling has a connectivity, two maps and records, as lent. A scan (01: sweep) by
-- itself hands on the contour and counts the rows without an object pixel
pub data Call : Type 0 where
  operate : Step → List ℕ → Start → Call
  label : ℕ → List ℕ → List ℕ → List ℕ → Call
  scan : Call

-- What a call gives. Of an operation: 01's refusal number or 0, changed, used, contour length. Of labelling:
-- 01's refusal number or 0, components, holes, and the component map, the hole map and the records as they
-- are left. Of a scan (02, Point 3): 01's refusal number or 0, contour length, rows without an object pixel
pub data Reply : Type 0 where
  operated : ℕ → ℕ → ℕ → ℕ → Reply
  labelled : ℕ → ℕ → ℕ → List ℕ → List ℕ → List ℕ → Reply
  scanned : ℕ → ℕ → ℕ → Reply

-- an answer of the code as a reply: 01's number, and counts that are 0 on a refusal
unfoldable pub operation_reply : Result Report Refusal → Reply
operation_reply (Ok report) = operated 0 report.changed report.used report.contour_len
operation_reply (Err refusal) = operated (number refusal) 0 0 0

-- the same for labelling, with its lent buffers as they are left
unfoldable pub label_reply : Result Counts Refusal → List ℕ → List ℕ → List ℕ → Reply
label_reply (Ok counts) component_labels hole_labels recs =
    labelled 0 counts.components counts.holes component_labels hole_labels recs
label_reply (Err refusal) component_labels hole_labels recs =
    labelled (number refusal) 0 0 component_labels hole_labels recs

-- the same for a scan by itself
unfoldable pub scan_reply : Result ScanReport Refusal → Reply
scan_reply (Ok report) = scanned 0 report.contour_len report.blank_rows
scan_reply (Err refusal) = scanned (number refusal) 0 0

-- 01's number of a reply, 0 where it is not refused
unfoldable pub reply_number : Reply → ℕ
reply_number (operated n changed used contour_length) = n
reply_number (labelled n components holes component_labels hole_labels recs) = n
reply_number (scanned n contour_length blank) = n

-- What the model keeps: the image and the queue. The first `held` entries of the queue are a contour,
-- which stands row by row here and in a free order in the caller's queue
pub record State : Type 0 where
  pub image : List ℕ
  pub queue : List ℕ
  pub held : ℕ

pub record Outcome : Type 0 where
  pub reply : Reply
  pub state : State

-- the image and the queue as first lent
abbrev pub lent : List ℕ → List ℕ → State
lent image queue = record { image = image; queue = queue; held = 0 }

module _ (width height : ℕ) where
  -- an image with its contour in the queue, zeros behind
  unfoldable pub with_contour : List ℕ → List ℕ → State
  with_contour image queue =
      let positions = contour width height image in
      record { image = image; queue = filled positions queue; held = length positions }

  -- ---- one call

  -- an operation that is refused keeps everything; else the whole image is replaced
  unfoldable pub operate_unless : Option Refusal → State → Step → List ℕ → Outcome
  operate_unless (some refusal) state step mask = record { reply = operated (number refusal) 0 0 0; state = state }
  operate_unless none state step mask =
      let before = state.image in
      let after = apply width height step mask before in
      record {
        reply = operated 0 (changed width height before after)
            (used width height step mask before) (length (contour width height after));
        state = with_contour after state.queue;
      }

  -- a scan that is refused keeps everything; else the contour is put into the queue, and the rows without an
  -- object pixel are counted (02: exactly those)
  unfoldable pub scan_unless : Option Refusal → State → Outcome
  scan_unless (some refusal) state = record { reply = scanned (number refusal) 0 0; state = state }
  scan_unless none state =
      record {
        reply = scanned 0 (length (contour width height state.image)) (blank_row_count width height state.image);
        state = with_contour state.image state.queue;
      }

  -- 9, 10 and 11 leave both maps zero and the records as lent; else the maps and the records of the
  -- components are written, and record entries behind them stay as lent
  unfoldable pub labels_unless : Option Refusal → Labels → Labels → List ℕ → Reply
  labels_unless (some refusal) cs hs recs =
      labelled (number refusal) 0 0 (replicate (width * height) 0) (replicate (width * height) 0) recs
  labels_unless none cs hs recs =
      labelled 0 cs.count hs.count cs.labels hs.labels
      (records width height cs hs ++ drop (record_length * cs.count) recs)

  -- Labelling of an image with these components and holes. One that an earlier row of the table refuses touches
  -- nothing; else the queue ends all zeros
  unfoldable pub label_unless : Option Refusal → State → Labels → Labels → List ℕ → List ℕ → List ℕ →
      Outcome
  label_unless (some refusal) state cs hs component_labels hole_labels recs =
      record { reply = labelled (number refusal) 0 0 component_labels hole_labels recs; state = state }
  label_unless none state cs hs component_labels hole_labels recs =
      record {
        reply = labels_unless (first_refusal (label_checks cs.count hs.count recs)) cs hs recs;
        state = lent state.image (cleared state.queue);
      }

  -- one call on what the model keeps
  unfoldable pub call : State → Call → Outcome
  call state (operate step mask start) =
      operate_unless (operation_refusal width height state.image state.queue step mask start) state step mask
  call state (label connectivity component_labels hole_labels recs) =
      label_unless (label_refusal width height state.image state.queue connectivity component_labels hole_labels)
      state (components width height connectivity state.image) (holes width height connectivity state.image)
      component_labels hole_labels recs
  call state scan = scan_unless (scan_refusal width height state.image state.queue) state

  -- ---- a list of calls

  -- what the calls give, one after another
  unfoldable pub replies : State → List Call → List Reply
  replies state [] = []
  replies state (c ∷ cs) = (call state c).reply ∷ replies (call state c).state cs

  -- what the model keeps after all of them
  unfoldable pub final : State → List Call → State
  final state [] = state
  final state (c ∷ cs) = final (call state c).state cs

-- ---- the contract of one call

-- A caller's queue against what the model keeps: it has the same positions at the front, in some order,
-- and the same entries behind
pub record SameQueue (queue : List ℕ) (state : State) : Type 0 where
  pub size : length queue ≡ length state.queue
  pub front : (i : ℕ) → occurrences i (take state.held queue) ≡ occurrences i (take state.held state.queue)
  pub behind : drop state.held queue ≡ drop state.held state.queue

-- What every entry point promises of a call: from the image and the queue as lent to the reply, and to
-- image' and queue' as they are left
pub record Meets (width height : ℕ) (image queue : List ℕ)
    (c : Call) (reply : Reply) (image' queue' : List ℕ) : Type 0 where
  pub replied : reply ≡ (call width height (lent image queue) c).reply
  pub pictured : image' ≡ (call width height (lent image queue) c).state.image
  pub queued : SameQueue queue' (call width height (lent image queue) c).state
