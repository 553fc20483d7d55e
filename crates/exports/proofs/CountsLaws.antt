-- Laws of answers as numbers in lent arrays (`specs/Numbers.antt`): what is told with an answer's number is its reply.
-- Assumes nothing.
--   counts_reply-told, scanned-told        an operation's, and a scan's
--   label_counts_reply-told                a labelling's
--   counts_answer-told                     an operation's on packed rows
use Prim.Native.Nat.{ℕ}
use mathlib.Core.Path.{◌≡◌, refl}
use mathlib.Core.List.{List}
use lib.ListN.{get_or}
use Rattle.std.specs.Prelude.{Result, Ok, Err}
use Rattle.model.specs.Refusals.{verdict_number}
use Rattle.model.specs.Calls.{operation_reply, label_reply, scanned, scan_reply}
use Rattle.model.specs.Answers.{words_answered}
use Rattle.model.specs.declared.Refusal.{Refusal}
use Rattle.model.specs.declared.Report.{Report}
use Rattle.model.specs.declared.ScanReport.{ScanReport}
use Rattle.model.specs.declared.Counts.{Counts}
use Rattle.model.specs.declared.WordsReport.{WordsReport}
use Rattle.exports.specs.Numbers.{counts_reply, label_counts_reply, counts_answer, report_counts, scan_counts}
use Rattle.exports.specs.Numbers.{label_counts, words_counts, counts_told}

pub counts_reply-told : (reply : Result Report Refusal) →
    counts_reply (verdict_number reply) (counts_told 3 report_counts reply) ≡ operation_reply reply
unfolding counts_reply operation_reply verdict_number counts_told
counts_reply-told (Ok report) = refl
counts_reply-told (Err refusal) = refl

pub scanned-told : (reply : Result ScanReport Refusal) →
    let counts = counts_told 2 scan_counts reply in
    scanned (verdict_number reply) (get_or counts 0 0) (get_or counts 1 0) ≡ scan_reply reply
unfolding scan_reply verdict_number counts_told
scanned-told (Ok report) = refl
scanned-told (Err refusal) = refl

pub label_counts_reply-told : (reply : Result Counts Refusal) (component_labels hole_labels records : List ℕ) →
    label_counts_reply (verdict_number reply) (counts_told 2 label_counts reply) component_labels hole_labels records
    ≡ label_reply reply component_labels hole_labels records
unfolding label_counts_reply label_reply verdict_number counts_told
label_counts_reply-told (Ok counts) component_labels hole_labels records = refl
label_counts_reply-told (Err refusal) component_labels hole_labels records = refl

pub counts_answer-told : (reply : Result WordsReport Refusal) (rows : List ℕ) →
    counts_answer (verdict_number reply) (counts_told 3 words_counts reply) rows ≡ words_answered reply rows
unfolding counts_answer words_answered verdict_number counts_told
counts_answer-told (Ok report) rows = refl
counts_answer-told (Err refusal) rows = refl
