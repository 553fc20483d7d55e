-- What the examples compute with. A theorem that says `unfolding computed` may compute with every
-- definition of the model. Assumes nothing.
--   pixels n digits    an image written as binary digits: pixels 9 0b010_101_010
use Prim.Native.Nat.{ℕ, ◌-◌, ◌/◌, ◌%◌, ◌^◌}
use mathlib.Core.List.{List, flat_map}
use Rattle.lists.specs.Lists.{count_from, tabulate, select, any, all, same, occurrences, iterate}
use Rattle.lists.specs.Text.{ascii}
use Rattle.neighbours.specs.Grid.{directions, across, down, placed, neighbour_at, neighbour, on_border, value_at}
use Rattle.neighbours.specs.Grid.{has_side, passed_sides, beyond, neighbour_value, has_neighbour}
use Rattle.neighbours.specs.Contour.{on_contour, contour}
use Rattle.neighbours.specs.BlankRows.{is_blank_row, blank_row_count}
use Rattle.neighbours.specs.Packed.{unit_of, padded_pixel, row_units, packed_length, packed_unit, packed_pixel}
use Rattle.neighbours.specs.Packed.{packed, unpacked, padding_set}
use Rattle.model.specs.Steps.{erode_once, dilate_once, propagate_once}
use Rattle.model.specs.Connectivity.{of_value, only, border_objects, reachable, component, flood_fill, clear_border}
use Rattle.model.specs.Operations.{applied, used_by, effect, apply, changed, least_from, least_iterations}
use Rattle.model.specs.Operations.{used_once}
use Rattle.model.specs.Operations.{used, border_sides}
use Rattle.model.specs.Labelling.{paint, unlabelled, start_if, label_from, components, hole_connectivity, holes_by}
use Rattle.model.specs.Labelling.{holes, least, greatest, pixels_of, first_pixel}
use Rattle.model.specs.Labelling.{hole_parent, parent, holes_in, record_of, records}
use Rattle.model.specs.Depth.{parent_in, depth_within, depth}
use Rattle.model.specs.Refusals.{refuse_if, first_refusal, bad_side, wrong_length, is_contour, buffer_checks}
use Rattle.model.specs.Refusals.{connectivity_check, step_checks}
use Rattle.model.specs.Refusals.{start_checks, label_checks, reads_mask, mask_of, scan_refusal, operation_refusal}
use Rattle.model.specs.Refusals.{label_refusal}
use Rattle.model.specs.Queue.{front, filled}
use Rattle.model.specs.Calls.{with_contour, operate_unless, scan_unless, labels_unless, label_unless, call, replies}
use Rattle.model.specs.Calls.{final}
use Rattle.model.specs.Widening.{widen_refusal, widen_unless, widen_map}
use Rattle.model.specs.Codec.{u16_bytes, u16_at, field_bytes, step_bytes, job_length, job_bytes}
use Rattle.model.specs.Codec.{write_refusal, write_unless}
use Rattle.model.specs.Words.{words_checks, words_refusal, operate_words_unless, operate_words, repack_checks}
use Rattle.model.specs.Words.{pack_refusal, pack_unless, pack_words, unpack_refusal, unpack_words_unless, unpack_words}
use Rattle.model.specs.Codec.{write_job, kind_length, step_at}
use Rattle.model.specs.Codec.{step_refusal, cons_step, read_steps, head_refusal, images_refusal, read_images, read_job}
use Rattle.model.specs.Codec.{unpack_unless}
use Rattle.model.specs.Codec.{unpack_read, unpack_job}
use Rattle.model.specs.Run.{run_calls, run_start, run_final, run_list, refused_run, steps_refusal, run_steps_unless}
use Rattle.model.specs.Run.{run_steps, run_refusal}
use Rattle.model.specs.Run.{run_job_unless, run_read, run_job}
use Rattle.model.specs.Listing.{decimal_before, decimal, line, refusal_listing, step_line, step_lines, part_line}
use Rattle.model.specs.Listing.{with_labels, lane_final, steps_listing, job_listing}
use Rattle.model.specs.Listing.{read_listing, lane_listing}

-- n pixels written as binary digits: pixels 9 0b010_101_010
unfoldable pub pixels : ℕ → ℕ → List ℕ
pixels n digits = tabulate n (λ k. digits / 2 ^ (n - 1 - k) % 2)

-- every definition of the model
unfoldable pub computed : Unit {0}
unfolding count_from tabulate select any all same occurrences iterate ascii pixels
    directions across down placed neighbour_at neighbour on_border value_at
    has_side passed_sides beyond neighbour_value has_neighbour on_contour contour is_blank_row blank_row_count
    erode_once dilate_once propagate_once of_value only border_objects reachable component flood_fill clear_border
    applied used_by effect apply changed least_from least_iterations used_once used border_sides
    paint unlabelled start_if label_from components hole_connectivity holes_by holes least greatest
    pixels_of first_pixel hole_parent parent holes_in record_of records
    parent_in depth_within depth flat_map
    refuse_if first_refusal bad_side wrong_length is_contour buffer_checks
    connectivity_check step_checks start_checks label_checks reads_mask mask_of
    scan_refusal operation_refusal label_refusal front filled
    with_contour operate_unless scan_unless labels_unless label_unless call replies final
    widen_refusal widen_unless widen_map
    words_checks words_refusal operate_words_unless operate_words repack_checks pack_refusal pack_unless pack_words
    unpack_refusal unpack_words_unless unpack_words
    unit_of padded_pixel row_units packed_length packed_unit packed_pixel packed unpacked padding_set
    u16_bytes u16_at field_bytes step_bytes job_length job_bytes
    write_refusal write_unless write_job kind_length step_at step_refusal
    cons_step read_steps head_refusal images_refusal read_images read_job
    unpack_unless unpack_read unpack_job
    run_calls run_start run_final run_list refused_run steps_refusal
    run_steps_unless run_steps run_refusal run_job_unless run_read run_job
    decimal_before decimal line refusal_listing step_line step_lines part_line
    with_labels lane_final steps_listing job_listing read_listing lane_listing
computed = tt
