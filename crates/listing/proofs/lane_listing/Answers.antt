-- `lane_listing` meets its contract: the listing of a job that cannot be read is its refusal's line, and any other
-- job has at most `lane_pixels` pixels, so that parts of the arrays, which are zeros, are lent for it. Assumes nothing.
use Prim.Native.Nat.{ℕ, ◌≤◌}
use mathlib.Core.Path.{◌≡◌, refl, sym, ap, ◌∙◌}
use native.Mathlib.Omega.{arith}
use lib.ListN.{length, take, replicate, length-replicate}
use Rattle.model.specs.Limits.{lane_pixels}
use Rattle.lists.proofs.ListLaws.{take-replicate}
use Rattle.job.proofs.HeadingLaws.{heading-pixels}
use Rattle.listing.proofs.ListJobLaws.{lane_listing-refused}
use Rattle.listing.proofs.lane_listing.Goals as goal

-- a part of an array of zeros, from its front, and its length
zeros : (n : ℕ) → n ≤ lane_pixels → take n (replicate {A = ℕ} lane_pixels 0) ≡ replicate n 0
zeros n few = take-replicate n lane_pixels 0 few

length-zeros : (n : ℕ) → n ≤ lane_pixels → length (take n (replicate {A = ℕ} lane_pixels 0)) ≡ n
length-zeros n few = ap length (zeros n few) ∙ length-replicate {A = ℕ} n 0

pub returns-in-Err-clause-listing : goal.returns-in-Err-clause-listing
returns-in-Err-clause-listing c =
    rw (lane_listing-refused _ c.read_within.ensures c.in-Err.is) c.put_refusal.ensures

pub overflow_mul-pixels : goal.overflow_mul-pixels
overflow_mul-pixels c = omega (arith, heading-pixels _ _ c.read_within.ensures c.in-Ok.is)

pub slice_bounds-image-end : goal.slice_bounds-image-end
slice_bounds-image-end c = heading-pixels _ _ c.read_within.ensures c.in-Ok.is

pub slice_bounds-list_job-end : goal.slice_bounds-list_job-end
slice_bounds-list_job-end c = sym (length-zeros _ (heading-pixels _ _ c.read_within.ensures c.in-Ok.is))

pub slice_bounds-mask-end : goal.slice_bounds-mask-end
slice_bounds-mask-end c = heading-pixels _ _ c.read_within.ensures c.in-Ok.is

pub slice_bounds-list_job-end-2 : goal.slice_bounds-list_job-end-2
slice_bounds-list_job-end-2 c = sym (length-zeros _ (heading-pixels _ _ c.read_within.ensures c.in-Ok.is))

pub slice_bounds-queue-end : goal.slice_bounds-queue-end
slice_bounds-queue-end c = heading-pixels _ _ c.read_within.ensures c.in-Ok.is

pub slice_bounds-list_job-end-3 : goal.slice_bounds-list_job-end-3
slice_bounds-list_job-end-3 c = sym (length-zeros _ (heading-pixels _ _ c.read_within.ensures c.in-Ok.is))

pub slice_bounds-components-end : goal.slice_bounds-components-end
slice_bounds-components-end c = heading-pixels _ _ c.read_within.ensures c.in-Ok.is

pub slice_bounds-list_job-end-4 : goal.slice_bounds-list_job-end-4
slice_bounds-list_job-end-4 c = sym (length-zeros _ (heading-pixels _ _ c.read_within.ensures c.in-Ok.is))

pub slice_bounds-holes-end : goal.slice_bounds-holes-end
slice_bounds-holes-end c = heading-pixels _ _ c.read_within.ensures c.in-Ok.is

pub slice_bounds-list_job-end-5 : goal.slice_bounds-list_job-end-5
slice_bounds-list_job-end-5 c = sym (length-zeros _ (heading-pixels _ _ c.read_within.ensures c.in-Ok.is))

pub list_job-requires : goal.list_job-requires
list_job-requires c =
    let few = heading-pixels _ _ c.read_within.ensures c.in-Ok.is in
    let size = length-zeros _ few in
    let zero = zeros _ few in
    record {
      told = rw c.in-Ok.is at c.read_within.ensures;
      pictured = size;
      masked = size;
      queued = zero;
      components = zero;
      holes = zero;
      records = refl;
      room = c.told-listing;
    }
