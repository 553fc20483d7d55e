-- Laws of `needs_join` (`specs/Regions.antt`). Assumes nothing.
--   needs_join-alike    where no join is needed and the pixel is like the one above, no run starts in the square
--   needs_join-either   where no join is needed, at most one run starts in the square
use Prim.Native.Nat.{ℕ, ◌+◌}
use mathlib.Core.Path.{◌≡◌, sym}
use mathlib.Core.Bool.{true, false, not}
use mathlib.Core.Logic.{◌⊎◌, inl, inr}
use mathlib.Core.List.{List}
use native.Mathlib.Omega.{arith}
use lib.Dec.{eqb, leb}
use lib.ListN.{get_or}
use borrow.Author.Tests.{leb-false, eq-eqb, ne_eqb}
use Rattle.lists.specs.Lists.{bit}
use Rattle.lists.proofs.BoolLaws.{by-eq}
use Rattle.neighbours.specs.Square.{left_of, above_of, corner_of}
use Rattle.union_find.specs.Regions.{needs_join}

-- what it says of the four values that no two of the three hold
few : (pixel left above corner : ℕ) →
    leb 2 (bit (not (eqb pixel left)) + bit (not (eqb above corner)) + bit (eqb pixel above)) ≡ false →
    (above ≡ pixel → (left ≡ pixel) × (corner ≡ above)) × ((left ≡ pixel) ⊎ (corner ≡ above))
few pixel left above corner f =
    let less = leb-false 2 (bit (not (eqb pixel left)) + bit (not (eqb above corner)) + bit (eqb pixel above)) f in
    let like : above ≡ pixel → eqb pixel above ≡ true = λ alike. eq-eqb pixel above (sym alike) in
    by-eq left pixel
    (λ e.
    by-eq corner above (λ q. (λ alike. (e, q), inl e))
    (λ n. (
      λ alike. absurd (omega (arith, rw (ne_eqb above corner (λ q. n (sym q)), like alike) at less)),
      inl e,
    )))
    (λ d.
    by-eq corner above
    (λ q. (
      λ alike. absurd (omega (arith, rw (ne_eqb pixel left (λ e. d (sym e)), like alike) at less)),
      inr q,
    ))
    (λ n.
    absurd (omega (arith, rw (ne_eqb pixel left (λ e. d (sym e)), ne_eqb above corner (λ q. n (sym q))) at less))))

module _ (width : ℕ) (image : List ℕ) (k : ℕ) where
  -- where the pixel is like the one above, no run starts
  pub needs_join-alike : needs_join width image k ≡ false → get_or image (above_of width k) 0 ≡ get_or image k 0 →
      (get_or image (left_of k) 0 ≡ get_or image k 0)
      × (get_or image (corner_of width k) 0 ≡ get_or image (above_of width k) 0)
  unfolding needs_join
  needs_join-alike f = (few _ _ _ _ f).0

  -- at most one run starts
  pub needs_join-either : needs_join width image k ≡ false →
      (get_or image (left_of k) 0 ≡ get_or image k 0) ⊎
      (get_or image (corner_of width k) 0 ≡ get_or image (above_of width k) 0)
  unfolding needs_join
  needs_join-either f = (few _ _ _ _ f).1
