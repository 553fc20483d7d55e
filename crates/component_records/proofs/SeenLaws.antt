-- Laws of `Numbered` and `SeenBefore` (`specs/Records.antt`): which labels stand before a position. Assumes nothing.
--   first_pixel-le           a label's first pixel is at or before every pixel that has the label
--   label-le                 a label is at most the number of the pixels up to one that has it
--   seen_none, seen_all      before the first position no label is seen, and behind the last each
--   seen-label               the label of an earlier pixel is seen
--   seen-upto                the labels of the next pixels are seen already
--   seen_same, seen_next     the next pixel's label is seen already, or it is the next one
--   next-label, next-first   the next label's number, and its first pixel
--   seen-le                  further on no fewer are seen
use Prim.Native.Nat.{ℕ, zero, suc, ◌-◌, ◌*◌, ◌≤◌, ◌<◌, zero-le}
use mathlib.Core.Path.{◌≡◌, ap}
use native.Mathlib.Omega.{arith}
use lib.ListN.{get_or}
use Rattle.lists.proofs.BoolLaws.{by-eq, by-lt}
use Rattle.model.specs.Labelling.{Labels, first_pixel}
use Rattle.component_records.specs.Records.{Numbered, SeenBefore}

module _ {width height : ℕ} {l : Labels} (numbered : Numbered width height l) where
  -- the label at a position, and a label's first pixel
  abbrev label : ℕ → ℕ
  label i = get_or l.labels i 0

  abbrev first : ℕ → ℕ
  first a = first_pixel width height l.labels a

  -- a label's first pixel is at or before every pixel that has the label
  pub first_pixel-le : (i : ℕ) → 1 ≤ label i → first (label i) ≤ i
  first_pixel-le i one =
      by-lt i (first (label i))
      (λ before. absurd (omega (arith, numbered.lower (label i) i one (numbered.most i) before)))
      (λ behind. behind)

  -- first pixels rise
  first_pixel-suc-lt : (a : ℕ) → 1 ≤ a → suc a ≤ l.count → first a < first (suc a)
  first_pixel-suc-lt a one most =
      by-lt (first a) (first (suc a)) (λ less. less)
      (λ behind.
      let here = numbered.label a one (omega arith) in
      let there = numbered.label (suc a) (omega arith) most in
      by-eq (first (suc a)) (first a) (λ e. absurd (omega (arith, ap label e)))
      (λ d. absurd (omega (arith, numbered.lower a (first (suc a)) one (omega arith) (omega arith)))))

  -- so they are no less than the labels before them
  first_pixel-ge : (a : ℕ) → suc a ≤ l.count → a ≤ first (suc a)
  first_pixel-ge zero most = zero-le
  first_pixel-ge (suc a) most =
      omega (arith, first_pixel-ge a (omega arith), first_pixel-suc-lt (suc a) (omega arith) most)

  -- a label is at most the number of the pixels up to one that has it
  pub label-le : (i : ℕ) → label i ≤ suc i
  label-le i =
      by-lt 0 (label i)
      (λ one.
      let e : suc (label i - 1) ≡ label i = omega arith in
      let most = numbered.most i in
      omega (arith, first_pixel-le i one, ap first e, first_pixel-ge (label i - 1) (omega arith)))
      (λ none. omega arith)

  -- no label is seen before the first position
  pub seen_none : SeenBefore width height l 0 0
  seen_none = record { most = zero-le; exact = λ a one most. (λ le. absurd (omega arith), λ lt. absurd (omega arith)) }

  module _ {n seen : ℕ} (s : SeenBefore width height l n seen) where
    -- the label of an earlier pixel is seen
    pub seen-label : (i : ℕ) → i < n → label i ≤ seen
    seen-label i before =
        by-lt 0 (label i)
        (λ one. (s.exact (label i) one (numbered.most i)).1 (omega (arith, first_pixel-le i one)))
        (λ none. omega arith)

    -- the labels of the next pixels are seen already
    pub seen-upto : {to : ℕ} → n ≤ to → ((i : ℕ) → n ≤ i → i < to → label i ≤ seen) → SeenBefore width height l to seen
    seen-upto le old =
        record {
          most = s.most;
          exact = λ a one most. (
            λ upto. omega (arith, (s.exact a one most).0 upto),
            λ lt. by-lt (first a) n (s.exact a one most).1
                (λ behind. omega (arith, numbered.label a one most, old (first a) behind lt)),
          );
        }

    -- the next pixel's label is
    pub seen_same : label n ≤ seen → SeenBefore width height l (suc n) seen
    seen_same old = seen-upto (omega arith) (λ i from upto. let e : n ≡ i = omega arith in rw e at old)

    module _ (new : seen < label n) where
      -- or it is the first pixel of its label
      pub next-first : first (label n) ≡ n
      next-first =
          by-lt (first (label n)) n
          (λ before. absurd (omega (arith, (s.exact (label n) (omega arith) (numbered.most n)).1 before)))
          (λ behind. omega (arith, first_pixel-le n (omega arith)))

      -- which is the next one: the first pixel of the next label is not before, and not behind
      pub next-label : label n ≡ suc seen
      next-label =
          let next-most : suc seen ≤ l.count = omega (arith, numbered.most n) in
          by-eq (label n) (suc seen) (λ e. e)
          (λ d.
          by-lt n (first (suc seen))
          (λ behind. absurd (omega (arith, numbered.lower (suc seen) n (omega arith) next-most behind)))
          (λ upto.
          by-eq (first (suc seen)) n
          (λ e. absurd (omega (arith, numbered.label (suc seen) (omega arith) next-most, ap label e)))
          (λ other. absurd (omega (arith, (s.exact (suc seen) (omega arith) next-most).1 (omega arith))))))

      -- and is seen then
      pub seen_next : SeenBefore width height l (suc n) (label n)
      seen_next =
          record {
            most = numbered.most n;
            exact = λ a one most. (
              λ le. by-eq a (label n) (λ e. omega (arith, ap first e, next-first))
                  (λ d. omega (arith, next-label, (s.exact a one most).0 (omega (arith, next-label)))),
              λ lt. by-eq (first a) n (λ e. omega (arith, numbered.label a one most, ap label e))
                  (λ d. omega (arith, (s.exact a one most).1 (omega arith))),
            );
          }

    -- further on no fewer are seen
    pub seen-le : {m more : ℕ} → SeenBefore width height l m more → n ≤ m → seen ≤ more
    seen-le {m} {more} t le =
        by-lt 0 seen
        (λ one. (t.exact seen one s.most).1 (omega (arith, (s.exact seen one s.most).0 (omega arith))))
        (λ none. omega arith)

  -- behind the last position each is seen
  pub seen_all : {seen : ℕ} → SeenBefore width height l (width * height) seen → seen ≡ l.count
  seen_all {seen} s =
      by-lt 0 l.count
      (λ one.
      let most = s.most in
      omega (arith, (s.exact l.count one (omega arith)).1 (numbered.inside l.count one (omega arith))))
      (λ none. omega (arith, s.most))
