-- Laws of `iterate`. Assumes nothing.
--   iterate-suc, iterate-add     one more at the end, two runs one behind the other
--   iterate-keeps                what each step keeps is kept
--   iterate_fixed                a list that a step leaves stays
--   iterate-same                 two steps that do the same have the same runs
--   below-refl, -trans, -antisym the order place by place
--   iterate-below                in a run that only adds, what comes later is above
--   iterate-rest                 and where two of its lists are equal, it has come to rest
--   settled                      a step that only adds comes to rest within as many steps as can be added
use Prim.Native.Nat.{ℕ, zero, suc, ◌+◌, ◌≤◌, ◌<◌, zero-le, ◌-◌}
use mathlib.Core.Path.{◌≡◌, refl, sym, ap, ap₂, ◌∙◌}
use mathlib.Core.Logic.{◌⊎◌, inl, inr}
use mathlib.Core.List.{List, [], ◌∷◌}
use native.Mathlib.Nat.{suc_inj, eq-or-lt_of_le, zero-add, suc-add}
use native.Mathlib.Omega.{arith}
use lib.ListN.{length, get_or}
use lib.Seq.{ext_get_or}
use Rattle.lists.specs.Lists.{iterate}

pub iterate-suc : (f : List ℕ → List ℕ) (n : ℕ) (xs : List ℕ) → iterate f (suc n) xs ≡ f (iterate f n xs)
unfolding iterate
iterate-suc f zero xs = refl
iterate-suc f (suc n) xs = iterate-suc f n (f xs)

pub iterate-add : (f : List ℕ → List ℕ) (n m : ℕ) (xs : List ℕ) → iterate f (n + m) xs ≡ iterate f m (iterate f n xs)
unfolding iterate
iterate-add f zero m xs = rw zero-add
iterate-add f (suc n) m xs = rw suc-add (iterate-add f n m (f xs))

pub iterate-keeps : (P : List ℕ → Type 0) (f : List ℕ → List ℕ) → ((xs : List ℕ) → P xs → P (f xs)) →
    (n : ℕ) (xs : List ℕ) → P xs → P (iterate f n xs)
unfolding iterate
iterate-keeps P f k zero xs h = h
iterate-keeps P f k (suc n) xs h = iterate-keeps P f k n (f xs) (k xs h)

pub iterate_fixed : (f : List ℕ → List ℕ) (n : ℕ) (xs : List ℕ) → f xs ≡ xs → iterate f n xs ≡ xs
unfolding iterate
iterate_fixed f zero xs e = refl
iterate_fixed f (suc n) xs e = rw e (iterate_fixed f n xs e)

-- two steps that do the same have the same runs
pub iterate-same : (P : List ℕ → Type 0) (f g : List ℕ → List ℕ) → ((xs : List ℕ) → P xs → P (f xs)) →
    ((xs : List ℕ) → P xs → f xs ≡ g xs) → (n : ℕ) (xs : List ℕ) → P xs → iterate f n xs ≡ iterate g n xs
unfolding iterate
iterate-same P f g k e zero xs h = refl
iterate-same P f g k e (suc n) xs h = iterate-same P f g k e n (f xs) (k xs h) ∙ ap (iterate g n) (e xs h)

-- ---- a step that only adds

unfoldable pub sum : List ℕ → ℕ
sum [] = 0
sum (x ∷ xs) = x + sum xs

-- place by place at most
unfoldable pub Below : List ℕ → List ℕ → Type 0
Below xs ys = (length xs ≡ length ys) × ((i : ℕ) → get_or xs i 0 ≤ get_or ys i 0)

pub below-refl : (xs : List ℕ) → Below xs xs
unfolding Below
below-refl xs = (refl, λ i. omega arith)

pub below-trans : (xs ys zs : List ℕ) → Below xs ys → Below ys zs → Below xs zs
unfolding Below
below-trans xs ys zs a b = (a.0 ∙ b.0, λ i. omega (arith, a.1 i, b.1 i))

pub below-antisym : (xs ys : List ℕ) → Below xs ys → Below ys xs → xs ≡ ys
unfolding Below
below-antisym xs ys a b = ext_get_or 0 xs ys a.0 (λ i l. omega (arith, a.1 i, b.1 i))

module _ (f : List ℕ → List ℕ) (xs : List ℕ) (grows : (k : ℕ) → Below (iterate f k xs) (iterate f (suc k) xs)) where
  -- in a run that only adds, what comes d steps later is above
  pub iterate-below : (k d : ℕ) → Below (iterate f k xs) (iterate f (d + k) xs)
  iterate-below k zero = rw zero-add (below-refl (iterate f k xs))
  iterate-below k (suc d) = rw suc-add (below-trans _ _ _ (iterate-below k d) (grows (d + k)))

  -- and where two of its lists are equal, it has come to rest at the first
  pub iterate-rest : (k n : ℕ) → k < n → iterate f k xs ≡ iterate f n xs → iterate f (suc k) xs ≡ iterate f k xs
  iterate-rest k n l e =
      let d : (n - suc k) + suc k ≡ n = omega arith in
      below-antisym _ _ (rw e (rw d at (iterate-below (suc k) (n - suc k)))) (grows k)

pub below-sum : (xs ys : List ℕ) → Below xs ys → (xs ≡ ys) ⊎ (sum xs < sum ys)
unfolding Below sum
below-sum [] [] b = inl refl
below-sum [] (y ∷ ys) b = absurd (let e : ◌≡◌ {A = ℕ} 0 (suc (length ys)) = b.0 in omega arith)
below-sum (x ∷ xs) [] b = absurd (let e : ◌≡◌ {A = ℕ} (suc (length xs)) 0 = b.0 in omega arith)
below-sum (x ∷ xs) (y ∷ ys) b =
    go (eq-or-lt_of_le (b.1 0)) (below-sum xs ys (suc_inj b.0, λ i. b.1 (suc i)))
  where
    go : (x ≡ y) ⊎ (x < y) → (xs ≡ ys) ⊎ (sum xs < sum ys) → (x ∷ xs ≡ y ∷ ys) ⊎ (x + sum xs < y + sum ys)
    go (inl e) (inl es) = inl (ap₂ ◌∷◌ e es)
    go (inl e) (inr l) = inr (omega arith)
    go (inr l) (inl es) = inr (let k : sum xs ≡ sum ys = ap sum es in omega arith)
    go (inr l) (inr k) = inr (omega arith)

pub sum-bits : (xs : List ℕ) → ((i : ℕ) → get_or xs i 0 ≤ 1) → sum xs ≤ length xs
unfolding sum
sum-bits [] h = zero-le
sum-bits (x ∷ xs) h = let k = sum-bits xs (λ i. h (suc i)) in let e : x ≤ 1 = h 0 in omega arith

module _ (f : List ℕ → List ℕ) (P : List ℕ → Type 0) (keeps : (xs : List ℕ) → P xs → P (f xs))
    (grows : (xs : List ℕ) → P xs → Below xs (f xs)) where
  grown : (k : ℕ) (xs : List ℕ) → P xs → (f (iterate f k xs) ≡ iterate f k xs) ⊎ (sum xs + k < sum (f (iterate f k xs)))
  unfolding iterate
  grown zero xs h = go (below-sum xs (f xs) (grows xs h))
    where
      go : (xs ≡ f xs) ⊎ (sum xs < sum (f xs)) → (f xs ≡ xs) ⊎ (sum xs + 0 < sum (f xs))
      go (inl e) = inl (sym e)
      go (inr l) = inr (omega arith)
  grown (suc k) xs h = go (below-sum xs (f xs) (grows xs h)) (grown k (f xs) (keeps xs h))
    where
      go : (xs ≡ f xs) ⊎ (sum xs < sum (f xs)) →
          (f (iterate f k (f xs)) ≡ iterate f k (f xs)) ⊎ (sum (f xs) + k < sum (f (iterate f k (f xs)))) →
          (f (iterate f k (f xs)) ≡ iterate f k (f xs)) ⊎ (sum xs + suc k < sum (f (iterate f k (f xs))))
      go a (inl e) = inl e
      go (inl e) (inr l) = inl (rw (iterate_fixed f k (f xs) (ap f (sym e))) (ap f (sym e)))
      go (inr a) (inr l) = inr (omega arith)

  -- where the sum is at most n, n steps reach what no step changes
  pub settled : (n : ℕ) → ((xs : List ℕ) → P xs → sum xs ≤ n) → (xs : List ℕ) → P xs →
      f (iterate f n xs) ≡ iterate f n xs
  settled n most xs h = go (grown n xs h)
    where
      go : (f (iterate f n xs) ≡ iterate f n xs) ⊎ (sum xs + n < sum (f (iterate f n xs))) →
          f (iterate f n xs) ≡ iterate f n xs
      go (inl e) = e
      go (inr l) = absurd (let k = most (f (iterate f n xs)) (keeps _ (iterate-keeps P f keeps n xs h)) in omega arith)
