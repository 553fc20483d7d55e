-- Functions on lists of numbers that the definitions of the crates above are written with.
-- Definitions only; their laws are in `proofs/`.
--   count_from a n     a, a + 1, .., n numbers in all
--   range n            0, 1, .., n - 1
--   tabulate n f       f 0, f 1, .., f (n - 1)
--   select f xs        those of xs that pass the test f, in their order
--   any f xs           one of xs passes the test f
--   all f xs           each of xs passes the test f
--   same xs ys         the test whether the two lists are equal
--   occurrences x xs   how often x stands in xs
--   iterate f n xs     f applied n times
--   bit b              1 for true, 0 for false
--   Each P xs          every one of xs has the property P
use Rattle.std.specs.Prelude.{ℕ, zero, suc, Bool, true, false, cond, ◌&&◌, ◌||◌, List, [], ◌∷◌, map, eqb, length}

-- n numbers, counted up from `from`
unfoldable pub count_from : ℕ → ℕ → List ℕ
count_from from zero = []
count_from from (suc n) = from ∷ count_from (suc from) n

-- the numbers below n
abbrev pub range : ℕ → List ℕ
range n = count_from 0 n

-- the values of f at the numbers below n
unfoldable pub tabulate : ℕ → (ℕ → ℕ) → List ℕ
tabulate n f = map f (range n)

-- those that pass the test, in their order
unfoldable pub select : (ℕ → Bool) → List ℕ → List ℕ
select f [] = []
select f (x ∷ xs) = cond (f x) (x ∷ select f xs) (select f xs)

-- one of them passes the test
unfoldable pub any {ℓ} : {A : Type ℓ} → (A → Bool) → List A → Bool
any f [] = false
any f (x ∷ xs) = f x || any f xs

-- each of them passes the test
unfoldable pub all {ℓ} : {A : Type ℓ} → (A → Bool) → List A → Bool
all f [] = true
all f (x ∷ xs) = f x && all f xs

-- the two lists are equal
unfoldable pub same : List ℕ → List ℕ → Bool
same [] [] = true
same [] (y ∷ ys) = false
same (x ∷ xs) [] = false
same (x ∷ xs) (y ∷ ys) = eqb x y && same xs ys

-- how often x stands in the list
unfoldable pub occurrences : ℕ → List ℕ → ℕ
occurrences x xs = length (select (eqb x) xs)

-- f applied n times
unfoldable pub iterate : (List ℕ → List ℕ) → ℕ → List ℕ → List ℕ
iterate f zero xs = xs
iterate f (suc n) xs = iterate f n (f xs)

-- a truth as a number
abbrev pub bit : Bool → ℕ
bit true = 1
bit false = 0

-- every one of them has the property
abbrev pub Each {ℓ} : {A : Type ℓ} → (A → Type 0) → List A → Type 0
Each P [] = Unit {0}
Each P (x ∷ xs) = P x × Each P xs
