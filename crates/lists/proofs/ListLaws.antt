-- Laws of `specs/Lists.antt`, by head symbol. Assumes nothing.
--   count_from, range   length, entries, membership, one more at either end
--   map over a range    length, entries, one more at the end, equal values, the first of them, those from one on
--   tabulate            length, entries, outside, two with the same values, a bound, tests, one more at the end
--   any, all            append, equal tests, a member that passes, every member passes, no member passes
--   select              append, one number more, nothing, everything, numbers moved up, length, by indices, equal
--                       tests, tests that differ at one number, the first of a range
--   flat_map             append, length and entries of pieces of one length, a table by rows, a list's first entries,
--                       pieces of at most one length
--   occurrences   append, membership, a selected range has each once; equally often is equally long
--   same          the test is equality
--   Each          a property that another implies, append, of selected numbers, of an entry
--   slice         one entry more at the end, entries, so many from a place on
--   set           in the second of two lists
--   get_or        an entry does not depend on the default
--   take          as many entries as a front has, the front of equal entries
-- Not here: other laws of `get_or`, `slice`, `set` and `take`, laws of `drop` (`lib.Seq`, `lib.ListN`).
use Prim.Native.Nat.{ℕ, zero, suc, ◌+◌, ◌-◌, ◌*◌, ◌/◌, ◌%◌, ◌≤◌, ◌<◌, zero-le}
use mathlib.Core.Path.{◌≡◌, refl, sym, ap, ap₂, ◌∙◌}
use mathlib.Core.Bool.{Bool, true, false, ◌&&◌, ◌||◌, false≢true, and_assoc, or_assoc, cond, or-false}
use mathlib.Core.Logic.{⊎_elim, ◌↔◌}
use mathlib.Core.List.{List, [], ◌∷◌, ◌++◌, map, map-append, flat_map, append-nil, append_assoc}
use native.Mathlib.Nat.{add-zero, add-suc, suc-add, zero-add, not-suc-le-zero, le_of_suc-le-suc, mul-zero, mul-suc}
use native.Mathlib.Nat.{mul_comm}
use native.Mathlib.Nat.{mod-lt, div-add-mod, div-lt_iff_lt-mul}
use native.Mathlib.Omega.{arith}
use native.Mathlib.Numerals.{add-one}
use lib.Dec.{eqb, ltb}
use lib.ListN.{length, get_or, length-map, length-append, get_or-append, get_or-eq_default, take, drop, set}
use lib.ListN.{replicate}
use lib.ListN.{take-append-drop}
use lib.Seq.{ext_get_or, get_or-append-add, length-take-le, get_or-take, slice, take-suc, drop-append-le, get_or-drop}
use lib.Seq.{take-add}
use lib.Seq.{take-nil}
use lib.Seq.{drop-cons}
use borrow.Author.Tests.{eq-eqb, ne_eqb, eqb-true, lt-ltb, le-ltb}
use Rattle.lists.specs.Lists.{count_from, range, tabulate, select, any, all, same, occurrences, bit, Each}
use Rattle.lists.proofs.BoolLaws.{by-test, by-eq, by-lt, not-both, and_left, and_right, and_both, or_left}
use Rattle.lists.proofs.BoolLaws.{or_right}
use Rattle.lists.proofs.BoolLaws.{or-true-cases, bit-one, or-false-left, or-false-right, or-false-both}

-- ---- count_from and range

pub length-count_from : (a n : ℕ) → length (count_from a n) ≡ n
unfolding count_from
length-count_from a zero = refl
length-count_from a (suc n) = ap suc (length-count_from (suc a) n)

pub count_from-append : (a n m : ℕ) → count_from a (n + m) ≡ count_from a n ++ count_from (a + n) m
unfolding count_from
count_from-append a zero m = rw (zero-add, add-zero)
count_from-append a (suc n) m =
    rw (suc-add n m, add-suc a n, ← (suc-add a n)) (ap (λ (l : List ℕ). a ∷ l) (count_from-append (suc a) n m))

-- one number more at the end
pub range-suc : (n : ℕ) → range (suc n) ≡ range n ++ n ∷ []
unfolding count_from
range-suc n = ap (count_from 0) (sym (add-one n)) ∙ count_from-append 0 n 1
    ∙ ap (λ (k : ℕ). count_from 0 n ++ k ∷ []) (zero-add n)

-- ---- map over a range

pub get_or-map-count_from {ℓ} : {A : Type ℓ} (f : ℕ → A) (a n k : ℕ) (d : A) → k < n →
    get_or (map f (count_from a n)) k d ≡ f (a + k)
unfolding count_from
get_or-map-count_from f a zero k d h = absurd (not-suc-le-zero h)
get_or-map-count_from f a (suc n) zero d h = ap f (sym (add-zero a))
get_or-map-count_from f a (suc n) (suc k) d h =
    get_or-map-count_from f (suc a) n k d (le_of_suc-le-suc h) ∙ ap f (suc-add a k ∙ sym (add-suc a k))

module _ {ℓ} {A : Type ℓ} where
  pub length-map-range : (n : ℕ) (f : ℕ → A) → length (map f (range n)) ≡ n
  length-map-range n f = length-map (range n) f ∙ length-count_from 0 n

  pub get_or-map-range : (n : ℕ) (f : ℕ → A) (k : ℕ) (d : A) → k < n → get_or (map f (range n)) k d ≡ f k
  get_or-map-range n f k d h = get_or-map-count_from f 0 n k d h ∙ ap f (zero-add k)

  -- none, and one more at the end
  pub map-range-zero : (f : ℕ → A) → map f (range 0) ≡ []
  unfolding count_from
  map-range-zero f = refl

  pub map-range-suc : (n : ℕ) (f : ℕ → A) → map f (range (suc n)) ≡ map f (range n) ++ f n ∷ []
  map-range-suc n f = ap (map f) (range-suc n) ∙ map-append f (range n) (n ∷ [])

  -- two functions with the same values
  pub map-range-same : (n : ℕ) (f g : ℕ → A) → ((k : ℕ) → k < n → f k ≡ g k) → map f (range n) ≡ map g (range n)
  map-range-same zero f g h = map-range-zero f ∙ sym (map-range-zero g)
  map-range-same (suc n) f g h =
      rw (map-range-suc n f, map-range-suc n g)
      (ap₂ (λ (xs : List A) (x : A). xs ++ x ∷ [])
      (map-range-same n f g (λ k l. h k (omega arith))) (h n (omega arith)))

  -- those from one on
  pub drop-map-range : (n m : ℕ) (f : ℕ → A) → n < m → drop n (map f (range m)) ≡ f n ∷ drop (suc n) (map f (range m))
  drop-map-range n m f h =
      let below : n < length (map f (range m)) = omega (arith, length-map-range m f) in
      drop-cons (map f (range m)) n (f n) below ∙ rw (get_or-map-range m f n (f n) h)

-- ---- tabulate

pub get_or-tabulate : (n : ℕ) (f : ℕ → ℕ) (k : ℕ) → k < n → get_or (tabulate n f) k 0 ≡ f k
unfolding tabulate
get_or-tabulate n f k h = get_or-map-range n f k 0 h

pub length-tabulate : (n : ℕ) (f : ℕ → ℕ) → length (tabulate n f) ≡ n
unfolding tabulate
length-tabulate n f = length-map-range n f

pub get_or-tabulate-out : (n : ℕ) (f : ℕ → ℕ) (k : ℕ) → n ≤ k → get_or (tabulate n f) k 0 ≡ 0
get_or-tabulate-out n f k h = get_or-eq_default (tabulate n f) 0 (omega (arith, length-tabulate n f))

-- a list is tabulated by its own entries
pub tabulate-is : (n : ℕ) (f : ℕ → ℕ) (l : List ℕ) → length l ≡ n → ((k : ℕ) → k < n → f k ≡ get_or l k 0) →
    tabulate n f ≡ l
tabulate-is n f l e h =
    ext_get_or 0 (tabulate n f) l (length-tabulate n f ∙ sym e)
    (λ k lt. let lt' : k < n = omega (arith, length-tabulate n f, lt) in get_or-tabulate n f k lt' ∙ h k lt')

pub tabulate-same : (n : ℕ) (f g : ℕ → ℕ) → ((k : ℕ) → k < n → f k ≡ g k) → tabulate n f ≡ tabulate n g
tabulate-same n f g h = tabulate-is n f (tabulate n g)
    (length-tabulate n g) (λ k lt. h k lt ∙ sym (get_or-tabulate n g k lt))

-- every entry is at most what every value is at most
pub get_or-tabulate-le : (n : ℕ) (f : ℕ → ℕ) (most : ℕ) → ((k : ℕ) → k < n → f k ≤ most) → (k : ℕ) →
    get_or (tabulate n f) k 0 ≤ most
get_or-tabulate-le n f most h k =
    by-lt k n (λ inside. rw (get_or-tabulate n f k inside) (h k inside))
    (λ outside. rw (get_or-tabulate-out n f k outside) zero-le)

-- an entry of tabulated tests is 1 where the test passes
pub get_or-tabulate-bit-iff : (n : ℕ) (f : ℕ → Bool) (k : ℕ) →
    (get_or (tabulate n (λ i. bit (f i))) k 0 ≡ 1) ↔ ((k < n) × (f k ≡ true))
get_or-tabulate-bit-iff n f k = (
  λ e.
      by-lt k n (λ inside. (inside, bit-one (f k) (sym (get_or-tabulate n (λ i. bit (f i)) k inside) ∙ e)))
      (λ outside. absurd (omega (arith, get_or-tabulate-out n (λ i. bit (f i)) k outside))),
  λ h. get_or-tabulate n (λ i. bit (f i)) k h.0 ∙ ap bit h.1,
)

-- a list is its first n entries and what stands behind them
pub tabulate-append-drop : (n : ℕ) (l : List ℕ) → n ≤ length l → tabulate n (λ k. get_or l k 0) ++ drop n l ≡ l
tabulate-append-drop n l h =
    let first : tabulate n (λ k. get_or l k 0) ≡ take n l =
    tabulate-is n _ (take n l) (length-take-le n l h) (λ k lt. sym (get_or-take n l k 0 lt)) in
    rw first (take-append-drop n l)

-- no value, and one more at the end
pub tabulate-zero : (f : ℕ → ℕ) → tabulate 0 f ≡ []
unfolding tabulate
tabulate-zero f = map-range-zero f

pub tabulate-suc : (n : ℕ) (f : ℕ → ℕ) → tabulate (suc n) f ≡ tabulate n f ++ f n ∷ []
unfolding tabulate
tabulate-suc n f = map-range-suc n f

-- ---- any and all

pub any_append : (f : ℕ → Bool) (xs ys : List ℕ) → any f (xs ++ ys) ≡ any f xs || any f ys
unfolding any
any_append f [] ys = refl
any_append f (x ∷ xs) ys = rw (any_append f xs ys) (sym (or_assoc (f x) (any f xs) (any f ys)))

pub all_append : (f : ℕ → Bool) (xs ys : List ℕ) → all f (xs ++ ys) ≡ all f xs && all f ys
unfolding all
all_append f [] ys = refl
all_append f (x ∷ xs) ys = rw (all_append f xs ys) (sym (and_assoc (f x) (all f xs) (all f ys)))

pub any_same : (f g : ℕ → Bool) (xs : List ℕ) → ((x : ℕ) → f x ≡ g x) → any f xs ≡ any g xs
unfolding any
any_same f g [] same = refl
any_same f g (x ∷ xs) same = rw (same x, any_same f g xs same)

pub any-flat_map : (f : ℕ → Bool) (g : ℕ → List ℕ) (xs : List ℕ) → any f (flat_map g xs) ≡ any (λ x. any f (g x)) xs
unfolding any flat_map
any-flat_map f g [] = refl
any-flat_map f g (x ∷ xs) = any_append f (g x) (flat_map g xs)
    ∙ ap (λ (t : Bool). any f (g x) || t) (any-flat_map f g xs)

-- a test that passes passes at a member
pub any_some : (f : ℕ → Bool) (xs : List ℕ) → any f xs ≡ true → (x : ℕ) × (any (eqb x) xs ≡ true) × (f x ≡ true)
unfolding any
any_some f [] e = absurd (false≢true e)
any_some f (x ∷ xs) e =
    ⊎_elim (λ p. (x, or_left (eqb x x) (any (eqb x) xs) (eq-eqb x x refl), p))
    (λ p. let r = any_some f xs p in (r.0, or_right (eqb r.0 x) (any (eqb r.0) xs) r.1, r.2))
    (or-true-cases (f x) (any f xs) e)

pub some-any : (f : ℕ → Bool) (xs : List ℕ) (x : ℕ) → any (eqb x) xs ≡ true → f x ≡ true → any f xs ≡ true
unfolding any
some-any f [] x m e = absurd (false≢true m)
some-any f (y ∷ ys) x m e =
    ⊎_elim (λ p. or_left (f y) (any f ys) (rw (← (eqb-true x y p)) e))
    (λ p. or_right (f y) (any f ys) (some-any f ys x p e))
    (or-true-cases (eqb x y) (any (eqb x) ys) m)

pub all-member : (f : ℕ → Bool) (xs : List ℕ) → all f xs ≡ true → (x : ℕ) → any (eqb x) xs ≡ true → f x ≡ true
unfolding any all
all-member f [] e x m = absurd (false≢true m)
all-member f (y ∷ ys) e x m =
    ⊎_elim (λ p. rw (eqb-true x y p) (and_left (f y) (all f ys) e))
    (λ p. all-member f ys (and_right (f y) (all f ys) e) x p)
    (or-true-cases (eqb x y) (any (eqb x) ys) m)

pub member-all : (f : ℕ → Bool) (xs : List ℕ) → ((x : ℕ) → any (eqb x) xs ≡ true → f x ≡ true) → all f xs ≡ true
unfolding any all
member-all f [] h = refl
member-all f (y ∷ ys) h =
    and_both (f y) (all f ys) (h y (or_left (eqb y y) (any (eqb y) ys) (eq-eqb y y refl)))
    (member-all f ys (λ x m. h x (or_right (eqb x y) (any (eqb x) ys) m)))

-- tests that agree on each member agree on the list
pub all_same : (f g : ℕ → Bool) (xs : List ℕ) → ((x : ℕ) → any (eqb x) xs ≡ true → f x ≡ g x) →
    all f xs ≡ all g xs
unfolding any all
all_same f g [] h = refl
all_same f g (x ∷ xs) h =
    ap₂ ◌&&◌ (h x (or_left (eqb x x) (any (eqb x) xs) (eq-eqb x x refl)))
    (all_same f g xs (λ y m. h y (or_right (eqb y x) (any (eqb y) xs) m)))

-- a test that each entry passes, and 0 with them, is passed by what stands at any index
pub all-get_or : (f : ℕ → Bool) (xs : List ℕ) → f 0 ≡ true → all f xs ≡ true → (k : ℕ) → f (get_or xs k 0) ≡ true
unfolding all
all-get_or f [] z e k = z
all-get_or f (x ∷ xs) z e zero = and_left (f x) (all f xs) e
all-get_or f (x ∷ xs) z e (suc k) = all-get_or f xs z (and_right (f x) (all f xs) e) k

-- what stands at an index is a member
pub member-get_or : (xs : List ℕ) (k : ℕ) → k < length xs → any (eqb (get_or xs k 0)) xs ≡ true
unfolding any
member-get_or [] k l = absurd (not-suc-le-zero l)
member-get_or (x ∷ xs) zero l = or_left (eqb x x) (any (eqb x) xs) (eq-eqb x x refl)
member-get_or (x ∷ xs) (suc k) l =
    or_right (eqb (get_or xs k 0) x) (any (eqb (get_or xs k 0)) xs) (member-get_or xs k (le_of_suc-le-suc l))

-- a member of a range is below its end, and every number below it is one
member-count_from-lt : (x a n : ℕ) → any (eqb x) (count_from a n) ≡ true → x < a + n
unfolding any count_from
member-count_from-lt x a zero e = absurd (false≢true e)
member-count_from-lt x a (suc n) e =
    ⊎_elim (λ p. omega (arith, eqb-true x a p)) (λ p. omega (arith, member-count_from-lt x (suc a) n p))
    (or-true-cases (eqb x a) (any (eqb x) (count_from (suc a) n)) e)

pub member-range-lt : (x n : ℕ) → any (eqb x) (range n) ≡ true → x < n
member-range-lt x n e = omega (arith, member-count_from-lt x 0 n e)

lt-member-count_from : (x a n : ℕ) → a ≤ x → x < a + n → any (eqb x) (count_from a n) ≡ true
unfolding any count_from
lt-member-count_from x a zero l h = absurd (omega arith)
lt-member-count_from x a (suc n) l h =
    by-eq x a (λ e. or_left (eqb x a) (any (eqb x) (count_from (suc a) n)) (eq-eqb x a e))
    (λ d. or_right (eqb x a) (any (eqb x) (count_from (suc a) n))
    (lt-member-count_from x (suc a) n (omega arith) (omega arith)))

pub lt-member-range : (x n : ℕ) → x < n → any (eqb x) (range n) ≡ true
lt-member-range x n h = lt-member-count_from x 0 n zero-le (omega arith)

-- a member of what is tabulated is a value
pub member-tabulate : (x n : ℕ) (f : ℕ → ℕ) → any (eqb x) (tabulate n f) ≡ true → (k : ℕ) × (k < n) × (x ≡ f k)
unfolding tabulate any
member-tabulate x n f e = let r = go (range n) e in (r.0, member-range-lt r.0 n r.1, r.2)
  where
    go : (ks : List ℕ) → any (eqb x) (map f ks) ≡ true → (k : ℕ) × (any (eqb k) ks ≡ true) × (x ≡ f k)
    go [] e = absurd (false≢true e)
    go (k ∷ ks) e =
        ⊎_elim (λ p. (k, or_left (eqb k k) (any (eqb k) ks) (eq-eqb k k refl), eqb-true x (f k) p))
        (λ p. let r = go ks p in (r.0, or_right (eqb r.0 k) (any (eqb r.0) ks) r.1, r.2))
        (or-true-cases (eqb x (f k)) (any (eqb x) (map f ks)) e)

-- and a value is a member
pub lt-member-tabulate : (k n : ℕ) (f : ℕ → ℕ) → k < n → any (eqb (f k)) (tabulate n f) ≡ true
lt-member-tabulate k n f h =
    rw (get_or-tabulate n f k h) at (member-get_or (tabulate n f) k (omega (arith, length-tabulate n f)))

-- no member passes a test that fails, and a test that no member passes fails
pub any_none : (f : ℕ → Bool) (xs : List ℕ) → any f xs ≡ false → (x : ℕ) → any (eqb x) xs ≡ true → f x ≡ false
any_none f xs e x m = by-test (f x) (λ p. not-both (some-any f xs x m p) e) (λ p. p)

pub none_any : (f : ℕ → Bool) (xs : List ℕ) → ((x : ℕ) → any (eqb x) xs ≡ true → f x ≡ false) → any f xs ≡ false
none_any f xs h =
    by-test (any f xs) (λ e. let r = any_some f xs e in not-both r.2 (h r.0 r.1)) (λ e. e)

-- one of the numbers counted up passes the test
pub any-count_from-some : (f : ℕ → Bool) (a n : ℕ) → any f (count_from a n) ≡ true →
    (k : ℕ) × (a ≤ k) × (k < a + n) × (f k ≡ true)
unfolding any count_from
any-count_from-some f a zero e = absurd (false≢true e)
any-count_from-some f a (suc n) e =
    by-test (f a) (λ t. (a, omega arith, omega arith, t))
    (λ t.
    let rest = any-count_from-some f (suc a) n (rw t at e) in
    (rest.0, omega (arith, rest.1), omega (arith, rest.2), rest.3))

-- no number of those counted up passes exactly if each fails
pub any-count_from-false : (f : ℕ → Bool) (a n : ℕ) → any f (count_from a n) ≡ false → (k : ℕ) → a ≤ k → k < a + n →
    f k ≡ false
any-count_from-false f a n e k l h = any_none f (count_from a n) e k (lt-member-count_from k a n l h)

pub false-any-count_from : (f : ℕ → Bool) (a n : ℕ) → ((k : ℕ) → a ≤ k → k < a + n → f k ≡ false) →
    any f (count_from a n) ≡ false
unfolding any count_from
false-any-count_from f a zero h = refl
false-any-count_from f a (suc n) h =
    rw (h a (omega arith) (omega arith)) (false-any-count_from f (suc a) n (λ k l lt. h k (omega arith) (omega arith)))

-- none of a list passes exactly if each fails
pub any-false-each {ℓ} : {A : Type ℓ} (f : A → Bool) (xs : List A) → any f xs ≡ false → Each (λ x. f x ≡ false) xs
unfolding any
any-false-each f [] e = tt
any-false-each f (x ∷ xs) e =
    (or-false-left (f x) (any f xs) e, any-false-each f xs (or-false-right (f x) (any f xs) e))

pub each-any-false {ℓ} : {A : Type ℓ} (f : A → Bool) (xs : List A) → Each (λ x. f x ≡ false) xs → any f xs ≡ false
unfolding any
each-any-false f [] h = refl
each-any-false f (x ∷ xs) h = or-false-both (f x) (any f xs) h.0 (each-any-false f xs h.1)

-- one more at the end
pub any_snoc : (f : ℕ → Bool) (xs : List ℕ) (x : ℕ) → any f (xs ++ x ∷ []) ≡ any f xs || f x
unfolding any
any_snoc f xs x = any_append f xs (x ∷ []) ∙ ap (λ (t : Bool). any f xs || t) (or-false (f x))

-- of numbers counted up one passes if one of the first n does, or one of those behind
pub any-count_from-append : (f : ℕ → Bool) (a n m : ℕ) →
    any f (count_from a (n + m)) ≡ any f (count_from a n) || any f (count_from (a + n) m)
any-count_from-append f a n m = ap (any f) (count_from-append a n m)
    ∙ any_append f (count_from a n) (count_from (a + n) m)

-- where none of the first n passes, those behind decide
pub any-count_from-behind : (f : ℕ → Bool) (a n m : ℕ) → any f (count_from a n) ≡ false →
    any f (count_from a (n + m)) ≡ any f (count_from (a + n) m)
any-count_from-behind f a n m e =
    any-count_from-append f a n m ∙ ap (λ (t : Bool). t || any f (count_from (a + n) m)) e

-- and so does the next number by itself
pub any-count_from-next : (f : ℕ → Bool) (a n : ℕ) → any f (count_from a n) ≡ false →
    any f (count_from a (n + 1)) ≡ f (a + n)
unfolding any count_from
any-count_from-next f a n e = any-count_from-behind f a n 1 e ∙ or-false (f (a + n))

-- if one of the first n passes, so does one of the first m, which are no fewer
pub any-count_from-le : (f : ℕ → Bool) (a n m : ℕ) → n ≤ m → any f (count_from a n) ≡ true →
    any f (count_from a m) ≡ true
any-count_from-le f a n m l e =
    let whole : n + (m - n) ≡ m = omega arith in
    ap (λ (k : ℕ). any f (count_from a k)) (sym whole)
    ∙ any-count_from-append f a n (m - n)
    ∙ or_left (any f (count_from a n)) (any f (count_from (a + n) (m - n))) e

-- ---- select

pub select-append : (f : ℕ → Bool) (xs ys : List ℕ) → select f (xs ++ ys) ≡ select f xs ++ select f ys
unfolding select
select-append f [] ys = refl
select-append f (x ∷ xs) ys =
    by-test (f x) (λ e. rw e (ap (λ (l : List ℕ). x ∷ l) (select-append f xs ys))) (λ e. rw e (select-append f xs ys))

-- of the numbers counted up to one more are selected the former ones, and the new one where it passes
select-count_from-suc : (f : ℕ → Bool) (a n : ℕ) →
    select f (count_from a (suc n)) ≡ select f (count_from a n) ++ select f ((a + n) ∷ [])
unfolding count_from
select-count_from-suc f a n =
    ap (λ (k : ℕ). select f (count_from a k)) (sym (add-one n))
    ∙ ap (select f) (count_from-append a n 1)
    ∙ select-append f (count_from a n) _

pub select-count_from-yes : (f : ℕ → Bool) (a n : ℕ) → f (a + n) ≡ true →
    select f (count_from a (suc n)) ≡ select f (count_from a n) ++ (a + n) ∷ []
unfolding select count_from
select-count_from-yes f a n e = select-count_from-suc f a n ∙ rw e

pub select-count_from-no : (f : ℕ → Bool) (a n : ℕ) → f (a + n) ≡ false →
    select f (count_from a (suc n)) ≡ select f (count_from a n)
unfolding select count_from
select-count_from-no f a n e = select-count_from-suc f a n ∙ rw (e, append-nil)

-- the same of the numbers below n
pub select-range-yes : (f : ℕ → Bool) (n : ℕ) → f n ≡ true → select f (range (suc n)) ≡ select f (range n) ++ n ∷ []
select-range-yes f n e =
    select-count_from-yes f 0 n (ap f (zero-add n) ∙ e) ∙ ap (λ (k : ℕ). select f (range n) ++ k ∷ []) (zero-add n)

pub select-range-no : (f : ℕ → Bool) (n : ℕ) → f n ≡ false → select f (range (suc n)) ≡ select f (range n)
select-range-no f n e = select-count_from-no f 0 n (ap f (zero-add n) ∙ e)

-- nothing is selected where each fails
pub select-count_from-none : (f : ℕ → Bool) (a n : ℕ) → ((k : ℕ) → a ≤ k → k < a + n → f k ≡ false) →
    select f (count_from a n) ≡ []
unfolding select count_from
select-count_from-none f a zero h = refl
select-count_from-none f a (suc n) h =
    rw (h a (omega arith) (omega arith))
    (select-count_from-none f (suc a) n (λ k l lt. h k (omega arith) (omega arith)))

-- everything is selected where each passes
pub length-select-count_from-all : (f : ℕ → Bool) (a n : ℕ) →
    ((k : ℕ) → a ≤ k → k < a + n → f k ≡ true) →
    length (select f (count_from a n)) ≡ n
unfolding select count_from
length-select-count_from-all f a zero h = refl
length-select-count_from-all f a (suc n) h =
    rw (h a (omega arith) (omega arith))
    (ap suc (length-select-count_from-all f (suc a) n (λ k l lt. h k (omega arith) (omega arith))))

-- a selection from numbers moved up is the selection from the numbers themselves, moved up
pub select-count_from-moved : (f g : ℕ → Bool) (up a n : ℕ) →
    ((k : ℕ) → a ≤ k → k < a + n → f (up + k) ≡ g k) →
    select f (count_from (up + a) n) ≡ map (λ k. up + k) (select g (count_from a n))
unfolding select count_from
select-count_from-moved f g up a zero h = refl
select-count_from-moved f g up a (suc n) h =
    let rest = select-count_from-moved f g up (suc a) n (λ k l lt. h k (omega arith) (omega arith)) in
    let next : select f (count_from (suc (up + a)) n) ≡ map (λ k. up + k) (select g (count_from (suc a) n)) =
    rw add-suc at rest in
    by-test (g a) (λ e. rw (h a (omega arith) (omega arith), e) (ap (λ (l : List ℕ). (up + a) ∷ l) next))
    (λ e. rw (h a (omega arith) (omega arith), e) next)

pub length-select-le : (f : ℕ → Bool) (xs : List ℕ) → length (select f xs) ≤ length xs
unfolding select
length-select-le f [] = zero-le
length-select-le f (x ∷ xs) =
    by-test (f x) (λ e. rw e (omega (arith, length-select-le f xs))) (λ e. rw e (omega (arith, length-select-le f xs)))

pub length-select-count_from-le : (f : ℕ → Bool) (a n : ℕ) → length (select f (count_from a n)) ≤ n
length-select-count_from-le f a n = omega (arith, length-select-le f (count_from a n), length-count_from a n)

-- of the numbers below n + 1 are selected those below n, and n where it passes
pub length-select-range-suc : (f : ℕ → Bool) (n : ℕ) →
    length (select f (range (suc n))) ≡ length (select f (range n)) + bit (f n)
unfolding select
length-select-range-suc f n =
    ap (λ (l : List ℕ). length (select f l)) (range-suc n)
    ∙ ap length (select-append f (range n) (n ∷ []))
    ∙ length-append (select f (range n)) (select f (n ∷ []))
    ∙ by-test (f n) (λ e. rw e) (λ e. rw e)

-- nothing is selected exactly if no one passes
pub length-select-zero-iff : (f : ℕ → Bool) (xs : List ℕ) → (length (select f xs) ≡ 0) ↔ (any f xs ≡ false)
unfolding select any
length-select-zero-iff f [] = (λ e. refl, λ e. refl)
length-select-zero-iff f (x ∷ xs) =
    let rest = length-select-zero-iff f xs in
    by-test (f x) (λ e. rw e ((λ p. absurd (omega arith)), λ p. absurd (false≢true (sym p)))) (λ e. rw e rest)

-- the first that passes, of numbers counted up
select-count_from-first : (f : ℕ → Bool) (a n x : ℕ) → a ≤ x → x < a + n → f x ≡ true →
    ((y : ℕ) → y < x → f y ≡ false) →
    get_or (select f (count_from a n)) 0 0 ≡ x
unfolding select count_from
select-count_from-first f a zero x l h t lower = absurd (omega arith)
select-count_from-first f a (suc n) x l h t lower =
    by-eq a x (λ e. rw (e, t))
    (λ d. rw (lower a (omega arith)) (select-count_from-first f (suc a) n x (omega arith) (omega arith) t lower))

pub select-first : (f : ℕ → Bool) (n x : ℕ) → x < n → f x ≡ true → ((y : ℕ) → y < x → f y ≡ false) →
    get_or (select f (range n)) 0 0 ≡ x
select-first f n x h t lower = select-count_from-first f 0 n x zero-le (omega arith) t lower

-- as many entries pass as indices at which one stands that does
pub length-select-get_or : (f : ℕ → Bool) (xs : List ℕ) →
    length (select (λ k. f (get_or xs k 0)) (range (length xs))) ≡ length (select f xs)
unfolding select count_from
length-select-get_or f xs = go xs (λ k. f (get_or xs k 0)) 0 (λ k. rw zero-add)
  where
    go : (ys : List ℕ) (g : ℕ → Bool) (a : ℕ) → ((k : ℕ) → g (a + k) ≡ f (get_or ys k 0)) →
        length (select g (count_from a (length ys))) ≡ length (select f ys)
    go [] g a h = refl
    go (y ∷ ys) g a h =
        let first : g a ≡ f y = ap g (sym (add-zero a)) ∙ h 0 in
        let rest = go ys g (suc a) (λ k. ap g (suc-add a k ∙ sym (add-suc a k)) ∙ h (suc k)) in
        by-test (f y) (λ e. rw (first, e) (ap suc rest)) (λ e. rw (first, e) rest)

-- ---- flat_map, of pieces of one length

module _ (f : ℕ → List ℕ) (size : ℕ) (sized : (x : ℕ) → length (f x) ≡ size) where
  pub length-flat_map : (xs : List ℕ) → length (flat_map f xs) ≡ size * length xs
  unfolding flat_map
  length-flat_map [] = sym (mul-zero size)
  length-flat_map (x ∷ xs) = rw (length-append, sized, length-flat_map xs, mul-suc) (omega arith)

  -- entry i of piece k
  pub get_or-flat_map-count_from : (a n k i : ℕ) → k < n → i < size →
      get_or (flat_map f (count_from a n)) (size * k + i) 0 ≡ get_or (f (a + k)) i 0
  unfolding flat_map count_from
  get_or-flat_map-count_from a zero k i h l = absurd (not-suc-le-zero h)
  get_or-flat_map-count_from a (suc n) zero i h l =
      rw (mul-zero, zero-add, add-zero)
      (get_or-append (f a) (flat_map f (count_from (suc a) n)) 0 i (omega (arith, sized a)))
  get_or-flat_map-count_from a (suc n) (suc k) i h l =
      let rest = get_or-flat_map-count_from (suc a) n k i (le_of_suc-le-suc h) l in
      let behind : size * suc k + i ≡ length (f a) + (size * k + i) = omega (arith, sized a, mul-suc size k) in
      rw behind (get_or-append-add (f a) (flat_map f (count_from (suc a) n)) (size * k + i) 0
      ∙ rest ∙ rw (suc-add, add-suc))

-- a table that goes by quotient and remainder is its rows, one behind the other
pub tabulate-flat_map : (size n : ℕ) (f : ℕ → ℕ → ℕ) → 0 < size →
    tabulate (size * n) (λ k. f (k % size) (k / size)) ≡ flat_map (λ y. tabulate size (λ x. f x y)) (range n)
tabulate-flat_map size n f pos =
    let rows : ℕ → List ℕ = λ y. tabulate size (λ x. f x y) in
    let sized : (y : ℕ) → length (rows y) ≡ size = λ y. length-tabulate size (λ x. f x y) in
    tabulate-is (size * n) _ (flat_map rows (range n))
    (length-flat_map rows size sized (range n) ∙ rw length-count_from)
    (λ k l.
    let x = k % size in
    let y = k / size in
    let left : x < size = mod-lt k pos in
    let above : y < n = (div-lt_iff_lt-mul pos).1 (rw mul_comm l) in
    sym
    (ap (λ (j : ℕ). get_or (flat_map rows (range n)) j 0) (sym (div-add-mod k size))
    ∙ get_or-flat_map-count_from rows size sized 0 n y x above left
    ∙ rw zero-add (get_or-tabulate size (λ i. f i y) x left)))

-- tests that agree on the members select the same
pub select-same : (f g : ℕ → Bool) (xs : List ℕ) → ((x : ℕ) → any (eqb x) xs ≡ true → f x ≡ g x) →
    select f xs ≡ select g xs
unfolding select any
select-same f g [] h = refl
select-same f g (x ∷ xs) h =
    ap₂ (λ (t : Bool) (l : List ℕ). cond t (x ∷ l) l) (h x (or_left (eqb x x) (any (eqb x) xs) (eq-eqb x x refl)))
    (select-same f g xs (λ y m. h y (or_right (eqb y x) (any (eqb y) xs) m)))

-- of two tests that differ at one number only, the one that passes there selects one number more
pub length-select-more : (f g : ℕ → Bool) (n k : ℕ) → k < n → ((i : ℕ) → i < n → (i ≡ k → ⊥) → f i ≡ g i) → f k ≡ true →
    g k ≡ false →
    length (select f (range n)) ≡ suc (length (select g (range n)))
length-select-more f g zero k l agree passes fails = absurd (not-suc-le-zero l)
length-select-more f g (suc n) k l agree passes fails =
    let f-suc = length-select-range-suc f n in
    let g-suc = length-select-range-suc g n in
    by-eq k n
    (λ here.
    let below = ap length (select-same f g (range n)
    (λ i m. let lt = member-range-lt i n m in agree i (omega arith) (λ e. omega arith))) in
    omega (arith, ap bit (rw here at passes), ap bit (rw here at fails)))
    (λ elsewhere.
    let below = length-select-more f g n k (omega arith) (λ i lt d. agree i (omega arith) d) passes fails in
    omega (arith, ap bit (agree n (omega arith) (λ e. elsewhere (sym e)))))

-- ---- flat_map

module _ {ℓ κ} {A : Type ℓ} {B : Type κ} (f : A → List B) where
  pub flat_map-append : (xs ys : List A) → flat_map f (xs ++ ys) ≡ flat_map f xs ++ flat_map f ys
  unfolding flat_map
  flat_map-append [] ys = refl
  flat_map-append (x ∷ xs) ys = rw (flat_map-append xs ys) (sym (append_assoc (f x) (flat_map f xs) (flat_map f ys)))

  -- one more at the end
  pub flat_map-snoc : (xs : List A) (x : A) → flat_map f (xs ++ x ∷ []) ≡ flat_map f xs ++ f x
  unfolding flat_map
  flat_map-snoc xs x = flat_map-append xs (x ∷ []) ∙ rw append-nil

  -- one more of a list's first entries
  pub flat_map-take-suc : (k : ℕ) (xs : List A) (d : A) → k < length xs →
      flat_map f (take (suc k) xs) ≡ flat_map f (take k xs) ++ f (get_or xs k d)
  flat_map-take-suc k xs d l = ap (flat_map f) (take-suc xs k d l) ∙ flat_map-snoc (take k xs) (get_or xs k d)

  -- the pieces of the first entries are together no longer than all
  pub length-flat_map-take-le : (k : ℕ) (xs : List A) → length (flat_map f (take k xs)) ≤ length (flat_map f xs)
  length-flat_map-take-le k xs =
      let split = sym (flat_map-append (take k xs) (drop k xs)) ∙ ap (flat_map f) (take-append-drop k xs) in
      omega (arith, simp length-append at (ap length split))

-- pieces of at most one length
pub length-flat_map-le {ℓ κ} : {A : Type ℓ} {B : Type κ} (f : A → List B) (most : ℕ) → ((x : A) → length (f x) ≤ most) →
    (xs : List A) → length (flat_map f xs) ≤ most * length xs
unfolding flat_map
length-flat_map-le f most h [] = zero-le
length-flat_map-le f most h (x ∷ xs) =
    let rest = length-flat_map-le f most h xs in
    rw (length-append, mul-suc) (omega (arith, h x))

-- ---- slice

-- one more at the end
pub slice_snoc : (from to : ℕ) (l : List ℕ) → from ≤ to → to < length l →
    slice from (suc to) l ≡ slice from to l ++ get_or l to 0 ∷ []
slice_snoc from to l h k =
    ap (drop from) (take-suc l to 0 k)
    ∙ drop-append-le from (take to l) (get_or l to 0 ∷ []) (omega (arith, length-take-le to l (omega arith)))

-- an entry of a stretch
pub get_or-slice : (from to k : ℕ) (l : List ℕ) → from ≤ k → k < to →
    get_or (slice from to l) (k - from) 0 ≡ get_or l k 0
get_or-slice from to k l a b =
    let e : from + (k - from) ≡ k = omega arith in
    get_or-drop from (take to l) (k - from) 0 ∙ ap (λ (n : ℕ). get_or (take to l) n 0) e ∙ get_or-take to l k 0 b

-- so many from a place on
pub slice-take : (from n : ℕ) (l : List ℕ) → slice from (from + n) l ≡ take n (drop from l)
slice-take zero n l = rw zero-add
slice-take (suc from) n [] = rw suc-add (sym (take-nil n))
slice-take (suc from) n (x ∷ xs) = rw suc-add (slice-take from n xs)

-- ---- set

-- in the second of two lists
pub set-append-add : (xs ys : List ℕ) (n a : ℕ) → set (xs ++ ys) (length xs + n) a ≡ xs ++ set ys n a
set-append-add [] ys n a = rw zero-add
set-append-add (x ∷ xs) ys n a = rw suc-add (ap (λ (l : List ℕ). x ∷ l) (set-append-add xs ys n a))

-- ---- occurrences

pub occurrences-nil : (x : ℕ) → occurrences x [] ≡ 0
unfolding occurrences select
occurrences-nil x = refl

pub occurrences-cons : (x y : ℕ) (ys : List ℕ) → occurrences x (y ∷ ys) ≡ bit (eqb x y) + occurrences x ys
unfolding occurrences select
occurrences-cons x y ys = by-test (eqb x y) (λ e. rw e (omega arith)) (λ e. rw e (omega arith))

-- in a list of one
pub occurrences-one : (x y : ℕ) → occurrences x (y ∷ []) ≡ bit (eqb x y)
occurrences-one x y = occurrences-cons x y [] ∙ omega (arith, occurrences-nil x)

pub occurrences-append : (x : ℕ) (xs ys : List ℕ) → occurrences x (xs ++ ys) ≡ occurrences x xs + occurrences x ys
unfolding occurrences
occurrences-append x xs ys =
    ap length (select-append (eqb x) xs ys) ∙ length-append (select (eqb x) xs) (select (eqb x) ys)

-- one more at the end
pub occurrences-snoc : (x : ℕ) (xs : List ℕ) (y : ℕ) → occurrences x (xs ++ y ∷ []) ≡ occurrences x xs + bit (eqb x y)
occurrences-snoc x xs y = occurrences-append x xs (y ∷ []) ∙ omega (arith, occurrences-cons x y [], occurrences-nil x)

-- a longer front has no fewer
pub occurrences-take-le : (x n m : ℕ) (xs : List ℕ) → n ≤ m → occurrences x (take n xs) ≤ occurrences x (take m xs)
occurrences-take-le x n m xs l =
    let whole : n + (m - n) ≡ m = omega arith in
    rw (← whole, take-add n (m - n) xs, occurrences-append) (omega arith)

-- a member occurs
pub member-occurs : (x : ℕ) (xs : List ℕ) → any (eqb x) xs ≡ true → 1 ≤ occurrences x xs
unfolding any
member-occurs x [] e = absurd (false≢true e)
member-occurs x (y ∷ ys) e =
    ⊎_elim (λ p. omega (arith, occurrences-cons x y ys, ap bit p))
    (λ p. omega (arith, occurrences-cons x y ys, member-occurs x ys p))
    (or-true-cases (eqb x y) (any (eqb x) ys) e)

pub occurs-member : (x : ℕ) (xs : List ℕ) → 1 ≤ occurrences x xs → any (eqb x) xs ≡ true
unfolding any
occurs-member x [] h = absurd (omega (arith, occurrences-nil x))
occurs-member x (y ∷ ys) h =
    by-test (eqb x y) (λ e. or_left (eqb x y) (any (eqb x) ys) e)
    (λ e. or_right (eqb x y) (any (eqb x) ys) (occurs-member x ys (omega (arith, occurrences-cons x y ys, ap bit e))))

-- what is no member does not occur
pub occurrences-zero-iff : (x : ℕ) (xs : List ℕ) → (occurrences x xs ≡ 0) ↔ (any (eqb x) xs ≡ false)
unfolding occurrences
occurrences-zero-iff x xs = length-select-zero-iff (eqb x) xs

-- a selection of numbers counted up has those that pass, each once, and no other
occurrences-select-below : (f : ℕ → Bool) (a n x : ℕ) → x < a → occurrences x (select f (count_from a n)) ≡ 0
unfolding select count_from
occurrences-select-below f a zero x h = occurrences-nil x
occurrences-select-below f a (suc n) x h =
    let rest = occurrences-select-below f (suc a) n x (omega arith) in
    by-test (f a)
    (λ e. rw e (occurrences-cons x a (select f (count_from (suc a) n))
    ∙ omega (arith, rest, ap bit (ne_eqb x a (λ q. omega arith)))))
    (λ e. rw e rest)

occurrences-select-above : (f : ℕ → Bool) (a n x : ℕ) → a + n ≤ x → occurrences x (select f (count_from a n)) ≡ 0
unfolding select count_from
occurrences-select-above f a zero x h = occurrences-nil x
occurrences-select-above f a (suc n) x h =
    let rest = occurrences-select-above f (suc a) n x (omega arith) in
    by-test (f a)
    (λ e. rw e (occurrences-cons x a (select f (count_from (suc a) n))
    ∙ omega (arith, rest, ap bit (ne_eqb x a (λ q. omega arith)))))
    (λ e. rw e rest)

pub occurrences-select-count_from : (f : ℕ → Bool) (a n x : ℕ) → a ≤ x → x < a + n →
    occurrences x (select f (count_from a n)) ≡ bit (f x)
unfolding select count_from
occurrences-select-count_from f a zero x l h = absurd (omega arith)
occurrences-select-count_from f a (suc n) x l h =
    by-eq x a
    (λ q.
    let below = occurrences-select-below f (suc a) n x (omega arith) in
    by-test (f a)
    (λ e. rw (e, q, e) (occurrences-cons a a (select f (count_from (suc a) n))
    ∙ omega (arith, rw q at below, ap bit (eq-eqb a a refl))))
    (λ e. rw (e, q, e) (rw q at below)))
    (λ d.
    let rest = occurrences-select-count_from f (suc a) n x (omega arith) (omega arith) in
    by-test (f a)
    (λ e. rw e (occurrences-cons x a (select f (count_from (suc a) n)) ∙ omega (arith, rest, ap bit (ne_eqb x a d))))
    (λ e. rw e rest))

pub occurrences-select : (f : ℕ → Bool) (n x : ℕ) → x < n → occurrences x (select f (range n)) ≡ bit (f x)
occurrences-select f n x h = occurrences-select-count_from f 0 n x zero-le (omega arith)

pub occurrences-select-out : (f : ℕ → Bool) (n x : ℕ) → n ≤ x → occurrences x (select f (range n)) ≡ 0
occurrences-select-out f n x h = occurrences-select-above f 0 n x (omega arith)

-- what is left of a list without one occurrence of a member
member-rest : (x : ℕ) (ys : List ℕ) → any (eqb x) ys ≡ true →
    (rest : List ℕ) × ((i : ℕ) → occurrences i ys ≡ bit (eqb i x) + occurrences i rest)
    × (length ys ≡ suc (length rest))
unfolding any
member-rest x [] m = absurd (false≢true m)
member-rest x (y ∷ ys) m =
    ⊎_elim (λ p. (ys, λ i. rw (eqb-true x y p) (occurrences-cons i y ys), refl))
    (λ p. let r = member-rest x ys p in
    (y ∷ r.0, λ i. omega (arith, occurrences-cons i y ys, r.1 i, occurrences-cons i y r.0), ap suc r.2))
    (or-true-cases (eqb x y) (any (eqb x) ys) m)

-- lists in which every number occurs equally often are equally long
pub length-same-occurrences : (xs ys : List ℕ) → ((i : ℕ) → occurrences i xs ≡ occurrences i ys) → length xs ≡ length ys
length-same-occurrences [] [] h = refl
length-same-occurrences [] (y ∷ ys) h =
    absurd (omega (arith, h y, occurrences-nil y, occurrences-cons y y ys, ap bit (eq-eqb y y refl)))
length-same-occurrences (x ∷ xs) ys h =
    let once = ap bit (eq-eqb x x refl) in
    let r = member-rest x ys (occurs-member x ys (omega (arith, h x, occurrences-cons x x xs, once))) in
    let shorter = length-same-occurrences xs r.0 (λ i. omega (arith, h i, occurrences-cons i x xs, r.1 i)) in
    omega (arith, shorter, r.2)

-- how often the numbers below n stand in a list, all together
occurs_below : ℕ → List ℕ → ℕ
occurs_below zero xs = 0
occurs_below (suc n) xs = occurs_below n xs + occurrences n xs

occurs_below-nil : (n : ℕ) → occurs_below n [] ≡ 0
unfolding occurs_below
occurs_below-nil zero = refl
occurs_below-nil (suc n) = omega (arith, occurs_below-nil n, occurrences-nil n)

occurs_below-cons : (n x : ℕ) (xs : List ℕ) → occurs_below n (x ∷ xs) ≡ bit (ltb x n) + occurs_below n xs
unfolding occurs_below
occurs_below-cons zero x xs = omega (arith, ap bit (le-ltb x 0 zero-le))
occurs_below-cons (suc n) x xs =
    let rest = occurs_below-cons n x xs in
    let last = occurrences-cons n x xs in
    by-eq n x
    (λ e. omega (
      arith,
      rest,
      last,
      ap bit (eq-eqb n x e),
      ap bit (le-ltb x n (omega arith)),
      ap bit (lt-ltb x (suc n) (omega arith)),
    ))
    (λ d.
    by-lt x n
    (λ l. omega (
      arith,
      rest,
      last,
      ap bit (ne_eqb n x d),
      ap bit (lt-ltb x n l),
      ap bit (lt-ltb x (suc n) (omega arith)),
    ))
    (λ l. omega (
      arith,
      rest,
      last,
      ap bit (ne_eqb n x d),
      ap bit (le-ltb x n l),
      ap bit (le-ltb x (suc n) (omega arith)),
    )))

occurs_below-all : (n : ℕ) (xs : List ℕ) → ((k : ℕ) → n ≤ k → occurrences k xs ≡ 0) → occurs_below n xs ≡ length xs
occurs_below-all n [] h = occurs_below-nil n
occurs_below-all n (x ∷ xs) h =
    let rest = occurs_below-all n xs (λ k l. omega (arith, h k l, occurrences-cons k x xs)) in
    by-lt x n (λ l. omega (arith, rest, occurs_below-cons n x xs, ap bit (lt-ltb x n l)))
    (λ l. absurd (omega (arith, h x l, occurrences-cons x x xs, ap bit (eq-eqb x x refl))))

occurs_below-same : (n : ℕ) (xs ys : List ℕ) → ((k : ℕ) → k < n → occurrences k xs ≡ occurrences k ys) →
    occurs_below n xs ≡ occurs_below n ys
unfolding occurs_below
occurs_below-same zero xs ys h = refl
occurs_below-same (suc n) xs ys h =
    omega (arith, occurs_below-same n xs ys (λ k l. h k (omega arith)), h n (omega arith))

-- a list that has each number below n that passes once, and no other, is as long as their selection
pub length-once : (f : ℕ → Bool) (n : ℕ) (xs : List ℕ) → ((k : ℕ) → k < n → occurrences k xs ≡ bit (f k)) →
    ((k : ℕ) → n ≤ k → occurrences k xs ≡ 0) → length xs ≡ length (select f (range n))
length-once f n xs once other =
    sym (occurs_below-all n xs other)
    ∙ occurs_below-same n xs (select f (range n)) (λ k l. once k l ∙ sym (occurrences-select f n k l))
    ∙ occurs_below-all n (select f (range n)) (occurrences-select-out f n)

-- of a selection: a number that passes is there as often as in the whole
pub occurrences-select-true : (f : ℕ → Bool) (x : ℕ) → f x ≡ true → (xs : List ℕ) →
    occurrences x (select f xs) ≡ occurrences x xs
unfolding select
occurrences-select-true f x t [] = refl
occurrences-select-true f x t (y ∷ ys) =
    let rest = occurrences-select-true f x t ys in
    by-test (f y) (λ e. rw e (omega (arith, rest, occurrences-cons x y ys, occurrences-cons x y (select f ys))))
    (λ e. rw e (omega (arith, rest, occurrences-cons x y ys, ap bit (ne_eqb x y (λ q. not-both t (ap f q ∙ e))))))

-- and one that does not is not there
pub occurrences-select-false : (f : ℕ → Bool) (x : ℕ) → f x ≡ false → (xs : List ℕ) → occurrences x (select f xs) ≡ 0
unfolding select
occurrences-select-false f x t [] = occurrences-nil x
occurrences-select-false f x t (y ∷ ys) =
    let rest = occurrences-select-false f x t ys in
    by-test (f y)
    (λ e. rw e (omega (
      arith,
      rest,
      occurrences-cons x y (select f ys),
      ap bit (ne_eqb x y (λ q. not-both e (sym (ap f q) ∙ t))),
    )))
    (λ e. rw e rest)

-- ---- same

pub same_true : (xs ys : List ℕ) → same xs ys ≡ true → xs ≡ ys
unfolding same
same_true [] [] e = refl
same_true [] (y ∷ ys) e = absurd (false≢true e)
same_true (x ∷ xs) [] e = absurd (false≢true e)
same_true (x ∷ xs) (y ∷ ys) e =
    ap₂ (λ (n : ℕ) (l : List ℕ). n ∷ l) (eqb-true x y (and_left (eqb x y) (same xs ys) e))
    (same_true xs ys (and_right (eqb x y) (same xs ys) e))

pub same_refl : (xs : List ℕ) → same xs xs ≡ true
unfolding same
same_refl [] = refl
same_refl (x ∷ xs) = and_both (eqb x x) (same xs xs) (eq-eqb x x refl) (same_refl xs)

pub same_false : (xs ys : List ℕ) → same xs ys ≡ false → xs ≡ ys → ⊥
same_false xs ys e q = false≢true (sym e ∙ rw q (same_refl ys))

pub same_not : (xs ys : List ℕ) → (xs ≡ ys → ⊥) → same xs ys ≡ false
same_not xs ys n = by-test (same xs ys) (λ e. absurd (n (same_true xs ys e))) (λ e. e)

-- ---- Each

-- a property that another implies
pub each_map {ℓ} : {A : Type ℓ} {P Q : A → Type 0} → ((x : A) → P x → Q x) → (xs : List A) → Each P xs → Each Q xs
each_map f [] h = tt
each_map f (x ∷ xs) h = (f x h.0, each_map f xs h.1)

pub each_append {ℓ} : {A : Type ℓ} (P : A → Type 0) (xs ys : List A) → Each P xs → Each P ys → Each P (xs ++ ys)
each_append P [] ys h k = k
each_append P (x ∷ xs) ys h k = (h.0, each_append P xs ys h.1 k)

-- of selected numbers: each has a property that every number counted has
pub each-select-count_from : (P : ℕ → Type 0) (f : ℕ → Bool) (a n : ℕ) → ((k : ℕ) → a ≤ k → k < a + n → P k) →
    Each P (select f (count_from a n))
unfolding select count_from
each-select-count_from P f a zero h = tt
each-select-count_from P f a (suc n) h =
    let rest = each-select-count_from P f (suc a) n (λ k l lt. h k (omega arith) (omega arith)) in
    by-test (f a) (λ e. rw e (h a (omega arith) (omega arith), rest)) (λ e. rw e rest)

-- one entry has it
pub each-get_or {ℓ} : {A : Type ℓ} (P : A → Type 0) (xs : List A) → Each P xs → (k : ℕ) (d : A) → k < length xs →
    P (get_or xs k d)
each-get_or P [] h k d l = absurd (not-suc-le-zero l)
each-get_or P (x ∷ xs) h zero d l = h.0
each-get_or P (x ∷ xs) h (suc k) d l = each-get_or P xs h.1 k d (le_of_suc-le-suc l)

-- ---- get_or

-- within a list an entry does not depend on the default
pub get_or-default {ℓ} : {A : Type ℓ} (xs : List A) (k : ℕ) (d e : A) → k < length xs → get_or xs k d ≡ get_or xs k e
get_or-default [] k d e h = absurd (not-suc-le-zero h)
get_or-default (x ∷ xs) zero d e h = refl
get_or-default (x ∷ xs) (suc k) d e h = get_or-default xs k d e (le_of_suc-le-suc h)

-- ---- take

-- as many entries as a front has are that front
pub take-length-take {ℓ} : {A : Type ℓ} (n : ℕ) (xs : List A) → take (length (take n xs)) xs ≡ take n xs
take-length-take zero xs = refl
take-length-take (suc n) [] = refl
take-length-take (suc n) (x ∷ xs) = ap (λ (l : List _). x ∷ l) (take-length-take n xs)

-- the front of equal entries
pub take-replicate {ℓ} : {A : Type ℓ} (n m : ℕ) (a : A) → n ≤ m → take n (replicate m a) ≡ replicate n a
take-replicate zero m a h = refl
take-replicate (suc n) zero a h = absurd (not-suc-le-zero h)
take-replicate (suc n) (suc m) a h = ap (λ (l : List _). a ∷ l) (take-replicate n m a (le_of_suc-le-suc h))
