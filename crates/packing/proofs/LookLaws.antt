-- Laws of looks along an image (`src/inner/band.rt`): parts of one size, taken from its front or its end as long as a
-- test passes. Assumes nothing.
--   Zeros, ZerosCome          each entry is 0; each item that comes is so many zeros
--   ZerosCome-take_while      zeros come where only zeros pass
--   front-zeros, end-zeros    what is taken from the front, or from the end, has only zeros
--   rchunks_exact-size        looks from the end have one size
--   behind-zeros              zeros that end what stands behind a position end the image
use Prim.Native.Nat.{ℕ, ◌+◌, ◌-◌, ◌*◌, ◌≤◌, ◌<◌}
use mathlib.Core.Path.{◌≡◌, sym, subst, ap, ◌∙◌}
use mathlib.Core.Bool.{Bool, true, false}
use mathlib.Core.List.{List, [], ◌∷◌, ◌++◌}
use native.Mathlib.Omega.{arith}
use native.Mathlib.Nat.{mul-suc}
use lib.ListN.{length, get_or, length-append, get_or-append, get_or-eq_default}
use lib.Seq.{get_or-append_right}
use denote.Ref.{Bor}
use denote.Param.Members.{Mut}
use Rattle.std.specs.declared.iter.TakeWhile.{TakeWhile}
use Rattle.std.specs.declared.option.Option.{Option}
use Rattle.std.specs.declared.option.Option.TheVariants.{None, Some}
use Rattle.std.specs.Bool.{MatchBool}
use Rattle.std.specs.Option.{MatchOption}
use Rattle.std.specs.List.{between}
use Rattle.std.proofs.lemmas.List.Edits.{length-between, get_or-between}
use Rattle.std.specs.Fn.{CalledAt}
use Rattle.std.specs.Iterator.{Yields, Drains}
use Rattle.std.specs.Iterator.Adapters.{take_while_source, take_while_done, take_while_callee, take_while_steps}
use Rattle.std.specs.Slice.Exact.{rchunks_exact_size, rchunks_exact_steps}
use Rattle.lists.proofs.BoolLaws.{by-lt, by-test}

-- each entry is 0
abbrev pub Zeros : List ℕ → Type 0
Zeros xs = (i : ℕ) → i < length xs → get_or xs i 0 ≡ 0

-- ---- what is taken

-- Each item that comes is so many zeros. `join` puts them back to what is left
pub record ZerosCome {S : Type 0} (steps : S → Option (Bor (List ℕ)) → S → Type 0) (size : S → ℕ) (rest : S → List ℕ)
    (join : List ℕ → List ℕ → List ℕ) : Type 0 where
  pub cut : (s t : S) (x : Bor (List ℕ)) → steps s (Some x) t →
      (size t ≡ size s) × (rest s ≡ join x.now (rest t)) × (length x.now ≡ size s) × Zeros x.now

module _ {S A F : Type 0} (steps : S → Option A → S → Type 0) (g : Mut F (Bor A × Unit {0}) Bool) where
  -- where an item comes, the source gave it, and it passed
  came : (s t : TakeWhile S F) (x : A) (o : Option A) → steps (take_while_source s) o (take_while_source t) →
      MatchOption o ((Some x ≡ None) × (take_while_done t ≡ false))
      (λ y. (b : Bool) × CalledAt g (take_while_callee s) y b (take_while_callee t)
      × MatchBool b ((Some x ≡ Some y) × (take_while_done t ≡ false)) ((Some x ≡ None) × (take_while_done t ≡ true))) →
      steps (take_while_source s) (Some x) (take_while_source t)
      × CalledAt g (take_while_callee s) x true (take_while_callee t)
  came s t x None p (none, d) = absurd (cc)
  came s t x (Some y) p (false, call, w) = absurd (cc (w.0))
  came s t x (Some y) p (true, call, w) =
      let e : y ≡ x = cc (w.0) in (
        subst (λ z. steps (take_while_source s) (Some z) (take_while_source t)) e p,
        subst (λ z. CalledAt g (take_while_callee s) z true (take_while_callee t)) e call,
      )

  passed : (s t : TakeWhile S F) (x : A) → take_while_steps steps g s (Some x) t →
      steps (take_while_source s) (Some x) (take_while_source t)
      × CalledAt g (take_while_callee s) x true (take_while_callee t)
  passed s t x p =
      by-test (take_while_done s) (λ e. let none = (rw e at p).0 in absurd (cc))
      (λ e. let (o, step, call) = rw e at p in came s t x o step call)

-- zeros come where only zeros pass
pub ZerosCome-take_while : {S F : Type 0} (steps : S → Option (Bor (List ℕ)) → S → Type 0) {size : S → ℕ}
    {rest : S → List ℕ} {join : List ℕ → List ℕ → List ℕ} (g : Mut F (Bor (Bor (List ℕ)) × Unit {0}) Bool) →
    ((s t : S) (x : Bor (List ℕ)) → steps s (Some x) t →
    (size t ≡ size s) × (rest s ≡ join x.now (rest t)) × (length x.now ≡ size s)) →
    ((x : Bor (List ℕ)) (f f' : F) → CalledAt g f x true f' → Zeros x.now) →
    ZerosCome (take_while_steps steps g) (λ s. size (take_while_source s)) (λ s. rest (take_while_source s)) join
ZerosCome-take_while steps g cut zeros =
    record {
      cut = λ s t x p.
          let (step, call) = passed steps g s t x p in
          let (keeps, parts, long) = cut (take_while_source s) (take_while_source t) x step in
          (keeps, parts, long, zeros x _ _ call);
    }

-- ---- zeros

module _ {S : Type 0} {steps : S → Option (Bor (List ℕ)) → S → Type 0} (size : S → ℕ) (rest : S → List ℕ) where
  front-taken : ZerosCome steps size rest (λ xs ys. xs ++ ys) → (xs : List (Bor (List ℕ))) (s t : S) →
      Yields steps s xs t → (i : ℕ) → i < size s * length xs → get_or (rest s) i 0 ≡ 0
  front-taken come [] s t y i l = absurd (omega arith)
  front-taken come (x ∷ xs) s t (u, p, y) i l =
      let (keeps, parts, long, zeros) = come.cut s u x p in
      let bound : i < size s + size s * length xs = omega (arith, mul-suc (size s) (length xs)) in
      rw parts
      (by-lt i (length x.now) (λ inside. get_or-append x.now (rest u) 0 i inside ∙ zeros i inside)
      (λ past.
      get_or-append_right x.now (rest u) i 0 past
      ∙ front-taken come xs u t y (i - length x.now) (rw keeps (omega arith))))

  -- what is taken from the front has only zeros
  pub front-zeros : (xs : List (Bor (List ℕ))) (s : S) → Drains steps s xs →
      ZerosCome steps size rest (λ xs ys. xs ++ ys) → (i : ℕ) → i < size s * length xs → get_or (rest s) i 0 ≡ 0
  front-zeros xs s (u, (t, y, none)) come i l = front-taken come xs s t y i l

  end-taken : ZerosCome steps size rest (λ xs ys. ys ++ xs) → (xs : List (Bor (List ℕ))) (s t : S) →
      Yields steps s xs t → (i : ℕ) → length (rest s) ≤ i + size s * length xs → get_or (rest s) i 0 ≡ 0
  end-taken come [] s t y i l = get_or-eq_default (rest s) 0 (omega arith)
  end-taken come (x ∷ xs) s t (u, p, y) i l =
      let (keeps, parts, long, zeros) = come.cut s u x p in
      let counts : length (rest s) ≡ length (rest u) + length x.now =
      ap length parts ∙ length-append (rest u) x.now in
      let bound : length (rest s) ≤ i + (size s + size s * length xs) = omega (arith, mul-suc (size s) (length xs)) in
      rw parts
      (by-lt i (length (rest u))
      (λ inside. get_or-append (rest u) x.now 0 i inside ∙ end-taken come xs u t y i (rw keeps (omega arith)))
      (λ past.
      get_or-append_right (rest u) x.now i 0 past
      ∙ by-lt (i - length (rest u)) (length x.now) (zeros _) (λ behind. get_or-eq_default x.now 0 behind)))

  -- and what is taken from the end
  pub end-zeros : (xs : List (Bor (List ℕ))) (s : S) → Drains steps s xs →
      ZerosCome steps size rest (λ xs ys. ys ++ xs) → (i : ℕ) → length (rest s) ≤ i + size s * length xs →
      get_or (rest s) i 0 ≡ 0
  end-zeros xs s (u, (t, y, none)) come i l = end-taken come xs s t y i l

-- ---- looks from the end

-- they have one size
pub rchunks_exact-size : {A : Type 0} (xs : List (Bor (List A))) (s t : _) →
    Yields (rchunks_exact_steps {A = A}) s xs t → rchunks_exact_size t ≡ rchunks_exact_size s
rchunks_exact-size [] s t y = ap rchunks_exact_size (sym y)
rchunks_exact-size (x ∷ xs) s t (u, p, y) = rchunks_exact-size xs u t y ∙ p.0

-- zeros that end what stands behind a position end the image
pub behind-zeros : (image before rest : List ℕ) (from n : ℕ) → between from (length image) image ≡ before ++ rest →
    from ≤ length image → n ≤ length rest → ((i : ℕ) → length rest ≤ i + n → get_or rest i 0 ≡ 0) → (i : ℕ) →
    length image - n ≤ i → get_or image i 0 ≡ 0
behind-zeros image before rest from n parts ordered within zeros i l =
    let counts : length image - from ≡ length before + length rest =
    sym (length-between image from (length image) (omega arith)) ∙ ap length parts ∙ length-append before rest in
    by-lt i (length image)
    (λ inside.
    let k = i - from in
    let here : from + k ≡ i = omega arith in
    rw (← here)
    (sym (get_or-between image from (length image) k 0 (omega arith))
    ∙ rw parts (get_or-append_right before rest k 0 (omega arith) ∙ zeros (k - length before) (omega arith))))
    (λ past. get_or-eq_default image 0 past)
