-- Laws of `specs/Spread.antt`. Assumes nothing.
--   is_open-other .. old-is_open      what makes a pixel open, or not
--   is_open-changed                   open after a visit is what was open and is not visited
--   open_count-set                    where an open pixel gets the new value, one less is open
--   changed-none, -skip, -one         nothing is visited, one pixel that is not open, one that is
--   changed-append                    first some positions are visited, then more
--   changed-lt, fits-changed          a changed position is inside; the rule still fits
--   visited-none .. visited-append    the same with the queue, also where it is full
--   room-visited .. room-left         the queue's new end is inside, and there is room for all that is still open
--   stretch-room, stretch-positions   what a layer starts from has room behind, and are positions of the image
--   around-none, around-next          no entry of a stretch is visited around yet, and one more
--   layered-rest, grown-rest          layers behind an empty one are empty
--   reached-start, reached-next       layers, none of them empty: none yet, and one more
--   grown-last                        one that is empty, and all that could follow
use Prim.Native.Nat.{ℕ, zero, suc, ◌+◌, ◌-◌, ◌≤◌, ◌<◌, zero-le}
use mathlib.Core.Path.{◌≡◌, refl, sym, ap, ◌∙◌}
use mathlib.Core.Bool.{Bool, true, false, cond, not, ◌&&◌, ◌||◌, and-false, or-true, false≢true}
use mathlib.Core.Logic.{◌⊎◌, inl, inr}
use mathlib.Core.List.{List, [], ◌∷◌, ◌++◌, flat_map, append-nil}
use native.Mathlib.Omega.{arith}
use native.Mathlib.Numerals.{add-one}
use native.Mathlib.Nat.{add-zero, add-suc}
use lib.Dec.{eqb, ltb}
use lib.ListN.{length, get_or, set, length-set, length-append}
use lib.Seq.{slice, slice_empty, get_or-set_same, get_or-set_other, set-get_or}
use borrow.Author.Tests.{eq-eqb, ne_eqb, lt-ltb, le-ltb}
use Rattle.lists.specs.Lists.{any, bit}
use Rattle.lists.proofs.BoolLaws.{by-test, by-eq, by-lt, and_left, cond-true, cond-false, bit_le}
use Rattle.lists.proofs.ListLaws.{any_append, member-get_or, length-select-more, get_or-slice, occurrences-nil}
use Rattle.lists.proofs.ListLaws.{occurrences-one}
use Rattle.lists.proofs.ListLaws.{occurrences-append, member-occurs, flat_map-snoc, slice_snoc}
use Rattle.neighbours.specs.Crop.{neighbours}
use Rattle.neighbours.proofs.ExtendedLaws.{extended_none, extended-one, extended-over, extended-append, slice-extended}
use Rattle.neighbours.proofs.ExtendedLaws.{get_or-extended}
use Rattle.engine.specs.declared.Rule.{Rule}
use Rattle.engine.specs.declared.Growth.{Growth}
use Rattle.engine.specs.Spread.{Fits, is_open, open_count, Room, Changed, Visited, Layered, Stretch, Grown}
use Rattle.engine.specs.Spread.Layered.{layer, start}
use Rattle.engine.specs.Leaves.{Positions}

-- ---- truths

-- a pixel that the first visit or the second changes is changed
cond-twice : (first second may : Bool) (new old : ℕ) →
    cond (second && (may && not first)) new (cond (first && may) new old) ≡ cond ((first || second) && may) new old
cond-twice true true true new old = refl
cond-twice true true false new old = refl
cond-twice true false true new old = refl
cond-twice true false false new old = refl
cond-twice false true true new old = refl
cond-twice false true false new old = refl
cond-twice false false true new old = refl
cond-twice false false false new old = refl

-- and only once
bit-twice : (first second may : Bool) →
    bit (first && may) + bit (second && (may && not first)) ≡ bit ((first || second) && may)
bit-twice true true true = refl
bit-twice true true false = refl
bit-twice true false true = refl
bit-twice true false false = refl
bit-twice false true true = refl
bit-twice false true false = refl
bit-twice false false true = refl
bit-twice false false false = refl

-- what is left open: a pixel that was not among those that changed
not-changed : (visited may : Bool) → visited && may ≡ false → may ≡ may && not visited
not-changed true true e = absurd (false≢true (sym e))
not-changed true false e = refl
not-changed false true e = refl
not-changed false false e = refl

module _ (rule : Rule) (mask : List ℕ) where
  -- ---- open pixels

  -- pixels of one value are open alike
  pub is_open-same : (image image' : List ℕ) (k : ℕ) → get_or image' k 0 ≡ get_or image k 0 →
      is_open rule mask image' k ≡ is_open rule mask image k
  unfolding is_open
  is_open-same image image' k e = rw e

  -- a pixel with another value than the old one is not open
  pub is_open-other : (image : List ℕ) (k : ℕ) → (get_or image k 0 ≡ rule.old → ⊥) → is_open rule mask image k ≡ false
  unfolding is_open
  is_open-other image k d = rw (ne_eqb (get_or image k 0) rule.old d)

  -- nor is one outside the mask
  pub is_open-masked : (image : List ℕ) (k : ℕ) → (length mask ≡ 0 → ⊥) → (get_or mask k 0 ≡ rule.allowed → ⊥) →
      is_open rule mask image k ≡ false
  unfolding is_open
  is_open-masked image k some d = rw (ne_eqb (length mask) 0 some, ne_eqb (get_or mask k 0) rule.allowed d, and-false)

  -- a pixel with the old value is open, where there is no mask or it is inside
  pub old-is_open : (image : List ℕ) (k : ℕ) → get_or image k 0 ≡ rule.old →
      (length mask ≡ 0) ⊎ (get_or mask k 0 ≡ rule.allowed) →
      is_open rule mask image k ≡ true
  unfolding is_open
  old-is_open image k e (inl none) = rw (eq-eqb (get_or image k 0) rule.old e, eq-eqb (length mask) 0 none)
  old-is_open image k e (inr allowed) =
      rw (eq-eqb (get_or image k 0) rule.old e, eq-eqb (get_or mask k 0) rule.allowed allowed, or-true)

  module _ (differs : rule.old ≡ rule.new → ⊥) (image : List ℕ) where
    -- a pixel that has got the new value is not open
    is_open-set-same : (k : ℕ) → k < length image → is_open rule mask (set image k rule.new) k ≡ false
    is_open-set-same k l = is_open-other (set image k rule.new) k
        (λ e. differs (sym e ∙ get_or-set_same image k rule.new 0 l))

    -- one open pixel less
    pub open_count-set : (k : ℕ) → k < length image → is_open rule mask image k ≡ true →
        open_count rule mask image ≡ suc (open_count rule mask (set image k rule.new))
    unfolding open_count
    open_count-set k l opened =
        let image' = set image k rule.new in
        rw (length-set image k rule.new)
        (length-select-more (is_open rule mask image) (is_open rule mask image') (length image) k l
        (λ i li d. sym (is_open-same image image' i (get_or-set_other image k i rule.new 0 d)))
        opened
        (is_open-set-same k l))

  -- ---- Changed

  -- nothing is visited
  pub changed-none : (image : List ℕ) → Changed rule mask image [] image []
  unfolding any
  changed-none image =
      record {
        size = refl;
        pixel = λ k l. refl;
        once = λ k l. occurrences-nil k;
        no_other = λ k l. occurrences-nil k;
        room = omega arith;
      }

  -- one position is visited that is not open
  pub changed-skip : (image : List ℕ) (at : ℕ) → is_open rule mask image at ≡ false →
      Changed rule mask image (at ∷ []) image []
  unfolding any
  changed-skip image at shut =
      let missed : (k : ℕ) → any (eqb k) (at ∷ []) && is_open rule mask image k ≡ false =
      λ k. by-eq k at (λ e. rw (e, shut, and-false)) (λ d. rw (ne_eqb k at d)) in
      record {
        size = refl;
        pixel = λ k l. sym (cond-false rule.new (get_or image k 0) (missed k));
        once = λ k l. occurrences-nil k ∙ sym (ap bit (missed k));
        no_other = λ k l. occurrences-nil k;
        room = omega arith;
      }

  -- one that is
  pub changed-one : (rule.old ≡ rule.new → ⊥) → (image : List ℕ) (at : ℕ) → at < length image →
      is_open rule mask image at ≡ true →
      Changed rule mask image (at ∷ []) (set image at rule.new) (at ∷ [])
  unfolding any
  changed-one differs image at l opened =
      record {
        size = length-set image at rule.new;
        pixel = λ k lk.
            by-eq k at (λ e. rw (e, opened, eq-eqb at at refl) (get_or-set_same image at rule.new 0 l))
            (λ d. rw (ne_eqb k at d) (get_or-set_other image at k rule.new 0 d));
        once = λ k lk.
            by-eq k at (λ e. rw (e, opened, eq-eqb at at refl) (occurrences-one at at ∙ ap bit (eq-eqb at at refl)))
            (λ d. rw (ne_eqb k at d) (occurrences-one k at ∙ ap bit (ne_eqb k at d)));
        no_other = λ k lk. occurrences-one k at ∙ ap bit (ne_eqb k at (λ e. omega arith));
        room = omega (arith, open_count-set differs image at l opened);
      }

  -- a pixel is open after a visit that was open before and is not visited
  pub is_open-changed : (rule.old ≡ rule.new → ⊥) → {image at image' added : List ℕ} →
      Changed rule mask image at image' added →
      (k : ℕ) → k < length image → is_open rule mask image' k ≡ is_open rule mask image k && not (any (eqb k) at)
  is_open-changed differs {image} {at} {image'} c k l =
      by-test (any (eqb k) at && is_open rule mask image k)
      (λ e.
      rw (and_left (any (eqb k) at) (is_open rule mask image k) e, and-false)
      (is_open-other image' k (λ old. differs (sym old ∙ c.pixel k l ∙ cond-true rule.new (get_or image k 0) e))))
      (λ e. is_open-same image image' k (c.pixel k l ∙ cond-false rule.new (get_or image k 0) e)
      ∙ not-changed (any (eqb k) at) (is_open rule mask image k) e)

  -- first some positions are visited, then more
  pub changed-append : (rule.old ≡ rule.new → ⊥) → {image at image' added more image'' added' : List ℕ} →
      Changed rule mask image at image' added → Changed rule mask image' more image'' added' →
      Changed rule mask image (at ++ more) image'' (added ++ added')
  changed-append differs {image} {at} {image'} {added} {more} {image''} {added'} c d =
      record {
        size = d.size ∙ c.size;
        pixel = λ k l.
            d.pixel k (rw c.size l)
            ∙ rw (is_open-changed differs c k l, c.pixel k l, any_append (eqb k) at more)
            (cond-twice (any (eqb k) at) (any (eqb k) more) (is_open rule mask image k) rule.new (get_or image k 0));
        once = λ k l.
            occurrences-append k added added'
            ∙ rw (c.once k l, d.once k (rw c.size l), is_open-changed differs c k l, any_append (eqb k) at more)
            (bit-twice (any (eqb k) at) (any (eqb k) more) (is_open rule mask image k));
        no_other = λ k l.
            occurrences-append k added added' ∙ omega (arith, c.no_other k l, d.no_other k (rw c.size l));
        room = omega (arith, c.room, d.room, length-append added added');
      }

  -- a changed position is inside the image
  pub changed-lt : {image at image' added : List ℕ} → Changed rule mask image at image' added →
      (k : ℕ) → any (eqb k) added ≡ true → k < length image
  changed-lt {image} {added = added} c k m =
      by-lt k (length image) (λ l. l) (λ out. absurd (omega (arith, c.no_other k out, member-occurs k added m)))

  -- the rule fits the changed image too
  pub fits-changed : {image at image' added : List ℕ} → Changed rule mask image at image' added →
      Fits rule mask image → Fits rule mask image'
  fits-changed c f =
      record {
        valid = f.valid;
        connected = f.connected;
        differs = f.differs;
        pixels = c.size ∙ f.pixels;
        masked = f.masked;
      }

  -- ---- Visited

  -- nothing is visited
  pub visited-none : (image queue : List ℕ) (end : ℕ) → Visited rule mask image queue end [] image queue end
  visited-none image queue end =
      record { added = []; changed = changed-none image; extended = extended_none queue end }

  -- one position is visited that is not open
  pub visited-skip : (image queue : List ℕ) (end at : ℕ) → is_open rule mask image at ≡ false →
      Visited rule mask image queue end (at ∷ []) image queue end
  visited-skip image queue end at shut =
      record { added = []; changed = changed-skip image at shut; extended = extended_none queue end }

  -- one is visited where the queue is full: all that were open are in it
  pub visited-full : {image queue : List ℕ} {end at : ℕ} → Room rule mask image queue end → at < length image →
      length queue ≤ end → Visited rule mask image queue end (at ∷ []) image queue end
  visited-full {image} {queue} {end} {at} r inside full =
      visited-skip image queue end at
      (by-test (is_open rule mask image at)
      (λ opened. absurd (omega (arith, open_count-set r.fits.differs image at inside opened, r.room)))
      (λ shut. shut))

  -- one is visited that no mask shuts: it is written, and counts where it holds the old value
  pub visited-one : (rule.old ≡ rule.new → ⊥) →
      (image queue : List ℕ) (end at : ℕ) {pixel : ℕ} {queue' : List ℕ} {count : ℕ} →
      at < length image → end < length queue → (length mask ≡ 0) ⊎ (get_or mask at 0 ≡ rule.allowed) →
      pixel ≡ cond (eqb (get_or image at 0) rule.old) rule.new (get_or image at 0) → queue' ≡ set queue end at →
      count ≡ bit (eqb (get_or image at 0) rule.old) →
      Visited rule mask image queue end (at ∷ []) (set image at pixel) queue' (end + count)
  visited-one differs image queue end at inside room allowed replaced written counted =
      by-eq (get_or image at 0) rule.old
      (λ e.
      rw (replaced, written, counted, eq-eqb (get_or image at 0) rule.old e) (
      record {
        added = at ∷ [];
        changed = changed-one differs image at inside (old-is_open image at e allowed);
        extended = extended-one queue end at room;
      }))
      (λ d.
      rw (replaced, written, counted, ne_eqb (get_or image at 0) rule.old d, set-get_or image at 0) (
      record {
        added = [];
        changed = changed-skip image at (is_open-other image at d);
        extended = extended-over at (extended_none queue end);
      }))

  module _ {image queue at image' queue' : List ℕ} {end end' : ℕ}
      (v : Visited rule mask image queue end at image' queue' end') where
    -- the queue's end and the open pixels that are left: their sum stays
    pub room-visited : end' + open_count rule mask image' ≡ end + open_count rule mask image
    room-visited = omega (arith, v.changed.room, v.extended.counted)

    -- so the queue's new end is inside
    pub end-visited : end + open_count rule mask image ≤ length queue → end' ≤ length queue
    end-visited room = omega (arith, room-visited)

    -- and there is room for the open pixels that are left
    pub room-left : Room rule mask image queue end → Room rule mask image' queue' end'
    room-left r =
        record {
          fits = fits-changed v.changed r.fits;
          room = omega (arith, r.room, room-visited, v.extended.size);
        }

    -- first some positions are visited, then more
    pub visited-append : (rule.old ≡ rule.new → ⊥) → {more image'' queue'' : List ℕ} {end'' : ℕ} →
        Visited rule mask image' queue' end' more image'' queue'' end'' →
        Visited rule mask image queue end (at ++ more) image'' queue'' end''
    visited-append differs w =
        record {
          added = v.added ++ w.added;
          changed = changed-append differs v.changed w.changed;
          extended = extended-append v.extended w.extended;
        }

-- ---- layers

-- the neighbours, by a rule, of the positions in a stretch of the queue
abbrev pub around : Rule → ℕ → ℕ → List ℕ → List ℕ
around rule from to queue = flat_map (neighbours rule.width rule.height rule.connectivity) (slice from to queue)

module _ (rule : Rule) (mask : List ℕ) where
  -- behind what a layer starts from there is room
  pub stretch-room : {image queue : List ℕ} {from to : ℕ} → Stretch rule mask image queue from to →
      Room rule mask image queue to
  stretch-room s = record { fits = s.fits; room = s.room }

  -- it is positions of the image
  pub stretch-positions : {image queue : List ℕ} {from to pixels : ℕ} → Stretch rule mask image queue from to →
      length image ≡ pixels → Positions queue from to pixels
  stretch-positions s e =
      record { ordered = s.ordered; within = omega (arith, s.room); entries = λ k a b. rw (← e) (s.entries k a b) }

  -- after a layer, the stretch that it wrote is what the next one starts from
  pub stretch-visited : {image queue at image' queue' : List ℕ} {from to end : ℕ} →
      Stretch rule mask image queue from to →
      Visited rule mask image queue to at image' queue' end → Stretch rule mask image' queue' to end
  stretch-visited {queue' = queue'} {to = to} {end = end} r v =
      record {
        fits = fits-changed rule mask v.changed r.fits;
        room = omega (arith, r.room, room-visited rule mask v, v.extended.size);
        ordered = omega (arith, v.extended.counted);
        entries = λ k a b.
            let written : get_or v.added (k - to) 0 ≡ get_or queue' k 0 =
            ap (λ (l : List ℕ). get_or l (k - to) 0)
            (sym (slice-extended v.extended (end-visited rule mask v r.room)))
            ∙ get_or-slice to end k queue' a b in
            let inside = changed-lt rule mask v.changed _
            (member-get_or v.added (k - to) (omega (arith, v.extended.counted))) in
            omega (arith, v.changed.size);
      }

  -- no entry of the stretch is visited around yet
  pub around-none : (image queue : List ℕ) (from to : ℕ) →
      Visited rule mask image queue to (around rule from from queue) image queue to
  unfolding flat_map
  around-none image queue from to = rw (slice_empty from queue) (visited-none rule mask image queue to)

  module _ {image queue image' queue' : List ℕ} {from to end : ℕ} (slot : ℕ) (begun : from ≤ slot) (lt : slot < to)
      (s : Stretch rule mask image queue from to)
      (v : Visited rule mask image queue to (around rule from slot queue) image' queue' end) where
    -- the next entry is as it was
    around-kept : get_or queue' slot 0 ≡ get_or queue slot 0
    around-kept = get_or-extended v.extended (end-visited rule mask v s.room) slot lt

    -- it is a position of the image
    pub around-lt : get_or queue' slot 0 < length image'
    around-lt = omega (arith, around-kept, s.entries slot begun lt, v.changed.size)

    -- its neighbours are visited too
    pub around-next : {at : ℕ} {image'' queue'' : List ℕ} {end' : ℕ} → at ≡ get_or queue' slot 0 →
        Visited rule mask image' queue' end (neighbours rule.width rule.height rule.connectivity at)
        image'' queue'' end' →
        Visited rule mask image queue to (around rule from (slot + 1) queue) image'' queue'' end'
    around-next {at} e w =
        let f = neighbours rule.width rule.height rule.connectivity in
        let more : around rule from (slot + 1) queue ≡ around rule from slot queue ++ f at =
        ap (λ (n : ℕ). around rule from n queue) (add-one slot)
        ∙ ap (flat_map f) (slice_snoc from slot queue begun (omega (arith, s.room)))
        ∙ flat_map-snoc f (slice from slot queue) (get_or queue slot 0)
        ∙ rw (e ∙ around-kept) in
        rw more (visited-append rule mask v s.fits.differs w)

  -- layers behind an empty one are empty
  pub layered-rest : {image first image' total : List ℕ} {n used : ℕ} →
      Layered rule mask image first n image' [] total used →
      (m : ℕ) → Layered rule mask image first (n + m) image' [] total used
  unfolding flat_map
  layered-rest {n = n} l zero = rw (add-zero n) l
  layered-rest {image' = image'} {total} {n} {used} l (suc m) =
      rw (add-suc n m) (rw (append-nil total, add-zero used) at
      (layer (layered-rest l m) (changed-none rule mask image')))

  -- an empty stretch stays empty, however many layers follow
  pub grown-rest : {image queue image' queue' : List ℕ} {from to n : ℕ} {layers : Growth} →
      Grown rule mask image queue from to n image' queue' layers → layers.from ≡ layers.to →
      (m : ℕ) → Grown rule mask image queue from to (n + m) image' queue' layers
  grown-rest {queue' = queue'} {layers = layers} g e m =
      record {
        last = [];
        total = g.total;
        size = g.size;
        kept = g.kept;
        few = omega (arith, g.few);
        stretch = g.stretch;
        layered = layered-rest (rw (sym g.stands ∙ empty) at g.layered) m;
        extended = g.extended;
        stands = empty;
      }
    where
      empty : slice layers.from layers.to queue' ≡ []
      empty = rw e (slice_empty layers.to queue')

-- so many layers are grown, none of them empty, and another may follow
abbrev pub Reached : Rule → List ℕ → List ℕ → List ℕ → ℕ → ℕ → List ℕ → List ℕ → Growth → Type 0
Reached rule mask image queue from to image' queue' layers =
    Grown rule mask image queue from to layers.used image' queue' layers

module _ (rule : Rule) (mask : List ℕ) where
  -- no layer yet
  pub reached-start : {image queue : List ℕ} {from to : ℕ} → Stretch rule mask image queue from to →
      Reached rule mask image queue from to image queue (record { from = from; to = to; used = 0 })
  reached-start {image} {queue} {from} {to} ready =
      record {
        last = slice from to queue;
        total = [];
        size = refl;
        kept = refl;
        few = zero-le;
        stretch = ready;
        layered = start;
        extended = extended_none queue to;
        stands = refl;
      }

  module _ {image queue image' queue' image'' queue'' : List ℕ} {from to end : ℕ} {layers : Growth}
      (r : Reached rule mask image queue from to image' queue' layers)
      (v : Visited rule mask image' queue' layers.to
      (around rule layers.from layers.to queue') image'' queue'' end) where
    -- the image keeps its size with the layer that follows
    pub size-next : length image'' ≡ length image
    size-next = v.changed.size ∙ r.size

    -- and the queue its length
    pub kept_next : length queue'' ≡ length queue
    kept_next = v.extended.size ∙ r.kept

    -- the layers with the one that follows, by how many are not empty then
    grown-layer : (used : ℕ) → layers.used + bit (ltb 0 (length v.added)) ≡ used →
        Grown rule mask image queue from to (suc layers.used) image'' queue''
        (record { from = layers.to; to = end; used = used })
    grown-layer used e =
        record {
          last = v.added;
          total = r.total ++ v.added;
          size = size-next;
          kept = kept_next;
          few = omega (arith, e, bit_le (ltb 0 (length v.added)));
          stretch = stretch-visited rule mask r.stretch v;
          layered = rw e at (layer r.layered (rw r.stands at v.changed));
          extended = extended-append r.extended v.extended;
          stands = slice-extended v.extended (end-visited rule mask v r.stretch.room);
        }

    -- that one is not empty
    pub reached-next : (end ≡ layers.to → ⊥) →
        Reached rule mask image queue from to image'' queue''
        (record { from = layers.to; to = end; used = layers.used + 1 })
    reached-next some =
        rw (add-one layers.used)
        (grown-layer (suc layers.used)
        (ap (λ (t : Bool). layers.used + bit t) (lt-ltb 0 (length v.added) (omega (arith, v.extended.counted)))
        ∙ add-one layers.used))

    -- it is empty, and so are all that could follow
    pub grown-last : end ≡ layers.to → (n : ℕ) → layers.used < n →
        Grown rule mask image queue from to n image'' queue'' (record { from = end; to = end; used = layers.used })
    grown-last none n l =
        let used-same : layers.used + bit (ltb 0 (length v.added)) ≡ layers.used =
        omega (arith, ap bit (le-ltb 0 (length v.added) (omega (arith, v.extended.counted)))) in
        let count : suc layers.used + (n - suc layers.used) ≡ n = omega arith in
        rw (← none, count) at (grown-rest rule mask (grown-layer layers.used used-same) (sym none)
        (n - suc layers.used))
