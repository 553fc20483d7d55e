-- `grow_rows` meets its contract: no row, one more, and all. Assumes nothing.
use Prim.Native.Nat.{◌+◌, ◌-◌, ◌<◌}
use mathlib.Core.Path.{◌≡◌, refl, ◌∙◌}
use native.Mathlib.Omega.{arith}
use lib.ListN.{get_or-replicate}
use Rattle.neighbours.specs.Words.{max_row_words, full_word}
use Rattle.propagation.proofs.GrownLaws.{rows_none, rows-skip, rows_more, rows_all}
use Rattle.propagation.proofs.GrownLaws.{saved-none, saved-kept, saved-more}
use Rattle.propagation.proofs.inner.grow_rows.Goals as goal

pub loop-end-init : goal.loop-end-init
loop-end-init c =
    record {
      inside = omega arith;
      room = refl;
      next_len = c.requires.next_len;
      last = c.last_row-end.ensures;
      rows = rows_none _ _ _ _ _ _ _ _;
      saved = saved-none _ _ _ _
          (λ k l. get_or-replicate max_row_words k full_word 0 (omega (arith, c.requires.growable.small.narrow, l)));
    }

pub loop-end-preserved : goal.loop-end-preserved
loop-end-preserved c =
    let inv = c.loop-end.invariant in
    let y = c.loop-end.end - 1 in
    let is_end : c.loop-end.end ≡ y + 1 = omega (arith, c.loop-end-test.true) in
    let inside : y < c.args.frame.rows = omega (arith, inv.inside, inv.last.before, c.loop-end-test.true) in
    let done = rows-skip inv.rows c.loop-end.end inv.last.before inv.last.none in
    let saved = saved-kept inv.rows c.loop-end.end inv.last.before inv.inside inv.saved c.keep_row.ensures.last_row
    c.keep_row.ensures.row_above in
    let row = c.grow_row-changed.ensures in
    record {
      inside = omega (arith, inside);
      room = row.kept.size ∙ c.keep_row.auto.below ∙ inv.room;
      next_len = c.add_round.ensures.size ∙ inv.next_len;
      last = c.last_row-end-in-loop-end.ensures;
      rows = rows_more y is_end done saved row.grown inside (inv.last.among (omega (arith, is_end))) row.moved
          c.add_round.ensures;
      saved = saved-more y is_end done saved row.grown row.kept inside;
    }

pub returns : goal.returns
returns c =
    let inv = c.loop-end.invariant in
    let all = rows_all
    (rows-skip inv.rows 0 (omega arith) (λ z l h. inv.last.none z (omega (arith, c.loop-end-test.false)) h)) in
    record { grown = all.0; moved = all.1.0; noted = all.1.1 }
