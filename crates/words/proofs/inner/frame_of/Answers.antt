-- `frame_of` meets its contract. Assumes nothing.
use mathlib.Core.Path.{refl}
use Rattle.lists.proofs.BoolLaws.{bit_le}
use Rattle.words.proofs.FramedLaws.{mask-last}
use Rattle.words.proofs.inner.frame_of.Goals as goal

pub returns : goal.returns
returns c =
    record {
      valid = c.requires.valid_size;
      linking = c.requires.connectivity_value;
      turns = bit_le c.args.turn;
      columns = c.row_words.ensures;
      rows = refl;
      is_four = c.all_bits.ensures;
      is_eight = c.all_bits-2.ensures;
      is_flip = c.all_bits-3.ensures;
      is_top = c.beyond_side.ensures;
      is_bottom = c.beyond_side-2.ensures;
      is_left = c.beyond_side-3.ensures;
      is_right = c.beyond_side-right.ensures;
      is_mask = mask-last _ _ _ _ c.requires.valid_size.wide c.unused_mask-unused.ensures
          c.beyond_side-right.ensures;
    }

pub unused_mask-unused-requires : goal.unused_mask-unused-requires
unused_mask-unused-requires
    c = record { le_width = c.requires.valid_size.wide; width_le_max_side = c.requires.valid_size.narrow }

pub row_words-requires : goal.row_words-requires
row_words-requires c = c.requires.valid_size.narrow
