-- `put_refusal` meets its contract: the line has the refusal's number as its one field. Assumes nothing.
use Rattle.lists.specs.Text.{ascii}
use Rattle.model.specs.Listing.{refusal_listing}
use Rattle.listing.proofs.inner.put_refusal.Goals as goal

pub returns : goal.returns
unfolding refusal_listing ascii
returns c = rw (← c.from.ensures, ← c.from-2.ensures) c.put_line.ensures
