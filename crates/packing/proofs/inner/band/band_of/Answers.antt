-- `band_of` meets its contract: no object pixel lies before the first position found or from the last one on, and the
-- rows between them are a band. Assumes nothing.
use Rattle.packing.proofs.BandLaws.{image-le, band-is}
use Rattle.packing.proofs.inner.band.band_of.Goals as goal

pub trailing_background-last-requires : goal.trailing_background-last-requires
trailing_background-last-requires
    c = record { image_len_bound = image-le c.requires; from_in_bounds = c.leading_background-first.ensures.within }

pub returns : goal.returns
returns c =
    let before = c.leading_background-first.ensures.clear in
    let ordered = c.trailing_background-last.ensures.ordered in
    let within = c.trailing_background-last.ensures.within in let behind = c.trailing_background-last.ensures.clear in
    band-is c.requires _ _ _ _ ordered within before behind c.saturating_sub.ensures c.min.ensures

pub leading_background-first-requires : goal.leading_background-first-requires
leading_background-first-requires c = image-le c.requires
