-- The measure of `depth_within`, which calls itself, is the component's number.
use Rattle.nesting.proofs.inner.+depth_within.Given as goal

abbrev pub decreases-depth_within : goal.decreases-depth_within
decreases-depth_within l = l.p
