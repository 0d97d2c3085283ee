-- Euclid's recursion takes the two ways of the rules' `gcd`. The measure is the second number: the remainder falls.
use Rattle.density.proofs.multiple.+gcd.Given as goal

abbrev pub decreases-gcd : goal.decreases-gcd
decreases-gcd l = l.b
