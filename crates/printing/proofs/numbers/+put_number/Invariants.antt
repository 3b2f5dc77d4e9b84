-- `put_number` meets its promise. A number under ten is one digit; any other is written as its tenth, with the last digit behind. The measure
-- is the number. Assumes nothing.
use Rattle.printing.proofs.numbers.+put_number.Given as goal

abbrev pub decreases-put_number : goal.decreases-put_number
decreases-put_number l = l.n
