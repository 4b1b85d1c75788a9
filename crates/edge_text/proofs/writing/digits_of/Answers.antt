-- `edge_text::writing::digits_of` meets its contract.
use Rattle.edge_text.proofs.Puts.{one_digit, two_digits, three_digits, four_digits, five_digits, six_digits, seven_digits}
use Rattle.edge_text.proofs.writing.digits_of.Goals as goal

pub returns-then-v-lt10 : goal.returns-then-v-lt10
returns-then-v-lt10 c = one_digit _ c.if-v-lt10.true

pub returns-then-v-lt100 : goal.returns-then-v-lt100
returns-then-v-lt100 c = two_digits _ c.if-v-lt10.false c.if-v-lt100.true

pub returns-then-v-lt1000 : goal.returns-then-v-lt1000
returns-then-v-lt1000 c = three_digits _ c.if-v-lt100.false c.if-v-lt1000.true

pub returns-then-v-lt10000 : goal.returns-then-v-lt10000
returns-then-v-lt10000 c = four_digits _ c.if-v-lt1000.false c.if-v-lt10000.true

pub returns-then-v-lt100000 : goal.returns-then-v-lt100000
returns-then-v-lt100000 c = five_digits _ c.if-v-lt10000.false c.if-v-lt100000.true

pub returns-then-v-lt1000000 : goal.returns-then-v-lt1000000
returns-then-v-lt1000000 c = six_digits _ c.if-v-lt100000.false c.if-v-lt1000000.true

pub returns : goal.returns
returns c = seven_digits _ c.if-v-lt1000000.false c.requires
