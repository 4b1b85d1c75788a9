-- `edge_text::writing::put_number` meets its contract: the digits before the last are those of a tenth.
use Rattle.std.proofs.Common.{◌<◌, length, arith}
use Rattle.edge_text.proofs.Puts.{some_digits, longer, put_digit, put_more}
use Rattle.edge_text.proofs.writing.+put_number.Goals as goal

pub bounds-out-at : goal.bounds-out-at
bounds-out-at t c = omega (arith, some_digits c.args.v)

pub returns-then-v-lt10 : goal.returns-then-v-lt10
returns-then-v-lt10 t c = put_digit c.args.out.now c.args.at c.args.v c.if-v-lt10.true

pub put_number-e-requires : goal.put_number-e-requires
put_number-e-requires t c = (omega arith, record { fits = omega (arith, longer c.args.v c.if-v-lt10.false) })

pub bounds-out-e : goal.bounds-out-e
bounds-out-e t c = omega (arith, longer c.args.v c.if-v-lt10.false)

pub overflow_add-result-2 : goal.overflow_add-result-2
overflow_add-result-2 t c =
    let behind : c.put_number-e.result < length c.args.out.now = omega (arith, longer c.args.v c.if-v-lt10.false) in
    record { fits = omega arith }

pub returns : goal.returns
returns t c = put_more _ _ c.args.at c.args.v _ c.if-v-lt10.false c.put_number-e.ensures
