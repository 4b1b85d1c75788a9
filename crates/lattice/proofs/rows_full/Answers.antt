-- `rows_full` meets its contract: after r turns the flag tells of the rows before r.
use native.Mathlib.Omega.{arith}
use borrow.Author.Rules.{rules}
use Rattle.lemmas.specs.Tells.{flag_more, flag_end}
use Rattle.lattice.specs.Marking.{full_marks, marks_tell}
use Rattle.lattice.proofs.rows_full.Goals as goal

pub loop-r-preserved : goal.loop-r-preserved
loop-r-preserved c = flag_more c.loop-r.invariant (search rules)
    (rw (full_marks 32 c.args.m (omega (arith, c.requires.rows_of.size))) (marks_tell c.row_marks.ensures))

pub returns : goal.returns
returns c = flag_end c.loop-r.invariant c.loop-r-test.false
