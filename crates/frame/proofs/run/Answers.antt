-- `frame::run` meets its contract: its own arrays have room for every panel, and are made of 0.
use borrow.Author.Rules.{rules}
use Rattle.frame.specs.Run.{made}
use Rattle.frame.proofs.run.Goals as goal

pub run_in-requires-clause-blank : goal.run_in-requires-clause-blank
run_in-requires-clause-blank c = record {
  bwd_long = search rules;
  labels_long = search rules;
  counts_long = search rules;
  sizes_long = search rules;
  labels_zero = made 256;
  counts_zero = made 257;
  sizes_zero = made 4;
}
